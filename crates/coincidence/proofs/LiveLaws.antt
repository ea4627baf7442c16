-- Identifying keeps live graphs.
use Rattle.std.proofs.Common.{◌≡◌, ◌≢◌, ℕ, zero, suc, ◌+◌, ◌*◌, ◌<◌, ◌≤◌, List, [], ◌∷◌, ◌++◌, refl, sym, ◌∙◌, ap, arith, ◌⊎◌, inl, inr, Option, Some, None, length, subst, get_or, Bool, true, false, cond, ◌&&◌, nat_eq, slice_index, length-set}
use Rattle.std.proofs.lemmas.Bool.{cases_eq}
use Rattle.std.proofs.Math.Nat.{mul-le-mul_left}
use Rattle.std.proofs.lemmas.List.Elements.{All-head, All-tail}
use Rattle.std.proofs.Common.{All, set}
use Rattle.word_graph.specs.Edges.{with_edge}
use Rattle.cells.proofs.EntryLaws.{target_is}
use Rattle.theory.specs.Word.{Word}
use Rattle.theory.specs.Graph.{Graph, target, path}
use Rattle.theory.proofs.GraphLaws.{path_front, path_letter}
use Rattle.theory.proofs.FactsLaws.{last_letter}
use Rattle.coincidence.specs.Merging.{IsReached, EdgesReached, IsFolded}
use Rattle.coincidence.specs.Folding.{IsMerging}
use Rattle.coincidence.specs.Live.{IsOn, IsLiveGraph, count_on, IsIdentified}
use Rattle.word_graph.proofs.WalkLaws.{some_same}
use Rattle.coincidence.proofs.FollowsLaws.{path_more}
use Rattle.coincidence.proofs.MergeLaws.{folded_path, folded_relates}

pub and_cases : (a b : Bool) → (a && b) ≡ true → (a ≡ true) × (b ≡ true)
and_cases true b h = (refl, h)
and_cases false b h = cc

pub eq_true : (n m : ℕ) → nat_eq n m ≡ true → n ≡ m
eq_true n m h = grind (arith, h)

true_eq : (n m : ℕ) → n ≡ m → nat_eq n m ≡ true
true_eq n m h = grind (arith, h)

-- fewer are on where one is off
count_no_more : (is was : List Bool) → length is ≡ length was → ((n : ℕ) → IsOn is n → IsOn was n) → count_on is ≤ count_on was
count_no_more [] was e h = omega arith
count_no_more (b ∷ bs) [] e h = absurd (omega arith)
count_no_more (false ∷ bs) (c ∷ cs) e h = omega (arith, count_no_more bs cs (omega arith) (λ n on. h (suc n) on))
count_no_more (true ∷ bs) (c ∷ cs) e h =
    let on : c ≡ true = h 0 refl in
    let one : ◌≡◌ {A = ℕ} (cond c 1 0) 1 = rw on refl in
    omega (arith, one, count_no_more bs cs (omega arith) (λ n on. h (suc n) on))

pub count_fewer : (is was : List Bool) (d : ℕ) → length is ≡ length was → ((n : ℕ) → IsOn is n → IsOn was n) → IsOn was d → (IsOn is d → ⊥) → count_on is < count_on was
count_fewer [] [] d e h on off = absurd (off on)
count_fewer [] (c ∷ cs) d e h on off = absurd (omega arith)
count_fewer (b ∷ bs) [] d e h on off = absurd (omega arith)
count_fewer (true ∷ bs) (c ∷ cs) zero e h on off = absurd (off refl)
count_fewer (false ∷ bs) (c ∷ cs) zero e h on off =
    let one : ◌≡◌ {A = ℕ} (cond c 1 0) 1 = rw on refl in
    omega (arith, one, count_no_more bs cs (omega arith) (λ n on. h (suc n) on))
count_fewer (false ∷ bs) (c ∷ cs) (suc d) e h on off = omega (arith, count_fewer bs cs d (omega arith) (λ n on. h (suc n) on) on off)
count_fewer (true ∷ bs) (c ∷ cs) (suc d) e h on off =
    let here : c ≡ true = h 0 refl in
    let one : ◌≡◌ {A = ℕ} (cond c 1 0) 1 = rw here refl in
    omega (arith, one, count_fewer bs cs d (omega arith) (λ n on. h (suc n) on) on off)

-- a node of the graph of the classes is the class of a node that is reached
new_reached : (old : Graph) (class : List ℕ) (new : Graph) → EdgesReached old → IsFolded old class new → slice_index class 0 ≡ 0 → (w : Word) (c : ℕ) → path new 0 w ≡ Some c → (m : ℕ) × IsReached old m × (slice_index class m ≡ c)
new_reached old class new edges f root w c e = go (last_letter w)
  where
    go : (w ≡ []) ⊎ ((v : Word) × (a : ℕ) × (w ≡ v ++ a ∷ [])) → (m : ℕ) × IsReached old m × (slice_index class m ≡ c)
    go (inl h) = (0, ([], refl), root ∙ some_same 0 c (sym (ap (λ z. path new 0 z) h) ∙ e))
    go (inr h) =
        let p = path_front new 0 c (h.0) (h.1 ∷ []) (sym (ap (λ z. path new 0 z) h.2) ∙ e) in
        let b = f.back p.0 (h.1) c (sym (path_letter new p.0 (h.1)) ∙ p.2) in
        let r = edges b.0 (h.1) b.1 b.3 in
        (b.1, (r.0 ++ h.1 ∷ [], path_more old 0 b.0 r.0 (h.1) r.1 ∙ b.3), b.4)

pub identified : (old new : Graph) (was is : List Bool) (class : List ℕ) (x y : ℕ) → IsLiveGraph old was → IsOn was x → IsOn was y → IsMerging old x y new class → length is ≡ length was → ((n : ℕ) → get_or is n false ≡ (get_or was n false && nat_eq (slice_index class n) n)) → IsIdentified old new was is x y
identified old new was is class x y lives hx hy m len kept =
    record {
      live = record { shape = len ∙ lives.shape ∙ sym m.nodes; reached = reached; lives = on; edges = edges };
      relates = folded_relates old class new x y m.folded lives.edges m.classing.sound root m.one;
      nodes = m.nodes;
      fewer = fewer;
    }
  where
    root : slice_index class 0 ≡ 0
    root = omega (arith, m.classing.below 0)

    -- what is kept is live and its own class
    split : (n : ℕ) → IsOn is n → IsOn was n × (slice_index class n ≡ n)
    split n h = let both = and_cases (get_or was n false) (nat_eq (slice_index class n) n) (sym (kept n) ∙ h) in (both.0, eq_true (slice_index class n) n both.1)

    join : (n : ℕ) → IsOn was n → slice_index class n ≡ n → IsOn is n
    join n h e = kept n ∙ rw (h, true_eq (slice_index class n) n e) refl

    again : (n : ℕ) → IsReached old n → slice_index class n ≡ n → IsReached new n
    again n r e = (r.0, subst (λ z. path new z r.0 ≡ Some n) root (folded_path old class new m.folded 0 n r.0 r.1 ∙ ap (λ z. Some z) e))

    reached : (n : ℕ) → IsOn is n → IsReached new n
    reached n h = let s = split n h in again n (lives.reached n s.0) s.1

    on : (n : ℕ) → IsReached new n → IsOn is n
    on n r =
        let o = new_reached old class new lives.edges m.folded root r.0 n r.1 in
        let here : IsReached old n = subst (λ z. IsReached old z) o.2 (m.classing.reach o.0 o.1) in
        let own : slice_index class n ≡ n = subst (λ z. slice_index class z ≡ z) o.2 (m.classing.idem o.0) in
        join n (lives.lives n here) own

    edges : EdgesReached new
    edges n a t e =
        let b = m.folded.back n a t e in
        let r = m.classing.reach b.0 (lives.edges b.0 a b.1 b.3) in
        again n (subst (λ z. IsReached old z) b.2 r) (subst (λ z. slice_index class z ≡ z) b.2 (m.classing.idem b.0))

    off : (n : ℕ) → slice_index class n ≢ n → IsOn is n → ⊥
    off n d h = d (split n h).1

    fewer : x ≢ y → count_on is < count_on was
    fewer d = go (cases_eq (slice_index class x) x)
      where
        go : (slice_index class x ≡ x) ⊎ (slice_index class x ≢ x) → count_on is < count_on was
        go (inr e) = count_fewer is was x len (λ n h. (split n h).0) hx (off x e)
        go (inl e) = count_fewer is was y len (λ n h. (split n h).0) hy (off y (λ e'. d (sym e ∙ m.one ∙ e')))

-- how many edges are missing
abbrev pub row_gaps : List (Option ℕ) → ℕ
row_gaps [] = 0
row_gaps (None ∷ row) = 1 + row_gaps row
row_gaps (Some m ∷ row) = row_gaps row

abbrev pub gaps : Graph → ℕ
gaps [] = 0
gaps (row ∷ g) = row_gaps row + gaps g

row_gaps_le : (row : List (Option ℕ)) → row_gaps row ≤ length row
row_gaps_le [] = omega arith
row_gaps_le (None ∷ row) = omega (arith, row_gaps_le row)
row_gaps_le (Some m ∷ row) = omega (arith, row_gaps_le row)

gaps_le : (k : ℕ) (g : Graph) → All (λ row. length row ≡ k) g → gaps g ≤ length g * k
gaps_le k [] w = omega arith
gaps_le k (row ∷ g) w =
    let here : length row ≡ k = All-head (λ r. length r ≡ k) row g w in
    omega (arith, here, row_gaps_le row, gaps_le k g (All-tail (λ r. length r ≡ k) row g w))

row_edge : (row : List (Option ℕ)) (a m : ℕ) → a < length row → get_or row a None ≡ None → row_gaps (set row a (Some m)) + 1 ≡ row_gaps row
row_edge [] a m h e = absurd (omega arith)
row_edge (None ∷ row) zero m h e = omega arith
row_edge (Some t ∷ row) zero m h e = cc
row_edge (None ∷ row) (suc a) m h e = omega (arith, row_edge row a m (omega arith) e)
row_edge (Some t ∷ row) (suc a) m h e = omega (arith, row_edge row a m (omega arith) e)

gaps_set : (g : Graph) (j : ℕ) (row : List (Option ℕ)) → j < length g → row_gaps row + 1 ≡ row_gaps (get_or g j []) → gaps (set g j row) + 1 ≡ gaps g
gaps_set [] j row h e = absurd (omega arith)
gaps_set (r ∷ g) zero row h e = omega (arith, e)
gaps_set (r ∷ g) (suc j) row h e = omega (arith, gaps_set g j row (omega arith) e)

-- an edge fills a gap
pub gaps_edge : (g : Graph) (j a m : ℕ) → j < length g → a < length (get_or g j []) → target g j a ≡ None → gaps (with_edge g j a m) + 1 ≡ gaps g
gaps_edge g j a m hj ha e = gaps_set g j (set (get_or g j []) a (Some m)) hj (row_edge (get_or g j []) a m ha (sym (target_is g j a) ∙ e))

-- what is left to do: nodes to lose, and then gaps to fill
abbrev pub left_in : ℕ → Graph → List Bool → ℕ
left_in k g live = (length g * k + 1) * count_on live + gaps g

pub left_join : (k : ℕ) (old new : Graph) (was is : List Bool) → length new ≡ length old → All (λ row. length row ≡ k) new → count_on is < count_on was → left_in k new is < left_in k old was
left_join k old new was is e w h =
    let more = mul-le-mul_left (length old * k + 1) (let up : count_on is + 1 ≤ count_on was = omega arith in up) in
    let bound : gaps new ≤ length old * k = subst (λ z. gaps new ≤ z * k) e (gaps_le k new w) in
    rw e (omega (arith, more, bound))

pub left_edge : (k : ℕ) (old : Graph) (live : List Bool) (j a m : ℕ) → j < length old → a < length (get_or old j []) → target old j a ≡ None → left_in k (with_edge old j a m) live < left_in k old live
left_edge k old live j a m hj ha e =
    rw (length-set old j (set (get_or old j []) a (Some m))) (omega (arith, gaps_edge old j a m hj ha e))
