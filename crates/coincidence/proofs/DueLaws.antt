-- Reading relations at nodes.
use Rattle.std.proofs.Common.{◌≡◌, ℕ, ◌+◌, ◌-◌, ◌<◌, ◌≤◌, List, [], ◌∷◌, ◌++◌, refl, sym, ◌∙◌, ap, arith, ◌⊎◌, inl, inr, Option, Some, length, subst, get_or, slice_get, take, Bool}
use Rattle.std.proofs.lemmas.Bool.{cases_lt}
use Rattle.std.proofs.lemmas.List.{take_more, take_all, same_from_push, get_or_read}
use Rattle.std.proofs.lemmas.Option.{slice_get_within, get_or_from_slice_get}
use Rattle.theory.specs.Word.{Word}
use Rattle.theory.specs.Congruence.{Congruence, EitherWay}
use Rattle.theory.specs.Graph.{Graph, target, path, IsClosedAt}
use Rattle.coincidence.specs.Closing.{by_relation, by_pair}
use Rattle.coincidence.specs.Live.{IsOn, IsLiveGraph}
use Rattle.coincidence.specs.DueSpec.{ReadsTo, IsDueFrom, IsDueAt, IsDueAnywhere, IsDueIn}
use Rattle.coincidence.specs.declared.due.Due.{Due}
use Rattle.coincidence.specs.declared.due.Due.TheVariants.{Nothing, Edge, Join}
use Rattle.word_graph.proofs.WalkLaws.{some_same}

-- a word, cut before its last letter
pub split_last : (w : Word) (n a : ℕ) → length w ≡ n → (n ≡ 0 → ⊥) → slice_get w (n - 1) ≡ Some a → w ≡ take (n - 1) w ++ a ∷ []
split_last w n a len full e =
    let within : n - 1 < length w = slice_get_within w (n - 1) a e in
    let is : get_or w (n - 1) 0 ≡ a = get_or_from_slice_get w (n - 1) a 0 e in
    let more : take ((n - 1) + 1) w ≡ take (n - 1) w ++ get_or w (n - 1) 0 ∷ [] = take_more w (n - 1) 0 within in
    let all : take ((n - 1) + 1) w ≡ w = take_all ((n - 1) + 1) w (omega (arith, len, within)) in
    sym all ∙ more ∙ ap (λ b. take (n - 1) w ++ b ∷ []) is

pub from_nothing : (g : Graph) (node n last end at t : ℕ) (r s : Word) → s ≡ take n s ++ last ∷ [] → path g node r ≡ Some end → path g node (take n s) ≡ Some at → target g at last ≡ Some t → t ≡ end → (j a m : ℕ) → ReadsTo g node r s j a m → target g j a ≡ Some m
from_nothing g node n last end at t r s cut hr hs e same j a m k =
    let both = same_from_push (k.0) (take n s) a last (sym k.1 ∙ cut) in
    let m_is : m ≡ end = some_same m end (sym k.2 ∙ hr) in
    let j_is : j ≡ at = some_same j at (sym k.3 ∙ ap (λ w. path g node w) both.0 ∙ hs) in
    let e' : target g at last ≡ Some m = e ∙ ap (λ z. Some z) (same ∙ sym m_is) in
    rw (j_is, both.1) e'

pub reads : (g : Graph) (node n last end at l : ℕ) (r s : Word) → s ≡ take n s ++ last ∷ [] → path g node r ≡ Some end → path g node (take n s) ≡ Some at → l ≡ last → ReadsTo g node r s at l end
reads g node n last end at l r s cut hr hs e = (take n s, cut ∙ ap (λ b. take n s ++ b ∷ []) (sym e), hr, hs)

-- both ways of the first pairs ask for nothing
abbrev pub IsQuiet : Graph → ℕ → List (Word × Word) → ℕ → Type 0
IsQuiet g node pairs i = (k : ℕ) (d : Word × Word) → k < i → IsDueFrom g node (get_or pairs k d).0 (get_or pairs k d).1 Nothing × IsDueFrom g node (get_or pairs k d).1 (get_or pairs k d).0 Nothing

pub quiet_more : (g : Graph) (node : ℕ) (pairs : List (Word × Word)) (i : ℕ) (p : Word × Word) → i < length pairs → p ≡ get_or pairs i p → IsDueFrom g node p.0 p.1 Nothing → IsDueFrom g node p.1 p.0 Nothing → IsQuiet g node pairs i → IsQuiet g node pairs (i + 1)
quiet_more g node pairs i p less e one two q = λ k d h. go k d (cases_lt k i) h
  where
    go : (k : ℕ) (d : Word × Word) → (k < i) ⊎ (i ≤ k) → k < i + 1 → IsDueFrom g node (get_or pairs k d).0 (get_or pairs k d).1 Nothing × IsDueFrom g node (get_or pairs k d).1 (get_or pairs k d).0 Nothing
    go k d (inl l) h = q k d l
    go k d (inr l) h =
        let k_is : i ≡ k = omega (arith, l, h) in
        let is : p ≡ get_or pairs i d = get_or_read pairs i p less e d in
        subst (λ z. IsDueFrom g node (get_or pairs z d).0 (get_or pairs z d).1 Nothing × IsDueFrom g node (get_or pairs z d).1 (get_or pairs z d).0 Nothing) k_is
        (subst (λ z. IsDueFrom g node z.0 z.1 Nothing × IsDueFrom g node z.1 z.0 Nothing) is (one, two))

pub quiet_closed : (g : Graph) (node : ℕ) (pairs : List (Word × Word)) → IsQuiet g node pairs (length pairs) → IsClosedAt pairs g node
quiet_closed g node pairs q r s a m j (inl h) hr hs =
    let both = q h.0 (r, s ++ a ∷ []) h.1 in
    let one : IsDueFrom g node r (s ++ a ∷ []) Nothing = subst (λ z. IsDueFrom g node z.0 z.1 Nothing) h.2 both.0 in
    one j a m (s, refl, hr, hs)
quiet_closed g node pairs q r s a m j (inr h) hr hs =
    let both = q h.0 (s ++ a ∷ [], r) h.1 in
    let one : IsDueFrom g node r (s ++ a ∷ []) Nothing = subst (λ z. IsDueFrom g node z.1 z.0 Nothing) h.2 both.1 in
    one j a m (s, refl, hr, hs)

-- a pair of the list
pub pair_contained : (pairs : List (Word × Word)) (i : ℕ) (p : Word × Word) → i < length pairs → p ≡ get_or pairs i p → EitherWay pairs p.0 p.1 × EitherWay pairs p.1 p.0
pair_contained pairs i p less e = (inl (i, less, sym e), inr (i, less, sym e))

-- what is asked at the root
pub at_root : (c : Congruence) (g : Graph) (live : List Bool) (at : Option ℕ) (d : Due) → (d ≡ Nothing → ⊥) → IsDueAt g 0 c.pairs d → IsDueIn c g live at d
at_root c g live at Nothing not h = absurd (not refl)
at_root c g live at (Edge j a m) not h = (by_pair h.0, h.1)
at_root c g live at (Join j a t m) not h = (by_pair h.0, h.1, h.2)

-- what is asked at a live node
pub at_node : (pairs : List (Word × Word)) (g : Graph) (live : List Bool) (node : ℕ) (d : Due) → IsOn live node → (d ≡ Nothing → ⊥) → IsDueAt g node pairs d → IsDueAnywhere pairs g live d
at_node pairs g live node Nothing on not h = absurd (not refl)
at_node pairs g live node (Edge j a m) on not h = (node, on, h.0, h.1)
at_node pairs g live node (Join j a t m) on not h = (node, on, h.0, h.1, h.2)

-- what is asked at a live node, where nothing is asked at the root
pub due_here : (c : Congruence) (g : Graph) (live : List Bool) (node : ℕ) (d : Due) → IsLiveGraph g live → IsOn live node → IsClosedAt c.pairs g 0 → IsDueAt g node c.presentation.relations d → IsDueIn c g live (Some node) d
due_here c g live node Nothing is on root h = (λ n same _. subst (IsClosedAt c.presentation.relations g) (sym same) h, root)
due_here c g live node (Edge j a m) is on root h = let r = is.reached node on in (by_relation node r.0 refl r.1 h.0, h.1)
due_here c g live node (Join j a t m) is on root h = let r = is.reached node on in (by_relation node r.0 refl r.1 h.0, h.1, h.2)
