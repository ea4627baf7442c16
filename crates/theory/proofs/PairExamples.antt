-- The classes of a group of order six with a right pair, and with a left pair.
use Rattle.std.proofs.Common.{◌≡◌, ℕ, zero, suc, ◌<◌, ◌≤◌, [], ◌∷◌, ◌++◌, length, refl, sym, subst, arith, inl, inr, Some, Contains, All, reverse}
use Rattle.std.proofs.lemmas.List.Elements.{All-cons, All-nil}
use Rattle.theory.specs.Word.{Word, IsOver}
use Rattle.theory.specs.ShortLex.{◌≺◌}
use Rattle.theory.specs.Congruence.{Congruence, as_right}
use Rattle.theory.specs.Chain.{Related}
use Rattle.theory.specs.Class.{SameClass, IsLeast, IsClassList, HasIndex}
use Rattle.theory.specs.Graph.{target, path}
use Rattle.theory.specs.LowIndex.{Rows, graph_of, IsCompatible}
use Rattle.theory.specs.Examples.{a1, a2, b1, ab, ba, dihedral, right_pair, left_pair}
use Rattle.theory.proofs.Words.{before_no_longer}
use Rattle.theory.proofs.Counting.{IsIn, in_from_contains}
use Rattle.theory.proofs.Chains.{related_congruence, related_by_relation}
use Rattle.theory.proofs.Related.{related_behind, related_by_pair}
use Rattle.theory.proofs.KindLaws.{as_right_related, over_turned}
use Rattle.theory.proofs.ClassLaws.{same_class_equivalence, list_from_least}
use Rattle.theory.proofs.ReducedRules.{greater_full}
use Rattle.theory.proofs.TableLaws.{table_related}
use Rattle.theory.proofs.TableClasses.{leads_to, two_letters}

-- a property of each number below three
pub below_three : (P : ℕ → Type 0) → P 0 → P 1 → P 2 → (n : ℕ) → n < 3 → P n
below_three P x y z zero h = x
below_three P x y z (suc zero) h = y
below_three P x y z (suc (suc zero)) h = z
below_three P x y z (suc (suc (suc n))) h = absurd (omega arith)

-- where a and b lead from 1, b and ba
abbrev rows : Rows
rows = (0 ∷ 1 ∷ []) ∷ (2 ∷ 2 ∷ []) ∷ (1 ∷ 0 ∷ []) ∷ []

abbrev word : ℕ → Word
word zero = []
word (suc zero) = b1
word (suc (suc n)) = ba

nodes : All (λ m. m < 3) (0 ∷ 1 ∷ 2 ∷ 2 ∷ 1 ∷ 0 ∷ [])
nodes =
    All-cons (λ m. m < 3) 0 (1 ∷ 2 ∷ 2 ∷ 1 ∷ 0 ∷ []) (omega arith)
    (All-cons (λ m. m < 3) 1 (2 ∷ 2 ∷ 1 ∷ 0 ∷ []) (omega arith)
    (All-cons (λ m. m < 3) 2 (2 ∷ 1 ∷ 0 ∷ []) (omega arith)
    (All-cons (λ m. m < 3) 2 (1 ∷ 0 ∷ []) (omega arith)
    (All-cons (λ m. m < 3) 1 (0 ∷ []) (omega arith)
    (All-cons (λ m. m < 3) 0 [] (omega arith) (All-nil (λ m. m < 3)))))))

-- both words lead from each node to one node
abbrev Agrees : Word × Word → Type 0
Agrees p = (node : ℕ) → node < 3 → path (graph_of rows) node p.0 ≡ path (graph_of rows) node p.1

agrees : (r s : Word) → path (graph_of rows) 0 r ≡ path (graph_of rows) 0 s → path (graph_of rows) 1 r ≡ path (graph_of rows) 1 s
    → path (graph_of rows) 2 r ≡ path (graph_of rows) 2 s → Agrees (r, s)
agrees r s = below_three (λ n. path (graph_of rows) n r ≡ path (graph_of rows) n s)

right_compatible : IsCompatible dihedral rows
right_compatible node r s l m = go (in_from_contains (r, s) dihedral.relations m) node l
  where
    go : IsIn (r, s) dihedral.relations → Agrees (r, s)
    go (inl e) = subst Agrees (sym e) (agrees a2 [] refl refl refl)
    go (inr (inl e)) = subst Agrees (sym e) (agrees (1 ∷ 1 ∷ 1 ∷ []) [] refl refl refl)
    go (inr (inr (inl e))) = subst Agrees (sym e) (agrees (0 ∷ 1 ∷ 0 ∷ 1 ∷ []) [] refl refl refl)
    go (inr (inr (inr h))) = absurd h

-- a pair leads from the root to one node
pair_agrees : (r s : Word) → Contains right_pair.pairs (r, s) → path (graph_of rows) 0 r ≡ path (graph_of rows) 0 s
pair_agrees r s m = elim (in_from_contains (r, s) right_pair.pairs m) [
  | inl e ↦ subst (λ (p : Word × Word). path (graph_of rows) 0 p.0 ≡ path (graph_of rows) 0 p.1) (sym e) refl
  | inr n ↦ absurd n
]

right_same : (u v : Word) → Related right_pair u v → path (graph_of rows) 0 u ≡ path (graph_of rows) 0 v
right_same = table_related right_pair refl rows (omega arith) nodes right_compatible pair_agrees

-- bab is related to 1: first aa before it, then abab is 1, then a is 1
right_bab : Related right_pair (1 ∷ 0 ∷ 1 ∷ []) []
right_bab =
    let known = related_congruence right_pair in
    known.transitive (1 ∷ 0 ∷ 1 ∷ []) (0 ∷ 0 ∷ 1 ∷ 0 ∷ 1 ∷ []) []
    (related_by_relation right_pair [] [] a2 (1 ∷ 0 ∷ 1 ∷ []) (inr (0, omega arith, refl)))
    (known.transitive (0 ∷ 0 ∷ 1 ∷ 0 ∷ 1 ∷ []) a1 []
    (related_by_relation right_pair a1 (0 ∷ 1 ∷ 0 ∷ 1 ∷ []) [] [] (inl (2, omega arith, refl)))
    (related_by_pair right_pair a1 [] (inl (0, omega arith, refl))))

-- bb is related to babbb, and that to ba
bb_from : (c : Congruence) → Related c (1 ∷ 1 ∷ []) (1 ∷ 0 ∷ 1 ∷ 1 ∷ 1 ∷ []) → Related c (1 ∷ 0 ∷ 1 ∷ 1 ∷ 1 ∷ []) ba
    → Related c (1 ∷ 1 ∷ []) ba
bb_from c = (related_congruence c).transitive (1 ∷ 1 ∷ []) (1 ∷ 0 ∷ 1 ∷ 1 ∷ 1 ∷ []) ba

right_bb : Related right_pair (1 ∷ 1 ∷ []) ba
right_bb =
    bb_from right_pair
    (related_behind right_pair (inl refl) [] (1 ∷ 0 ∷ 1 ∷ []) (1 ∷ 1 ∷ []) ((related_congruence right_pair).symmetric (1 ∷ 0 ∷ 1 ∷ []) [] right_bab))
    (related_by_relation right_pair ba (1 ∷ 1 ∷ 1 ∷ []) [] [] (inl (1, omega arith, refl)))

-- each edge leads to a related word
abbrev Edges : Congruence → Type 0
Edges c =
    (node a : ℕ) → node < 3 → a < 2 → (next : ℕ) × (next < 3) × (target (graph_of rows) node a ≡ Some next) × Related c (word node ++ a ∷ []) (word next)

edges : (c : Congruence) → Related c a1 [] → Related c (1 ∷ 1 ∷ []) ba → Related c (1 ∷ 0 ∷ 0 ∷ []) b1 → Related c (1 ∷ 0 ∷ 1 ∷ []) []
    → Edges c
edges c one bb baa bab zero zero l m = (0, omega arith, refl, one)
edges c one bb baa bab zero (suc zero) l m = (1, omega arith, refl, (related_congruence c).reflexive b1)
edges c one bb baa bab (suc zero) zero l m = (2, omega arith, refl, (related_congruence c).reflexive ba)
edges c one bb baa bab (suc zero) (suc zero) l m = (2, omega arith, refl, bb)
edges c one bb baa bab (suc (suc zero)) zero l m = (1, omega arith, refl, baa)
edges c one bb baa bab (suc (suc zero)) (suc zero) l m = (0, omega arith, refl, bab)
edges c one bb baa bab node (suc (suc a)) l m = absurd (omega arith)
edges c one bb baa bab (suc (suc (suc n))) a l m = absurd (omega arith)

right_edges : Edges right_pair
right_edges =
    edges right_pair (related_by_pair right_pair a1 [] (inl (0, omega arith, refl))) right_bb
    (related_by_relation right_pair b1 a2 [] [] (inl (0, omega arith, refl))) right_bab

right_element : (u : Word) → IsOver 2 u → SameClass right_pair u u
right_element u over = record { left = over; right = over; related = (related_congruence right_pair).reflexive u }

-- no lesser word leads where b leads, and none where ba leads
below_b : (v : Word) → IsOver 2 v → length v ≤ 2 → path (graph_of rows) 0 b1 ≡ path (graph_of rows) 0 v → v ≺ b1 → ⊥
below_b =
    two_letters (λ v. path (graph_of rows) 0 b1 ≡ path (graph_of rows) 0 v → v ≺ b1 → ⊥) (λ e l. cc) (λ e l. cc) (λ e l. cc) (λ e l. cc) (λ e l. cc)
    (λ e l. cc) (λ e l. cc)

below_ba : (v : Word) → IsOver 2 v → length v ≤ 2 → path (graph_of rows) 0 ba ≡ path (graph_of rows) 0 v → v ≺ ba → ⊥
below_ba =
    two_letters (λ v. path (graph_of rows) 0 ba ≡ path (graph_of rows) 0 v → v ≺ ba → ⊥) (λ e l. cc) (λ e l. cc) (λ e l. cc) (λ e l. cc) (λ e l. cc)
    (λ e l. cc) (λ e l. cc)

over_b : IsOver 2 b1
over_b = (omega arith, tt)

over_ba : IsOver 2 ba
over_ba = (omega arith, (omega arith, tt))

right_least : (w : Word) → IsIn w ([] ∷ b1 ∷ ba ∷ []) → IsLeast (SameClass right_pair) w
right_least w (inl e) = subst (λ w. IsLeast (SameClass right_pair) w) (sym e) (record {
  element = right_element [] tt;
  none_less = λ v r less. greater_full [] v less refl;
})
right_least w (inr (inl e)) = subst (λ w. IsLeast (SameClass right_pair) w) (sym e) (record {
  element = right_element b1 over_b;
  none_less = λ v r less. below_b v r.right (omega (arith, before_no_longer v b1 less)) (right_same b1 v r.related) less;
})
right_least w (inr (inr (inl e))) = subst (λ w. IsLeast (SameClass right_pair) w) (sym e) (record {
  element = right_element ba over_ba;
  none_less = λ v r less. below_ba v r.right (before_no_longer v ba less) (right_same ba v r.related) less;
})
right_least w (inr (inr (inr h))) = absurd h

-- with the right pair the classes are those of 1, b and ba
pub right_classes : IsClassList (SameClass right_pair) ([] ∷ b1 ∷ ba ∷ [])
right_classes =
    list_from_least (SameClass right_pair) (same_class_equivalence right_pair) ([] ∷ b1 ∷ ba ∷ []) (tt, (refl, (refl, tt))) right_least covers
  where
    covers : (u : Word) → SameClass right_pair u u → (w : Word) × IsIn w ([] ∷ b1 ∷ ba ∷ []) × SameClass right_pair u w
    covers u h =
        let at = leads_to right_pair (inl refl) (graph_of rows) 3 word right_edges (omega arith) refl u h.left in
        below_three (λ m. Related right_pair u (word m) → (w : Word) × IsIn w ([] ∷ b1 ∷ ba ∷ []) × SameClass right_pair u w)
        (λ r. ([], inl refl, record { left = h.left; right = tt; related = r }))
        (λ r. (b1, inr (inl refl), record { left = h.left; right = over_b; related = r }))
        (λ r. (ba, inr (inr (inl refl)), record { left = h.left; right = over_ba; related = r }))
        at.0 at.1 at.3

pub right_index : HasIndex (SameClass right_pair) 3
right_index = ([] ∷ b1 ∷ ba ∷ [], right_classes, refl)

-- The left pair, by the right congruence of the reversed presentation.
left_compatible : IsCompatible (as_right left_pair).presentation rows
left_compatible node r s l m = go (in_from_contains (r, s) (as_right left_pair).presentation.relations m) node l
  where
    go : IsIn (r, s) (as_right left_pair).presentation.relations → Agrees (r, s)
    go (inl e) = subst Agrees (sym e) (agrees a2 [] refl refl refl)
    go (inr (inl e)) = subst Agrees (sym e) (agrees (1 ∷ 1 ∷ 1 ∷ []) [] refl refl refl)
    go (inr (inr (inl e))) = subst Agrees (sym e) (agrees (1 ∷ 0 ∷ 1 ∷ 0 ∷ []) [] refl refl refl)
    go (inr (inr (inr h))) = absurd h

-- related words, read backwards, lead to one node
left_same : (u v : Word) → Related left_pair u v → path (graph_of rows) 0 (reverse u) ≡ path (graph_of rows) 0 (reverse v)
left_same u v r =
    table_related (as_right left_pair) refl rows (omega arith) nodes left_compatible pair_agrees (reverse u) (reverse v)
    ((as_right_related left_pair u v).0 r)

-- bab is related to 1 backwards too: first aa behind it, then baba is 1, then a is 1
left_bab : Related (as_right left_pair) (1 ∷ 0 ∷ 1 ∷ []) []
left_bab =
    let c : Congruence = as_right left_pair in
    let known = related_congruence c in
    known.transitive (1 ∷ 0 ∷ 1 ∷ []) (1 ∷ 0 ∷ 1 ∷ 0 ∷ 0 ∷ []) []
    (related_by_relation c (1 ∷ 0 ∷ 1 ∷ []) [] a2 [] (inr (0, omega arith, refl)))
    (known.transitive (1 ∷ 0 ∷ 1 ∷ 0 ∷ 0 ∷ []) a1 []
    (related_by_relation c [] (1 ∷ 0 ∷ 1 ∷ 0 ∷ []) [] a1 (inl (2, omega arith, refl)))
    (related_by_pair c a1 [] (inl (0, omega arith, refl))))

left_bb : Related (as_right left_pair) (1 ∷ 1 ∷ []) ba
left_bb =
    let c : Congruence = as_right left_pair in
    bb_from c
    (related_behind c (inl refl) [] (1 ∷ 0 ∷ 1 ∷ []) (1 ∷ 1 ∷ []) ((related_congruence c).symmetric (1 ∷ 0 ∷ 1 ∷ []) [] left_bab))
    (related_by_relation c ba (1 ∷ 1 ∷ 1 ∷ []) [] [] (inl (1, omega arith, refl)))

left_edges : Edges (as_right left_pair)
left_edges =
    edges (as_right left_pair) (related_by_pair (as_right left_pair) a1 [] (inl (0, omega arith, refl))) left_bb
    (related_by_relation (as_right left_pair) b1 a2 [] [] (inl (0, omega arith, refl))) left_bab

left_element : (u : Word) → IsOver 2 u → SameClass left_pair u u
left_element u over = record { left = over; right = over; related = (related_congruence left_pair).reflexive u }

left_below_b : (v : Word) → IsOver 2 v → length v ≤ 2 → path (graph_of rows) 0 (reverse b1) ≡ path (graph_of rows) 0 (reverse v) → v ≺ b1
    → ⊥
left_below_b =
    two_letters (λ v. path (graph_of rows) 0 (reverse b1) ≡ path (graph_of rows) 0 (reverse v) → v ≺ b1 → ⊥) (λ e l. cc) (λ e l. cc) (λ e l. cc)
    (λ e l. cc) (λ e l. cc) (λ e l. cc) (λ e l. cc)

left_below_ab : (v : Word) → IsOver 2 v → length v ≤ 2 → path (graph_of rows) 0 (reverse ab) ≡ path (graph_of rows) 0 (reverse v) → v ≺ ab
    → ⊥
left_below_ab =
    two_letters (λ v. path (graph_of rows) 0 (reverse ab) ≡ path (graph_of rows) 0 (reverse v) → v ≺ ab → ⊥) (λ e l. cc) (λ e l. cc) (λ e l. cc)
    (λ e l. cc) (λ e l. cc) (λ e l. cc) (λ e l. cc)

over_ab : IsOver 2 ab
over_ab = (omega arith, (omega arith, tt))

left_least : (w : Word) → IsIn w ([] ∷ b1 ∷ ab ∷ []) → IsLeast (SameClass left_pair) w
left_least w (inl e) = subst (λ w. IsLeast (SameClass left_pair) w) (sym e) (record {
  element = left_element [] tt;
  none_less = λ v r less. greater_full [] v less refl;
})
left_least w (inr (inl e)) = subst (λ w. IsLeast (SameClass left_pair) w) (sym e) (record {
  element = left_element b1 over_b;
  none_less = λ v r less. left_below_b v r.right (omega (arith, before_no_longer v b1 less)) (left_same b1 v r.related) less;
})
left_least w (inr (inr (inl e))) = subst (λ w. IsLeast (SameClass left_pair) w) (sym e) (record {
  element = left_element ab over_ab;
  none_less = λ v r less. left_below_ab v r.right (before_no_longer v ab less) (left_same ab v r.related) less;
})
left_least w (inr (inr (inr h))) = absurd h

-- with the left pair the classes are those of 1, b and ab
pub left_classes : IsClassList (SameClass left_pair) ([] ∷ b1 ∷ ab ∷ [])
left_classes = list_from_least (SameClass left_pair) (same_class_equivalence left_pair) ([] ∷ b1 ∷ ab ∷ []) (tt, (refl, (refl, tt))) left_least covers
  where
    covers : (u : Word) → SameClass left_pair u u → (w : Word) × IsIn w ([] ∷ b1 ∷ ab ∷ []) × SameClass left_pair u w
    covers u h =
        let at = leads_to (as_right left_pair) (inl refl) (graph_of rows) 3 word left_edges (omega arith) refl (reverse u) (over_turned 2 u h.left) in
        below_three (λ m. Related (as_right left_pair) (reverse u) (word m) → (w : Word) × IsIn w ([] ∷ b1 ∷ ab ∷ []) × SameClass left_pair u w)
        (λ r. ([], inl refl, record { left = h.left; right = tt; related = (as_right_related left_pair u []).1 r }))
        (λ r. (b1, inr (inl refl), record { left = h.left; right = over_b; related = (as_right_related left_pair u b1).1 r }))
        (λ r. (ab, inr (inr (inl refl)), record { left = h.left; right = over_ab; related = (as_right_related left_pair u ab).1 r }))
        at.0 at.1 at.3

pub left_index : HasIndex (SameClass left_pair) 3
left_index = ([] ∷ b1 ∷ ab ∷ [], left_classes, refl)
