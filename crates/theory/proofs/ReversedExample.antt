-- The least words of a left congruence are not those of the reversed right congruence read backwards.
use Rattle.std.proofs.Common.{◌≡◌, ℕ, zero, suc, ◌<◌, ◌≤◌, [], ◌∷◌, ◌++◌, length, refl, sym, subst, arith, inl, inr, Some, Contains, All, reverse}
use Rattle.std.proofs.lemmas.List.Elements.{All-cons, All-nil}
use Rattle.theory.specs.Word.{Word, IsOver}
use Rattle.theory.specs.ShortLex.{◌≺◌}
use Rattle.theory.specs.Congruence.{Congruence, as_right, as_right_word}
use Rattle.theory.specs.Chain.{Related}
use Rattle.theory.specs.Class.{SameClass, IsLeast, IsNormal, IsClassList}
use Rattle.theory.specs.Graph.{target, path}
use Rattle.theory.specs.LowIndex.{Rows, graph_of, IsCompatible}
use Rattle.theory.specs.Examples.{a1, a2, b1, ab, ba, left_four}
use Rattle.theory.proofs.Words.{before_no_longer}
use Rattle.theory.proofs.Counting.{IsIn, in_from_contains}
use Rattle.theory.proofs.Chains.{related_congruence, related_by_relation}
use Rattle.theory.proofs.KindLaws.{as_right_related, over_turned}
use Rattle.theory.proofs.ClassLaws.{same_class_equivalence, list_from_least}
use Rattle.theory.proofs.ReducedRules.{greater_full}
use Rattle.theory.proofs.TableLaws.{table_related}
use Rattle.theory.proofs.TableClasses.{leads_to, two_letters}

abbrev there : Congruence
there = as_right left_four

-- a property of each number below four
pub below_four : (P : ℕ → Type 0) → P 0 → P 1 → P 2 → P 3 → (n : ℕ) → n < 4 → P n
below_four P w x y z zero h = w
below_four P w x y z (suc zero) h = x
below_four P w x y z (suc (suc zero)) h = y
below_four P w x y z (suc (suc (suc zero))) h = z
below_four P w x y z (suc (suc (suc (suc n)))) h = absurd (omega arith)

-- where a and b lead from 1, a, b and ba
abbrev rows : Rows
rows = (1 ∷ 2 ∷ []) ∷ (0 ∷ 3 ∷ []) ∷ (3 ∷ 0 ∷ []) ∷ (2 ∷ 1 ∷ []) ∷ []

abbrev word : ℕ → Word
word zero = []
word (suc zero) = a1
word (suc (suc zero)) = b1
word (suc (suc (suc n))) = ba

nodes : All (λ m. m < 4) (1 ∷ 2 ∷ 0 ∷ 3 ∷ 3 ∷ 0 ∷ 2 ∷ 1 ∷ [])
nodes =
    All-cons (λ m. m < 4) 1 (2 ∷ 0 ∷ 3 ∷ 3 ∷ 0 ∷ 2 ∷ 1 ∷ []) (omega arith)
    (All-cons (λ m. m < 4) 2 (0 ∷ 3 ∷ 3 ∷ 0 ∷ 2 ∷ 1 ∷ []) (omega arith)
    (All-cons (λ m. m < 4) 0 (3 ∷ 3 ∷ 0 ∷ 2 ∷ 1 ∷ []) (omega arith)
    (All-cons (λ m. m < 4) 3 (3 ∷ 0 ∷ 2 ∷ 1 ∷ []) (omega arith)
    (All-cons (λ m. m < 4) 3 (0 ∷ 2 ∷ 1 ∷ []) (omega arith)
    (All-cons (λ m. m < 4) 0 (2 ∷ 1 ∷ []) (omega arith)
    (All-cons (λ m. m < 4) 2 (1 ∷ []) (omega arith)
    (All-cons (λ m. m < 4) 1 [] (omega arith) (All-nil (λ m. m < 4)))))))))

-- both words lead from each node to one node
abbrev Agrees : Word × Word → Type 0
Agrees p = (node : ℕ) → node < 4 → path (graph_of rows) node p.0 ≡ path (graph_of rows) node p.1

compatible : IsCompatible there.presentation rows
compatible node r s l m = go (in_from_contains (r, s) there.presentation.relations m) node l
  where
    go : IsIn (r, s) there.presentation.relations → Agrees (r, s)
    go (inl e) = subst Agrees (sym e) (below_four (λ n. path (graph_of rows) n a2 ≡ path (graph_of rows) n []) refl refl refl refl)
    go (inr (inl e)) = subst Agrees (sym e) (below_four (λ n. path (graph_of rows) n (1 ∷ 1 ∷ []) ≡ path (graph_of rows) n []) refl refl refl refl)
    go (inr (inr (inl e))) = subst Agrees (sym e) (below_four (λ n. path (graph_of rows) n ba ≡ path (graph_of rows) n ab) refl refl refl refl)
    go (inr (inr (inr h))) = absurd h

pairs : (r s : Word) → Contains there.pairs (r, s) → path (graph_of rows) 0 r ≡ path (graph_of rows) 0 s
pairs r s m = elim (in_from_contains (r, s) there.pairs m) [
  | inl e ↦ subst (λ (p : Word × Word). path (graph_of rows) 0 p.0 ≡ path (graph_of rows) 0 p.1) (sym e) refl
  | inr n ↦ absurd n
]

-- related words lead to one node there, and here when they are read backwards
same_there : (u v : Word) → Related there u v → path (graph_of rows) 0 u ≡ path (graph_of rows) 0 v
same_there = table_related there refl rows (omega arith) nodes compatible pairs

same_here : (u v : Word) → Related left_four u v → path (graph_of rows) 0 (reverse u) ≡ path (graph_of rows) 0 (reverse v)
same_here u v r = same_there (reverse u) (reverse v) ((as_right_related left_four u v).0 r)

-- each edge leads to a related word
edges : (node a : ℕ) → node < 4 → a < 2
    → (next : ℕ) × (next < 4) × (target (graph_of rows) node a ≡ Some next) × Related there (word node ++ a ∷ []) (word next)
edges zero zero l m = (1, omega arith, refl, (related_congruence there).reflexive a1)
edges zero (suc zero) l m = (2, omega arith, refl, (related_congruence there).reflexive b1)
edges (suc zero) zero l m = (0, omega arith, refl, related_by_relation there [] a2 [] [] (inl (0, omega arith, refl)))
edges (suc zero) (suc zero) l m = (3, omega arith, refl, related_by_relation there [] ab ba [] (inr (2, omega arith, refl)))
edges (suc (suc zero)) zero l m = (3, omega arith, refl, (related_congruence there).reflexive ba)
edges (suc (suc zero)) (suc zero) l m = (0, omega arith, refl, related_by_relation there [] (1 ∷ 1 ∷ []) [] [] (inl (1, omega arith, refl)))
edges (suc (suc (suc zero))) zero l m = (2, omega arith, refl, related_by_relation there b1 a2 [] [] (inl (0, omega arith, refl)))
edges (suc (suc (suc zero))) (suc zero) l m = (
  1,
  omega arith,
  refl,
  (related_congruence there).transitive (1 ∷ 0 ∷ 1 ∷ []) (0 ∷ 1 ∷ 1 ∷ []) a1
      (related_by_relation there [] ba ab b1 (inl (2, omega arith, refl)))
      (related_by_relation there a1 (1 ∷ 1 ∷ []) [] [] (inl (1, omega arith, refl))),
)
edges node (suc (suc a)) l m = absurd (omega arith)
edges (suc (suc (suc (suc n)))) a l m = absurd (omega arith)

over_a : IsOver 2 a1
over_a = (omega arith, tt)

over_b : IsOver 2 b1
over_b = (omega arith, tt)

over_ab : IsOver 2 ab
over_ab = (omega arith, (omega arith, tt))

over_ba : IsOver 2 ba
over_ba = (omega arith, (omega arith, tt))

element : (u : Word) → IsOver 2 u → SameClass left_four u u
element u over = record { left = over; right = over; related = (related_congruence left_four).reflexive u }

-- no lesser word is related to a, to b, and to ab
below_a : (v : Word) → IsOver 2 v → length v ≤ 2 → path (graph_of rows) 0 (reverse a1) ≡ path (graph_of rows) 0 (reverse v) → v ≺ a1 → ⊥
below_a =
    two_letters (λ v. path (graph_of rows) 0 (reverse a1) ≡ path (graph_of rows) 0 (reverse v) → v ≺ a1 → ⊥) (λ e l. cc) (λ e l. cc) (λ e l. cc)
    (λ e l. cc) (λ e l. cc) (λ e l. cc) (λ e l. cc)

below_b : (v : Word) → IsOver 2 v → length v ≤ 2 → path (graph_of rows) 0 (reverse b1) ≡ path (graph_of rows) 0 (reverse v) → v ≺ b1 → ⊥
below_b =
    two_letters (λ v. path (graph_of rows) 0 (reverse b1) ≡ path (graph_of rows) 0 (reverse v) → v ≺ b1 → ⊥) (λ e l. cc) (λ e l. cc) (λ e l. cc)
    (λ e l. cc) (λ e l. cc) (λ e l. cc) (λ e l. cc)

below_ab : (v : Word) → IsOver 2 v → length v ≤ 2 → path (graph_of rows) 0 (reverse ab) ≡ path (graph_of rows) 0 (reverse v) → v ≺ ab → ⊥
below_ab =
    two_letters (λ v. path (graph_of rows) 0 (reverse ab) ≡ path (graph_of rows) 0 (reverse v) → v ≺ ab → ⊥) (λ e l. cc) (λ e l. cc) (λ e l. cc)
    (λ e l. cc) (λ e l. cc) (λ e l. cc) (λ e l. cc)

least : (w : Word) → IsIn w ([] ∷ a1 ∷ b1 ∷ ab ∷ []) → IsLeast (SameClass left_four) w
least w (inl e) = subst (λ w. IsLeast (SameClass left_four) w) (sym e) (record {
  element = element [] tt;
  none_less = λ v r less. greater_full [] v less refl;
})
least w (inr (inl e)) = subst (λ w. IsLeast (SameClass left_four) w) (sym e) (record {
  element = element a1 over_a;
  none_less = λ v r less. below_a v r.right (omega (arith, before_no_longer v a1 less)) (same_here a1 v r.related) less;
})
least w (inr (inr (inl e))) = subst (λ w. IsLeast (SameClass left_four) w) (sym e) (record {
  element = element b1 over_b;
  none_less = λ v r less. below_b v r.right (omega (arith, before_no_longer v b1 less)) (same_here b1 v r.related) less;
})
least w (inr (inr (inr (inl e)))) = subst (λ w. IsLeast (SameClass left_four) w) (sym e) (record {
  element = element ab over_ab;
  none_less = λ v r less. below_ab v r.right (before_no_longer v ab less) (same_here ab v r.related) less;
})
least w (inr (inr (inr (inr h)))) = absurd h

-- the classes are those of 1, a, b and ab
pub four_classes : IsClassList (SameClass left_four) ([] ∷ a1 ∷ b1 ∷ ab ∷ [])
four_classes =
    list_from_least (SameClass left_four) (same_class_equivalence left_four) ([] ∷ a1 ∷ b1 ∷ ab ∷ []) (tt, (refl, (refl, (refl, tt)))) least covers
  where
    covers : (u : Word) → SameClass left_four u u → (w : Word) × IsIn w ([] ∷ a1 ∷ b1 ∷ ab ∷ []) × SameClass left_four u w
    covers u h =
        let at = leads_to there (inl refl) (graph_of rows) 4 word edges (omega arith) refl (reverse u) (over_turned 2 u h.left) in
        below_four (λ m. Related there (reverse u) (word m) → (w : Word) × IsIn w ([] ∷ a1 ∷ b1 ∷ ab ∷ []) × SameClass left_four u w)
        (λ r. ([], inl refl, record { left = h.left; right = tt; related = (as_right_related left_four u []).1 r }))
        (λ r. (a1, inr (inl refl), record { left = h.left; right = over_a; related = (as_right_related left_four u a1).1 r }))
        (λ r. (b1, inr (inr (inl refl)), record { left = h.left; right = over_b; related = (as_right_related left_four u b1).1 r }))
        (λ r. (ab, inr (inr (inr (inl refl))), record { left = h.left; right = over_ab; related = (as_right_related left_four u ab).1 r }))
        at.0 at.1 at.3

-- no lesser word leads there where ab leads
there_below_ab : (v : Word) → IsOver 2 v → length v ≤ 2 → path (graph_of rows) 0 ab ≡ path (graph_of rows) 0 v → v ≺ ab → ⊥
there_below_ab =
    two_letters (λ v. path (graph_of rows) 0 ab ≡ path (graph_of rows) 0 v → v ≺ ab → ⊥) (λ e l. cc) (λ e l. cc) (λ e l. cc) (λ e l. cc) (λ e l. cc)
    (λ e l. cc) (λ e l. cc)

-- there the least word of what stands for ab is ab itself
pub normal_there : IsNormal (SameClass (as_right left_four)) (as_right_word left_four ab) ab
normal_there = record {
  related = record { left = over_ba; right = over_ab; related = related_by_relation there [] ba ab [] (inl (2, omega arith, refl)) };
  least = record {
    element = record { left = over_ab; right = over_ab; related = (related_congruence there).reflexive ab };
    none_less = λ v r less. there_below_ab v r.right (before_no_longer v ab less) (same_there ab v r.related) less;
  };
}

-- but backwards it is ba, which is not least here
pub ba_not_least : IsLeast (SameClass left_four) ba → ⊥
ba_not_least h =
    h.none_less ab (record { left = over_ba; right = over_ab; related = related_by_relation left_four [] ba ab [] (inr (2, omega arith, refl)) }) refl
