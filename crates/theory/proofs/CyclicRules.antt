-- Completion and the table of the monoid with one generator of order three.
use Rattle.std.proofs.Common.{◌≡◌, ℕ, zero, suc, ◌<◌, ◌≤◌, [], ◌∷◌, ◌++◌, length, refl, sym, ◌∙◌, ap, subst, arith, inl, inr, Some, append-nil, length-append}
use Rattle.theory.specs.Word.{Word, IsOver}
use Rattle.theory.specs.Graph.{path, target}
use Rattle.theory.specs.LowIndex.{Rows, graph_of, IsLowIndex}
use Rattle.theory.specs.Completion.{Rule, Joinable, OverlapsJoin, CompletionEnds}
use Rattle.theory.specs.Examples.{a3, order_three}
use Rattle.theory.proofs.Words.{over_left, over_right}
use Rattle.theory.proofs.CyclicExample.{one_relation, one_letter_shorter, one_letter_exact}
use Rattle.theory.proofs.CompletionLaws.{within_left, within_related}
use Rattle.theory.proofs.Completeness.{joinable_refl}
use Rattle.theory.proofs.TableLaws.{low_index_related}
use Rattle.std.proofs.lemmas.List.Elements.{All-cons, All-nil, All-head}

-- the table of three nodes in a ring
abbrev pub ring_rows : Rows
ring_rows = (1 ∷ []) ∷ (2 ∷ []) ∷ (0 ∷ []) ∷ []

pub ring_is_low_index : IsLowIndex order_three 3 ring_rows
ring_is_low_index =
    record {
      standard = record {
        rooted = omega arith;
        width =
            All-cons (λ row. length row ≡ 1) (1 ∷ []) ((2 ∷ []) ∷ (0 ∷ []) ∷ []) refl
            (All-cons (λ row. length row ≡ 1) (2 ∷ []) ((0 ∷ []) ∷ []) refl (All-cons (λ row. length row ≡ 1) (0 ∷ []) [] refl (All-nil (λ row. length row ≡ 1))));
        nodes =
            All-cons (λ n. n < 3) 1 (2 ∷ 0 ∷ []) (omega arith)
            (All-cons (λ n. n < 3) 2 (0 ∷ []) (omega arith) (All-cons (λ n. n < 3) 0 [] (omega arith) (All-nil (λ n. n < 3))));
        numbered = (omega arith, (omega arith, (omega arith, tt)));
        appears = appears;
      };
      compatible = λ node r s h m. elim (one_relation r s (inl m)) [
        | inl e ↦ ap (path (graph_of ring_rows) node) e.0 ∙ turn node h ∙ sym (ap (path (graph_of ring_rows) node) e.1)
        | inr e ↦ ap (path (graph_of ring_rows) node) e.0 ∙ sym (turn node h) ∙ sym (ap (path (graph_of ring_rows) node) e.1)
      ];
      size = omega arith;
    }
  where
    appears : (node : ℕ) → 0 < node → node < 3
        → (before letter : ℕ) × (before < node) × (target (graph_of ring_rows) before letter ≡ Some node)
    appears zero h k = absurd (omega arith)
    appears (suc zero) h k = (0, 0, omega arith, refl)
    appears (suc (suc zero)) h k = (1, 0, omega arith, refl)
    appears (suc (suc (suc n))) h k = absurd (omega arith)

    turn : (node : ℕ) → node < 3 → path (graph_of ring_rows) node a3 ≡ path (graph_of ring_rows) node []
    turn zero h = refl
    turn (suc zero) h = refl
    turn (suc (suc zero)) h = refl
    turn (suc (suc (suc n))) h = absurd (omega arith)

-- of the words of at most three letters only aaa leads where a shorter one leads, which is 1
only_rule : (u v : Word) → IsOver 1 u → IsOver 1 v → length u ≤ 3 → length v < length u
    → path (graph_of ring_rows) 0 u ≡ path (graph_of ring_rows) 0 v → (u ≡ a3) × (v ≡ [])
only_rule [] v p q h k e = absurd (omega arith)
only_rule (suc a ∷ u) v p q h k e = absurd (omega (arith, p.0))
only_rule (zero ∷ []) [] p q h k e = cc
only_rule (zero ∷ []) (b ∷ v) p q h k e = absurd (omega arith)
only_rule (zero ∷ suc a ∷ u) v p q h k e = absurd (omega (arith, p.1.0))
only_rule (zero ∷ zero ∷ []) [] p q h k e = cc
only_rule (zero ∷ zero ∷ []) (zero ∷ []) p q h k e = cc
only_rule (zero ∷ zero ∷ []) (suc b ∷ v) p q h k e = absurd (omega (arith, q.0))
only_rule (zero ∷ zero ∷ []) (zero ∷ d ∷ v) p q h k e = absurd (omega arith)
only_rule (zero ∷ zero ∷ suc a ∷ u) v p q h k e = absurd (omega (arith, p.1.1.0))
only_rule (zero ∷ zero ∷ zero ∷ []) [] p q h k e = (refl, refl)
only_rule (zero ∷ zero ∷ zero ∷ []) (suc b ∷ v) p q h k e = absurd (omega (arith, q.0))
only_rule (zero ∷ zero ∷ zero ∷ []) (zero ∷ []) p q h k e = cc
only_rule (zero ∷ zero ∷ zero ∷ []) (zero ∷ suc d ∷ v) p q h k e = absurd (omega (arith, q.1.0))
only_rule (zero ∷ zero ∷ zero ∷ []) (zero ∷ zero ∷ []) p q h k e = cc
only_rule (zero ∷ zero ∷ zero ∷ []) (zero ∷ zero ∷ d ∷ v) p q h k e = absurd (omega arith)
only_rule (zero ∷ zero ∷ zero ∷ a ∷ u) v p q h k e = absurd (omega arith)

-- the one rule
pub rule_is : (u v : Word) → Rule order_three 3 u v → (u ≡ a3) × (v ≡ [])
rule_is u v r =
    let fits = within_left order_three 3 r.normal.related in
    only_rule u v fits.0.over fits.1.over fits.0.short (one_letter_shorter v u fits.1.over fits.0.over r.falls)
    (low_index_related order_three 3 ring_rows ring_is_low_index u v (within_related order_three 3 r.normal.related))

-- completion ends at length three
pub completion_ends_at_three : CompletionEnds order_three 3
completion_ends_at_three =
    record {
      fits =
          All-cons (λ (r : Word × Word). (length r.0 ≤ 3) × (length r.1 ≤ 3)) (a3, []) [] (omega arith, omega arith)
          (All-nil (λ (r : Word × Word). (length r.0 ≤ 3) × (length r.1 ≤ 3)));
      join = join;
    }
  where
    over_3 : IsOver 1 a3
    over_3 = (omega arith, (omega arith, (omega arith, tt)))

    join : OverlapsJoin (Rule order_three 3)
    join a b c v w full r s =
        let first = rule_is (a ++ b) v r in
        let second = rule_is (b ++ c) w s in
        let same : c ≡ a = one_letter_exact c a
        (over_right 1 b c (subst (λ x. IsOver 1 x) (sym second.0) over_3))
        (over_left 1 a b (subst (λ x. IsOver 1 x) (sym first.0) over_3))
        (omega (arith, ap length first.0, ap length second.0, length-append a b, length-append b c)) in
        let left : v ++ c ≡ c = ap (λ x. x ++ c) first.1 in
        let right : a ++ w ≡ a = ap (λ x. a ++ x) second.1 ∙ append-nil a in
        subst (λ x. Joinable (Rule order_three 3) (v ++ c) x) (left ∙ same ∙ sym right) (joinable_refl (Rule order_three 3) (v ++ c))

-- and not at two, where the relation does not fit
pub completion_needs_three : CompletionEnds order_three 2 → ⊥
completion_needs_three ends = let h = All-head (λ (r : Word × Word). (length r.0 ≤ 2) × (length r.1 ≤ 2)) (a3, []) [] ends.fits in omega (arith, h.0)
