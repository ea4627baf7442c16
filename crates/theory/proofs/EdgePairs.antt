-- A table is the congruence that its edges generate.
use Rattle.std.proofs.Common.{ℕ, List, [], ◌++◌, refl, sym, subst, subst₂, inl, inr, ◌↔◌, Contains, append-nil}
use Rattle.theory.specs.Word.{Word, IsOver}
use Rattle.theory.specs.Congruence.{Congruence, EitherWay}
use Rattle.theory.specs.Chain.{MayStand, Step, StepBy, Related}
use Rattle.theory.specs.Class.{Among}
use Rattle.theory.specs.Graph.{Graph, SameEnd, IsCompleteTable}
use Rattle.theory.specs.Lattice.{IsRightCongruence, AreEdgePairs, free_with}
use Rattle.theory.specs.TwoSidedTable.{IsTwoSidedTable, IsKeptInFront}
use Rattle.theory.specs.declared.Kind.{Kind}
use Rattle.theory.specs.declared.Kind.TheVariants.{TwoSided, Right}
use Rattle.theory.proofs.Words.{over_append, over_left, over_right}
use Rattle.theory.proofs.Chains.{related_congruence, joined_least}
use Rattle.theory.proofs.Related.{none_either, related_by_pair}
use Rattle.theory.proofs.LatticeLaws.{table_congruence, pairs_relate}
use Rattle.theory.proofs.TwoSidedLaws.{two_sided_kept}

module _ (k : ℕ) (g : Graph) (word : ℕ → Word) (pairs : List (Word × Word)) (is : IsCompleteTable k g) (edges : AreEdgePairs k g word pairs) where
  either_end : (r s : Word) → EitherWay pairs r s → SameEnd g r s
  either_end r s h = elim h [ inl m ↦ edges.related r s m | inr m ↦ (table_congruence k g is).symmetric s r (edges.related s r m) ]

  -- the edges generate the path equality, of a kind that is kept on the right
  module _ (kind : Kind) (stands : (y : Word) → MayStand kind [] y) where
    generates : (u v : Word) → SameEnd g u v → Related (free_with k kind pairs) u v
    generates u v h = (pairs_relate k g word pairs (Among (IsOver k) (Related (free_with k kind pairs))) is edges known one u v h).related
      where
        c : Congruence
        c = free_with k kind pairs

        known : IsRightCongruence k (Among (IsOver k) (Related (free_with k kind pairs)))
        known = record {
          over = λ u v h. (h.left, h.right);
          reflexive = λ u over. record { left = over; right = over; related = (related_congruence (free_with k kind pairs)).reflexive u };
          symmetric = λ u v h. record { left = h.right; right = h.left; related = (related_congruence (free_with k kind pairs)).symmetric u v h.related };
          transitive = λ u v w h j. record {
            left = h.left;
            right = j.right;
            related = (related_congruence (free_with k kind pairs)).transitive u v w h.related j.related;
          };
          kept = λ u v y over h. record {
            left = over_append k u y h.left over;
            right = over_append k v y h.right over;
            related = (related_congruence (free_with k kind pairs)).kept [] y (stands y) u v h.related;
          };
        }

        one : (u v : Word) → Contains pairs (u, v) → Among (IsOver k) (Related (free_with k kind pairs)) u v
        one u v m =
            let over = (table_congruence k g is).over u v (edges.related u v m) in
            record { left = over.0; right = over.1; related = related_by_pair (free_with k kind pairs) u v (inl m) }

    -- and no more, where the path equality is kept where pairs may stand
    within : ((x y u v : Word) → MayStand kind x y → IsOver k x → IsOver k y → SameEnd g u v → SameEnd g (x ++ (u ++ y)) (x ++ (v ++ y)))
        → (u v : Word) → Related (free_with k kind pairs) u v → IsOver k u → SameEnd g u v
    within kept =
        joined_least (StepBy (EitherWay []) kind pairs) (λ u v. IsOver k u → SameEnd g u v) (table_congruence k g is).reflexive
        (λ u v w f h over. let one = f over in (table_congruence k g is).transitive u v w one (h ((table_congruence k g is).over u v one).1))
        (λ u v s over. elim s [ inl a ↦ absurd (none_either a.from a.to a.base) | inr b ↦ by_pair u v b over ])
      where
        by_pair : (u v : Word) → Step (EitherWay pairs) kind u v → IsOver k u → SameEnd g u v
        by_pair u v b over =
            let whole : IsOver k (b.before ++ (b.from ++ b.after)) = subst (λ w. IsOver k w) b.source over in
            subst₂ (λ p q. SameEnd g p q) (sym b.source) (sym b.target)
            (kept b.before b.after b.from b.to b.place (over_left k b.before (b.from ++ b.after) whole)
            (over_right k b.from b.after (over_right k b.before (b.from ++ b.after) whole)) (either_end b.from b.to b.base))

  -- each table is the right congruence that its edges generate
  pub right_by_edges : (u v : Word) → IsOver k u → Related (free_with k Right pairs) u v ↔ SameEnd g u v
  right_by_edges u v over = (λ r. within Right (λ y. refl) kept u v r over, generates Right (λ y. refl) u v)
    where
      kept : (x y u v : Word) → MayStand Right x y → IsOver k x → IsOver k y → SameEnd g u v → SameEnd g (x ++ (u ++ y)) (x ++ (v ++ y))
      kept x y u v front hx hy h = subst (λ z. SameEnd g (z ++ (u ++ y)) (z ++ (v ++ y))) (sym front) ((table_congruence k g is).kept u v y hy h)

  -- and it is two-sided exactly where it is the two-sided congruence that they generate
  pub two_sided_by_edges : IsTwoSidedTable g ↔ ((u v : Word) → IsOver k u → Related (free_with k TwoSided pairs) u v ↔ SameEnd g u v)
  two_sided_by_edges = (
    λ h u v over. (λ r. within TwoSided (λ y. tt) (kept ((two_sided_kept k g is).0 h)) u v r over, generates TwoSided (λ y. tt) u v),
    λ same. (two_sided_kept k g is).1 (in_front same),
  )
    where
      kept : IsKeptInFront k g → (x y u v : Word) → Unit {0} → IsOver k x → IsOver k y → SameEnd g u v
          → SameEnd g (x ++ (u ++ y)) (x ++ (v ++ y))
      kept front x y u v tt hx hy h = front x (u ++ y) (v ++ y) hx ((table_congruence k g is).kept u v y hy h)

      in_front : ((u v : Word) → IsOver k u → Related (free_with k TwoSided pairs) u v ↔ SameEnd g u v) → IsKeptInFront k g
      in_front same x u v hx h =
          let over = ((table_congruence k g is).over u v h).0 in
          let related = (same u v over).1 h in
          (same (x ++ u) (x ++ v) (over_append k x u hx over)).0
          (subst₂ (λ p q. Related (free_with k TwoSided pairs) (x ++ p) (x ++ q)) (append-nil u) (append-nil v)
          ((related_congruence (free_with k TwoSided pairs)).kept x [] tt u v related))
