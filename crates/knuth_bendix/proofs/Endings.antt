-- What the rules that completion keeps show: that it ended, that it cannot end, the reduced rules and the related words.
use Rattle.std.proofs.Common.{◌≡◌, ◌≢◌, ℕ, ◌≤◌, None, List, [], ◌++◌, length, subst, ◌↔◌, All, Contains}
use Rattle.theory.specs.Word.{Word}
use Rattle.theory.specs.Listing.{IsAscending}
use Rattle.theory.specs.Congruence.{Presentation, IsWellFormed, of_presentation}
use Rattle.theory.specs.Class.{SameClass, IsReducedRule, RuleBefore, IsRuleList}
use Rattle.theory.specs.Completion.{Fits, Within, symmetric, transitive, Reduces, IsReduced, OverlapsJoin, CompletionEnds, Listed, AreRules}
use Rattle.theory.proofs.Counting.{in_from_contains, contains_from_in}
use Rattle.theory.proofs.Listings.{list_from_ascending}
use Rattle.theory.proofs.ClassLaws.{rule_order, same_class_equivalence}
use Rattle.theory.proofs.Completed.{completed_rules, completion_fails}
use Rattle.theory.proofs.RuleLists.{listed_rules, listed_reduces, listed_reduced, listed_overlaps}
use Rattle.knuth_bendix.proofs.FallingRules.{falling_reduces}

module _ (p : Presentation) (L : ℕ) (rules : List (Word × Word)) (are : AreRules p L rules) where
  -- the relations fit, and the overlaps lead to one word
  pub decided_by_overlaps : All (λ r. (length r.0 ≤ L) × (length r.1 ≤ L)) p.relations → OverlapsJoin (Listed rules) → CompletionEnds p L
  decided_by_overlaps fits joins = record { fits = fits; join = listed_overlaps p L rules are joins }

  -- an overlap leads to two reduced words
  pub spent_by_overlap : (a b c v w x y : Word) → b ≢ [] → Listed rules (a ++ b) v → Listed rules (b ++ c) w → Reduces (Listed rules) (v ++ c) x
      → Reduces (Listed rules) (a ++ w) y → IsReduced (Listed rules) x → IsReduced (Listed rules) y → x ≢ y → CompletionEnds p L → ⊥
  spent_by_overlap a b c v w x y overlaps left right down_left down_right end_left end_right differ =
      completion_fails p L (record {
        a = a;
        b = b;
        c = c;
        v = v;
        w = w;
        x = x;
        y = y;
        overlaps = overlaps;
        left = (listed_rules p L rules are (a ++ b) v).0 left;
        right = (listed_rules p L rules are (b ++ c) w).0 right;
        down_left = (listed_reduces p L rules are (v ++ c) x).0 down_left;
        down_right = (listed_reduces p L rules are (a ++ w) y).0 down_right;
        end_left = (listed_reduced p L rules are x).0 end_left;
        end_right = (listed_reduced p L rules are y).0 end_right;
        differ = differ;
      })

  -- the rules in order are the list of the reduced rules
  pub rule_list_from_sorted : IsWellFormed (of_presentation p) → CompletionEnds p L → (sorted : List (Word × Word))
      → ((q : Word × Word) → Contains sorted q ↔ Contains rules q) → IsAscending RuleBefore None sorted
      → IsRuleList (SameClass (of_presentation p)) sorted
  rule_list_from_sorted is ends sorted members ascending =
      list_from_ascending (λ q. IsReducedRule (SameClass (of_presentation p)) q.0 q.1) RuleBefore
      (rule_order (SameClass (of_presentation p)) (same_class_equivalence (of_presentation p))) None sorted ascending
      (λ q m. (completed_rules p L is ends q.0 q.1).0 ((listed_rules p L rules are q.0 q.1).0 ((members q).0 (contains_from_in q sorted m))))
      (λ q rule after. in_from_contains q sorted
      ((members q).1 ((listed_rules p L rules are q.0 q.1).1 ((completed_rules p L is ends q.0 q.1).1 rule))))

  -- words that fit are related within the bound exactly where their reduced words are one
  pub normal_forms_decide : (u v x y : Word) → Fits p L u → Fits p L v → Reduces (Listed rules) u x → IsReduced (Listed rules) x
      → Reduces (Listed rules) v y → IsReduced (Listed rules) y → Within p L u v ↔ (x ≡ y)
  normal_forms_decide u v x y left right down_left end_left down_right end_right =
      let first = falling_reduces p L (Listed rules) are.falls are.related u x left down_left in
      let second = falling_reduces p L (Listed rules) are.falls are.related v y right down_right in (
        λ w. are.full x y (transitive (symmetric first) (transitive w second)) end_left end_right,
        λ e. transitive (subst (λ w. Within p L u w) e first) (symmetric second),
      )
