-- The rules of a completion decide the congruence.
use Rattle.std.proofs.Common.{◌≡◌, ℕ, suc, true, false, List, [], ◌∷◌, refl, ap, subst, ◌∙◌, ◌↔◌, Option, Some, None}
use Rattle.std.proofs.lemmas.List.Elements.{All-nil, All-cons}
use Rattle.theory.specs.declared.Kind.{Kind}
use Rattle.theory.specs.declared.Kind.TheVariants.{TwoSided, Right, Left}
use Rattle.theory.specs.Word.{Word, IsOver, IsElement}
use Rattle.theory.specs.Congruence.{Congruence, Presentation, IsTwoSided, IsWellFormed, of_presentation, is_two_sided, with_relations}
use Rattle.theory.specs.Chain.{Related, Step}
use Rattle.theory.specs.Class.{SameClass, IsLeast, IsNormal, IsReducedRule, IsRuleList, RuleBefore}
use Rattle.theory.specs.Completion.{IsReduced, Listed, Reduces, Rule}
use Rattle.theory.specs.Listing.{IsListOf}
use Rattle.theory.specs.Marked.{completed, completed_word, marked}
use Rattle.theory.proofs.Chains.{joined_map, step_more}
use Rattle.theory.proofs.CompletedKinds.{completed_decides_kinds, completed_least_kinds, completed_marked, completed_normal_kinds, completed_plain, two_sided_from_test}
use Rattle.theory.proofs.KindLaws.{pairs_as_relations}
use Rattle.theory.proofs.Related.{element_over}
use Rattle.theory.proofs.SameClasses.{rule_list_same}
use Rattle.rewriting.specs.Rules.{AreOver}
use Rattle.congruence_classes.specs.Rewriting.{AreRulesOf}

-- Rules that are among others.
module _ (B C : Word → Word → Type 0) (more : (u v : Word) → B u v → C u v) where
  reduces_more : (u v : Word) → Reduces B u v → Reduces C u v
  reduces_more = joined_map (Step B TwoSided) (Step C TwoSided) (λ w. w) (step_more B C TwoSided more)

  reduced_less : (u : Word) → IsReduced C u → IsReduced B u
  reduced_less u h v s = h v (step_more B C TwoSided more u v s)

-- the classes of a two-sided congruence are those of its presentation with the pairs as relations
class_same : (c : Congruence) → IsTwoSided c → (u v : Word) → SameClass (of_presentation (with_relations c.presentation c.pairs)) u v ↔ SameClass c u v
class_same c two u v = (
  λ h. record { left = h.left; right = h.right; related = (pairs_as_relations c two u v).1 h.related },
  λ h. record { left = h.left; right = h.right; related = (pairs_as_relations c two u v).0 h.related },
)

-- the rules of a two-sided congruence are its reduced rules
list_from : (c : Congruence) (rules : List (Word × Word)) → is_two_sided c ≡ true
    → IsRuleList (SameClass (of_presentation (completed c))) rules → IsRuleList (SameClass c) rules
list_from c rules test list =
    rule_list_same (SameClass (of_presentation (with_relations c.presentation c.pairs))) (SameClass c) (class_same c (two_sided_from_test c test)) rules
    (subst (λ (p : Presentation). IsRuleList (SameClass (of_presentation p)) rules) (completed_plain c test) list)

-- what rules decide: two words are related exactly where the words that are reduced for them have one reduced word, an element is least
-- exactly where that word is reduced, and a reduced word stands for a normal form
pub record DecidesBy (c : Congruence) (rules : List (Word × Word)) : Type 0 where
  pub well_formed : IsWellFormed c
  pub decides : (u v x y : Word) → IsOver c.presentation.letters u
      → Reduces (Listed rules) (completed_word c u) x → IsReduced (Listed rules) x
      → Reduces (Listed rules) (completed_word c v) y → IsReduced (Listed rules) y → Related c u v ↔ (x ≡ y)
  pub least : (u : Word) → IsElement c.presentation.is_monoid c.presentation.letters u
      → IsLeast (SameClass c) u ↔ IsReduced (Listed rules) (completed_word c u)
  pub normal : (u x : Word) → IsElement c.presentation.is_monoid c.presentation.letters u
      → Reduces (Listed rules) (completed_word c u) x → IsReduced (Listed rules) x
      → (w : Word) × (x ≡ completed_word c w) × IsNormal (SameClass c) u w
  pub list : is_two_sided c ≡ true → IsRuleList (SameClass c) rules

module _ (c : Congruence) (rules : List (Word × Word)) (formed : IsWellFormed c) (are : AreRulesOf c rules) where
  to_rule : (u v : Word) → Listed rules u v → Rule (completed c) are.length u v
  to_rule u v = (are.reduced u v).0

  from_rule : (u v : Word) → Rule (completed c) are.length u v → Listed rules u v
  from_rule u v = (are.reduced u v).1

  down : (u v : Word) → Reduces (Listed rules) u v → Reduces (Rule (completed c) are.length) u v
  down = reduces_more (Listed rules) (Rule (completed c) are.length) to_rule

  stays : (u : Word) → IsReduced (Listed rules) u → IsReduced (Rule (completed c) are.length) u
  stays = reduced_less (Rule (completed c) are.length) (Listed rules) from_rule

  pub decides_by : DecidesBy c rules
  decides_by = record {
    well_formed = formed;
    decides = λ u v x y over down_u here down_v there.
        completed_decides_kinds c formed are.length are.ends u v x y over (down (completed_word c u) x down_u) (stays x here)
        (down (completed_word c v) y down_v) (stays y there);
    least = λ u element.
        let q = completed_least_kinds c formed are.length are.ends u element in (
          λ h. reduced_less (Listed rules) (Rule (completed c) are.length) to_rule (completed_word c u) (q.0 h),
          λ h. q.1 (stays (completed_word c u) h),
        );
    normal = λ u x element down_u here.
        completed_normal_kinds c formed are.length are.ends u x element (down (completed_word c u) x down_u) (stays x here);
    list = λ two. list_from c rules two are.list;
  }

-- the sides of reduced rules are words over the letters
rules_over : (R : Word → Word → Type 0) (k : ℕ) → ((u v : Word) → R u v → IsOver k u × IsOver k v) → (cursor : Option (Word × Word))
    (rules : List (Word × Word))
    → IsListOf (λ (p : Word × Word). IsReducedRule R p.0 p.1) RuleBefore cursor rules → AreOver k rules
rules_over R k over cursor [] h = All-nil (λ (r : Word × Word). IsOver k r.0 × IsOver k r.1)
rules_over R k over cursor (p ∷ rules) h =
    All-cons (λ (r : Word × Word). IsOver k r.0 × IsOver k r.1) p rules (over p.0 p.1 h.0.has.normal.related) (rules_over R k over (Some p) rules h.1)

-- the letters are those of the presentation that is completed
pub sides_over : (c : Congruence) (rules : List (Word × Word)) → AreRulesOf c rules → AreOver (completed c).letters rules
sides_over c rules are =
    rules_over (SameClass (of_presentation (completed c))) (completed c).letters
    (λ u v h. (element_over (completed c).is_monoid (completed c).letters u h.left, element_over (completed c).is_monoid (completed c).letters v h.right))
    None rules are.list

-- which are one more with the marker
pub letters_plain : (c : Congruence) → is_two_sided c ≡ true → (completed c).letters ≡ c.presentation.letters
letters_plain c test = ap (λ (p : Presentation). p.letters) (completed_plain c test)

pub letters_marked : (c : Congruence) → is_two_sided c ≡ false → (completed c).letters ≡ suc c.presentation.letters
letters_marked c test = ap (λ (p : Presentation). p.letters) (completed_marked c test) ∙ go c.presentation c.kind c.pairs test
  where
    go : (p : Presentation) (kind : Kind) (pairs : List (Word × Word)) → let k : Congruence = record { presentation = p; kind = kind; pairs = pairs } in
        is_two_sided k ≡ false → (marked k).letters ≡ suc p.letters
    go p TwoSided pairs h = cc
    go p Right pairs h = refl
    go p Left pairs h = refl
