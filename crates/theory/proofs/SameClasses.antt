-- Relations that are the same have the same classes.
use Rattle.std.proofs.Common.{List, None, ◌↔◌}
use Rattle.theory.specs.Word.{Word}
use Rattle.theory.specs.Class.{IsLeast, IsNormal, IsReducedRule, IsRuleList, RuleBefore}
use Rattle.theory.proofs.Listings.{list_same}

module _ (R S : Word → Word → Type 0) (same : (u v : Word) → R u v ↔ S u v) where
  pub least_same : (u : Word) → IsLeast R u → IsLeast S u
  least_same u h = record { element = (same u u).0 h.element; none_less = λ v s less. h.none_less v ((same u v).1 s) less }

  pub normal_same : (u v : Word) → IsNormal R u v → IsNormal S u v
  normal_same u v h = record { related = (same u v).0 h.related; least = least_same v h.least }

  rule_same : (u v : Word) → IsReducedRule R u v → IsReducedRule S u v
  rule_same u v h =
      record { normal = normal_same u v h.normal; falls = h.falls; factors = λ f proper s. least_same f (h.factors f proper ((same f f).1 s)) }

pub rule_list_same : (R S : Word → Word → Type 0) → ((u v : Word) → R u v ↔ S u v) → (rules : List (Word × Word)) → IsRuleList R rules
    → IsRuleList S rules
rule_list_same R S same =
    list_same (λ (p : Word × Word). IsReducedRule R p.0 p.1) (λ (p : Word × Word). IsReducedRule S p.0 p.1) RuleBefore
    (λ p. (rule_same R S same p.0 p.1, rule_same S R (λ u v. ((same u v).1, (same u v).0)) p.0 p.1)) None
