-- Where completion ends, its rules are the reduced rules of the congruence.
use Rattle.std.proofs.Common.{◌≡◌, ℕ, ◌<◌, List, [], ◌∷◌, ◌++◌, length, sym, ◌∙◌, ap, ap₂, subst, subst₂, arith, inl, inr, ◌↔◌, append-nil}
use Rattle.theory.specs.Word.{Word, IsElement, IsProperFactor}
use Rattle.theory.specs.ShortLex.{◌≺◌}
use Rattle.theory.specs.Congruence.{Presentation, EitherWay, IsWellFormed, of_presentation}
use Rattle.theory.specs.Chain.{Step, StepBy, Chain}
use Rattle.theory.specs.Class.{SameClass, IsLeast, IsNormal, IsReducedRule}
use Rattle.theory.specs.Completion.{Fits, Within, same, Rule, Reduces, IsReduced, CompletionEnds}
use Rattle.theory.specs.declared.Kind.TheVariants.{TwoSided}
use Rattle.theory.proofs.Words.{before_irrefl, before_trans, before_no_longer, before_context}
use Rattle.theory.proofs.Chains.{joined_refl, joined_one, related_congruence}
use Rattle.theory.proofs.Related.{related_element, nonempty_element}
use Rattle.theory.proofs.Completeness.{normal_unique, reduced_stays, reduces_falls}
use Rattle.theory.proofs.CompletionLaws.{factor_cases, within_left, fits_factor, least_reduced, rule_falls, within_related, related_joinable, reduces_related}

-- what comes before another word leaves that with a letter
pub greater_full : (u v : Word) → v ≺ u → u ≡ [] → ⊥
greater_full u v less e = go v (subst (λ w. v ≺ w) e less)
  where
    go : (v : Word) → v ≺ [] → ⊥
    go [] h = before_irrefl [] h
    go (a ∷ v) h = omega (arith, before_no_longer (a ∷ v) [] h)

module _ (p : Presentation) (L : ℕ) (normal : (u : Word) → Fits p L u → (v : Word) × IsNormal (Within p L) u v)
    (is : IsWellFormed (of_presentation p)) (ends : CompletionEnds p L) where
  -- an element that is least within L is least of all
  least_related : (u : Word) → IsElement p.is_monoid p.letters u → IsLeast (Within p L) u → IsLeast (SameClass (of_presentation p)) u
  least_related u element h =
      record {
        element = record { left = element; right = element; related = joined_refl (StepBy (EitherWay p.relations) TwoSided []) u };
        none_less = λ v r less.
            let j = related_joinable p L normal is ends u v r.related in
            let here : u ≡ j.word = reduced_stays (Rule p L) u j.word (least_reduced p L u h) j.left in
            let back : Reduces (Rule p L) v u = subst (λ w. Reduces (Rule p L) v w) (sym here) j.right in
            elim (reduces_falls (Rule p L) (rule_falls p L) v u back) [
              | inl e ↦ before_irrefl u (subst (λ w. w ≺ u) e less)
              | inr g ↦ before_irrefl u (before_trans u v u g less)
            ];
      }

  -- a rule's sides are elements
  rule_elements : (u v : Word) → Rule p L u v → IsElement p.is_monoid p.letters u × IsElement p.is_monoid p.letters v
  rule_elements u v h =
      let left = nonempty_element p.is_monoid p.letters u (within_left p L h.normal.related).0.over (greater_full u v h.falls) in
      (left, related_element (of_presentation p) is u v (within_related p L h.normal.related) left)

  rule_reduced : (u v : Word) → Rule p L u v → IsReducedRule (SameClass (of_presentation p)) u v
  rule_reduced u v h =
      let sides = rule_elements u v h in
      record {
        normal = record {
          related = record { left = sides.0; right = sides.1; related = within_related p L h.normal.related };
          least = least_related v sides.1 h.normal.least;
        };
        falls = h.falls;
        factors = λ f proper element.
            let whole : Fits p L (proper.factor.before ++ (f ++ proper.factor.after)) =
            subst (λ w. Fits p L w) proper.factor.is (within_left p L h.normal.related).0 in
            least_related f element.left (h.factors f proper (same (fits_factor p L proper.factor.before f proper.factor.after whole)));
      }

  reduced_rule : (u v : Word) → IsReducedRule (SameClass (of_presentation p)) u v → Rule p L u v
  reduced_rule u v h =
      let j = related_joinable p L normal is ends u v h.normal.related.related in
      let here : v ≡ j.word = reduced_stays (Rule p L) v j.word v_reduced j.right in
      let down : Reduces (Rule p L) u v = subst (λ w. Reduces (Rule p L) u w) (sym here) j.left in
      go down.0 down.1
    where
      v_reduced : IsReduced (Rule p L) v
      v_reduced w s =
          let related = reduces_related p L v w (joined_one (Step (Rule p L) TwoSided) v w s) in
          let less : w ≺ v = subst₂ (λ x y. x ≺ y) (sym s.target) (sym s.source) (before_context s.before s.to s.from s.after s.base.falls) in
          let element = h.normal.related.right in
          h.normal.least.none_less w
          (record { left = element; right = related_element (of_presentation p) is v w related element; related = related }) less

      -- the first step's left side is all of u
      whole : (w : Word) (s : Step (Rule p L) TwoSided u w) → (s.before ≡ []) × (s.after ≡ []) → Rule p L u v
      whole w s e =
          let all : u ≡ s.from = s.source ∙ ap₂ (λ (x y : Word). x ++ (s.from ++ y)) e.0 e.1 ∙ append-nil s.from in
          let rule : Rule p L u s.to = subst (λ x. Rule p L x s.to) (sym all) s.base in
          let reduced = rule_reduced u s.to rule in
          let known = related_congruence (of_presentation p) in
          let one : s.to ≡ v = normal_unique (SameClass (of_presentation p))
          (λ x y r. record { left = r.right; right = r.left; related = known.symmetric x y r.related })
          (λ x y z r q. record { left = r.left; right = q.right; related = known.transitive x y z r.related q.related })
          u s.to v reduced.normal h.normal in
          subst (λ x. Rule p L u x) one rule

      -- it is no proper factor, since that would be least
      inside : (w : Word) (s : Step (Rule p L) TwoSided u w) → length s.from < length (s.before ++ (s.from ++ s.after)) → ⊥
      inside w s less =
          let reduced = rule_reduced s.from s.to s.base in
          let proper : IsProperFactor s.from u = record {
            factor = record { before = s.before; after = s.after; is = s.source };
            proper = λ e. omega (arith, ap length e, ap length s.source);
          } in
          let left = reduced.normal.related.left in
          let part = h.factors s.from proper (record {
            left = left;
            right = left;
            related = joined_refl (StepBy (EitherWay p.relations) TwoSided []) s.from;
          }) in
          part.none_less s.to reduced.normal.related s.base.falls

      go : (ws : List Word) → Chain (Step (Rule p L) TwoSided) u ws v → Rule p L u v
      go [] e = absurd (before_irrefl u (subst (λ w. w ≺ u) (sym e) h.falls))
      go (w ∷ ws) c = elim (factor_cases (c.0).before (c.0).from (c.0).after) [ inl both ↦ whole w c.0 both | inr less ↦ absurd (inside w c.0 less) ]

  -- the rules are the reduced rules
  pub rules_reduced : (u v : Word) → Rule p L u v ↔ IsReducedRule (SameClass (of_presentation p)) u v
  rules_reduced u v = (rule_reduced u v, reduced_rule u v)
