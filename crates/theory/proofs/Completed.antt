-- What it means that completion ended, and what shows that it does not end.
use Rattle.std.proofs.Common.{◌≡◌, ℕ, ◌≤◌, ◌++◌, length, sym, ◌∙◌, subst, subst₂, arith, inl, inr, ◌↔◌}
use Rattle.std.proofs.lemmas.List.Elements.{All-contains}
use Rattle.theory.specs.Word.{Word, IsElement, IsProperFactor}
use Rattle.theory.specs.ShortLex.{◌≺◌}
use Rattle.theory.specs.Congruence.{Presentation, Congruence, IsTwoSided, IsWellFormed, of_presentation, with_relations}
use Rattle.theory.specs.Chain.{Related}
use Rattle.theory.specs.Class.{SameClass, IsLeast, IsReducedRule}
use Rattle.theory.specs.Completion.{Within, symmetric, transitive, Rule, Reduces, IsReduced, Joinable, CompletionEnds, HasLongSide, HasBadOverlap}
use Rattle.theory.proofs.Words.{before_context, before_irrefl, before_trans}
use Rattle.theory.proofs.Chains.{joined_refl, joined_one, related_congruence}
use Rattle.theory.proofs.KindLaws.{pairs_as_relations, relations_well_formed}
use Rattle.theory.proofs.Related.{related_element}
use Rattle.theory.proofs.Completeness.{normal_unique, joinable_trans, confluent, reduced_stays, reduces_falls}
use Rattle.theory.proofs.CompletionLaws.{proper_shorter, rules_apart, rule_falls, related_joinable, joinable_related, reduces_related}
use Rattle.theory.proofs.ReducedRules.{rules_reduced}
use Rattle.theory.proofs.WithinDecides.{within_normal}
use Rattle.theory.specs.declared.Kind.TheVariants.{TwoSided}
use Rattle.theory.specs.Chain.{Step}

-- the rules lead two words to one exactly where they are related
pub completed_joinable : (p : Presentation) (L : ℕ) → IsWellFormed (of_presentation p) → CompletionEnds p L → (u v : Word)
    → Related (of_presentation p) u v ↔ Joinable (Rule p L) u v
completed_joinable p L is ends u v = (related_joinable p L (within_normal p L) is ends u v, joinable_related p L u v)

-- the rules are the reduced rules
pub completed_rules : (p : Presentation) (L : ℕ) → IsWellFormed (of_presentation p) → CompletionEnds p L → (u v : Word)
    → Rule p L u v ↔ IsReducedRule (SameClass (of_presentation p)) u v
completed_rules p L = rules_reduced p L (within_normal p L)

-- reduced words are related exactly where they are one
pub completed_reduced : (p : Presentation) (L : ℕ) → IsWellFormed (of_presentation p) → CompletionEnds p L → (u v x y : Word)
    → Reduces (Rule p L) u x → IsReduced (Rule p L) x → Reduces (Rule p L) v y → IsReduced (Rule p L) y
    → Related (of_presentation p) u v ↔ (x ≡ y)
completed_reduced p L is ends u v x y down_u here down_v there = (to, from)
  where
    meet : Joinable (Rule p L) u v → x ≡ y
    meet h =
        let trans = joinable_trans (Rule p L) (rules_apart p L) ends.join (rule_falls p L) in
        let left : Joinable (Rule p L) x u = record { word = x; left = joined_refl (Step (Rule p L) TwoSided) x; right = down_u } in
        let right : Joinable (Rule p L) v y = record { word = y; left = down_v; right = joined_refl (Step (Rule p L) TwoSided) y } in
        let both = trans x u y left (trans u v y h right) in
        reduced_stays (Rule p L) x both.word here both.left ∙ sym (reduced_stays (Rule p L) y both.word there both.right)

    to : Related (of_presentation p) u v → x ≡ y
    to r = meet ((completed_joinable p L is ends u v).0 r)

    from : x ≡ y → Related (of_presentation p) u v
    from e = (completed_joinable p L is ends u v).1 (record { word = y; left = subst (λ w. Reduces (Rule p L) u w) e down_u; right = down_v })

-- a congruence whose pairs are relations, and that is completed
pub completion_decides : (c : Congruence) (L : ℕ) → IsWellFormed c → IsTwoSided c → CompletionEnds (with_relations c.presentation c.pairs) L → (u v : Word)
    → Related c u v ↔ Joinable (Rule (with_relations c.presentation c.pairs) L) u v
completion_decides c L is two_sided ends u v =
    let one = pairs_as_relations c two_sided u v in
    let two = completed_joinable (with_relations c.presentation c.pairs) L (relations_well_formed c is) ends u v in
    (λ h. two.0 (one.0 h), λ h. one.1 (two.1 h))

-- whichever rules are applied, the words meet
pub completed_confluent : (p : Presentation) (L : ℕ) → CompletionEnds p L → (u v w : Word) → Reduces (Rule p L) u v → Reduces (Rule p L) u w
    → Joinable (Rule p L) v w
completed_confluent p L ends = confluent (Rule p L) (rules_apart p L) ends.join (rule_falls p L)

-- no left side stands inside another
pub no_rule_inside : (p : Presentation) (L : ℕ) (l r f g : Word) → Rule p L l r → Rule p L f g → IsProperFactor f l → ⊥
no_rule_inside p L l r f g h k inside =
    rules_apart p L l r f g inside.factor.before inside.factor.after h k inside.factor.is (proper_shorter f l inside)

-- a left side has one right side
pub rule_is_one : (p : Presentation) (L : ℕ) (u v w : Word) → Rule p L u v → Rule p L u w → v ≡ w
rule_is_one p L u v w h k = normal_unique (Within p L) (λ x y r. symmetric r) (λ x y z r q. transitive r q) u v w h.normal k.normal

-- a side that is too long shows that completion does not end
pub side_too_long : (p : Presentation) (L : ℕ) → HasLongSide p L → CompletionEnds p L → ⊥
side_too_long p L h ends = elim (h.known) [
  | inl m ↦ let both = All-contains Short p.relations (h.side, h.other) ends.fits m in omega (arith, both.0, h.long)
  | inr m ↦ let both = All-contains Short p.relations (h.other, h.side) ends.fits m in omega (arith, both.1, h.long)
]
  where
    Short : Word × Word → Type 0
    Short q = (length q.0 ≤ L) × (length q.1 ≤ L)

-- and so does an overlap that leads to two reduced words
pub completion_fails : (p : Presentation) (L : ℕ) → HasBadOverlap p L → CompletionEnds p L → ⊥
completion_fails p L h ends =
    let trans = joinable_trans (Rule p L) (rules_apart p L) ends.join (rule_falls p L) in
    let left : Joinable (Rule p L) h.x (h.v ++ h.c) = record { word = h.x; left = joined_refl (Step (Rule p L) TwoSided) h.x; right = h.down_left } in
    let right : Joinable (Rule p L) (h.a ++ h.w) h.y = record {
      word = h.y;
      left = h.down_right;
      right = joined_refl (Step (Rule p L) TwoSided) h.y;
    } in
    let one = ends.join h.a h.b h.c h.v h.w h.overlaps h.left h.right in
    let both = trans h.x (h.v ++ h.c) h.y left (trans (h.v ++ h.c) (h.a ++ h.w) h.y one right) in
    h.differ
    (reduced_stays (Rule p L) h.x both.word h.end_left both.left ∙ sym (reduced_stays (Rule p L) h.y both.word h.end_right both.right))

-- an element is least exactly where no rule applies
pub completed_least : (p : Presentation) (L : ℕ) → IsWellFormed (of_presentation p) → CompletionEnds p L → (u : Word)
    → IsElement p.is_monoid p.letters u → IsLeast (SameClass (of_presentation p)) u ↔ IsReduced (Rule p L) u
completed_least p L is ends u element = (to, from)
  where
    to : IsLeast (SameClass (of_presentation p)) u → IsReduced (Rule p L) u
    to h v s =
        let related = reduces_related p L u v (joined_one (Step (Rule p L) TwoSided) u v s) in
        let less : v ≺ u = subst₂ (λ a b. a ≺ b) (sym s.target) (sym s.source) (before_context s.before s.to s.from s.after s.base.falls) in
        h.none_less v (record { left = element; right = related_element (of_presentation p) is u v related element; related = related }) less

    from : IsReduced (Rule p L) u → IsLeast (SameClass (of_presentation p)) u
    from h =
        record {
          element = record { left = element; right = element; related = (related_congruence (of_presentation p)).reflexive u };
          none_less = λ v r less.
              let j = (completed_joinable p L is ends u v).0 r.related in
              let here : u ≡ j.word = reduced_stays (Rule p L) u j.word h j.left in
              let back : Reduces (Rule p L) v u = subst (λ w. Reduces (Rule p L) v w) (sym here) j.right in
              elim (reduces_falls (Rule p L) (rule_falls p L) v u back) [
                | inl e ↦ before_irrefl u (subst (λ w. w ≺ u) e less)
                | inr g ↦ before_irrefl u (before_trans u v u g less)
              ];
        }
