-- Completion decides congruences of each kind.
use Rattle.std.proofs.Common.{◌≡◌, ℕ, ◌==◌, Bool, true, false, List, [], length, refl, ap, arith, inl, inr, ◌↔◌}
use Rattle.std.proofs.lemmas.List.{nil_from_length}
use Rattle.theory.specs.Word.{Word, IsOver, IsElement}
use Rattle.theory.specs.Congruence.{Presentation, Congruence, IsWellFormed, IsTwoSided, is_two_sided, of_presentation, with_relations}
use Rattle.theory.specs.Chain.{Related}
use Rattle.theory.specs.Class.{SameClass, IsLeast, IsNormal}
use Rattle.theory.specs.Completion.{Rule, Reduces, IsReduced, CompletionEnds}
use Rattle.theory.specs.Marked.{marked, as_marked_word, as_two_sided, completed, completed_word}
use Rattle.theory.specs.declared.Kind.{Kind}
use Rattle.theory.specs.declared.Kind.TheVariants.{TwoSided, Right, Left}
use Rattle.theory.proofs.KindLaws.{pairs_as_relations}
use Rattle.theory.proofs.MarkedLaws.{marked_related, marked_well_formed, marked_reduced, marked_decides, marked_normal}
use Rattle.theory.proofs.SameClasses.{least_same, normal_same}

-- the test says what it is to say
none_from : (pairs : List (Word × Word)) → (length pairs == 0) ≡ true → pairs ≡ []
none_from pairs h = nil_from_length pairs (grind (arith, h))

pub two_sided_from_test : (c : Congruence) → is_two_sided c ≡ true → IsTwoSided c
two_sided_from_test c = go c.presentation c.kind c.pairs
  where
    go : (p : Presentation) (kind : Kind) (pairs : List (Word × Word))
        → is_two_sided (record { presentation = p; kind = kind; pairs = pairs }) ≡ true
        → IsTwoSided (record { presentation = p; kind = kind; pairs = pairs })
    go p TwoSided pairs h = inl refl
    go p Right pairs h = inr (none_from pairs h)
    go p Left pairs h = inr (none_from pairs h)

-- what the test decides: the marker is used or not
abbrev by_test : Congruence → Bool → Congruence
by_test c b = record c { kind = elim b [ true ↦ TwoSided | false ↦ c.kind ] }

pub completed_plain : (c : Congruence) → is_two_sided c ≡ true → completed c ≡ with_relations c.presentation c.pairs
completed_plain c = ap (λ b. marked (by_test c b))

pub completed_marked : (c : Congruence) → is_two_sided c ≡ false → completed c ≡ marked c
completed_marked c = ap (λ b. marked (by_test c b))

pub word_plain : (c : Congruence) (u : Word) → is_two_sided c ≡ true → completed_word c u ≡ u
word_plain c u = ap (λ b. as_marked_word (by_test c b) u)

pub word_marked : (c : Congruence) (u : Word) → is_two_sided c ≡ false → completed_word c u ≡ as_marked_word c u
word_marked c u = ap (λ b. as_marked_word (by_test c b) u)

-- as a two-sided congruence it relates the same words
module _ (c : Congruence) (is : IsWellFormed c) where
  same_by : (b : Bool) → is_two_sided c ≡ b → (u v : Word) → Related c u v ↔ Related (by_test c b) u v
  same_by false e u v = (λ h. h, λ h. h)
  same_by true e u v =
      let here = pairs_as_relations c (two_sided_from_test c e) u v in
      let there = pairs_as_relations (by_test c true) (inl refl) u v in
      (λ h. there.1 (here.0 h), λ h. here.1 (there.0 h))

  same : (u v : Word) → Related c u v ↔ Related (as_two_sided c) u v
  same = same_by (is_two_sided c) refl

  class_to : (u v : Word) → SameClass c u v ↔ SameClass (as_two_sided c) u v
  class_to u v = (
    λ h. record { left = h.left; right = h.right; related = (same u v).0 h.related },
    λ h. record { left = h.left; right = h.right; related = (same u v).1 h.related },
  )

  class_from : (u v : Word) → SameClass (as_two_sided c) u v ↔ SameClass c u v
  class_from u v = ((class_to u v).1, (class_to u v).0)

  well_formed : IsWellFormed (as_two_sided c)
  well_formed = record { relations = is.relations; pairs = is.pairs }

  -- a congruence of any kind relates two words exactly where the relations of its completed presentation relate the words that stand for them
  pub completed_related : (u v : Word) → IsOver c.presentation.letters u
      → Related c u v ↔ Related (of_presentation (completed c)) (completed_word c u) (completed_word c v)
  completed_related u v over =
      let there = marked_related (as_two_sided c) well_formed u v over in
      (λ h. there.0 ((same u v).0 h), λ h. (same u v).1 (there.1 h))

  pub completed_well_formed : IsWellFormed (of_presentation (completed c))
  completed_well_formed = marked_well_formed (as_two_sided c) well_formed

  pub completed_decides_kinds : (L : ℕ) → CompletionEnds (completed c) L → (u v x y : Word) → IsOver c.presentation.letters u
      → Reduces (Rule (completed c) L) (completed_word c u) x → IsReduced (Rule (completed c) L) x
      → Reduces (Rule (completed c) L) (completed_word c v) y → IsReduced (Rule (completed c) L) y → Related c u v ↔ (x ≡ y)
  completed_decides_kinds L ends u v x y over ru nx rv ny =
      let there = marked_decides (as_two_sided c) well_formed L ends u v x y over ru nx rv ny in
      (λ h. there.0 ((same u v).0 h), λ e. (same u v).1 (there.1 e))

  pub completed_least_kinds : (L : ℕ) → CompletionEnds (completed c) L → (u : Word)
      → IsElement c.presentation.is_monoid c.presentation.letters u → IsLeast (SameClass c) u ↔ IsReduced (Rule (completed c) L) (completed_word c u)
  completed_least_kinds L ends u element =
      let there = marked_reduced (as_two_sided c) well_formed L ends u element in (
        λ h. there.0 (least_same (SameClass c) (SameClass (as_two_sided c)) class_to u h),
        λ n. least_same (SameClass (as_two_sided c)) (SameClass c) class_from u (there.1 n),
      )

  -- the word to which the rules of a completion lead stands for the normal form
  pub completed_normal_kinds : (L : ℕ) → CompletionEnds (completed c) L → (u x : Word)
      → IsElement c.presentation.is_monoid c.presentation.letters u → Reduces (Rule (completed c) L) (completed_word c u) x
      → IsReduced (Rule (completed c) L) x → (w : Word) × (x ≡ completed_word c w) × IsNormal (SameClass c) u w
  completed_normal_kinds L ends u x element down here =
      let at = marked_normal (as_two_sided c) well_formed L ends u x element down here in
      (at.0, at.1, normal_same (SameClass (as_two_sided c)) (SameClass c) class_from u at.0 at.2)
