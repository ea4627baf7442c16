-- What rules lead to whose right sides come before their left sides.
use Rattle.std.proofs.Common.{◌≡◌, ℕ, List, [], ◌∷◌, ◌++◌, length, sym, ◌∙◌, ap, subst, subst₂, arith, ◌⊎◌, inl, inr, append-nil}
use Rattle.theory.specs.Word.{Word}
use Rattle.theory.specs.ShortLex.{◌≺◌}
use Rattle.theory.specs.Congruence.{Presentation}
use Rattle.theory.specs.Chain.{Step, Chain}
use Rattle.theory.specs.Completion.{Fits, Reduces, Within, same, transitive, context}
use Rattle.theory.specs.declared.Kind.TheVariants.{TwoSided}
use Rattle.theory.proofs.Words.{before_irrefl, before_trans, shorter_first}
use Rattle.theory.proofs.Chains.{joined_trans, joined_one}
use Rattle.theory.proofs.Completeness.{step_falls}
use Rattle.theory.proofs.CompletionLaws.{factor_cases, fits_replaced, within_left}

-- a word that comes before another does not contain it
pub not_behind : (l w x y : Word) → w ≺ l → w ≡ x ++ (l ++ y) → ⊥
not_behind l w x y less e = elim (factor_cases x l y) [
  | inl both ↦ before_irrefl l (subst (λ v. v ≺ l) (e ∙ whole x y both.0 both.1) less)
  | inr shorter ↦ before_irrefl w (before_trans w l w less (shorter_first l w (omega (arith, shorter, ap length e))))
]
  where
    whole : (x y : Word) → x ≡ [] → y ≡ [] → x ++ (l ++ y) ≡ l
    whole x y e d = rw (e, d) (append-nil l)

-- below a left side, falling rules lead to the same words without the rules that have it
pub reduces_below : (R S : Word → Word → Type 0) (l : Word) → ((f g : Word) → R f g → g ≺ f) → ((f g : Word) → R f g → (f ≡ l) ⊎ S f g)
    → (u w : Word) → u ≺ l → Reduces R u w → Reduces S u w
reduces_below R S l falls others u w less r = go u r.0 less r.1
  where
    at : (u v : Word) → u ≺ l → (s : Step R TwoSided u v) → (s.from ≡ l) ⊎ S s.from s.to → Step S TwoSided u v
    at u v less s (inl e) =
        absurd (not_behind l u s.before s.after less (s.source ∙ ap (λ f. s.before ++ (f ++ s.after)) e))
    at u v less s (inr h) =
        record { before = s.before; from = s.from; to = s.to; after = s.after; base = h; place = tt; source = s.source; target = s.target }

    go : (u : Word) (vs : List Word) → u ≺ l → Chain (Step R TwoSided) u vs w → Reduces S u w
    go u [] less e = ([], e)
    go u (v ∷ vs) less c =
        let one = at u v less c.0 (others c.0.from c.0.to c.0.base) in
        joined_trans (Step S TwoSided) u v w (joined_one (Step S TwoSided) u v one)
        (go v vs (before_trans v u l (step_falls R falls u v c.0) less) c.1)

-- falling rules that hold within a length
module _ (p : Presentation) (L : ℕ) (R : Word → Word → Type 0) (falls : (f g : Word) → R f g → g ≺ f) (related : (f g : Word) → R f g → Within p L f g) where
  -- a step from a word that fits leads to a related one
  pub falling_step : (u v : Word) → Fits p L u → Step R TwoSided u v → Within p L u v
  falling_step u v fits s =
      let whole : Fits p L (s.before ++ (s.from ++ s.after)) = subst (λ w. Fits p L w) s.source fits in
      let known = related s.from s.to s.base in
      let next = fits_replaced p L s.before s.from s.to s.after whole (within_left p L known).1 (falls s.from s.to s.base) in
      subst₂ (λ a b. Within p L a b) (sym s.source) (sym s.target) (context s.from s.to s.before s.after known whole next)

  -- and so do steps
  pub falling_reduces : (u w : Word) → Fits p L u → Reduces R u w → Within p L u w
  falling_reduces u w fits r = go u r.0 fits r.1
    where
      go : (u : Word) (vs : List Word) → Fits p L u → Chain (Step R TwoSided) u vs w → Within p L u w
      go u [] fits e = subst (λ v. Within p L u v) e (same fits)
      go u (v ∷ vs) fits c = let one = falling_step u v fits c.0 in transitive one (go v vs (within_left p L one).1 c.1)
