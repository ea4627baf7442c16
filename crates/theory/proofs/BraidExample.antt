-- Completion of aba = bab does not end at length three: the overlap babab leads to two reduced words.
use Rattle.std.proofs.Common.{◌≡◌, ◌≤◌, List, [], ◌∷◌, ◌++◌, length, refl, sym, ◌∙◌, ap, ap₂, subst, subst₂, arith, ◌⊎◌, ◌↔◌, inl, inr, length-append, append-nil}
use Rattle.theory.specs.Word.{Word}
use Rattle.theory.specs.ShortLex.{shortlex}
use Rattle.std.specs.declared.cmp.Ordering.TheVariants.{Less}
use Rattle.theory.specs.Chain.{Step}
use Rattle.theory.specs.Completion.{Fits, Within, same, symmetric, transitive, relation, context, Rule, IsReduced, Listed, AreRules, CompletionEnds}
use Rattle.theory.specs.declared.Kind.TheVariants.{TwoSided}
use Rattle.theory.specs.Examples.{aba, bab, braid, b1, ab, ba}
use Rattle.theory.proofs.Chains.{joined_refl, step_more, step_whole}
use Rattle.theory.proofs.Counting.{in_from_contains}
use Rattle.theory.proofs.CompletionLaws.{factor_cases, proper_shorter}
use Rattle.theory.proofs.Completed.{completion_fails}
use Rattle.theory.proofs.RuleLists.{listed_rules}

abbrev the_rules : List (Word × Word)
the_rules = (bab, aba) ∷ []

one_rule : (l r : Word) → Listed the_rules l r → (l ≡ bab) × (r ≡ aba)
one_rule l r m = elim (in_from_contains (l, r) the_rules m) [
  | inl e ↦ (ap (λ (p : Word × Word). p.0) e, ap (λ (p : Word × Word). p.1) e)
  | inr n ↦ absurd n
]

-- no step where bab is no factor
reduced_without : (u : Word) → ((x y : Word) → u ≡ x ++ (bab ++ y) → ⊥) → IsReduced (Listed the_rules) u
reduced_without u none v s = none s.before s.after (s.source ∙ ap (λ w. s.before ++ (w ++ s.after)) (one_rule s.from s.to s.base).0)

not_in_aba : (x y : Word) → aba ≡ x ++ (bab ++ y) → ⊥
not_in_aba [] y e = cc
not_in_aba (a ∷ x) y e = omega (arith, ap length e, length-append x (bab ++ y))

not_in_left : (x y : Word) → 0 ∷ 1 ∷ 0 ∷ 0 ∷ 1 ∷ [] ≡ x ++ (bab ++ y) → ⊥
not_in_left [] y e = cc
not_in_left (a ∷ []) y e = cc
not_in_left (a ∷ b ∷ []) y e = cc
not_in_left (a ∷ b ∷ d ∷ x) y e = omega (arith, ap length e, length-append x (bab ++ y))

not_in_right : (x y : Word) → 1 ∷ 0 ∷ 0 ∷ 1 ∷ 0 ∷ [] ≡ x ++ (bab ++ y) → ⊥
not_in_right [] y e = cc
not_in_right (a ∷ []) y e = cc
not_in_right (a ∷ b ∷ []) y e = cc
not_in_right (a ∷ b ∷ d ∷ x) y e = omega (arith, ap length e, length-append x (bab ++ y))

-- within three letters nothing follows but the relation
abbrev OnlyRelation : Word → Word → Type 0
OnlyRelation u v = (u ≡ v) ⊎ (((u ≡ aba) × (v ≡ bab)) ⊎ ((u ≡ bab) × (v ≡ aba)))

alone : (x u y : Word) → length u ≡ 3 → length (x ++ (u ++ y)) ≤ 3 → (x ≡ []) × (y ≡ [])
alone x u y e h = elim (factor_cases x u y) [ inl both ↦ both | inr less ↦ absurd (omega arith) ]

only_relation : {u v : Word} → Within braid 3 u v → OnlyRelation u v
only_relation (same f) = inl refl
only_relation (symmetric w) = elim (only_relation w) [
  | inl e ↦ inl (sym e)
  | inr o ↦ elim o [ inl p ↦ inr (inr (p.1, p.0)) | inr p ↦ inr (inl (p.1, p.0)) ]
]
only_relation (transitive {u} {v} {w} a b) = both u v w (only_relation a) (only_relation b)
  where
    both : (u v w : Word) → OnlyRelation u v → OnlyRelation v w → OnlyRelation u w
    both u v w (inl e) q = subst (λ x. OnlyRelation x w) (sym e) q
    both u v w p (inl d) = subst (λ x. OnlyRelation u x) d p
    both u v w (inr (inl p)) (inr (inl q)) = let e : aba ≡ bab = sym q.0 ∙ p.1 in cc
    both u v w (inr (inl p)) (inr (inr q)) = inl (p.0 ∙ sym q.1)
    both u v w (inr (inr p)) (inr (inl q)) = inl (p.0 ∙ sym q.1)
    both u v w (inr (inr p)) (inr (inr q)) = let e : aba ≡ bab = sym p.1 ∙ q.0 in cc
only_relation (relation {r} {s} e f g) = elim e [
  | inl m ↦ elim (in_from_contains (r, s) braid.relations m) [
    | inl d ↦ inr (inl (ap (λ (p : Word × Word). p.0) d, ap (λ (p : Word × Word). p.1) d))
    | inr n ↦ absurd n
  ]
  | inr m ↦ elim (in_from_contains (s, r) braid.relations m) [
    | inl d ↦ inr (inr (ap (λ (p : Word × Word). p.1) d, ap (λ (p : Word × Word). p.0) d))
    | inr n ↦ absurd n
  ]
]
only_relation (context u v x y w f g) = elim (only_relation w) [
  | inl e ↦ inl (ap (λ z. x ++ (z ++ y)) e)
  | inr o ↦ elim o [
    | inl p ↦ let at = alone x u y (ap length p.0) f.short in inr (inl (filled x u y at ∙ p.0, filled x v y at ∙ p.1))
    | inr p ↦ let at = alone x u y (ap length p.0) f.short in inr (inr (filled x u y at ∙ p.0, filled x v y at ∙ p.1))
  ]
]
  where
    filled : (x u y : Word) → (x ≡ []) × (y ≡ []) → x ++ (u ++ y) ≡ u
    filled x u y e = ap₂ (λ (a b : Word). a ++ (u ++ b)) e.0 e.1 ∙ append-nil u

-- bab to aba is the one rule
braid_rules : AreRules braid 3 the_rules
braid_rules =
    record {
      related = λ l r m. let e = one_rule l r m in subst₂ (λ a b. Within braid 3 a b) (sym e.0) (sym e.1) (relation (inr (0, omega arith, refl)) fits_bab fits_aba);
      falls = λ l r m. let e = one_rule l r m in subst₂ (λ a b. shortlex a b ≡ Less) (sym e.1) (sym e.0) refl;
      reduced = λ l r m. subst (λ w. IsReduced (Listed the_rules) w) (sym (one_rule l r m).1) (reduced_without aba not_in_aba);
      apart = λ l r f g m n h. omega (arith, proper_shorter f l h, ap length (one_rule l r m).0, ap length (one_rule f g n).0);
      full = λ u v w hu hv. elim (only_relation w) [
        | inl e ↦ e
        | inr o ↦ elim o [ inl p ↦ absurd (not_reduced v p.1 hv) | inr p ↦ absurd (not_reduced u p.0 hu) ]
      ];
    }
  where
    fits_aba : Fits braid 3 aba
    fits_aba = record { over = (omega arith, (omega arith, (omega arith, tt))); short = omega arith }

    fits_bab : Fits braid 3 bab
    fits_bab = record { over = (omega arith, (omega arith, (omega arith, tt))); short = omega arith }

    not_reduced : (u : Word) → u ≡ bab → IsReduced (Listed the_rules) u → ⊥
    not_reduced u e h = h aba (step_whole (Listed the_rules) TwoSided u aba (subst (λ w. Listed the_rules w aba) (sym e) (0, omega arith, refl)))

pub braid_rule : (u v : Word) → Listed ((bab, aba) ∷ []) u v ↔ Rule braid 3 u v
braid_rule = listed_rules braid 3 the_rules braid_rules

-- completion does not end
pub braid_does_not_end : CompletionEnds braid 3 → ⊥
braid_does_not_end = completion_fails braid 3 (record {
  a = ba;
  b = b1;
  c = ab;
  v = aba;
  w = aba;
  x = 0 ∷ 1 ∷ 0 ∷ 0 ∷ 1 ∷ [];
  y = 1 ∷ 0 ∷ 0 ∷ 1 ∷ 0 ∷ [];
  overlaps = λ e. cc;
  left = rule;
  right = rule;
  down_left = joined_refl (Step (Rule braid 3) TwoSided) (0 ∷ 1 ∷ 0 ∷ 0 ∷ 1 ∷ []);
  down_right = joined_refl (Step (Rule braid 3) TwoSided) (1 ∷ 0 ∷ 0 ∷ 1 ∷ 0 ∷ []);
  end_left = as_rules (0 ∷ 1 ∷ 0 ∷ 0 ∷ 1 ∷ []) (reduced_without (0 ∷ 1 ∷ 0 ∷ 0 ∷ 1 ∷ []) not_in_left);
  end_right = as_rules (1 ∷ 0 ∷ 0 ∷ 1 ∷ 0 ∷ []) (reduced_without (1 ∷ 0 ∷ 0 ∷ 1 ∷ 0 ∷ []) not_in_right);
  differ = λ e. cc;
})
  where
    rule : Rule braid 3 bab aba
    rule = (listed_rules braid 3 the_rules braid_rules bab aba).0 (0, omega arith, refl)

    as_rules : (u : Word) → IsReduced (Listed the_rules) u → IsReduced (Rule braid 3) u
    as_rules u h v s = h v (step_more (Rule braid 3) (Listed the_rules) TwoSided (λ l r m. (listed_rules braid 3 the_rules braid_rules l r).1 m) u v s)
