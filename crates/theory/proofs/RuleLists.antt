-- A list of rules that completion keeps is the list of its rules.
use Rattle.std.proofs.Common.{◌≡◌, ℕ, zero, suc, ◌<◌, List, [], ◌∷◌, ◌++◌, length, refl, sym, ◌∙◌, ap, ap₂, subst, subst₂, arith, ◌⊎◌, inl, inr, ◌↔◌, append_assoc, append-nil, length-append}
use Rattle.theory.specs.Word.{Word, IsProperFactor}
use Rattle.theory.specs.ShortLex.{◌≺◌}
use Rattle.theory.specs.Congruence.{Presentation}
use Rattle.theory.specs.Chain.{Step}
use Rattle.theory.specs.Class.{IsLeast}
use Rattle.theory.specs.Completion.{Fits, Within, same, symmetric, transitive, context, Rule, IsReduced, Listed, AreRules, Reduces, OverlapsJoin}
use Rattle.theory.specs.declared.Kind.TheVariants.{TwoSided}
use Rattle.theory.proofs.Words.{before_irrefl, before_trans, shortlex_induction}
use Rattle.theory.proofs.Counting.{in_from_contains, contains_from_in}
use Rattle.theory.proofs.Completeness.{normal_unique, step_falls}
use Rattle.theory.proofs.Chains.{joined_map, step_more}
use Rattle.theory.proofs.CompletionLaws.{within_left, fits_replaced, factor_cases, proper_shorter}
use Rattle.theory.proofs.WithinDecides.{find_in}

-- whether a word stands at the front of another
front_decides : (f u : Word) → ((y : Word) × (u ≡ f ++ y)) ⊎ ((y : Word) → u ≡ f ++ y → ⊥)
front_decides [] u = inl (u, refl)
front_decides (a ∷ f) [] = inr (λ y e. cc)
front_decides (a ∷ f) (b ∷ u) = elim (letter_decides a b) [
  | inl e ↦ elim (front_decides f u) [
    | inl r ↦ inl (r.0, ap₂ (λ (x : ℕ) (xs : Word). x ∷ xs) (sym e) r.1)
    | inr n ↦ inr (λ y d. let rest : u ≡ f ++ y = cc in n y rest)
  ]
  | inr n ↦ inr (λ y d. let same : a ≡ b = cc in n same)
]
  where
    letter_decides : (a b : ℕ) → (a ≡ b) ⊎ (a ≡ b → ⊥)
    letter_decides zero zero = inl refl
    letter_decides zero (suc b) = inr (λ e. omega arith)
    letter_decides (suc a) zero = inr (λ e. omega arith)
    letter_decides (suc a) (suc b) = elim (letter_decides a b) [ inl e ↦ inl (ap suc e) | inr n ↦ inr (λ e. n (omega arith)) ]

not_in_nil : (f : Word) → ((y : Word) → [] ≡ f ++ y → ⊥) → (x y : Word) → [] ≡ x ++ (f ++ y) → ⊥
not_in_nil f n [] y e = n y e
not_in_nil f n (a ∷ x) y e = cc

not_in_cons : (f : Word) (b : ℕ) (u : Word) → ((y : Word) → b ∷ u ≡ f ++ y → ⊥) → ((x y : Word) → u ≡ x ++ (f ++ y) → ⊥) → (x y : Word)
    → b ∷ u ≡ x ++ (f ++ y) → ⊥
not_in_cons f b u n m [] y e = n y e
not_in_cons f b u n m (a ∷ x) y e = let rest : u ≡ x ++ (f ++ y) = cc in m x y rest

-- whether a word stands anywhere in another
pub factor_decides : (f u : Word) → ((x : Word) × (y : Word) × (u ≡ x ++ (f ++ y))) ⊎ ((x y : Word) → u ≡ x ++ (f ++ y) → ⊥)
factor_decides f [] = elim (front_decides f []) [ inl r ↦ inl ([], r.0, r.1) | inr n ↦ inr (not_in_nil f n) ]
factor_decides f (b ∷ u) = elim (front_decides f (b ∷ u)) [
  | inl r ↦ inl ([], r.0, r.1)
  | inr n ↦ elim (factor_decides f u) [
    | inl r ↦ inl (b ∷ r.0, r.1, ap (λ w. b ∷ w) r.2)
    | inr m ↦ inr (not_in_cons f b u n m)
  ]
]

-- a listed rule applies, or the word is reduced
pub step_or_reduced : (rules : List (Word × Word)) (u : Word) → ((v : Word) × Step (Listed rules) TwoSided u v) ⊎ IsReduced (Listed rules) u
step_or_reduced rules u = elim (find_in (λ (q : Word × Word). (x : Word) × (y : Word) × (u ≡ x ++ (q.0 ++ y))) decides rules) [
  | inl r ↦ let at = r.2 in inl (
    at.0 ++ (r.0.1 ++ at.1),
    record { before = at.0; from = r.0.0; to = r.0.1; after = at.1; base = contains_from_in r.0 rules r.1; place = tt; source = at.2; target = refl },
  )
  | inr none ↦ inr (λ v s. none (s.from, s.to) (in_from_contains (s.from, s.to) rules s.base) (s.before, s.after, s.source))
]
  where
    decides : (q : Word × Word) → ((x : Word) × (y : Word) × (u ≡ x ++ (q.0 ++ y))) ⊎ ((x : Word) × (y : Word) × (u ≡ x ++ (q.0 ++ y)) → ⊥)
    decides q = elim (factor_decides q.0 u) [ inl r ↦ inl r | inr n ↦ inr (λ h. n h.0 h.1 h.2) ]

module _ (p : Presentation) (L : ℕ) (rules : List (Word × Word)) (are : AreRules p L rules) where
  listed_within : (u v : Word) → Fits p L u → Step (Listed rules) TwoSided u v → Within p L u v
  listed_within u v fits s =
      let whole : Fits p L (s.before ++ (s.from ++ s.after)) = subst (λ w. Fits p L w) s.source fits in
      let known = are.related s.from s.to s.base in
      let next = fits_replaced p L s.before s.from s.to s.after whole (within_left p L known).1 (are.falls s.from s.to s.base) in
      subst₂ (λ a b. Within p L a b) (sym s.source) (sym s.target) (context s.from s.to s.before s.after known whole next)

  -- each word that fits leads to a reduced one
  to_reduced : (u : Word) → Fits p L u → (v : Word) × Within p L u v × IsReduced (Listed rules) v × ((v ≡ u) ⊎ (v ≺ u))
  to_reduced = shortlex_induction (λ u. Fits p L u → (v : Word) × Within p L u v × IsReduced (Listed rules) v × ((v ≡ u) ⊎ (v ≺ u))) at
    where
      at : (u : Word) → ((t : Word) → t ≺ u → Fits p L t → (v : Word) × Within p L t v × IsReduced (Listed rules) v × ((v ≡ t) ⊎ (v ≺ t)))
          → Fits p L u → (v : Word) × Within p L u v × IsReduced (Listed rules) v × ((v ≡ u) ⊎ (v ≺ u))
      at u later fits = elim (step_or_reduced rules u) [
        | inl s ↦
            let one = listed_within u s.0 fits s.1 in
            let less = step_falls (Listed rules) are.falls u s.0 s.1 in
            let rest = later s.0 less (within_left p L one).1 in (
              rest.0,
              transitive one rest.1,
              rest.2,
              inr (elim rest.3 [ inl e ↦ subst (λ w. w ≺ u) (sym e) less | inr l ↦ before_trans rest.0 s.0 u l less ]),
            )
        | inr reduced ↦ (u, same fits, reduced, inl refl)
      ]

  -- reduced words are least
  reduced_least : (u : Word) → Fits p L u → IsReduced (Listed rules) u → IsLeast (Within p L) u
  reduced_least u fits reduced =
      record {
        element = same fits;
        none_less = λ v w less.
            let r = to_reduced v (within_left p L w).1 in
            let one : u ≡ r.0 = are.full u r.0 (transitive w r.1) reduced r.2 in
            elim r.3 [
              | inl e ↦ before_irrefl u (subst (λ x. x ≺ u) (sym (one ∙ e)) less)
              | inr l ↦ before_irrefl u (before_trans u v u (subst (λ x. x ≺ v) (sym one) l) less)
            ];
      }

  listed_rule : (u v : Word) → Listed rules u v → Rule p L u v
  listed_rule u v m =
      let known = are.related u v m in
      record {
        normal = record { related = known; least = reduced_least v (within_left p L known).1 (are.reduced u v m) };
        falls = are.falls u v m;
        factors = λ f h e. reduced_least f (within_left p L e).0 (λ w s. inside f h w s);
      }
    where
      inside : (f : Word) → IsProperFactor f u → (w : Word) → Step (Listed rules) TwoSided f w → ⊥
      inside f h w s =
          let x = h.factor.before in
          let y = h.factor.after in
          let is : u ≡ (x ++ s.before) ++ (s.from ++ (s.after ++ y)) = h.factor.is ∙ regrouped x s.before s.from s.after y f s.source in
          are.apart u v s.from s.to m s.base (record {
            factor = record { before = x ++ s.before; after = s.after ++ y; is = is };
            proper =
                λ e. omega (arith, proper_shorter f u h, ap length e, ap length s.source, length-append s.before (s.from ++ s.after), length-append s.from s.after);
          })
        where
          regrouped : (x before from after y f : Word) → f ≡ before ++ (from ++ after)
              → x ++ (f ++ y) ≡ (x ++ before) ++ (from ++ (after ++ y))
          regrouped x before from after y f e = rw e (simp append_assoc)

  rule_listed : (u v : Word) → Rule p L u v → Listed rules u v
  rule_listed u v h = elim (step_or_reduced rules u) [
    | inr reduced ↦ absurd ((reduced_least u (within_left p L h.normal.related).0 reduced).none_less v h.normal.related h.falls)
    | inl s ↦ elim (factor_cases s.1.before s.1.from s.1.after) [
      | inr less ↦ absurd (inside s.0 s.1 less)
      | inl e ↦ whole s.0 s.1 e
    ]
  ]
    where
      inside : (w : Word) (s : Step (Listed rules) TwoSided u w) → length s.from < length (s.before ++ (s.from ++ s.after)) → ⊥
      inside w s less =
          let known = are.related s.from s.to s.base in
          let proper : IsProperFactor s.from u = record {
            factor = record { before = s.before; after = s.after; is = s.source };
            proper = λ e. omega (arith, ap length e, ap length s.source);
          } in
          (h.factors s.from proper (same (within_left p L known).0)).none_less s.to known (are.falls s.from s.to s.base)

      whole : (w : Word) (s : Step (Listed rules) TwoSided u w) → (s.before ≡ []) × (s.after ≡ []) → Listed rules u v
      whole w s e =
          let all : u ≡ s.from = s.source ∙ ap₂ (λ (a b : Word). a ++ (s.from ++ b)) e.0 e.1 ∙ append-nil s.from in
          let listed : Listed rules u s.to = subst (λ x. Listed rules x s.to) (sym all) s.base in
          let rule = listed_rule u s.to listed in
          let one : s.to ≡ v = normal_unique (Within p L) (λ x y r. symmetric r) (λ x y z r q. transitive r q) u s.to v rule.normal h.normal in
          subst (λ x. Listed rules u x) one listed

  -- the list is the list of the rules
  pub listed_rules : (u v : Word) → Listed rules u v ↔ Rule p L u v
  listed_rules u v = (listed_rule u v, rule_listed u v)

  listed_step : (u v : Word) → Step (Listed rules) TwoSided u v ↔ Step (Rule p L) TwoSided u v
  listed_step u v = (
    step_more (Listed rules) (Rule p L) TwoSided listed_rule u v,
    step_more (Rule p L) (Listed rules) TwoSided rule_listed u v,
  )

  -- what the list leads to, the rules lead to
  pub listed_reduces : (u v : Word) → Reduces (Listed rules) u v ↔ Reduces (Rule p L) u v
  listed_reduces u v = (
    joined_map (Step (Listed rules) TwoSided) (Step (Rule p L) TwoSided) (λ w. w) (λ x y. (listed_step x y).0) u v,
    joined_map (Step (Rule p L) TwoSided) (Step (Listed rules) TwoSided) (λ w. w) (λ x y. (listed_step x y).1) u v,
  )

  pub listed_reduced : (u : Word) → IsReduced (Listed rules) u ↔ IsReduced (Rule p L) u
  listed_reduced u = (λ h v s. h v ((listed_step u v).1 s), λ h v s. h v ((listed_step u v).0 s))

  -- it is enough to test the overlaps of the list
  pub listed_overlaps : OverlapsJoin (Listed rules) → OverlapsJoin (Rule p L)
  listed_overlaps joins a b c v w full r s =
      let j = joins a b c v w full (rule_listed (a ++ b) v r) (rule_listed (b ++ c) w s) in
      record { word = j.word; left = (listed_reduces (v ++ c) j.word).0 j.left; right = (listed_reduces (a ++ w) j.word).0 j.right }
