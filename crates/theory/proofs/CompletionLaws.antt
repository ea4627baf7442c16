-- Where completion ends, its rules are the reduced rules, and lead two words to one exactly where they are related.
use Rattle.std.proofs.Common.{◌≡◌, ℕ, ◌<◌, ◌≤◌, [], ◌∷◌, ◌++◌, length, refl, sym, ◌∙◌, ap, ap₂, subst, subst₂, arith, ◌⊎◌, inl, inr, append_assoc, append-nil, length-append}
use Rattle.std.proofs.lemmas.List.Elements.{All-contains}
use Rattle.std.proofs.lemmas.List.{nil_from_length, same_from_push}
use Rattle.theory.specs.Word.{Word, IsProperFactor}
use Rattle.theory.specs.ShortLex.{◌≺◌}
use Rattle.theory.specs.Congruence.{Presentation, EitherWay, IsWellFormed, of_presentation}
use Rattle.theory.specs.Chain.{Step, StepBy, Related}
use Rattle.theory.specs.Class.{IsLeast, IsNormal}
use Rattle.theory.specs.Completion.{Fits, Within, same, symmetric, transitive, relation, context, Rule, Reduces, IsReduced, Joinable, CompletionEnds}
use Rattle.theory.specs.declared.Kind.TheVariants.{TwoSided}
use Rattle.theory.proofs.Words.{order_cases, before_context, before_no_longer, before_irrefl, shortlex_induction, shorter_first, over_append, over_left, over_right}
use Rattle.theory.proofs.Chains.{joined_refl, joined_trans, joined_one, joined_least, step_kept, step_whole, related_congruence, related_by_relation}
use Rattle.theory.proofs.Related.{element_over, side_element, none_either}
use Rattle.theory.proofs.FactsLaws.{last_letter}
use Rattle.theory.proofs.Completeness.{normal_unique, joinable_trans, joinable_refl, joinable_context}

-- a factor that fills the word, or a shorter one
pub factor_cases : (x f y : Word) → ((x ≡ []) × (y ≡ [])) ⊎ (length f < length (x ++ (f ++ y)))
factor_cases [] f [] = inl (refl, refl)
factor_cases [] f (b ∷ y) = inr (omega (arith, length-append f (b ∷ y)))
factor_cases (a ∷ x) f y = inr (omega (arith, length-append x (f ++ y), length-append f y))

-- a proper factor is shorter
pub proper_shorter : (f u : Word) → IsProperFactor f u → length f < length u
proper_shorter f u h = elim (factor_cases h.factor.before f h.factor.after) [
  | inl e ↦ absurd (h.proper (sym (h.factor.is ∙ ap₂ (λ (a b : Word). a ++ (f ++ b)) e.0 e.1 ∙ append-nil f)))
  | inr less ↦ omega (arith, less, ap length h.factor.is)
]

module _ (p : Presentation) (L : ℕ) where
  pub within_left : {u v : Word} → Within p L u v → Fits p L u × Fits p L v
  within_left (same f) = (f, f)
  within_left (symmetric w) = let both = within_left w in (both.1, both.0)
  within_left (transitive v w) = ((within_left v).0, (within_left w).1)
  within_left (relation e f g) = (f, g)
  within_left (context u v x y w f g) = (f, g)

  -- a factor of a word that fits
  pub fits_factor : (x f y : Word) → Fits p L (x ++ (f ++ y)) → Fits p L f
  fits_factor x f y h =
      record {
        over = over_left p.letters f y (over_right p.letters x (f ++ y) h.over);
        short = omega (arith, h.short, length-append x (f ++ y), length-append f y);
      }

  -- a word that fits, with a factor replaced by a lesser one
  pub fits_replaced : (x f g y : Word) → Fits p L (x ++ (f ++ y)) → Fits p L g → g ≺ f → Fits p L (x ++ (g ++ y))
  fits_replaced x f g y h fits less =
      record {
        over =
            over_append p.letters x (g ++ y) (over_left p.letters x (f ++ y) h.over)
            (over_append p.letters g y fits.over (over_right p.letters f y (over_right p.letters x (f ++ y) h.over)));
        short =
            omega (arith, h.short, length-append x (f ++ y), length-append f y, length-append x (g ++ y), length-append g y, before_no_longer g f less);
      }

  -- a factor of a least word is least
  pub least_factor : (x f y : Word) → IsLeast (Within p L) (x ++ (f ++ y)) → IsLeast (Within p L) f
  least_factor x f y h =
      let fits = (within_left h.element).0 in
      record {
        element = same (fits_factor x f y fits);
        none_less = λ v w less.
            let fits' = fits_replaced x f v y fits (within_left w).1 less in
            h.none_less (x ++ (v ++ y)) (context f v x y w fits fits') (before_context x v f y less);
      }

  -- a step by a rule from a word that fits
  pub step_within : (u v : Word) → Fits p L u → Step (Rule p L) TwoSided u v → Within p L u v
  step_within u v fits s =
      let whole : Fits p L (s.before ++ (s.from ++ s.after)) = subst (λ w. Fits p L w) s.source fits in
      let rule = s.base in
      let next = fits_replaced s.before s.from s.to s.after whole (within_left rule.normal.related).1 rule.falls in
      subst₂ (λ a b. Within p L a b) (sym s.source) (sym s.target) (context s.from s.to s.before s.after rule.normal.related whole next)

  -- a least word is reduced
  pub least_reduced : (u : Word) → IsLeast (Within p L) u → IsReduced (Rule p L) u
  least_reduced u h v s =
      let part = least_factor s.before s.from s.after (subst (λ w. IsLeast (Within p L) w) s.source h) in
      part.none_less s.to s.base.normal.related s.base.falls

  -- no left side of a rule stands inside another
  pub rules_apart : (l r f g x y : Word) → Rule p L l r → Rule p L f g → l ≡ x ++ (f ++ y) → length f < length l → ⊥
  rules_apart l r f g x y h k e less =
      let proper : IsProperFactor f l = record { factor = record { before = x; after = y; is = e }; proper = λ d. omega (arith, ap length d) } in
      let part = h.factors f proper (same (within_left k.normal.related).0) in
      part.none_less g k.normal.related k.falls

  pub rule_falls : (l r : Word) → Rule p L l r → r ≺ l
  rule_falls l r h = h.falls

  -- what is related within L is related
  pub within_related : {u v : Word} → Within p L u v → Related (of_presentation p) u v
  within_related (same {u} f) = (related_congruence (of_presentation p)).reflexive u
  within_related (symmetric {u} {v} w) = (related_congruence (of_presentation p)).symmetric u v (within_related w)
  within_related (transitive {u} {v} {w} a b) = (related_congruence (of_presentation p)).transitive u v w (within_related a) (within_related b)
  within_related (relation {r} {s} e f g) =
      subst₂ (λ a b. Related (of_presentation p) a b) (append-nil r) (append-nil s) (related_by_relation (of_presentation p) [] r s [] e)
  within_related (context u v x y w f g) = (related_congruence (of_presentation p)).kept x y tt u v (within_related w)

  -- Each word that fits has a least word within L.
  module _ (normal : (u : Word) → Fits p L u → (v : Word) × IsNormal (Within p L) u v) where
    pub least_or : (u : Word) → Fits p L u → IsLeast (Within p L) u ⊎ ((v : Word) × IsNormal (Within p L) u v × (v ≺ u))
    least_or u fits =
        let n = normal u fits in
        elim (order_cases u n.0) [
          | inl l ↦ absurd (n.1.least.none_less u (symmetric n.1.related) l)
          | inr (inl e) ↦ inl (subst (λ w. IsLeast (Within p L) w) (sym e) n.1.least)
          | inr (inr g) ↦ inr (n.0, n.1, g)
        ]

    -- each proper factor is least where the word without its first letter is, and the word without its last
    factors_least : (a b : ℕ) (t i : Word) → a ∷ t ≡ i ++ b ∷ [] → IsLeast (Within p L) t → IsLeast (Within p L) i → (f : Word)
        → IsProperFactor f (a ∷ t) → IsLeast (Within p L) f
    factors_least a b t i e tail front f h = go h.factor.before h.factor.after h.factor.is
      where
        go : (x y : Word) → a ∷ t ≡ x ++ (f ++ y) → IsLeast (Within p L) f
        go (d ∷ x) y is =
            let rest : t ≡ x ++ (f ++ y) = cc in
            least_factor x f y (subst (λ w. IsLeast (Within p L) w) rest tail)
        go [] y is = elim (last_letter y) [
          | inl n ↦ absurd (h.proper (sym (is ∙ ap (λ w. f ++ w) n ∙ append-nil f)))
          | inr l ↦
              least_factor [] f l.0
              (subst (λ w. IsLeast (Within p L) w)
              (same_from_push i (f ++ l.0) b l.1 (sym e ∙ is ∙ ap (λ w. f ++ w) l.2 ∙ sym (append_assoc f l.0 (l.1 ∷ [])))).0 front)
        ]

    -- a rule applies to a word that is not least
    rule_inside : (u v : Word) → IsNormal (Within p L) u v → v ≺ u → (w : Word) × Step (Rule p L) TwoSided u w
    rule_inside = shortlex_induction (λ u. (v : Word) → IsNormal (Within p L) u v → v ≺ u → (w : Word) × Step (Rule p L) TwoSided u w) at
      where
        at : (u : Word) → ((t : Word) → t ≺ u → (v : Word) → IsNormal (Within p L) t v → v ≺ t → (w : Word) × Step (Rule p L) TwoSided t w)
            → (v : Word) → IsNormal (Within p L) u v → v ≺ u → (w : Word) × Step (Rule p L) TwoSided u w
        at [] later v n less = absurd (before_irrefl [] (subst (λ w. w ≺ []) (nil_from_length v (omega (arith, before_no_longer v [] less))) less))
        at (a ∷ t) later v n less = elim (least_or t tail_fits) [
          | inr w ↦ in_tail (later t (shorter_first t (a ∷ t) (omega arith)) w.0 w.1 w.2)
          | inl tail ↦ elim (last_letter (a ∷ t)) [
            | inl e ↦ cc
            | inr l ↦ elim (least_or l.0 (front_fits l.0 l.1 l.2)) [
              | inr w ↦
                  in_front l.0 l.1 l.2
                  (later l.0 (shorter_first l.0 (a ∷ t) (omega (arith, ap length l.2, length-append l.0 (l.1 ∷ [])))) w.0 w.1 w.2)
              | inl front ↦ whole (record { normal = n; falls = less; factors = λ f h d. factors_least a l.1 t l.0 l.2 tail front f h })
            ]
          ]
        ]
          where
            fits : Fits p L (a ∷ t)
            fits = (within_left n.related).0

            tail_fits : Fits p L t
            tail_fits = record { over = (within_left n.related).0.over.1; short = omega (arith, (within_left n.related).0.short) }

            front_fits : (i : Word) (b : ℕ) → a ∷ t ≡ i ++ b ∷ [] → Fits p L i
            front_fits i b e = fits_factor [] i (b ∷ []) (subst (λ w. Fits p L w) e (within_left n.related).0)

            in_tail : (w : Word) × Step (Rule p L) TwoSided t w → (w : Word) × Step (Rule p L) TwoSided (a ∷ t) w
            in_tail r =
                let s = r.1 in (
                  a ∷ r.0,
                  record {
                    before = a ∷ s.before;
                    from = s.from;
                    to = s.to;
                    after = s.after;
                    base = s.base;
                    place = tt;
                    source = ap (λ w. a ∷ w) s.source;
                    target = ap (λ w. a ∷ w) s.target;
                  },
                )

            in_front : (i : Word) (b : ℕ) → a ∷ t ≡ i ++ b ∷ [] → (w : Word) × Step (Rule p L) TwoSided i w
                → (w : Word) × Step (Rule p L) TwoSided (a ∷ t) w
            in_front i b e r =
                let s = step_kept (Rule p L) TwoSided i r.0 [] (b ∷ []) r.1 tt in
                (r.0 ++ b ∷ [], subst (λ w. Step (Rule p L) TwoSided w (r.0 ++ b ∷ [])) (sym e) s)

            whole : Rule p L (a ∷ t) v → (w : Word) × Step (Rule p L) TwoSided (a ∷ t) w
            whole rule = (v, step_whole (Rule p L) TwoSided (a ∷ t) v rule)

    -- the rules lead each word that fits to a least one
    pub reduces_to_least : (u : Word) → Fits p L u → (v : Word) × Reduces (Rule p L) u v × IsNormal (Within p L) u v
    reduces_to_least = shortlex_induction (λ u. Fits p L u → (v : Word) × Reduces (Rule p L) u v × IsNormal (Within p L) u v) at
      where
        at : (u : Word) → ((t : Word) → t ≺ u → Fits p L t → (v : Word) × Reduces (Rule p L) t v × IsNormal (Within p L) t v) → Fits p L u
            → (v : Word) × Reduces (Rule p L) u v × IsNormal (Within p L) u v
        at u later fits = elim (least_or u fits) [
          | inl least ↦ (u, joined_refl (Step (Rule p L) TwoSided) u, record { related = same fits; least = least })
          | inr n ↦ go (rule_inside u n.0 n.1 n.2)
        ]
          where
            go : (w : Word) × Step (Rule p L) TwoSided u w → (v : Word) × Reduces (Rule p L) u v × IsNormal (Within p L) u v
            go r =
                let one = step_within u r.0 fits r.1 in
                let falls : r.0 ≺ u =
                subst₂ (λ a b. a ≺ b) (sym r.1.target) (sym r.1.source) (before_context r.1.before r.1.to r.1.from r.1.after r.1.base.falls) in
                let rest = later r.0 falls (within_left one).1 in (
                  rest.0,
                  joined_trans (Step (Rule p L) TwoSided) u r.0 rest.0 (joined_one (Step (Rule p L) TwoSided) u r.0 r.1) rest.1,
                  record { related = transitive one rest.2.related; least = rest.2.least },
                )

    -- the rules lead words that are related within L to one word
    pub within_joinable : (u v : Word) → Within p L u v → Joinable (Rule p L) u v
    within_joinable u v w =
        let a = reduces_to_least u (within_left w).0 in
        let b = reduces_to_least v (within_left w).1 in
        let one : a.0 ≡ b.0 = normal_unique (Within p L) (λ x y h. symmetric h) (λ x y z h k. transitive h k) u a.0 b.0 a.2 (record {
          related = transitive w b.2.related;
          least = b.2.least;
        }) in
        record { word = a.0; left = a.1; right = subst (λ x. Reduces (Rule p L) v x) (sym one) b.1 }

    module _ (is : IsWellFormed (of_presentation p)) (ends : CompletionEnds p L) where
      relation_joinable : (r s : Word) → EitherWay p.relations r s → Joinable (Rule p L) r s
      relation_joinable r s e =
          let sides = side_element p.is_monoid p.letters p.relations r s is.relations e in
          let short : (length r ≤ L) × (length s ≤ L) = short_sides e in
          within_joinable r s
          (relation e (record { over = element_over p.is_monoid p.letters r sides.0; short = short.0 })
          (record { over = element_over p.is_monoid p.letters s sides.1; short = short.1 }))
        where
          short_sides : EitherWay p.relations r s → (length r ≤ L) × (length s ≤ L)
          short_sides e = elim e [
            | inl a ↦ All-contains (λ (q : Word × Word). (length q.0 ≤ L) × (length q.1 ≤ L)) p.relations (r, s) ends.fits a
            | inr b ↦ let both = All-contains (λ (q : Word × Word). (length q.0 ≤ L) × (length q.1 ≤ L)) p.relations (s, r) ends.fits b in (
              both.1,
              both.0,
            )
          ]

      -- the rules lead related words to one word
      pub related_joinable : (u v : Word) → Related (of_presentation p) u v → Joinable (Rule p L) u v
      related_joinable =
          joined_least (StepBy (EitherWay p.relations) TwoSided []) (Joinable (Rule p L)) (joinable_refl (Rule p L))
          (joinable_trans (Rule p L) rules_apart ends.join rule_falls) one
        where
          one : (u v : Word) → StepBy (EitherWay p.relations) TwoSided [] u v → Joinable (Rule p L) u v
          one u v s = elim s [
            | inl a ↦
                subst₂ (λ x y. Joinable (Rule p L) x y) (sym a.source) (sym a.target)
                (joinable_context (Rule p L) a.before a.from a.to a.after (relation_joinable a.from a.to a.base))
            | inr b ↦ absurd (none_either b.from b.to b.base)
          ]

  -- the rules lead only to related words
  pub reduces_related : (u v : Word) → Reduces (Rule p L) u v → Related (of_presentation p) u v
  reduces_related =
      let known = related_congruence (of_presentation p) in
      joined_least (Step (Rule p L) TwoSided) (Related (of_presentation p)) known.reflexive known.transitive one
    where
      one : (u v : Word) → Step (Rule p L) TwoSided u v → Related (of_presentation p) u v
      one u v s =
          subst₂ (λ x y. Related (of_presentation p) x y) (sym s.source) (sym s.target)
          ((related_congruence (of_presentation p)).kept s.before s.after tt s.from s.to (within_related s.base.normal.related))

  pub joinable_related : (u v : Word) → Joinable (Rule p L) u v → Related (of_presentation p) u v
  joinable_related u v h =
      let known = related_congruence (of_presentation p) in
      known.transitive u h.word v (reduces_related u h.word h.left) (known.symmetric v h.word (reduces_related v h.word h.right))
