-- Rules that are linked up lead the words within the bound that are related to one word.
use Rattle.std.proofs.Common.{◌≡◌, ◌≢◌, ℕ, ◌<◌, ◌≤◌, List, [], ◌∷◌, ◌++◌, length, sym, ◌∙◌, ap, subst, subst₂, arith, inl, inr, append_assoc, append-nil, length-append}
use Rattle.std.proofs.lemmas.Bool.{cases_lt}
use Rattle.theory.specs.Word.{Word}
use Rattle.theory.specs.ShortLex.{◌≺◌}
use Rattle.theory.specs.Congruence.{Presentation}
use Rattle.theory.specs.Chain.{Step, Chain}
use Rattle.theory.specs.Completion.{Within, same, symmetric, transitive, relation, context, Reduces, IsReduced, Joinable, Listed, AreRules}
use Rattle.theory.specs.declared.Kind.TheVariants.{TwoSided}
use Rattle.theory.proofs.Words.{cut_between, before_context, before_no_longer, before_trans, shortlex_induction}
use Rattle.theory.proofs.Chains.{joined_refl, joined_trans, joined_one, step_at}
use Rattle.theory.proofs.Completeness.{joinable_context, joinable_symm, joinable_refl, parts_behind, parts_before, parts_left, parts_right, step_falls, reduced_stays}
use Rattle.theory.proofs.CompletionLaws.{within_left}
use Rattle.knuth_bendix.specs.Links.{LinkStep, Linked, IsBelow, IsShort, IsLinkedUp}
use Rattle.knuth_bendix.proofs.LinkLaws.{linked_trans, linked_symm, linked_one, linked_context}

-- regroupings of a word in parts
parts_overlap : (x z m n y l s : Word) → l ≡ z ++ m → s ≡ n ++ y → x ++ ((z ++ (m ++ n)) ++ y) ≡ x ++ (l ++ s)
parts_overlap x z m n y l s e d = rw (e, d) (simp append_assoc)

module _ (p : Presentation) (L : ℕ) (rules : List (Word × Word)) (up : IsLinkedUp p L (Listed rules) rules) where
  -- two steps from one word, the first place no later than the second
  ordered : (w x₁ l₁ r₁ y₁ x₂ l₂ r₂ y₂ : Word) → Listed rules l₁ r₁ → Listed rules l₂ r₂ → w ≡ x₁ ++ (l₁ ++ y₁) → w ≡ x₂ ++ (l₂ ++ y₂)
      → length w ≤ L → length x₁ ≤ length x₂ → Linked (Listed rules) (IsBelow w) (x₁ ++ (r₁ ++ y₁)) (x₂ ++ (r₂ ++ y₂))
  ordered w x₁ l₁ r₁ y₁ x₂ l₂ r₂ y₂ h₁ h₂ e₁ e₂ short first =
      let z = cut_between x₁ (l₁ ++ y₁) x₂ (l₂ ++ y₂) (sym e₁ ∙ e₂) first in
      elim (cases_lt (length z.0) (length l₁)) [
        | inl less ↦ overlapping z.0 z.1 z.2 less
        | inr more ↦ disjoint z.0 z.1 z.2 more
      ]
    where
      one : (w x l r y : Word) → Listed rules l r → w ≡ x ++ (l ++ y) → (x ++ (r ++ y)) ≺ w
      one w x l r y h e = subst (λ t. (x ++ (r ++ y)) ≺ t) (sym e) (before_context x r l y (up.falls l r h))

      disjoint : (z : Word) → x₂ ≡ x₁ ++ z → l₁ ++ y₁ ≡ z ++ (l₂ ++ y₂) → length l₁ ≤ length z
          → Linked (Listed rules) (IsBelow w) (x₁ ++ (r₁ ++ y₁)) (x₂ ++ (r₂ ++ y₂))
      disjoint z ex ez h =
          let m = cut_between l₁ y₁ z (l₂ ++ y₂) ez h in
          let from₁ : (x₁ ++ (r₁ ++ m.0)) ++ (l₂ ++ y₂) ≡ x₁ ++ (r₁ ++ y₁) = parts_behind x₁ r₁ m.0 (l₂ ++ y₂) y₁ m.2 in
          let from₂ : x₁ ++ (l₁ ++ (m.0 ++ (r₂ ++ y₂))) ≡ x₂ ++ (r₂ ++ y₂) = parts_before x₁ l₁ m.0 (r₂ ++ y₂) z x₂ ex m.1 in
          let to : (x₁ ++ (r₁ ++ m.0)) ++ (r₂ ++ y₂) ≡ x₁ ++ (r₁ ++ (m.0 ++ (r₂ ++ y₂))) = simp append_assoc in
          let a : Step (Listed rules) TwoSided (x₁ ++ (r₁ ++ y₁)) (x₁ ++ (r₁ ++ (m.0 ++ (r₂ ++ y₂)))) =
          subst₂ (λ p q. Step (Listed rules) TwoSided p q) from₁ to (step_at (Listed rules) (x₁ ++ (r₁ ++ m.0)) l₂ r₂ y₂ h₂) in
          let b : Step (Listed rules) TwoSided (x₂ ++ (r₂ ++ y₂)) (x₁ ++ (r₁ ++ (m.0 ++ (r₂ ++ y₂)))) =
          subst (λ p. Step (Listed rules) TwoSided p (x₁ ++ (r₁ ++ (m.0 ++ (r₂ ++ y₂))))) from₂ (step_at (Listed rules) x₁ l₁ r₁ (m.0 ++ (r₂ ++ y₂)) h₁) in
          meet (x₁ ++ (r₁ ++ y₁)) (x₂ ++ (r₂ ++ y₂)) (x₁ ++ (r₁ ++ (m.0 ++ (r₂ ++ y₂)))) (one w x₁ l₁ r₁ y₁ h₁ e₁) (one w x₂ l₂ r₂ y₂ h₂ e₂) a b
        where
          meet : (u v t : Word) → u ≺ w → v ≺ w → Step (Listed rules) TwoSided u t → Step (Listed rules) TwoSided v t
              → Linked (Listed rules) (IsBelow w) u v
          meet u v t left right a b =
              let under : t ≺ w = before_trans t u w (step_falls (Listed rules) up.falls u t a) left in
              linked_trans (Listed rules) (IsBelow w) u t v (linked_one (Listed rules) (IsBelow w) u t left under a)
              (linked_symm (Listed rules) (IsBelow w) v t (linked_one (Listed rules) (IsBelow w) v t right under b))

      overlapping : (z : Word) → x₂ ≡ x₁ ++ z → l₁ ++ y₁ ≡ z ++ (l₂ ++ y₂) → length z < length l₁
          → Linked (Listed rules) (IsBelow w) (x₁ ++ (r₁ ++ y₁)) (x₂ ++ (r₂ ++ y₂))
      overlapping z ex ez h =
          let m = cut_between z (l₂ ++ y₂) l₁ y₁ (sym ez) (omega arith) in
          elim (cases_lt (length l₂) (length m.0)) [
            | inl less ↦
                let n = cut_between l₂ y₂ m.0 y₁ m.2 (omega arith) in
                absurd (inside z m.0 n.0 m.1 n.1 less)
            | inr more ↦ let n = cut_between m.0 y₁ l₂ y₂ (sym m.2) more in shared z m.0 n.0 ex m.1 n.1 n.2 h
          ]
        where
          inside : (z m n : Word) → l₁ ≡ z ++ m → m ≡ l₂ ++ n → length l₂ < length m → ⊥
          inside z m n e d less =
              up.apart l₁ r₁ l₂ r₂ h₁ h₂ (record {
                factor = record { before = z; after = n; is = e ∙ ap (λ w. z ++ w) d };
                proper = λ same. omega (arith, ap length same, ap length e, length-append z m);
              })

          shared : (z m n : Word) → x₂ ≡ x₁ ++ z → l₁ ≡ z ++ m → l₂ ≡ m ++ n → y₁ ≡ n ++ y₂ → length z < length l₁
              → Linked (Listed rules) (IsBelow w) (x₁ ++ (r₁ ++ y₁)) (x₂ ++ (r₂ ++ y₂))
          shared z m n ex em en ey h =
              let full : m ≢ [] = λ e. omega (arith, ap length em, length-append z m, ap length e) in
              let whole : x₁ ++ ((z ++ (m ++ n)) ++ y₂) ≡ w = parts_overlap x₁ z m n y₂ l₁ y₁ em ey ∙ sym e₁ in
              let fits : length (z ++ (m ++ n)) ≤ L =
              omega (arith, ap length whole, length-append x₁ ((z ++ (m ++ n)) ++ y₂), length-append (z ++ (m ++ n)) y₂) in
              let part = up.overlaps z m n r₁ r₂ full (subst (λ t. Listed rules t r₁) em h₁) (subst (λ t. Listed rules t r₂) en h₂) fits in
              let both = linked_context (Listed rules) (IsBelow (z ++ (m ++ n))) (IsBelow w) x₁ y₂
              (λ t less. subst (λ s. (x₁ ++ (t ++ y₂)) ≺ s) whole (before_context x₁ t (z ++ (m ++ n)) y₂ less)) (r₁ ++ n) (z ++ r₂) part in
              subst₂ (λ p q. Linked (Listed rules) (IsBelow w) p q) (parts_left x₁ r₁ n y₂ y₁ ey) (parts_right x₁ z r₂ y₂ x₂ ex) both

  -- two steps from one word lead to words that are linked below it
  pub local_linked : (w u v : Word) → length w ≤ L → Step (Listed rules) TwoSided w u → Step (Listed rules) TwoSided w v
      → Linked (Listed rules) (IsBelow w) u v
  local_linked w u v short a b = subst₂ (λ p q. Linked (Listed rules) (IsBelow w) p q) (sym a.target) (sym b.target) both
    where
      both : Linked (Listed rules) (IsBelow w) (a.before ++ (a.to ++ a.after)) (b.before ++ (b.to ++ b.after))
      both = elim (cases_lt (length a.before) (length b.before)) [
        | inl less ↦
            ordered w a.before a.from a.to a.after b.before b.from b.to b.after a.base b.base a.source b.source short (omega arith)
        | inr more ↦
            linked_symm (Listed rules) (IsBelow w) (b.before ++ (b.to ++ b.after)) (a.before ++ (a.to ++ a.after))
            (ordered w b.before b.from b.to b.after a.before a.from a.to a.after b.base a.base b.source a.source short more)
      ]

  -- any two ways from u lead to one word
  abbrev IsConfluent : Word → Type 0
  IsConfluent u = (v w : Word) → Reduces (Listed rules) u v → Reduces (Listed rules) u w → Joinable (Listed rules) v w

  joinable_by : (u v w : Word) → IsConfluent v → Joinable (Listed rules) u v → Joinable (Listed rules) v w → Joinable (Listed rules) u w
  joinable_by u v w h a b =
      let c = h a.word b.word a.right b.left in
      record {
        word = c.word;
        left = joined_trans (Step (Listed rules) TwoSided) u a.word c.word a.left c.left;
        right = joined_trans (Step (Listed rules) TwoSided) w b.word c.word b.right c.right;
      }

  -- words that are linked through confluent ones lead to one word
  joinable_linked : (Q : Word → Type 0) → ((t : Word) → Q t → IsConfluent t) → (u v : Word) → Linked (Listed rules) Q u v
      → Joinable (Listed rules) u v
  joinable_linked Q good u v r = go u r.0 r.1
    where
      step : (u w : Word) → Step (Listed rules) TwoSided u w → Joinable (Listed rules) u w
      step u w s = record {
        word = w;
        left = joined_one (Step (Listed rules) TwoSided) u w s;
        right = joined_refl (Step (Listed rules) TwoSided) w;
      }

      one : (u w : Word) → LinkStep (Listed rules) Q u w → Joinable (Listed rules) u w
      one u w h = elim (h.step) [ inl a ↦ step u w a | inr b ↦ joinable_symm (Listed rules) w u (step w u b) ]

      go : (u : Word) (ws : List Word) → Chain (LinkStep (Listed rules) Q) u ws v → Joinable (Listed rules) u v
      go u [] e = subst (λ x. Joinable (Listed rules) u x) e (joinable_refl (Listed rules) u)
      go u (w ∷ ws) c = joinable_by u w v (good w (c.0).right) (one u w c.0) (go w ws c.1)

  -- Newman's lemma within the bound
  pub bounded_confluent : (u : Word) → length u ≤ L → IsConfluent u
  bounded_confluent = shortlex_induction (λ u. length u ≤ L → IsConfluent u) at
    where
      at : (u : Word) → ((t : Word) → t ≺ u → length t ≤ L → IsConfluent t) → length u ≤ L → IsConfluent u
      at u later short v w a b = go a.0 a.1 b.0 b.1
        where
          below : (t : Word) → t ≺ u → IsConfluent t
          below t less = later t less (omega (arith, before_no_longer t u less))

          go : (vs : List Word) → Chain (Step (Listed rules) TwoSided) u vs v → (ws : List Word) → Chain (Step (Listed rules) TwoSided) u ws w
              → Joinable (Listed rules) v w
          go [] e ws c =
              record { word = w; left = subst (λ x. Reduces (Listed rules) x w) e (ws, c); right = joined_refl (Step (Listed rules) TwoSided) w }
          go (v₁ ∷ vs) c [] e =
              record { word = v; left = joined_refl (Step (Listed rules) TwoSided) v; right = subst (λ x. Reduces (Listed rules) x v) e (v₁ ∷ vs, c) }
          go (v₁ ∷ vs) c (w₁ ∷ ws) d =
              let t = joinable_linked (IsBelow u) below v₁ w₁ (local_linked u v₁ w₁ short c.0 d.0) in
              let s = below v₁ (step_falls (Listed rules) up.falls u v₁ c.0) v t.word (vs, c.1) t.left in
              let q = below w₁ (step_falls (Listed rules) up.falls u w₁ d.0) s.word w
              (joined_trans (Step (Listed rules) TwoSided) w₁ t.word s.word t.right s.right) (ws, d.1) in
              record { word = q.word; left = joined_trans (Step (Listed rules) TwoSided) v s.word q.word s.left q.left; right = q.right }

  -- the words to which a short overlap leads lead to one word
  pub short_overlaps : (a b c v w : Word) → Listed rules (a ++ b) v → Listed rules (b ++ c) w → length (a ++ (b ++ c)) ≤ L → Joinable (Listed rules) (v ++ c) (a ++ w)
  short_overlaps a b c v w m n short =
      bounded_confluent (a ++ (b ++ c)) short (v ++ c) (a ++ w)
      (joined_one (Step (Listed rules) TwoSided) (a ++ (b ++ c)) (v ++ c)
      (subst (λ t. Step (Listed rules) TwoSided t (v ++ c)) (append_assoc a b c) (step_at (Listed rules) [] (a ++ b) v c m)))
      (joined_one (Step (Listed rules) TwoSided) (a ++ (b ++ c)) (a ++ w)
      (subst₂ (λ s t. Step (Listed rules) TwoSided (a ++ s) (a ++ t)) (append-nil (b ++ c)) (append-nil w) (step_at (Listed rules) a (b ++ c) w [] n)))

  -- words that are related within the bound lead to one word
  pub within_meet : {u v : Word} → Within p L u v → Joinable (Listed rules) u v
  within_meet (same {u} f) = joinable_refl (Listed rules) u
  within_meet (symmetric {u} {v} w) = joinable_symm (Listed rules) u v (within_meet w)
  within_meet (transitive {u} {v} {w} a b) =
      joinable_by u v w (bounded_confluent v (within_left p L a).1.short) (within_meet a) (within_meet b)
  within_meet (relation {r} {s} e f g) = joinable_linked (IsShort L) bounded_confluent r s (up.relations r s e f.short g.short)
  within_meet (context u v x y w f g) = joinable_context (Listed rules) x u v y (within_meet w)

  -- so those that are reduced are one
  pub reduced_are_one : (u v : Word) → Within p L u v → IsReduced (Listed rules) u → IsReduced (Listed rules) v → u ≡ v
  reduced_are_one u v w here there =
      let j = within_meet w in
      reduced_stays (Listed rules) u j.word here j.left ∙ sym (reduced_stays (Listed rules) v j.word there j.right)

  -- rules that are linked up, related and reduced are as completion leaves them
  pub rules_from_links : ((l r : Word) → Listed rules l r → Within p L l r) → ((l r : Word) → Listed rules l r → IsReduced (Listed rules) r)
      → AreRules p L rules
  rules_from_links related reduced =
      record { related = related; falls = up.falls; reduced = reduced; apart = up.apart; full = reduced_are_one }
