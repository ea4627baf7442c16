-- Where completion ends, its rules are the reduced rules, and lead two words to one exactly where they are related.
use Rattle.std.proofs.Common.{◌≡◌, ◌≢◌, ◌<◌, ◌≤◌, List, [], ◌∷◌, ◌++◌, length, refl, sym, ◌∙◌, ap, subst, subst₂, arith, ◌⊎◌, inl, inr, append_assoc, length-append}
use Rattle.std.proofs.lemmas.Bool.{cases_lt}
use Rattle.theory.specs.Word.{Word}
use Rattle.theory.specs.ShortLex.{◌≺◌}
use Rattle.theory.specs.Chain.{Step, Chain}
use Rattle.theory.specs.Class.{IsNormal}
use Rattle.theory.specs.Completion.{Reduces, IsReduced, Joinable, OverlapsJoin}
use Rattle.theory.specs.declared.Kind.TheVariants.{TwoSided}
use Rattle.theory.proofs.Words.{cut_between, order_cases, before_context, before_trans, shortlex_induction}
use Rattle.theory.proofs.Chains.{joined_refl, joined_trans, joined_one, joined_least, joined_map, step_kept, step_at}

-- two normal forms of one word are one
pub normal_unique : (Q : Word → Word → Type 0) → ((u v : Word) → Q u v → Q v u) → ((u v w : Word) → Q u v → Q v w → Q u w) → (u v w : Word)
    → IsNormal Q u v → IsNormal Q u w → v ≡ w
normal_unique Q symm trans u v w p q =
    elim (order_cases v w) [
      | inl l ↦ absurd (q.least.none_less v (trans w u v (symm u w q.related) p.related) l)
      | inr (inl e) ↦ e
      | inr (inr g) ↦ absurd (p.least.none_less w (trans v u w (symm u v p.related) q.related) g)
    ]

-- joinable words in a context
pub joinable_context : (R : Word → Word → Type 0) (x u v y : Word) → Joinable R u v → Joinable R (x ++ (u ++ y)) (x ++ (v ++ y))
joinable_context R x u v y h =
    record {
      word = x ++ (h.word ++ y);
      left = joined_map (Step R TwoSided) (Step R TwoSided) (λ w. x ++ (w ++ y)) (λ p q s. step_kept R TwoSided p q x y s tt) u h.word h.left;
      right = joined_map (Step R TwoSided) (Step R TwoSided) (λ w. x ++ (w ++ y)) (λ p q s. step_kept R TwoSided p q x y s tt) v h.word h.right;
    }

pub joinable_symm : (R : Word → Word → Type 0) (u v : Word) → Joinable R u v → Joinable R v u
joinable_symm R u v h = record { word = h.word; left = h.right; right = h.left }

pub joinable_refl : (R : Word → Word → Type 0) (u : Word) → Joinable R u u
joinable_refl R u = record { word = u; left = joined_refl (Step R TwoSided) u; right = joined_refl (Step R TwoSided) u }

-- regroupings of a word in parts
pub parts_behind : (x r m y z : Word) → z ≡ m ++ y → (x ++ (r ++ m)) ++ y ≡ x ++ (r ++ z)
parts_behind x r m y z e = rw e (simp append_assoc)

pub parts_before : (x l m y z w : Word) → w ≡ x ++ z → z ≡ l ++ m → x ++ (l ++ (m ++ y)) ≡ w ++ y
parts_before x l m y z w e d = rw (e, d) (simp append_assoc)

pub parts_left : (x r n y z : Word) → z ≡ n ++ y → x ++ ((r ++ n) ++ y) ≡ x ++ (r ++ z)
parts_left x r n y z e = rw e (simp append_assoc)

pub parts_right : (x z r y w : Word) → w ≡ x ++ z → x ++ ((z ++ r) ++ y) ≡ w ++ (r ++ y)
parts_right x z r y w e = rw e (simp append_assoc)

-- a step by rules that fall leads to a lesser word
pub step_falls : (R : Word → Word → Type 0) → ((l r : Word) → R l r → r ≺ l) → (u v : Word) → Step R TwoSided u v → v ≺ u
step_falls R falls u v s = subst₂ (λ p q. p ≺ q) (sym s.target) (sym s.source) (before_context s.before s.to s.from s.after (falls s.from s.to s.base))

-- Rules whose left sides have no left side inside, and which fall.
module _ (R : Word → Word → Type 0) (apart : (l r f g x y : Word) → R l r → R f g → l ≡ x ++ (f ++ y) → length f < length l → ⊥)
    (joins : OverlapsJoin R) where
  -- two steps from one word, the first place no later than the second
  ordered : (x₁ l₁ r₁ y₁ x₂ l₂ r₂ y₂ : Word) → R l₁ r₁ → R l₂ r₂ → x₁ ++ (l₁ ++ y₁) ≡ x₂ ++ (l₂ ++ y₂) → length x₁ ≤ length x₂
      → Joinable R (x₁ ++ (r₁ ++ y₁)) (x₂ ++ (r₂ ++ y₂))
  ordered x₁ l₁ r₁ y₁ x₂ l₂ r₂ y₂ h₁ h₂ e first =
      let z = cut_between x₁ (l₁ ++ y₁) x₂ (l₂ ++ y₂) e first in
      elim (cases_lt (length z.0) (length l₁)) [
        | inl less ↦ overlapping z.0 z.1 z.2 less
        | inr more ↦ disjoint z.0 z.1 z.2 more
      ]
    where
      disjoint : (z : Word) → x₂ ≡ x₁ ++ z → l₁ ++ y₁ ≡ z ++ (l₂ ++ y₂) → length l₁ ≤ length z
          → Joinable R (x₁ ++ (r₁ ++ y₁)) (x₂ ++ (r₂ ++ y₂))
      disjoint z ex ez h =
          let m = cut_between l₁ y₁ z (l₂ ++ y₂) ez h in
          let a : Step R TwoSided ((x₁ ++ (r₁ ++ m.0)) ++ (l₂ ++ y₂)) ((x₁ ++ (r₁ ++ m.0)) ++ (r₂ ++ y₂)) =
          step_at R (x₁ ++ (r₁ ++ m.0)) l₂ r₂ y₂ h₂ in
          let b : Step R TwoSided (x₁ ++ (l₁ ++ (m.0 ++ (r₂ ++ y₂)))) (x₁ ++ (r₁ ++ (m.0 ++ (r₂ ++ y₂)))) =
          step_at R x₁ l₁ r₁ (m.0 ++ (r₂ ++ y₂)) h₁ in
          let from₁ : (x₁ ++ (r₁ ++ m.0)) ++ (l₂ ++ y₂) ≡ x₁ ++ (r₁ ++ y₁) = parts_behind x₁ r₁ m.0 (l₂ ++ y₂) y₁ m.2 in
          let from₂ : x₁ ++ (l₁ ++ (m.0 ++ (r₂ ++ y₂))) ≡ x₂ ++ (r₂ ++ y₂) = parts_before x₁ l₁ m.0 (r₂ ++ y₂) z x₂ ex m.1 in
          let to : (x₁ ++ (r₁ ++ m.0)) ++ (r₂ ++ y₂) ≡ x₁ ++ (r₁ ++ (m.0 ++ (r₂ ++ y₂))) = simp append_assoc in
          record {
            word = x₁ ++ (r₁ ++ (m.0 ++ (r₂ ++ y₂)));
            left =
                joined_one (Step R TwoSided) (x₁ ++ (r₁ ++ y₁)) (x₁ ++ (r₁ ++ (m.0 ++ (r₂ ++ y₂)))) (subst₂ (λ p q. Step R TwoSided p q) from₁ to a);
            right =
                joined_one (Step R TwoSided) (x₂ ++ (r₂ ++ y₂)) (x₁ ++ (r₁ ++ (m.0 ++ (r₂ ++ y₂))))
                (subst (λ p. Step R TwoSided p (x₁ ++ (r₁ ++ (m.0 ++ (r₂ ++ y₂))))) from₂ b);
          }

      overlapping : (z : Word) → x₂ ≡ x₁ ++ z → l₁ ++ y₁ ≡ z ++ (l₂ ++ y₂) → length z < length l₁
          → Joinable R (x₁ ++ (r₁ ++ y₁)) (x₂ ++ (r₂ ++ y₂))
      overlapping z ex ez h =
          let m = cut_between z (l₂ ++ y₂) l₁ y₁ (sym ez) (omega arith) in
          elim (cases_lt (length l₂) (length m.0)) [
            | inl less ↦
                let n = cut_between l₂ y₂ m.0 y₁ m.2 (omega arith) in
                absurd (apart l₁ r₁ l₂ r₂ z n.0 h₁ h₂ (m.1 ∙ ap (λ w. z ++ w) n.1) (omega (arith, ap length m.1, length-append z m.0)))
            | inr more ↦
                let n = cut_between m.0 y₁ l₂ y₂ (sym m.2) more in
                let full : m.0 ≢ [] = λ e. omega (arith, ap length m.1, length-append z m.0, ap length e) in
                let one : Joinable R (r₁ ++ n.0) (z ++ r₂) = joins z m.0 n.0 r₁ r₂ full (subst (λ w. R w r₁) m.1 h₁) (subst (λ w. R w r₂) n.1 h₂) in
                let both : Joinable R (x₁ ++ ((r₁ ++ n.0) ++ y₂)) (x₁ ++ ((z ++ r₂) ++ y₂)) = joinable_context R x₁ (r₁ ++ n.0) (z ++ r₂) y₂ one in
                let from₁ : x₁ ++ ((r₁ ++ n.0) ++ y₂) ≡ x₁ ++ (r₁ ++ y₁) = parts_left x₁ r₁ n.0 y₂ y₁ n.2 in
                let from₂ : x₁ ++ ((z ++ r₂) ++ y₂) ≡ x₂ ++ (r₂ ++ y₂) = parts_right x₁ z r₂ y₂ x₂ ex in
                subst₂ (λ p q. Joinable R p q) from₁ from₂ both
          ]

  -- two steps from one word lead to one word
  pub local : (u v w : Word) → Step R TwoSided u v → Step R TwoSided u w → Joinable R v w
  local u v w a b =
      let e : a.before ++ (a.from ++ a.after) ≡ b.before ++ (b.from ++ b.after) = sym a.source ∙ b.source in
      let both : Joinable R (a.before ++ (a.to ++ a.after)) (b.before ++ (b.to ++ b.after)) = elim (cases_lt (length a.before) (length b.before)) [
        | inl less ↦ ordered a.before a.from a.to a.after b.before b.from b.to b.after a.base b.base e (omega arith)
        | inr more ↦
            joinable_symm R (b.before ++ (b.to ++ b.after)) (a.before ++ (a.to ++ a.after))
            (ordered b.before b.from b.to b.after a.before a.from a.to a.after b.base a.base (sym e) more)
      ] in
      subst₂ (λ p q. Joinable R p q) (sym a.target) (sym b.target) both

  module _ (falls : (l r : Word) → R l r → r ≺ l) where
    -- Newman's lemma: any two ways from a word lead to one word
    pub confluent : (u v w : Word) → Reduces R u v → Reduces R u w → Joinable R v w
    confluent = shortlex_induction (λ u. (v w : Word) → Reduces R u v → Reduces R u w → Joinable R v w) at
      where
        at : (u : Word) → ((t : Word) → t ≺ u → (v w : Word) → Reduces R t v → Reduces R t w → Joinable R v w) → (v w : Word)
            → Reduces R u v → Reduces R u w → Joinable R v w
        at u later v w a b = go a.0 a.1 b.0 b.1
          where
            go : (vs : List Word) → Chain (Step R TwoSided) u vs v → (ws : List Word) → Chain (Step R TwoSided) u ws w → Joinable R v w
            go [] e ws c = record { word = w; left = subst (λ x. Reduces R x w) e (ws, c); right = joined_refl (Step R TwoSided) w }
            go (v₁ ∷ vs) c [] e = record { word = v; left = joined_refl (Step R TwoSided) v; right = subst (λ x. Reduces R x v) e (v₁ ∷ vs, c) }
            go (v₁ ∷ vs) c (w₁ ∷ ws) d =
                let t = local u v₁ w₁ c.0 d.0 in
                let s = later v₁ (step_falls R falls u v₁ c.0) v t.word (vs, c.1) t.left in
                let q = later w₁ (step_falls R falls u w₁ d.0) s.word w (joined_trans (Step R TwoSided) w₁ t.word s.word t.right s.right) (ws, d.1) in
                record { word = q.word; left = joined_trans (Step R TwoSided) v s.word q.word s.left q.left; right = q.right }

    pub joinable_trans : (u v w : Word) → Joinable R u v → Joinable R v w → Joinable R u w
    joinable_trans u v w a b =
        let c = confluent v a.word b.word a.right b.left in
        record {
          word = c.word;
          left = joined_trans (Step R TwoSided) u a.word c.word a.left c.left;
          right = joined_trans (Step R TwoSided) w b.word c.word b.right c.right;
        }

-- a reduced word is led to itself alone
pub reduced_stays : (R : Word → Word → Type 0) (u w : Word) → IsReduced R u → Reduces R u w → u ≡ w
reduced_stays R u w h r = go r.0 r.1
  where
    go : (ws : List Word) → Chain (Step R TwoSided) u ws w → u ≡ w
    go [] e = e
    go (v ∷ ws) c = absurd (h v c.0)

-- rules that fall lead to the same word or to a lesser one
pub reduces_falls : (R : Word → Word → Type 0) → ((l r : Word) → R l r → r ≺ l) → (u w : Word) → Reduces R u w → (u ≡ w) ⊎ (w ≺ u)
reduces_falls R falls =
    joined_least (Step R TwoSided) (λ u w. (u ≡ w) ⊎ (w ≺ u)) (λ u. inl refl) further
    (λ u v s. inr (step_falls R falls u v s))
  where
    further : (u v w : Word) → (u ≡ v) ⊎ (v ≺ u) → (v ≡ w) ⊎ (w ≺ v) → (u ≡ w) ⊎ (w ≺ u)
    further u v w (inl e) (inl d) = inl (e ∙ d)
    further u v w (inl e) (inr g) = inr (subst (λ x. w ≺ x) (sym e) g)
    further u v w (inr l) (inl d) = inr (subst (λ x. x ≺ u) d l)
    further u v w (inr l) (inr g) = inr (before_trans w v u g l)
