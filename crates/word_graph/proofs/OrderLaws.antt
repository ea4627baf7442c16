-- Words with a letter at their ends, in short-lex order.
use Rattle.std.proofs.Common.{◌≡◌, ℕ, ◌<◌, [], ◌∷◌, ◌++◌, length, refl, sym, ap, subst, arith, inl, inr, nat_cmp, Less, length-append, append-nil}
use Rattle.std.specs.Cmp.Lexicographic.{slice_cmp}
use Rattle.theory.specs.Word.{Word}
use Rattle.theory.specs.ShortLex.{◌≺◌}
use Rattle.theory.proofs.Words.{nat_Less, then_Less, before_cases, shorter_first, letters_first, before_trans, before_append_left, before_append_right}
use Rattle.word_graph.specs.Walk.{NoLater}

letters_behind : (u v : Word) (a b : ℕ) → length u ≡ length v → slice_cmp nat_cmp u v ≡ Less → slice_cmp nat_cmp (u ++ a ∷ []) (v ++ b ∷ []) ≡ Less
letters_behind [] [] a b e h = cc
letters_behind [] (d ∷ v) a b e h = absurd (omega arith)
letters_behind (c ∷ u) [] a b e h = absurd (omega arith)
letters_behind (c ∷ u) (d ∷ v) a b e h =
    elim (then_Less (nat_cmp c d) (slice_cmp nat_cmp u v) h) [
      | inl l ↦ rw l refl
      | inr p ↦ rw (p.0) (letters_behind u v a b (omega arith) p.1)
    ]

-- any letter behind each
pub before_behind : (u v : Word) (a b : ℕ) → u ≺ v → (u ++ a ∷ []) ≺ (v ++ b ∷ [])
before_behind u v a b h =
    elim (before_cases u v h) [
      | inl l ↦ shorter_first (u ++ a ∷ []) (v ++ b ∷ []) (omega (arith, length-append u (a ∷ []), length-append v (b ∷ [])))
      | inr p ↦ letters_first (u ++ a ∷ []) (v ++ b ∷ []) (omega (arith, length-append u (a ∷ []), length-append v (b ∷ []))) (letters_behind u v a b p.0 p.1)
    ]

-- a lesser letter behind the same word
pub letter_before : (u : Word) (a b : ℕ) → a < b → (u ++ a ∷ []) ≺ (u ++ b ∷ [])
letter_before u a b h = before_append_left u (a ∷ []) (b ∷ []) (letters_first (a ∷ []) (b ∷ []) refl (rw (nat_Less a b h) refl))

pub empty_first : (u : Word) (a : ℕ) → [] ≺ (u ++ a ∷ [])
empty_first u a = shorter_first [] (u ++ a ∷ []) (omega (arith, length-append u (a ∷ [])))

pub no_later_before : (u v w : Word) → NoLater u v → v ≺ w → u ≺ w
no_later_before u v w h k = elim h [ inl l ↦ before_trans u v w l k | inr e ↦ subst (λ z. z ≺ w) (sym e) k ]

pub no_later_trans : (u v w : Word) → NoLater u v → NoLater v w → NoLater u w
no_later_trans u v w h k = elim k [ inl l ↦ inl (no_later_before u v w h l) | inr e ↦ subst (λ z. NoLater u z) e h ]

-- the same letter behind each
pub no_later_behind : (u v : Word) (a : ℕ) → NoLater u v → NoLater (u ++ a ∷ []) (v ++ a ∷ [])
no_later_behind u v a h = elim h [ inl l ↦ inl (before_append_right u v (a ∷ []) l) | inr e ↦ inr (ap (λ z. z ++ a ∷ []) e) ]

-- a word is no later than one that it stands at the front of
pub front_no_later : (u v : Word) → NoLater u (u ++ v)
front_no_later u [] = inr (sym (append-nil u))
front_no_later u (a ∷ v) = inl (shorter_first u (u ++ (a ∷ v)) (omega (arith, length-append u (a ∷ v))))
