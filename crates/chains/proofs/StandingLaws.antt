-- Where words stand in words.
use Rattle.std.proofs.Common.{◌≡◌, ℕ, ◌+◌, ◌-◌, ◌≤◌, Bool, ◌++◌, length, take, drop, refl, sym, ◌∙◌, ap, arith, eqb, append_assoc, length-append, length-take, take-append-drop, ◌↔◌, IsTrue}
use Rattle.std.specs.Cmp.Lexicographic.{pointwise}
use Rattle.std.proofs.lemmas.Bool.Decides.{Decides-eqb}
use Rattle.std.proofs.lemmas.List.{take_at, drop_at, drop-drop, take_rest}
use Rattle.std.proofs.lemmas.Slice.Eq.{starts_is}
use Rattle.theory.specs.Word.{Word}
use Rattle.chains.specs.Chains.{IsReplaced, StandsAt}

module _ (f u : Word) (place : ℕ) where
  -- what stands before the factor, with it, and behind it
  pub front : (s : StandsAt f u place) → take place u ≡ s.before
  front s = ap (take place) s.is ∙ take_at s.before (f ++ s.after) place s.placed

  pub from_there : (s : StandsAt f u place) → drop place u ≡ f ++ s.after
  from_there s = ap (drop place) s.is ∙ drop_at s.before (f ++ s.after) place s.placed

  pub behind : (s : StandsAt f u place) → drop (place + length f) u ≡ s.after
  behind s = sym (drop-drop (length f) place u) ∙ ap (drop (length f)) (from_there s) ∙ drop_at f s.after (length f) refl

  pub inside : StandsAt f u place → (place ≤ length u) × (place + length f ≤ length u)
  inside s = let long = ap length s.is in
      let parts = length-append s.before (f ++ s.after) in
      let rest = length-append f s.after in
      (omega (arith, long, parts, rest, s.placed), omega (arith, long, parts, rest, s.placed))

  -- a test of the letters from the place on
  pub stands_tested : (r : Bool) → place ≤ length u → r ≡ pointwise eqb f (take (length f) (drop place u)) → IsTrue r ↔ StandsAt f u place
  stands_tested r within e = (
    λ t. record {
      before = take place u;
      after = drop (length f) (drop place u);
      placed = omega (arith, length-take place u, within);
      is = sym (take-append-drop place u) ∙ ap (λ w. take place u ++ w) ((starts_is Decides-eqb (drop place u) f r e).0 t);
    },
    λ s. (starts_is Decides-eqb (drop place u) f r e).1 s.after (from_there s),
  )

  -- as the code makes it
  pub tested_at : (r : Bool) → place ≤ length u → r ≡ pointwise eqb f (take (length f) (take (length u - place) (drop place u))) → IsTrue r ↔ StandsAt f u place
  tested_at r within e = stands_tested r within (e ∙ ap (λ w. pointwise eqb f (take (length f) w)) (take_rest u place))

  -- what is put together from the letters before the factor, the other word, and the letters behind it
  pub replaced_is : (by first second third : Word) → StandsAt f u place → first ≡ take place u → second ≡ first ++ by
      → third ≡ second ++ take (length u - (place + length f)) (drop (place + length f) u) → IsReplaced u place f by third
  replaced_is by first second third s one two three = record {
    stands = s;
    is = three ∙ ap (λ y. second ++ y) (take_rest u (place + length f) ∙ behind s) ∙ ap (λ x. x ++ s.after) (two ∙ ap (λ x. x ++ by) (one ∙ front s))
        ∙ append_assoc s.before by s.after;
  }
