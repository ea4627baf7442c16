-- The images that the first places have, marked in a table.
use Rattle.std.proofs.Common.{◌≡◌, ℕ, zero, suc, ◌+◌, ◌<◌, ◌≤◌, ◌⊎◌, Bool, true, false, List, [], ◌∷◌, length, map, get_or, set, replicate, slice_get, sym, ap, ◌∙◌, refl, inl, inr, arith}
use Rattle.std.specs.Prelude.{Option, Some, None}
use Rattle.std.proofs.lemmas.List.{length-replicate, length-set, get_or-set_same, get_or-set_other, get_or_past}
use Rattle.elements.specs.declared.field.Field.{Field}
use Rattle.elements.specs.declared.field.Field.TheVariants.{Number}
use Rattle.elements.specs.Fields.{field_of}
use Rattle.elements.specs.PPerm.{IsInjective, IsFirstRepeat, IsFirstAgain}
use Rattle.elements.proofs.Refused.{below_or_at, two_ways}

-- the images of the first n places, each different, are those marked
pub record Marks (images : List (Option ℕ)) (seen : List Bool) (n : ℕ) : Type 0 where
  pub sized : length seen ≡ length images
  pub marked : (y : ℕ) → get_or seen y false ≡ true → (i : ℕ) × (i < n) × (get_or images i None ≡ Some y)
  pub unmarked : (i y : ℕ) → i < n → get_or images i None ≡ Some y → get_or seen y false ≡ true
  pub before : (i k y : ℕ) → i < k → k < n → get_or images i None ≡ Some y → get_or images k None ≡ Some y → ⊥

replicate_false : (n y : ℕ) → get_or (replicate n false) y false ≡ false
replicate_false zero y = refl
replicate_false (suc n) zero = refl
replicate_false (suc n) (suc y) = replicate_false n y

pub marks_none : (images : List (Option ℕ)) (seen : List Bool) → seen ≡ replicate (length images) false → Marks images seen 0
marks_none images seen e = record {
  sized = ap length e ∙ length-replicate (length images) false;
  marked = λ y h. let f : get_or seen y false ≡ false = ap (λ s. get_or s y false) e ∙ replicate_false (length images) y in absurd (cc);
  unmarked = λ i y h _. absurd (omega arith);
  before = λ i k y _ h _ _. absurd (omega arith);
}

module _ (images : List (Option ℕ)) (seen : List Bool) (n : ℕ) (m : Marks images seen n) where
  pub marks_undefined : get_or images n None ≡ None → Marks images seen (n + 1)
  marks_undefined e = record {
    sized = m.sized;
    marked = λ y h. let p = m.marked y h in (p.0, omega (arith, p.1), p.2);
    unmarked = λ i y h f. elim (below_or_at i n h) [ inl b ↦ m.unmarked i y b f | inr b ↦ let g : get_or images i None ≡ None = ap (λ k. get_or images k None) b ∙ e in absurd (cc) ];
    before = λ i k y h b f g. elim (below_or_at k n b) [ inl b' ↦ m.before i k y h b' f g | inr b' ↦ let u : get_or images k None ≡ None = ap (λ j. get_or images j None) b' ∙ e in absurd (cc) ];
  }

  pub marks_more : (y : ℕ) → get_or images n None ≡ Some y → y < length images → get_or seen y false ≡ false → Marks images (set seen y true) (n + 1)
  marks_more y e within fresh = record {
    sized = length-set seen y true ∙ m.sized;
    marked = λ z h. elim (two_ways z y) [
      | inl s ↦ (n, omega arith, e ∙ ap Some (sym s))
      | inr s ↦
          let other : get_or (set seen y true) z false ≡ get_or seen z false = get_or-set_other seen y z true false (grind arith) in
          let p = m.marked z (sym other ∙ h) in
          (p.0, omega (arith, p.1), p.2)
    ];
    unmarked = λ i z h f. elim (two_ways z y) [
      | inl s ↦ ap (λ k. get_or (set seen y true) k false) s ∙ get_or-set_same seen y true false (omega (arith, m.sized))
      | inr s ↦
          let other : get_or (set seen y true) z false ≡ get_or seen z false = get_or-set_other seen y z true false (grind arith) in
          elim (below_or_at i n h) [
            | inl b ↦ other ∙ m.unmarked i z b f
            | inr b ↦ let g : get_or images i None ≡ Some y = ap (λ k. get_or images k None) b ∙ e in let same : z ≡ y = cc in absurd (grind arith)
          ]
    ];
    before = λ i k z h b f g. elim (below_or_at k n b) [
      | inl b' ↦ m.before i k z h b' f g
      | inr b' ↦
          let u : get_or images k None ≡ Some y = ap (λ j. get_or images j None) b' ∙ e in
          let same : z ≡ y = cc in
          let seen_z : get_or seen z false ≡ true = m.unmarked i z (omega arith) f in
          let seen_y : get_or seen y false ≡ true = ap (λ j. get_or seen j false) (sym same) ∙ seen_z in
          absurd (cc)
    ];
  }

-- an image by the list, and by its fields
pub image_named : (x : List (Option ℕ)) (k y : ℕ) → slice_get (map field_of x) k ≡ Some (Number y) → get_or x k None ≡ Some y
image_named [] k y e = absurd (cc)
image_named (None ∷ x) zero y e = absurd (cc)
image_named (Some z ∷ x) zero y e = cc
image_named (o ∷ x) (suc k) y e = image_named x k y e

pub named_image : (x : List (Option ℕ)) (k y : ℕ) → get_or x k None ≡ Some y → slice_get (map field_of x) k ≡ Some (Number y)
named_image [] k y e = absurd (cc)
named_image (None ∷ x) zero y e = absurd (cc)
named_image (Some z ∷ x) zero y e = cc
named_image (o ∷ x) (suc k) y e = named_image x k y e

module _ (images : List (Option ℕ)) (seen : List Bool) (n : ℕ) (m : Marks images seen n) where
  pub marks_again : (y : ℕ) → get_or images n None ≡ Some y → get_or seen y false ≡ true → IsFirstAgain images n
  marks_again y e h = record {
    before = λ i k b r. m.before i k r.image r.before b (image_named images i r.image r.first) (image_named images k r.image r.again);
    at = let p = m.marked y h in (p.0, record { image = y; before = p.1; first = named_image images p.0 y p.2; again = named_image images n y e });
  }

  pub marks_all : length images ≤ n → IsInjective images
  marks_all long = λ i j y e f. elim (two_ways i j) [
    | inl s ↦ s
    | inr s ↦ elim s [
      | inl b ↦ absurd (m.before i j y b (inside j y f) e f)
      | inr b ↦ absurd (m.before j i y b (inside i y e) f e)
    ]
  ]
    where
      inside : (k z : ℕ) → get_or images k None ≡ Some z → k < n
      inside k z e = elim (within k) [ inl b ↦ b | inr b ↦ let u = get_or_past images k None (omega arith) in absurd (cc) ]
        where
          within : (k : ℕ) → (k < n) ⊎ (n ≤ k)
          within k = grind arith

-- there is one first place at most
pub one_first_repeat : (fields : List Field) (a b : ℕ) → IsFirstRepeat fields a → IsFirstRepeat fields b → a ≡ b
one_first_repeat fields a b p q = elim (two_ways a b) [
  | inl s ↦ s
  | inr s ↦ elim s [ inl h ↦ absurd (q.before p.at.0 a h p.at.1) | inr h ↦ absurd (p.before q.at.0 b h q.at.1) ]
]

pub no_repeat : (images : List (Option ℕ)) (place : ℕ) → IsInjective images → IsFirstAgain images place → ⊥
no_repeat images place h p =
    let r = p.at.1 in
    let same = h p.at.0 place r.image (image_named images p.at.0 r.image r.first) (image_named images place r.image r.again) in
    omega (arith, r.before, same)
