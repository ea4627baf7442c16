-- Marks of words, and what they tell of overlaps and factors.
use Rattle.std.proofs.Common.{◌≡◌, ℕ, zero, suc, ◌+◌, ◌-◌, ◌*◌, ◌%◌, ◌<◌, ◌≤◌, Bool, List, [], ◌∷◌, ◌++◌, length, take, drop, get_or, set, reverse, refl, sym, ◌∙◌, ap, ap₂, subst, arith, inl, inr, not, length-append, length-drop}
use Rattle.std.specs.List.{filter}
use Rattle.std.specs.Int.{bit_at}
use Rattle.std.specs.Int.Bits.{bit_or}
use Rattle.std.proofs.lemmas.Bool.{cases_Bool}
use Rattle.std.proofs.lemmas.Nat.Bits.{bit_at-zero, bit_at_or, same_from_bits}
use Rattle.std.proofs.lemmas.List.{get_or-take, get_or-drop, get_or-append-add, get_or_append_left, length-reverse, reverse-append, take-append-drop, take_at, drop_at, map-set}
use Rattle.std.proofs.Math.Seq.{map-set_same}
use Rattle.theory.specs.Word.{Word, IsFactor}
use Rattle.knuth_bendix.specs.declared.lengths.Lengths.{Lengths}
use Rattle.knuth_bendix.specs.declared.indexed_rules.Index.{Index}
use Rattle.knuth_bendix.specs.Overlaps.{HasLength, IsOverlap, overlaps_by, rule_at}
use Rattle.knuth_bendix.specs.Marks.{BoundsOne, IsIndexOf, bit, bits_up_to, key, marks_of, sign}

-- the first letters backwards are the last ones of the word backwards, and the other way round
reverse-take : (n : ℕ) (f : Word) → n ≤ length f → drop (length f - n) (reverse f) ≡ reverse (take n f)
reverse-take n f within =
    ap (λ (w : Word). drop (length f - n) w) (ap (λ (w : Word). reverse w) (sym (take-append-drop n f)) ∙ reverse-append (take n f) (drop n f))
    ∙ drop_at (reverse (drop n f)) (reverse (take n f)) (length f - n) (length-reverse (drop n f) ∙ length-drop n f)

reverse-drop : (n : ℕ) (f : Word) → n ≤ length f → take (length f - n) (reverse f) ≡ reverse (drop n f)
reverse-drop n f within =
    ap (λ (w : Word). take (length f - n) w) (ap (λ (w : Word). reverse w) (sym (take-append-drop n f)) ∙ reverse-append (take n f) (drop n f))
    ∙ take_at (reverse (drop n f)) (reverse (take n f)) (length f - n) (length-reverse (drop n f) ∙ length-drop n f)

-- an overlap read from its end
pub overlap_reversed : (f g : Word) (shared : ℕ) → shared ≤ length f → shared ≤ length g → overlaps_by f g shared → overlaps_by (reverse g) (reverse f) shared
overlap_reversed f g shared first second o =
    let back : length f - (length f - shared) ≡ shared = omega (arith, first) in
    ap (λ (n : ℕ). drop (n - shared) (reverse g)) (length-reverse g)
    ∙ reverse-take shared g second
    ∙ ap (λ (w : Word). reverse w) (sym o)
    ∙ sym (reverse-drop (length f - shared) f (omega arith))
    ∙ ap (λ (n : ℕ). take n (reverse f)) back

pub reversed_overlap : (lengths : Lengths) (p q : Word × Word) (shared : ℕ) → IsOverlap lengths p q shared
    → IsOverlap lengths (reverse q.0, []) (reverse p.0, []) shared
reversed_overlap lengths p q shared o =
    let same : length p.0 + (length q.0 - shared) ≡ length (reverse q.0) + (length (reverse p.0) - shared) =
    omega (arith, o.first, o.second, length-reverse p.0, length-reverse q.0) in
    record {
      some = o.some;
      first = omega (arith, o.second, length-reverse q.0);
      second = omega (arith, o.first, length-reverse p.0);
      overlaps = overlap_reversed p.0 q.0 shared (omega (arith, o.first)) (omega (arith, o.second)) o.overlaps;
      within = subst (λ (n : ℕ). HasLength lengths n) same o.within;
    }

-- a letter of what is shared
shared_letter : (f g : Word) (shared k : ℕ) → k < shared → overlaps_by f g shared → get_or g k 0 ≡ get_or f (length f - shared + k) 0
shared_letter f g shared k less o =
    sym (get_or-take shared g k 0 less) ∙ ap (λ (w : Word). get_or w k 0) (sym o) ∙ get_or-drop (length f - shared) f k 0

-- the key of a word that shares two letters and more
-- the keys of a row, so many, are listed
abbrev pub IsFilled : ℕ → ℕ → List ℕ → Type 0
IsFilled row count most = (k : ℕ) → k < count → get_or most (row + k) 0 ≡ 1

pub filled_all : (f : Word) (row count : ℕ) (most : List ℕ) → row ≡ get_or f (length f - 1) 0 % 32 * 8 → 8 ≤ count → IsFilled row count most → BoundsOne f most
filled_all f row count most e all to = λ g some long o.
    let last : get_or g 0 0 ≡ get_or f (length f - 1 + 0) 0 = shared_letter f g 1 0 (omega arith) o in
    let at_last : length f - 1 + 0 ≡ length f - 1 = omega arith in
    let same : get_or g 0 0 ≡ get_or f (length f - 1) 0 = last ∙ ap (λ (n : ℕ). get_or f n 0) at_last in
    let here : key g ≡ row + get_or g 1 0 % 8 = ap (λ (a : ℕ). a % 32 * 8 + get_or g 1 0 % 8) same ∙ ap (λ (n : ℕ). n + get_or g 1 0 % 8) (sym e) in
    let one : get_or most (key g) 0 ≡ 1 = ap (λ (n : ℕ). get_or most n 0) here ∙ to (get_or g 1 0 % 8) (omega (arith, all)) in
    omega (arith, one)

-- what is shared has no more letters than are listed, where it has fewer than so many
abbrev pub BoundsFewer : Word → List ℕ → ℕ → Type 0
BoundsFewer f most count = (g : Word) (shared : ℕ) → 0 < shared → shared < count → shared < length f → shared < length g
    → overlaps_by f g shared → shared ≤ get_or most (key g) 0

-- the bits of the first letters, one more of them
-- bits of more letters are no fewer
bits_grow : (f : Word) (m k i : ℕ) → bit_at (bits_up_to f m) i ≤ bit_at (bits_up_to f (m + k)) i
bits_grow f m zero i = let same : m + zero ≡ m = omega arith in subst (λ (n : ℕ). bit_at (bits_up_to f m) i ≤ bit_at (bits_up_to f n) i) (sym same) (omega arith)
bits_grow f m (suc k) i =
    let same : m + suc k ≡ suc (m + k) = omega arith in
    subst (λ (n : ℕ). bit_at (bits_up_to f m) i ≤ bit_at (bits_up_to f n) i) (sym same)
    (omega (arith, bits_grow f m k i, bit_at_or (bits_up_to f (m + k)) (bit (get_or f (m + k) 0) (get_or f (suc (m + k)) 0)) i))

-- nor are those of a factor more than those of the word up to its end
bits_within : (x f y : Word) (n i : ℕ) → n + 1 ≤ length f → bit_at (bits_up_to f n) i ≤ bit_at (bits_up_to (x ++ (f ++ y)) (length x + n)) i
bits_within x f y zero i within = subst (λ (n : ℕ). n ≤ bit_at (bits_up_to (x ++ (f ++ y)) (length x + zero)) i) (sym (bit_at-zero i)) (omega arith)
bits_within x f y (suc n) i within =
    let u : Word = x ++ (f ++ y) in
    let same : length x + suc n ≡ suc (length x + n) = omega arith in
    let at : (k : ℕ) → k < length f → get_or u (length x + k) 0 ≡ get_or f k 0 =
    λ k less. get_or-append-add x (f ++ y) k 0 ∙ get_or_append_left f y 0 k less in
    let two : bit (get_or u (length x + n) 0) (get_or u (suc (length x + n)) 0) ≡ bit (get_or f n 0) (get_or f (suc n) 0) =
    ap₂ bit (at n (omega (arith, within))) (ap (λ (k : ℕ). get_or u k 0) (sym same) ∙ at (suc n) (omega (arith, within))) in
    subst (λ (k : ℕ). bit_at (bits_up_to f (suc n)) i ≤ bit_at (bits_up_to u k) i) (sym same)
    (omega (
      arith,
      bits_within x f y n i (omega (arith, within)),
      ap (λ (b : ℕ). bit_at b i) two,
      bit_at_or (bits_up_to f n) (bit (get_or f n 0) (get_or f (suc n) 0)) i,
      bit_at_or (bits_up_to u (length x + n)) (bit (get_or u (length x + n) 0) (get_or u (suc (length x + n)) 0)) i,
    ))

-- the sign of a factor is in that of the word
sign_within : (f u : Word) (i : ℕ) → IsFactor f u → bit_at (sign f) i ≤ bit_at (sign u) i
sign_within [] u i h = subst (λ (n : ℕ). n ≤ bit_at (sign u) i) (sym (bit_at-zero i)) (omega arith)
sign_within (a ∷ f) u i h =
    let g : Word = a ∷ f in
    let all : Word = h.before ++ (g ++ h.after) in
    let long : length all ≡ length h.before + (length g + length h.after) = length-append h.before (g ++ h.after) ∙ ap (λ (n : ℕ). length h.before + n) (length-append g h.after) in
    let ends : length h.before + (length g - 1) + length h.after ≡ length all - 1 = omega (arith, long) in
    let below : bit_at (sign g) i ≤ bit_at (bits_up_to all (length h.before + (length g - 1))) i = bits_within h.before g h.after (length g - 1) i (omega arith) in
    let grown : bit_at (bits_up_to all (length h.before + (length g - 1))) i ≤ bit_at (sign all) i =
    subst (λ (n : ℕ). bit_at (bits_up_to all (length h.before + (length g - 1))) i ≤ bit_at (bits_up_to all n) i) ends
    (bits_grow all (length h.before + (length g - 1)) (length h.after) i) in
    subst (λ (w : Word). bit_at (sign g) i ≤ bit_at (sign w) i) (sym h.is) (omega (arith, below, grown))

pub sign_taken_up : (f u : Word) → IsFactor f u → bit_or (sign u) (sign f) ≡ sign u
sign_taken_up f u h = same_from_bits (bit_or (sign u) (sign f)) (sign u) (λ i. omega (arith, sign_within f u i h, bit_at_or (sign u) (sign f) i))

-- the index of no rule, of one more, and of one with another right side
pub index_set : (rules : List (Word × Word)) (index new : Index) (place : ℕ) (right : Word) → IsIndexOf rules index
    → new.lefts.items ≡ index.lefts.items → new.rights.items ≡ set index.rights.items place (sign right)
    → IsIndexOf (set rules place ((rule_at rules place).0, right)) new
index_set rules index new place right is lefts rights = record {
  lefts = lefts ∙ is.lefts ∙ sym (map-set_same (λ r. marks_of r.0) rules place ((rule_at rules place).0, right) ([], []) refl);
  rights = rights ∙ ap (λ ns. set ns place (sign right)) is.rights ∙ sym (map-set (λ r. sign r.1) rules place ((rule_at rules place).0, right));
}

-- what is read in the index
-- where nothing is filtered out, all is left
pub none_gone : (p : Word × Word → Bool) (rules : List (Word × Word)) → filter p rules ≡ [] → filter (λ r. not (p r)) rules ≡ rules
none_gone p [] e = refl
none_gone p (r ∷ rules) e = elim (cases_Bool (p r)) [
  | inl t ↦
      let first : filter p (r ∷ rules) ≡ r ∷ filter p rules = rw t refl in
      let bad : r ∷ filter p rules ≡ [] = sym first ∙ e in
      let b : ⊥ = cc in
      absurd b
  | inr n ↦
      let rest : filter p (r ∷ rules) ≡ filter p rules = rw n refl in
      let left : filter (λ q. not (p q)) (r ∷ rules) ≡ r ∷ filter (λ q. not (p q)) rules = rw n refl in
      left ∙ ap (λ (rs : List (Word × Word)). r ∷ rs) (none_gone p rules (sym rest ∙ e))
]
