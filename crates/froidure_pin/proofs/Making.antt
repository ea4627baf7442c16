-- One product more, read or multiplied out.
use Rattle.std.proofs.Common.{◌≡◌, ℕ, ◌+◌, ◌*◌, ◌<◌, ◌≤◌, true, false, List, [], ◌∷◌, ◌++◌, length, get_or, IsTrue, refl, sym, ap, subst, ◌∙◌, arith, inl, inr, length-append, add-one, mul-le-mul_right}
use Rattle.std.specs.List.{list_any, position_or_len}
use Rattle.theory.specs.Word.{Word, IsProperFactor}
use Rattle.theory.specs.ShortLex.{◌≺◌}
use Rattle.theory.specs.Class.{IsLeast, IsReducedRule}
use Rattle.theory.proofs.Words.{before_irrefl}
use Rattle.froidure_pin.specs.Found.{FoundLists, Generated, IsNumbered, IsSame, entry, factor_of, letters_of, parent, tail_of, value_in, words_in, words_of}
use Rattle.froidure_pin.specs.Growing.{AreCounted, AreLeftNumbers, IsAt, IsGrown, IsLevel, IsStep, IsWithin, KeepsCount, ReachesShorter}
use Rattle.froidure_pin.specs.Rules.{is_product}
use Rattle.froidure_pin.proofs.Places.{row_within}
use Rattle.froidure_pin.proofs.Factors.{factor_word, words_push}
use Rattle.froidure_pin.proofs.Starts.{get_front}
use Rattle.froidure_pin.proofs.Taken.{old_or_new, taken, with_element, with_number}
use Rattle.froidure_pin.proofs.Search.{IsSetting, found_count, found_least, old_number}
use Rattle.froidure_pin.proofs.OneMore.{grown_new, grown_old, grown_row, grown_told, parents_front}
use Rattle.froidure_pin.proofs.Reduced.{factor_least, product_is, tail_same}
use Rattle.froidure_pin.proofs.Placing.{place_before, words_before}
use Rattle.froidure_pin.proofs.Levels.{level_push, level_shorter, shorter_push}
use Rattle.froidure_pin.proofs.Telling.{suffix, first, rest, inside, here, whole, product_word, rest_number, rest_within}

-- no letter, and one letter after another
pub step_none : {V : Type 0} {s : Generated V} {lists : FoundLists V} {number letter : ℕ} → IsAt s lists number letter → IsStep s lists lists number letter
step_none at = record { at = at; level = λ first last low high h. h; left = refl }

pub step_on : {V : Type 0} {s : Generated V} {one two three : FoundLists V} {number a b : ℕ} → IsStep s one two number a → IsStep s two three number b → IsStep s one three number b
step_on p q = record { at = q.at; level = λ first last low high h. q.level first last low high (p.level first last low high h); left = q.left ∙ p.left }

-- steps of an element more, and of a level more, are as many as their letters at most
pub most_to : (k first number last start steps more : ℕ) → number < last → steps + first * k ≤ start + number * k → more ≤ steps + k → more + first * k ≤ start + last * k
most_to k first number last start steps more high before now = let row : (number + 1) * k ≤ last * k = mul-le-mul_right k (omega arith) in omega arith

pub most_level : (k bound first last start steps more : ℕ) → last ≤ bound → steps ≤ start + first * k → more + first * k ≤ steps + last * k → more ≤ start + bound * k
most_level k bound first last start steps more few before now = let rows : last * k ≤ bound * k = mul-le-mul_right k few in omega arith

module _ {V : Type 0} {shape : V → ℕ × ℕ} {s : Generated V} (setting : IsSetting shape s) where
  number_more : (words : List Word) (c : Word) (n : ℕ) (u : Word) → IsNumbered s words n u → IsNumbered s (words ++ c ∷ []) n u
  number_more words c n u h = (omega (arith, h.0, length-append words (c ∷ [])), subst (λ w. IsSame s u w) (sym (get_front words (c ∷ []) n [] h.0)) h.1)

  -- with one word more
  left_push : (words : List Word) (c : Word) (left : List ℕ) → AreLeftNumbers s words left → ((j b : ℕ) → b < letters_of s → j * letters_of s + b < length left → j ≤ length words) → AreLeftNumbers s (words ++ c ∷ []) left
  left_push words c left known within = record {
    numbers = λ j b h l. subst (λ w. IsNumbered s (words ++ c ∷ []) (entry (letters_of s) left j b) (b ∷ w)) (sym (parents_front words c j (within j b h l))) (number_more words c (entry (letters_of s) left j b) (b ∷ parent words j) (known.numbers j b h l));
  }

  counted_word : {words : List Word} (c : Word) {n start steps : ℕ} → AreCounted s words n start steps → AreCounted s (words ++ c ∷ []) (n + 1) start (steps + 1)
  counted_word {words} c counted = record {
    rules = counted.rules;
    apart = counted.apart;
    reduced = counted.reduced;
    placed = λ p m. let at = counted.placed p m in (at.0, at.1, omega (arith, at.2, length-append words (c ∷ [])), at.3, omega (arith, at.4), at.5 ∙ ap (λ u. u ++ at.1 ∷ []) (sym (parents_front words c at.0 at.2)));
    few = omega (arith, counted.few, length-append words (c ∷ []));
  }

  counted_more : {words : List Word} {n m start steps : ℕ} → n ≤ m → AreCounted s words n start steps → AreCounted s words m start steps
  counted_more h counted = record {
    rules = counted.rules;
    apart = counted.apart;
    reduced = counted.reduced;
    placed = λ p q. let at = counted.placed p q in (at.0, at.1, at.2, at.3, omega (arith, at.4), at.5);
    few = counted.few;
  }

  counted_rule : {words : List Word} {n start steps : ℕ} (i a : ℕ) {v : Word} → IsReducedRule (IsSame s) (parent words i ++ a ∷ []) v → i ≤ length words → a < letters_of s → n ≡ i * letters_of s + a
      → ((j b : ℕ) → j ≤ length words → b < letters_of s → j * letters_of s + b < n → (parent words j ++ b ∷ []) ≺ (parent words i ++ a ∷ []))
      → AreCounted s words n start steps → AreCounted s words (n + 1) start (steps + 1)
  counted_rule {words} i a {v} rule h l is before counted = record {
    rules = (parent words i ++ a ∷ [], v) ∷ counted.rules;
    apart = (
      λ p q m e d. let at = counted.placed p m in
          let same : p.0 ≡ parent words i ++ a ∷ [] = ap (λ (z : Word × Word). z.0) (d ∙ sym e) in
          before_irrefl (parent words i ++ a ∷ []) (subst (λ w. w ≺ (parent words i ++ a ∷ [])) (sym at.5 ∙ same) (before at.0 at.1 at.2 at.3 at.4)),
      counted.apart,
    );
    reduced = λ p m. elim m [
      | inl e ↦ subst (λ (z : Word × Word). IsReducedRule (IsSame s) z.0 z.1) (sym e) rule
      | inr q ↦ counted.reduced p q
    ];
    placed = λ p m. elim m [
      | inl e ↦ (i, a, h, l, omega (arith, is), ap (λ (z : Word × Word). z.0) e)
      | inr q ↦ let at = counted.placed p q in (at.0, at.1, at.2, at.3, omega (arith, at.4), at.5)
    ];
    few = omega (arith, counted.few);
  }

  -- an element of a level is about to be multiplied
  pub level_at : {lists : FoundLists V} {first last number : ℕ} → IsWithin s lists first last number → first ≤ number → number < last → IsAt s lists number 0
  level_at {lists} {first} {last} {number} in_level low high =
      let fewer : (first + 1) * letters_of s ≤ (number + 1) * letters_of s = mul-le-mul_right (letters_of s) (omega arith) in
      record {
        within = omega (arith, found_count setting in_level.grown.found, in_level.level.within);
        grown = in_level.grown;
        lefts = in_level.lefts;
        few = omega (arith, in_level.rows, fewer);
        shorter = subst (λ n. ReachesShorter (letters_of s) (words_in lists) n number) (sym in_level.rows) (level_shorter (letters_of s) (words_in lists) first last number low high in_level.level);
      }

  -- it was multiplied
  pub level_on : {old new : FoundLists V} {first last number : ℕ} → IsWithin s old first last number → IsStep s old new number (letters_of s) → first ≤ number → number < last → IsWithin s new first last (number + 1)
  level_on {first = first} {last} in_level step low high = record {
    grown = grown_row setting step.at.grown;
    lefts = step.at.lefts;
    rows = ap length step.left ∙ in_level.rows;
    level = step.level first last low high in_level.level;
  }

  module _ {lists : FoundLists V} {number a : ℕ} (at : IsAt s lists number a) (letter : a < letters_of s) where
    abbrev k : ℕ
    k = letters_of s

    abbrev words : List Word
    words = words_in lists

    abbrev c : Word
    c = parent words (number + 1) ++ a ∷ []

    number_in : number < length words
    number_in = inside setting at letter

    row_in : number + 1 ≤ length words
    row_in = omega (arith, number_in)

    longer : length c ≡ length (get_or words number []) + 1
    longer = omega (arith, length-append (parent words (number + 1)) (a ∷ []), ap length (here setting at letter))

    -- no element more
    stays : (m : ℕ) → IsGrown s (with_number lists m) (number + 1) (a + 1) → IsStep s lists (with_number lists m) number (a + 1)
    stays m g = record {
      at = record { within = at.within; grown = g; lefts = at.lefts; few = at.few; shorter = at.shorter };
      level = λ f l low high level. level;
      left = refl;
    }

    -- a product that is read
    pub told : (m : ℕ) → IsNumbered s words m c → IsStep s lists (with_number lists m) number (a + 1)
    told m n = stays m (grown_told setting at.grown row_in letter m n)

    pub told_count : (m steps : ℕ) → KeepsCount s lists (with_number lists m) steps steps
    told_count m steps = λ start counted. counted_more (omega (arith, length-append lists.right (m ∷ []))) counted

    -- a product that is multiplied out, since the rest with the letter is a word
    module _ (reduced : is_product lists.factors (rest setting at letter) (suffix setting at letter) a ≡ true) where
      abbrev t : ℕ
      t = suffix setting at letter

      abbrev b : ℕ
      b = first setting at letter

      abbrev m : ℕ
      m = rest setting at letter

      rest_in : m < length words
      rest_in = (rest_number setting at letter).0

      rest_is : get_or words m [] ≡ parent words t ++ a ∷ []
      rest_is = let is = product_is lists.factors m t a reduced in factor_word k lists.factors at.grown.known m (rest_within setting at letter) ∙ (λ i. parent words (is.0 i) ++ is.1 i ∷ [])

      rest_least : IsLeast (IsSame s) (parent words t ++ a ∷ [])
      rest_least = subst (λ u. IsLeast (IsSame s) u) rest_is (found_least setting at.grown.found m rest_in)

      factors_least : (f : Word) → IsProperFactor f c → IsSame s f f → IsLeast (IsSame s) f
      factors_least f proper r = factor_least setting (parent words (number + 1)) a
          (λ _. subst (λ u. IsLeast (IsSame s) u) (sym (here setting at letter)) (found_least setting at.grown.found number number_in))
          (λ d rest e. subst (λ u. IsLeast (IsSame s) (u ++ a ∷ [])) (tail_same b d (parent words t) rest (sym (whole setting at letter) ∙ sym (here setting at letter) ∙ e)) rest_least) f proper r.left.0

      before : (j d : ℕ) → j ≤ length words → d < k → j * k + d < length lists.right → (parent words j ++ d ∷ []) ≺ c
      before j d hj hd less = place_before setting at.grown.found j d (number + 1) a hj row_in hd (omega (arith, letter)) (omega (arith, at.grown.found.count))

      rule : (n : ℕ) → IsNumbered s words n c → IsReducedRule (IsSame s) c (get_or words n [])
      rule n is = record {
        normal = record { related = is.1; least = found_least setting at.grown.found n is.0 };
        falls = words_before setting at.grown row_in (omega (arith, letter)) n is.0;
        factors = factors_least;
      }

      module _ (p : V) (value : IsTrue (s.equal (value_in s c) p)) (steps : ℕ) where
        abbrev place : ℕ
        place = position_or_len (s.equal p) lists.elements

        abbrev Made : FoundLists V → Type 0
        Made new = IsStep s lists new number (a + 1) × KeepsCount s lists new steps (steps + 1)

        one_more : length lists.right + 1 ≡ length (lists.right ++ place ∷ [])
        one_more = omega (arith, length-append lists.right (place ∷ []))

        made_old : list_any (s.equal p) lists.elements ≡ true → Made (with_number lists place)
        made_old there = (
          stays place (grown_old setting at.grown row_in letter p value there),
          λ start counted. subst (λ z. AreCounted s words z start (steps + 1)) one_more (counted_rule (number + 1) a (rule place (old_number setting at.grown.found row_in letter p value there)) row_in letter at.grown.found.count before counted),
        )

        made_new : list_any (s.equal p) lists.elements ≡ false → Made (with_element lists p (factor_of (number + 1) a) (tail_of b (m + 1)) place)
        made_new none =
            let pushed : words_of (lists.factors ++ factor_of (number + 1) a ∷ []) ≡ words ++ c ∷ [] = words_push [] lists.factors (number + 1) a in
            let at_next : parent words (m + 1) ≡ get_or words m [] = rw add-one refl in
            let split : c ≡ b ∷ parent words (m + 1) = product_word setting at letter ∙ ap (λ u. b ∷ u) (sym rest_is ∙ sym at_next) in (
              record {
                at = record {
                  within = omega (arith, at.within, length-append lists.elements (p ∷ []));
                  grown = grown_new setting at.grown row_in letter p value b (m + 1) (omega (arith, rest_in)) split none;
                  lefts = subst (λ ws. AreLeftNumbers s ws lists.left) (sym pushed) (left_push words c lists.left at.lefts (λ j d h l. omega (arith, row_in, row_within k j (number + 1) 0 d (omega arith) (omega (arith, at.few, l)))));
                  few = at.few;
                  shorter = subst (λ ws. ReachesShorter k ws (length lists.left) number) (sym pushed) (shorter_push k words c (length lists.left) number number_in longer at.shorter);
                };
                level = λ f l low high level. subst (λ ws. IsLevel ws f l) (sym pushed) (level_push words c number f l low high longer level);
                left = refl;
              },
              λ start counted. subst (λ z. AreCounted s (words_of (lists.factors ++ factor_of (number + 1) a ∷ [])) z start (steps + 1)) one_more (subst (λ ws. AreCounted s ws (length lists.right + 1) start (steps + 1)) (sym pushed) (counted_word c counted)),
            )

        pub made : Made (taken s.equal lists p (factor_of (number + 1) a) (tail_of b (m + 1)))
        made = old_or_new s.equal lists p (factor_of (number + 1) a) (tail_of b (m + 1)) Made made_old made_new
