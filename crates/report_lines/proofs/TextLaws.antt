-- The texts of words, each behind a space.
use Rattle.std.proofs.Common.{◌≡◌, ◌≢◌, ℕ, suc, ◌+◌, ◌-◌, ◌*◌, ◌<◌, ◌≤◌, ◌==◌, ◌⊎◌, inl, inr, List, [], ◌∷◌, ◌++◌, length, take, drop, codes, slice_index, slice_index_or, Option, refl, sym, ◌∙◌, ap, subst, arith, append_assoc, length-append}
use Rattle.std.specs.List.{slice_range}
use Rattle.std.proofs.lemmas.Bool.{cases_lt, cases_eq, cond_both, eqb-true}
use Rattle.std.proofs.lemmas.List.{drop-append-le, drop-drop, take-append-le, length-drop, take_all, length_push, get_or_append_left, get_or_default, get_or_push, map-append}
use Rattle.std.proofs.Math.Seq.{drop-append_seam}
use Rattle.theory.specs.Word.{Word}
use Rattle.words.specs.WordText.{bytes_of, text_of}
use Rattle.froidure_pin.specs.Found.{word_or_none}
use Rattle.report_lines.specs.declared.blocks.Block.{Block}
use Rattle.report_lines.specs.Blocks.{AreInOrder, IsBlockOf, block_at, last_width, no_block, place_in, with_block}
use Rattle.report_lines.specs.Texts.{JoinedTexts, AreTexts, HasText, IsInBlock}

-- a part of a list stays with more behind it
pub slice_kept : (xs ys : List ℕ) (i j : ℕ) → i ≤ j → j ≤ length xs → slice_range (xs ++ ys) i j ≡ slice_range xs i j
slice_kept xs ys i j low high =
    ap (take (j - i)) (drop-append-le i xs ys (omega (arith, low, high))) ∙ take-append-le (j - i) (drop i xs) ys (omega (arith, length-drop i xs, low, high))

-- a part of a list without its first element
pub slice_behind : (xs ys : List ℕ) (x i j : ℕ) → i < j → slice_range xs i j ≡ x ∷ ys → slice_range xs (i + 1) j ≡ ys
slice_behind xs ys x i j less e =
    let long : j - i ≡ suc (j - (i + 1)) = omega (arith, less) in
    ap (take (j - (i + 1))) (drop_one i xs) ∙ go (drop i xs) (j - (i + 1)) (ap (λ m. take m (drop i xs)) (sym long) ∙ e)
  where
    drop_one : (n : ℕ) (zs : List ℕ) → drop (n + 1) zs ≡ drop 1 (drop n zs)
    drop_one n zs = sym (drop-drop 1 n zs)

    go : (zs : List ℕ) (m : ℕ) → take (suc m) zs ≡ x ∷ ys → take m (drop 1 zs) ≡ ys
    go [] m h = absurd (omega (arith, ap length h))
    go (z ∷ zs) m h = ap (drop 1) h

-- what is put behind a list
slice_last : (xs ys : List ℕ) (i j : ℕ) → i ≡ length xs → j ≡ length xs + length ys → slice_range (xs ++ ys) i j ≡ ys
slice_last xs ys i j low high =
    subst (λ n. slice_range (xs ++ ys) n j ≡ ys) (sym low)
    (ap (take (j - length xs)) (drop-append_seam xs ys) ∙ take_all (j - length xs) ys (omega (arith, high)))

-- where the next text of a block stands
place_next : (b : Block) (i : ℕ) → b.first ≤ i → place_in b (i + 1) ≡ place_in b i + b.width
place_next b i h =
    let next : i + 1 - b.first ≡ suc (i - b.first) = omega (arith, h) in
    let rows : (i + 1 - b.first) * b.width ≡ (i - b.first) * b.width + b.width = ap (λ n. n * b.width) next ∙ omega arith in
    omega (arith, rows)

-- where the first text of a block stands
place_first : (b : Block) (i : ℕ) → b.first ≡ i → place_in b i ≡ b.place
place_first b i h =
    let none : i - b.first ≡ 0 = omega (arith, h) in
    let rows : (i - b.first) * b.width ≡ 0 = ap (λ n. n * b.width) none ∙ omega arith in
    omega (arith, rows)

-- a text stays with more bytes behind it
text_kept : (bytes more : List ℕ) (b : Block) (i : ℕ) (letters : List ℕ) → HasText bytes b i letters → HasText (bytes ++ more) b i letters
text_kept bytes more b i letters h = record {
  wide = h.wide;
  within = omega (arith, h.within, length-append bytes more);
  text = slice_kept bytes more (place_in b i) (place_in b i + b.width) (omega arith) h.within ∙ h.text;
}

-- a text that is put behind the bytes
text_put : (bytes more : List ℕ) (b : Block) (i : ℕ) (letters : List ℕ) → place_in b i ≡ length bytes → b.width ≡ length more → more ≡ codes " " ++ letters → HasText (bytes ++ more) b i letters
text_put bytes more b i letters place width is =
    let some : length more ≡ suc (length letters) = ap length is in
    record {
      wide = omega (arith, some, width);
      within = omega (arith, length-append bytes more, place, width);
      text = slice_last bytes more (place_in b i) (place_in b i + b.width) place (omega (arith, place, width)) ∙ is;
    }

-- the letters of a text
pub text_letters : (bytes letters : List ℕ) (b : Block) (i : ℕ) → HasText bytes b i letters → slice_range bytes (place_in b i + 1) (place_in b i + b.width) ≡ letters
text_letters bytes letters b i h = slice_behind bytes letters 32 (place_in b i) (place_in b i + b.width) (omega (arith, h.wide)) h.text

abbrev pub joined : List ℕ → List Block → ℕ → JoinedTexts
joined bytes blocks count = record { bytes = bytes; blocks = blocks; count = count }

-- a number before a last block that is put behind the others
block_before : (blocks : List Block) (b : Block) (k i : ℕ) → k < length blocks → IsBlockOf (blocks ++ b ∷ []) k i → IsBlockOf blocks k i
block_before blocks b k i low h = record {
  place = low;
  from = subst (λ (c : Block). c.first ≤ i) (get_or_append_left blocks (b ∷ []) no_block k low) h.from;
  next = λ less. subst (λ (c : Block). i < c.first) (get_or_append_left blocks (b ∷ []) no_block (k + 1) less) (h.next (omega (arith, less, length_push blocks b)));
}

module _ (alphabet : List ℕ) (words : List Word) where
  pub text_bytes : (w : Word) → w ≢ [] → text_of alphabet w ≡ bytes_of alphabet w
  text_bytes [] some = absurd (some refl)
  text_bytes (a ∷ u) some = refl

  text_pushed : (u : Word) (a : ℕ) → text_of alphabet (u ++ a ∷ []) ≡ bytes_of alphabet u ++ slice_index alphabet a ∷ []
  text_pushed [] a = refl
  text_pushed (c ∷ u) a = map-append (λ x. slice_index alphabet x) (c ∷ u) (a ∷ [])

  some_pushed : (u w : Word) (a : ℕ) → w ≡ u ++ a ∷ [] → w ≢ []
  some_pushed u w a e none = let long : length w ≡ length u + 1 = ap length e ∙ length_push u a in absurd (omega (arith, long, ap length none))

  pub texts_none : AreTexts alphabet words (joined [] [] 0)
  texts_none = record {
    text = λ k i h. absurd (omega (arith, h.counted));
    some = λ i h. absurd (omega arith);
    found = λ h. absurd (omega arith);
    order = λ i j d l h. absurd (omega arith);
    first = refl;
    begun = λ k h. absurd (omega arith);
    last = λ k h. absurd (omega (arith, h));
  }

  module _ (bytes : List ℕ) (blocks : List Block) (count : ℕ) (t : AreTexts alphabet words (joined bytes blocks count)) where
    -- where more bytes are the text of the next word
    module _ (more : List ℕ) (is : more ≡ codes " " ++ text_of alphabet (slice_index_or words count [])) (some : slice_index_or words count [] ≢ []) where
      long : length more ≡ suc (length (text_of alphabet (slice_index_or words count [])))
      long = ap length is

      some_more : (i : ℕ) → i < count + 1 → slice_index_or words i [] ≢ []
      some_more i h = elim (cases_lt i count) [
        | inl l ↦ t.some i l
        | inr m ↦ let same : i ≡ count = omega (arith, h, m) in subst (λ n. slice_index_or words n [] ≢ []) (sym same) some
      ]

      -- one more text in the last block
      in_last : last_width blocks ≡ length more → AreTexts alphabet words (joined (bytes ++ more) blocks (count + 1))
      in_last width = record {
        text = λ k i h. go k i h (cases_lt i count);
        some = some_more;
        found = λ h. one;
        order = t.order;
        first = t.first;
        begun = λ k h. omega (arith, t.begun k h);
        last = λ k h. place_next (block_at blocks k) count (t.begun k (omega (arith, h))) ∙ omega (arith, t.last k h, length-append bytes more, width_at k h);
      }
        where
          some_block : (bs : List Block) → last_width bs ≡ length more → 0 < length bs
          some_block [] e = absurd (omega (arith, e, long))
          some_block (b ∷ bs) e = omega arith

          one : 0 < length blocks
          one = some_block blocks width

          width_at : (k : ℕ) → k + 1 ≡ length blocks → (block_at blocks k).width ≡ length more
          width_at k e = let same : k ≡ length blocks - 1 = omega (arith, e) in ap (λ n. (block_at blocks n).width) same ∙ width

          go : (k i : ℕ) → IsInBlock (joined (bytes ++ more) blocks (count + 1)) k i → (i < count) ⊎ (count ≤ i)
              → HasText (bytes ++ more) (block_at blocks k) i (text_of alphabet (slice_index_or words i []))
          go k i h (inl l) = text_kept bytes more (block_at blocks k) i (text_of alphabet (slice_index_or words i [])) (t.text k i (record { counted = l; block = h.block }))
          go k i h (inr m) =
              let same : i ≡ count = omega (arith, h.counted, m) in
              let final : k + 1 ≡ length blocks = elim (cases_lt (k + 1) (length blocks)) [
                | inl less ↦ absurd (omega (arith, h.block.next less, t.begun (k + 1) less, m))
                | inr most ↦ omega (arith, h.block.place, most)
              ] in
              text_put bytes more (block_at blocks k) i (text_of alphabet (slice_index_or words i [])) (ap (place_in (block_at blocks k)) same ∙ t.last k final) (width_at k final)
              (is ∙ ap (λ n. codes " " ++ text_of alphabet (slice_index_or words n [])) (sym same))

      -- one more text in a block of its own
      in_next : (b : Block) → b.first ≡ count → b.place ≡ length bytes → b.width ≡ length more → AreTexts alphabet words (joined (bytes ++ more) (blocks ++ b ∷ []) (count + 1))
      in_next b first place width = record {
        text = λ k i h. go k i h (cases_lt k (length blocks));
        some = some_more;
        found = λ h. omega (arith, length_push blocks b);
        order = go_order;
        first = at_first (cases_eq (length blocks) 0);
        begun = λ k h. go_begun k h (cases_lt k (length blocks));
        last = λ k h.
            let same : k ≡ length blocks = omega (arith, h, length_push blocks b) in
            ap (λ c. place_in c (count + 1)) (at_new k same) ∙ place_next b count (omega (arith, first)) ∙ omega (arith, place_first b count first, place, width, length-append bytes more);
      }
        where
          at_new : (k : ℕ) → k ≡ length blocks → block_at (blocks ++ b ∷ []) k ≡ b
          at_new k e = get_or_push blocks b no_block k (sym e)

          at_old : (k : ℕ) → k < length blocks → block_at (blocks ++ b ∷ []) k ≡ block_at blocks k
          at_old k h = get_or_append_left blocks (b ∷ []) no_block k h

          at_first : (length blocks ≡ 0) ⊎ (length blocks ≡ 0 → ⊥) → (block_at (blocks ++ b ∷ []) 0).first ≡ 0
          at_first (inl e) =
              let none : count ≡ 0 = elim (cases_eq count 0) [ inl z ↦ z | inr n ↦ absurd (omega (arith, e, t.found (omega (arith, n)))) ] in
              ap (λ (c : Block). c.first) (at_new 0 (sym e)) ∙ first ∙ none
          at_first (inr n) = ap (λ (c : Block). c.first) (at_old 0 (omega (arith, n))) ∙ t.first

          -- blocks stand in order, whatever stands for none
          go_order : AreInOrder (blocks ++ b ∷ [])
          go_order i j d l h = elim (cases_lt j (length blocks)) [
            | inl less ↦
                subst (λ (c : Block). c.first ≤ (slice_index_or (blocks ++ b ∷ []) j d).first) (sym (get_or_append_left blocks (b ∷ []) d i (omega (arith, l, less))))
                (subst (λ (c : Block). (slice_index_or blocks i d).first ≤ c.first) (sym (get_or_append_left blocks (b ∷ []) d j less)) (t.order i j d l less))
            | inr most ↦
                let last : length blocks ≡ j = omega (arith, most, h, length_push blocks b) in
                subst (λ (c : Block). (slice_index_or (blocks ++ b ∷ []) i d).first ≤ c.first) (sym (get_or_push blocks b d j last)) (elim (cases_lt i (length blocks)) [
                  | inl low ↦
                      subst (λ (c : Block). c.first ≤ b.first) (sym (get_or_append_left blocks (b ∷ []) d i low))
                      (subst (λ (c : Block). c.first ≤ b.first) (get_or_default blocks i no_block d low) (omega (arith, t.begun i low, first)))
                  | inr high ↦ subst (λ (c : Block). c.first ≤ b.first) (sym (get_or_push blocks b d i (omega (arith, high, l, last)))) (omega arith)
                ])
          ]

          go_begun : (k : ℕ) → k < length (blocks ++ b ∷ []) → (k < length blocks) ⊎ (length blocks ≤ k) → (block_at (blocks ++ b ∷ []) k).first ≤ count + 1
          go_begun k h (inl l) = omega (arith, ap (λ (c : Block). c.first) (at_old k l), t.begun k l)
          go_begun k h (inr m) = omega (arith, ap (λ (c : Block). c.first) (at_new k (omega (arith, h, m, length_push blocks b))), first)

          go : (k i : ℕ) → IsInBlock (joined (bytes ++ more) (blocks ++ b ∷ []) (count + 1)) k i → (k < length blocks) ⊎ (length blocks ≤ k)
              → HasText (bytes ++ more) (block_at (blocks ++ b ∷ []) k) i (text_of alphabet (slice_index_or words i []))
          go k i h (inl l) =
              let counted : i < count = elim (cases_lt (k + 1) (length blocks)) [
                | inl less ↦ omega (arith, (block_before blocks b k i l h.block).next less, t.begun (k + 1) less)
                | inr most ↦ omega (arith, h.block.next (omega (arith, l, length_push blocks b)), ap (λ (c : Block). c.first) (at_new (k + 1) (omega (arith, l, most))), first)
              ] in
              subst (λ c. HasText (bytes ++ more) c i (text_of alphabet (slice_index_or words i []))) (sym (at_old k l))
              (text_kept bytes more (block_at blocks k) i (text_of alphabet (slice_index_or words i [])) (t.text k i (record { counted = counted; block = block_before blocks b k i l h.block })))
          go k i h (inr m) =
              let new : block_at (blocks ++ b ∷ []) k ≡ b = at_new k (omega (arith, h.block.place, m, length_push blocks b)) in
              let same : i ≡ count = omega (arith, h.counted, h.block.from, ap (λ (c : Block). c.first) new, first) in
              subst (λ c. HasText (bytes ++ more) c i (text_of alphabet (slice_index_or words i []))) (sym new)
              (text_put bytes more b i (text_of alphabet (slice_index_or words i [])) (ap (place_in b) same ∙ place_first b count first ∙ place) width
              (is ∙ ap (λ n. codes " " ++ text_of alphabet (slice_index_or words n [])) (sym same)))

      in_either : (b : Block) → b.first ≡ count → b.place ≡ length bytes → b.width ≡ length more → AreTexts alphabet words (joined (bytes ++ more) (with_block blocks b) (count + 1))
      in_either b first place width =
          cond_both (last_width blocks == b.width) blocks (blocks ++ b ∷ []) (λ bs. AreTexts alphabet words (joined (bytes ++ more) bs (count + 1)))
          (λ same. in_last (eqb-true (last_width blocks) b.width same ∙ width)) (λ other. in_next b first place width)

    -- the letters of the next word without its last one, and this one, behind the bytes and a space
    pub texts_more : (prefix : Option ℕ) (letters : List ℕ) (a c : ℕ) (b : Block) (now : List ℕ)
        → slice_index_or words count [] ≡ word_or_none words prefix ++ a ∷ [] → letters ≡ bytes_of alphabet (word_or_none words prefix) → c ≡ slice_index alphabet a
        → now ≡ ((bytes ++ codes " ") ++ letters) ++ c ∷ [] → b.first ≡ count → b.place ≡ length bytes → b.width ≡ length now - length bytes
        → AreTexts alphabet words (joined now (with_block blocks b) (count + 1))
    texts_more prefix letters a c b now word front byte whole first place width =
        let u : Word = word_or_none words prefix in
        let more : List ℕ = codes " " ++ (letters ++ c ∷ []) in
        let behind : now ≡ bytes ++ more = whole ∙ ap (λ xs. xs ++ c ∷ []) (append_assoc bytes (codes " ") letters) ∙ append_assoc bytes (codes " " ++ letters) (c ∷ []) ∙ ap (λ xs. bytes ++ xs) (append_assoc (codes " ") letters (c ∷ [])) in
        let is : more ≡ codes " " ++ text_of alphabet (slice_index_or words count []) =
        ap (λ xs. codes " " ++ xs) (ap (λ xs. xs ++ c ∷ []) front ∙ ap (λ x. bytes_of alphabet u ++ x ∷ []) byte ∙ sym (text_pushed u a) ∙ ap (text_of alphabet) (sym word)) in
        let size : length now ≡ length bytes + length more = ap length behind ∙ length-append bytes more in
        subst (λ xs. AreTexts alphabet words (joined xs (with_block blocks b) (count + 1))) (sym behind)
        (in_either more is (some_pushed u (slice_index_or words count []) a word) b first place (omega (arith, width, size)))
