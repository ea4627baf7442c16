-- Lists that are written line by line.
use Rattle.std.proofs.Common.{◌≡◌, ℕ, zero, suc, ◌+◌, ◌<◌, ◌≤◌, List, [], ◌∷◌, ◌++◌, length, get_or, take, drop, Result, Ok, Err, OnOk, sym, ap, ap₂, ◌∙◌, arith, append-nil, codes, decimal, map}
use Rattle.std.specs.List.{flat_map, range_with_len}
use Rattle.std.proofs.Math.Seq.{drop-cons}
use Rattle.std.proofs.lemmas.List.{take_more, take_all, take-append-drop, append_assoc}
use Rattle.std.proofs.lemmas.Grind.{flat_map-append}
use Rattle.ports.specs.declared.sink.Sink.{Ghosts}
use Rattle.ports.specs.declared.fault.WriteFault.{WriteFault}
use Rattle.ports.specs.declared.fault.WriteFault.TheVariants.{NoMemory}
use Rattle.ports.specs.Writes.{WritesBytes}
use Rattle.ports.proofs.WriteLemmas.{same_bytes, bytes_then, bytes_broken_off, bytes_out_of_memory}
use Rattle.report_lines.specs.LineBytes.{bytes_of}
use Rattle.report_lines.specs.Lines.{numbers_text}

module _ {A : Type 0} (f : A → List ℕ) (xs : List A) where
  -- the lines of the first ones, and of the rest
  split_lines : (i : ℕ) → flat_map f xs ≡ flat_map f (take i xs) ++ flat_map f (drop i xs)
  split_lines i = ap (flat_map f) (sym (take-append-drop i xs)) ∙ flat_map-append f (take i xs) (drop i xs)

  -- the lines up to a place, and the line there
  next_line : (i : ℕ) (d : A) → i < length xs → flat_map f (take (i + 1) xs) ≡ flat_map f (take i xs) ++ f (get_or xs i d)
  next_line i d within = ap (flat_map f) (take_more xs i d within) ∙ flat_map-append f (take i xs) (get_or xs i d ∷ []) ∙ ap (λ t. flat_map f (take i xs) ++ t) (append-nil (f (get_or xs i d)))

  -- the lines from a place on
  later_lines : (i : ℕ) (d : A) → i < length xs → flat_map f (drop i xs) ≡ f (get_or xs i d) ++ flat_map f (drop (suc i) xs)
  later_lines i d within = ap (flat_map f) (drop-cons xs i d within)

  module _ {K : Type 0} (sink : Ghosts K) (i : ℕ) (old mid : K) (before : WritesBytes sink (flat_map f (take i xs)) old mid (Ok (tt {0}))) where
    -- one line more
    pub more_lines : (d : A) (new : K) → i < length xs → WritesBytes sink (f (get_or xs i d)) mid new (Ok (tt {0})) → WritesBytes sink (flat_map f (take (i + 1) xs)) old new (Ok (tt {0}))
    more_lines d new within line = same_bytes sink _ _ old new _ (sym (next_line i d within)) (bytes_then sink _ _ old mid new _ _ before line)

    -- memory ran out after the first lines
    pub lines_begun : WritesBytes sink {T = Unit {0}} (flat_map f xs) old mid (Err NoMemory)
    lines_begun = same_bytes sink _ _ old mid _ (sym (split_lines i)) (bytes_out_of_memory sink (flat_map f (take i xs)) (flat_map f (drop i xs)) old mid _ before)

    -- a fault at the next line
    pub line_begun : (d : A) (new : K) (fault : WriteFault) → i < length xs → WritesBytes sink {T = Unit {0}} (f (get_or xs i d)) mid new (Err fault) → WritesBytes sink {T = Unit {0}} (flat_map f xs) old new (Err fault)
    line_begun d new fault within line =
        same_bytes sink _ _ old new _ (sym (split_lines i))
        (bytes_then sink _ _ old mid new _ _ before
        (same_bytes sink _ _ mid new _ (sym (later_lines i d within)) (bytes_broken_off sink (f (get_or xs i d)) (flat_map f (drop (suc i) xs)) mid new fault line)))

    -- all lines
    pub lines_done : length xs ≤ i → WritesBytes sink (flat_map f xs) old mid (Ok (tt {0}))
    lines_done all = same_bytes sink _ _ old mid _ (ap (flat_map f) (take_all i xs all)) before

range_suc : (a n : ℕ) → range_with_len a (suc n) ≡ range_with_len a n ++ (a + n) ∷ []
range_suc a zero = ap (λ b. b ∷ []) (let e : a ≡ a + 0 = omega arith in e)
range_suc a (suc n) = ap (λ t. a ∷ t) (range_suc (a + 1) n ∙ ap (λ b. range_with_len (a + 1) n ++ b ∷ []) (let e : a + 1 + n ≡ a + suc n = omega arith in e))

-- one number more
pub range_more : (a n : ℕ) → range_with_len a (n + 1) ≡ range_with_len a n ++ (a + n) ∷ []
range_more a n = ap (range_with_len a) (let e : n + 1 ≡ suc n = omega arith in e) ∙ range_suc a n

-- the number of one letter more
pub numbers_more : (number : ℕ → ℕ) (k : ℕ) (before with_space after : List ℕ) (n : ℕ) → n ≡ number k → with_space ≡ before ++ codes " " → after ≡ with_space ++ decimal n → (start : List ℕ) → before ≡ start ++ numbers_text k number
    → after ≡ start ++ numbers_text (k + 1) number
numbers_more number k before with_space after n same e h start so_far =
    let text : List ℕ = numbers_text k number in
    let g : ℕ → List ℕ = λ a. codes " " ++ decimal (number a) in
    let next : numbers_text (k + 1) number ≡ text ++ g k = ap (flat_map g) (range_more 0 k) ∙ flat_map-append g (range_with_len 0 k) ((0 + k) ∷ []) ∙ ap (λ t. text ++ t) (append-nil (g (0 + k))) ∙ ap (λ j. text ++ g j) (let z : 0 + k ≡ k = omega arith in z) in
    h ∙ ap (λ t. t ++ decimal n) (e ∙ ap (λ t. t ++ codes " ") so_far)
    ∙ append_assoc (start ++ text) (codes " ") (decimal n)
    ∙ ap (λ m. (start ++ text) ++ (codes " " ++ decimal m)) same
    ∙ append_assoc start text (g k)
    ∙ ap (λ t. start ++ t) (sym next)

-- two texts that are put at the end of a line, one behind another
pub put_behind : {T E : Type 0} (r : Result T E) (line a mid b new : List ℕ) → mid ≡ line ++ a → OnOk r (new ≡ mid ++ b) → OnOk r (new ≡ line ++ (a ++ b))
put_behind (Ok x) line a mid b new e h = h ∙ ap (λ l. l ++ b) e ∙ append_assoc line a b
put_behind (Err fault) line a mid b new e h = tt

-- a line of a name and a text
pub line_put : (name text begun whole given : List ℕ) → begun ≡ name → whole ≡ begun ++ given → given ≡ text → whole ++ codes "\n" ≡ name ++ (text ++ codes "\n")
line_put name text begun whole given b w g = ap (λ line. line ++ codes "\n") (w ∙ ap₂ ◌++◌ b g) ∙ append_assoc name text (codes "\n")

-- a line of two texts and what stands between them
pub both_put : (a b c begun mid whole : List ℕ) → begun ≡ a → mid ≡ begun ++ b → whole ≡ mid ++ c → whole ++ codes "\n" ≡ a ++ (b ++ (c ++ codes "\n"))
both_put a b c begun mid whole p q r = rw (r, q, p) (simp append_assoc)

-- the bytes of lines and one more
pub bytes_of_map : {A : Type 0} (f : A → List ℕ) (xs : List A) (last : List ℕ) → bytes_of (map f xs ++ last ∷ []) ≡ flat_map f xs ++ last
bytes_of_map f [] last = append-nil last
bytes_of_map f (x ∷ xs) last = ap (λ t. f x ++ t) (bytes_of_map f xs last) ∙ sym (append_assoc (f x) (flat_map f xs) last)

-- a listing is the lines of its items, and a last line
module _ {A K : Type 0} (sink : Ghosts K) (f : A → List ℕ) (xs : List A) (last : List ℕ) (old : K) where
  pub listing_begun : (new : K) (fault : WriteFault) → WritesBytes sink {T = Unit {0}} (flat_map f xs) old new (Err fault) → WritesBytes sink {T = Unit {0}} (bytes_of (map f xs ++ last ∷ [])) old new (Err fault)
  listing_begun new fault begun = same_bytes sink _ _ old new _ (sym (bytes_of_map f xs last)) (bytes_broken_off sink (flat_map f xs) last old new fault begun)

  pub listing_ended : (mid new : K) (r : Result (Unit {0}) WriteFault) → WritesBytes sink (flat_map f xs) old mid (Ok (tt {0})) → WritesBytes sink last mid new r → WritesBytes sink (bytes_of (map f xs ++ last ∷ [])) old new r
  listing_ended mid new r lines end = same_bytes sink _ _ old new r (sym (bytes_of_map f xs last)) (bytes_then sink _ _ old mid new _ r lines end)
