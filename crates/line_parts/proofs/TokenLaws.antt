-- What the tokens of a line and the number of a token are.
use Rattle.std.proofs.Common.{◌≡◌, ◌≢◌, ◌⊎◌, ◌↔◌, inl, inr, ℕ, zero, suc, ◌+◌, ◌-◌, ◌*◌, ◌^◌, ◌<◌, ◌≤◌, ◌==◌, nat_le, Bool, true, false, not, ◌&&◌, cond, if◌then◌else◌, List, [], ◌∷◌, ◌++◌, length, filter, fold, replicate, All, Some, None, refl, sym, ◌∙◌, ap, subst, arith, append-nil, rules}
use Rattle.std.specs.Prelude.{decimal}
use Rattle.std.specs.List.{slice_split, onto_first, list_all}
use Rattle.std.proofs.lemmas.Bool.{cases_Bool, cases_eq, le-leb, leb-true}
use Rattle.std.proofs.lemmas.List.Elements.{All-cons, All-head, All-nil, All-tail}
use Rattle.std.proofs.lemmas.List.Splits.{slice_split_at, slice_split_none}
use Rattle.std.proofs.lemmas.Fmt.{decimal-digits_value, decimal_nonempty, digits_decimal, digits_value-decimal}
use Rattle.std.proofs.lemmas.Str.Parse.{IsNumeralModel, digits_value_short, numerals_by_fold}
use Rattle.line_parts.specs.Token.{AreTokens, IsFirstToken, IsNumberText, Line, StartsBlank, Token, is_blank, is_digit, number_of, tokens_of}

-- Tokens.
abbrev is_some : List ℕ → Bool
is_some t = not (length t == 0)

abbrev AreBlank : List ℕ → Type 0
AreBlank = All (λ b. is_blank b ≡ true)

abbrev AreDense : List ℕ → Type 0
AreDense = All (λ b. is_blank b ≡ false)

-- blanks in front change no token
behind_blank : (b : ℕ) (bytes : List ℕ) → is_blank b ≡ true → tokens_of (b ∷ bytes) ≡ tokens_of bytes
behind_blank b bytes e = ap (λ c. filter is_some (cond c ([] ∷ slice_split is_blank bytes) (onto_first b (slice_split is_blank bytes)))) e

behind_gap : (gap bytes : List ℕ) → AreBlank gap → tokens_of (gap ++ bytes) ≡ tokens_of bytes
behind_gap [] bytes h = refl
behind_gap (b ∷ gap) bytes h =
    behind_blank b (gap ++ bytes) (All-head (λ c. is_blank c ≡ true) b gap h) ∙ behind_gap gap bytes (All-tail (λ c. is_blank c ≡ true) b gap h)

no_token : (bytes : List ℕ) → AreBlank bytes → tokens_of bytes ≡ []
no_token [] h = refl
no_token (b ∷ bytes) h = behind_blank b bytes (All-head (λ c. is_blank c ≡ true) b bytes h) ∙ no_token bytes (All-tail (λ c. is_blank c ≡ true) b bytes h)

kept_piece : (t : List ℕ) (pieces : Line) → t ≢ [] → filter is_some (t ∷ pieces) ≡ t ∷ filter is_some pieces
kept_piece [] pieces some = absurd (some refl)
kept_piece (b ∷ t) pieces some =
    let e : not (suc (length t) == 0) ≡ true = grind arith in
    ap (λ c. cond c ((b ∷ t) ∷ filter is_some pieces) (filter is_some pieces)) e

-- a run without blanks is a token
first_token : (t rest : List ℕ) → t ≢ [] → AreDense t → rest ≡ [] ⊎ StartsBlank rest → tokens_of (t ++ rest) ≡ t ∷ tokens_of rest
first_token t [] some dense ends =
    ap (λ bytes. tokens_of bytes) (append-nil t) ∙ ap (filter is_some) (slice_split_none is_blank t dense) ∙ kept_piece t [] some
first_token t (b ∷ rest) some dense (inl e) = cc
first_token t (b ∷ rest) some dense (inr blank) =
    ap (filter is_some) (slice_split_at is_blank t b rest dense blank) ∙ kept_piece t (slice_split is_blank rest) some
    ∙ ap (λ ts. t ∷ ts) (sym (behind_blank b rest blank))

tokens_from : (bytes : List ℕ) (tokens : Line) → AreTokens bytes tokens → tokens_of bytes ≡ tokens
tokens_from bytes [] h = no_token bytes h
tokens_from bytes (t ∷ tokens) h =
    let first = h.1 in
    ap (λ bs. tokens_of bs) first.parts ∙ behind_gap first.gap (t ++ h.0) first.blank ∙ first_token t h.0 first.some first.dense first.ends
    ∙ ap (λ ts. t ∷ ts) (tokens_from h.0 tokens h.2)

-- one byte more in front
more_gap : (b : ℕ) (bytes : List ℕ) → is_blank b ≡ true → (tokens : Line) → AreTokens bytes tokens → AreTokens (b ∷ bytes) tokens
more_gap b bytes blank [] h = All-cons (λ c. is_blank c ≡ true) b bytes blank h
more_gap b bytes blank (t ∷ tokens) h =
    let first = h.1 in (
      h.0,
      record {
        gap = b ∷ first.gap;
        blank = All-cons (λ c. is_blank c ≡ true) b first.gap blank first.blank;
        parts = ap (λ bs. b ∷ bs) first.parts;
        some = first.some;
        dense = first.dense;
        ends = first.ends;
      },
      h.2,
    )

one_byte : (b : ℕ) (bytes : List ℕ) → is_blank b ≡ false → bytes ≡ [] ⊎ StartsBlank bytes → IsFirstToken (b ∷ bytes) (b ∷ []) bytes
one_byte b bytes dense ends = record {
  gap = [];
  blank = All-nil (λ c. is_blank c ≡ true);
  parts = refl;
  some = λ e. cc;
  dense = All-cons (λ c. is_blank c ≡ false) b [] dense (All-nil (λ c. is_blank c ≡ false));
  ends = ends;
}

clash : (b : ℕ) → is_blank b ≡ false → is_blank b ≡ true → ⊥
clash b e f = let bad : false ≡ true = sym e ∙ f in cc

longer_token : (b c : ℕ) (bytes t rest : List ℕ) → is_blank b ≡ false → is_blank c ≡ false → IsFirstToken (c ∷ bytes) t rest → IsFirstToken (b ∷ c ∷ bytes) (b ∷ t) rest
longer_token b c bytes t rest dense other first = go first.gap first.blank first.parts
  where
    go : (gap : List ℕ) → AreBlank gap → c ∷ bytes ≡ gap ++ (t ++ rest) → IsFirstToken (b ∷ c ∷ bytes) (b ∷ t) rest
    go [] blank parts = record {
      gap = [];
      blank = All-nil (λ x. is_blank x ≡ true);
      parts = ap (λ bs. b ∷ bs) parts;
      some = λ e. cc;
      dense = All-cons (λ x. is_blank x ≡ false) b t dense first.dense;
      ends = first.ends;
    }
    go (g ∷ gap) blank parts =
        let same : c ≡ g = cc in
        absurd (clash g (subst (λ x. is_blank x ≡ false) same other) (All-head (λ x. is_blank x ≡ true) g gap blank))

has_tokens : (bytes : List ℕ) → (tokens : Line) × AreTokens bytes tokens
has_tokens [] = ([], All-nil (λ c. is_blank c ≡ true))
has_tokens (b ∷ bytes) = elim (cases_Bool (is_blank b)) [
  | inl blank ↦ let rest = has_tokens bytes in (rest.0, more_gap b bytes blank rest.0 rest.1)
  | inr dense ↦ go bytes dense (has_tokens bytes)
]
  where
    go : (bytes : List ℕ) → is_blank b ≡ false → (tokens : Line) × AreTokens bytes tokens → (tokens : Line) × AreTokens (b ∷ bytes) tokens
    go [] dense rest = ((b ∷ []) ∷ [], ([], one_byte b [] dense (inl refl), All-nil (λ c. is_blank c ≡ true)))
    go (c ∷ bytes) dense (tokens, h) = by (cases_Bool (is_blank c)) tokens h
      where
        by : (is_blank c ≡ true) ⊎ (is_blank c ≡ false) → (tokens : Line) → AreTokens (c ∷ bytes) tokens → (tokens : Line) × AreTokens (b ∷ c ∷ bytes) tokens
        by (inl blank) tokens h = ((b ∷ []) ∷ tokens, (c ∷ bytes, one_byte b (c ∷ bytes) dense (inr blank), h))
        by (inr other) [] h = absurd (clash c other (All-head (λ x. is_blank x ≡ true) c bytes h))
        by (inr other) (t ∷ tokens) h = ((b ∷ t) ∷ tokens, (h.0, longer_token b c bytes t h.0 dense other h.1, h.2))

pub tokens_are_runs : (bytes : List ℕ) (tokens : Line) → (tokens_of bytes ≡ tokens) ↔ AreTokens bytes tokens
tokens_are_runs bytes tokens = (
  λ e. let found = has_tokens bytes in subst (AreTokens bytes) (sym (tokens_from bytes found.0 found.1) ∙ e) found.1,
  tokens_from bytes tokens,
)

-- Numbers.
own : IsNumeralModel (λ ds. list_all is_digit ds ≡ true) (λ ds. fold (λ n b. n * 10 + (b - 48)) 0 ds)
own = numerals_by_fold (λ ds. list_all is_digit ds ≡ true) (search rules) (λ n ds. fold (λ n b. n * 10 + (b - 48)) n ds) (search rules)

abbrev worth : Token → ℕ
worth t = fold (λ n b. n * 10 + (b - 48)) 0 t

both : (a b : Bool) → (a && b) ≡ true → (a ≡ true) × (b ≡ true)
both true b e = (refl, e)
both false b e = cc

-- digits are the decimal of what they are worth, behind leading zeros
behind_zeros : (t : Token) → list_all is_digit t ≡ true → 0 < length t → length t ≤ 7 → (zeros : ℕ) × (t ≡ replicate zeros 48 ++ decimal (worth t))
behind_zeros [] digits some short = absurd (omega arith)
behind_zeros (b ∷ []) digits some short =
    let small = digits_value_short own (b ∷ []) 7 digits short in
    (0, sym (decimal-digits_value own (b ∷ []) digits some (λ e. refl) (omega (arith, small))))
behind_zeros (b ∷ c ∷ t) digits some short = elim (cases_eq b 48) [
  | inl e ↦ zero_first e (behind_zeros (c ∷ t) (both (is_digit b) (list_all is_digit (c ∷ t)) digits).1 (omega arith) (omega (arith, short)))
  | inr d ↦
      let small = digits_value_short own (b ∷ c ∷ t) 7 digits short in
      (0, sym (decimal-digits_value own (b ∷ c ∷ t) digits some (λ e. absurd (d e)) (omega (arith, small))))
]
  where
    zero_first : b ≡ 48 → (zeros : ℕ) × (c ∷ t ≡ replicate zeros 48 ++ decimal (worth (c ∷ t))) → (zeros : ℕ) × (b ∷ c ∷ t ≡ replicate zeros 48 ++ decimal (worth (b ∷ c ∷ t)))
    zero_first e (zeros, f) =
        subst (λ x. (zeros : ℕ) × (x ∷ c ∷ t ≡ replicate zeros 48 ++ decimal (worth (x ∷ c ∷ t)))) (sym e) (suc zeros, ap (λ ds. 48 ∷ ds) f)

-- and such digits are worth the number
zeros_digits : (zeros n : ℕ) → n < 10 ^ 7 → list_all is_digit (replicate zeros 48 ++ decimal n) ≡ true
zeros_digits zero n small = digits_decimal own n (omega (arith, small))
zeros_digits (suc more) n small = zeros_digits more n small

zeros_worth : (zeros n : ℕ) → n < 10 ^ 7 → worth (replicate zeros 48 ++ decimal n) ≡ n
zeros_worth zero n small = digits_value-decimal own n (omega (arith, small))
zeros_worth (suc more) n small = zeros_worth more n small

zeros_some : (zeros n : ℕ) → n < 10 ^ 7 → 1 ≤ length (replicate zeros 48 ++ decimal n)
zeros_some zero n small = let some = decimal_nonempty n (omega (arith, small)) in omega (arith, some)
zeros_some (suc more) n small = omega arith

holds : (a b c : Bool) (m n : ℕ) → a ≡ true → b ≡ true → c ≡ true → m ≡ n → (if a && (b && c) then Some m else None) ≡ Some n
holds true true true m n ea eb ec e = ap (λ z. Some z) e
holds true true false m n ea eb ec e = cc
holds true false c m n ea eb ec e = cc
holds false b c m n ea eb ec e = cc

pub number_is_decimal : (t : Token) (n : ℕ) → (number_of t ≡ Some n) ↔ IsNumberText n t
number_is_decimal t n = (there (nat_le 1 (length t)) (nat_le (length t) 7) (list_all is_digit t) refl refl refl, back)
  where
    there : (a b c : Bool) → nat_le 1 (length t) ≡ a → nat_le (length t) 7 ≡ b → list_all is_digit t ≡ c → (if a && (b && c) then Some (worth t) else None) ≡ Some n → IsNumberText n t
    there true true true ea eb ec e =
        let some : 1 ≤ length t = leb-true 1 (length t) ea in
        let short : length t ≤ 7 = leb-true (length t) 7 eb in
        let is : worth t ≡ n = cc in
        let small : worth t < 10 ^ 7 = digits_value_short own t 7 ec short in
        let zeros = behind_zeros t ec (omega (arith, some)) short in
        (omega (arith, small, is), short, (zeros.0, subst (λ m. t ≡ replicate zeros.0 48 ++ decimal m) is zeros.1))
    there true true false ea eb ec e = cc
    there true false c ea eb ec e = cc
    there false b c ea eb ec e = cc

    back : IsNumberText n t → number_of t ≡ Some n
    back h =
        let text = h.2.1 in
        holds (nat_le 1 (length t)) (nat_le (length t) 7) (list_all is_digit t) (worth t) n
        (le-leb 1 (length t) (subst (λ ds. 1 ≤ length ds) (sym text) (zeros_some h.2.0 n h.0)))
        (le-leb (length t) 7 h.1)
        (subst (λ ds. list_all is_digit ds ≡ true) (sym text) (zeros_digits h.2.0 n h.0))
        (subst (λ ds. worth ds ≡ n) (sym text) (zeros_worth h.2.0 n h.0))
