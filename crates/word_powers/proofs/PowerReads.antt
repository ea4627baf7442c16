-- One byte more, as a text.
use Rattle.std.proofs.Common.{◌≡◌, ℕ, zero, suc, ◌+◌, ◌*◌, ◌-◌, ◌<◌, ◌≤◌, Bool, true, false, ◌==◌, ◌&&◌, nat_lt, nat_le, List, [], ◌∷◌, ◌++◌, length, Option, Some, None, ◌⊎◌, inl, inr, refl, sym, ap, ◌∙◌, subst, arith, cond, append_assoc, append-nil}
use Rattle.std.proofs.lemmas.Grind.{common_steps}
use Rattle.theory.specs.Word.{Word}
use Rattle.words.specs.Alphabet.{place_of}
use Rattle.word_powers.specs.Powers.{IsItems, IsExponent, IsStrangeByte, IsWordText, Letter, Group, First, Next}
use Rattle.word_powers.specs.PowerSteps.{State, value, done, outset, enter, entered, next, step, run, sign_of, plain_sign, letter_sign, is_ready, is_full, is_ended, is_whole, after_digit, after_caret, head_word, tail_words}
use Rattle.word_powers.specs.declared.powers.Sign.{Sign}
use Rattle.word_powers.specs.declared.powers.Sign.TheVariants as sign
use Rattle.word_powers.specs.declared.powers.Last.{Last}
use Rattle.word_powers.specs.declared.powers.Last.TheVariants as last
use Rattle.word_powers.proofs.PowerTexts.{IsSeq, IsFront, IsLast, IsRead, Top, Opened, Begun, Unit_word, Whole, Raised, Counted, exponent_short, full_items, ready_seq, front_room}

pub same : (x y : ℕ) → (x == y) ≡ true → x ≡ y
same x y e = grind (arith, common_steps)

other : (x y : ℕ) → (x == y) ≡ false → (x < y) ⊎ (y < x)
other x y e = grind (arith, common_steps)

-- ---- what a byte means

pub data IsSign (alphabet : List ℕ) : ℕ → Sign → Type 0 where
  Spells : (byte letter : ℕ) → place_of alphabet byte ≡ Some letter → IsSign alphabet byte (sign.Letter letter)
  Opens : IsSign alphabet 40 sign.Open
  Closes : IsSign alphabet 41 sign.Close
  Raises : IsSign alphabet 94 sign.Caret
  Counts : (byte : ℕ) → 48 ≤ byte → byte ≤ 57 → IsSign alphabet byte (sign.Digit (byte - 48))
  Strange : (byte : ℕ) → IsStrangeByte alphabet byte → IsSign alphabet byte sign.Stranger

plain : (alphabet : List ℕ) (byte : ℕ) → place_of alphabet byte ≡ None → IsSign alphabet byte (plain_sign byte)
plain alphabet byte none = by (byte == 40) refl (byte == 41) refl (byte == 94) refl (nat_le 48 byte && nat_le byte 57) refl
  where
    within : (byte : ℕ) → (nat_le 48 byte && nat_le byte 57) ≡ true → (48 ≤ byte) × (byte ≤ 57)
    within byte e = grind (arith, common_steps)

    outside : (byte : ℕ) → (nat_le 48 byte && nat_le byte 57) ≡ false → (byte < 48) ⊎ (57 < byte)
    outside byte e = grind (arith, common_steps)

    no_sign : (byte : ℕ) → (byte == 40) ≡ false → (byte == 41) ≡ false → (byte == 94) ≡ false → (byte < 40) ⊎ ((41 < byte) × ((byte < 94) ⊎ (94 < byte)))
    no_sign byte e f g = grind (arith, common_steps)

    by : (p : Bool) → (byte == 40) ≡ p → (q : Bool) → (byte == 41) ≡ q → (r : Bool) → (byte == 94) ≡ r → (t : Bool) → (nat_le 48 byte && nat_le byte 57) ≡ t → IsSign alphabet byte (cond p sign.Open (cond q sign.Close (cond r sign.Caret (cond t (sign.Digit (byte - 48)) sign.Stranger))))
    by true e q f r g t h = subst (λ b. IsSign alphabet b sign.Open) (sym (same byte 40 e)) Opens
    by false e true f r g t h = subst (λ b. IsSign alphabet b sign.Close) (sym (same byte 41 f)) Closes
    by false e false f true g t h = subst (λ b. IsSign alphabet b sign.Caret) (sym (same byte 94 g)) Raises
    by false e false f false g true h = Counts byte (within byte h).0 (within byte h).1
    by false e false f false g false h = Strange byte (record { no_letter = none; no_digit = outside byte h; no_sign = no_sign byte e f g })

pub signs : (alphabet : List ℕ) (byte : ℕ) → IsSign alphabet byte (sign_of alphabet byte)
signs alphabet byte = by (place_of alphabet byte) refl
  where
    by : (o : Option ℕ) → place_of alphabet byte ≡ o → IsSign alphabet byte (letter_sign o (plain_sign byte))
    by None e = plain alphabet byte e
    by (Some a) e = Spells byte a e

-- ---- one byte more

pub cond_some : (b : Bool) (x w : Last) → cond b (Some x) None ≡ Some w → (b ≡ true) × (x ≡ w)
cond_some true x w e = (refl, cc)
cond_some false x w e = absurd (cc)

pub both : (p q : Bool) → (p && q) ≡ true → (p ≡ true) × (q ≡ true)
both true q e = (refl, e)
both false q e = absurd (cc)

pub less : (x y : ℕ) → nat_lt x y ≡ true → x < y
less x y e = grind (arith, common_steps)

opened : (alphabet : List ℕ) (room : ℕ) (outer : List Word) (front rest : List ℕ) (word : Word) → length outer < 8 → IsFront alphabet room outer front → IsSeq alphabet room rest word → (r : ℕ) × IsFront alphabet r (word ∷ outer) (front ++ (rest ++ 40 ∷ []))
opened alphabet zero outer front rest word h f seq = let e = front_room alphabet zero outer front f in absurd (omega arith)
opened alphabet (suc r) outer front rest word h f seq = (r, Opened r outer front rest word f seq)

closed : (alphabet : List ℕ) (room : ℕ) (outer : List Word) (front rest : List ℕ) (word : Word) → 0 < length outer → IsFront alphabet room outer front → IsItems alphabet room rest word → (front' : List ℕ) × (text : List ℕ) × IsFront alphabet (suc room) (tail_words outer) front' × IsLast alphabet (suc room) last.Base text (head_word outer) word × ((front ++ rest) ++ 41 ∷ [] ≡ front' ++ text)
closed alphabet room outer front rest word h Top items = absurd (omega arith)
closed alphabet room _ _ rest word h (Opened _ outer front text before f seq) items = (front, text ++ (40 ∷ (rest ++ 41 ∷ [])), f, Whole text (40 ∷ (rest ++ 41 ∷ [])) before word seq (Group room rest word items), simp append_assoc)

raised : (alphabet : List ℕ) (room : ℕ) (was w : Last) (rest : List ℕ) (before base : Word) → IsLast alphabet room was rest before base → after_caret was ≡ Some w → IsLast alphabet room w (rest ++ 94 ∷ []) before base
raised alphabet room was w rest before base Begun e = absurd (cc)
raised alphabet room was w rest before base Unit_word e = absurd (cc)
raised alphabet room was w _ before base (Whole text more _ _ seq b) e =
    let is : last.Caret ≡ w = cc in
    subst (λ v. IsLast alphabet room v ((text ++ more) ++ 94 ∷ []) before base) is
    (subst (λ t. IsLast alphabet room last.Caret t before base) (sym (append_assoc text more (94 ∷ []))) (Raised text more before base seq b))
raised alphabet room was w rest before base (Raised text more _ _ seq b) e = absurd (cc)
raised alphabet room was w rest before base (Counted text more _ _ count digits number seq b x) e = absurd (cc)

longer : (count : ℕ) (number : ℕ) (text : List ℕ) → IsExponent count text number → number < 1000 → count < 4
longer count number text e h = by (exponent_short count text number e)
  where
    by : ((count ≡ 1) × (1 ≤ number) × (number ≤ 9)) ⊎ (((count ≡ 2) × (10 ≤ number) × (number ≤ 99)) ⊎ (((count ≡ 3) × (100 ≤ number) × (number ≤ 999)) ⊎ ((count ≡ 4) × (1000 ≤ number) × (number ≤ 9999)))) → count < 4
    by (inl p) = omega (arith, p.0)
    by (inr (inl p)) = omega (arith, p.0)
    by (inr (inr (inl p))) = omega (arith, p.0)
    by (inr (inr (inr p))) = absurd (let q : 1000 ≤ number = p.1 in omega arith)

counted : (alphabet : List ℕ) (room depth : ℕ) (was w : Last) (rest : List ℕ) (before base : Word) (byte : ℕ) → 48 ≤ byte → byte ≤ 57 → IsLast alphabet room was rest before base → after_digit depth was (byte - 48) ≡ Some w → IsLast alphabet room w (rest ++ byte ∷ []) before base
counted alphabet room depth was w rest before base byte l u Begun e =
    let h = cond_some (depth == 0 && (byte - 48) == 1) last.One w e in
    let one : byte ≡ 49 = one byte l (same (byte - 48) 1 (both (depth == 0) ((byte - 48) == 1) h.0).1) in
    subst (λ v. IsLast alphabet room v (byte ∷ []) [] []) h.1 (subst (λ b. IsLast alphabet room last.One (b ∷ []) [] []) (sym one) Unit_word)
  where
    one : (byte : ℕ) → 48 ≤ byte → byte - 48 ≡ 1 → byte ≡ 49
    one byte l e = omega arith
counted alphabet room depth was w rest before base byte l u Unit_word e = absurd (cc)
counted alphabet room depth was w rest before base byte l u (Whole text more _ _ seq b) e = absurd (cc)
counted alphabet room depth was w _ before base byte l u (Raised text more _ _ seq b) e = by ((byte - 48) == 0) refl e
  where
    first : (byte : ℕ) → 48 ≤ byte → ((byte - 48) == 0) ≡ false → 49 ≤ byte
    first byte l e = grind (arith, common_steps)

    by : (z : Bool) → ((byte - 48) == 0) ≡ z → cond z None (Some (last.Digits (byte - 48))) ≡ Some w → IsLast alphabet room w ((text ++ (more ++ 94 ∷ [])) ++ byte ∷ []) before base
    by true z e = absurd (cc)
    by false z e =
        let is : last.Digits (byte - 48) ≡ w = cc in
        let joined : text ++ (more ++ 94 ∷ byte ∷ []) ≡ (text ++ (more ++ 94 ∷ [])) ++ byte ∷ [] = simp append_assoc in
        subst (λ v. IsLast alphabet room v ((text ++ (more ++ 94 ∷ [])) ++ byte ∷ []) before base) is
        (subst (λ t. IsLast alphabet room (last.Digits (byte - 48)) t before base) joined (Counted text more before base 1 (byte ∷ []) (byte - 48) seq b (First byte (first byte l z) u)))
counted alphabet room depth was w _ before base byte l u (Counted text more _ _ count digits number seq b x) e =
    let h = cond_some (nat_lt number 1000) (last.Digits (10 * number + (byte - 48))) w e in
    let short = longer count number digits x (less number 1000 h.0) in
    let joined : text ++ (more ++ 94 ∷ (digits ++ byte ∷ [])) ≡ (text ++ (more ++ 94 ∷ digits)) ++ byte ∷ [] = simp append_assoc in
    subst (λ v. IsLast alphabet room v ((text ++ (more ++ 94 ∷ digits)) ++ byte ∷ []) before base) h.1
    (subst (λ t. IsLast alphabet room (last.Digits (10 * number + (byte - 48))) t before base) joined (Counted text more before base (suc count) (digits ++ byte ∷ []) (10 * number + (byte - 48)) seq b (Next count digits number byte x short l u)))

pub no_outer : (outer : List Word) → length outer ≡ 0 → outer ≡ []
no_outer [] e = refl
no_outer (u ∷ us) e = absurd (omega arith)

one_depth : (outer : List Word) (was w : Last) (digit : ℕ) → (was ≡ last.One → outer ≡ []) → after_digit (length outer) was digit ≡ Some w → w ≡ last.One → outer ≡ []
one_depth outer last.Start w digit one e is =
    let h = cond_some (length outer == 0 && digit == 1) last.One w e in
    no_outer outer (same (length outer) 0 (both (length outer == 0) (digit == 1) h.0).0)
one_depth outer last.One w digit one e is = one refl
one_depth outer last.Base w digit one e is = absurd (cc)
one_depth outer last.Caret w digit one e is = by (digit == 0) e
  where
    by : (z : Bool) → cond z None (Some (last.Digits digit)) ≡ Some w → outer ≡ []
    by true e = absurd (cc)
    by false e = absurd (cc)
one_depth outer (last.Digits n) w digit one e is = by (nat_lt n 1000) e
  where
    by : (z : Bool) → cond z (Some (last.Digits (10 * n + digit))) None ≡ Some w → outer ≡ []
    by true e = absurd (cc)
    by false e = absurd (cc)

caret_one : (was w : Last) → after_caret was ≡ Some w → w ≡ last.Caret
caret_one last.Start w e = absurd (cc)
caret_one last.One w e = absurd (cc)
caret_one last.Base w e = cc
caret_one last.Caret w e = absurd (cc)
caret_one (last.Digits n) w e = absurd (cc)

reads_sign : (alphabet text : List ℕ) (s : State) (byte : ℕ) (sg : Sign) (w : Last) → IsRead alphabet text s → IsSign alphabet byte sg → next (length s.outer) s.last sg ≡ Some w → IsRead alphabet (text ++ byte ∷ []) (enter s sg w)
reads_sign alphabet text s byte sg w r (Spells _ a p) e =
    let h = cond_some (is_ready s.last) last.Base w e in
    subst (λ v. IsRead alphabet (text ++ byte ∷ []) (enter s (sign.Letter a) v)) h.1 (record {
      room = r.room;
      front = r.front;
      rest = r.rest ++ byte ∷ [];
      is = ap (λ t. t ++ byte ∷ []) r.is ∙ append_assoc r.front r.rest (byte ∷ []);
      behind = r.behind;
      at = Whole r.rest (byte ∷ []) (done s) (a ∷ []) (ready_seq alphabet r.room s.last r.rest s.before s.base r.at h.0) (Letter r.room byte a p);
      one = λ x. absurd (cc);
    })
reads_sign alphabet text s byte sg w r Opens e =
    let h = cond_some (is_ready s.last && nat_lt (length s.outer) 8) last.Start w e in
    let b = both (is_ready s.last) (nat_lt (length s.outer) 8) h.0 in
    let f = opened alphabet r.room s.outer r.front r.rest (done s) (less (length s.outer) 8 b.1) r.behind (ready_seq alphabet r.room s.last r.rest s.before s.base r.at b.0) in
    subst (λ v. IsRead alphabet (text ++ 40 ∷ []) (enter s sign.Open v)) h.1 (record {
      room = f.0;
      front = r.front ++ (r.rest ++ 40 ∷ []);
      rest = [];
      is = ap (λ t. t ++ 40 ∷ []) r.is ∙ (append_assoc r.front r.rest (40 ∷ []) ∙ sym (append-nil (r.front ++ (r.rest ++ 40 ∷ []))));
      behind = f.1;
      at = Begun;
      one = λ x. absurd (cc);
    })
reads_sign alphabet text s byte sg w r Closes e =
    let h = cond_some (is_full s.last && nat_lt 0 (length s.outer)) last.Base w e in
    let b = both (is_full s.last) (nat_lt 0 (length s.outer)) h.0 in
    let f = closed alphabet r.room s.outer r.front r.rest (done s) (less 0 (length s.outer) b.1) r.behind (full_items alphabet r.room s.last r.rest s.before s.base r.at b.0) in
    subst (λ v. IsRead alphabet (text ++ 41 ∷ []) (enter s sign.Close v)) h.1 (record {
      room = suc r.room;
      front = f.0;
      rest = f.1;
      is = ap (λ t. t ++ 41 ∷ []) r.is ∙ f.4;
      behind = f.2;
      at = f.3;
      one = λ x. absurd (cc);
    })
reads_sign alphabet text s byte sg w r Raises e =
    record {
      room = r.room;
      front = r.front;
      rest = r.rest ++ 94 ∷ [];
      is = ap (λ t. t ++ 94 ∷ []) r.is ∙ append_assoc r.front r.rest (94 ∷ []);
      behind = r.behind;
      at = raised alphabet r.room s.last w r.rest s.before s.base r.at e;
      one = λ x. let y = caret_one s.last w e in absurd (cc);
    }
reads_sign alphabet text s byte sg w r (Counts _ l u) e =
    record {
      room = r.room;
      front = r.front;
      rest = r.rest ++ byte ∷ [];
      is = ap (λ t. t ++ byte ∷ []) r.is ∙ append_assoc r.front r.rest (byte ∷ []);
      behind = r.behind;
      at = counted alphabet r.room (length s.outer) s.last w r.rest s.before s.base byte l u r.at e;
      one = λ x. one_depth s.outer s.last w (byte - 48) r.one e x;
    }
reads_sign alphabet text s byte sg w r (Strange _ x) e = absurd (cc)

pub reads_step : (alphabet text : List ℕ) (s : State) (byte : ℕ) (s' : State) → IsRead alphabet text s → step alphabet s byte ≡ Some s' → IsRead alphabet (text ++ byte ∷ []) s'
reads_step alphabet text s byte s' r e = by (next (length s.outer) s.last (sign_of alphabet byte)) refl e
  where
    by : (o : Option Last) → next (length s.outer) s.last (sign_of alphabet byte) ≡ o → entered s (sign_of alphabet byte) o ≡ Some s' → IsRead alphabet (text ++ byte ∷ []) s'
    by None n e = absurd (cc)
    by (Some w) n e =
        let is : enter s (sign_of alphabet byte) w ≡ s' = cc in
        subst (IsRead alphabet (text ++ byte ∷ [])) is (reads_sign alphabet text s byte (sign_of alphabet byte) w r (signs alphabet byte) n)

pub reads_none : (alphabet : List ℕ) → IsRead alphabet [] outset
reads_none alphabet = record { room = 8; front = []; rest = []; is = refl; behind = Top; at = Begun; one = λ x. refl }

pub no_run : (alphabet text : List ℕ) (s : State) → run alphabet None text ≡ Some s → ⊥
no_run alphabet [] s e = cc
no_run alphabet (b ∷ bs) s e = no_run alphabet bs s e

pub reads_run : (alphabet before text : List ℕ) (s s' : State) → IsRead alphabet before s → run alphabet (Some s) text ≡ Some s' → IsRead alphabet (before ++ text) s'
reads_run alphabet before [] s s' r e = let is : s ≡ s' = cc in rw append-nil (subst (IsRead alphabet before) is r)
reads_run alphabet before (b ∷ bs) s s' r e = by (step alphabet s b) refl e (λ u. reads_run alphabet (before ++ b ∷ []) bs u s')
  where
    by : (o : Option State) → step alphabet s b ≡ o → run alphabet o bs ≡ Some s' → ((u : State) → IsRead alphabet (before ++ b ∷ []) u → run alphabet (Some u) bs ≡ Some s' → IsRead alphabet ((before ++ b ∷ []) ++ bs) s') → IsRead alphabet (before ++ b ∷ bs) s'
    by None n e rest = absurd (no_run alphabet bs s' e)
    by (Some u) n e rest = subst (λ t. IsRead alphabet t s') (append_assoc before (b ∷ []) bs) (rest u (reads_step alphabet before s b u r n) e)

-- what was read is a word, where nothing is wanting
whole_top : (alphabet : List ℕ) (room : ℕ) (outer : List Word) (front : List ℕ) → IsFront alphabet room outer front → outer ≡ [] → (room ≡ 8) × (front ≡ [])
whole_top alphabet room outer front Top e = (refl, refl)
whole_top alphabet room _ _ (Opened _ outer front text word f seq) e = absurd (cc)

whole_last : (alphabet : List ℕ) (was : Last) (rest : List ℕ) (before base : Word) → IsLast alphabet 8 was rest before base → is_ended was ≡ true → IsWordText alphabet rest (before ++ value was base)
whole_last alphabet was rest before base Begun e = inl (refl, refl)
whole_last alphabet was rest before base Unit_word e = inl (refl, refl)
whole_last alphabet was _ before base (Whole text more _ _ seq b) e = inr (full_items alphabet 8 last.Base (text ++ more) before base (Whole text more before base seq b) refl)
whole_last alphabet was rest before base (Raised text more _ _ seq b) e = absurd (cc)
whole_last alphabet was _ before base (Counted text more _ _ count digits number seq b x) e = inr (full_items alphabet 8 (last.Digits number) (text ++ (more ++ 94 ∷ digits)) before base (Counted text more before base count digits number seq b x) refl)

pub reads_whole : (alphabet text : List ℕ) (s : State) → IsRead alphabet text s → is_whole (length s.outer) s.last ≡ true → IsWordText alphabet text (done s)
reads_whole alphabet text s r e =
    let b = both (length s.outer == 0) (is_ended s.last) e in
    let top = whole_top alphabet r.room s.outer r.front r.behind (no_outer s.outer (same (length s.outer) 0 b.0)) in
    let is : text ≡ r.rest = r.is ∙ ap (λ f. f ++ r.rest) top.1 in
    subst (λ t. IsWordText alphabet t (done s)) (sym is) (whole_last alphabet s.last r.rest s.before s.base (subst (λ room. IsLast alphabet room s.last r.rest s.before s.base) top.0 r.at) b.1)
