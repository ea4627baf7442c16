-- Letters and generators that are added.
use Rattle.std.proofs.Common.{◌≡◌, ℕ, Bool, true, false, ◌&&◌, ◌||◌, ◌==◌, if◌then◌else◌, List, [], ◌∷◌, ◌++◌, length, length-append, Option, Some, None, Result, Ok, Err, refl, sym, ap, ◌∙◌, subst, subst₂, append_assoc, append-nil, arith}
use Rattle.std.proofs.lemmas.List.Elements.{All-push}
use Rattle.std.specs.List.{list_any}
use Rattle.std.specs.Option.{option_or, ok_or}
use Rattle.words.specs.Alphabet.{first_fault, fault_at, is_letter, is_lowercase, is_uppercase}
use Rattle.words.specs.declared.fault.AlphabetFault.{AlphabetFault}
use Rattle.words.specs.declared.fault.AlphabetFault.TheVariants.{Repeated, NotALetter}
use Rattle.line_parts.specs.declared.cause.Cause.{Cause}
use Rattle.line_parts.specs.declared.cause.Cause.TheVariants as cause
use Rattle.line_parts.specs.Outcome.{and_then}
use Rattle.problem.specs.declared.kinds.Problem.TheVariants as problem
use Rattle.query_lang.specs.declared.draft.AnyListed.{AnyListed}
use Rattle.query_lang.specs.declared.draft.AnyListed.TheVariants as listed
use Rattle.query_lang.specs.Draft.{IsDraft, new_letter_of}
use Rattle.query_lang.specs.Header.{Start}

-- what contracts see of generators, by their kind
abbrev pub seen : AnyListed → Start
seen (listed.Transf d) = (d.sizes, problem.Transf d.posed)
seen (listed.PPerm d) = (d.sizes, problem.PPerm d.posed)
seen (listed.BMat d) = (d.sizes, problem.BMat d.posed)
seen (listed.MaxPlus d) = (d.sizes, problem.MaxPlus d.posed)

or_later : (o p q : Option AlphabetFault) → option_or o (option_or p q) ≡ option_or (option_or o p) q
or_later (Some x) p q = refl
or_later None p q = refl

first_fault-append : (wide : Bool) (before xs ys : List ℕ) → first_fault wide before (xs ++ ys) ≡ option_or (first_fault wide before xs) (first_fault wide (before ++ xs) ys)
first_fault-append wide before [] ys = ap (λ front. first_fault wide front ys) (sym (append-nil before))
first_fault-append wide before (x ∷ xs) ys =
    ap (option_or (fault_at wide before x))
    (first_fault-append wide (before ++ x ∷ []) xs ys
    ∙ ap (λ front. option_or (first_fault wide (before ++ x ∷ []) xs) (first_fault wide front ys)) (append_assoc before (x ∷ []) xs))
    ∙ or_later (fault_at wide before x) (first_fault wide (before ++ x ∷ []) xs) (first_fault wide (before ++ x ∷ xs) ys)

-- a letter that is not there yet makes no fault
one_more : (letters : List ℕ) (x : ℕ) → first_fault true [] letters ≡ None → is_letter true x ≡ true → list_any (λ y. y == x) letters ≡ false → first_fault true [] (letters ++ x ∷ []) ≡ None
one_more letters x sound letter new =
    first_fault-append true [] letters (x ∷ [])
    ∙ ap (λ o. option_or o (first_fault true letters (x ∷ []))) sound
    ∙ ap (λ b. option_or (if b then (if list_any (λ y. y == x) letters then Some (Repeated (length letters)) else None) else Some (NotALetter (length letters))) None) letter
    ∙ ap (λ b. option_or (if b then Some (Repeated (length letters)) else None) None) new

-- a letter is one of both cases
letter_wide : (wide : Bool) (b : ℕ) → is_letter wide b ≡ true → is_letter true b ≡ true
letter_wide true b h = h
letter_wide false b h = either (is_lowercase b) (is_uppercase b) h
  where
    either : (x y : Bool) → (x || (false && y)) ≡ true → (x || (true && y)) ≡ true
    either true y h = refl
    either false y h = absurd (cc)

-- what a new letter is
new_letter : (wide : Bool) (letters name : List ℕ) (x : ℕ) → ◌≡◌ {A = Result ℕ Cause} (Ok x) (new_letter_of wide letters name) → (is_letter true x ≡ true) × (list_any (λ y. y == x) letters ≡ false)
new_letter wide letters [] x e = cc
new_letter wide letters (b ∷ c ∷ t) x e = cc
new_letter wide letters (b ∷ []) x e = by (is_letter wide b) refl (list_any (λ y. y == b) letters) refl e
  where
    by : (letter : Bool) → is_letter wide b ≡ letter → (there : Bool) → list_any (λ y. y == b) letters ≡ there
        → ◌≡◌ {A = Result ℕ Cause} (Ok x) (and_then (λ z. if list_any (λ y. y == z) letters then Err cause.RepeatedLetter else Ok z) (ok_or (if letter then Some b else None) cause.NotALetter))
        → (is_letter true x ≡ true) × (list_any (λ y. y == x) letters ≡ false)
    by false l there t h = cc
    by true l true t h = let k : ◌≡◌ {A = Result ℕ Cause} (Ok x) (Err cause.RepeatedLetter) = h ∙ ap (λ c. if c then Err cause.RepeatedLetter else Ok b) t in cc
    by true l false t h =
        let k : ◌≡◌ {A = Result ℕ Cause} (Ok x) (Ok b) = h ∙ ap (λ c. if c then Err cause.RepeatedLetter else Ok b) t in
        let same : b ≡ x = cc in
        subst (λ z. (is_letter true z ≡ true) × (list_any (λ y. y == z) letters ≡ false)) same (letter_wide wide b l, t)

-- one generator more, with a new letter
pub generator_added : {V : Type 0} (shape_of : V → ℕ × ℕ) (shape : ℕ × ℕ) (letters : List ℕ) (generators : List V) (wide : Bool) (name : List ℕ) (x : ℕ) (g : V) → IsDraft shape_of shape letters generators → ◌≡◌ {A = Result ℕ Cause} (Ok x) (new_letter_of wide letters name) → shape_of g ≡ shape
    → (longer : List ℕ) (more : List V) → longer ≡ letters ++ x ∷ [] → more ≡ generators ++ g ∷ [] → IsDraft shape_of shape longer more
generator_added shape_of shape letters generators wide name x g d e made longer more letters_are generators_are =
    let new = new_letter wide letters name x e in
    subst₂ (IsDraft shape_of shape) (sym letters_are) (sym generators_are)
    (record {
      one_each = omega (arith, d.one_each, length-append letters (x ∷ []), length-append generators (g ∷ []));
      one_shape = All-push (λ y. shape_of y ≡ shape) generators g d.one_shape made;
      sound = one_more letters x d.sound new.0 new.1;
    })
