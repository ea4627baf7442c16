-- After a parse, each option of a number has one.
use Rattle.std.proofs.Common.{◌≡◌, ◌∙◌, ◌<◌, ◌≤◌, ◌==◌, ◌&&◌, ◌||◌, ℕ, Bool, true, false, not, zero, suc, refl, sym, ap, subst, arith, List, [], ◌∷◌, length, map, Option, Some, None, inl, inr, nat_le, option_map, eqb-true}
use Rattle.std.specs.Prelude.{Result, Ok, Err, IfSome, IsSome, find, slice_get, unwrap_or}
use Rattle.std.specs.Borrow.{Bor}
use Rattle.std.specs.List.{All, list_all, list_any, slice_index_or}
use Rattle.std.specs.Str.{bytes_eq}
use Rattle.std.specs.Str.Parse.{ParsesUnsigned, digits_value, without_leading_plus}
use Rattle.std.proofs.lemmas.Bool.{leb-true}
use Rattle.std.proofs.lemmas.List.Elements.{All-get_or}
use Rattle.std.proofs.lemmas.Slice.Eq.{bytes_eq-Decides}
use Rattle.clap.specs.Texts.{items_of}
use Rattle.clap.specs.Facts.{Entry, EntryPasses, IsParsed, args_of, least_values, parser_of, parser_of_value, unwrap_or_range}
use Rattle.clap.specs.Matches.{ReadsOne, matched_of, one_text}
use Rattle.clap.specs.Values.{Accepts, IsUnsignedIn, read_as, reading_of}
use Rattle.clap.specs.Walk.{Row, Rule, Text, action_of, is_empty, one_of, rows_of, rule_of, texts}
use Rattle.clap.specs.Simple.{App, IsSimple, app_of, is_ready, is_ready_leaf}
use Rattle.clap.specs.declared.builder.action.ArgAction.{ArgAction}
use Rattle.clap.specs.declared.builder.action.ArgAction.TheVariants.{Set, Count}
use Rattle.clap.specs.declared.builder.arg.Arg.{Arg}
use Rattle.clap.specs.declared.builder.command.Command.{Command}
use Rattle.clap.specs.declared.builder.command.Command.TheViews.{out-Command}
use Rattle.clap.specs.declared.builder.value_parser.Reading.{Reading}
use Rattle.clap.specs.declared.builder.value_parser.Reading.TheVariants as reading
use Rattle.clap.specs.declared.builder.value_parser.ValueParser.{ValueParser}
use Rattle.clap.specs.declared.builder.value_parser.ValueParser.TheVariants as vp
use Rattle.clap.specs.declared.parser.matches.Found.{Found}
use Rattle.clap.specs.declared.parser.matches.MatchedArg.{MatchedArg}
use Rattle.clap.proofs.CallerLemmas.{entry_by_id}
use Rattle.clap.proofs.SimpleLemmas.{ready_simple}
use Rattle.clap.proofs.TakesLemmas.{each_rule}
use Rattle.clap.proofs.WalkLemmas.{both, one_text-rows}
use Rattle.settings.specs.Settings.{HasNumber, HasNumberIfGiven, number_in}

-- ---- tests on a rule

abbrev has_bounds : ℕ → ℕ → ValueParser → Bool
has_bounds least most (vp.Unsigned low high) = (low == least) && (high == most)
has_bounds least most _ = false

abbrev is_set : ArgAction → Bool
is_set Set = true
is_set _ = false

-- the rule sets one number or more, from `least` to `most`
abbrev is_number : ℕ → ℕ → Rule → Bool
is_number least most r = has_bounds least most (parser_of_value r.parser) && (is_set (action_of r) && nat_le 1 (unwrap_or_range r.range).start_inclusive)

-- each rule with the id is such a one
abbrev pub only_numbers : ℕ → ℕ → Text → List Rule → Bool
only_numbers least most id = list_all (λ r. not (bytes_eq r.id id) || is_number least most r)

-- a rule with the id has a default
abbrev has_default : Text → List Rule → Bool
has_default id = list_any (λ r. bytes_eq r.id id && not (is_empty r.defaults))

-- the rules have the option of a number from `least` to `most`, with a default
abbrev pub has_number_option : ℕ → ℕ → Text → List Rule → Bool
has_number_option least most id rules = only_numbers least most id rules && has_default id rules

bounds_are : (least most : ℕ) (p : ValueParser) → has_bounds least most p ≡ true → p ≡ vp.Unsigned least most
bounds_are least most (vp.Unsigned low high) e =
    let parts = both _ _ e in
    let l : low ≡ least = eqb-true _ _ parts.0 in
    let h : high ≡ most = eqb-true _ _ parts.1 in
    rw (l, h) refl
bounds_are least most vp.String e = cc
bounds_are least most vp.NonEmptyString e = cc
bounds_are least most vp.Bool e = cc
bounds_are least most vp.Boolish e = cc
bounds_are least most vp.Falsey e = cc
bounds_are least most (vp.Signed low high) e = cc
bounds_are least most vp.Float e = cc
bounds_are least most vp.Char e = cc
bounds_are least most (vp.Names names) e = cc
bounds_are least most (vp.Values values) e = cc

never_counts : (a : ArgAction) → is_set a ≡ true → a ≡ Count → ⊥
never_counts a e h =
    let bad : is_set Count ≡ true = rw h at e in
    cc

implied : (a b : Bool) → (not a || b) ≡ true → a ≡ true → b ≡ true
implied true b e h = e
implied false b e h = cc

-- what the tests say of an argument with the id
record Number (least most : ℕ) (a : Arg) : Type 0 where
  parser : parser_of a ≡ vp.Unsigned least most
  sets : unwrap_or a.action Set ≡ Count → ⊥
  few : 1 ≤ least_values a

number_from : (least most : ℕ) (id : Text) (xs : List Arg) → only_numbers least most id (map rule_of xs) ≡ true
    → (k : ℕ) (x : Arg) → k < length xs → slice_index_or xs k x ≡ x → bytes_eq x.id.now id ≡ true → Number least most x
number_from least most id xs e k x lt at same =
    let here = subst (λ (y : Arg). (not (bytes_eq y.id.now id) || is_number least most (rule_of y)) ≡ true) at
    (each_rule (λ r. not (bytes_eq r.id id) || is_number least most r) xs e k x lt) in
    let parts = both _ _ (implied _ _ here same) in
    let rest = both _ _ parts.1 in
    record {
      parser = bounds_are least most (parser_of x) parts.0;
      sets = never_counts _ rest.0;
      few = leb-true _ _ rest.1;
    }

-- ---- the entry of the id

any_rule : (p : Rule → Bool) (xs : List Arg) → list_any p (map rule_of xs) ≡ true
    → (k : ℕ) × (k < length xs) × ((d : Arg) → p (rule_of (slice_index_or xs k d)) ≡ true)
any_rule p [] e = cc
any_rule p (x ∷ xs) e = go (p (rule_of x)) refl e (any_rule p xs)
  where
    go : (b : Bool) → p (rule_of x) ≡ b → (b || list_any p (map rule_of xs)) ≡ true
        → (list_any p (map rule_of xs) ≡ true → (k : ℕ) × (k < length xs) × ((d : Arg) → p (rule_of (slice_index_or xs k d)) ≡ true))
        → (k : ℕ) × (k < length (x ∷ xs)) × ((d : Arg) → p (rule_of (slice_index_or (x ∷ xs) k d)) ≡ true)
    go true b e rest = (0, omega arith, λ d. b)
    go false b e rest =
        let more = rest e in
        (suc more.0, omega arith, λ d. more.2 d)

some_text : (xs : List (Bor Text)) → not (is_empty (texts xs)) ≡ true → 0 < length xs
some_text [] e = cc
some_text (x ∷ xs) e = omega arith

entry_found : (xs : List Entry) (id : Text) (i : ℕ) → i < length xs → ((d : Entry) → bytes_eq (slice_index_or xs i d).0.now id ≡ true)
    → (a : MatchedArg) × (option_map (λ e. e.1) (find (λ e. bytes_eq e.0.now id) xs) ≡ Some a)
entry_found [] id i lt at = absurd (omega arith)
entry_found (x ∷ xs) id i lt at = go (bytes_eq x.0.now id) refl i lt at (λ j. entry_found xs id j)
  where
    go : (b : Bool) → bytes_eq x.0.now id ≡ b → (i : ℕ) → i < length (x ∷ xs) → ((d : Entry) → bytes_eq (slice_index_or (x ∷ xs) i d).0.now id ≡ true)
        → ((j : ℕ) → j < length xs → ((d : Entry) → bytes_eq (slice_index_or xs j d).0.now id ≡ true) → (a : MatchedArg) × (option_map (λ e. e.1) (find (λ e. bytes_eq e.0.now id) xs) ≡ Some a))
        → (a : MatchedArg) × (option_map (λ e. e.1) (find (λ e. bytes_eq e.0.now id) (x ∷ xs)) ≡ Some a)
    go true b i lt at rest = (x.1, rw b refl)
    go false b zero lt at rest =
        let bad : bytes_eq x.0.now id ≡ true = at x in
        cc
    go false b (suc j) lt at rest =
        let more = rest j (omega arith) at in
        (more.0, rw b more.1)

first_read : (least most : ℕ) (how : Reading) (vs : List (Bor Text)) → 0 < length vs → how ≡ reading.AsWritten → All (λ v. IsUnsignedIn least most v.now) vs
    → (t : Text) × (option_map (λ s. read_as how s.now) (slice_get vs 0) ≡ Some t) × IsUnsignedIn least most t
first_read least most how [] lt is all = absurd (omega arith)
first_read least most how (v ∷ vs) lt is all = (v.now, rw is refl, All-get_or (λ v. IsUnsignedIn least most v.now) (v ∷ vs) 0 v (omega arith) all)

entry_read : (least most : ℕ) (c : Command) (id : Text) (e : Entry) → IsSimple c → (id ≡ [] → ⊥) → only_numbers least most id (map rule_of (args_of c)) ≡ true
    → EntryPasses c e → e.0.now ≡ id
    → (t : Text) × (option_map (λ s. read_as e.1.reading s.now) (slice_get e.1.vals.items 0) ≡ Some t) × IsUnsignedIn least most t
entry_read least most c id e simple named only pass is_id =
    let number : (k : ℕ) (x : Arg) → k < length (args_of c) → slice_index_or (args_of c) k x ≡ x → bytes_eq x.id.now e.0.now ≡ true → Number least most x
    = λ k x lt at same. number_from least most id (args_of c) only k x lt at (subst (λ (w : Text). bytes_eq x.id.now w ≡ true) is_id same) in
    let no_group : e.1.is_group ≡ true → ⊥ = λ g. elim (pass.3 g) [
      | inl empty ↦ named (sym is_id ∙ empty)
      | inr lots ↦
          let bad : 0 < 0 = rw simple.groups at lots in
          absurd (omega arith)
    ] in
    let some : 0 < length e.1.vals.items = elim pass.1 [
      | inl g ↦ absurd (no_group g.0)
      | inr (inl v) ↦ v
      | inr (inr (inl h)) ↦
          let any = h.1 in
          absurd ((number any.0 any.1 any.2 any.3 any.4.0).sets any.4.1)
      | inr (inr (inr any)) ↦
          let n = number any.0 any.1 any.2 any.3 any.4.0 in
          elim any.4.1 [
            | inl none ↦
                let one = n.few in
                absurd (omega arith)
            | inr has ↦
                let plain = subst (λ (y : Arg). y.val_delim ≡ None) any.3 (simple.args any.0 any.1 any.2).delimiter in
                let bad : false ≡ true = rw plain at has in
                cc
          ]
    ] in
    let how : e.1.reading ≡ reading.AsWritten = elim pass.4 [
      | inl g ↦ absurd (no_group g)
      | inr any ↦ sym any.4.1 ∙ ap reading_of (number any.0 any.1 any.2 any.3 any.4.0).parser
    ] in
    let all : All (λ v. IsUnsignedIn least most v.now) e.1.vals.items = elim pass.0 [
      | inl g ↦ absurd (no_group g)
      | inr each ↦ λ k d lt.
          let any = each k d lt in
          subst (λ (p : ValueParser). Accepts any.1.ignore_case p (slice_index_or e.1.vals.items k d).now) (number any.0 any.1 any.2 any.3 any.4.0).parser any.4.1
    ] in
    first_read least most e.1.reading e.1.vals.items some how all

first_of_list : (xs : List Arg) (k : ℕ) → k < length xs → Arg
first_of_list [] k lt = absurd (omega arith)
first_of_list (x ∷ xs) k lt = x

-- the text that a parse found for such an option
read_text : (least most : ℕ) (c : Command) (f : Found) (has : Bool) (id : Text) → IsSimple c → IsParsed c f has → (id ≡ [] → ⊥)
    → only_numbers least most id (map rule_of (args_of c)) ≡ true → (x : MatchedArg) → matched_of f id ≡ Some x
    → (t : Text) × (one_text f id ≡ Some t) × IsUnsignedIn least most t
read_text least most c f has id simple parsed named only x found = read (entry_by_id (EntryPasses c) f.entries.items id x parsed.values found)
  where
    read : ((e : Entry) × (e.1 ≡ x) × (bytes_eq e.0.now id ≡ true) × EntryPasses c e)
        → (t : Text) × (one_text f id ≡ Some t) × IsUnsignedIn least most t
    read got =
        let r = entry_read least most c id got.0 simple named only got.3 ((bytes_eq-Decides got.0.0.now id).0 got.2) in
        let text : option_map (λ s. read_as x.reading s.now) (slice_get x.vals.items 0) ≡ Some r.0 =
        subst (λ (y : MatchedArg). option_map (λ s. read_as y.reading s.now) (slice_get y.vals.items 0) ≡ Some r.0) got.1 r.1 in
        (r.0, rw found text, r.2)

parsed_number : (least most : ℕ) (c : Command) (f : Found) (has : Bool) (id : Text) → IsSimple c → IsParsed c f has → (id ≡ [] → ⊥)
    → only_numbers least most id (map rule_of (args_of c)) ≡ true → has_default id (map rule_of (args_of c)) ≡ true
    → (t : Text) × (one_text f id ≡ Some t) × IsUnsignedIn least most t
parsed_number least most c f has id simple parsed named only default =
    let rule = any_rule (λ r. bytes_eq r.id id && not (is_empty r.defaults)) (args_of c) default in
    find_in rule
  where
    start : (k : ℕ) → k < length (args_of c) → Arg
    start k lt = first_of_list (args_of c) k lt

    find_in : ((k : ℕ) × (k < length (args_of c)) × ((d : Arg) → (bytes_eq (slice_index_or (args_of c) k d).id.now id && not (is_empty (texts (items_of (slice_index_or (args_of c) k d).default_vals)))) ≡ true))
        → (t : Text) × (one_text f id ≡ Some t) × IsUnsignedIn least most t
    find_in rule =
        let a = slice_index_or (args_of c) rule.0 (start rule.0 rule.1) in
        let parts = both _ _ (rule.2 (start rule.0 rule.1)) in
        let in_place = parsed.defaults rule.0 (start rule.0 rule.1) rule.1
        ((simple.args rule.0 (start rule.0 rule.1) rule.1).default_ifs, some_text (items_of a.default_vals) parts.1) in
        let is_id : a.id.now ≡ id = (bytes_eq-Decides a.id.now id).0 parts.0 in
        let entry = entry_found f.entries.items id in_place.0 in_place.1
        (λ d. subst (λ (w : Text). bytes_eq (slice_index_or f.entries.items in_place.0 d).0.now w ≡ true) is_id (in_place.2 d)) in
        read_text least most c f has id simple parsed named only entry.0 entry.1

-- of a command that is made ready, by what is read of it
pub number_found : (least most : ℕ) (a : App) (c : Command) (f : Found) (has : Bool) (id : Text) → app_of c ≡ a → is_ready a.top ≡ true → list_all is_ready_leaf a.subs ≡ true
    → (id ≡ [] → ⊥) → has_number_option least most id a.top.rules ≡ true
    → ((out-Command c).has_globals ≡ false → IsParsed c f has) → HasNumber least most id (rows_of f)
number_found least most a c f has id is ready leaves named option parsed =
    let parts = both (only_numbers least most id a.top.rules) (has_default id a.top.rules) option in
    let simple = ready_simple c (ap (λ (x : App). is_ready x.top) is ∙ ready) (ap (λ (x : App). list_all is_ready_leaf x.subs) is ∙ leaves) in
    let rules : map rule_of (args_of c) ≡ a.top.rules = ap (λ (x : App). x.top.rules) is in
    let got = parsed_number least most c f has id simple (parsed simple.globals) named (ap (only_numbers least most id) rules ∙ parts.0) (ap (has_default id) rules ∙ parts.1) in
    record { text = got.0; given = sym (one_text-rows f id) ∙ got.1; number = got.2 }

-- the text of an option, if it is given, where it has no default
pub number_if_given : (least most : ℕ) (a : App) (c : Command) (f : Found) (has : Bool) (id : Text) → app_of c ≡ a → is_ready a.top ≡ true → list_all is_ready_leaf a.subs ≡ true
    → (id ≡ [] → ⊥) → only_numbers least most id a.top.rules ≡ true
    → ((out-Command c).has_globals ≡ false → IsParsed c f has) → HasNumberIfGiven least most id (rows_of f)
number_if_given least most a c f has id is ready leaves named only parsed =
    let simple = ready_simple c (ap (λ (x : App). is_ready x.top) is ∙ ready) (ap (λ (x : App). list_all is_ready_leaf x.subs) is ∙ leaves) in
    let rules : map rule_of (args_of c) ≡ a.top.rules = ap (λ (x : App). x.top.rules) is in
    record { number = λ t given. go (matched_of f id) refl t (one_text-rows f id ∙ given) (read_text least most c f has id simple (parsed simple.globals) named (ap (only_numbers least most id) rules ∙ only)) }
  where
    go : (o : Option MatchedArg) → matched_of f id ≡ o → (t : Text) → one_text f id ≡ Some t
        → ((x : MatchedArg) → matched_of f id ≡ Some x → (t : Text) × (one_text f id ≡ Some t) × IsUnsignedIn least most t)
        → IsUnsignedIn least most t
    go None none t given read =
        let bad : None ≡ Some t = rw none at given in
        cc
    go (Some x) found t given read =
        let got = read x found in
        let same : got.0 ≡ t = cc (got.1, given) in
        subst (IsUnsignedIn least most) same got.2

-- what `get_one` reads of a number
read_number : (E : Type 0) (G : List ℕ → Result ℕ E → Type 0) (t : Text) (r : Option ℕ) → ReadsOne G t r → ((x : Result ℕ E) → G t x → ParsesUnsigned 64 10 t x)
    → IsUnsignedIn 0 18446744073709551615 t → r ≡ Some (digits_value 10 (without_leading_plus t))
read_number E G t (Some v) read only fits = ap (λ n. Some n) (only (Ok v) read).1
read_number E G t None read only fits = absurd (only (Err read.0) read.1 (fits.0, fits.1))

pub number_read : (E : Type 0) (G : List ℕ → Result ℕ E → Type 0) (f : Found) (id : Text) (r : Option ℕ) → HasNumber 0 18446744073709551615 id (rows_of f)
    → ((t : Text) → one_text f id ≡ Some t → ReadsOne G t r) → ((t : Text) (x : Result ℕ E) → G t x → ParsesUnsigned 64 10 t x)
    → number_in id (rows_of f) ≡ r × IsSome r
number_read E G f id r h read only =
    let is = read_number E G h.text r (read h.text (one_text-rows f id ∙ h.given)) (only h.text) h.number in
    (ap (option_map (λ text. digits_value 10 (without_leading_plus text))) h.given ∙ sym is, rw is refl)

-- and of an option that need not be given
pub number_read_if_given : (E : Type 0) (G : List ℕ → Result ℕ E → Type 0) (f : Found) (id : Text) (r : Option ℕ) → HasNumberIfGiven 0 18446744073709551615 id (rows_of f)
    → (one_text f id ≡ None → r ≡ None) → ((t : Text) → one_text f id ≡ Some t → ReadsOne G t r) → ((t : Text) (x : Result ℕ E) → G t x → ParsesUnsigned 64 10 t x)
    → number_in id (rows_of f) ≡ r
number_read_if_given E G f id r h none read only = go (one_of id (rows_of f)) refl
  where
    go : (o : Option Text) → one_of id (rows_of f) ≡ o → number_in id (rows_of f) ≡ r
    go None is = ap (option_map (λ text. digits_value 10 (without_leading_plus text))) is ∙ sym (none (one_text-rows f id ∙ is))
    go (Some t) is = ap (option_map (λ text. digits_value 10 (without_leading_plus text))) is ∙ sym (read_number E G t r (read t (one_text-rows f id ∙ is)) (only t) (h.number t is))

-- a number within one bound is within each greater
pub number_weaker : (least most more : ℕ) (id : Text) (rows : List Row) → most ≤ more → HasNumber least most id rows → HasNumber 0 more id rows
number_weaker least most more id rows le h = record { text = h.text; given = h.given; number = (h.number.0, h.number.1, omega arith, let top = h.number.3 in omega arith) }

pub number_within : (least most n : ℕ) (id : Text) (rows : List Row) → HasNumber least most id rows → number_in id rows ≡ Some n → (least ≤ n) × (n ≤ most)
number_within least most n id rows h is =
    let value : Some (digits_value 10 (without_leading_plus h.text)) ≡ Some n = sym (ap (option_map (λ text. digits_value 10 (without_leading_plus text))) h.given) ∙ is in
    let same : digits_value 10 (without_leading_plus h.text) ≡ n = cc in
    rw (← same) (h.number.2, h.number.3)

pub given_weaker : (least most more : ℕ) (id : Text) (rows : List Row) → most ≤ more → HasNumberIfGiven least most id rows → HasNumberIfGiven 0 more id rows
given_weaker least most more id rows le h = record {
  number = λ text given.
      let n = h.number text given in
      let top = n.3 in
      (n.0, n.1, omega arith, omega arith);
}

pub given_within : (least most : ℕ) (o : Option ℕ) (id : Text) (rows : List Row) → HasNumberIfGiven least most id rows → number_in id rows ≡ o → IfSome o (λ n. (least ≤ n) × (n ≤ most))
given_within least most None id rows h is = tt
given_within least most (Some n) id rows h is = go (one_of id rows) refl
  where
    go : (o : Option Text) → one_of id rows ≡ o → (least ≤ n) × (n ≤ most)
    go None none =
        let bad : None ≡ Some n = sym (ap (option_map (λ text. digits_value 10 (without_leading_plus text))) none) ∙ is in
        cc
    go (Some text) given = number_within least most n id rows (record { text = text; given = given; number = h.number text given }) is
