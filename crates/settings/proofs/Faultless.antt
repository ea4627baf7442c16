-- Where no step of a parse has a fault, the parse takes the words.
use Rattle.std.proofs.Common.{◌≡◌, ◌∙◌, ◌+◌, ◌==◌, ◌&&◌, ◌||◌, ℕ, Bool, cond, true, false, not, zero, suc, refl, sym, arith, List, [], ◌∷◌, length, drop, min, Option, Some, None, is_some, nat_lt, nat_le, codes}
use Rattle.std.specs.Prelude.{slice_get, encode_utf8}
use Rattle.std.specs.List.{list_all, list_any}
use Rattle.std.specs.Option.{option_map_or}
use Rattle.std.specs.Str.{bytes_eq, chars}
use Rattle.std.proofs.lemmas.Bool.Decides.{nat_tests}
use Rattle.clap.specs.Lexer.{long_of, short_of}
use Rattle.clap.specs.Facts.{explicit_source, parser_of_value, unwrap_or_range}
use Rattle.clap.specs.Values.{refused_kind}
use Rattle.clap.specs.ValueTests.{accepts}
use Rattle.clap.specs.Matches.{count_text}
use Rattle.clap.specs.Walk.{Held, Names, Row, Rule, Step, Text, Waiting, Walk, value, next, trailing, subcommand, action_of, arg_by_id, arg_by_index, arg_by_long, arg_by_short, attached_value, count_of, finished, has_row, is_pending, most_values, nothing_held, reacted, settled, subcommand_met, takes_several, takes_values, values_or_missing, walk, walk_from, walked, word_met}
use Rattle.clap.specs.Simple.{App, Shape, argument_words, built, is_simple}
use Rattle.clap.specs.Takes.{action_passes, bundle_passes, bundle_step_passes, count_passes, default_passes, flag_word_passes, flags_pass, is_given, is_valid, level_passes, long_passes, option_passes, other_passes, positional_passes, react_passes, set_passes, settle_passes, short_passes, step_passes, takes, turn_passes, use_passes, walk_passes, word_passes}
use Rattle.clap.specs.Kinds.{Kinds, check_kinds, or_else, range_kinds, value_kinds, values_kinds}
use Rattle.clap.specs.Faults.{action_fault, bundle_fault, bundle_step_fault, check_fault, count_fault, defaults_fault, fault_of, flag_word_fault, flags_fault, is_free_app, is_simple_and_free, level_fault, long_fault, option_fault, other_fault, positional_fault, react_fault, repeat_fault, set_fault, settle_fault, short_fault, step_fault, stray_fault, turn_fault, use_fault, walk_fault, word_fault}
use Rattle.clap.specs.declared.builder.action.ArgAction.{ArgAction}
use Rattle.clap.specs.declared.builder.action.ArgAction.TheVariants.{Set, Append, SetTrue, SetFalse, Count, Help, HelpShort, HelpLong, Version}
use Rattle.clap.specs.declared.builder.value_parser.ValueParser.{ValueParser}
use Rattle.clap.specs.declared.error.kind.ErrorKind.{ErrorKind}
use Rattle.clap.specs.declared.error.kind.ErrorKind.TheVariants as kind
use Rattle.clap.proofs.WalkLemmas.{both}
use Rattle.clap.proofs.FaultLemmas.{leaf_fault}
use Rattle.clap.proofs.TakesLemmas.{leaf_takes}

-- ---- tests

joined : (a b : Bool) → a ≡ true → b ≡ true → (a && b) ≡ true
joined a b p q = rw (p, q) refl

-- of two steps with no fault in turn, neither has one
neither : (a b : Kinds) → or_else a b ≡ [] → (a ≡ []) × (b ≡ [])
neither [] b e = (refl, e)
neither (k ∷ ks) b e = cc

-- a step that is skipped where the test holds
unless : (t b : Bool) (a : Kinds) → cond t [] a ≡ [] → (a ≡ [] → b ≡ true) → (t || b) ≡ true
unless true b a e h = refl
unless false b a e h = h e

-- a step that fails where the test holds
never : (t : Bool) (k : ErrorKind) (ks : Kinds) → cond t (k ∷ ks) [] ≡ [] → t ≡ false
never true k ks e = cc
never false k ks e = refl

-- a choice of steps
chosen : (t a b : Bool) (x y : Kinds) → cond t x y ≡ [] → (x ≡ [] → a ≡ true) → (y ≡ [] → b ≡ true) → cond t a b ≡ true
chosen true a b x y e p q = p e
chosen false a b x y e p q = q e

-- ---- values

value_accepted : (i : Bool) (p : ValueParser) (t : Text) → value_kinds i p t ≡ [] → accepts i p t ≡ true
value_accepted i p t e = go (accepts i p t) e
  where
    go : (b : Bool) → cond b [] (refused_kind p ∷ []) ≡ [] → b ≡ true
    go true h = refl
    go false h = cc

values_accepted : (i : Bool) (p : ValueParser) (vs : List Text) → values_kinds i p vs ≡ [] → list_all (accepts i p) vs ≡ true
values_accepted i p [] e = refl
values_accepted i p (v ∷ vs) e =
    let parts = neither (value_kinds i p v) (values_kinds i p vs) e in
    joined _ _ (value_accepted i p v parts.0) (values_accepted i p vs parts.1)

in_range : (least most n : ℕ) → range_kinds least most n ≡ [] → (nat_le least n ≡ true) × (nat_le n most ≡ true)
in_range least most n e =
    go (nat_lt 0 least && n == 0) (least == most) (least == n) (nat_lt n least) (nat_lt most n) refl refl refl refl e
  where
    go : (a b c d f : Bool) → (least == most) ≡ b → (least == n) ≡ c → nat_lt n least ≡ d → nat_lt most n ≡ f
        → cond a (kind.InvalidValue ∷ []) (cond b (cond c [] (kind.WrongNumberOfValues ∷ [])) (cond d (kind.TooFewValues ∷ []) (cond f (kind.TooManyValues ∷ []) []))) ≡ []
        → (nat_le least n ≡ true) × (nat_le n most ≡ true)
    go true b c d f p q r s h = cc
    go false true true d f p q r s h = (grind (arith, nat_tests), grind (arith, nat_tests))
    go false true false d f p q r s h = cc
    go false false c true f p q r s h = cc
    go false false c false true p q r s h = cc
    go false false c false false p q r s h = (grind (arith, nat_tests), grind (arith, nat_tests))

-- ---- one use of an argument

set_faultless : (again : Bool) (a : Rule) (values : List Text) (rows : List Row) → set_fault again a values rows ≡ [] → set_passes again a values rows ≡ true
set_faultless again a values rows e =
    let parts = neither (repeat_fault again a.id rows) (values_kinds a.ignore_case (parser_of_value a.parser) values) e in
    joined _ _ (go (has_row a.id rows) again parts.0) (values_accepted _ _ values parts.1)
  where
    go : (h again : Bool) → cond (h && not again) (kind.ArgumentConflict ∷ []) [] ≡ [] → (not h || again) ≡ true
    go true true e = refl
    go true false e = cc
    go false again e = refl

count_faultless : (a : Rule) (values : List Text) (rows : List Row) → count_fault a values rows ≡ [] → count_passes a values rows ≡ true
count_faultless a [] rows e = value_accepted a.ignore_case (parser_of_value a.parser) (count_text (min (count_of a.id rows + 1) 255)) e
count_faultless a (v ∷ vs) rows e = values_accepted a.ignore_case (parser_of_value a.parser) (v ∷ vs) e

action_faultless : (x : ArgAction) (again : Bool) (a : Rule) (values : List Text) (rows : List Row) → action_fault x again a values rows ≡ [] → action_passes x again a values rows ≡ true
action_faultless Set again a values rows e = set_faultless again a values rows e
action_faultless SetTrue again a values rows e = set_faultless again a values rows e
action_faultless SetFalse again a values rows e = set_faultless again a values rows e
action_faultless Append again a values rows e = values_accepted a.ignore_case (parser_of_value a.parser) values e
action_faultless Count again a values rows e = count_faultless a values rows e
action_faultless Help again a values rows e = cc
action_faultless HelpShort again a values rows e = cc
action_faultless HelpLong again a values rows e = cc
action_faultless Version again a values rows e = cc

use_faultless : (again : Bool) (a : Rule) (values : List Text) (rows : List Row) → use_fault again a values rows ≡ [] → use_passes again a values rows ≡ true
use_faultless again a values rows e =
    let least = (unwrap_or_range a.range).start_inclusive in
    let parts = neither (range_kinds least (most_values a) (length values)) (action_fault (action_of a) again a (values_or_missing a values) rows) e in
    let range = in_range least (most_values a) (length values) parts.0 in
    joined _ _ range.0 (joined _ _ range.1 (action_faultless (action_of a) again a (values_or_missing a values) rows parts.1))

-- ---- the walk

settle_faultless : (c : List Rule) (again : Bool) (h : Held) → settle_fault c again h ≡ [] → settle_passes c again h ≡ true
settle_faultless c again h e = go h.pending e
  where
    found : (o : Option Rule) (values : List Text) → option_map_or (λ a. use_fault again a values h.rows) o [] ≡ [] → option_map_or (λ a. use_passes again a values h.rows) o true ≡ true
    found None values e = refl
    found (Some a) values e = use_faultless again a values h.rows e

    go : (o : Option (Text × List Text)) → option_map_or (λ p. option_map_or (λ a. use_fault again a p.1 h.rows) (arg_by_id c p.0) []) o [] ≡ []
        → option_map_or (λ p. option_map_or (λ a. use_passes again a p.1 h.rows) (arg_by_id c p.0) true) o true ≡ true
    go None e = refl
    go (Some p) e = found (arg_by_id c p.0) p.1 e

react_faultless : (c : List Rule) (again : Bool) (a : Rule) (values : List Text) (h : Held) → react_fault c again a values h ≡ [] → react_passes c again a values h ≡ true
react_faultless c again a values h e =
    let parts = neither (settle_fault c again h) (use_fault again a values (settled c h).rows) e in
    joined _ _ (settle_faultless c again h parts.0) (use_faultless again a values (settled c h).rows parts.1)

option_faultless : (c : List Rule) (again : Bool) (a : Rule) (v : Option Text) (h : Held) → option_fault c again a v h ≡ [] → option_passes c again a v h ≡ true
option_faultless c again a (Some v) h e = react_faultless c again a (v ∷ []) h e
option_faultless c again a None h e = settle_faultless c again h e

long_faultless : (c : List Rule) (again : Bool) (o : Option Rule) (v : Option Text) (h : Held) → long_fault c again o v h ≡ [] → long_passes c again o v h ≡ true
long_faultless c again None v h e = cc
long_faultless c again (Some a) v h e =
    chosen (takes_values a) _ _ _ _ e (option_faultless c again a v h) (flag (is_some v))
  where
    flag : (b : Bool) → cond b (kind.TooManyValues ∷ []) (react_fault c again a [] h) ≡ [] → (not b && react_passes c again a [] h) ≡ true
    flag true e = cc
    flag false e = react_faultless c again a [] h e

short_faultless : (c : List Rule) (again : Bool) (o : Option Rule) (rest : Text) (h : Held) (f : Held → Kinds) (p : Held → Bool)
    → ((k : Held) → f k ≡ [] → p k ≡ true) → short_fault c again o rest h f ≡ [] → short_passes c again o rest h p ≡ true
short_faultless c again None rest h f p step e = cc
short_faultless c again (Some a) rest h f p step e =
    chosen (takes_values a) _ _ _ _ e (option_faultless c again a (attached_value rest) h)
    (λ both_none.
    let parts = neither (react_fault c again a [] h) (f (reacted c a [] h)) both_none in
    joined _ _ (react_faultless c again a [] h parts.0) (step (reacted c a [] h) parts.1))

bundle_step_faultless : (c : List Rule) (again : Bool) (o : Option ℕ) (flags : Text) (skip : ℕ) (h : Held) (f : Text → ℕ → Held → Kinds) (p : Text → ℕ → Held → Bool)
    → ((rest : Text) (n : ℕ) (k : Held) → f rest n k ≡ [] → p rest n k ≡ true) → bundle_step_fault c again o flags skip h f ≡ [] → bundle_step_passes c again o flags skip h p ≡ true
bundle_step_faultless c again None flags skip h f p step e = refl
bundle_step_faultless c again (Some x) flags zero h f p step e =
    let rest = drop (length (encode_utf8 x)) flags in
    short_faultless c again (arg_by_short c x) rest h (f rest 0) (p rest 0) (step rest 0) e
bundle_step_faultless c again (Some x) flags (suc skip) h f p step e = step (drop (length (encode_utf8 x)) flags) skip h e

flags_faultless : (c : List Rule) (again : Bool) (k : ℕ) (flags : Text) (skip : ℕ) (h : Held) → flags_fault c again k flags skip h ≡ [] → flags_pass c again k flags skip h ≡ true
unfolding flags_fault flags_pass
flags_faultless c again zero flags skip h e = refl
flags_faultless c again (suc k) flags skip h e =
    bundle_step_faultless c again (slice_get (chars flags) 0) flags skip h (flags_fault c again k) (flags_pass c again k) (flags_faultless c again k) e

flag_word_faultless : (c : List Rule) (again : Bool) (o : Option (Text × Option Text)) (word : Text) (h : Held) → flag_word_fault c again o word h ≡ [] → flag_word_passes c again o word h ≡ true
flag_word_faultless c again (Some p) word h e = long_faultless c again (arg_by_long c p.0) p.1 h e
flag_word_faultless c again None word h e = go (short_of word) e
  where
    go : (o : Option Text) → option_map_or (λ flags. bundle_fault c again flags h) o [] ≡ [] → option_map_or (λ flags. bundle_passes c again flags h) o true ≡ true
    go None e = refl
    go (Some flags) e = flags_faultless c again (length flags) flags h.skip (record h { skip = 0 }) e

other_faultless : (s : Shape) (o : Option Text) (word : Text) (h : Held) → other_fault s o word h ≡ [] → other_passes s o word h ≡ true
other_faultless s (Some name) word h e = go (bytes_eq name (codes "help")) s.disable_help_subcommand e
  where
    go : (a b : Bool) → cond (a && not b) (kind.DisplayHelp ∷ kind.InvalidSubcommand ∷ []) [] ≡ [] → (not a || b) ≡ true
    go true true e = refl
    go true false e = cc
    go false b e = refl
other_faultless s None word h e = unless (bytes_eq word (45 ∷ 45 ∷ [])) _ _ e (flag_word_faultless s.rules s.args_override_self (long_of word) word h)

word_faultless : (s : Shape) (names : Names) (is_trailing : Bool) (waiting : Waiting) (word : Text) (h : Held)
    → word_fault s names is_trailing waiting word h ≡ [] → word_passes s names is_trailing waiting word h ≡ true
word_faultless s names is_trailing waiting word h e = unless is_trailing _ _ e (other_faultless s (subcommand_met names waiting word) word h)

stray_fails : (s : Shape) → stray_fault s ≡ [] → ⊥
stray_fails s e = go s.is_leaf e
  where
    go : (b : Bool) → cond b (kind.UnknownArgument ∷ []) (kind.UnknownArgument ∷ kind.InvalidSubcommand ∷ []) ≡ [] → ⊥
    go true e = cc
    go false e = cc

step_faultless : (s : Shape) (position : ℕ) (h : Held) (step : Step) → step_fault s position h step ≡ [] → step_passes s position h step ≡ true
step_faultless s position h value e = go (arg_by_index s.rules position) e
  where
    go : (o : Option Rule) → option_map_or (λ a. positional_fault s.rules s.args_override_self a h) o (stray_fault s) ≡ [] → option_map_or (λ a. positional_passes s.rules s.args_override_self a h) o false ≡ true
    go None e = absurd (stray_fails s e)
    go (Some a) e = unless (is_pending a h.pending && takes_several a) _ _ e (settle_faultless s.rules s.args_override_self h)
step_faultless s position h (next waiting) e = refl
step_faultless s position h (trailing at) e = refl
step_faultless s position h (subcommand name) e = refl

turn_faultless : (s : Shape) (names : Names) (w : Walk) (word : Text) → turn_fault s names w word ≡ [] → turn_passes s names w word ≡ true
turn_faultless s names w word e =
    let met = word_met s.rules names w.is_trailing w.waiting w.position word w.held in
    unless (is_some w.stopped) _ _ e (λ none.
    let parts = neither (word_fault s names w.is_trailing w.waiting word w.held) (step_fault s w.position met.0 met.1) none in
    joined _ _ (word_faultless s names w.is_trailing w.waiting word w.held parts.0) (step_faultless s w.position met.0 met.1 parts.1))

walk_faultless : (s : Shape) (names : Names) (w : Walk) (words : List Text) → walk_fault s names w words ≡ [] → walk_passes s names w words ≡ true
unfolding walk_fault walk_passes
walk_faultless s names w [] e = refl
walk_faultless s names w (word ∷ rest) e =
    let parts = neither (turn_fault s names w word) (walk_fault s names (walked s.rules names w word) rest) e in
    joined _ _ (turn_faultless s names w word parts.0) (walk_faultless s names (walked s.rules names w word) rest parts.1)

-- ---- after the walk

all_given : (rows : List Row) (rules : List Rule) → list_any (λ a. a.required && not (is_given a.id rows)) rules ≡ false → list_all (λ a. not a.required || is_given a.id rows) rules ≡ true
all_given rows [] e = refl
all_given rows (a ∷ rest) e = go a.required (is_given a.id rows) (list_any (λ a. a.required && not (is_given a.id rows)) rest) e (all_given rows rest)
  where
    go : (r g t : Bool) → ((r && not g) || t) ≡ false → (t ≡ false → list_all (λ a. not a.required || is_given a.id rows) rest ≡ true)
        → ((not r || g) && list_all (λ a. not a.required || is_given a.id rows) rest) ≡ true
    go true true t e h = h e
    go true false t e h = cc
    go false g t e h = h e

check_faultless : (s : Shape) (rows : List Row) (has : Bool) → list_all (λ a. a.is_free) s.rules ≡ true → check_fault s rows has ≡ [] → is_valid s rows has ≡ true
check_faultless s rows has free e =
    go has s.arg_required_else_help (list_any (λ r. explicit_source r.source) rows) s.subcommand_required s.subcommand_negates_reqs
    (list_any (λ a. a.required && not (is_given a.id rows)) s.rules) (all_given rows s.rules) e
  where
    last : (n t : Bool) → cond (not n && t) (kind.MissingRequiredArgument ∷ []) [] ≡ [] → (t ≡ false → list_all (λ a. not a.required || is_given a.id rows) s.rules ≡ true)
        → (list_all (λ a. a.is_free) s.rules && (n || list_all (λ a. not a.required || is_given a.id rows) s.rules)) ≡ true
    last true t e h = joined _ _ free refl
    last false true e h = cc
    last false false e h = joined _ _ free (h refl)

    go : (has help any sub negates t : Bool) → (t ≡ false → list_all (λ a. not a.required || is_given a.id rows) s.rules ≡ true)
        → check_kinds (not has && (help && not any)) (not has && sub) (not (negates && has) && t) ≡ []
        → ((not help || (has || any)) && ((not sub || has) && (list_all (λ a. a.is_free) s.rules && ((negates && has) || list_all (λ a. not a.required || is_given a.id rows) s.rules)))) ≡ true
    go true true any true negates t h e = last (negates && true) t e h
    go true true any false negates t h e = last (negates && true) t e h
    go true false any true negates t h e = last (negates && true) t e h
    go true false any false negates t h e = last (negates && true) t e h
    go false true true true negates t h e = cc
    go false true true false negates t h e = last (negates && false) t e h
    go false true false sub negates t h e = cc
    go false false any true negates t h e = cc
    go false false any false negates t h e = last (negates && false) t e h

level_faultless : (s : Shape) (names : Names) (h : Held) (words : List Text) (has : Bool) (below : Kinds) → list_all default_passes s.rules ≡ true → list_all (λ a. a.is_free) s.rules ≡ true
    → level_fault s names h words has below ≡ [] → level_passes s names h words has ≡ true
level_faultless s names h words has below defaults free e =
    let end = (walk s.rules names h words).held in
    let a = neither (walk_fault s names (walk_from h) words) _ e in
    let b = neither below _ a.1 in
    let c = neither (settle_fault s.rules s.args_override_self end) _ b.1 in
    let d = neither (defaults_fault (settled s.rules end).rows s.rules) (check_fault s (finished s.rules end) has) c.1 in
    joined _ _ (walk_faultless s names (walk_from h) words a.0)
    (joined _ _ (settle_faultless s.rules s.args_override_self end c.0)
    (joined _ _ defaults (check_faultless s (finished s.rules end) has free d.1)))

-- a simple command with no subcommand, whose defaults pass, takes the words where it has no fault in them
pub faultless_takes : (a : App) (words : List Text) → is_simple_and_free a ≡ true → (built a).subs ≡ [] → list_all default_passes (built a).top.rules ≡ true
    → fault_of a words ≡ [] → takes a words ≡ true
faultless_takes a words simple none defaults e =
    let parts = both (is_simple a) (is_free_app (built a)) simple in
    let free = both (list_all (λ r. r.is_free) (built a).top.rules) _ parts.1 in
    let rest = argument_words a words in
    joined (is_simple a) _ parts.0 (leaf_takes (built a) nothing_held rest none
    (level_faultless (built a).top [] nothing_held rest false [] defaults free.0 (sym (leaf_fault (built a) nothing_held rest none) ∙ e)))
