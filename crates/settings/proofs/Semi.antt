-- What clap's specification says of the command `semi`.
use Rattle.std.proofs.Common.{◌≡◌, ◌≢◌, ◌∙◌, ℕ, Bool, true, false, List, [], ◌∷◌, Some, Result, Ok, Err, IsErrAnd, IsErrOf, refl, sym, ap, inl, inr, codes}
use Rattle.std.specs.List.{list_all}
use Rattle.clap.specs.Facts.{IsParsed}
use Rattle.clap.specs.Built.{BuildsOrBreaks, is_broken}
use Rattle.clap.specs.Matches.{found_of, has_subcommand}
use Rattle.clap.specs.Values.{kind_of}
use Rattle.clap.specs.Walk.{Row, Text, rows_of}
use Rattle.clap.specs.Simple.{App, app_of, built, is_buildable, is_ready, is_ready_leaf, matches_of}
use Rattle.clap.specs.Takes.{default_passes, takes}
use Rattle.clap.specs.Faults.{fault_of, is_simple_and_free}
use Rattle.clap.specs.declared.builder.command.Command.{Command}
use Rattle.clap.specs.declared.builder.command.Command.TheViews.{out-Command}
use Rattle.clap.specs.declared.error.Error.{Error}
use Rattle.clap.specs.declared.error.kind.ErrorKind.TheVariants.{OutOfMemory}
use Rattle.clap.specs.declared.parser.matches.ArgMatches.{ArgMatches}
use Rattle.settings.specs.declared.Settings.{Settings}
use Rattle.settings.specs.declared.SettingsFault.{SettingsFault}
use Rattle.settings.specs.declared.SettingsFault.TheVariants.{Refused}
use Rattle.settings.specs.Settings.{HasNumber, HasNumbers, Reads, number_in, or_name, semi_app}
use Rattle.settings.proofs.Faultless.{faultless_takes}
use Rattle.settings.proofs.Numbers.{has_number_option, number_found, number_if_given, only_numbers}

-- ---- computed

pub semi_is_simple : is_simple_and_free semi_app ≡ true
unfolding semi_app
semi_is_simple = refl

semi_is_buildable : is_buildable semi_app ≡ true
unfolding semi_app
semi_is_buildable = refl

semi_has_no_subcommand : (built semi_app).subs ≡ []
unfolding semi_app
semi_has_no_subcommand = refl

semi_defaults_pass : list_all default_passes (built semi_app).top.rules ≡ true
unfolding semi_app
semi_defaults_pass = refl

-- what is read of the command, before it is built and after
record HasOptions (a : App) : Type 0 where
  ready : is_ready a.top ≡ true
  leaves : list_all is_ready_leaf a.subs ≡ true
  rows : has_number_option 0 1000000 (codes "rows") a.top.rules ≡ true
  defs : has_number_option 0 1000000 (codes "defs") a.top.rules ≡ true
  length : has_number_option 0 64 (codes "length") a.top.rules ≡ true
  elements : has_number_option 0 10000000 (codes "elements") a.top.rules ≡ true
  classes : has_number_option 0 1000000 (codes "classes") a.top.rules ≡ true
  workers : has_number_option 1 64 (codes "workers") a.top.rules ≡ true
  make : only_numbers 1 200 (codes "make") a.top.rules ≡ true

semi_has_options : HasOptions semi_app
unfolding semi_app
semi_has_options = record { ready = refl; leaves = refl; rows = refl; defs = refl; length = refl; elements = refl; classes = refl; workers = refl; make = refl }

built_has_options : HasOptions (built semi_app)
unfolding semi_app
built_has_options = record { ready = refl; leaves = refl; rows = refl; defs = refl; length = refl; elements = refl; classes = refl; workers = refl; make = refl }

-- ---- for `matches_in`

pub semi_takes : (words : List Text) → fault_of semi_app words ≡ [] → takes semi_app words ≡ true
semi_takes words none = faultless_takes semi_app words semi_is_simple semi_has_no_subcommand semi_defaults_pass none

-- a parse that fails, and not for want of memory, was not of words that the command takes
pub semi_refuses : {T : Type 0} (a : App) (words : List Text) (e : Error) (r : Result T SettingsFault) → a ≡ semi_app → (takes a words ≡ true → kind_of e ≡ OutOfMemory)
    → IsErrAnd r (λ f. f ≡ Refused → kind_of e ≢ OutOfMemory) → IsErrOf r Refused → takes semi_app words ≡ false
semi_refuses a words e (Ok x) is memory gives of = absurd gives
semi_refuses a words e (Err f) is memory gives of = go (takes semi_app words) refl
  where
    go : (b : Bool) → takes semi_app words ≡ b → b ≡ false
    go true taken =
        let fault : f ≡ Refused = cc in
        absurd (gives fault (memory (ap (λ (x : App). takes x words) is ∙ taken)))
    go false taken = refl

numbers_at : (a : App) (c : Command) (m : ArgMatches) → HasOptions a → app_of c ≡ a
    → ((out-Command c).has_globals ≡ false → IsParsed c (found_of m) (has_subcommand m)) → HasNumbers (rows_of (found_of m))
numbers_at a c m options is parsed =
    let read : (least most : ℕ) (id : Text) → (id ≡ [] → ⊥) → has_number_option least most id a.top.rules ≡ true → HasNumber least most id (rows_of (found_of m))
    = λ least most id named has. number_found least most a c (found_of m) (has_subcommand m) id is options.ready options.leaves named has parsed in
    record {
      rows = read 0 1000000 (codes "rows") (λ e. cc) options.rows;
      defs = read 0 1000000 (codes "defs") (λ e. cc) options.defs;
      length = read 0 64 (codes "length") (λ e. cc) options.length;
      elements = read 0 10000000 (codes "elements") (λ e. cc) options.elements;
      classes = read 0 1000000 (codes "classes") (λ e. cc) options.classes;
      workers = read 1 64 (codes "workers") (λ e. cc) options.workers;
      make = number_if_given 1 200 a c (found_of m) (has_subcommand m) (codes "make") is options.ready options.leaves (λ e. cc) options.make parsed;
    }

pub semi_numbers : (old new : Command) (m : ArgMatches) → app_of old ≡ semi_app → BuildsOrBreaks old new → (is_broken new ≡ true → ⊥)
    → ((out-Command new).has_globals ≡ false → IsParsed new (found_of m) (has_subcommand m)) → HasNumbers (rows_of (found_of m))
semi_numbers old new m is (inl broken) whole parsed = absurd (whole broken)
semi_numbers old new m is (inr (builds, names, inl same)) whole parsed = numbers_at semi_app new m semi_has_options (same ∙ is) parsed
semi_numbers old new m is (inr (builds, names, inr made)) whole parsed =
    numbers_at (built semi_app) new m built_has_options (made (ap is_buildable is ∙ semi_is_buildable) ∙ ap built is) parsed

-- ---- for `settings_of`

-- clap reads no word as it reads the name alone
takes-or_name : (words : List Text) → takes semi_app (or_name words) ≡ takes semi_app words
unfolding semi_app
takes-or_name [] = refl
takes-or_name (word ∷ rest) = refl

matches_of-or_name : (words : List Text) → matches_of semi_app (or_name words) ≡ matches_of semi_app words
unfolding semi_app
matches_of-or_name [] = refl
matches_of-or_name (word ∷ rest) = refl

pub semi_reads : (words : List Text) (found : List Row) (settings : Settings) → takes semi_app words ≡ true → found ≡ matches_of semi_app words
    → number_in (codes "rows") found ≡ Some settings.rows → number_in (codes "defs") found ≡ Some settings.defs → number_in (codes "length") found ≡ Some settings.length
    → number_in (codes "elements") found ≡ Some settings.elements → number_in (codes "classes") found ≡ Some settings.classes
    → number_in (codes "workers") found ≡ Some settings.workers → number_in (codes "make") found ≡ settings.make → Reads (or_name words) settings
semi_reads words found settings taken are rows defs length elements classes workers make =
    let same : matches_of semi_app (or_name words) ≡ found = matches_of-or_name words ∙ sym are in
    record {
      taken = takes-or_name words ∙ taken;
      rows = ap (number_in (codes "rows")) same ∙ rows;
      defs = ap (number_in (codes "defs")) same ∙ defs;
      length = ap (number_in (codes "length")) same ∙ length;
      elements = ap (number_in (codes "elements")) same ∙ elements;
      classes = ap (number_in (codes "classes")) same ∙ classes;
      workers = ap (number_in (codes "workers")) same ∙ workers;
      make = ap (number_in (codes "make")) same ∙ make;
    }

-- `?` passes a refusal up as it is
pub semi_refused : {T U : Type 0} (words : List Text) (fault : SettingsFault) (below : Result T SettingsFault) (r : Result U SettingsFault) → below ≡ Err fault
    → (IsErrOf below Refused → takes semi_app words ≡ false) → IsErrAnd r (λ f. f ≡ fault) → IsErrOf r Refused → takes semi_app (or_name words) ≡ false
semi_refused words fault below (Ok x) is h gives of = absurd gives
semi_refused words fault below (Err f) is h gives of =
    let refused : below ≡ Err Refused = cc in
    takes-or_name words ∙ h refused
