-- What the words of the command line set, and what a run by them reads.
use Rattle.std.specs.Prelude.{ℕ, List, IfSome, IsSome, Option, ◌⊎◌}
use Rattle.settings.specs.Settings.{Reads, or_name}
use Rattle.settings.specs.declared.Settings.{Settings}
use Rattle.run_parts.specs.Made.{input_of}

-- the words set settings, of which this holds
abbrev pub Under : List (List ℕ) → (Settings → Type 0) → Type 0
Under words P = (settings : Settings) × Reads (or_name words) settings × P settings

-- the words ask for a made script
abbrev pub AskToMake : List (List ℕ) → Type 0
AskToMake words = Under words (λ settings. IsSome settings.make)

-- this holds, or the words ask for a made script
abbrev pub UnlessMade : List (List ℕ) → Type 0 → Type 0
UnlessMade words P = AskToMake words ⊎ P

-- the words set settings, and of what a run under them reads, where it is told, this holds
abbrev pub OnInput : List (List ℕ) → Option (List ℕ) → (Settings → List ℕ → Type 0) → Type 0
OnInput words left P = Under words (λ settings. IfSome (input_of settings left) (P settings))
