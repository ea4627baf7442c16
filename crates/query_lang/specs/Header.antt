-- The headers of scripts, each with its name, the places of its tokens, and what it poses.
use Rattle.std.specs.Prelude.{ℕ, Bool, true, false, not, List, [], ◌∷◌, codes, if◌then◌else◌, Option, Some, None, Result, Ok, Err}
use Rattle.std.specs.Option.{ok_or}
use Rattle.theory.specs.declared.Kind.TheVariants.{TwoSided}
use Rattle.problem.specs.Posed.{PosedOf}
use Rattle.problem.specs.declared.kinds.Problem.{Problem}
use Rattle.problem.specs.declared.kinds.Problem.TheVariants.{Presented, Transf, PPerm, BMat, MaxPlus}
use Rattle.line_parts.specs.declared.cause.Cause.{Cause}
use Rattle.line_parts.specs.declared.cause.Cause.TheVariants.{UnknownHeader, WrongNumberOfWords}
use Rattle.line_parts.specs.declared.version.Version.TheVariants.{One}
use Rattle.line_parts.specs.Outcome.{and_then}
use Rattle.line_parts.specs.Token.{Token, is_word}
use Rattle.query_lang.specs.declared.draft.GeneratorKind.{GeneratorKind}
use Rattle.query_lang.specs.declared.draft.GeneratorKind.TheVariants as kind
use Rattle.query_lang.specs.Forms.{Place, ALetters, ANumber, AllGiven, Way, way}
use Rattle.query_lang.specs.Relations.{free_over}
use Rattle.query_lang.specs.Values.{Scope, as_many, scope, values_of}

-- no generator yet
abbrev pub no_generators : {V : Type 0} → PosedOf V
no_generators = record { letters = []; generators = []; kind = TwoSided; pairs = [] }

-- the numbers of a header, 0 in the place of one that it has not, and what it poses
abbrev pub Start : Type 0
Start = (ℕ × ℕ) × Problem

-- one number behind the name
abbrev pub one_size : (greatest : ℕ) → Problem → Way Start
one_size greatest problem = way (ANumber 1 greatest ∷ []) (λ v. ((v.0, 0), problem))

-- a dimension and a bound behind the name
abbrev pub two_sizes : Problem → Way Start
two_sizes problem = way (ANumber 1 16 ∷ ANumber 0 65535 ∷ []) (λ v. ((v.0, v.1.0), problem))

-- letters behind the name, of both cases where they are wide
abbrev pub free_way : (wide is_monoid : Bool) → Way Start
free_way wide is_monoid =
    way (ALetters wide ∷ []) (λ v. ((0, 0), Presented (free_over is_monoid v.0)))

-- the header of generators that has this name
abbrev pub generators_named : Token → Option (Way Start)
generators_named t =
    if is_word (codes "trans") t then Some (one_size 64 (Transf no_generators))
    else if is_word (codes "pperm") t then Some (one_size 64 (PPerm no_generators))
    else if is_word (codes "bmat") t then Some (one_size 16 (BMat no_generators))
    else if is_word (codes "mpt") t then Some (two_sizes (MaxPlus no_generators))
    else None

-- the header that has this name
abbrev pub header_named : (wide : Bool) → Token → Option (Way Start)
header_named wide t =
    if is_word (codes "monoid") t then Some (free_way wide true)
    else if is_word (codes "semigroup") t then Some (free_way wide false)
    else generators_named t

-- what the tokens of a header are read over: there are no letters yet
abbrev pub no_letters : Scope
no_letters = scope One [] false []

-- what the tokens give in these places, where there are as many
abbrev pub given_by : (places : List Place) → List Token → Result (AllGiven places) Cause
given_by places tokens =
    if not (as_many places tokens) then Err WrongNumberOfWords
    else values_of no_letters tokens places tokens

-- what a header says, or why it is refused
abbrev pub started : Option (Way Start) → List Token → Result Start Cause
started named tokens = and_then
    (λ w. and_then (λ vs. Ok (w.makes vs)) (given_by w.places tokens))
    (ok_or named UnknownHeader)

-- what a header says that is written this way, or why it is refused
abbrev pub told : Way Start → List Token → Result Start Cause
told w tokens = and_then (λ vs. Ok (w.makes vs)) (given_by w.places tokens)

-- no generator yet, of this kind
abbrev pub none_of : GeneratorKind → Problem
none_of kind.Transf = Transf no_generators
none_of kind.PPerm = PPerm no_generators
none_of kind.BMat = BMat no_generators
none_of kind.MaxPlus = MaxPlus no_generators

-- the header of this kind of generators
abbrev pub header_for : GeneratorKind → Way Start
header_for kind.Transf = one_size 64 (Transf no_generators)
header_for kind.PPerm = one_size 64 (PPerm no_generators)
header_for kind.BMat = one_size 16 (BMat no_generators)
header_for kind.MaxPlus = two_sizes (MaxPlus no_generators)

-- the kind of generators whose header has this name
abbrev pub named_kind : Token → Option GeneratorKind
named_kind t =
    if is_word (codes "trans") t then Some kind.Transf
    else if is_word (codes "pperm") t then Some kind.PPerm
    else if is_word (codes "bmat") t then Some kind.BMat
    else if is_word (codes "mpt") t then Some kind.MaxPlus
    else None
