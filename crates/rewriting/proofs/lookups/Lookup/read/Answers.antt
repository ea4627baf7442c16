use Rattle.std.proofs.Common.{◌≡◌, ℕ, List, [], get_or, sym, ap, subst, arith}
use Rattle.theory.specs.Word.{Word}
use Rattle.rewriting.specs.Rules.{AreFalling}
use Rattle.rewriting.specs.Tables.{Moves, IsTableOf}
use Rattle.rewriting.specs.Tries.{Reads, longer, words_of}
use Rattle.rewriting.specs.Lookups.{moves_of, moves_or_none}
use Rattle.rewriting.proofs.TableLaws.{past_reads}
use Rattle.rewriting.proofs.lookups.Lookup.read.Goals as goal

pub returns-in-Some : goal.returns-in-Some
returns-in-Some c =
    let Told : Moves → Type 0 = λ m. (k : ℕ) (tabled : List (Word × Word)) → AreFalling tabled → IsTableOf k tabled m
    → Reads tabled (words_of tabled m.prefixes) (longer (words_of tabled m.prefixes) c.args.state c.args.letter) c.read.result.0 c.read.result.1 in
    subst Told (sym (ap moves_or_none c.in-Some.is)) c.read.ensures

pub returns-in-None : goal.returns-in-None
returns-in-None c = λ k tabled falling is.
    let none : (moves_of c.args.self.now).letters ≡ 0 = ap (λ o. (moves_or_none o).letters) c.in-None.is in
    past_reads k tabled (moves_of c.args.self.now) is falling (get_or (words_of tabled (moves_of c.args.self.now).prefixes) c.args.state []) c.args.letter (omega (arith, is.letters, none))
