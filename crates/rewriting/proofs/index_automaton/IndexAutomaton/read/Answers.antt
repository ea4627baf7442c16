use Rattle.std.proofs.Common.{◌<◌, ◌∙◌, ℕ, List, ap, length, subst, unwrap_or}
use Rattle.theory.specs.Word.{Word}
use Rattle.rewriting.specs.Rules.{AreFalling}
use Rattle.rewriting.specs.Tables.{IsTableOf, Moves}
use Rattle.rewriting.specs.Tries.{Reads, longer, words_of}
use Rattle.rewriting.proofs.TableLaws.{read_at}
use Rattle.rewriting.proofs.index_automaton.IndexAutomaton.read.Goals as goal

pub returns : goal.returns
returns c =
    let P : Moves → Type 0 = λ m. c.args.state < length m.prefixes → (k : ℕ) (rules : List (Word × Word)) → AreFalling rules → IsTableOf k rules m
    → Reads rules (words_of rules m.prefixes) (longer (words_of rules m.prefixes) c.args.state c.args.letter) c.unwrap_or-target.result c.get-2.result in
    let at = c.unwrap_or-target.ensures ∙ ap (λ t. unwrap_or t 0) c.get.ensures.entry in
    subst P c.self.view_is
    (λ inside k rules falling is. rw (at, c.get-2.ensures.entry) (read_at k rules _ c.self.invariant falling is c.args.state c.args.letter inside)) c.requires
