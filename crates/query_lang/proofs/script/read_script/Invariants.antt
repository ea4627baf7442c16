use Rattle.std.proofs.Common.{◌≡◌, length, map}
use Rattle.line_parts.specs.Texts.{texts}
use Rattle.line_parts.specs.Token.{tokens_of}
use Rattle.query_lang.specs.Grammar.{Nothing, Reads}
use Rattle.query_lang.proofs.script.read_script.Given as goal

abbrev pub invariant-loop-line : goal.invariant-loop-line
invariant-loop-line l = record {
  can : (goal.iterator-loop-line).can_next l.line-iterator;
  finite : (goal.iterator-loop-line).is_finite l.line-iterator;
  counted : l.number ≡ length l.yielded;
  read : Reads Nothing (map tokens_of (texts l.yielded)) l.progress;
}
