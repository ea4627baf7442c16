use Rattle.std.proofs.Common.{◌≡◌, ◌+◌, ◌*◌, ℕ, List, ap, sym, ◌∙◌, slice_get, option_and_then, arith, drop}
use Rattle.std.specs.Prelude.{Some, None}
use Rattle.sims_one.specs.Targets.{path_in}
use Rattle.sims_one.proofs.PathLaws.{letter_over, path_letter, path_ended, target_small}
use Rattle.sims_one.proofs.paths.path_in.Goals as goal

pub target_at-requires-clause-letter : goal.target_at-requires-clause-letter
target_at-requires-clause-letter c = letter_over c.args.letters c.args.word.now c.loop-i.i c.letter.result c.requires.word c.letter.ensures

pub returns-in-None : goal.returns-in-None
returns-in-None c =
    let k : ℕ = c.args.letters in
    let t : List ℕ = c.args.targets.now in
    let i : ℕ = c.loop-i.i in
    let less = c.loop-i-test.true in
    let none : slice_get t (c.loop-i.at * k + c.letter.result) ≡ None = sym c.in-None.ensures in
    sym (c.loop-i.invariant.path ∙ path_letter k t c.loop-i.at c.args.word.now i c.letter.result (omega (arith, less, c.len-i-end.ensures)) c.letter.ensures
    ∙ ap (option_and_then (λ next. path_in k t next (drop (i + 1) c.args.word.now))) none)

pub loop-i-preserved : goal.loop-i-preserved
loop-i-preserved c =
    let k : ℕ = c.args.letters in
    let t : List ℕ = c.args.targets.now in
    let i : ℕ = c.loop-i.i in
    let less = c.loop-i-test.true in
    let some : slice_get t (c.loop-i.at * k + c.letter.result) ≡ Some c.in-Some.next = sym c.in-Some.ensures in
    record {
      path = c.loop-i.invariant.path ∙ path_letter k t c.loop-i.at c.args.word.now i c.letter.result (omega (arith, less, c.len-i-end.ensures)) c.letter.ensures
          ∙ ap (option_and_then (λ next. path_in k t next (drop (i + 1) c.args.word.now))) some;
      small = target_small 17 t (c.loop-i.at * k + c.letter.result) c.in-Some.next c.requires.targets some;
    }

pub returns : goal.returns
returns c =
    sym (c.loop-i.invariant.path ∙ path_ended c.args.letters c.args.targets.now c.loop-i.at c.args.word.now c.loop-i.i (omega (arith, c.loop-i-test.false, c.len-i-end.ensures)))
