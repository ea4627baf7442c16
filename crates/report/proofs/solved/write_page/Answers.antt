use Rattle.std.proofs.Common.{◌≡◌, ◌∙◌, ◌+◌, subst, sym, arith, Option}
use Rattle.std.specs.Option.{option_copied}
use Rattle.ports.specs.Writes.{Writes}
use Rattle.ports.proofs.WriteLemmas.{handed_on}
use Rattle.theory.specs.Word.{Word, IsOver}
use Rattle.theory.specs.ShortLex.{◌≺◌}
use Rattle.theory.specs.Class.{IsLeast}
use Rattle.theory.specs.Listing.{GoesOnOrEnds}
use Rattle.theory.proofs.ClassLaws.{shortlex_strict}
use Rattle.problem.specs.declared.kinds.Problem.{Problem}
use Rattle.problem.specs.Problem.{SameClassOf}
use Rattle.congruence.specs.Solution.{Solution}
use Rattle.element_tables.proofs.Elements.{class_over}
use Rattle.report_lines.specs.LineBytes.{AreBytesOf}
use Rattle.report_lines.specs.Lines.{word_line}
use Rattle.report_lines.specs.Pages.{ArePageLines}
use Rattle.report_lines.proofs.PageLemmas.{Found, IsBegun, next_found, none_found, more_begun, page_ended, page_full, page_begun, word_begun}
use Rattle.report.proofs.solved.write_page.Goals as goal

-- what is known of the same solution
moved_goes : (s t : Solution) → s ≡ t → GoesOnOrEnds (IsLeast (SameClassOf s.problem)) ◌≺◌ → GoesOnOrEnds (IsLeast (SameClassOf t.problem)) ◌≺◌
moved_goes s t is = subst (λ (u : Solution). GoesOnOrEnds (IsLeast (SameClassOf u.problem)) ◌≺◌) is

moved_found : (s t : Solution) → s ≡ t → (cursor next : Option Word) → Found (IsLeast (SameClassOf s.problem)) ◌≺◌ cursor next
    → Found (IsLeast (SameClassOf t.problem)) ◌≺◌ cursor next
moved_found s t is cursor next = subst (λ (u : Solution). Found (IsLeast (SameClassOf u.problem)) ◌≺◌ cursor next) is

pub returns-in_err-word-clause-written : goal.returns-in_err-word-clause-written
returns-in_err-word-clause-written g c =
    let P : Word → Type 0 = IsLeast (SameClassOf c.args.solved.now.problem) in
    handed_on g.O.Sink _ _ _ _ c.from_residual.ensures.1
    (page_begun P ◌≺◌ (shortlex_strict P) (word_line c.args.alphabet.now) c.args.cursor.now g.O.Sink c.loop.cursor c.loop.counter _ _ c.loop.invariant.begun (moved_goes c.loop.solved c.args.solved.now c.loop.invariant.kept c.next_after.ensures.goes_on) c.args.count (omega (arith, c.loop-test.true)))

pub write_word-requires : goal.write_word-requires
write_word-requires g c =
    let s : Problem = c.args.solved.now.problem in
    let next = next_found (IsLeast (SameClassOf s)) ◌≺◌ c.in_ok-word.field-0 c.in-Some.word (option_copied c.as_ref.result) c.loop.cursor c.as_ref.ensures.value c.in-Some.is (moved_found c.loop.solved c.args.solved.now c.loop.invariant.kept (option_copied c.as_ref.result) c.in_ok-word.field-0 c.in_ok-word.ensures.next) in
    subst (λ k. IsOver k c.in-Some.word) c.requires.one_each (class_over s c.in-Some.word c.in-Some.word next.has.element)

pub returns-in_err-write_word-in-Some-clause-written : goal.returns-in_err-write_word-in-Some-clause-written
returns-in_err-write_word-in-Some-clause-written g c =
    let P : Word → Type 0 = IsLeast (SameClassOf c.args.solved.now.problem) in
    let next = next_found P ◌≺◌ c.in_ok-word.field-0 c.in-Some.word (option_copied c.as_ref.result) c.loop.cursor c.as_ref.ensures.value c.in-Some.is (moved_found c.loop.solved c.args.solved.now c.loop.invariant.kept (option_copied c.as_ref.result) c.in_ok-word.field-0 c.in_ok-word.ensures.next) in
    handed_on g.O.Sink _ _ _ _ c.from_residual-in_err-write_word-in-Some.ensures.1
    (word_begun P ◌≺◌ (shortlex_strict P) (word_line c.args.alphabet.now) c.args.cursor.now g.O.Sink c.loop.cursor c.loop.counter _ _ c.loop.invariant.begun (moved_goes c.loop.solved c.args.solved.now c.loop.invariant.kept c.next_after.ensures.goes_on) c.args.count c.in-Some.word _ _ c.loop-test.true next c.in_err-write_word-in-Some.ensures)

pub returns-in-None-clause-written : goal.returns-in-None-clause-written
returns-in-None-clause-written g c =
    let P : Word → Type 0 = IsLeast (SameClassOf c.args.solved.now.problem) in
    let last = none_found P ◌≺◌ c.in_ok-word.field-0 (option_copied c.as_ref.result) c.loop.cursor c.as_ref.ensures.value c.in-None.is (moved_found c.loop.solved c.args.solved.now c.loop.invariant.kept (option_copied c.as_ref.result) c.in_ok-word.field-0 c.in_ok-word.ensures.next) in
    page_ended P ◌≺◌ (shortlex_strict P) (word_line c.args.alphabet.now) c.args.cursor.now g.O.Sink c.loop.cursor c.loop.counter _ _ c.loop.invariant.begun c.args.count _ _ (omega (arith, c.loop-test.true)) last c.write_end.ensures.bytes

pub loop-preserved : goal.loop-preserved
loop-preserved g c =
    let P : Word → Type 0 = IsLeast (SameClassOf c.args.solved.now.problem) in
    let next = next_found P ◌≺◌ c.in_ok-word.field-0 c.in-Some.word (option_copied c.as_ref.result) c.loop.cursor c.as_ref.ensures.value c.in-Some.is (moved_found c.loop.solved c.args.solved.now c.loop.invariant.kept (option_copied c.as_ref.result) c.in_ok-word.field-0 c.in_ok-word.ensures.next) in
    record {
      kept = c.in_ok-word.ensures.kept ∙ c.loop.invariant.kept;
      begun = subst (λ cursor. IsBegun g.O.Sink P ◌≺◌ (word_line c.args.alphabet.now) c.args.cursor.now cursor (c.loop.counter + 1) c.args.sink.now c.write_word.new.sink) (sym c.replace.ensures.after)
          (more_begun P ◌≺◌ (shortlex_strict P) (word_line c.args.alphabet.now) c.args.cursor.now g.O.Sink c.loop.cursor c.loop.counter _ _ c.loop.invariant.begun c.in-Some.word _ next c.in_ok-write_word-in-Some.ensures);
    }

pub returns-in_err-next-clause-written : goal.returns-in_err-next-clause-written
returns-in_err-next-clause-written g c =
    let P : Word → Type 0 = IsLeast (SameClassOf c.args.solved.now.problem) in
    handed_on g.O.Sink _ _ _ _ c.from_residual-in_err-next.ensures.1
    (page_begun P ◌≺◌ (shortlex_strict P) (word_line c.args.alphabet.now) c.args.cursor.now g.O.Sink c.loop.cursor c.loop.counter _ _ c.loop.invariant.begun (moved_goes c.loop.solved c.args.solved.now c.loop.invariant.kept c.next_after-2.ensures.goes_on) c.args.count c.loop.auto.counter-end)

pub returns-clause-written : goal.returns-clause-written
returns-clause-written g c =
    let P : Word → Type 0 = IsLeast (SameClassOf c.args.solved.now.problem) in
    let all : c.loop.counter ≡ c.args.count = omega (arith, c.loop-test.false, c.loop.auto.counter-end) in
    let next = subst (λ cursor. Found P ◌≺◌ cursor c.in_ok-next.next) c.as_ref-2.ensures.value (moved_found c.loop.solved c.args.solved.now c.loop.invariant.kept (option_copied c.as_ref-2.result) c.in_ok-next.next c.in_ok-next.ensures.next) in
    subst (λ n. Writes g.O.Sink (λ _. AreBytesOf (ArePageLines P ◌≺◌ (word_line c.args.alphabet.now) c.args.cursor.now n)) c.args.sink.now c.write_end-2.new.sink c.write_end-2.result) all
    (page_full P ◌≺◌ (shortlex_strict P) (word_line c.args.alphabet.now) c.args.cursor.now g.O.Sink c.loop.cursor c.loop.counter _ c.loop.sink c.loop.invariant.begun c.in_ok-next.next c.is_some.result _ _ next c.is_some.ensures c.write_end-2.ensures.bytes)
