use Rattle.std.proofs.Common.{List, ℕ, ◌<◌, None, length, sym, subst}
use Rattle.ports.proofs.WriteLemmas.{handed_on, refused}
use Rattle.theory.specs.Listing.{IsListOf}
use Rattle.green.specs.Known.{HasNames}
use Rattle.green.specs.Related.{IsIdempotentAt}
use Rattle.theory.specs.declared.Relation.TheVariants.{H}
use Rattle.report_lines.proofs.GreenLists.{idempotents_told, listed_below}
use Rattle.report_lines.proofs.ResultLaws.{of_each}
use Rattle.report_lines.proofs.greens.write_idempotents.Goals as goal

pub returns-in_err-found-clause-written : goal.returns-in_err-found-clause-written
returns-in_err-found-clause-written g c = handed_on g.O.Sink _ _ _ _ c.from_residual.ensures.1 (refused g.O.Sink c.args.sink.now)

pub write_words-requires-clause-numbers : goal.write_words-requires-clause-numbers
write_words-requires-clause-numbers g c =
    listed_below (length c.args.tables.now.words) (IsIdempotentAt c.args.tables.now) (λ i back. back.below) None c.deref.result.now
    (subst (λ (found : List ℕ). IsListOf (IsIdempotentAt c.args.tables.now) ◌<◌ None found) (sym c.deref.ensures.value) c.in_ok-found.ensures.idempotents)

pub returns-clause-written : goal.returns-clause-written
returns-clause-written g c =
    idempotents_told c.args.problem.now c.args.tables.now c.requires.shape c.requires.unpaired c.requires.tables c.deref.result.now
    (subst (λ (found : List ℕ). IsListOf (IsIdempotentAt c.args.tables.now) ◌<◌ None found) (sym c.deref.ensures.value) c.in_ok-found.ensures.idempotents)
    g.O.Sink _ _ _ c.write_words.ensures

pub returns-clause-found : goal.returns-clause-found
returns-clause-found g c = of_each c.write_words.result (λ _. HasNames H c.idempotents.new.self.names) (λ _. c.in_ok-found.ensures.found)
