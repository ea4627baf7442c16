use Rattle.std.proofs.Common.{ℕ, sym, ◌∙◌, ◌≡◌, Some}
use Rattle.std.proofs.lemmas.Result.{IfOk-weaker}
use Rattle.theory.specs.Graph.{target}
use Rattle.coincidence.specs.Table.{IsDefined}
use Rattle.tc_hlt.specs.Tracing.{IsGrown, IsNext, NoDrawing}
use Rattle.tc_hlt.proofs.GrowLaws.{grown_found}
use Rattle.tc_hlt.proofs.DefineLaws.{define_edge, define_grown}
use Rattle.tc_hlt.proofs.rows.step.Goals as goal

pub returns-in-Some-clause-grown : goal.returns-in-Some-clause-grown
returns-in-Some-clause-grown c = grown_found c.args.table.now c.args.node c.args.letter c.in-Some.next c.requires.failed (sym c.target.ensures ∙ c.in-Some.is)

pub returns-in-None-clause-edge : goal.returns-in-None-clause-edge
returns-in-None-clause-edge c =
    IfOk-weaker c.define.result (IsDefined c.args.table.now c.define.new.self c.args.node c.args.letter) (λ (next : ℕ). target c.define.new.self.graph c.args.node c.args.letter ≡ Some next)
    (λ made is. define_edge c.args.table.now c.define.new.self c.args.node c.args.letter made c.requires.table is c.requires.node c.requires.letter (sym c.target.ensures ∙ c.in-None.is))
    c.define.ensures.ok

pub returns-in-None-clause-grown : goal.returns-in-None-clause-grown
returns-in-None-clause-grown c =
    IfOk-weaker c.define.result (IsDefined c.args.table.now c.define.new.self c.args.node c.args.letter) (λ (next : ℕ). IsGrown (IsNext c.args.letter) NoDrawing c.args.table.now c.define.new.self c.args.node)
    (λ made is. define_grown c.args.table.now c.define.new.self c.args.node c.args.letter made c.requires.table is c.requires.node c.requires.letter (sym c.target.ensures ∙ c.in-None.is))
    c.define.ensures.ok
