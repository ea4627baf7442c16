use Rattle.std.proofs.Common.{subst, arith, inl, inr}
use Rattle.std.proofs.lemmas.Bool.{cases_lt}
use Rattle.word_graph.proofs.EdgeLaws.{target_in}
use Rattle.rewriting.specs.Tables.{edges}
use Rattle.reduced_automaton.specs.Automaton.{LeadsBy}
use Rattle.reduced_automaton.proofs.PathLaws.{not_then}
use Rattle.reduced_automaton.proofs.depths.leads_on.Goals as goal

pub loop-number-preserved : goal.loop-number-preserved
loop-number-preserved c = λ b less leads.
    elim (cases_lt b c.loop-number.number) [
      | inl old ↦ c.loop-number.invariant b old leads
      | inr past ↦
          not_then c.leads_by.result _ c.leads_by.ensures c.if-leads_by.false
          (subst (λ z. LeadsBy (edges c.args.graph.now) c.args.depths.now c.args.node c.args.count z) (omega (arith, less, past, c.new.ensures)) leads)
    ]

pub returns : goal.returns
returns c = (
  λ t. let bad : ⊥ = cc in absurd bad,
  λ leads.
      elim (cases_lt leads.0 c.loop-number.number) [
        | inl old ↦ absurd (c.loop-number.invariant leads.0 old leads.1)
        | inr past ↦
            let edge = target_in c.letters-number-end.result (edges c.args.graph.now) c.letters-number-end.ensures.graph c.args.node leads.0 leads.1.next leads.1.is in
            absurd (omega (arith, edge.1, past, c.loop-number-test.false))
      ],
)
