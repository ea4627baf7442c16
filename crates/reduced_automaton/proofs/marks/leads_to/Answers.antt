use Rattle.std.proofs.Common.{◌≡◌, ◌∙◌, None, Some, ap, sym, arith, inl, inr}
use Rattle.std.proofs.lemmas.Bool.{cases_lt}
use Rattle.theory.specs.Graph.{target}
use Rattle.rewriting.specs.Tables.{edges}
use Rattle.reduced_automaton.specs.Paths.{narrowed}
use Rattle.reduced_automaton.proofs.PathLaws.{not_then}
use Rattle.reduced_automaton.proofs.MarkLaws.{narrowed_past}
use Rattle.reduced_automaton.proofs.marks.leads_to.Goals as goal

pub loop-number-preserved : goal.loop-number-preserved
loop-number-preserved c = λ b next less e t.
    elim (cases_lt b c.loop-number.number) [
      | inl old ↦ c.loop-number.invariant b next old e t
      | inr past ↦
          let same : b ≡ c.new.result = omega (arith, less, past, c.new.ensures) in
          not_then c.leads_by.result _ c.leads_by.ensures c.if-leads_by.false
          (next, ap (λ z. target (narrowed c.args.letters (edges c.args.graph.now)) c.args.node z) (sym same) ∙ e, t)
    ]

pub returns-then-leads_by : goal.returns-then-leads_by
returns-then-leads_by c =
    let found = c.leads_by.ensures.0 c.if-leads_by.true in
    (λ t. record { letter = c.new.result; next = found.0; is = found.1; marked = found.2 }, λ leads. cc)

pub returns : goal.returns
returns c = (
  λ t. let bad : ⊥ = cc in absurd bad,
  λ leads.
      elim (cases_lt leads.letter c.loop-number.number) [
        | inl old ↦ absurd (c.loop-number.invariant leads.letter leads.next old leads.is leads.marked)
        | inr past ↦
            let none = narrowed_past c.args.letters (edges c.args.graph.now) c.args.node leads.letter (omega (arith, past, c.loop-number-test.false)) in
            let bad : None ≡ Some leads.next = sym none ∙ leads.is in absurd (let no : ⊥ = cc in no)
      ],
)
