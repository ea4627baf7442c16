use Rattle.std.proofs.Common.{◌≡◌, ◌∙◌, ap, arith, inl, inr, sym}
use Rattle.std.proofs.lemmas.Bool.{cases_lt}
use Rattle.word_graph.proofs.EdgeLaws.{target_in}
use Rattle.theory.specs.Graph.{target}
use Rattle.reduced_automaton.proofs.readers.least_edge.Goals as goal

pub loop-number-preserved : goal.loop-number-preserved
loop-number-preserved g c = λ b m from less e goes.
    elim (cases_lt b c.loop-number.number) [
      | inl old ↦ c.loop-number.invariant b m from old e goes
      | inr past ↦
          let same : b ≡ c.new-letter.result = omega (arith, less, past, c.new-letter.ensures) in
          c.in_default.ensures m (ap (λ z. target (g.P.KnownPaths.paths c.args.paths.now).graph c.args.node z) (sym same) ∙ e) goes
    ]

pub returns : goal.returns
returns g c = λ b m from e goes.
    elim (cases_lt b c.loop-number.number) [
      | inl old ↦ c.loop-number.invariant b m from old e goes
      | inr past ↦
          let p = g.P.KnownPaths.paths c.args.paths.now in
          let edge = target_in p.letters p.graph c.letters-number-end.ensures.graph c.args.node b m e in
          absurd (omega (arith, edge.1, past, c.loop-number-test.false, c.letters-number-end.ensures.count))
    ]

pub returns-in-Some : goal.returns-in-Some
returns-in-Some g c =
    let at = c.new-letter.ensures in
    record {
      from = let low = c.loop-number.auto.number in omega (arith, at, low);
      is = c.in-Some.ensures.0;
      goes = c.in-Some.ensures.1;
      least = λ b m from less. c.loop-number.invariant b m from (omega (arith, less, at));
    }
