use Rattle.std.proofs.Common.{◌≡◌, ◌<◌, None, refl, sym, subst}
use Rattle.theory.specs.Graph.{target}
use Rattle.coincidence.specs.Live.{IsOn}
use Rattle.coincidence.specs.Table.{CosetTable}
use Rattle.coincidence.proofs.HeldLaws.{drawn_whole, failed_held, held, seen}
use Rattle.coincidence.proofs.tables.Table.draw.Goals as goal

pub invariant_of-self : goal.invariant_of-self
invariant_of-self c = rw (c.fail.ensures) (failed_held _ _ c.self.invariant.table.congruence)

pub returns-in_default-clause-table : goal.returns-in_default-clause-table
returns-in_default-clause-table c = rw (c.fail.ensures) ((failed_held c.self.inside.congruence.congruence c.self.inside.cosets c.self.invariant.table.congruence).table)

pub invariant_of-self-2 : goal.invariant_of-self-2
invariant_of-self-2 c =
    let view = sym (seen c.self.inside.congruence.congruence c.self.inside.cosets c.self.inside.failed c.args.self.now c.if-self.false c.self.view_is) in
    let whole = drawn_whole c.self.inside.congruence.congruence c.self.inside.cosets (record c.self.inside.cosets { edges = c.set_edge.new.self; pending = c.push_edge.new.self }) c.args.node c.args.letter c.args.to (c.self.invariant.whole c.if-self.false) (subst (λ (t : CosetTable). IsOn t.live c.args.node) view c.requires.node)
    (subst (λ (t : CosetTable). IsOn t.live c.args.to) view c.requires.to) (subst (λ (t : CosetTable). c.args.letter < t.congruence.presentation.letters) view c.requires.letter)
    (subst (λ (t : CosetTable). target t.graph c.args.node c.args.letter ≡ None) view c.requires.missing) c.set_edge.ensures refl c.in-Ok.ensures in
    held c.self.inside.congruence.congruence (record c.self.inside.cosets { edges = c.set_edge.new.self; pending = c.push_edge.new.self }) c.self.inside.failed c.if-self.false whole c.letters-letters.ensures.lists

pub returns-clause-table : goal.returns-clause-table
returns-clause-table c =
    let view = sym (seen c.self.inside.congruence.congruence c.self.inside.cosets c.self.inside.failed c.args.self.now c.if-self.false c.self.view_is) in
    let whole = drawn_whole c.self.inside.congruence.congruence c.self.inside.cosets (record c.self.inside.cosets { edges = c.set_edge.new.self; pending = c.push_edge.new.self }) c.args.node c.args.letter c.args.to (c.self.invariant.whole c.if-self.false) (subst (λ (t : CosetTable). IsOn t.live c.args.node) view c.requires.node)
    (subst (λ (t : CosetTable). IsOn t.live c.args.to) view c.requires.to) (subst (λ (t : CosetTable). c.args.letter < t.congruence.presentation.letters) view c.requires.letter)
    (subst (λ (t : CosetTable). target t.graph c.args.node c.args.letter ≡ None) view c.requires.missing) c.set_edge.ensures refl c.in-Ok.ensures in
    (held c.self.inside.congruence.congruence (record c.self.inside.cosets { edges = c.set_edge.new.self; pending = c.push_edge.new.self }) c.self.inside.failed c.if-self.false whole c.letters-letters.ensures.lists).table
