use Rattle.std.proofs.Common.{ℕ, List, sym, subst}
use Rattle.theory.specs.Class.{IsRuleList}
use Rattle.froidure_pin.specs.Found.{IsSame, generated}
use Rattle.froidure_pin.specs.Numbering.{AreRows}
use Rattle.froidure_pin.specs.Rules.{IsWholeTable}
use Rattle.froidure_pin.proofs.WholeTables.{ok_map, whole_rules}
use Rattle.froidure_pin.proofs.table.Table.rules.Goals as goal
use Rattle.froidure_pin.specs.declared.parts.Factor.{Factor}

pub returns : goal.returns
returns g c =
    let factors : List Factor = c.self.inside.factors.items in
    let right : List ℕ = c.self.inside.right.items in
    let rows = subst (λ n. AreRows c.self.inside.letters n right) (sym c.self.invariant.count) c.self.invariant.on_right in
    ok_map _ _ c.rules.result (λ rules e generators unused whole.
    let here = subst (λ t. IsWholeTable g.E.Values.shape g.E.Values.product g.E.PartialEq.eq generators unused t) (sym c.self.view_is) whole in
    subst (λ xs. IsRuleList (IsSame (generated g.E.Values.product g.E.PartialEq.eq generators unused)) xs) (sym e.2) (whole_rules (generated g.E.Values.product g.E.PartialEq.eq generators unused) g.met.E.Values.products g.met.E.Element.one_shape factors c.self.inside.elements.keys right c.self.inside.left.items e.0 c.self.inside.letters here c.self.invariant.known rows e.1 c.self.invariant.some)) c.rules.ensures
