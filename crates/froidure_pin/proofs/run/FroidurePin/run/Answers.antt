use Rattle.std.proofs.Common.{◌≡◌, ◌+◌, ◌≤◌, ◌∙◌, length, refl, sym, subst, arith, Ok}
use Rattle.std.specs.Prelude.{Result}
use Rattle.froidure_pin.specs.Found.{IsTableOf}
use Rattle.froidure_pin.specs.Numbering.{TableOf, IsNumbering}
use Rattle.froidure_pin.specs.declared.run.Run.{Run}
use Rattle.froidure_pin.specs.declared.run.Run.TheVariants.{Whole, Over}
use Rattle.ports.specs.declared.fault.NoMemory.{NoMemory}
use Rattle.froidure_pin.proofs.OneShape.{some_value}
use Rattle.froidure_pin.proofs.Search.{found_count, found_few, found_table, exclusive, setting_of}
use Rattle.froidure_pin.proofs.Counts.{counted_bound}
use Rattle.froidure_pin.proofs.Meaning.{numbering_as, parts}
use Rattle.froidure_pin.proofs.run.FroidurePin.run.Goals as goal

one_table : {V : Type 0} (s t : TableOf V) → ◌≡◌ {A = Result (Run V) NoMemory} (Ok (Whole s)) (Ok (Whole t)) → s ≡ t
one_table s t e = cc

over_not_whole : {V : Type 0} (t : TableOf V) → ◌≡◌ {A = Run V} Over (Whole t) → ⊥
over_not_whole t e = cc

whole_not_over : {V : Type 0} (t : TableOf V) → ◌≡◌ {A = Run V} (Whole t) Over → ⊥
whole_not_over t e = cc

pub returns-then-branch-clause-over : goal.returns-then-branch-clause-over
returns-then-branch-clause-over g c = λ unused. (λ _. ((c.in_ok-take_all.ensures.found unused).more c.if-branch.true), λ _. refl)

pub returns-then-branch-clause-whole : goal.returns-then-branch-clause-whole
returns-then-branch-clause-whole g c = λ unused.
    (λ h. absurd (over_not_whole h.0 h.1), λ few. absurd (exclusive (setting_of g.met.E.Values.products g.met.E.Element.one_shape c.requires.shape unused) ((c.in_ok-take_all.ensures.found unused).more c.if-branch.true) few))

pub returns-clause-whole : goal.returns-clause-whole
returns-clause-whole g c = λ unused.
    let found = (c.in_ok-take_all.ensures.found unused).holds c.if-branch.false in
    (λ _. found_few (setting_of g.met.E.Values.products g.met.E.Element.one_shape c.requires.shape unused) found.within.grown.found (omega arith) found.few, λ _. (c.into_table.result, refl))

pub returns-clause-over : goal.returns-clause-over
returns-clause-over g c = λ unused.
    let found = (c.in_ok-take_all.ensures.found unused).holds c.if-branch.false in
    let setting = setting_of g.met.E.Values.products g.met.E.Element.one_shape c.requires.shape unused in (
      λ e. absurd (whole_not_over c.into_table.result e),
      λ more. absurd (exclusive setting more (found_few setting found.within.grown.found (omega arith) found.few)),
    )

pub returns-clause-table : goal.returns-clause-table
returns-clause-table g c = λ other e unused.
    subst (λ (t : TableOf g.row.E.Denot). IsTableOf g.E.Values.product g.E.PartialEq.eq c.args.generators.now.items unused t.words t.elements) (sym c.into_table.ensures ∙ one_table c.into_table.result other e)
    (found_table (setting_of g.met.E.Values.products g.met.E.Element.one_shape c.requires.shape unused) ((c.in_ok-take_all.ensures.found unused).holds c.if-branch.false).within.grown.found (omega arith))

pub returns-clause-steps : goal.returns-clause-steps
returns-clause-steps g c = λ other e unused rules all.
    let many = found_count (setting_of g.met.E.Values.products g.met.E.Element.one_shape c.requires.shape unused) ((c.in_ok-take_all.ensures.found unused).holds c.if-branch.false).within.grown.found in
    let counted = counted_bound (setting_of g.met.E.Values.products g.met.E.Element.one_shape c.requires.shape unused) rules ((c.in_ok-take_all.ensures.found unused).holds c.if-branch.false).count all in
    let bound : c.take_all.new.steps ≤ c.args.steps.now + (length c.take_all.new.growth.elements.keys + length rules) = omega (arith, many, counted) in
    subst (λ (t : TableOf g.row.E.Denot). c.take_all.new.steps ≤ c.args.steps.now + (length t.elements + length rules)) (sym c.into_table.ensures ∙ one_table c.into_table.result other e) bound

pub into_table-requires : goal.into_table-requires
into_table-requires g c =
    let unused = some_value c.args.generators.now.items c.requires.some in
    let within = ((c.in_ok-take_all.ensures.found unused).holds c.if-branch.false).within in
    let letters : c.len.result ≡ length c.args.generators.now.items = omega (arith, c.len.ensures) in
    parts (setting_of g.met.E.Values.products g.met.E.Element.one_shape c.requires.shape unused) within.grown.found (omega arith) (omega arith) within.lefts within.rows letters c.requires.few c.requires.some within.grown.known

pub returns-clause-numbers : goal.returns-clause-numbers
returns-clause-numbers g c = λ other e unused.
    let within = ((c.in_ok-take_all.ensures.found unused).holds c.if-branch.false).within in
    let letters : c.len.result ≡ length c.args.generators.now.items = omega (arith, c.len.ensures) in
    subst (λ t. IsNumbering g.E.Values.product g.E.PartialEq.eq c.args.generators.now.items unused t) (sym c.into_table.ensures ∙ one_table c.into_table.result other e)
    (numbering_as (setting_of g.met.E.Values.products g.met.E.Element.one_shape c.requires.shape unused) within.grown.found (omega arith) (omega arith) within.lefts within.rows letters)
