use Rattle.std.proofs.Common.{◌≡◌, ◌+◌, ◌<◌, ◌∙◌, ℕ, List, Option, Some, None, ap, sym, length, set, slice_index, slice_index_or, arith}
use Rattle.std.proofs.lemmas.List.{get_or_default}
use Rattle.green.specs.Grouping.{place_at}
use Rattle.green.proofs.GroupLaws.{collected_new, collected_old}
use Rattle.green.proofs.grouping.put.Goals as goal

-- what was read is the place of the name
read_is : (places : List (Option ℕ)) (name : ℕ) (read found : Option ℕ) → name < length places → read ≡ slice_index_or places name read → read ≡ found → place_at places name ≡ found
read_is places name read found l e is = sym (get_or_default places name read None l) ∙ sym e ∙ is

pub add-requires-clause-place : goal.add-requires-clause-place
add-requires-clause-place g c =
    let old = c.requires.collected in
    let small = c.requires.small c.args.number c.requires.number in
    let at = read_is c.args.places.now.items (slice_index c.args.names.now c.args.number) c.index.result.now (Some c.in-Some.place) (omega (arith, small, old.grouped.count))
    c.index.ensures c.in-Some.is in
    (old.classes, old.held, (old.grouped.placed (slice_index c.args.names.now c.args.number) c.in-Some.place at).0)

pub returns-in-Some-clause-collected : goal.returns-in-Some-clause-collected
returns-in-Some-clause-collected g c =
    let old = c.requires.collected in
    let small = c.requires.small c.args.number c.requires.number in
    let at = read_is c.args.places.now.items (slice_index c.args.names.now c.args.number) c.index.result.now (Some c.in-Some.place) (omega (arith, small, old.grouped.count))
    c.index.ensures c.in-Some.is in
    collected_old c.args.names.now c.args.number c.args.places.now.items c.args.count (g.C.Collector.holds c.args.collector.now) (g.C.Collector.holds c.add.new.self) old c.in-Some.place at
    c.in_ok-add.ensures.holds

pub returns-clause-collected : goal.returns-clause-collected
returns-clause-collected g c =
    let old = c.requires.collected in
    let small = c.requires.small c.args.number c.requires.number in
    let at = read_is c.args.places.now.items (slice_index c.args.names.now c.args.number) c.index.result.now None (omega (arith, small, old.grouped.count))
    c.index.ensures c.in_default.is in
    collected_new c.args.names.now c.args.number c.args.places.now.items c.args.count (g.C.Collector.holds c.args.collector.now) (g.C.Collector.holds c.begin.new.self) old at small _
    (ap (λ (n : ℕ). set c.args.places.now.items (slice_index c.args.names.now c.args.number) (Some n)) c.in_ok-place.ensures) _ (ap (λ n. n + 1) c.in_ok-place.ensures)
    c.in_ok-begin.ensures.holds
