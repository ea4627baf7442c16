use Rattle.std.proofs.Common.{length, subst, sym}
use Rattle.green.specs.Known.{AreNamesIn}
use Rattle.green.specs.Naming.{AreNames}
use Rattle.green.specs.Related.{AreRelated}
use Rattle.theory.specs.declared.Relation.TheVariants.{R, L, H, J}
use Rattle.green.proofs.Results.{in_some}
use Rattle.green.proofs.RelationLaws.{small_names, collected_by_names, names_of_joined}
use Rattle.green.proofs.relations.ClassNames.collect.Goals as goal

pub returns-in_ok-find-in-R-clause-collected : goal.returns-in_ok-find-in-R-clause-collected
returns-in_ok-find-in-R-clause-collected g c =
    collected_by_names c.collect.result c.args.tables.now R c.args.relation c.names.result.now (g.C.Collector.holds c.collect.new.collector) c.in-R.is
    (in_some (AreNames (length c.args.tables.now.words) (AreRelated R c.args.tables.now)) _ c.names.result.now c.find.ensures.known c.names.ensures) c.collect.ensures.collected

pub returns-in_ok-find-in-L-clause-collected : goal.returns-in_ok-find-in-L-clause-collected
returns-in_ok-find-in-L-clause-collected g c =
    collected_by_names c.collect-in-L.result c.args.tables.now L c.args.relation c.names-in-L.result.now
    (g.C.Collector.holds c.collect-in-L.new.collector) c.in-L.is (in_some (AreNames (length c.args.tables.now.words) (AreRelated L c.args.tables.now)) _ c.names-in-L.result.now c.find-in-L.ensures.known c.names-in-L.ensures)
    c.collect-in-L.ensures.collected

pub returns-in_ok-find_all-in-H-clause-collected : goal.returns-in_ok-find_all-in-H-clause-collected
returns-in_ok-find_all-in-H-clause-collected g c =
    let known = subst (AreNamesIn c.args.tables.now) (sym c.self-in-H.view_is) c.find_all.ensures.known in
    let both = in_some (AreNames (length c.args.tables.now.words) (AreRelated H c.args.tables.now)) _ c.names-in-H.result.now known.both c.names-in-H.ensures in
    collected_by_names c.collect-in-H.result c.args.tables.now H c.args.relation c.names-in-H.result.now (g.C.Collector.holds c.collect-in-H.new.collector) c.in-H.is
    both c.collect-in-H.ensures.collected

pub collect-requires-in-J-clause-small : goal.collect-requires-in-J-clause-small
collect-requires-in-J-clause-small g c =
    let known = subst (AreNamesIn c.args.tables.now) (sym c.self-in-J.view_is) c.find_both.ensures.known in
    let right = in_some (AreNames (length c.args.tables.now.words) (AreRelated R c.args.tables.now)) _ c.names-in-J.result.now known.right c.names-in-J.ensures in
    let left = in_some (AreNames (length c.args.tables.now.words) (AreRelated L c.args.tables.now)) _ c.names-in-J-2.result.now known.left c.names-in-J-2.ensures in
    let joined = names_of_joined c.args.tables.now c.requires.fit c.requires.commute c.names-in-J.result.now c.names-in-J-2.result.now c.in_ok-joined-in-J.joined.items right left
    c.in_ok-joined-in-J.ensures in
    small_names (length c.args.tables.now.words) (AreRelated J c.args.tables.now) c.deref.result.now
    (subst (AreNames (length c.args.tables.now.words) (AreRelated J c.args.tables.now)) (sym c.deref.ensures.value) joined)

pub returns-in_ok-joined-in-J-clause-collected : goal.returns-in_ok-joined-in-J-clause-collected
returns-in_ok-joined-in-J-clause-collected g c =
    let known = subst (AreNamesIn c.args.tables.now) (sym c.self-in-J.view_is) c.find_both.ensures.known in
    let right = in_some (AreNames (length c.args.tables.now.words) (AreRelated R c.args.tables.now)) _ c.names-in-J.result.now known.right c.names-in-J.ensures in
    let left = in_some (AreNames (length c.args.tables.now.words) (AreRelated L c.args.tables.now)) _ c.names-in-J-2.result.now known.left c.names-in-J-2.ensures in
    let joined = names_of_joined c.args.tables.now c.requires.fit c.requires.commute c.names-in-J.result.now c.names-in-J-2.result.now c.in_ok-joined-in-J.joined.items right left
    c.in_ok-joined-in-J.ensures in
    collected_by_names c.collect-in-J.result c.args.tables.now J c.args.relation c.deref.result.now
    (g.C.Collector.holds c.collect-in-J.new.collector) c.in-J.is (subst (AreNames (length c.args.tables.now.words) (AreRelated J c.args.tables.now)) (sym c.deref.ensures.value) joined) c.collect-in-J.ensures.collected
