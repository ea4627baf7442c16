use Rattle.std.proofs.Common.{map, take, None, ◌+◌, ◌∷◌, [], ◌++◌, ap, ◌∙◌, sym}
use Rattle.std.proofs.lemmas.List.{map_more}
use Rattle.elements.specs.Hashes.{entry_number}
use Rattle.elements.proofs.Writes.{writes_more}
use Rattle.elements.proofs.entries.hash_entries.Goals as goal

pub loop-entry-preserved : goal.loop-entry-preserved
loop-entry-preserved g c =
    let entries = c.args.entries.now in
    let i = c.loop-entry.entry-index in
    let one_more = map_more entry_number entries i None c.loop-entry-test.true ∙ ap (λ n. map entry_number (take i entries) ++ n ∷ []) (sym c.number_of.ensures) in
    writes_more g.H.Hasher.write c.args.state.now c.loop-entry.state c.write_u64.new.self (map entry_number (take i entries)) (map entry_number (take (i + 1) entries)) c.number_of.result one_more c.loop-entry.invariant c.write_u64.ensures
