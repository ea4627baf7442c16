use Rattle.std.proofs.Common.{Vec, Global, ℕ}
use Rattle.coincidence.proofs.UsesLaws.{put_noted, there_noted}
use Rattle.coincidence.proofs.uses.put.Goals as goal

pub returns-then-ends_with : goal.returns-then-ends_with
returns-then-ends_with c = there_noted (λ (v : Vec (ℕ × ℕ) Global). v.items) c.args.lists.now.items c.args.number c.args.entry c.index.result.now c.requires c.index.ensures (c.ends_with.ensures c.if-ends_with.true)

pub returns : goal.returns
returns c = put_noted (λ (v : Vec (ℕ × ℕ) Global). v.items) c.args.lists.now.items c.args.number c.args.entry c.index_mut.result.now c.push.new.self c.requires c.index_mut.ensures.value c.in_ok-push.ensures.items
