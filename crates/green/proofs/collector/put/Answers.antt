use Rattle.std.proofs.Common.{Vec, Global, ℕ}
use Rattle.green.proofs.GroupLaws.{put_is}
use Rattle.green.proofs.collector.put.Goals as goal

pub returns : goal.returns
returns c =
    put_is (λ (v : Vec ℕ Global). v.items) c.args.lists.now.items c.args.place c.args.number c.index_mut.result.now c.push.new.self c.requires c.index_mut.ensures.value
    c.in_ok-push.ensures.items
