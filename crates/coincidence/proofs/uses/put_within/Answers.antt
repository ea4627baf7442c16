use Rattle.std.proofs.Common.{Vec, Global}
use Rattle.coincidence.specs.declared.groups.Group.{Group}
use Rattle.coincidence.proofs.UsesLaws.{put_letter}
use Rattle.coincidence.proofs.uses.put_within.Goals as goal

pub returns : goal.returns
returns c = put_letter (λ (v : Vec Group Global). v.items) c.args.letters.now.items c.args.number c.index_mut.result.now c.put_in.new.groups c.args.kind c.args.place c.requires c.index_mut.ensures.value c.in_ok-put_in.ensures
