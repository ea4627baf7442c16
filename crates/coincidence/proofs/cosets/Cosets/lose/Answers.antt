use Rattle.std.proofs.Common.{false, refl, arith}
use Rattle.std.specs.Vec.{with_item}
use Rattle.coincidence.specs.declared.cosets.Cosets.{Cosets}
use Rattle.coincidence.proofs.KeptLaws.{mended_cut}
use Rattle.coincidence.proofs.cosets.Cosets.lose.Goals as goal

pub index_mut-requires : goal.index_mut-requires
index_mut-requires c = omega (arith, c.args.self.now.live.ok, c.requires.merge.inside, c.requires.entries.live)

pub index_mut-requires-2 : goal.index_mut-requires-2
index_mut-requires-2 c = omega (arith, c.args.self.now.replaced_by.ok, c.requires.merge.inside, c.requires.entries.room)

pub cut-requires : goal.cut-requires
cut-requires c = record { lost = omega (arith, c.requires.merge.less); kept = c.requires.entries.order }

pub move_mark-requires : goal.move_mark-requires
move_mark-requires c = record { less = c.requires.merge.less; inside = omega (arith, c.requires.merge.inside, c.requires.entries.marked) }

pub returns : goal.returns
returns c =
    let now = c.args.self.now in
    let new : Cosets = record now {
      live = with_item now.live c.args.merge.lost false;
      marked = c.move_mark.new.marked;
      order = c.cut.new.self;
      replaced_by = with_item now.replaced_by c.args.merge.lost c.args.merge.kept;
    } in
    record {
      live = refl;
      replaced = refl;
      marks = c.move_mark.ensures;
      order = mended_cut now new c.args.merge.lost refl c.cut.ensures.kept c.cut.ensures.places;
      rest = refl;
    }
