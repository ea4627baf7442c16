use Rattle.std.proofs.Common.{refl, []}
use Rattle.rewriting.proofs.NewerLaws.{no_newer}
use Rattle.rewriting.proofs.LookupLaws.{empty_lookup}
use Rattle.rewriting.proofs.lookups.Lookup.new.Goals as goal

pub returns : goal.returns
returns c = empty_lookup _ refl c.new.ensures.items refl (no_newer [] 0 c.none.result refl c.none.ensures.depth c.none.ensures.before c.none.ensures.latest)
