use Rattle.std.proofs.Common.{List, refl, sym, subst}
use Rattle.std.proofs.lemmas.Result.{on_ok_weaker}
use Rattle.theory.specs.Word.{Word}
use Rattle.rewriting.specs.Newer.{AreNewer}
use Rattle.rewriting.specs.Lookups.{IsLookup}
use Rattle.rewriting.proofs.PartLaws.{behind_lookup}
use Rattle.rewriting.proofs.lookups.Lookup.put_last.Goals as goal

pub put_last-requires : goal.put_last-requires
put_last-requires c = (c.requires.0, c.requires.1, c.requires.2, c.requires.3.newer)

pub returns : goal.returns
returns c =
    on_ok_weaker c.put_last.result
    (λ newer. subst (λ (rs : List (Word × Word)). IsLookup rs (record { table = c.args.self.now.table; places = c.args.self.now.places; first = c.args.self.now.first; newer = c.put_last.new.self })) (sym c.requires.2)
    (behind_lookup c.requires.0 c.args.self.now _ c.requires.1 c.requires.3 refl refl refl
    (subst (λ (rs : List (Word × Word)). AreNewer rs c.args.self.now.first c.put_last.new.self) c.requires.2 newer)))
    c.put_last.ensures
