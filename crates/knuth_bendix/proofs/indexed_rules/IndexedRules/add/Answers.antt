use Rattle.std.proofs.Common.{◌≡◌, length, List, ◌∙◌, ap, arith, sym, ◌++◌, ◌∷◌, []}
use Rattle.std.proofs.lemmas.List.{nil_from_length}
use Rattle.theory.specs.Word.{Word}
use Rattle.rewriting.specs.Rules.{stands_in}
use Rattle.knuth_bendix.proofs.MarkLaws.{none_gone}
use Rattle.knuth_bendix.proofs.indexed_rules.IndexedRules.add.Goals as goal

pub renew-requires : goal.renew-requires
renew-requires c = λ empty.
    let none : length c.in-Ok.gone.items ≡ 0 = grind (arith, c.is_empty-one_more.ensures, empty) in (
      c.self.inside.kept,
      (c.args.left, c.args.right),
      c.in-Ok.ensures.kept
          ∙ ap (λ (rs : List (Word × Word)). rs ++ (c.args.left, c.args.right) ∷ [])
          (none_gone (λ q. stands_in c.args.left q.0) c.self.inside.kept (sym c.in-Ok.ensures.gone ∙ nil_from_length c.in-Ok.gone.items none)),
      c.self.invariant,
    )
