use Rattle.std.proofs.Common.{◌≤◌, List, length, subst}
use Rattle.std.specs.List.{All}
use Rattle.theory.specs.Word.{Word}
use Rattle.knuth_bendix.proofs.Turns.{ends_tested}
use Rattle.knuth_bendix.proofs.completions.ends.Goals as goal

pub returns : goal.returns
returns c =
    let Short : List (Word × Word) → Type 0 = λ rs. All (λ r. (length r.0 ≤ c.args.length) × (length r.1 ≤ c.args.length)) rs in
    ends_tested c.args.presentation.now.presentation c.args.length c.args.rules.now c.requires
    (subst Short c.relations.ensures.relations (c.are_short.ensures.0 c.if-not-are_short.false))
    c.in_ok-joined.joined c.in_ok-joined.ensures
