use Rattle.std.proofs.Common.{◌≡◌, ℕ, ◌<◌, Bool, true, false, List, length, get_or, sym, ◌∙◌, subst, arith}
use Rattle.std.specs.Prelude.{Option, None}
use Rattle.std.proofs.lemmas.List.{get_or_read}
use Rattle.elements.specs.Fields.{IsBelow}
use Rattle.elements.proofs.Marks.{marks_again}
use Rattle.elements.proofs.pperm.first_repeat.Goals as goal

pub returns-then-index : goal.returns-then-index
returns-then-index c =
    let images : List (Option ℕ) = c.args.images.now in
    let seen : List Bool = c.loop-i.seen.items in
    let y : ℕ = c.in-Some.y in
    let within : y < length images = subst (IsBelow (length images)) c.in-Some.is (c.requires c.loop-i.i None c.loop-i-test.true) in
    let in_seen : y < length seen = omega (arith, c.loop-i.invariant.sized) in
    let marked : get_or seen y false ≡ true = sym (get_or_read seen y c.index.result.now in_seen c.index.ensures false) ∙ c.if-index.true in
    marks_again images seen c.loop-i.i c.loop-i.invariant y c.in-Some.is marked
