use Rattle.std.proofs.Common.{◌≡◌, ℕ, false, true, Option, Some, List, get_or, ◌∙◌, sym, ap, subst, arith}
use Rattle.std.proofs.lemmas.List.{get_or_read}
use Rattle.theory.specs.Word.{Word}
use Rattle.theory.specs.ShortLex.{◌≺◌}
use Rattle.coincidence.specs.Live.{IsOn}
use Rattle.coincidence.specs.Marks.{IsLeastUnmarked}
use Rattle.coincidence.proofs.MarkLaws.{first_gives_way, not_before}
use Rattle.coincidence.proofs.marks.lesser_unmarked.Goals as goal

pub returns-else-is_lt : goal.returns-else-is_lt
returns-else-is_lt c =
    let least : List (ℕ × Word) = c.args.least.now.items in
    let marked = c.args.marked.now.items in
    let first : IsLeastUnmarked least marked c.args.place (Some c.in-Some.before) = subst (λ (o : Option ℕ). IsLeastUnmarked least marked c.args.place o) c.in-Some.is c.requires.first in
    let room = c.requires.nodes c.args.place c.index.result.now c.requires.place in
    let off : (d : ℕ × Word) → IsOn marked (get_or least c.args.place d).0 → ⊥ =
    λ d on.
    let node : c.index.result.now ≡ get_or least c.args.place d = get_or_read least c.args.place c.index.result.now c.requires.place c.index.ensures d in
    let is : c.index-2.result.now ≡ true = get_or_read marked c.index.result.now.0 c.index-2.result.now (omega (arith, room, ap (λ (p : ℕ × Word). p.0) c.index.ensures)) c.index-2.ensures false ∙ ap (λ (p : ℕ × Word). get_or marked p.0 false) node ∙ on in
    let no : false ≡ true = sym c.if-index.false ∙ is in
    let none : ⊥ = cc in none in
    let later : (d : ℕ × Word) → (get_or least c.in-Some.before d).1 ≺ (get_or least c.args.place d).1 → ⊥ =
    λ d less.
    let one = ap (λ (p : ℕ × Word). p.1) (get_or_read least c.in-Some.before c.index-3.result.now (omega (arith, first.0, c.requires.place)) c.index-3.ensures d) in
    let other = ap (λ (p : ℕ × Word). p.1) (get_or_read least c.args.place c.index-4.result.now c.requires.place c.index-4.ensures d) in
    not_before c.index-3.result.now.1 c.index-4.result.now.1 c.shortlex.result c.is_lt.result c.shortlex.ensures c.is_lt.ensures c.if-is_lt.false (subst (λ u. u ≺ c.index-4.result.now.1) (sym one) (subst (λ v. (get_or least c.in-Some.before d).1 ≺ v) (sym other) less)) in
    first_gives_way least marked c.args.place c.in-Some.before first off later
