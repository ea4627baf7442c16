use Rattle.std.proofs.Common.{◌≡◌, ◌-◌, refl, sym, ◌∙◌, subst, take, Some}
use Rattle.theory.specs.Graph.{path}
use Rattle.coincidence.proofs.DueLaws.{split_last, from_nothing, reads}
use Rattle.coincidence.proofs.reads.due_to.Goals as goal

pub returns-then-t-end : goal.returns-then-t-end
returns-then-t-end c = λ node other there here.
    let cut = split_last c.args.side.now c.len-count.result c.letter-last.result (sym c.len-count.ensures) c.if-count-eq0.false c.letter-last.ensures in
    let first : path c.args.edges.now.graph node other ≡ Some c.in-Some.end = sym there ∙ c.in-Some.is in
    let front : path c.args.edges.now.graph node (take (c.len-count.result - 1) c.args.side.now) ≡ Some c.args.at = subst (λ n. path c.args.edges.now.graph node (take (n - 1) c.args.side.now) ≡ Some c.args.at) (sym c.len-count.ensures) here in
    from_nothing _ _ _ _ _ _ _ _ _ cut first front (sym c.target.ensures ∙ c.in-Some-target.is) c.if-t-end.true

pub returns-in-None : goal.returns-in-None
returns-in-None c = λ node other there here.
    let cut = split_last c.args.side.now c.len-count.result c.letter-last.result (sym c.len-count.ensures) c.if-count-eq0.false c.letter-last.ensures in
    let first : path c.args.edges.now.graph node other ≡ Some c.in-Some.end = sym there ∙ c.in-Some.is in
    let front : path c.args.edges.now.graph node (take (c.len-count.result - 1) c.args.side.now) ≡ Some c.args.at = subst (λ n. path c.args.edges.now.graph node (take (n - 1) c.args.side.now) ≡ Some c.args.at) (sym c.len-count.ensures) here in
    (reads _ _ _ _ _ _ _ _ _ cut first front refl, sym c.target.ensures ∙ c.in-None.is)

pub returns-else-t-end : goal.returns-else-t-end
returns-else-t-end c = λ node other there here.
    let cut = split_last c.args.side.now c.len-count.result c.letter-last.result (sym c.len-count.ensures) c.if-count-eq0.false c.letter-last.ensures in
    let first : path c.args.edges.now.graph node other ≡ Some c.in-Some.end = sym there ∙ c.in-Some.is in
    let front : path c.args.edges.now.graph node (take (c.len-count.result - 1) c.args.side.now) ≡ Some c.args.at = subst (λ n. path c.args.edges.now.graph node (take (n - 1) c.args.side.now) ≡ Some c.args.at) (sym c.len-count.ensures) here in
    (reads _ _ _ _ _ _ _ _ _ cut first front refl, sym c.target.ensures ∙ c.in-Some-target.is, c.if-t-end.false)
