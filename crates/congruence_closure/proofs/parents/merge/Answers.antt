use Rattle.std.proofs.Common.{◌≡◌, ◌∙◌, ◌<◌, ap, sym, arith, length, subst}
use Rattle.congruence_closure.specs.Labels.{AreLabels}
use Rattle.congruence_closure.proofs.LabelLaws.{merged_alike}
use Rattle.congruence_closure.proofs.parents.merge.Goals as goal

pub link-requires-clause-first : goal.link-requires-clause-first
link-requires-clause-first c =
    let near : c.find_root-first.result < length c.find_root-first.new.parents.items = omega (arith, c.requires.left, c.find_root-first.ensures.within, c.find_root-first.ensures.count) in
    (omega (arith, near, c.find_root-second.ensures.count), c.find_root-second.ensures.tops c.find_root-first.result near c.find_root-first.ensures.top)

pub returns-clause-merged : goal.returns-clause-merged
returns-clause-merged c = λ yes label l.
    let one = c.find_root-first.ensures.labels label l in
    let two = c.find_root-second.ensures.labels label one in
    let first : c.find_root-first.result ≡ label c.args.left = c.find_root-first.ensures.root label l in
    let second : c.find_root-second.result ≡ label c.args.right = c.find_root-second.ensures.root label one in
    merged_alike label c.link.new.parents.items c.args.left c.args.right c.find_root-first.result c.find_root-second.result (ap label first ∙ l.own c.args.left) (ap label second ∙ l.own c.args.right)
    (c.link.ensures.merged yes label two (ap label first ∙ l.own c.args.left ∙ sym first) (ap label second ∙ l.own c.args.right ∙ sym second))

pub returns-clause-same : goal.returns-clause-same
returns-clause-same c = λ no label l.
    let one = c.find_root-first.ensures.labels label l in
    let two = c.find_root-second.ensures.labels label one in
    let same = c.link.ensures.same no in
    (subst (λ xs. AreLabels label xs) (sym same.0) two, sym (c.find_root-first.ensures.root label l) ∙ same.1 ∙ c.find_root-second.ensures.root label one)
