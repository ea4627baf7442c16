use Rattle.std.proofs.Common.{◌-◌, arith}
use Rattle.problem.specs.Problem.{SameClassOf, count_of, has_empty_word}
use Rattle.congruence_classes.proofs.AnswerLaws.{first_within, has_index}
use Rattle.congruence_classes.proofs.listing.index_in.Goals as goal

pub overflow_sub-count : goal.overflow_sub-count
overflow_sub-count g c =
    let p = c.args.problem.now in
    omega (arith, c.first_class.ensures, c.count.ensures, first_within (SameClassOf p) (has_empty_word p) (count_of p) (g.L.ListedClasses.list c.args.classes.now) c.requires)

pub returns-then-count-bound : goal.returns-then-count-bound
returns-then-count-bound g c =
    let p = c.args.problem.now in (
      has_index (SameClassOf p) (has_empty_word p) (count_of p) (g.L.ListedClasses.list c.args.classes.now) c.requires
          (c.count.result - c.first_class.result) (omega (arith, c.count.ensures, c.first_class.ensures)),
      c.if-count-bound.true,
    )

pub returns-else-count-bound : goal.returns-else-count-bound
returns-else-count-bound g c =
    let p = c.args.problem.now in (
      c.count.result - c.first_class.result,
      has_index (SameClassOf p) (has_empty_word p) (count_of p) (g.L.ListedClasses.list c.args.classes.now) c.requires
          (c.count.result - c.first_class.result) (omega (arith, c.count.ensures, c.first_class.ensures)),
      c.if-count-bound.false,
    )
