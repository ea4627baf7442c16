use Rattle.std.proofs.Common.{◌≡◌, ◌+◌, ◌<◌, ◌-◌, leb, leb-true, true, false, inl, inr, arith, rules}
use Rattle.std.specs.List.Sorted.{IsPartitionPoint}
use Rattle.std.proofs.lemmas.Bool.{cases_lt, leb-false}
use Rattle.std.proofs.lemmas.List.Sorted.{IsPartitionPoint-from_clause, IsPartitionedBy-leb}
use Rattle.report_lines.specs.declared.blocks.Block.{Block}
use Rattle.report_lines.specs.Blocks.{block_at, no_block}
use Rattle.report_lines.proofs.blocks.block_of.Goals as goal

-- the place behind the blocks that begin with the number or before it
the_point : (c : goal.After-partition_point)
    → IsPartitionPoint (λ (b : Block). leb b.first c.args.number ≡ true) (λ (b : Block). leb b.first c.args.number ≡ false) c.args.blocks.now c.partition_point.result
the_point c =
    IsPartitionPoint-from_clause (λ (b : Block). leb b.first c.args.number) _ _ c.partition_point.ensures.partitioned
    (IsPartitionedBy-leb (λ (b : Block). b.first) c.args.blocks.now c.args.number c.requires.order) (λ a r q k. search rules)

-- the first block does
some_before : (c : goal.After-partition_point) → 0 < c.partition_point.result
some_before c = elim (cases_lt 0 c.partition_point.result) [
  | inl some ↦ some
  | inr none ↦
      let late = leb-false (block_at c.args.blocks.now 0).first c.args.number ((the_point c).1 0 no_block (omega (arith, none)) (omega (arith, c.requires.near))) in
      absurd (omega (arith, late, c.requires.first))
]

pub overflow_sub-result : goal.overflow_sub-result
overflow_sub-result c = some_before c

pub returns : goal.returns
returns c =
    let some = some_before c in
    let bound = c.partition_point.ensures.bound in
    record {
      place = omega (arith, some, bound);
      from = leb-true (block_at c.args.blocks.now (c.partition_point.result - 1)).first c.args.number ((the_point c).0 (c.partition_point.result - 1) no_block (omega arith) (omega (arith, some)));
      next = λ less. leb-false (block_at c.args.blocks.now (c.partition_point.result - 1 + 1)).first c.args.number
          ((the_point c).1 (c.partition_point.result - 1 + 1) no_block (omega (arith, some)) less);
    }
