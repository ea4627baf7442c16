use Rattle.std.proofs.Common.{List, ℕ, arith}
use Rattle.ports.proofs.BytesLemmas.{GaveOver-append, GaveUpTo-append}
use Rattle.ports.proofs.read.read_all.Goals as goal

pub returns-then-n-limit-clause-too_long : goal.returns-then-n-limit-clause-too_long
returns-then-n-limit-clause-too_long g c _ =
    let xs : List ℕ = c.loop-bytes.bytes.items in
    let read = c.in_ok-n.ensures in
    GaveOver-append _ _ (g.S.Source.left c.loop-bytes.source) _ xs c.in_ok-n.n c.read.new.buf
    c.loop-bytes.invariant.gave read.bytes.0 read.within
    (omega (arith, c.if-n-limit.true, c.len.ensures))

pub returns-in_err-extend_from_slice-clause-refused_within :
    goal.returns-in_err-extend_from_slice-clause-refused_within
returns-in_err-extend_from_slice-clause-refused_within g c _ =
    let xs : List ℕ = c.loop-bytes.bytes.items in
    let read = c.in_ok-n.ensures in
    GaveUpTo-append _ _ (g.S.Source.left c.loop-bytes.source) _ xs c.in_ok-n.n c.read.new.buf
    c.loop-bytes.invariant.gave read.bytes.0 read.within
    (omega (arith, c.if-n-limit.false, c.len.ensures, c.loop-bytes.invariant.within))
