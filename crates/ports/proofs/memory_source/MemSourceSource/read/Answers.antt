use Rattle.std.proofs.Common.{◌≡◌, ℕ, ◌+◌, ◌-◌, take, drop, arith, sym, ap, ◌∙◌}
use Rattle.std.proofs.Math.ListN.{drop_of_length-le}
use Rattle.ports.proofs.BytesLemmas.{copied-piece}
use Rattle.ports.proofs.memory_source.MemSourceSource.read.Goals as goal

pub returns-clause-bytes : goal.returns-clause-bytes
returns-clause-bytes c =
    let items = c.self.inside.bytes.items in
    let read : ℕ = c.self.inside.read in
    let n : ℕ = c.min-n.result in
    let same : c.deref-2.result.now ≡ items = c.deref-2.ensures.value in
    let was = ap (λ s. s.left) c.self.view_is in (
      sym was ∙ copied-piece items c.copy_from_slice.new.self _ read n
          (c.copy_from_slice.ensures.after ∙ ap (λ t. take ((read + n) - read) (drop read t)) same)
          (omega (arith, c.min-n.ensures, c.len.ensures, c.self.invariant)),
      λ zero. sym was ∙ drop_of_length-le items
          (omega (arith, zero, c.min-n.ensures, c.min.ensures, c.len.ensures, c.self.invariant, c.requires)),
    )
