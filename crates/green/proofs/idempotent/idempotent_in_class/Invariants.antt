use Rattle.std.proofs.Common.{◌≡◌, ℕ, suc, ◌<◌}
use Rattle.green.specs.Related.{product_in}
use Rattle.green.proofs.FiniteLaws.{times}
use Rattle.green.proofs.idempotent.idempotent_in_class.Given as goal

abbrev pub invariant-loop : goal.invariant-loop
invariant-loop l = record {
  power : l.power ≡ times (product_in l.tables l.number) l.counter l.number;
  never : (s : ℕ) → s < l.counter → times (product_in l.tables l.number) (suc s) l.number ≡ l.number → ⊥;
}
