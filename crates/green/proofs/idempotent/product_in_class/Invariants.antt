use Rattle.std.proofs.Common.{◌≡◌, ℕ, suc, ◌<◌, length, reverse, IfSome, Option, None, Some}
use Rattle.theory.specs.Green.{follow, IsEdge, Reaches}
use Rattle.froidure_pin.specs.Found.{word_or_none}
use Rattle.cayley.specs.Tables.{edge}
use Rattle.green.specs.Related.{product_in}
use Rattle.green.proofs.idempotent.product_in_class.Given as goal

abbrev pub invariant-loop-rest : goal.invariant-loop-rest
invariant-loop-rest l = record {
  at : l.at < length l.tables.words;
  within : IfSome l.rest (λ place. place < length l.tables.words);
  same : follow (edge l.tables.left) l.at (reverse (word_or_none l.tables.words l.rest)) ≡ product_in l.tables l.first l.second;
  reached : Reaches (IsEdge (length l.tables.letters) (edge l.tables.left)) l.second l.at;
}

abbrev still : Option ℕ → ℕ
still None = 0
still (Some place) = suc place

abbrev pub decreases-loop-rest : goal.decreases-loop-rest
decreases-loop-rest l = still l.rest
