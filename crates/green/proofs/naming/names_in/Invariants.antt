use Rattle.std.proofs.Common.{◌≡◌, ◌≢◌, ℕ, ◌<◌, [], length}
use Rattle.cayley.specs.Tables.{edge}
use Rattle.green.specs.Touring.{IsTour, state_at}
use Rattle.green.specs.declared.states.State.TheVariants.{Unseen}
use Rattle.green.proofs.naming.names_in.Given as goal

abbrev pub invariant-loop-number : goal.invariant-loop-number
invariant-loop-number l = record {
  tour : IsTour (length l.rows) l.letters (edge l.rows) l.search;
  rest : l.search.starts ≡ [];
  seen : (i : ℕ) → i < l.number → state_at l.search.states i ≢ Unseen;
}
