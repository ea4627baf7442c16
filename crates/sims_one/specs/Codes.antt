-- Codes of nodes, or of none.
use Rattle.std.specs.Prelude.{ℕ, nat_lt, cond, Option, None, Some, unwrap_or}
use Rattle.sims_one.specs.declared.paths.TheConstants.{MOST_NODES}

-- the node that a code stands for, or none
abbrev pub node_of : ℕ → Option ℕ
node_of code = cond (nat_lt code MOST_NODES) (Some code) None

-- the code of a node, or of none
abbrev pub code_of : Option ℕ → ℕ
code_of node = unwrap_or node MOST_NODES
