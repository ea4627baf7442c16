-- Coset tables, as contracts see them.
use Rattle.std.specs.Prelude.{◌≡◌, ℕ, Bool, true, false, List, [], ◌∷◌, ◌++◌, length, cond, replicate, None}
use Rattle.theory.specs.Congruence.{Congruence, IsWellFormed}
use Rattle.theory.specs.Graph.{Graph, IsGraph}
use Rattle.word_graph.specs.Edges.{with_edge, with_node}
use Rattle.coincidence.specs.Holding.{HoldWhere}
use Rattle.coincidence.specs.Links.{Links, IsSources}
use Rattle.coincidence.specs.Live.{IsOn, IsLiveGraph}
use Rattle.coincidence.specs.Cosets.{IsWhole}
use Rattle.coincidence.specs.declared.cosets.Cosets.{Cosets}

-- what it was made for, a row for each node, the lists of sources, which nodes are live and which
-- marked, and whether memory was wanting
pub record CosetTable : Type 0 where
  pub congruence : Congruence
  pub graph : Graph
  pub firsts : Graph
  pub nexts : Graph
  pub live : List Bool
  pub marked : List Bool
  pub failed : Bool

-- its edges with the lists of their sources
abbrev pub links_of : CosetTable → Links
links_of t = record { graph = t.graph; firsts = t.firsts; nexts = t.nexts }

-- the live nodes are those that are reached, only they are marked, and each node has a list of
-- sources for each letter
pub record IsTable (t : CosetTable) : Type 0 where
  pub congruence : IsWellFormed t.congruence
  pub graph : IsGraph t.congruence.presentation.letters t.graph
  pub live : IsLiveGraph t.graph t.live
  pub shape : length t.marked ≡ length t.graph
  pub marked : t.failed ≡ false → (n : ℕ) → IsOn t.marked n → IsOn t.live n
  pub sources : t.failed ≡ false
      → (node letter : ℕ) → (list : List ℕ) × IsSources (links_of t) node letter list

-- the root alone, without edges
abbrev pub bare : Congruence → Graph
bare c = replicate c.presentation.letters None ∷ []

-- what contracts see: once memory was wanting, the root alone
abbrev pub shown : Congruence → Bool → Cosets → CosetTable
shown c failed t = record {
  congruence = c;
  graph = cond failed (bare c) t.edges.graph;
  firsts = cond failed (bare c) t.edges.firsts;
  nexts = cond failed (bare c) t.edges.nexts;
  live = cond failed (true ∷ []) t.live.items;
  marked = cond failed (false ∷ []) t.marked.items;
  failed = failed;
}

-- the cosets show a table, and are whole unless memory was wanting
pub record IsHeld (c : Congruence) (failed : Bool) (t : Cosets) : Type 0 where
  pub table : IsTable (shown c failed t)
  pub whole : failed ≡ false → IsWhole c t

abbrev pub IsLive : CosetTable → ℕ → Type 0
IsLive t n = IsOn t.live n

-- the relations hold at each marked node
abbrev pub HoldWhereMarked : CosetTable → Type 0
HoldWhereMarked t = HoldWhere t.congruence.presentation.relations t.graph t.marked

-- new is old with an edge of the letter from the node to a new node, and nothing else
pub record IsDefined (old new : CosetTable) (node letter made : ℕ) : Type 0 where
  pub congruence : new.congruence ≡ old.congruence
  pub fresh : made ≡ length old.graph
  pub graph : new.graph ≡ with_edge
      (with_node old.congruence.presentation.letters old.graph) node letter made
  pub live : new.live ≡ old.live ++ true ∷ []
  pub marked : new.marked ≡ old.marked ++ false ∷ []
  pub failed : new.failed ≡ false

-- new is old with an edge of the letter from the one node to the other, and nothing else
pub record IsDrawn (old new : CosetTable) (node letter to : ℕ) : Type 0 where
  pub congruence : new.congruence ≡ old.congruence
  pub graph : new.graph ≡ with_edge old.graph node letter to
  pub live : new.live ≡ old.live
  pub marked : new.marked ≡ old.marked
  pub failed : new.failed ≡ false
