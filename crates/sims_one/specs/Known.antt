-- Edges that each table behind a front part has, known before their rows are filled.
use Rattle.std.specs.Prelude.{◌≡◌, ℕ, ◌≤◌, ◌++◌, Bool, List, Option, length, take, drop, slice_index_or, slice_get, IsTrue, None, Some}
use Rattle.theory.specs.Congruence.{Presentation}
use Rattle.sims_one.specs.declared.trail.Edge.{Edge}
use Rattle.sims_one.specs.declared.known.Mark.{Mark}
use Rattle.sims_one.specs.declared.known.Known.{Known}
use Rattle.sims_one.specs.declared.branch.Levels.{Levels}
use Rattle.sims_one.specs.Edges.{without}
use Rattle.sims_one.specs.Targets.{seen, IsTable, IsFront, AreAllowed, IsWithin}

-- the targets u have the known edges
abbrev pub HasEdges : List (Option ℕ) → List ℕ → Type 0
HasEdges known u = (place node : ℕ) → slice_index_or known place None ≡ Some node
    → slice_get u place ≡ Some node

-- the targets u have the nodes and edges that are known
pub record HasKnown (known : Known) (u : List ℕ) : Type 0 where
  pub nodes : known.nodes ≤ seen u
  pub edges : HasEdges known.targets u

-- what was known is what is known now without the edges that became known since
pub record Grows (old new : Known) : Type 0 where
  pub since : List Edge
  pub trail : new.trail ≡ old.trail ++ since
  pub targets : without new.targets since ≡ old.targets

-- a table that has what was known has what is known now, and there is none where it failed
pub record Keeps (p : Presentation) (old new : Known) (holds : Bool) : Type 0 where
  pub tables : (n : ℕ) (u : List ℕ) → IsTable p n u → HasKnown old u
      → IsTrue holds × HasKnown new u
  pub grows : Grows old new

-- the same of tables with this target at the place
abbrev pub Extends : Presentation → Known → ℕ → ℕ → Known → Bool → Type 0
Extends p old place target new holds = (n : ℕ) (u : List ℕ) → IsTable p n u → HasKnown old u
    → slice_get u place ≡ Some target → IsTrue holds × HasKnown new u

-- the nodes of t, and edges that each table behind t has
pub record IsKnown (p : Presentation) (n : ℕ) (t : List ℕ) (known : Known) : Type 0 where
  pub nodes : known.nodes ≡ seen t
  pub edges : (u : List ℕ) → IsTable p n u → IsWithin t u → HasEdges known.targets u

-- the same of what was known at the mark
pub record WasKnown (p : Presentation) (n : ℕ) (t : List ℕ) (known : Known) (mark : Mark)
    : Type 0 where
  pub nodes : mark.nodes ≡ seen t
  pub few : mark.edges ≤ length known.trail
  pub edges : (u : List ℕ) → IsTable p n u → IsWithin t u
      → HasEdges (without known.targets (drop mark.edges known.trail)) u

-- t is a front part of allowed targets, and at mark d was known what is known behind its first d
-- targets
pub record IsBranch (p : Presentation) (n : ℕ) (t : List ℕ) (levels : Levels) : Type 0 where
  pub front : IsFront p.letters t
  pub allowed : AreAllowed p n t
  pub long : length levels.marks.items ≡ length t
  pub last : IsKnown p n t levels.known
  pub marked : (d : ℕ) (mark : Mark) → slice_get levels.marks.items d ≡ Some mark
      → WasKnown p n (take d t) levels.known mark
  pub rising : (c d : ℕ) (a b : Mark) → c ≤ d → slice_get levels.marks.items c ≡ Some a
      → slice_get levels.marks.items d ≡ Some b → a.edges ≤ b.edges
