-- Words that lead to an end, letter by letter.
use Rattle.std.proofs.Common.{◌≡◌, ◌↔◌, ℕ, ◌+◌, ◌≤◌, [], ◌∷◌, length, Bool, true, false, not, refl, sym, ◌∙◌, ap, arith, Option, Some, None, option_and_then}
use Rattle.std.specs.Option.{MatchOption, is_some}
use Rattle.theory.specs.Word.{Word}
use Rattle.theory.specs.Graph.{target, path}
use Rattle.word_graph.proofs.EdgeLaws.{target_in}
use Rattle.reduced_automaton.specs.Paths.{AreIn, GoesFar, GoesOn, HasPath, Paths}
use Rattle.reduced_automaton.specs.Automaton.{Allows}

module _ (p : Paths) where
  pub goes_as : (node n m : ℕ) → n ≡ m → GoesOn p node n → GoesOn p node m
  goes_as node n m e h = record { word = h.word; long = h.long ∙ e; has = h.has }

  pub goes_path : (node : ℕ) (u : Word) → HasPath p node u → GoesOn p node (length u)
  goes_path node u h = record { word = u; long = refl; has = h }

  -- the edge of the first letter
  pub path_first : (node a : ℕ) (u : Word) → HasPath p node (a ∷ u) → (m : ℕ) × (target p.graph node a ≡ Some m) × HasPath p m u
  path_first node a u h = go (target p.graph node a) refl h.is
    where
      go : (o : Option ℕ) → target p.graph node a ≡ o → option_and_then (λ x. path p.graph x u) o ≡ Some h.end
          → (m : ℕ) × (target p.graph node a ≡ Some m) × HasPath p m u
      go None e is = cc
      go (Some m) e is = (m, e, record { over = h.over.1; end = h.end; is = is; ends = h.ends })

  pub goes_first : (node n : ℕ) → GoesOn p node (n + 1) → (a m : ℕ) × (target p.graph node a ≡ Some m) × GoesOn p m n
  goes_first node n h = go h.word h.long h.has
    where
      go : (u : Word) → length u ≡ n + 1 → HasPath p node u → (a m : ℕ) × (target p.graph node a ≡ Some m) × GoesOn p m n
      go [] e has = absurd (omega arith)
      go (a ∷ u) e has =
          let first = path_first node a u has in
          (a, first.0, first.1, record { word = u; long = omega arith; has = first.2 })

  pub far_first : (node n : ℕ) → GoesFar p node (n + 1) → (a m : ℕ) × (target p.graph node a ≡ Some m) × GoesFar p m n
  far_first node n h = go h.word h.long h.has
    where
      go : (u : Word) → n + 1 ≤ length u → HasPath p node u → (a m : ℕ) × (target p.graph node a ≡ Some m) × GoesFar p m n
      go [] e has = absurd (omega arith)
      go (a ∷ u) e has =
          let first = path_first node a u has in
          (a, first.0, first.1, record { word = u; long = omega arith; has = first.2 })

  pub far_less : (node n m : ℕ) → m ≤ n → GoesFar p node n → GoesFar p node m
  far_less node n m less h = record { word = h.word; long = omega (arith, h.long); has = h.has }

  module _ (graph : AreIn p) where
    -- a word behind an edge
    pub path_behind : (node a m : ℕ) (u : Word) → target p.graph node a ≡ Some m → HasPath p m u → HasPath p node (a ∷ u)
    path_behind node a m u e h =
        record {
          over = ((target_in p.letters p.graph graph node a m e).1, h.over);
          end = h.end;
          is = ap (λ (o : Option ℕ). option_and_then (λ x. path p.graph x u) o) e ∙ h.is;
          ends = h.ends;
        }

    pub goes_behind : (node a m n : ℕ) → target p.graph node a ≡ Some m → GoesOn p m n → GoesOn p node (n + 1)
    goes_behind node a m n e h =
        record { word = a ∷ h.word; long = omega (arith, h.long); has = path_behind node a m h.word e h.has }

    pub far_behind : (node a m n : ℕ) → target p.graph node a ≡ Some m → GoesFar p m n → GoesFar p node (n + 1)
    far_behind node a m n e h =
        record { word = a ∷ h.word; long = omega (arith, h.long); has = path_behind node a m h.word e h.has }

-- what allows so many letters allows fewer
pub allows_less : (o : Option ℕ) (n m : ℕ) → m ≤ n → Allows o n → Allows o m
allows_less None n m less h = tt
allows_less (Some most) n m less h = omega (arith, less, h)

-- what an answer says where it is known to be there, or not
pub some_of : {X : Type 0} (o : Option X) (P : Type 0) (Q : X → Type 0) → MatchOption o P Q → is_some o ≡ true → (x : X) × (o ≡ Some x) × Q x
some_of None P Q h e = cc
some_of (Some x) P Q h e = (x, refl, h)

pub none_of : {X : Type 0} (o : Option X) (P : Type 0) (Q : X → Type 0) → MatchOption o P Q → is_some o ≡ false → P
none_of None P Q h e = h
none_of (Some x) P Q h e = cc

-- the answer that there is one
pub some_as : {X : Type 0} (o : Option X) (P R : Type 0) (Q S : X → Type 0) → MatchOption o P Q → is_some o ≡ true → ((x : X) → Q x → S x) → MatchOption o R S
some_as None P R Q S h e on = cc
some_as (Some x) P R Q S h e on = on x h

-- a test that fails
pub not_then : (b : Bool) (P : Type 0) → (b ≡ true) ↔ P → b ≡ false → P → ⊥
not_then b P h e p = let bad : false ≡ true = sym e ∙ h.1 p in cc

-- a test whether there is none
pub none_test : (o : Option ℕ) (answer : Bool) → is_some o ≡ not answer → (answer ≡ true) ↔ (o ≡ None)
none_test None true e = (λ t. refl, λ n. refl)
none_test None false e = absurd (let no : ⊥ = cc in no)
none_test (Some x) true e = absurd (let no : ⊥ = cc in no)
none_test (Some x) false e = (λ t. absurd (let no : ⊥ = cc in no), λ n. absurd (let no : ⊥ = cc in no))
