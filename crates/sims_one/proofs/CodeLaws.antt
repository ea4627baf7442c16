-- Targets that stand in bytes.
use Rattle.std.proofs.Common.{◌≡◌, ℕ, zero, suc, ◌<◌, ◌≤◌, List, ◌∷◌, length, map, get_or, replicate, Option, None, Some, set, refl, sym, ◌∙◌, ap}
use Rattle.std.proofs.lemmas.Bool.{cond_below, cond_above}
use Rattle.std.proofs.lemmas.List.{map-set, get_or-map}
use Rattle.sims_one.specs.Codes.{node_of, code_of}

-- what codes stand for
pub is_node : (code : ℕ) → code < 17 → node_of code ≡ Some code
is_node code h = sym (cond_below code 17 (Some code) None h)

pub is_none : (code : ℕ) → 17 ≤ code → node_of code ≡ None
is_none code h = sym (cond_above code 17 (Some code) None None h refl)

-- no target is known
pub nodes_none : (n : ℕ) → map node_of (replicate n 17) ≡ replicate n None
nodes_none zero = refl
nodes_none (suc n) = ap (λ (targets : List (Option ℕ)). None ∷ targets) (nodes_none n)

pub codes_none : (n : ℕ) → map code_of (map node_of (replicate n 17)) ≡ replicate n 17
codes_none zero = refl
codes_none (suc n) = ap (λ (codes : List ℕ). 17 ∷ codes) (codes_none n)

-- a node that is put at a place
pub nodes_put : (codes : List ℕ) (place node : ℕ) → node < 17 → map node_of (set codes place node) ≡ set (map node_of codes) place (Some node)
nodes_put codes place node h = map-set node_of codes place node ∙ ap (set (map node_of codes) place) (is_node node h)

pub codes_put : (codes : List ℕ) (place node : ℕ) → node < 17 → map code_of (map node_of codes) ≡ codes
    → map code_of (map node_of (set codes place node)) ≡ set codes place node
codes_put codes place node h again =
    ap (map code_of) (nodes_put codes place node h) ∙ map-set code_of (map node_of codes) place (Some node)
    ∙ ap (λ (xs : List ℕ). set xs place node) again

-- the node at a place
pub node_at : (codes : List ℕ) (targets : List (Option ℕ)) (place : ℕ) → map node_of codes ≡ targets → place < length codes
    → node_of (get_or codes place 0) ≡ get_or targets place None
node_at codes targets place is inside = sym (get_or-map node_of codes place 0 None inside) ∙ ap (λ (ts : List (Option ℕ)). get_or ts place None) is

-- none is put at a place
pub nodes_clear : (codes : List ℕ) (place : ℕ) → map node_of (set codes place 17) ≡ set (map node_of codes) place None
nodes_clear codes place = map-set node_of codes place 17

pub codes_clear : (codes : List ℕ) (place : ℕ) → map code_of (map node_of codes) ≡ codes → map code_of (map node_of (set codes place 17)) ≡ set codes place 17
codes_clear codes place again =
    ap (map code_of) (nodes_clear codes place) ∙ map-set code_of (map node_of codes) place None ∙ ap (λ (xs : List ℕ). set xs place 17) again
