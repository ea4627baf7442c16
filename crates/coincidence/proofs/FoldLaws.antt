-- The loop that folds a graph.
use Rattle.std.proofs.Common.{◌≡◌, ℕ, ◌<◌, List, [], refl, sym, ◌∙◌, ap₂, arith, ◌⊎◌, inl, inr, Option, Some, None, length, replicate, get_or}
use Rattle.std.proofs.lemmas.List.{length-replicate}
use Rattle.std.proofs.lemmas.List.Elements.{All-replicate}
use Rattle.theory.specs.Graph.{Graph, target, IsGraph}
use Rattle.cells.specs.Rows.{IsPut}
use Rattle.cells.proofs.EntryLaws.{entry_put, put_cases, target_bare}
use Rattle.word_graph.specs.Edges.{with_edge}
use Rattle.coincidence.specs.Closing.{IsEdged}
use Rattle.word_graph.specs.Walk.{IsBefore}
use Rattle.word_graph.proofs.WalkLaws.{some_same}
use Rattle.coincidence.specs.Merging.{IsFoldedUpTo}

pub bare_upto : (k : ℕ) (old : Graph) (class : List ℕ) → 0 < length old → IsFoldedUpTo k old class (replicate (length old) (replicate k None)) 0 0
bare_upto k old class h =
    record {
      graph = record {
        rooted = omega (arith, length-replicate {A = List (Option ℕ)} (length old) (replicate k None));
        width = All-replicate (λ row. length row ≡ k) (length old) (replicate k None) (length-replicate k None);
        nodes = λ n b t e. absurd (none n b t e);
      };
      nodes = length-replicate (length old) (replicate k None);
      edge = λ p b m before e. absurd (nothing p b before);
      back = λ c b t e. absurd (none c b t e);
    }
  where
    none : (n b t : ℕ) → target (replicate (length old) (replicate k None)) n b ≡ Some t → ⊥
    none n b t e = let e' : None ≡ Some t = sym (target_bare (length old) k n b) ∙ e in cc

    nothing : (p b : ℕ) → IsBefore p b 0 0 → ⊥
    nothing p b (inl h) = absurd (omega arith)
    nothing p b (inr h) = absurd (omega (arith, h.1))

-- adding a missing edge
pub edged_with : (g : Graph) (j a m : ℕ) → j < length g → a < length (get_or g j []) → target g j a ≡ None → IsEdged g (with_edge g j a m) j a m
edged_with g j a m hj ha none = record { edge = put.put; kept = kept; back = back }
  where
    put : IsPut g (with_edge g j a m) j a (Some m)
    put = entry_put g j a (Some m) hj ha

    kept : (n b t : ℕ) → target g n b ≡ Some t → target (with_edge g j a m) n b ≡ Some t
    kept n b t e =
        put.other n b (λ both. let e' : None ≡ Some t = sym none ∙ ap₂ (λ (x y : ℕ). target g x y) (sym both.0) (sym both.1) ∙ e in let no : ⊥ = cc in no) ∙ e

    back : (n b t : ℕ) → target (with_edge g j a m) n b ≡ Some t → (target g n b ≡ Some t) ⊎ ((n ≡ j) × (b ≡ a) × (t ≡ m))
    back = put_cases (λ n b x. (t : ℕ) → x ≡ Some t → (target g n b ≡ Some t) ⊎ ((n ≡ j) × (b ≡ a) × (t ≡ m))) g _ j a (Some m) put
        (λ t e. inr (refl, refl, some_same t m (sym e))) (λ n b d t e. inl e)

-- a graph has one width
pub width_is : (k l : ℕ) (g : Graph) → IsGraph k g → IsGraph l g → k ≡ l
width_is k l g p q = sym (p.width 0 [] p.rooted) ∙ q.width 0 [] q.rooted
