-- What is known of the tables behind a list of targets.
use Rattle.std.proofs.Common.{◌≡◌, ℕ, suc, ◌≤◌, max, List, [], ◌∷◌, ◌++◌, length, slice_get, true, false, Some, sym, ◌∙◌, ap, subst, arith, append_assoc, refl}
use Rattle.theory.specs.Congruence.{Presentation}
use Rattle.word_graph.proofs.NumberLaws.{max_append}
use Rattle.sims_one.specs.declared.known.Known.{Known}
use Rattle.sims_one.specs.Targets.{seen, IsTable, IsWithin, IsBeyond}
use Rattle.sims_one.specs.Known.{HasEdges, HasKnown, Extends, IsKnown}
use Rattle.sims_one.specs.Search.{NoneWithin}
use Rattle.sims_one.proofs.FrontLaws.{seen_more}

-- the target behind t
get_behind : (t : List ℕ) (m : ℕ) (rest : List ℕ) → slice_get (t ++ m ∷ rest) (length t) ≡ Some m
get_behind [] m rest = refl
get_behind (x ∷ t) m rest = get_behind t m rest

pub target_beyond : (t : List ℕ) (first : ℕ) (u : List ℕ) → (b : IsBeyond t first u) → slice_get u (length t) ≡ Some b.target
target_beyond t first u b = subst (λ (xs : List ℕ). slice_get xs (length t) ≡ Some b.target) (sym b.is) (get_behind t b.target b.rest)

target_pushed : (t : List ℕ) (m : ℕ) (u : List ℕ) → IsWithin (t ++ m ∷ []) u → slice_get u (length t) ≡ Some m
target_pushed t m u w =
    let e : u ≡ t ++ m ∷ w.rest = w.is ∙ append_assoc t (m ∷ []) w.rest in
    subst (λ (xs : List ℕ). slice_get xs (length t) ≡ Some m) (sym e) (get_behind t m w.rest)

within_front : (t : List ℕ) (m : ℕ) (u : List ℕ) → IsWithin (t ++ m ∷ []) u → IsWithin t u
within_front t m u w = record { rest = m ∷ w.rest; is = w.is ∙ append_assoc t (m ∷ []) w.rest }

pub seen_push : (t : List ℕ) (m : ℕ) → seen (t ++ m ∷ []) ≡ max (seen t) (suc m)
seen_push t m = let h = max_append 0 t (m ∷ []) in omega (arith, h)

module _ (p : Presentation) (n : ℕ) (t : List ℕ) (known : Known) (is : IsKnown p n t known) where
  pub fits : (u : List ℕ) → IsTable p n u → IsWithin t u → HasKnown known u
  fits u table w = record {
    nodes = let more = subst (λ (xs : List ℕ). seen t ≤ seen xs) (sym w.is) (seen_more t w.rest) in omega (arith, is.nodes, more);
    edges = is.edges u table w;
  }

  pub known_push : (m place : ℕ) (new : Known) → place ≡ length t → new.nodes ≡ max known.nodes (suc m) → Extends p known place m new true → IsKnown p n (t ++ m ∷ []) new
  known_push m place new here nodes extends = record {
    nodes = omega (arith, nodes, is.nodes, seen_push t m);
    edges = λ u table w.
        let at : slice_get u place ≡ Some m = ap (slice_get u) here ∙ target_pushed t m u w in
        ((extends n u table (fits u table (within_front t m u w)) at).1).edges;
  }

  pub known_fails : (m place : ℕ) (new : Known) → place ≡ length t → Extends p known place m new false → NoneWithin p n (t ++ m ∷ [])
  known_fails m place new here extends u table w =
      let at : slice_get u place ≡ Some m = ap (slice_get u) here ∙ target_pushed t m u w in
      let f : false ≡ true = (extends n u table (fits u table (within_front t m u w)) at).0 in
      cc

pub known_start : (p : Presentation) (n : ℕ) (known : Known) → known.nodes ≡ 1 → ((u : List ℕ) → HasEdges known.targets u) → IsKnown p n [] known
known_start p n known nodes edges = record { nodes = nodes; edges = λ u table w. edges u }
