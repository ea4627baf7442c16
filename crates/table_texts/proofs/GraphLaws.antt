-- What is read is a graph.
use Rattle.std.proofs.Common.{◌≡◌, ℕ, zero, suc, ◌+◌, ◌*◌, ◌<◌, List, [], ◌∷◌, length, map, get_or, slice_get, Option, Some, None, refl, arith, inl, inr, min, ◌==◌, nat_lt, if◌then◌else◌, option_and_then}
use Rattle.std.specs.Option.{unwrap_or}
use Rattle.std.proofs.lemmas.List.{length-map}
use Rattle.std.proofs.lemmas.Bool.{cases_lt, cases_eq}
use Rattle.theory.specs.Graph.{target, IsGraph}
use Rattle.std.proofs.lemmas.List.Splits.{length-slice_split}
use Rattle.std.proofs.lemmas.Option.{slice_get-get_or}
use Rattle.table_texts.specs.TableText.{IsFaultAt, table_read, rows_cut, fields_cut, row_read, target_read, number_of}

-- tables with no fault are graphs
module _ (k : ℕ) (text : List ℕ) (good : (place : ℕ) → IsFaultAt k (table_read text) place → ⊥) where
  pieces_some : 0 < length (rows_cut text)
  pieces_some = omega (arith, length-slice_split (λ b. b == 47) text)

  read_width : (i : ℕ) (d : List (Option ℕ)) → i < length (table_read text) → length (get_or (table_read text) i d) ≡ k
  read_width i d h = elim (cases_eq (length (get_or (table_read text) i d)) k) [
    | inl e ↦ e
    | inr n ↦ absurd (good (i * k + min (length (get_or (table_read text) i d)) k) (inr (inl (record {
      row = i;
      fields = get_or (table_read text) i d;
      row_is = slice_get-get_or (table_read text) i d h;
      bad = n;
      place_is = refl;
    }))))
  ]

  number_within : (n m : ℕ) (o : Option ℕ) → option_and_then (λ j. if nat_lt j n then Some j else None) o ≡ Some m → m < n
  number_within n m None e = cc
  number_within n m (Some j) e = elim (cases_lt j n) [ inl h ↦ grind (arith, h, e) | inr h ↦ grind (arith, h, e) ]

  row_nodes : (n : ℕ) (fields : List (List ℕ)) (letter next : ℕ) → unwrap_or (slice_get (map (target_read n) fields) letter) None ≡ Some next → next < n
  row_nodes n [] letter next e = cc
  row_nodes n (f ∷ fields) zero next e = number_within n next (number_of f) e
  row_nodes n (f ∷ fields) (suc letter) next e = row_nodes n fields letter next e

  nodes_in : (n : ℕ) (pieces : List (List ℕ)) (node letter next : ℕ) → target (map (row_read n) pieces) node letter ≡ Some next → next < n
  nodes_in n [] node letter next e = cc
  nodes_in n (p ∷ pieces) zero letter next e = row_nodes n (fields_cut p) letter next e
  nodes_in n (p ∷ pieces) (suc node) letter next e = nodes_in n pieces node letter next e

  pub read_graph : IsGraph k (table_read text)
  read_graph = record {
    rooted = omega (arith, length-map (rows_cut text) (row_read (length (rows_cut text))), pieces_some);
    width = read_width;
    nodes = λ node letter next e. omega (arith, length-map (rows_cut text) (row_read (length (rows_cut text))), nodes_in (length (rows_cut text)) (rows_cut text) node letter next e);
  }
