-- The rows of the Cayley graphs.
use Rattle.std.proofs.Common.{◌≡◌, ℕ, ◌+◌, ◌++◌, ◌<◌, List, [], length, get_or, take, Ok, Err, sym, ap, subst₂, ◌∙◌, arith}
use Rattle.std.specs.List.{flat_map, range_with_len}
use Rattle.std.proofs.lemmas.List.FromFn.{length-range_with_len, get_or-range_with_len}
use Rattle.std.proofs.lemmas.List.{append_assoc}
use Rattle.ports.specs.declared.sink.Sink.{Ghosts}
use Rattle.ports.specs.declared.fault.WriteFault.{WriteFault}
use Rattle.ports.specs.Writes.{WritesBytes}
use Rattle.ports.proofs.WriteLemmas.{same_bytes}
use Rattle.froidure_pin.specs.declared.tables.CayleyTables.{CayleyTables}
use Rattle.theory.specs.Word.{Word, IsOver}
use Rattle.cayley.specs.Tables.{AreEdges, edge}
use Rattle.problem.specs.declared.kinds.Problem.{Problem}
use Rattle.problem.specs.Problem.{SameValueOf, letters_of, count_of}
use Rattle.element_tables.specs.CayleyGraphs.{AreTablesFor}
use Rattle.element_tables.proofs.Elements.{listed_least, value_over}
use Rattle.report_lines.specs.Lines.{cayley_line, numbers_text}
use Rattle.report_lines.proofs.ListingLemmas.{more_lines, line_begun}

-- the row of an element
abbrev pub row_line : Problem → CayleyTables → ℕ → List ℕ
row_line p t i = cayley_line (letters_of p) (count_of p) i (get_or t.words i []) (edge t.right i) (edge t.left i)

-- the texts of a row, as they are put into a line
pub row_texts : (a b c d e f g h l1 l2 l3 l4 : List ℕ) → l1 ≡ [] → l2 ≡ l1 ++ (a ++ (b ++ c)) → l3 ≡ l2 ++ (d ++ e) → l4 ≡ l3 ++ (f ++ g)
    → l4 ++ h ≡ a ++ (b ++ (c ++ (d ++ (e ++ (f ++ (g ++ h))))))
row_texts a b c d e f g h l1 l2 l3 l4 p1 p2 p3 p4 = rw (p4, p3, p2, p1) (simp append_assoc)

module _ (p : Problem) (t : CayleyTables) (tables : AreTablesFor p t) (i : ℕ) (within : i < length t.words) where
  -- the word of an element is over the letters
  pub row_word_over : (letters : List ℕ) (w : Word) → letters ≡ letters_of p → count_of p ≡ length (letters_of p) → w ≡ get_or t.words i [] → IsOver (length letters) w
  row_word_over letters w over one_each is =
      let u : Word = get_or t.words i [] in
      let least = listed_least (SameValueOf p) t.words tables.graphs.listed i within in
      subst₂ IsOver (one_each ∙ sym (ap length over)) (sym is) (value_over p u u least.element)

  -- the numbers in a row are those of all letters
  pub row_numbers : (rows : List (List ℕ)) → AreEdges (length t.letters) (length t.words) rows
      → numbers_text (length (get_or rows i [])) (edge rows i) ≡ numbers_text (count_of p) (edge rows i)
  row_numbers rows edges = ap (λ k. numbers_text k (edge rows i)) (edges.width i within ∙ tables.letters)

module _ (f : ℕ → List ℕ) (n i : ℕ) (within : i < n) {K : Type 0} (sink : Ghosts K) (old mid : K) (before : WritesBytes sink (flat_map f (take i (range_with_len 0 n))) old mid (Ok (tt {0}))) where
  here : i ≡ get_or (range_with_len 0 n) i 0
  here = (let e : i ≡ 0 + i = omega arith in e) ∙ sym (get_or-range_with_len 0 n i 0 within)

  inside : i < length (range_with_len 0 n)
  inside = omega (arith, within, length-range_with_len 0 n)

  -- one row more
  pub more_rows : (new : K) → WritesBytes sink (f i) mid new (Ok (tt {0})) → WritesBytes sink (flat_map f (take (i + 1) (range_with_len 0 n))) old new (Ok (tt {0}))
  more_rows new row = more_lines f (range_with_len 0 n) sink i old mid before 0 new inside (same_bytes sink _ _ mid new _ (ap f here) row)

  -- a fault at the next row
  pub row_begun : (new : K) (fault : WriteFault) → WritesBytes sink {T = Unit {0}} (f i) mid new (Err fault) → WritesBytes sink {T = Unit {0}} (flat_map f (range_with_len 0 n)) old new (Err fault)
  row_begun new fault row = line_begun f (range_with_len 0 n) sink i old mid before 0 new fault inside (same_bytes sink _ _ mid new _ (ap f here) row)
