-- Two standard tables with the same equal paths are one.
use Rattle.std.proofs.Common.{◌≡◌, ℕ, zero, suc, ◌<◌, ◌≤◌, max, List, [], ◌∷◌, ◌++◌, length, map, refl, sym, ◌∙◌, ap, ap₂, subst, arith, ◌⊎◌, inl, inr, ◌↔◌, Option, Some, None, All, append_assoc, append-nil, length-append, slice_get, get_or}
use Rattle.std.specs.Option.{unwrap_or}
use Rattle.std.proofs.lemmas.Bool.{cases_lt}
use Rattle.std.proofs.lemmas.List.{get_or_at}
use Rattle.std.proofs.lemmas.List.Elements.{All-cons, All-nil}
use Rattle.theory.specs.Word.{Word}
use Rattle.theory.specs.Graph.{Graph, target, path, SameEnd}
use Rattle.theory.specs.LowIndex.{Rows, graph_of, entries, IsNumberedFrom, IsStandard}
use Rattle.theory.proofs.GraphLaws.{path_append, path_letter}
use Rattle.theory.proofs.TableLaws.{row_within, target_within}

-- the entry behind a part of a row
entry_at : (pre : List ℕ) (x : ℕ) (rest : List ℕ) → unwrap_or (slice_get (map Some (pre ++ (x ∷ rest))) (length pre)) None ≡ Some x
entry_at [] x rest = refl
entry_at (y ∷ pre) x rest = entry_at pre x rest

target_at : (done : Rows) (pre : List ℕ) (x : ℕ) (rest : List ℕ) (rows : Rows)
    → target (graph_of (done ++ ((pre ++ (x ∷ rest)) ∷ rows))) (length done) (length pre) ≡ Some x
target_at [] pre x rest rows = entry_at pre x rest
target_at (d ∷ done) pre x rest rows = target_at done pre x rest rows

-- the rows that are done say where their edges lead
target_done : (done s t : Rows) (node letter : ℕ) → node < length done
    → target (graph_of (done ++ s)) node letter ≡ target (graph_of (done ++ t)) node letter
target_done [] s t node letter h = absurd (omega arith)
target_done (d ∷ done) s t zero letter h = refl
target_done (d ∷ done) s t (suc node) letter h = target_done done s t node letter (omega arith)

-- where an edge of the row behind them leads
target_row : (done : Rows) (row : List ℕ) (rows : Rows) (letter : ℕ)
    → target (graph_of (done ++ (row ∷ rows))) (length done) letter ≡ unwrap_or (slice_get (map Some row) letter) None
target_row [] row rows letter = refl
target_row (d ∷ done) row rows letter = target_row done row rows letter

max_cases : (n m x : ℕ) → x ≤ suc m → n ≤ max m x → (n ≤ m) ⊎ (n ≡ x)
max_cases n m x h l = elim (cases_lt m n) [ inl less ↦ inr (omega arith) | inr more ↦ inl more ]

-- a table has no row more than another with the same rows before it
extra_row : (k : ℕ) (s t : Rows) → IsStandard k s → IsStandard k t → (done : Rows) (q : List ℕ) (ts : Rows) → s ≡ done ++ []
    → t ≡ done ++ (q ∷ ts) → ⊥
extra_row k s t hs ht done q ts es et =
    let size : length s ≡ length done = ap length (es ∙ append-nil done) in
    let at = ht.appears (length done) (omega (arith, hs.rooted)) (omega (arith, ap length et, length-append done (q ∷ ts))) in
    let edge : target (graph_of s) at.0 at.1 ≡ Some (length done) =
    ap (λ rows. target (graph_of rows) at.0 at.1) es ∙ target_done done [] (q ∷ ts) at.0 at.1 at.2
    ∙ sym (ap (λ rows. target (graph_of rows) at.0 at.1) et) ∙ at.3 in
    let within = target_within (length s) s at.0 at.1 (length done) hs.nodes edge in
    omega arith

width_at : (k : ℕ) (s : Rows) → IsStandard k s → (done : Rows) (r : List ℕ) (ss : Rows) → s ≡ done ++ (r ∷ ss) → length r ≡ k
width_at k s hs done r ss es =
    let one : length (get_or s (length done) []) ≡ k = hs.width (length done) [] (omega (arith, ap length es, length-append done (r ∷ ss))) in
    let row : get_or s (length done) [] ≡ r = ap (λ (rows : Rows). get_or rows (length done) []) es ∙ get_or_at done r ss [] (length done) refl in
    sym (ap length row) ∙ one

module _ (k : ℕ) (s t : Rows) (hs : IsStandard k s) (ht : IsStandard k t)
    (same : (u v : Word) → SameEnd (graph_of s) u v ↔ SameEnd (graph_of t) u v) where
  -- each node up to m is reached in both tables by one word
  abbrev AreReached : ℕ → Type 0
  AreReached m = (n : ℕ) → n ≤ m → (w : Word) × (path (graph_of s) 0 w ≡ Some n) × (path (graph_of t) 0 w ≡ Some n)

  -- what a row leaves
  record RowDone (r q : List ℕ) (ss ts : Rows) (m : ℕ) : Type 0 where
    equal : r ≡ q
    seen : ℕ
    more : m ≤ seen
    entries_seen : All (λ n. n < suc seen) r
    numbered_s : IsNumberedFrom seen (entries ss)
    numbered_t : IsNumberedFrom seen (entries ts)
    reached : (n : ℕ) → n ≤ seen → (w : Word) × (path (graph_of s) 0 w ≡ Some n) × (path (graph_of t) 0 w ≡ Some n)

  root_reached : AreReached 0
  root_reached n h = let e : n ≡ 0 = omega arith in ([], ap (λ z. Some z) (sym e), ap (λ z. Some z) (sym e))

  reach_on : (g : Graph) (w : Word) (i a x : ℕ) → path g 0 w ≡ Some i → target g i a ≡ Some x → path g 0 (w ++ a ∷ []) ≡ Some x
  reach_on g w i a x h e = path_append g 0 i w (a ∷ []) h ∙ path_letter g i a ∙ e

  some_one : (a b : ℕ) (o : Option ℕ) → o ≡ Some a → o ≡ Some b → a ≡ b
  some_one a b o h e = let d : Some a ≡ Some b = sym h ∙ e in cc

  -- the next entries are one
  entry_same : (i a x y m : ℕ) → i ≤ m → x ≤ suc m → y ≤ suc m → AreReached m → target (graph_of s) i a ≡ Some x
      → target (graph_of t) i a ≡ Some y → x ≡ y
  entry_same i a x y m hi hx hy reached ex ey =
      let at = reached i hi in
      let in_s : path (graph_of s) 0 (at.0 ++ a ∷ []) ≡ Some x = reach_on (graph_of s) at.0 i a x at.1 ex in
      let in_t : path (graph_of t) 0 (at.0 ++ a ∷ []) ≡ Some y = reach_on (graph_of t) at.0 i a y at.2 ey in
      elim (cases_lt m x) [
        | inr old ↦
            let w = reached x old in
            let both = (same (at.0 ++ a ∷ []) w.0).0 (x, in_s, w.1) in
            some_one x both.0 (path (graph_of t) 0 w.0) w.2 both.2 ∙ some_one both.0 y (path (graph_of t) 0 (at.0 ++ a ∷ [])) both.1 in_t
        | inl new ↦ elim (cases_lt m y) [
          | inr old ↦
              let w = reached y old in
              let both = (same (at.0 ++ a ∷ []) w.0).1 (y, in_t, w.2) in
              some_one x both.0 (path (graph_of s) 0 (at.0 ++ a ∷ [])) in_s both.1 ∙ some_one both.0 y (path (graph_of s) 0 w.0) both.2 w.1
          | inl fresh ↦ omega arith
        ]
      ]

  row_same : (done : Rows) (pre r q : List ℕ) (ss ts : Rows) (m : ℕ) → s ≡ done ++ ((pre ++ r) ∷ ss) → t ≡ done ++ ((pre ++ q) ∷ ts)
      → length r ≡ length q → IsNumberedFrom m (r ++ entries ss) → IsNumberedFrom m (q ++ entries ts) → length done ≤ m → AreReached m
      → RowDone r q ss ts m
  row_same done pre [] [] ss ts m es et e ns nt h reached = record {
    equal = refl;
    seen = m;
    more = omega arith;
    entries_seen = All-nil (λ n. n < suc m);
    numbered_s = ns;
    numbered_t = nt;
    reached = reached;
  }
  row_same done pre [] (y ∷ q) ss ts m es et e ns nt h reached = absurd (omega arith)
  row_same done pre (x ∷ r) [] ss ts m es et e ns nt h reached = absurd (omega arith)
  row_same done pre (x ∷ r) (y ∷ q) ss ts m es et e ns nt h reached =
      let ex : target (graph_of s) (length done) (length pre) ≡ Some x =
      ap (λ rows. target (graph_of rows) (length done) (length pre)) es ∙ target_at done pre x r ss in
      let ey : target (graph_of t) (length done) (length pre) ≡ Some y =
      ap (λ rows. target (graph_of rows) (length done) (length pre)) et ∙ target_at done pre y q ts in
      let one : x ≡ y = entry_same (length done) (length pre) x y m h ns.0 nt.0 reached ex ey in
      let rest = row_same done (pre ++ x ∷ []) r q ss ts (max m x)
      (es ∙ ap (λ (row : List ℕ). done ++ (row ∷ ss)) (sym (append_assoc pre (x ∷ []) r)))
      (et ∙ ap (λ (row : List ℕ). done ++ (row ∷ ts)) (ap (λ z. pre ++ (z ∷ q)) (sym one) ∙ sym (append_assoc pre (x ∷ []) q)))
      (omega arith) ns.1 (subst (λ z. IsNumberedFrom (max m z) (q ++ entries ts)) (sym one) nt.1) (omega arith)
      (λ n l. elim (max_cases n m x ns.0 l) [
        | inl old ↦ reached n old
        | inr e ↦
            let at = reached (length done) h in (
              at.0 ++ length pre ∷ [],
              reach_on (graph_of s) at.0 (length done) (length pre) n at.1 (ex ∙ ap (λ z. Some z) (sym e)),
              reach_on (graph_of t) at.0 (length done) (length pre) n at.2 (ey ∙ ap (λ z. Some z) (sym one ∙ sym e)),
            )
      ]) in
      record {
        equal = ap₂ (λ (z : ℕ) (zs : List ℕ). z ∷ zs) one rest.equal;
        seen = rest.seen;
        more = omega (arith, rest.more);
        entries_seen = All-cons (λ n. n < suc rest.seen) x r (omega (arith, rest.more)) rest.entries_seen;
        numbered_s = rest.numbered_s;
        numbered_t = rest.numbered_t;
        reached = rest.reached;
      }

  rows_same : (done ss ts : Rows) (m : ℕ) → s ≡ done ++ ss → t ≡ done ++ ts → IsNumberedFrom m (entries ss) → IsNumberedFrom m (entries ts)
      → ((node letter n : ℕ) → node < length done → target (graph_of s) node letter ≡ Some n → n ≤ m) → AreReached m → ss ≡ ts
  rows_same done [] [] m es et ns nt bound reached = refl
  rows_same done [] (q ∷ ts) m es et ns nt bound reached = absurd (extra_row k s t hs ht done q ts es et)
  rows_same done (r ∷ ss) [] m es et ns nt bound reached = absurd (extra_row k t s ht hs done r ss et es)
  rows_same done (r ∷ ss) (q ∷ ts) m es et ns nt bound reached =
      let row = row_same done [] r q ss ts m es et (width_at k s hs done r ss es ∙ sym (width_at k t ht done q ts et)) ns nt seen_here reached in
      let rest = rows_same (done ++ r ∷ []) ss ts row.seen
      (es ∙ sym (append_assoc done (r ∷ []) ss))
      (et ∙ ap (λ (x : List ℕ). done ++ (x ∷ ts)) (sym row.equal) ∙ sym (append_assoc done (r ∷ []) ts))
      row.numbered_s row.numbered_t (further row.seen row.more row.entries_seen) row.reached in
      ap₂ (λ (x : List ℕ) (xs : Rows). x ∷ xs) row.equal rest
    where
      seen_here : length done ≤ m
      seen_here = elim (cases_lt 0 (length done)) [
        | inl some ↦
            let at = hs.appears (length done) some (omega (arith, ap length es, length-append done (r ∷ ss))) in
            bound at.0 at.1 (length done) at.2 at.3
        | inr none ↦ omega arith
      ]

      further : (seen : ℕ) → m ≤ seen → All (λ n. n < suc seen) r → (node letter n : ℕ) → node < length (done ++ r ∷ [])
          → target (graph_of s) node letter ≡ Some n → n ≤ seen
      further seen more all node letter n h e = elim (cases_lt node (length done)) [
        | inl old ↦ let l = bound node letter n old e in omega arith
        | inr new ↦
            let here : node ≡ length done = omega (arith, length-append done (r ∷ [])) in
            let edge : unwrap_or (slice_get (map Some r) letter) None ≡ Some n =
            sym (target_row done r ss letter) ∙ sym (ap (λ rows. target (graph_of rows) (length done) letter) es)
            ∙ ap (λ x. target (graph_of s) x letter) (sym here) ∙ e in
            let l = row_within (suc seen) r letter n all edge in
            omega arith
      ]

-- standard tables with the same equal paths are one
pub standard_unique : (k : ℕ) (s t : Rows) → IsStandard k s → IsStandard k t
    → ((u v : Word) → SameEnd (graph_of s) u v ↔ SameEnd (graph_of t) u v) → s ≡ t
standard_unique k s t hs ht same =
    rows_same k s t hs ht same [] s t 0 refl refl hs.numbered ht.numbered (λ node letter n h e. absurd (omega arith)) (root_reached k s t hs ht same)
