-- Complete graphs as rows, and rows that are numbered by first appearance.
use Rattle.std.proofs.Common.{◌≡◌, ℕ, zero, suc, ◌+◌, ◌<◌, ◌≤◌, max, List, [], ◌∷◌, ◌++◌, length, map, refl, sym, ◌∙◌, ap, ap₂, subst, arith, inl, inr, Option, Some, None, get_or, slice_get, All, append_assoc, append-nil}
use Rattle.std.specs.Option.{unwrap_or}
use Rattle.std.proofs.lemmas.Bool.{cases_lt}
use Rattle.std.proofs.lemmas.List.{length_push}
use Rattle.std.proofs.lemmas.List.Elements.{All-append, All-nil, All-from_get_or}
use Rattle.theory.specs.Graph.{Graph, target}
use Rattle.theory.specs.LowIndex.{Rows, graph_of, entries, IsNumberedFrom}
use Rattle.word_graph.specs.Walk.{IsBefore}
use Rattle.word_graph.proofs.WalkLaws.{some_same, before_next}

-- the entries of rows without gaps
abbrev pub target_rows : Graph → Rows
target_rows = map (map (λ t. unwrap_or t 0))

row_exact : (row : List (Option ℕ)) → ((a : ℕ) → a < length row → (m : ℕ) × (get_or row a None ≡ Some m)) → row ≡ map Some (map (λ t. unwrap_or t 0) row)
row_exact [] full = refl
row_exact (None ∷ row) full = let e = (full 0 (omega arith)).1 in cc
row_exact (Some m ∷ row) full = ap (λ (r : List (Option ℕ)). Some m ∷ r) (row_exact row (λ a h. full (suc a) (omega arith)))

pub rows_exact : (g : Graph) → ((n a : ℕ) → n < length g → a < length (get_or g n []) → (m : ℕ) × (get_or (get_or g n []) a None ≡ Some m))
    → g ≡ graph_of (target_rows g)
rows_exact [] full = refl
rows_exact (row ∷ g) full =
    ap₂ (λ (r : List (Option ℕ)) (rs : Graph). r ∷ rs) (row_exact row (λ a h. full 0 a (omega arith) h)) (rows_exact g (λ n a hn ha. full (suc n) a (omega arith) ha))

pub entry_is : (row : List ℕ) (b : ℕ) → b < length row → unwrap_or (slice_get (map Some row) b) None ≡ Some (get_or row b 0)
entry_is [] b h = absurd (omega arith)
entry_is (x ∷ row) zero h = refl
entry_is (x ∷ row) (suc b) h = entry_is row b (omega arith)

-- whatever holds of all targets holds of all entries
pub entries_all : (P : ℕ → Type 0) (rows : Rows) → ((i b n : ℕ) → target (graph_of rows) i b ≡ Some n → P n) → All P (entries rows)
entries_all P [] all = All-nil P
entries_all P (row ∷ rows) all =
    All-append P row (entries rows) (All-from_get_or P row 0 (λ b h. all 0 b (get_or row b 0) (entry_is row b h)))
    (entries_all P rows (λ i b n e. all (suc i) b n e))

pub entry_past : (row : List ℕ) (b n : ℕ) → unwrap_or (slice_get (map Some row) b) None ≡ Some n → b < length row
entry_past [] b n e = cc
entry_past (x ∷ row) zero n e = omega arith
entry_past (x ∷ row) (suc b) n e = omega (arith, entry_past row b n e)

entry_at : (pre : List ℕ) (x : ℕ) (rest : List ℕ) → unwrap_or (slice_get (map Some (pre ++ (x ∷ rest))) (length pre)) None ≡ Some x
entry_at [] x rest = refl
entry_at (y ∷ pre) x rest = entry_at pre x rest

target_row : (done : Rows) (row : List ℕ) (rows : Rows) (letter : ℕ)
    → target (graph_of (done ++ (row ∷ rows))) (length done) letter ≡ unwrap_or (slice_get (map Some row) letter) None
target_row [] row rows letter = refl
target_row (d ∷ done) row rows letter = target_row done row rows letter

module _ (rows : Rows) (first : (i b n : ℕ) → target (graph_of rows) i b ≡ Some (suc (suc n)) → (p c : ℕ) × IsBefore p c i b × (target (graph_of rows) p c ≡ Some (suc n))) where
  -- no entry before the row i and letter a is greater
  abbrev IsBound : ℕ → ℕ → ℕ → Type 0
  IsBound seen i a = (p c n : ℕ) → IsBefore p c i a → target (graph_of rows) p c ≡ Some n → n ≤ seen

  row_from : (done : Rows) (pre r : List ℕ) (ss : Rows) (seen : ℕ) → rows ≡ done ++ ((pre ++ r) ∷ ss) → IsBound seen (length done) (length pre)
      → ((seen : ℕ) → IsBound seen (length done + 1) 0 → IsNumberedFrom seen (entries ss)) → IsNumberedFrom seen (r ++ entries ss)
  row_from done pre [] ss seen e bound further = further seen whole
    where
      whole : IsBound seen (length done + 1) 0
      whole p c n (inr h) d = absurd (omega (arith, h.1))
      whole p c n (inl h) d = elim (cases_lt p (length done)) [
        | inl old ↦ bound p c n (inl old) d
        | inr new ↦
            let at : p ≡ length done = omega (arith, h, new) in
            let d' : target (graph_of (done ++ ((pre ++ []) ∷ ss))) (length done) c ≡ Some n = subst (λ z. target (graph_of (done ++ ((pre ++ []) ∷ ss))) z c ≡ Some n) at (subst (λ z. target (graph_of z) p c ≡ Some n) e d) in
            let less : c < length (pre ++ []) = entry_past (pre ++ []) c n (sym (target_row done (pre ++ []) ss c) ∙ d') in
            bound p c n (inr (at, omega (arith, less, ap length (append-nil pre)))) d
      ]
  row_from done pre (x ∷ r) ss seen e bound further =
      (small x here, row_from done (pre ++ x ∷ []) r ss (max seen x) (e ∙ ap (λ (row : List ℕ). done ++ (row ∷ ss)) (sym (append_assoc pre (x ∷ []) r))) more further)
    where
      here : target (graph_of rows) (length done) (length pre) ≡ Some x
      here = ap (λ z. target (graph_of z) (length done) (length pre)) e ∙ target_row done (pre ++ (x ∷ r)) ss (length pre) ∙ entry_at pre x r

      small : (x : ℕ) → target (graph_of rows) (length done) (length pre) ≡ Some x → x ≤ suc seen
      small zero d = omega arith
      small (suc zero) d = omega arith
      small (suc (suc n)) d =
          let f = first (length done) (length pre) n d in
          let b = bound f.0 f.1 (suc n) f.2 f.3 in
          omega (arith, b)

      more : IsBound (max seen x) (length done) (length (pre ++ x ∷ []))
      more p c n before d = elim (before_next p c (length done) (length pre) (subst (λ z. IsBefore p c (length done) z) (length_push pre x) before)) [
        | inl h ↦ let b = bound p c n h d in omega (arith, b)
        | inr h ↦
            let d' : target (graph_of rows) (length done) (length pre) ≡ Some n = subst (λ z. target (graph_of rows) (length done) z ≡ Some n) h.1 (subst (λ z. target (graph_of rows) z c ≡ Some n) h.0 d) in
            let same : x ≡ n = some_same x n (sym here ∙ d') in
            omega (arith, same)
      ]

  rows_from : (done ss : Rows) (seen : ℕ) → rows ≡ done ++ ss → IsBound seen (length done) 0 → IsNumberedFrom seen (entries ss)
  rows_from done [] seen e bound = tt
  rows_from done (r ∷ ss) seen e bound =
      row_from done [] r ss seen e bound
      (λ seen' bound'. rows_from (done ++ r ∷ []) ss seen' (e ∙ sym (append_assoc done (r ∷ []) ss)) (subst (λ z. IsBound seen' z 0) (sym (length_push done r)) bound'))

  -- rows in which the number before each appears before are numbered by first appearance
  pub numbered : IsNumberedFrom 0 (entries rows)
  numbered = rows_from [] rows 0 refl (λ p c n before d. elim before [ inl h ↦ absurd (omega (arith, h)) | inr h ↦ absurd (omega (arith, h.1)) ])
