-- Entries of rows, and rows with one more entry or node.
use Rattle.std.proofs.Common.{◌≡◌, ◌≢◌, ℕ, zero, suc, ◌+◌, ◌<◌, ◌≤◌, All, List, [], ◌∷◌, refl, sym, ◌∙◌, ap, arith, ◌⊎◌, inl, inr, Option, Some, None, length, get_or, slice_get, unwrap_or, set, subst, subst₂, replicate, length-set}
use Rattle.std.proofs.lemmas.Bool.{cases_eq, cases_lt}
use Rattle.std.proofs.lemmas.List.{get_or-set_same, get_or-set_other, get_or_past, length_push, length-replicate}
use Rattle.std.proofs.lemmas.List.Elements.{All-set, All-push, All-replicate}
use Rattle.theory.specs.Graph.{Graph, target, IsGraph}
use Rattle.cells.specs.Rows.{AreRows, IsPut, with_entry, with_node}

unwrap_get : {X : Type 0} (xs : List X) (i : ℕ) (d : X) → unwrap_or (slice_get xs i) d ≡ get_or xs i d
unwrap_get [] i d = refl
unwrap_get (y ∷ xs) zero d = refl
unwrap_get (y ∷ xs) (suc i) d = unwrap_get xs i d

-- targets by elements
pub target_is : (g : Graph) (n a : ℕ) → target g n a ≡ get_or (get_or g n []) a None
target_is g n a = rw (unwrap_get g n []) (unwrap_get (get_or g n []) a None)

-- an entry that is put
pub target_put : (g : Graph) (j a : ℕ) (x : Option ℕ) → j < length g → a < length (get_or g j []) → target (with_entry g j a x) j a ≡ x
target_put g j a x hj ha =
    target_is (with_entry g j a x) j a ∙ ap (λ r. get_or r a None) (get_or-set_same g j (set (get_or g j []) a x) [] hj) ∙ get_or-set_same (get_or g j []) a x None ha

pub target_beside : (g : Graph) (j a : ℕ) (x : Option ℕ) (n b : ℕ) → j < length g → ((n ≡ j) × (b ≡ a) → ⊥) → target (with_entry g j a x) n b ≡ target g n b
target_beside g j a x n b hj apart = target_is (with_entry g j a x) n b ∙ go (cases_eq n j) (cases_eq b a) ∙ sym (target_is g n b)
  where
    row : List (Option ℕ)
    row = set (get_or g j []) a x

    go : (n ≡ j) ⊎ (n ≢ j) → (b ≡ a) ⊎ (b ≢ a) → get_or (get_or (with_entry g j a x) n []) b None ≡ get_or (get_or g n []) b None
    go (inr d) y = ap (λ r. get_or r b None) (get_or-set_other g j n row [] d)
    go (inl e) (inl e') = absurd (apart (e, e'))
    go (inl e) (inr d) = subst (λ z. get_or (get_or (with_entry g j a x) z []) b None ≡ get_or (get_or g z []) b None) (sym e)
        (ap (λ r. get_or r b None) (get_or-set_same g j row [] hj) ∙ get_or-set_other (get_or g j []) a b x None d)

pub entry_put : (g : Graph) (j a : ℕ) (x : Option ℕ) → j < length g → a < length (get_or g j []) → IsPut g (with_entry g j a x) j a x
entry_put g j a x hj ha = record { put = target_put g j a x hj ha; other = λ n b. target_beside g j a x n b hj }

pub entry_width : (k : ℕ) (g : Graph) (j a : ℕ) (x : Option ℕ) → j < length g → All (λ row. length row ≡ k) g → All (λ row. length row ≡ k) (with_entry g j a x)
entry_width k g j a x hj w = All-set (λ row. length row ≡ k) g j (set (get_or g j []) a x) (length-set (get_or g j []) a x ∙ w j [] hj) w

pub entry_length : (g : Graph) (j a : ℕ) (x : Option ℕ) → length (with_entry g j a x) ≡ length g
entry_length g j a x = length-set g j (set (get_or g j []) a x)

-- one place, or two
same_place : (n m a b : ℕ) → ((n ≡ m) × (a ≡ b)) ⊎ ((n ≡ m) × (a ≡ b) → ⊥)
same_place n m a b = elim (cases_eq n m) [
  | inl e ↦ elim (cases_eq a b) [
    | inl e' ↦ inl (e, e')
    | inr d ↦ inr (λ both. d both.1)
  ]
  | inr d ↦ inr (λ both. d both.0)
]

-- what holds of the entry that is put, and of each other as it was, holds of all
pub put_cases : (P : ℕ → ℕ → Option ℕ → Type 0) (old new : Graph) (j a : ℕ) (x : Option ℕ) → IsPut old new j a x → P j a x → ((n b : ℕ) → ((n ≡ j) × (b ≡ a) → ⊥) → P n b (target old n b)) → (n b : ℕ) → P n b (target new n b)
put_cases P old new j a x is here there n b = elim (same_place n j b a) [
  | inl both ↦ subst₂ (λ (m c : ℕ). P m c (target new m c)) (sym both.0) (sym both.1) (subst (λ (t : Option ℕ). P j a t) (sym is.put) here)
  | inr d ↦ subst (λ (t : Option ℕ). P n b t) (sym (is.other n b d)) (there n b d)
]

-- a graph with an entry put
pub graph_put : (k : ℕ) (g : Graph) (j a : ℕ) (x : Option ℕ) → IsGraph k g → j < length g → a < k → ((m : ℕ) → x ≡ Some m → m < length g) → IsGraph k (with_entry g j a x)
graph_put k g j a x is hj ha hx = record {
  rooted = omega (arith, is.rooted, entry_length g j a x);
  width = entry_width k g j a x hj is.width;
  nodes = λ n b t e. let less : t < length g = within n b t e in omega (arith, less, entry_length g j a x);
}
  where
    within : (n b t : ℕ) → target (with_entry g j a x) n b ≡ Some t → t < length g
    within = put_cases (λ n b y. (t : ℕ) → y ≡ Some t → t < length g) g _ j a x (entry_put g j a x hj (omega (arith, is.width j [] hj, ha))) hx (λ n b d. is.nodes n b)

-- no edge in rows without edges
row_bare : (k a : ℕ) → unwrap_or {T = Option ℕ} (slice_get (replicate k None) a) None ≡ None
row_bare zero a = refl
row_bare (suc k) zero = refl
row_bare (suc k) (suc a) = row_bare k a

pub target_bare : (nodes k n a : ℕ) → target (replicate nodes (replicate k None)) n a ≡ None
target_bare zero k n a = refl
target_bare (suc nodes) k zero a = row_bare k a
target_bare (suc nodes) k (suc n) a = target_bare nodes k n a

-- a node without edges changes no target
pub target_node : (k : ℕ) (g : Graph) (n a : ℕ) → target (with_node k g) n a ≡ target g n a
target_node k [] zero a = target_bare 1 k 0 a
target_node k [] (suc n) a = refl
target_node k (r ∷ g) zero a = refl
target_node k (r ∷ g) (suc n) a = target_node k g n a

pub node_graph : (k : ℕ) (g : Graph) → IsGraph k g → IsGraph k (with_node k g)
node_graph k g is =
    record {
      rooted = omega (arith, length_push {X = List (Option ℕ)} g (replicate k None), is.rooted);
      width = All-push (λ row. length row ≡ k) g (replicate k None) is.width (length-replicate k None);
      nodes = λ n a m e. let less : m < length g = is.nodes n a m (sym (target_node k g n a) ∙ e) in omega (arith, less, length_push {X = List (Option ℕ)} g (replicate k None));
    }

-- so many rows
pub rows_bare : (n k : ℕ) → AreRows n k (replicate n (replicate k None))
rows_bare n k = record {
  count = length-replicate n (replicate k None);
  width = All-replicate (λ row. length row ≡ k) n (replicate k None) (length-replicate k None);
}

pub rows_node : (n k : ℕ) (g : Graph) → AreRows n k g → AreRows (n + 1) k (with_node k g)
rows_node n k g is = record {
  count = omega (arith, length_push {X = List (Option ℕ)} g (replicate k None), is.count);
  width = All-push (λ row. length row ≡ k) g (replicate k None) is.width (length-replicate k None);
}

module _ (n k : ℕ) (g : Graph) (is : AreRows n k g) where
  pub row_width : (j : ℕ) → j < n → length (get_or g j []) ≡ k
  row_width j h = is.width j [] (omega (arith, h, is.count))

  pub rows_put : (j a : ℕ) (x : Option ℕ) → j < n → AreRows n k (with_entry g j a x)
  rows_put j a x h = record {
    count = entry_length g j a x ∙ is.count;
    width = entry_width k g j a x (omega (arith, h, is.count)) is.width;
  }

  pub rows_entry : (j a : ℕ) (x : Option ℕ) → j < n → a < k → IsPut g (with_entry g j a x) j a x
  rows_entry j a x h l = entry_put g j a x (omega (arith, h, is.count)) (omega (arith, l, row_width j h))

  -- nothing stands past the rows and the letters
  pub rows_past : (j a : ℕ) → n ≤ j → target g j a ≡ None
  rows_past j a h = target_is g j a ∙ ap (λ r. get_or r a None) (get_or_past g j [] (omega (arith, h, is.count)))

  pub letters_past : (j a : ℕ) → k ≤ a → target g j a ≡ None
  letters_past j a h = elim (cases_lt j n) [
    | inl l ↦ target_is g j a ∙ get_or_past (get_or g j []) a None (omega (arith, h, row_width j l))
    | inr m ↦ rows_past j a m
  ]
