-- Classes of nodes that become one.
use Rattle.std.proofs.Common.{◌≡◌, ◌≢◌, ℕ, zero, suc, ◌<◌, ◌≤◌, List, [], ◌∷◌, refl, sym, ◌∙◌, ap, arith, ◌⊎◌, inl, inr, Some, length, slice_index, map}
use Rattle.std.proofs.lemmas.Bool.{cases_eq, cases_lt}
use Rattle.std.proofs.lemmas.List.{length-map, get_or_past}
use Rattle.theory.specs.Word.{Word}
use Rattle.theory.specs.Graph.{Graph, path, IsGraph}
use Rattle.theory.proofs.PartLaws.{given, symmetric}
use Rattle.coincidence.specs.Merged.{MergedNodes}
use Rattle.coincidence.specs.Merging.{IsReached, IsClassing, relabel}
use Rattle.word_graph.proofs.StandardLaws.{path_in}

pub relabel_same : (hi lo n : ℕ) → n ≡ hi → relabel hi lo n ≡ lo
relabel_same hi lo n e = grind (arith, e)

pub relabel_other : (hi lo n : ℕ) → n ≢ hi → relabel hi lo n ≡ n
relabel_other hi lo n e = grind (arith, e)

pub relabel_zero : (hi lo : ℕ) → lo ≤ hi → relabel hi lo 0 ≡ 0
relabel_zero hi lo h = elim (cases_eq 0 hi) [ inl e ↦ relabel_same hi lo 0 e ∙ omega arith | inr d ↦ relabel_other hi lo 0 d ]

relabel_to : (hi lo : ℕ) → relabel hi lo lo ≡ lo
relabel_to hi lo = elim (cases_eq lo hi) [ inl e ↦ relabel_same hi lo lo e | inr d ↦ relabel_other hi lo lo d ]

pub index_map : (f : ℕ → ℕ) (xs : List ℕ) (n : ℕ) → f 0 ≡ 0 → slice_index (map f xs) n ≡ f (slice_index xs n)
index_map f [] n h = sym h
index_map f (x ∷ xs) zero h = refl
index_map f (x ∷ xs) (suc n) h = index_map f xs n h

-- each node its own class
pub apart_classing : (k : ℕ) (g : Graph) (x y : ℕ) (class : List ℕ) → IsGraph k g → length class ≡ length g → ((n : ℕ) → n < length g → slice_index class n ≡ n) → IsClassing g x y class
apart_classing k g x y class is shape own =
    record {
      shape = shape;
      below = λ n. elim (cases n) [ inl e ↦ omega (arith, e.1) | inr e ↦ omega (arith, e) ];
      idem = λ n. elim (cases n) [ inl e ↦ ap (slice_index class) e.1 | inr e ↦ ap (slice_index class) e ∙ own 0 is.rooted ∙ sym e ];
      reach = λ n r. elim (cases n) [ inl e ↦ (r.0, r.1 ∙ ap (λ z. Some z) (sym e.1)) | inr e ↦ ([], ap (λ z. Some z) (sym e)) ];
      sound = λ u v n m hu hv e.
          let hn : n < length g = path_in k g is 0 n u is.rooted hu in
          let hm : m < length g = path_in k g is 0 m v is.rooted hv in
          let same : m ≡ n = sym (own m hm) ∙ sym e ∙ own n hn in
          given (inl (n, hu, hv ∙ ap (λ z. Some z) same));
    }
  where
    cases : (n : ℕ) → ((n < length g) × (slice_index class n ≡ n)) ⊎ (slice_index class n ≡ 0)
    cases n = elim (cases_lt n (length g)) [ inl h ↦ inl (h, own n h) | inr h ↦ inr (get_or_past class n 0 (omega (arith, shape, h))) ]

-- hi becomes lo
pub relabel_classing : (g : Graph) (x y : ℕ) (class : List ℕ) (hi lo : ℕ) → lo ≤ hi → slice_index class lo ≡ lo → IsReached g lo → ((u v : Word) (n m : ℕ) → path g 0 u ≡ Some n → path g 0 v ≡ Some m → slice_index class n ≡ hi → slice_index class m ≡ lo → MergedNodes g x y u v) → IsClassing g x y class → IsClassing g x y (map (relabel hi lo) class)
relabel_classing g x y class hi lo h own there related c =
    record {
      shape = length-map class (relabel hi lo) ∙ c.shape;
      below = λ n. elim (cases n) [ inl e ↦ omega (arith, e.0, e.1, h, c.below n) | inr e ↦ omega (arith, e.1, c.below n) ];
      idem = λ n. elim (cases n) [
        | inl e ↦ ap (slice_index (map (relabel hi lo) class)) e.1 ∙ index lo ∙ ap (relabel hi lo) own ∙ relabel_to hi lo ∙ sym e.1
        | inr e ↦ ap (slice_index (map (relabel hi lo) class)) e.1 ∙ index (slice_index class n) ∙ ap (relabel hi lo) (c.idem n) ∙ relabel_other hi lo (slice_index class n) e.0 ∙ sym e.1
      ];
      reach = λ n r. elim (cases n) [ inl e ↦ (there.0, there.1 ∙ ap (λ z. Some z) (sym e.1)) | inr e ↦ let r' = c.reach n r in (r'.0, r'.1 ∙ ap (λ z. Some z) (sym e.1)) ];
      sound = λ u v n m hu hv e. both u v n m hu hv e (cases n) (cases m);
    }
  where
    index : (n : ℕ) → slice_index (map (relabel hi lo) class) n ≡ relabel hi lo (slice_index class n)
    index n = index_map (relabel hi lo) class n (relabel_zero hi lo h)

    cases : (n : ℕ) → ((slice_index class n ≡ hi) × (slice_index (map (relabel hi lo) class) n ≡ lo)) ⊎ ((slice_index class n ≢ hi) × (slice_index (map (relabel hi lo) class) n ≡ slice_index class n))
    cases n = elim (cases_eq (slice_index class n) hi) [ inl e ↦ inl (e, index n ∙ relabel_same hi lo (slice_index class n) e) | inr d ↦ inr (d, index n ∙ relabel_other hi lo (slice_index class n) d) ]

    both : (u v : Word) (n m : ℕ) → path g 0 u ≡ Some n → path g 0 v ≡ Some m → slice_index (map (relabel hi lo) class) n ≡ slice_index (map (relabel hi lo) class) m → ((slice_index class n ≡ hi) × (slice_index (map (relabel hi lo) class) n ≡ lo)) ⊎ ((slice_index class n ≢ hi) × (slice_index (map (relabel hi lo) class) n ≡ slice_index class n)) → ((slice_index class m ≡ hi) × (slice_index (map (relabel hi lo) class) m ≡ lo)) ⊎ ((slice_index class m ≢ hi) × (slice_index (map (relabel hi lo) class) m ≡ slice_index class m)) → MergedNodes g x y u v
    both u v n m hu hv e (inl p) (inl q) = c.sound u v n m hu hv (p.0 ∙ sym q.0)
    both u v n m hu hv e (inl p) (inr q) = related u v n m hu hv p.0 (sym q.1 ∙ sym e ∙ p.1)
    both u v n m hu hv e (inr p) (inl q) = symmetric (related v u m n hv hu q.0 (sym p.1 ∙ e ∙ q.1))
    both u v n m hu hv e (inr p) (inr q) = c.sound u v n m hu hv (sym p.1 ∙ e ∙ q.1)
