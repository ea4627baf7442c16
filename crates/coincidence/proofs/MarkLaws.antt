-- Marks that are carried on, and the least word whose node has none.
use Rattle.std.proofs.Common.{◌≡◌, ℕ, ◌+◌, ◌<◌, ◌≤◌, ◌⊎◌, inl, inr, Bool, true, false, zero, suc, List, [], ◌∷◌, ◌++◌, length, get_or, slice_index, refl, sym, ap, ◌∙◌, subst, arith, Option, Some, None, Ordering, is_lt}
use Rattle.std.proofs.lemmas.Bool.{cases_lt}
use Rattle.std.proofs.lemmas.List.{get_or_past, get_or_default, get_or_append_left, get_or_push, length_push}
use Rattle.theory.specs.Word.{Word}
use Rattle.theory.specs.ShortLex.{◌≺◌, shortlex}
use Rattle.theory.specs.Graph.{Graph, path}
use Rattle.theory.proofs.Words.{order_cases, before_irrefl, before_trans}
use Rattle.word_graph.specs.Walk.{NoLater, IsLeastWord, AreLeastWords}
use Rattle.word_graph.proofs.OrderLaws.{no_later_trans}
use Rattle.coincidence.specs.Live.{IsOn, IsLiveGraph}
use Rattle.coincidence.specs.Marks.{AreCarried, IsCarried, KeepsMarks, IsLeastUnmarked, IsFirstUnmarked, AllMarked}

-- a node that is on is one of the list
pub on_within : (xs : List Bool) (n : ℕ) → IsOn xs n → n < length xs
on_within xs n on = elim (cases_lt n (length xs)) [
  | inl h ↦ h
  | inr past ↦ absurd (let off : get_or xs n false ≡ false = get_or_past xs n false past in let no : false ≡ true = sym off ∙ on in let none : ⊥ = cc in none)
]

-- marks that go with their nodes go with their words
pub marks_kept : (old new : Graph) (was is : List Bool) (class : List ℕ) → ((n : ℕ) → IsOn was n → (w : Word) × (path old 0 w ≡ Some n)) → IsCarried old new class → AreCarried class was is → KeepsMarks old was new is
marks_kept old new was is class reached gone carried = record {
  kept = λ u v n m at on new_at _.
      let here : slice_index class m ≡ n = same_end (gone.follows v m at) new_at in
      subst (IsOn is) here (carried.kept m on);
  from = λ u n at on.
      let f = carried.from n on in
      let w = reached f.0 f.1 in
      (w.0, f.0, w.1, f.1, gone.follows w.0 f.0 w.1 ∙ ap (λ k. Some k) f.2);
}
  where
    same_end : {o : Option ℕ} {a b : ℕ} → o ≡ Some a → o ≡ Some b → a ≡ b
    same_end p q = cc

-- the least word without a mark, among more words
module _ (least : List (ℕ × Word)) (marked : List Bool) (n : ℕ) where
  abbrev At : ℕ → ℕ × Word → ℕ × Word
  At i d = get_or least i d

  pub first_gives_way : (place : ℕ) → IsLeastUnmarked least marked n (Some place) → ((d : ℕ × Word) → IsOn marked (At n d).0 → ⊥) → ((d : ℕ × Word) → (At place d).1 ≺ (At n d).1 → ⊥) → IsLeastUnmarked least marked (n + 1) (Some n)
  first_gives_way place h off not_less = (
    omega arith,
    off,
    λ i d less other. elim (cases_lt i n) [
      | inl old ↦ no_later_trans (At n d).1 (At place d).1 (At i d).1 (no_less (At place d).1 (At n d).1 (not_less d)) (h.2 i d old other)
      | inr new ↦ let same : n ≡ i = omega (arith, less, new) in subst (λ k. NoLater (At n d).1 (At k d).1) same (inr refl)
    ],
  )
    where
      no_less : (u v : Word) → (u ≺ v → ⊥) → NoLater v u
      no_less u v not = elim (order_cases u v) [ inl l ↦ absurd (not l) | inr m ↦ elim m [ inl e ↦ inr (sym e) | inr l ↦ inl l ] ]

-- the places of the least words of nodes tell of the nodes
module _ (g : Graph) (marked : List Bool) (least : List (ℕ × Word)) (are : AreLeastWords g least) where
  pub all_marked : IsLeastUnmarked least marked (length least) None → AllMarked g marked
  all_marked h = λ w n at. let f = are.all n w at in subst (IsOn marked) (f.2 (n, w)) (h f.0 (n, w) f.1)

  pub first_unmarked_is : (place : ℕ) (p : ℕ × Word) → p ≡ get_or least place p → IsLeastUnmarked least marked (length least) (Some place) → IsFirstUnmarked g marked p.0
  first_unmarked_is place p here h = record {
    word = p.1;
    leads = own.leads;
    unmarked = λ on. h.1 p (subst (λ q. IsOn marked q.0) here on);
    least = λ v n less at. elim (decide n) [ inl on ↦ on | inr off ↦ absurd (none v n less at off) ];
  }
    where
      own : IsLeastWord g p.0 p.1
      own = subst (λ q. IsLeastWord g q.0 q.1) (sym here) (are.least place p h.0)

      decide : (n : ℕ) → IsOn marked n ⊎ (IsOn marked n → ⊥)
      decide n = by (get_or marked n false)
        where
          by : (b : Bool) → (b ≡ true) ⊎ (b ≡ true → ⊥)
          by true = inl refl
          by false = inr (λ e. cc)

      none : (v : Word) (n : ℕ) → v ≺ p.1 → path g 0 v ≡ Some n → (IsOn marked n → ⊥) → ⊥
      none v n less at off =
          let f = are.all n v at in
          let other : IsLeastWord g n (get_or least f.0 (n, v)).1 = subst (λ k. IsLeastWord g k (get_or least f.0 (n, v)).1) (f.2 (n, v)) (are.least f.0 (n, v) f.1) in
          let before : NoLater (get_or least place p).1 (get_or least f.0 (n, v)).1 = same_default (h.2 f.0 (n, v) f.1 (λ on. off (subst (IsOn marked) (f.2 (n, v)) on))) in
          let mine : NoLater p.1 (get_or least f.0 (n, v)).1 = subst (λ q. NoLater q.1 (get_or least f.0 (n, v)).1) (sym here) before in
          before_irrefl v (no_later_less (no_later_trans p.1 (get_or least f.0 (n, v)).1 v mine (other.least v at)))
        where
          same_default : NoLater (get_or least place (n, v)).1 (get_or least (are.all n v at).0 (n, v)).1 → NoLater (get_or least place p).1 (get_or least (are.all n v at).0 (n, v)).1
          same_default k = subst (λ q. NoLater q.1 (get_or least (are.all n v at).0 (n, v)).1) (get_or_default least place (n, v) p h.0) k

          no_later_less : NoLater p.1 v → v ≺ v
          no_later_less k = elim k [ inl l ↦ before_trans v p.1 v less l | inr e ↦ subst (λ z. v ≺ z) e less ]

-- what a comparison that is not less tells
pub not_before : (u v : Word) (o : Ordering) (less : Bool) → o ≡ shortlex u v → less ≡ is_lt o → less ≡ false → u ≺ v → ⊥
not_before u v o less same e h b =
    let is : less ≡ true = e ∙ ap is_lt (same ∙ b) in
    let no : false ≡ true = sym h ∙ is in
    let none : ⊥ = cc in none

-- nodes that are marked stay live where nodes are merged
pub live_marks : (old new : Graph) (were live was is : List Bool) (class : List ℕ) → IsLiveGraph old were → IsLiveGraph new live → ((n : ℕ) → IsOn was n → IsOn were n) → IsCarried old new class → AreCarried class was is → (n : ℕ) → IsOn is n → IsOn live n
live_marks old new were live was is class before after marked gone carried n on =
    let f = carried.from n on in
    let w = before.reached f.0 (marked f.0 f.1) in
    after.lives n (w.0, gone.follows w.0 f.0 w.1 ∙ ap (λ k. Some k) f.2)

-- a new table has no mark
pub no_mark : (n : ℕ) → IsOn (false ∷ []) n → ⊥
no_mark zero on = cc
no_mark (suc n) on = cc

-- a new node is live and has no mark
pub marks_pushed : (live marked : List Bool) → length marked ≡ length live → ((n : ℕ) → IsOn marked n → IsOn live n) → (n : ℕ) → IsOn (marked ++ false ∷ []) n → IsOn (live ++ true ∷ []) n
marks_pushed live marked same on_live n on = elim (cases_lt n (length marked)) [
  | inl old ↦
      let here : IsOn marked n = sym (get_or_append_left marked (false ∷ []) false n old) ∙ on in
      get_or_append_left live (true ∷ []) false n (omega (arith, old, same)) ∙ on_live n here
  | inr past ↦ absurd (let off : get_or (marked ++ false ∷ []) n false ≡ false = none n past in let no : false ≡ true = sym off ∙ on in let never : ⊥ = cc in never)
]
  where
    none : (n : ℕ) → length marked ≤ n → get_or (marked ++ false ∷ []) n false ≡ false
    none n past = elim (cases_lt (length marked) n) [
      | inl more ↦ get_or_past (marked ++ false ∷ []) n false (omega (arith, length_push {X = Bool} marked false, more))
      | inr here ↦ let at : length marked ≡ n = omega (arith, past, here) in subst (λ k. get_or (marked ++ false ∷ []) k false ≡ false) at (get_or_push marked false false (length marked) refl)
    ]
