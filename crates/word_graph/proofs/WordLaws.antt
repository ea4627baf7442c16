-- The words of the steps of a walk, and the list of least words.
use Rattle.std.proofs.Common.{◌≡◌, ℕ, zero, suc, ◌+◌, ◌<◌, ◌≤◌, List, [], ◌∷◌, ◌++◌, length, take, get_or, refl, sym, ◌∙◌, ap, subst, subst₂, arith, ◌⊎◌, inl, inr, Option, Some, None, All, cond, nat_lt, true, false}
use Rattle.std.proofs.lemmas.Bool.{cases_lt}
use Rattle.std.proofs.lemmas.List.{get_or_append_left, get_or_push, length_push, take_more, take_all, length-take-le}
use Rattle.std.proofs.lemmas.List.Elements.{All-push}
use Rattle.theory.specs.Word.{Word}
use Rattle.theory.specs.Graph.{Graph, path}
use Rattle.word_graph.specs.Walk.{NoLater, IsTree, IsLeastWord, AreLeastWords}
use Rattle.word_graph.specs.Steps.{step_at, walked, IsWalkedTo, next_word, words_behind, words_of}
use Rattle.word_graph.specs.declared.walks.Step.{Step}
use Rattle.word_graph.proofs.WalkLaws.{some_same, walk_tree, word_place}

pub less_true : (m n : ℕ) → m < n → nat_lt m n ≡ true
less_true m n h = grind (arith, h)

none_less : (m : ℕ) → nat_lt m 0 ≡ false
none_less m = grind arith

-- one step more
pub words_more : (words : List Word) (ss : List Step) (s : Step) → words_behind words (ss ++ s ∷ []) ≡ words_behind words ss ++ next_word (words_behind words ss) s ∷ []
words_more words [] s = refl
words_more words (t ∷ ss) s = words_more (words ++ next_word words t ∷ []) ss s

words_length : (words : List Word) (ss : List Step) → length (words_behind words ss) ≡ length words + length ss
words_length words [] = omega arith
words_length words (s ∷ ss) = words_length (words ++ next_word words s ∷ []) ss ∙ omega (arith, length_push words (next_word words s))

pub words_size : (ss : List Step) → length (words_of ss) ≡ length ss
words_size ss = words_length [] ss ∙ omega arith

module _ (k : ℕ) (g : Graph) (steps : List Step) (places : List (Option ℕ)) (word : ℕ → Word) (tree : IsTree k g (walked steps places word)) where
  new_word : (i : ℕ) → i < length steps → ((j : ℕ) → j < i → get_or (words_of (take i steps)) j [] ≡ word j)
      → next_word (words_of (take i steps)) (step_at steps i) ≡ word i
  new_word zero h old =
      ap (λ b. cond b (get_or [] (step_at steps 0).parent [] ++ (step_at steps 0).letter ∷ []) []) (none_less (step_at steps 0).parent) ∙ sym tree.root
  new_word (suc i) h old =
      let m = tree.made (suc i) (omega arith) h in
      let size : length (words_of (take (suc i) steps)) ≡ suc i = words_size (take (suc i) steps) ∙ length-take-le (suc i) steps (omega arith) in
      ap (λ b. cond b (get_or (words_of (take (suc i) steps)) (step_at steps (suc i)).parent [] ++ (step_at steps (suc i)).letter ∷ []) [])
      (less_true (step_at steps (suc i)).parent (length (words_of (take (suc i) steps))) (omega (arith, size, m.0)))
      ∙ ap (λ w. w ++ (step_at steps (suc i)).letter ∷ []) (old (step_at steps (suc i)).parent m.0) ∙ sym m.2

  words_to : (i : ℕ) → i ≤ length steps → (j : ℕ) → j < i → get_or (words_of (take i steps)) j [] ≡ word j
  words_to zero h j less = absurd (omega arith)
  words_to (suc i) h j less =
      let size : length (words_of (take i steps)) ≡ i = words_size (take i steps) ∙ length-take-le i steps (omega arith) in
      let one : take (suc i) steps ≡ take i steps ++ step_at steps i ∷ [] = ap (λ n. take n steps) (let e : suc i ≡ i + 1 = omega arith in e) ∙ take_more steps i (record { node = 0; parent = 0; letter = 0 }) (omega arith) in
      let more : words_of (take (suc i) steps) ≡ words_of (take i steps) ++ next_word (words_of (take i steps)) (step_at steps i) ∷ [] =
      ap words_of one ∙ words_more [] (take i steps) (step_at steps i) in
      ap (λ (ws : List Word). get_or ws j []) more ∙ go (cases_lt j i) size (words_to i (omega arith))
    where
      go : (j < i) ⊎ (i ≤ j) → length (words_of (take i steps)) ≡ i → ((j : ℕ) → j < i → get_or (words_of (take i steps)) j [] ≡ word j)
          → get_or (words_of (take i steps) ++ next_word (words_of (take i steps)) (step_at steps i) ∷ []) j [] ≡ word j
      go (inl old) size known = get_or_append_left (words_of (take i steps)) (next_word (words_of (take i steps)) (step_at steps i) ∷ []) [] j (omega (arith, size, old)) ∙ known j old
      go (inr new) size known =
          let e : i ≡ j = omega arith in
          get_or_push (words_of (take i steps)) (next_word (words_of (take i steps)) (step_at steps i)) [] j (size ∙ e) ∙ new_word i (omega arith) known ∙ ap word e

  -- the words of the steps are those of a walk
  pub words_are : (j : ℕ) → j < length steps → get_or (words_of steps) j [] ≡ word j
  words_are j h = ap (λ (ss : List Step). get_or (words_of ss) j []) (sym (take_all (length steps) steps (omega arith))) ∙ words_to (length steps) (omega arith) j h

module _ (k : ℕ) (g : Graph) (steps : List Step) (places : List (Option ℕ)) (is : IsWalkedTo k g steps places (length steps) 0) where
  -- the word of a node's place is its least
  pub place_least : (node j : ℕ) → get_or places node None ≡ Some j → (j < length steps) × IsLeastWord g node (get_or (words_of steps) j [])
  place_least node j at =
      let placed = is.walk.placed node j at in (
        placed.0,
        subst (λ w. IsLeastWord g node w) (sym (words_are k g steps places is.word (walk_tree k g (walked steps places is.word) (length steps) 0 is.walk) j placed.0)) (record {
          leads = is.walk.leads j placed.0 ∙ ap (λ z. Some z) placed.1;
          least = λ v e.
              let f = word_place k g (walked steps places is.word) is.walk v [] 0 node 0 is.walk.root_place (inr is.walk.root) e in
              subst (λ z. NoLater (is.word z) v) (some_same f.0 j (sym f.1 ∙ at)) f.2;
        }),
      )

  -- a node without a place is not reached
  pub place_none : (node : ℕ) → get_or places node None ≡ None → (v : Word) → path g 0 v ≡ Some node → ⊥
  place_none node none v e =
      let f = word_place k g (walked steps places is.word) is.walk v [] 0 node 0 is.walk.root_place (inr is.walk.root) e in
      let e' : None ≡ Some f.0 = sym none ∙ f.1 in
      let bad : ⊥ = cc in bad

-- the list for the nodes below one
pub record IsListTo (g : Graph) (list : List (ℕ × Word)) (node : ℕ) : Type 0 where
  pub ascending : (i j : ℕ) (d : ℕ × Word) → i < j → j < length list → (get_or list i d).0 < (get_or list j d).0
  pub below : (i : ℕ) (d : ℕ × Word) → i < length list → (get_or list i d).0 < node
  pub least : All (λ p. IsLeastWord g p.0 p.1) list
  pub all : (n : ℕ) (v : Word) → n < node → path g 0 v ≡ Some n → (i : ℕ) × (i < length list) × ((d : ℕ × Word) → (get_or list i d).0 ≡ n)

-- a node that is not reached
pub list_skip : (g : Graph) (list : List (ℕ × Word)) (node : ℕ) → ((v : Word) → path g 0 v ≡ Some node → ⊥) → IsListTo g list node → IsListTo g list (node + 1)
list_skip g list node none is = record {
  ascending = is.ascending;
  below = λ i d h. let l = is.below i d h in omega (arith, l);
  least = is.least;
  all = λ n v h e. elim (cases_lt n node) [
    | inl old ↦ is.all n v old e
    | inr new ↦ let same : n ≡ node = omega (arith, h, new) in absurd (none v (e ∙ ap (λ z. Some z) same))
  ];
}

-- a node that is reached
pub list_push : (g : Graph) (list : List (ℕ × Word)) (node : ℕ) (word : Word) → IsLeastWord g node word → IsListTo g list node
    → IsListTo g (list ++ (node, word) ∷ []) (node + 1)
list_push g list node word here is = record {
  ascending = λ i j d less h. elim (cases_lt j (length list)) [
    | inl old ↦ subst₂ (λ (x y : ℕ × Word). x.0 < y.0) (sym (before i d (omega (arith, less, old)))) (sym (before j d old)) (is.ascending i j d less old)
    | inr new ↦
        let e : length list ≡ j = omega (arith, h, new, length_push list (node, word)) in
        subst₂ (λ (x y : ℕ × Word). x.0 < y.0) (sym (before i d (omega (arith, less, e)))) (sym (get_or_push list (node, word) d j e)) (is.below i d (omega (arith, less, e)))
  ];
  below = λ i d h. elim (cases_lt i (length list)) [
    | inl old ↦ subst (λ (x : ℕ × Word). x.0 < node + 1) (sym (before i d old)) (let l = is.below i d old in omega (arith, l))
    | inr new ↦
        let e : length list ≡ i = omega (arith, h, new, length_push list (node, word)) in
        subst (λ (x : ℕ × Word). x.0 < node + 1) (sym (get_or_push list (node, word) d i e)) (omega arith)
  ];
  least = All-push (λ (p : ℕ × Word). IsLeastWord g p.0 p.1) list (node, word) is.least here;
  all = λ n v h e. elim (cases_lt n node) [
    | inl old ↦
        let f = is.all n v old e in
        (f.0, omega (arith, f.1, length_push list (node, word)), λ d. ap (λ (x : ℕ × Word). x.0) (before f.0 d f.1) ∙ f.2 d)
    | inr new ↦
        let same : node ≡ n = omega (arith, h, new) in
        (length list, omega (arith, length_push list (node, word)), λ d. ap (λ (x : ℕ × Word). x.0) (get_or_push list (node, word) d (length list) refl) ∙ same)
  ];
}
  where
    before : (i : ℕ) (d : ℕ × Word) → i < length list → get_or (list ++ (node, word) ∷ []) i d ≡ get_or list i d
    before i d h = get_or_append_left list ((node, word) ∷ []) d i h

pub list_end : (g : Graph) (list : List (ℕ × Word)) → IsListTo g list (length g) → ((n : ℕ) (v : Word) → path g 0 v ≡ Some n → n < length g) → AreLeastWords g list
list_end g list is inside = record { ascending = is.ascending; least = is.least; all = λ n v e. is.all n v (inside n v e) e }
