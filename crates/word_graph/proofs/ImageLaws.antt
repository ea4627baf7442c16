-- Images of nodes under multiplication by a letter in front, and two-sided tables.
use Rattle.std.proofs.Common.{◌≡◌, ℕ, ◌+◌, ◌<◌, ◌≤◌, ◌↔◌, List, [], ◌∷◌, ◌++◌, length, refl, sym, ◌∙◌, ap, subst, subst₂, arith, Option, Some, None, option_and_then, get_or, set, length-set, inl, inr}
use Rattle.std.specs.Option.{unwrap_or}
use Rattle.std.proofs.lemmas.Bool.{cases_lt}
use Rattle.std.proofs.lemmas.List.{get_or-set_same, get_or-set_other}
use Rattle.theory.specs.Word.{Word}
use Rattle.theory.specs.Graph.{Graph, target, path, IsCompleteTable}
use Rattle.theory.specs.TwoSidedTable.{IsTwoSidedTable, AreNodeWords}
use Rattle.theory.proofs.GraphLaws.{path_letter}
use Rattle.theory.proofs.TwoSidedLaws.{two_sided_tested}
use Rattle.word_graph.specs.Renumber.{renumber}
use Rattle.word_graph.specs.Steps.{step_at, walked, IsWalkedTo}
use Rattle.word_graph.specs.TwoSided.{AreImagesTo, AreImages, KeepsEdges, word_of, AgreesBehind}
use Rattle.word_graph.specs.declared.walks.Step.{Step}
use Rattle.word_graph.proofs.WalkLaws.{some_same, word_place}

-- a path goes on by one letter, if it is there
pub path_push : (g : Graph) (p : ℕ) (u : Word) (a : ℕ) → path g p (u ++ a ∷ []) ≡ option_and_then (λ m. target g m a) (path g p u)
path_push g p [] a = path_letter g p a
path_push g p (b ∷ u) a = go (target g p b) (λ m. path_push g m u a)
  where
    go : (t : Option ℕ) → ((m : ℕ) → path g m (u ++ a ∷ []) ≡ option_and_then (λ n. target g n a) (path g m u))
        → option_and_then (λ m. path g m (u ++ a ∷ [])) t ≡ option_and_then (λ n. target g n a) (option_and_then (λ m. path g m u) t)
    go None further = refl
    go (Some m) further = further m

module _ (k : ℕ) (g : Graph) (steps : List Step) (places : List (Option ℕ)) (is : IsWalkedTo k g steps places (length steps) 0) where
  -- the image of a node is where the letter of its step leads from the image of the node before
  pub images_more : (first count : ℕ) (images : List (Option ℕ)) → 0 < count → count < length steps → (step_at steps count).node < length g
      → AreImagesTo g steps is.word first images count
      → AreImagesTo g steps is.word first
      (set images (step_at steps count).node (option_and_then (λ m. target g m (step_at steps count).letter) (get_or images (step_at steps (step_at steps count).parent).node None)))
      (count + 1)
  images_more first count images some less inside are =
      record {
        shape = length-set images node image ∙ are.shape;
        image = λ j h. elim (cases_lt j count) [
          | inl old ↦ get_or-set_other images node (step_at steps j).node image None (other j old) ∙ are.image j old
          | inr new ↦
              let e : j ≡ count = omega (arith, h, new) in
              subst (λ z. get_or (set images node image) (step_at steps z).node None ≡ path g 0 (first ∷ is.word z)) (sym e) last
        ];
      }
    where
      node : ℕ
      node = (step_at steps count).node

      parent : ℕ
      parent = (step_at steps count).parent

      image : Option ℕ
      image = option_and_then (λ m. target g m (step_at steps count).letter) (get_or images (step_at steps parent).node None)

      made : (parent < count) × (is.word count ≡ is.word parent ++ (step_at steps count).letter ∷ [])
      made = let m = is.walk.made count some less in (m.1, m.3)

      other : (j : ℕ) → j < count → (step_at steps j).node ≡ node → ⊥
      other j h e =
          let same : Some j ≡ Some count = sym (is.walk.back j (omega (arith, h, less))) ∙ ap (λ n. get_or places n None) e ∙ is.walk.back count less in
          let d : j ≡ count = some_same j count same in
          omega (arith, d, h)

      last : get_or (set images node image) node None ≡ path g 0 (first ∷ is.word count)
      last =
          get_or-set_same images node image None (omega (arith, inside, are.shape))
          ∙ ap (option_and_then (λ m. target g m (step_at steps count).letter)) (are.image parent made.0)
          ∙ sym (path_push g 0 (first ∷ is.word parent) (step_at steps count).letter)
          ∙ ap (λ u. path g 0 (first ∷ u)) (sym made.1)

  -- the same with what the code reads
  pub images_next : (first place : ℕ) (images : List (Option ℕ)) (s p : Step) (from image : Option ℕ)
      → s ≡ step_at steps place → p ≡ step_at steps s.parent → from ≡ get_or images p.node None → image ≡ option_and_then (λ m. target g m s.letter) from
      → 0 < place → place < length steps → s.node < length g
      → AreImagesTo g steps is.word first images place → AreImagesTo g steps is.word first (set images s.node image) (place + 1)
  images_next first place images s p from image s_is p_is from_is image_is some less inside are =
      let read : from ≡ get_or images (step_at steps s.parent).node None = from_is ∙ ap (λ (z : Step). get_or images z.node None) p_is in
      let value : image ≡ option_and_then (λ m. target g m (step_at steps place).letter) (get_or images (step_at steps (step_at steps place).parent).node None) =
      image_is ∙ ap (option_and_then (λ m. target g m s.letter)) read
      ∙ ap (λ (z : Step). option_and_then (λ m. target g m z.letter) (get_or images (step_at steps z.parent).node None)) s_is in
      subst₂ (λ (z : Step) (o : Option ℕ). AreImagesTo g steps is.word first (set images z.node o) (place + 1)) (sym s_is) (sym value)
      (images_more first place images some less (subst (λ (z : Step). z.node < length g) s_is inside) are)

  -- each step but the first was found from one before
  pub parent_inside : (place : ℕ) (s : Step) → s ≡ step_at steps place → 0 < place → place < length steps → s.parent < length steps
  parent_inside place s s_is some less =
      let m = is.walk.made place some less in
      subst (λ (z : Step). z.parent < length steps) (sym s_is) (omega (arith, m.1, less))

  -- all steps are gone through
  pub images_end : (first count : ℕ) (images : List (Option ℕ)) → length steps ≤ count → AreImagesTo g steps is.word first images count → AreImages g steps is.word first images
  images_end first count images end are = record { shape = are.shape; image = λ j h. are.image j (omega (arith, h, end)) }

  module _ (table : IsCompleteTable k g) where
    -- each node has a place
    place_of : (node : ℕ) → node < length g → (j : ℕ) × (get_or places node None ≡ Some j)
    place_of node h =
        let at = table.reached node h in
        let p = word_place k g (walked steps places is.word) is.walk at.0 [] 0 node 0 is.walk.root_place (inr is.walk.root) at.2 in
        (p.0, p.1)

    word_is : (node j : ℕ) → get_or places node None ≡ Some j → word_of places is.word node ≡ is.word j
    word_is node j e = ap (λ o. is.word (unwrap_or o 0)) e

    -- so there is a word for each node
    pub node_words : AreNodeWords g (word_of places is.word)
    node_words = record {
      root = word_is 0 0 is.walk.root_place ∙ is.walk.root;
      leads = λ node h.
          let p = place_of node h in
          let at = is.walk.placed node p.0 p.1 in
          ap (path g 0) (word_is node p.0 p.1) ∙ is.walk.leads p.0 at.0 ∙ ap Some at.1;
    }

    module _ (first : ℕ) (images : List (Option ℕ)) (are : AreImages g steps is.word first images) where
      image_is : (node : ℕ) → node < length g → get_or images node None ≡ path g 0 (first ∷ word_of places is.word node)
      image_is node h =
          let p = place_of node h in
          let at = is.walk.placed node p.0 p.1 in
          ap (λ n. get_or images n None) (sym at.1) ∙ are.image p.0 at.0 ∙ ap (λ u. path g 0 (first ∷ u)) (sym (word_is node p.0 p.1))

      before : (node letter : ℕ) → node < length g
          → option_and_then (λ m. target g m letter) (get_or images node None) ≡ path g 0 (first ∷ (word_of places is.word node ++ letter ∷ []))
      before node letter h =
          ap (option_and_then (λ m. target g m letter)) (image_is node h) ∙ sym (path_push g 0 (first ∷ word_of places is.word node) letter)

      behind : (node letter next : ℕ) → target g node letter ≡ Some next → renumber images (target g node letter) ≡ path g 0 (first ∷ word_of places is.word next)
      behind node letter next e = ap (renumber images) e ∙ image_is next (table.graph.nodes node letter next e)

      -- the images keep the edges exactly where the words agree
      pub kept_agrees : KeepsEdges k g images ↔ AgreesBehind k g (word_of places is.word) first
      kept_agrees = (
        λ kept node letter next h l e. sym (before node letter h) ∙ kept node h letter l ∙ behind node letter next e,
        λ agrees node h letter l.
            let next = table.complete node letter h l in
            before node letter h ∙ agrees node letter next.0 h l next.1 ∙ sym (behind node letter next.0 next.1),
      )

    at_letters : (first at : ℕ) → target g 0 first ≡ Some at → (u : Word) → path g 0 (first ∷ u) ≡ path g at u
    at_letters first at e u = ap (option_and_then (λ m. path g m u)) e

    -- a table is two-sided where the words agree behind each letter
    pub agrees_two_sided : ((first : ℕ) → first < k → AgreesBehind k g (word_of places is.word) first) → IsTwoSidedTable g
    agrees_two_sided agrees =
        (two_sided_tested k g table (word_of places is.word) node_words).1
        (λ first at node letter next f ea h l e.
        sym (at_letters first at ea (word_of places is.word node ++ letter ∷ [])) ∙ agrees first f node letter next h l e ∙ at_letters first at ea (word_of places is.word next))

    -- and only there
    pub two_sided_agrees : IsTwoSidedTable g → (first : ℕ) → first < k → AgreesBehind k g (word_of places is.word) first
    two_sided_agrees sides first f node letter next h l e =
        let root = table.complete 0 first table.graph.rooted f in
        at_letters first root.0 root.1 (word_of places is.word node ++ letter ∷ [])
        ∙ (two_sided_tested k g table (word_of places is.word) node_words).0 sides first root.0 node letter next f root.1 h l e
        ∙ sym (at_letters first root.0 root.1 (word_of places is.word next))
