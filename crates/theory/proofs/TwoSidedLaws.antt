-- Two-sided tables.
use Rattle.std.proofs.Common.{◌≡◌, ℕ, ◌<◌, [], ◌∷◌, ◌++◌, length, sym, ◌∙◌, ◌↔◌, Some}
use Rattle.theory.specs.Word.{Word}
use Rattle.theory.specs.Congruence.{Presentation}
use Rattle.theory.specs.Listing.{IsStrictOrder}
use Rattle.theory.specs.Graph.{Graph, target, path, SameEnd, IsCompleteTable}
use Rattle.theory.specs.LowIndex.{TableLess}
use Rattle.theory.specs.Lattice.{IsRightCongruence}
use Rattle.theory.specs.TwoSidedTable.{SameEndFrom, IsTwoSidedTable, IsKeptInFront, AreNodeWords, AgreesAtLetters, IsTwoSidedLowIndex}
use Rattle.theory.proofs.GraphLaws.{path_append, path_letter, complete_path}
use Rattle.theory.proofs.TableLaws.{table_order}
use Rattle.theory.proofs.LatticeLaws.{table_congruence, path_inside, edges_relate}

module _ (k : ℕ) (g : Graph) (is : IsCompleteTable k g) where
  -- what holds at the node of a word holds behind the word, and the other way about
  behind : (x u v : Word) (node : ℕ) → path g 0 x ≡ Some node → SameEndFrom g node u v → SameEnd g (x ++ u) (x ++ v)
  behind x u v node e h = (h.0, path_append g 0 node x u e ∙ h.1, path_append g 0 node x v e ∙ h.2)

  from_behind : (x u v : Word) (node : ℕ) → path g 0 x ≡ Some node → SameEnd g (x ++ u) (x ++ v) → SameEndFrom g node u v
  from_behind x u v node e h = (h.0, sym (path_append g 0 node x u e) ∙ h.1, sym (path_append g 0 node x v e) ∙ h.2)

  -- a table is two-sided exactly where its path equality is kept on the left
  pub two_sided_kept : IsTwoSidedTable g ↔ IsKeptInFront k g
  two_sided_kept = (
    λ h x u v over e.
        let at = complete_path k g is.graph is.complete x 0 is.graph.rooted over in
        behind x u v at.0 at.1 (h u v at.0 e (path_inside k g is.graph x 0 at.0 is.graph.rooted at.1)),
    λ h u v node e l. let at = is.reached node l in from_behind at.0 u v node at.2 (h at.0 u v at.1 e),
  )

  -- letters in front are enough
  kept_by_letters : ((b : ℕ) (u v : Word) → b < k → SameEnd g u v → SameEnd g (b ∷ u) (b ∷ v)) → IsKeptInFront k g
  kept_by_letters h [] u v over e = e
  kept_by_letters h (b ∷ x) u v over e = h b (x ++ u) (x ++ v) over.0 (kept_by_letters h x u v over.1 e)

  -- words that with a letter in front lead to one node
  in_front : (b : ℕ) → b < k → IsRightCongruence k (λ u v. SameEnd g (b ∷ u) (b ∷ v))
  in_front b l = record {
    over = λ u v h. let both = (table_congruence k g is).over (b ∷ u) (b ∷ v) h in (both.0.1, both.1.1);
    reflexive = λ u over. (table_congruence k g is).reflexive (b ∷ u) (l, over);
    symmetric = λ u v h. (table_congruence k g is).symmetric (b ∷ u) (b ∷ v) h;
    transitive = λ u v w h j. (table_congruence k g is).transitive (b ∷ u) (b ∷ v) (b ∷ w) h j;
    kept = λ u v y over h. (table_congruence k g is).kept (b ∷ u) (b ∷ v) y over h;
  }

  module _ (word : ℕ → Word) (words : AreNodeWords g word) where
    -- the edges at the nodes to which letters lead are enough
    pub two_sided_tested : IsTwoSidedTable g ↔ AgreesAtLetters k g word
    two_sided_tested = (to, λ h. two_sided_kept.1 (kept_by_letters (front h)))
      where
        edge : (node letter next : ℕ) → node < length g → letter < k → target g node letter ≡ Some next
            → SameEnd g (word node ++ letter ∷ []) (word next)
        edge node letter next l m e = (
          next,
          path_append g 0 node (word node) (letter ∷ []) (words.leads node l) ∙ path_letter g node letter ∙ e,
          words.leads next (is.graph.nodes node letter next e),
        )

        to : IsTwoSidedTable g → AgreesAtLetters k g word
        to h first at node letter next a ea l m e =
            let there = h (word node ++ letter ∷ []) (word next) at (edge node letter next l m e) (is.graph.nodes 0 first at ea) in
            there.1 ∙ sym there.2

        front : AgreesAtLetters k g word → (b : ℕ) (u v : Word) → b < k → SameEnd g u v → SameEnd g (b ∷ u) (b ∷ v)
        front h b u v l =
            edges_relate k g word (λ u v. SameEnd g (b ∷ u) (b ∷ v)) is (in_front b l) words.root
            (λ node letter next n m e here.
            let root = is.complete 0 b is.graph.rooted l in
            let first : path g 0 (b ∷ []) ≡ Some root.0 = path_letter g 0 b ∙ root.1 in
            let whole = (table_congruence k g is).kept (b ∷ word node) (b ∷ word node) (letter ∷ []) (m, tt) here in
            let there : path g root.0 (word node ++ letter ∷ []) ≡ Some whole.0 =
            sym (path_append g 0 root.0 (b ∷ []) (word node ++ letter ∷ []) first) ∙ whole.1 in (
              whole.0,
              whole.1,
              path_append g 0 root.0 (b ∷ []) (word next) first ∙ sym (h b root.0 node letter next l root.1 n m e) ∙ there,
            ))
            u v

-- The two-sided tables of low index are listed in the same order.
pub two_sided_order : (p : Presentation) (n : ℕ) → 0 < p.letters → IsStrictOrder (IsTwoSidedLowIndex p n) TableLess
two_sided_order p n some =
    let order = table_order p n some in
    record { cases = λ s t hs ht. order.cases s t hs.low ht.low; irrefl = order.irrefl; trans = order.trans }
