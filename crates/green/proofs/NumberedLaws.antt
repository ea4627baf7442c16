-- Edges of numbered values: a letter on the left and one on the right may be multiplied in either
-- order, words lead to the same product in either graph, and an element is idempotent exactly where
-- its own word, its last letter first, leads in the left Cayley graph from its number back to it.
use Rattle.std.proofs.Common.{◌≡◌, ℕ, ◌<◌, ◌↔◌, Bool, [], ◌∷◌, ◌++◌, reverse, sym, ap, subst, ◌∙◌, IsTrue, append-nil, append_assoc}
use Rattle.std.proofs.lemmas.List.{reverse-append}
use Rattle.theory.specs.Word.{Word, IsOver}
use Rattle.theory.specs.Value.{IsProduct, SameValue}
use Rattle.theory.specs.Semigroup.{Semigroup, value_of, Numbering, IsNumberOf}
use Rattle.theory.specs.Green.{IsIdempotent, follow}
use Rattle.theory.proofs.GeneratedLaws.{same_refl, same_symm, same_trans}
use Rattle.theory.proofs.ValueLaws.{value_append, value_kept_left, value_kept_right}
use Rattle.green.proofs.FiniteLaws.{follow_append}

module _ {V : Type 0} {shape : V → ℕ × ℕ} {product : V → V → V} {equal : V → V → Bool} (semi : Semigroup shape product equal)
    (laws : IsProduct (λ x. shape x ≡ semi.one) product equal) (t : Numbering semi) where
  abbrev val : Word → V
  val = value_of semi

  abbrev Same : Word → Word → Type 0
  Same = SameValue semi.letters equal (value_of semi)

  abbrev StandsFor : ℕ → Word → Type 0
  StandsFor = IsNumberOf t

  symm_at : (u v : Word) → Same u v → Same v u
  symm_at = same_symm semi laws

  trans_at : (u v w : Word) → Same u v → Same v w → Same u w
  trans_at = same_trans semi laws

  pub edges_commute : (i a b : ℕ) → i < t.count → a < semi.letters → b < semi.letters → t.left (t.right i a) b ≡ t.right (t.left i b) a
  edges_commute i a b l less low =
      let behind = t.numbered.on_right i a l less in
      let before = t.numbered.on_left i b l low in
      let then_before = t.numbered.on_left (t.right i a) b behind.0 low in
      let then_behind = t.numbered.on_right (t.left i b) a before.0 less in
      let both : Word = b ∷ (t.word i ++ a ∷ []) in
      t.numbered.distinct (t.left (t.right i a) b) (t.right (t.left i b) a) then_before.0 then_behind.0
      (trans_at (t.word (t.left (t.right i a) b)) both (t.word (t.right (t.left i b) a))
      (symm_at both (t.word (t.left (t.right i a) b))
      (trans_at both (b ∷ t.word (t.right i a)) (t.word (t.left (t.right i a) b))
      (value_kept_left semi laws (b ∷ []) (t.word i ++ a ∷ []) (t.word (t.right i a)) behind.1 (low, tt)) then_before.1))
      (trans_at both (t.word (t.left i b) ++ a ∷ []) (t.word (t.right (t.left i b) a))
      (value_kept_right semi laws (b ∷ t.word i) (t.word (t.left i b)) (a ∷ []) before.1 (less, tt)) then_behind.1))

  before_stands : (x : Word) (i : ℕ) (u : Word) → IsOver semi.letters x → StandsFor i u → StandsFor (follow t.left i (reverse x)) (x ++ u)
  before_stands [] i u over p = p
  before_stands (a ∷ x) i u over p =
      let j : ℕ = follow t.left i (reverse x) in
      let rest : StandsFor j (x ++ u) = before_stands x i u over.1 p in
      let edge = t.numbered.on_left j a rest.0 over.0 in
      let stands : StandsFor (t.left j a) (a ∷ (x ++ u)) = (
        edge.0,
        trans_at (a ∷ (x ++ u)) (a ∷ t.word j) (t.word (t.left j a)) (value_kept_left semi laws (a ∷ []) (x ++ u) (t.word j) rest.1 (over.0, tt)) edge.1,
      ) in
      subst (λ m. StandsFor m (a ∷ (x ++ u))) (sym (ap (follow t.left i) (reverse-append (a ∷ []) x) ∙ follow_append t.left (reverse x) (a ∷ []) i)) stands

  behind_stands : (x : Word) (i : ℕ) (u : Word) → IsOver semi.letters x → StandsFor i u → StandsFor (follow t.right i x) (u ++ x)
  behind_stands [] i u over p = subst (StandsFor i) (sym (append-nil u)) p
  behind_stands (a ∷ x) i u over p =
      let edge = t.numbered.on_right i a p.0 over.0 in
      let next : StandsFor (t.right i a) (u ++ a ∷ []) = (
        edge.0,
        trans_at (u ++ a ∷ []) (t.word i ++ a ∷ []) (t.word (t.right i a)) (value_kept_right semi laws u (t.word i) (a ∷ []) p.1 (over.0, tt)) edge.1,
      ) in
      subst (StandsFor (follow t.right (t.right i a) x)) (append_assoc u (a ∷ []) x) (behind_stands x (t.right i a) (u ++ a ∷ []) over.1 next)

  own : (i : ℕ) → i < t.count → StandsFor i (t.word i)
  own i l = (l, same_refl semi laws (t.word i) (t.numbered.elements i l))

  pub products_agree : (i j : ℕ) → i < t.count → j < t.count → follow t.left j (reverse (t.word i)) ≡ follow t.right i (t.word j)
  products_agree i j l m =
      let both : Word = t.word i ++ t.word j in
      let before = before_stands (t.word i) j (t.word j) (t.numbered.elements i l).1 (own j m) in
      let behind = behind_stands (t.word j) i (t.word i) (t.numbered.elements j m).1 (own i l) in
      t.numbered.distinct (follow t.left j (reverse (t.word i))) (follow t.right i (t.word j)) before.0 behind.0
      (trans_at (t.word (follow t.left j (reverse (t.word i)))) both (t.word (follow t.right i (t.word j))) (symm_at both (t.word (follow t.left j (reverse (t.word i)))) before.1) behind.1)

  pub idempotent_leads : (u : Word) (i : ℕ) → IsNumberOf t i u
      → IsIdempotent product equal (value_of semi u) ↔ (follow t.left i (reverse (t.word i)) ≡ i)
  idempotent_leads u i p = (to, from)
    where
      square : StandsFor (follow t.left i (reverse (t.word i))) (t.word i ++ u)
      square = before_stands (t.word i) i u p.1.right.1 p

      -- the word of its number behind it and before it
      twice : Same (u ++ u) (t.word i ++ u)
      twice = value_kept_right semi laws u (t.word i) u p.1 p.1.left.1

      product_of : IsTrue (equal (val (u ++ u)) (product (val u) (val u)))
      product_of = value_append semi laws u u p.1.left p.1.left

      to : IsIdempotent product equal (val u) → follow t.left i (reverse (t.word i)) ≡ i
      to e =
          let own : Same (u ++ u) u = record {
            left = twice.left;
            right = p.1.left;
            related = laws.transitive (val (u ++ u)) (product (val u) (val u)) (val u) product_of e;
          } in
          let j : ℕ = follow t.left i (reverse (t.word i)) in
          t.numbered.distinct j i square.0 p.0
          (trans_at (t.word j) (t.word i ++ u) (t.word i) (symm_at (t.word i ++ u) (t.word j) square.1)
          (trans_at (t.word i ++ u) (u ++ u) (t.word i) (symm_at (u ++ u) (t.word i ++ u) twice) (trans_at (u ++ u) u (t.word i) own p.1)))

      from : follow t.left i (reverse (t.word i)) ≡ i → IsIdempotent product equal (val u)
      from e =
          let at : StandsFor i (t.word i ++ u) = subst (λ m. StandsFor m (t.word i ++ u)) e square in
          let own : Same (u ++ u) u = trans_at (u ++ u) (t.word i ++ u) u twice (trans_at (t.word i ++ u) (t.word i) u at.1 (symm_at u (t.word i) p.1)) in
          laws.transitive (product (val u) (val u)) (val (u ++ u)) (val u) (laws.symmetric (val (u ++ u)) (product (val u) (val u)) product_of) own.related
