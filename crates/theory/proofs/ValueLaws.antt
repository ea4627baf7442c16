-- Values of products, and elements without pairs.
use Rattle.std.proofs.Common.{◌≡◌, ℕ, ◌<◌, Bool, false, List, [], ◌∷◌, ◌++◌, refl, sym, subst, subst₂, arith, inl, inr, ◌↔◌, fold, map, IsTrue, append-nil}
use Rattle.theory.specs.Word.{Word, IsOver, IsElement}
use Rattle.theory.specs.Chain.{Step, StepBy}
use Rattle.theory.specs.Semigroup.{Semigroup, value_of}
use Rattle.theory.specs.Value.{IsProduct, SameValue, SameElement, HasAtMostValues, AreDistinct, HasMoreValues}
use Rattle.theory.specs.declared.Kind.{Kind}
use Rattle.theory.specs.declared.Kind.TheVariants.{TwoSided}
use Rattle.theory.proofs.Words.{over_append, over_left, over_right}
use Rattle.theory.proofs.Related.{none_either}
use Rattle.theory.proofs.Counting.{IsIn, AreApart, in_from_contains, contains_from_in, pigeonhole}
use Rattle.theory.proofs.Chains.{step_whole, joined_least, joined_one}

pub front_nil : (u v : Word) → u ++ v ≡ [] → u ≡ []
front_nil [] v e = refl
front_nil (a ∷ u) v e = cc

module _ {V : Type 0} {shape : V → ℕ × ℕ} {product : V → V → V} {equal : V → V → Bool} (semi : Semigroup shape product equal)
    (laws : IsProduct (λ x. shape x ≡ semi.one) product equal) where
  abbrev pub HasShape : V → Type 0
  HasShape x = shape x ≡ semi.one

  fold_shape : (x : V) (u : Word) → HasShape x → IsOver semi.letters u → HasShape (fold product x (map semi.generator u))
  fold_shape x [] h over = h
  fold_shape x (a ∷ u) h over = fold_shape (product x (semi.generator a)) u (laws.shape x (semi.generator a) h (semi.shaped a over.0)) over.1

  pub value_shape : (u : Word) → IsElement false semi.letters u → HasShape (value_of semi u)
  value_shape [] h = absurd (h.0 refl)
  value_shape (a ∷ u) h = fold_shape (semi.generator a) u (semi.shaped a h.1.0) h.1.1

  -- a product begun at x is x times the product
  fold_product : (x y : V) (u : Word) → HasShape x → HasShape y → IsOver semi.letters u
      → IsTrue (equal (fold product (product x y) (map semi.generator u)) (product x (fold product y (map semi.generator u))))
  fold_product x y [] hx hy over = laws.reflexive (product x y)
  fold_product x y (a ∷ u) hx hy over =
      let ha = semi.shaped a over.0 in
      let one : IsTrue (equal (fold product (product (product x y) (semi.generator a)) (map semi.generator u)) (fold product (product x (product y (semi.generator a))) (map semi.generator u))) =
      fold_kept (product (product x y) (semi.generator a)) (product x (product y (semi.generator a))) u
      (laws.shape (product x y) (semi.generator a) (laws.shape x y hx hy) ha)
      (laws.shape x (product y (semi.generator a)) hx (laws.shape y (semi.generator a) hy ha)) over.1 (laws.associative x y (semi.generator a) hx hy ha) in
      laws.transitive (fold product (product (product x y) (semi.generator a)) (map semi.generator u))
      (fold product (product x (product y (semi.generator a))) (map semi.generator u)) (product x (fold product (product y (semi.generator a)) (map semi.generator u)))
      one (fold_product x (product y (semi.generator a)) u hx (laws.shape y (semi.generator a) hy ha) over.1)
    where
      fold_kept : (x y : V) (u : Word) → HasShape x → HasShape y → IsOver semi.letters u → IsTrue (equal x y)
          → IsTrue (equal (fold product x (map semi.generator u)) (fold product y (map semi.generator u)))
      fold_kept x y [] hx hy over e = e
      fold_kept x y (a ∷ u) hx hy over e =
          fold_kept (product x (semi.generator a)) (product y (semi.generator a)) u (laws.shape x (semi.generator a) hx (semi.shaped a over.0))
          (laws.shape y (semi.generator a) hy (semi.shaped a over.0)) over.1
          (laws.kept x y (semi.generator a) (semi.generator a) hx hy (semi.shaped a over.0) (semi.shaped a over.0) e (laws.reflexive (semi.generator a)))

  -- the value of two words one after the other is the product of their values
  pub value_append : (u v : Word) → IsElement false semi.letters u → IsElement false semi.letters v
      → IsTrue (equal (value_of semi (u ++ v)) (product (value_of semi u) (value_of semi v)))
  value_append [] v hu hv = absurd (hu.0 refl)
  value_append (a ∷ u) v hu hv = go u (semi.generator a) v hu.1.1 (semi.shaped a hu.1.0) hv
    where
      go : (u : Word) (x : V) (v : Word) → IsOver semi.letters u → HasShape x → IsElement false semi.letters v
          → IsTrue (equal (fold product x (map semi.generator (u ++ v))) (product (fold product x (map semi.generator u)) (value_of semi v)))
      go [] x [] over hx hv = absurd (hv.0 refl)
      go [] x (b ∷ v) over hx hv = fold_product x (semi.generator b) v hx (semi.shaped b hv.1.0) hv.1.1
      go (b ∷ u) x v over hx hv = go u (product x (semi.generator b)) v over.1 (laws.shape x (semi.generator b) hx (semi.shaped b over.0)) hv

  -- factors of equal value in a context
  pub value_kept_right : (u v y : Word) → SameValue semi.letters equal (value_of semi) u v → IsOver semi.letters y
      → SameValue semi.letters equal (value_of semi) (u ++ y) (v ++ y)
  value_kept_right u v [] h over = subst₂ (λ a b. SameValue semi.letters equal (value_of semi) a b) (sym (append-nil u)) (sym (append-nil v)) h
  value_kept_right u v (b ∷ y) h over =
      let hy : IsElement false semi.letters (b ∷ y) = (λ e. cc, over) in
      let val : Word → V = value_of semi in
      let one = value_append u (b ∷ y) h.left hy in
      let two = value_append v (b ∷ y) h.right hy in
      let both =
      laws.kept (val u) (val v) (val (b ∷ y)) (val (b ∷ y)) (value_shape u h.left) (value_shape v h.right) (value_shape (b ∷ y) hy)
      (value_shape (b ∷ y) hy) h.related (laws.reflexive (val (b ∷ y))) in
      record {
        left = (λ e. h.left.0 (front_nil u (b ∷ y) e), over_append semi.letters u (b ∷ y) h.left.1 over);
        right = (λ e. h.right.0 (front_nil v (b ∷ y) e), over_append semi.letters v (b ∷ y) h.right.1 over);
        related = laws.transitive (val (u ++ b ∷ y)) (product (val u) (val (b ∷ y))) (val (v ++ b ∷ y)) one
            (laws.transitive (product (val u) (val (b ∷ y))) (product (val v) (val (b ∷ y))) (val (v ++ b ∷ y)) both
            (laws.symmetric (val (v ++ b ∷ y)) (product (val v) (val (b ∷ y))) two));
      }

  pub value_kept_left : (x u v : Word) → SameValue semi.letters equal (value_of semi) u v → IsOver semi.letters x
      → SameValue semi.letters equal (value_of semi) (x ++ u) (x ++ v)
  value_kept_left [] u v h over = h
  value_kept_left (b ∷ x) u v h over =
      let hx : IsElement false semi.letters (b ∷ x) = (λ e. cc, over) in
      let val : Word → V = value_of semi in
      let one = value_append (b ∷ x) u hx h.left in
      let two = value_append (b ∷ x) v hx h.right in
      let both =
      laws.kept (val (b ∷ x)) (val (b ∷ x)) (val u) (val v) (value_shape (b ∷ x) hx) (value_shape (b ∷ x) hx) (value_shape u h.left)
      (value_shape v h.right) (laws.reflexive (val (b ∷ x))) h.related in
      record {
        left = (λ e. cc, over_append semi.letters (b ∷ x) u over h.left.1);
        right = (λ e. cc, over_append semi.letters (b ∷ x) v over h.right.1);
        related = laws.transitive (val ((b ∷ x) ++ u)) (product (val (b ∷ x)) (val u)) (val ((b ∷ x) ++ v)) one
            (laws.transitive (product (val (b ∷ x)) (val u)) (product (val (b ∷ x)) (val v)) (val ((b ∷ x) ++ v)) both
            (laws.symmetric (val ((b ∷ x) ++ v)) (product (val (b ∷ x)) (val v)) two));
      }

  -- a step that replaces a factor by one of equal value
  pub value_kept : (x y : Word) → Step (SameValue semi.letters equal (value_of semi)) TwoSided x y → IsElement false semi.letters x
      → SameValue semi.letters equal (value_of semi) x y
  value_kept x y a e =
      let whole : IsOver semi.letters (a.before ++ (a.from ++ a.after)) = subst (λ w. IsOver semi.letters w) a.source e.1 in
      let after = over_right semi.letters a.from a.after (over_right semi.letters a.before (a.from ++ a.after) whole) in
      let both =
      value_kept_left a.before (a.from ++ a.after) (a.to ++ a.after) (value_kept_right a.from a.to a.after a.base after)
      (over_left semi.letters a.before (a.from ++ a.after) whole) in
      subst₂ (λ p q. SameValue semi.letters equal (value_of semi) p q) (sym a.source) (sym a.target) both

  -- without pairs two elements are related exactly where their values are equal
  pub same_element_without_pairs : (kind : Kind) (u v : Word)
      → SameElement semi.letters equal (value_of semi) kind [] u v ↔ SameValue semi.letters equal (value_of semi) u v
  same_element_without_pairs kind u v = (
    λ h. joined_least (StepBy S kind []) (λ x y. IsElement false semi.letters x → S x y) (λ x e. record { left = e; right = e; related = laws.reflexive (value_of semi x) }) (λ x y z f g e. further x y z (f e) (g (f e).right)) one u v h.related h.left,
    λ h. record {
      left = h.left;
      right = h.right;
      related =
          joined_one (StepBy S kind []) u v
          (inl (step_whole S TwoSided u v h));
    },
  )
    where
      S : Word → Word → Type 0
      S = SameValue semi.letters equal (value_of semi)

      further : (x y z : Word) → SameValue semi.letters equal (value_of semi) x y
          → SameValue semi.letters equal (value_of semi) y z → SameValue semi.letters equal (value_of semi) x z
      further x y z p q = record {
        left = p.left;
        right = q.right;
        related =
            laws.transitive (value_of semi x) (value_of semi y) (value_of semi z) p.related
            q.related;
      }

      one : (x y : Word) → StepBy (SameValue semi.letters equal (value_of semi)) kind [] x y → IsElement false semi.letters x
          → SameValue semi.letters equal (value_of semi) x y
      one x y s e = elim s [ inl a ↦ value_kept x y a e | inr b ↦ absurd (none_either b.from b.to b.base) ]

-- at most m values, and more than n
pub values_bound : {V : Type 0} (HasShape : V → Type 0) (product : V → V → V) (equal : V → V → Bool) → IsProduct HasShape product equal
    → (k : ℕ) (value_of : Word → V) (m n : ℕ) → HasAtMostValues k equal value_of m → HasMoreValues k equal value_of n → n < m
values_bound {V} HasShape product equal laws k value_of m n few many =
    omega (arith, pigeonhole At many.words few.values (apart many.words many.distinct) placed, few.few, many.many)
  where
    At : Word → V → Type 0
    At u x = IsTrue (equal (value_of u) x)

    apart : (us : List Word) → AreDistinct equal value_of us → AreApart (λ (u : Word) (x : V). IsTrue (equal (value_of u) x)) us
    apart [] h = tt
    apart (u ∷ us) h = (
      (λ y x m p q. h.0 y (contains_from_in y us m) (laws.transitive (value_of u) x (value_of y) p (laws.symmetric (value_of y) x q))),
      apart us h.1,
    )

    placed : (u : Word) → IsIn u many.words → (x : V) × IsIn x few.values × IsTrue (equal (value_of u) x)
    placed u m =
        let at = few.all u (many.elements u (contains_from_in u many.words m)) in
        (at.0, in_from_contains at.0 few.values at.1, at.2)
