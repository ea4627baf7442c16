-- The congruence that pairs generate: on words, on values, and on numbers of values.
use Rattle.std.proofs.Common.{◌≡◌, ℕ, ◌<◌, Bool, false, List, [], ◌∷◌, ◌++◌, refl, sym, subst, subst₂, ◌⊎◌, inl, inr, ◌↔◌, IsTrue, Contains, None, append-nil, append_assoc}
use Rattle.theory.specs.Word.{Word, IsOver, IsElement}
use Rattle.theory.specs.Congruence.{EitherWay, AreElements}
use Rattle.theory.specs.Chain.{MayStand, StepBy}
use Rattle.theory.specs.ShortLex.{◌≺◌}
use Rattle.theory.specs.Class.{Among, IsLeast, IsNormal, IsClassList}
use Rattle.theory.specs.Value.{IsProduct, SameValue, SameElement}
use Rattle.theory.specs.Semigroup.{Semigroup, value_of, Numbering, IsNumberOf}
use Rattle.theory.specs.Generated.{IsKeptOnRight, IsKeptOnLeft, Generated, given, symmetric, transitive, on_right, on_left, GivenValue, GeneratedValue, GivenNumber, GeneratedNumber, Linked, itself, merge, back, on, AreMerges}
use Rattle.theory.specs.declared.Kind.{Kind}
use Rattle.theory.specs.declared.Kind.TheVariants.{TwoSided, Right, Left}
use Rattle.theory.proofs.Words.{over_append, over_left, over_right}
use Rattle.theory.proofs.ClassLaws.{IsPartialEquivalence, shortlex_strict}
use Rattle.theory.proofs.Completeness.{normal_unique}
use Rattle.theory.proofs.Listings.{list_unique}
use Rattle.theory.proofs.Related.{side_element, element_step}
use Rattle.theory.proofs.Chains.{step_whole, joined_least, joined_one, joined_congruence}
use Rattle.theory.proofs.ValueLaws.{value_shape, value_append, value_kept_right, value_kept_left, value_kept, front_nil}

-- what is generated lies within each relation that has its parts
pub generated_least : {X : Type 0} (kind : Kind) (k : ℕ) (right left : X → ℕ → X) (Given R : X → X → Type 0)
    → ((x y : X) → Given x y → R x y) → ((x y : X) → R x y → R y x) → ((x y z : X) → R x y → R y z → R x z)
    → ((x y : X) (a : ℕ) → IsKeptOnRight kind → a < k → R x y → R (right x a) (right y a))
    → ((x y : X) (a : ℕ) → IsKeptOnLeft kind → a < k → R x y → R (left x a) (left y a))
    → {x y : X} → Generated kind k right left Given x y → R x y
generated_least kind k right left G R g s t r l (given {x} {y} h) = g x y h
generated_least kind k right left G R g s t r l (symmetric {x} {y} h) = s x y (generated_least kind k right left G R g s t r l h)
generated_least kind k right left G R g s t r l (transitive {x} {y} {z} h j) =
    t x y z (generated_least kind k right left G R g s t r l h) (generated_least kind k right left G R g s t r l j)
generated_least kind k right left G R g s t r l (on_right x y a m b h) = r x y a m b (generated_least kind k right left G R g s t r l h)
generated_least kind k right left G R g s t r l (on_left x y a m b h) = l x y a m b (generated_least kind k right left G R g s t r l h)

-- where a step of the kind may stand, and on which sides the kind is kept
stands_behind : (kind : Kind) → IsKeptOnRight kind → (y : Word) → MayStand kind [] y
stands_behind TwoSided h y = tt
stands_behind Right h y = refl
stands_behind Left h y = absurd h

stands_before : (kind : Kind) → IsKeptOnLeft kind → (x : Word) → MayStand kind x []
stands_before TwoSided h x = tt
stands_before Right h x = absurd h
stands_before Left h x = refl

kept_or_end : (kind : Kind) (x y : Word) → MayStand kind x y → IsKeptOnRight kind ⊎ (y ≡ [])
kept_or_end TwoSided x y h = inl tt
kept_or_end Right x y h = inl tt
kept_or_end Left x y h = inr h

kept_or_start : (kind : Kind) (x y : Word) → MayStand kind x y → IsKeptOnLeft kind ⊎ (x ≡ [])
kept_or_start TwoSided x y h = inl tt
kept_or_start Right x y h = inr h
kept_or_start Left x y h = inl tt

pub element_context : (k : ℕ) (x u y : Word) → IsOver k x → IsElement false k u → IsOver k y → IsElement false k (x ++ (u ++ y))
element_context k [] u y hx hu hy = (λ e. hu.0 (front_nil u y e), over_append k u y hu.1 hy)
element_context k (a ∷ x) u y hx hu hy = (λ e. cc, (hx.0, over_append k x (u ++ y) hx.1 (over_append k u y hu.1 hy)))

module _ {V : Type 0} {shape : V → ℕ × ℕ} {product : V → V → V} {equal : V → V → Bool} (semi : Semigroup shape product equal)
    (laws : IsProduct (λ x. shape x ≡ semi.one) product equal) where
  abbrev HasShape : V → Type 0
  HasShape x = shape x ≡ semi.one

  abbrev pub val : Word → V
  val = value_of semi

  abbrev pub Same : Word → Word → Type 0
  Same = SameValue semi.letters equal (value_of semi)

  pub same_refl : (u : Word) → IsElement false semi.letters u → Same u u
  same_refl u h = record { left = h; right = h; related = laws.reflexive (val u) }

  pub same_symm : (u v : Word) → Same u v → Same v u
  same_symm u v h = record { left = h.right; right = h.left; related = laws.symmetric (val u) (val v) h.related }

  pub same_trans : (u v w : Word) → Same u v → Same v w → Same u w
  same_trans u v w h j = record { left = h.left; right = j.right; related = laws.transitive (val u) (val v) (val w) h.related j.related }

  pub same_value_equivalence : IsPartialEquivalence Same
  same_value_equivalence = record { symmetric = same_symm; transitive = same_trans }

  module _ (kind : Kind) (pairs : List (Word × Word)) (elements : AreElements false semi.letters pairs) where
    abbrev pub Joins : Word → Word → Type 0
    Joins = SameElement semi.letters equal (value_of semi) kind pairs

    pub joins_value : (u v : Word) → Same u v → Joins u v
    joins_value u v h = record {
      left = h.left;
      right = h.right;
      related =
          joined_one (StepBy Same kind pairs) u v
          (inl (step_whole Same TwoSided u v h));
    }

    pub joins_pair : (p q : Word) → Contains pairs (p, q) → Joins p q
    joins_pair p q m =
        let both = side_element false semi.letters pairs p q elements (inl m) in
        record {
          left = both.0;
          right = both.1;
          related =
              joined_one (StepBy Same kind pairs) p q
              (inr (step_whole (EitherWay pairs) kind p q (inl m)));
        }

    pub joins_symm : (u v : Word) → Joins u v → Joins v u
    joins_symm u v h = record { left = h.right; right = h.left; related = (joined_congruence Same kind pairs same_symm).symmetric u v h.related }

    pub joins_trans : (u v w : Word) → Joins u v → Joins v w → Joins u w
    joins_trans u v w h j = record {
      left = h.left;
      right = j.right;
      related = (joined_congruence Same kind pairs same_symm).transitive u v w h.related j.related;
    }

    pub same_element_equivalence : IsPartialEquivalence Joins
    same_element_equivalence = record { symmetric = joins_symm; transitive = joins_trans }

    -- so an element has one normal form, and the classes one list
    pub same_element_normal : (u v w : Word) → IsNormal Joins u v → IsNormal Joins u w → v ≡ w
    same_element_normal = normal_unique Joins joins_symm joins_trans

    pub same_element_by_normal : (u v x y : Word) → IsNormal Joins u x → IsNormal Joins v y → Joins u v ↔ (x ≡ y)
    same_element_by_normal u v x y p q = (
      λ h. same_element_normal u x y p (record { related = joins_trans u v y h q.related; least = q.least }),
      λ e. joins_trans u x v p.related (subst (λ w. Joins w v) (sym e) (joins_symm v y q.related)),
    )

    pub same_element_list : (xs ys : List Word) → IsClassList Joins xs → IsClassList Joins ys → xs ≡ ys
    same_element_list = list_unique (IsLeast Joins) ◌≺◌ (shortlex_strict (IsLeast Joins)) None

    pub joins_kept : (x y u v : Word) → IsOver semi.letters x → IsOver semi.letters y → MayStand kind x y → Joins u v → Joins (x ++ (u ++ y)) (x ++ (v ++ y))
    joins_kept x y u v hx hy stands h = record {
      left = element_context semi.letters x u y hx h.left hy;
      right = element_context semi.letters x v y hx h.right hy;
      related = (joined_congruence Same kind pairs same_symm).kept x y stands u v h.related;
    }

    joins_behind : (u v : Word) (a : ℕ) → IsKeptOnRight kind → a < semi.letters → Joins u v → Joins (u ++ a ∷ []) (v ++ a ∷ [])
    joins_behind u v a m l h = joins_kept [] (a ∷ []) u v tt (l, tt) (stands_behind kind m (a ∷ [])) h

    joins_before : (u v : Word) (a : ℕ) → IsKeptOnLeft kind → a < semi.letters → Joins u v → Joins (a ∷ u) (a ∷ v)
    joins_before u v a m l h =
        subst₂ (λ p q. Joins (a ∷ p) (a ∷ q)) (append-nil u) (append-nil v) (joins_kept (a ∷ []) [] u v (l, tt) tt (stands_before kind m (a ∷ [])) h)

    -- Words stand for things that are multiplied by letters as words are, and what words of equal value or of a pair stand for is generated.
    module _ {X : Type 0} (right left : X → ℕ → X) (Given : X → X → Type 0) (Stands : Word → X → Type 0)
        (some : (u : Word) → IsElement false semi.letters u → (x : X) × Stands u x)
        (by_value : (u v : Word) (x y : X) → Same u v → Stands u x → Stands v y → Generated kind semi.letters right left Given x y)
        (by_pair : (p q : Word) (x y : X) → Contains pairs (p, q) → Stands p x → Stands q y → Generated kind semi.letters right left Given x y)
        (behind : (u : Word) (a : ℕ) (x : X) → a < semi.letters → Stands u x → Stands (u ++ a ∷ []) (right x a))
        (before : (u : Word) (a : ℕ) (x : X) → a < semi.letters → Stands u x → Stands (a ∷ u) (left x a)) where
      abbrev Gen : X → X → Type 0
      Gen = Generated kind semi.letters right left Given

      -- whatever the words stand for is generated
      abbrev Both : Word → Word → Type 0
      Both u v = (x y : X) → Stands u x → Stands v y → Generated kind semi.letters right left Given x y

      both_behind : IsKeptOnRight kind → (w u v : Word) → IsOver semi.letters w → IsElement false semi.letters u → IsElement false semi.letters v → Both u v
          → Both (u ++ w) (v ++ w)
      both_behind m [] u v hw hu hv h = subst₂ (λ p q. Both p q) (sym (append-nil u)) (sym (append-nil v)) h
      both_behind m (a ∷ w) u v hw hu hv h =
          subst₂ (λ p q. Both p q) (append_assoc u (a ∷ []) w) (append_assoc v (a ∷ []) w)
          (both_behind m w (u ++ a ∷ []) (v ++ a ∷ []) hw.1 (element_context semi.letters [] u (a ∷ []) tt hu (hw.0, tt))
          (element_context semi.letters [] v (a ∷ []) tt hv (hw.0, tt)) one)
        where
          one : Both (u ++ a ∷ []) (v ++ a ∷ [])
          one x y p q =
              let s = some u hu in
              let t = some v hv in
              let left_end =
              by_value (u ++ a ∷ []) (u ++ a ∷ []) x (right s.0 a) (same_refl (u ++ a ∷ []) (element_context semi.letters [] u (a ∷ []) tt hu (hw.0, tt))) p
              (behind u a s.0 hw.0 s.1) in
              let right_end =
              by_value (v ++ a ∷ []) (v ++ a ∷ []) (right t.0 a) y (same_refl (v ++ a ∷ []) (element_context semi.letters [] v (a ∷ []) tt hv (hw.0, tt)))
              (behind v a t.0 hw.0 t.1) q in
              transitive left_end (transitive (on_right s.0 t.0 a m hw.0 (h s.0 t.0 s.1 t.1)) right_end)

      both_before : IsKeptOnLeft kind → (w u v : Word) → IsOver semi.letters w → IsElement false semi.letters u → IsElement false semi.letters v → Both u v
          → Both (w ++ u) (w ++ v)
      both_before m [] u v hw hu hv h = h
      both_before m (a ∷ w) u v hw hu hv h = one (both_before m w u v hw.1 hu hv h)
        where
          inner : (u : Word) → IsElement false semi.letters u → IsElement false semi.letters (w ++ u)
          inner u hu = subst (λ z. IsElement false semi.letters (w ++ z)) (append-nil u) (element_context semi.letters w u [] hw.1 hu tt)

          outer : (u : Word) → IsElement false semi.letters u → IsElement false semi.letters (a ∷ (w ++ u))
          outer u hu = (λ e. cc, (hw.0, (inner u hu).1))

          one : Both (w ++ u) (w ++ v) → Both (a ∷ (w ++ u)) (a ∷ (w ++ v))
          one h x y p q =
              let s = some (w ++ u) (inner u hu) in
              let t = some (w ++ v) (inner v hv) in
              let left_end =
              by_value (a ∷ (w ++ u)) (a ∷ (w ++ u)) x (left s.0 a) (same_refl (a ∷ (w ++ u)) (outer u hu)) p (before (w ++ u) a s.0 hw.0 s.1) in
              let right_end =
              by_value (a ∷ (w ++ v)) (a ∷ (w ++ v)) (left t.0 a) y (same_refl (a ∷ (w ++ v)) (outer v hv)) (before (w ++ v) a t.0 hw.0 t.1) q in
              transitive left_end (transitive (on_left s.0 t.0 a m hw.0 (h s.0 t.0 s.1 t.1)) right_end)

      -- a pair in a context of its kind
      both_pair : (x p q y : Word) → MayStand kind x y → EitherWay pairs p q → IsOver semi.letters x → IsOver semi.letters y
          → Both (x ++ (p ++ y)) (x ++ (q ++ y))
      both_pair x p q y stands e hx hy =
          let sides = side_element false semi.letters pairs p q elements e in
          elim (kept_or_start kind x y stands) [
            | inl m ↦
                both_before m x (p ++ y) (q ++ y) hx (element_context semi.letters [] p y tt sides.0 hy) (element_context semi.letters [] q y tt sides.1 hy) (tail sides)
            | inr e ↦ subst (λ z. Both (z ++ (p ++ y)) (z ++ (q ++ y))) (sym e) (tail sides)
          ]
        where
          alone : Both p q
          alone s t h j = elim e [ inl m ↦ by_pair p q s t m h j | inr m ↦ symmetric (by_pair q p t s m j h) ]

          tail : IsElement false semi.letters p × IsElement false semi.letters q → Both (p ++ y) (q ++ y)
          tail sides = elim (kept_or_end kind x y stands) [
            | inl m ↦ both_behind m y p q hy sides.0 sides.1 alone
            | inr e ↦ subst (λ z. Both (p ++ z) (q ++ z)) (sym e) (subst₂ (λ a b. Both a b) (sym (append-nil p)) (sym (append-nil q)) alone)
          ]

      -- what joined words stand for is generated
      joins_generated : (u v : Word) → Joins u v → Both u v
      joins_generated u v h =
          (joined_least (StepBy Same kind pairs) (λ u v. IsElement false semi.letters u → IsElement false semi.letters v × Both u v)
          (λ u e. (e, λ x y p q. by_value u u x y (same_refl u e) p q))
          (λ u v w f g e. let one = f e in let two = g one.0 in (two.0, λ x y p q. let s = some v one.0 in transitive (one.1 x s.0 p s.1) (two.1 s.0 y s.1 q)))
          step u v h.related h.left).1
        where
          step : (u v : Word) → StepBy Same kind pairs u v → IsElement false semi.letters u → IsElement false semi.letters v × Both u v
          step u v s e = elim s [
            | inl a ↦ let here = value_kept semi laws u v a e in (
              here.right,
              λ x y p q. by_value u v x y here p q,
            )
            | inr b ↦ (
              element_step false semi.letters (EitherWay pairs) kind (λ r t d. (side_element false semi.letters pairs r t elements d).1) u v b e,
              let whole : IsOver semi.letters (b.before ++ (b.from ++ b.after)) = subst (λ w. IsOver semi.letters w) b.source e.1 in
                  subst₂ (λ p q. Both p q) (sym b.source) (sym b.target)
                  (both_pair b.before b.from b.to b.after b.place b.base (over_left semi.letters b.before (b.from ++ b.after) whole)
                  (over_right semi.letters b.from b.after (over_right semi.letters b.before (b.from ++ b.after) whole))),
            )
          ]

    -- u stands for its value, and for each value of the shape that is equal to it
    abbrev StandsForValue : Word → V → Type 0
    StandsForValue u x = IsElement false semi.letters u × HasShape x × IsTrue (equal (value_of semi u) x)

    stands_itself : (u : Word) → IsElement false semi.letters u → StandsForValue u (val u)
    stands_itself u e = (e, value_shape semi laws u e, laws.reflexive (val u))

    letter_element : (a : ℕ) → a < semi.letters → IsElement false semi.letters (a ∷ [])
    letter_element a l = (λ e. cc, (l, tt))

    stands_behind_value : (u : Word) (a : ℕ) (x : V) → a < semi.letters → StandsForValue u x → StandsForValue (u ++ a ∷ []) (product x (semi.generator a))
    stands_behind_value u a x l h = (
      element_context semi.letters [] u (a ∷ []) tt h.0 (l, tt),
      laws.shape x (semi.generator a) h.1 (semi.shaped a l),
      laws.transitive (val (u ++ a ∷ [])) (product (val u) (semi.generator a)) (product x (semi.generator a))
          (value_append semi laws u (a ∷ []) h.0 (letter_element a l))
          (laws.kept (val u) x (semi.generator a) (semi.generator a) (stands_itself u h.0).1 h.1 (semi.shaped a l) (semi.shaped a l) h.2 (laws.reflexive (semi.generator a))),
    )

    stands_before_value : (u : Word) (a : ℕ) (x : V) → a < semi.letters → StandsForValue u x → StandsForValue (a ∷ u) (product (semi.generator a) x)
    stands_before_value u a x l h = (
      (λ e. cc, (l, h.0.1)),
      laws.shape (semi.generator a) x (semi.shaped a l) h.1,
      laws.transitive (val (a ∷ u)) (product (semi.generator a) (val u)) (product (semi.generator a) x)
          (value_append semi laws (a ∷ []) u (letter_element a l) h.0)
          (laws.kept (semi.generator a) (semi.generator a) (val u) x (semi.shaped a l) (semi.shaped a l) (stands_itself u h.0).1 h.1 (laws.reflexive (semi.generator a)) h.2),
    )

    abbrev ByValues : V → V → Type 0
    ByValues = GeneratedValue semi kind pairs

    values_from : (u v : Word) → Joins u v → ByValues (val u) (val v)
    values_from u v h =
        joins_generated (λ x a. product x (semi.generator a)) (λ x a. product (semi.generator a) x)
        (GivenValue semi kind pairs)
        StandsForValue
        (λ u e. (val u, stands_itself u e)) by_value by_pair stands_behind_value stands_before_value
        u v h (val u) (val v) (stands_itself u h.left) (stands_itself v h.right)
      where
        by_value : (u v : Word) (x y : V) → Same u v → StandsForValue u x → StandsForValue v y → ByValues x y
        by_value u v x y s p q =
            given
            (inl
            (record { left = p.1; right = q.1; related = laws.transitive x (val u) y (laws.symmetric (val u) x p.2) (laws.transitive (val u) (val v) y s.related q.2) }))

        by_pair : (p q : Word) (x y : V) → Contains pairs (p, q) → StandsForValue p x → StandsForValue q y → ByValues x y
        by_pair p q x y m h j =
            let one : ByValues (val p) (val q) = given (inr (record { first = p; second = q; listed = m; left = refl; right = refl })) in
            transitive (by_value p p x (val p) (same_refl p h.0) h (stands_itself p h.0))
            (transitive one (by_value q q (val q) y (same_refl q j.0) (stands_itself q j.0) j))

    -- words that are joined stand for the values
    abbrev StandsJoined : V → V → Type 0
    StandsJoined x y = (u : Word) × (v : Word) × StandsForValue u x × StandsForValue v y × Joins u v

    -- values that are related are equal, or stood for by joined words
    abbrev EqualOrJoined : V → V → Type 0
    EqualOrJoined x y = Among HasShape (λ z w. IsTrue (equal z w)) x y ⊎ StandsJoined x y

    equal_or_joined : (x y : V) → ByValues x y → EqualOrJoined x y
    equal_or_joined x y =
        generated_least kind semi.letters (λ x a. product x (semi.generator a)) (λ x a. product (semi.generator a) x)
        (GivenValue semi kind pairs)
        EqualOrJoined at turn further on_right_side on_left_side
      where
        at : (x y : V) → GivenValue semi kind pairs x y → EqualOrJoined x y
        at x y (inl e) = inl e
        at x y (inr p) =
            let joins = joins_pair p.first p.second p.listed in
            inr (
              p.first,
              p.second,
              subst (λ z. StandsForValue p.first z) (sym p.left) (stands_itself p.first joins.left),
              subst (λ z. StandsForValue p.second z) (sym p.right) (stands_itself p.second joins.right),
              joins,
            )

        turn : (x y : V) → EqualOrJoined x y → EqualOrJoined y x
        turn x y (inl e) = inl (record { left = e.right; right = e.left; related = laws.symmetric x y e.related })
        turn x y (inr j) = inr (j.1, j.0, j.3, j.2, joins_symm j.0 j.1 j.4)

        moved : (u : Word) (x y : V) → StandsForValue u x → HasShape y → IsTrue (equal x y) → StandsForValue u y
        moved u x y h s e = (h.0, s, laws.transitive (val u) x y h.2 e)

        further : (x y z : V) → EqualOrJoined x y → EqualOrJoined y z → EqualOrJoined x z
        further x y z (inl e) (inl f) = inl (record { left = e.left; right = f.right; related = laws.transitive x y z e.related f.related })
        further x y z (inl e) (inr j) = inr (j.0, j.1, moved j.0 y x j.2 e.left (laws.symmetric x y e.related), j.3, j.4)
        further x y z (inr j) (inl f) = inr (j.0, j.1, j.2, moved j.1 y z j.3 f.right f.related, j.4)
        further x y z (inr j) (inr l) =
            let middle : Same j.1 l.0 = record {
              left = j.3.0;
              right = l.2.0;
              related = laws.transitive (val j.1) y (val l.0) j.3.2 (laws.symmetric (val l.0) y l.2.2);
            } in
            inr (j.0, l.1, j.2, l.3, joins_trans j.0 j.1 l.1 j.4 (joins_trans j.1 l.0 l.1 (joins_value j.1 l.0 middle) l.4))

        on_right_side : (x y : V) (a : ℕ) → IsKeptOnRight kind → a < semi.letters → EqualOrJoined x y
            → EqualOrJoined (product x (semi.generator a)) (product y (semi.generator a))
        on_right_side x y a m l (inl e) = inl (record {
          left = laws.shape x (semi.generator a) e.left (semi.shaped a l);
          right = laws.shape y (semi.generator a) e.right (semi.shaped a l);
          related = laws.kept x y (semi.generator a) (semi.generator a) e.left e.right (semi.shaped a l) (semi.shaped a l) e.related (laws.reflexive (semi.generator a));
        })
        on_right_side x y a m l (inr j) =
            inr (j.0 ++ a ∷ [], j.1 ++ a ∷ [], stands_behind_value j.0 a x l j.2, stands_behind_value j.1 a y l j.3, joins_behind j.0 j.1 a m l j.4)

        on_left_side : (x y : V) (a : ℕ) → IsKeptOnLeft kind → a < semi.letters → EqualOrJoined x y
            → EqualOrJoined (product (semi.generator a) x) (product (semi.generator a) y)
        on_left_side x y a m l (inl e) = inl (record {
          left = laws.shape (semi.generator a) x (semi.shaped a l) e.left;
          right = laws.shape (semi.generator a) y (semi.shaped a l) e.right;
          related = laws.kept (semi.generator a) (semi.generator a) x y (semi.shaped a l) (semi.shaped a l) e.left e.right (laws.reflexive (semi.generator a)) e.related;
        })
        on_left_side x y a m l (inr j) =
            inr (a ∷ j.0, a ∷ j.1, stands_before_value j.0 a x l j.2, stands_before_value j.1 a y l j.3, joins_before j.0 j.1 a m l j.4)

    values_to : (u v : Word) → IsElement false semi.letters u → IsElement false semi.letters v → ByValues (val u) (val v) → Joins u v
    values_to u v hu hv h = elim (equal_or_joined (val u) (val v) h) [
      | inl e ↦ joins_value u v (record { left = hu; right = hv; related = e.related })
      | inr j ↦
          let first : Same u j.0 = record { left = hu; right = j.2.0; related = laws.symmetric (val j.0) (val u) j.2.2 } in
          let last : Same j.1 v = record { left = j.3.0; right = hv; related = j.3.2 } in
          joins_trans u j.0 v (joins_value u j.0 first) (joins_trans j.0 j.1 v j.4 (joins_value j.1 v last))
    ]

    -- elements are related exactly where their values are
    pub same_element_by_values : (u v : Word) → IsElement false semi.letters u → IsElement false semi.letters v
        → SameElement semi.letters equal (value_of semi) kind pairs u v ↔ GeneratedValue semi kind pairs (value_of semi u) (value_of semi v)
    same_element_by_values u v hu hv = (values_from u v, values_to u v hu hv)

    module _ (t : Numbering semi) where
      abbrev StandsForNumber : Word → ℕ → Type 0
      StandsForNumber u i = IsNumberOf t i u

      abbrev ByNumbers : ℕ → ℕ → Type 0
      ByNumbers = GeneratedNumber t kind pairs

      numbers_from : (u v : Word) (i j : ℕ) → Joins u v → StandsForNumber u i → StandsForNumber v j → ByNumbers i j
      numbers_from u v i j h =
          joins_generated t.right t.left
          (GivenNumber t pairs)
          StandsForNumber
          t.numbered.all by_value by_pair behind before u v h i j
        where
          by_value : (u v : Word) (i j : ℕ) → Same u v → StandsForNumber u i → StandsForNumber v j → ByNumbers i j
          by_value u v i j s p q =
              given
              (inl (p.0, t.numbered.distinct i j p.0 q.0 (same_trans (t.word i) u (t.word j) (same_symm u (t.word i) p.1) (same_trans u v (t.word j) s q.1))))

          by_pair : (p q : Word) (i j : ℕ) → Contains pairs (p, q) → StandsForNumber p i → StandsForNumber q j → ByNumbers i j
          by_pair p q i j m h l = given (inr (record { first = p; second = q; listed = m; left = h; right = l }))

          behind : (u : Word) (a i : ℕ) → a < semi.letters → StandsForNumber u i → StandsForNumber (u ++ a ∷ []) (t.right i a)
          behind u a i l h =
              let next = t.numbered.on_right i a h.0 l in (
                next.0,
                same_trans (u ++ a ∷ []) (t.word i ++ a ∷ []) (t.word (t.right i a))
                    (value_kept_right semi laws u (t.word i) (a ∷ []) h.1 (l, tt)) next.1,
              )

          before : (u : Word) (a i : ℕ) → a < semi.letters → StandsForNumber u i → StandsForNumber (a ∷ u) (t.left i a)
          before u a i l h =
              let next = t.numbered.on_left i a h.0 l in (
                next.0,
                same_trans (a ∷ u) (a ∷ t.word i) (t.word (t.left i a))
                    (value_kept_left semi laws (a ∷ []) u (t.word i) h.1 (l, tt)) next.1,
              )

      numbers_to : (i j : ℕ) → ByNumbers i j → (i < t.count) × (j < t.count) × Joins (t.word i) (t.word j)
      numbers_to i j =
          generated_least kind semi.letters t.right t.left
          (GivenNumber t pairs)
          (λ i j. (i < t.count) × (j < t.count) × Joins (t.word i) (t.word j))
          at (λ i j h. (h.1, h.0, joins_symm (t.word i) (t.word j) h.2)) (λ i j l h g. (h.0, g.1, joins_trans (t.word i) (t.word j) (t.word l) h.2 g.2)) behind
          before
        where
          at : (i j : ℕ) → GivenNumber t pairs i j → (i < t.count) × (j < t.count) × Joins (t.word i) (t.word j)
          at i j (inl h) = (
            h.0,
            subst (λ m. m < t.count) h.1 h.0,
            subst (λ m. Joins (t.word i) (t.word m)) h.1 (joins_value (t.word i) (t.word i) (same_refl (t.word i) (t.numbered.elements i h.0))),
          )
          at i j (inr p) = (
            p.left.0,
            p.right.0,
            joins_trans (t.word i) p.first (t.word j) (joins_value (t.word i) p.first (same_symm p.first (t.word i) p.left.1))
                (joins_trans p.first p.second (t.word j) (joins_pair p.first p.second p.listed) (joins_value p.second (t.word j) p.right.1)),
          )

          behind : (i j a : ℕ) → IsKeptOnRight kind → a < semi.letters → (i < t.count) × (j < t.count) × Joins (t.word i) (t.word j)
              → (t.right i a < t.count) × (t.right j a < t.count) × Joins (t.word (t.right i a)) (t.word (t.right j a))
          behind i j a m l h =
              let p = t.numbered.on_right i a h.0 l in
              let q = t.numbered.on_right j a h.1 l in (
                p.0,
                q.0,
                joins_trans (t.word (t.right i a)) (t.word i ++ a ∷ []) (t.word (t.right j a))
                    (joins_value (t.word (t.right i a)) (t.word i ++ a ∷ []) (same_symm (t.word i ++ a ∷ []) (t.word (t.right i a)) p.1))
                    (joins_trans (t.word i ++ a ∷ []) (t.word j ++ a ∷ []) (t.word (t.right j a)) (joins_behind (t.word i) (t.word j) a m l h.2)
                    (joins_value (t.word j ++ a ∷ []) (t.word (t.right j a)) q.1)),
              )

          before : (i j a : ℕ) → IsKeptOnLeft kind → a < semi.letters → (i < t.count) × (j < t.count) × Joins (t.word i) (t.word j)
              → (t.left i a < t.count) × (t.left j a < t.count) × Joins (t.word (t.left i a)) (t.word (t.left j a))
          before i j a m l h =
              let p = t.numbered.on_left i a h.0 l in
              let q = t.numbered.on_left j a h.1 l in (
                p.0,
                q.0,
                joins_trans (t.word (t.left i a)) (a ∷ t.word i) (t.word (t.left j a))
                    (joins_value (t.word (t.left i a)) (a ∷ t.word i) (same_symm (a ∷ t.word i) (t.word (t.left i a)) p.1))
                    (joins_trans (a ∷ t.word i) (a ∷ t.word j) (t.word (t.left j a)) (joins_before (t.word i) (t.word j) a m l h.2)
                    (joins_value (a ∷ t.word j) (t.word (t.left j a)) q.1)),
              )

      -- elements are related exactly where the numbers of their values are
      pub same_element_by_numbers : (u v : Word) (i j : ℕ) → IsNumberOf t i u
          → IsNumberOf t j v
          → SameElement semi.letters equal (value_of semi) kind pairs u v ↔ GeneratedNumber t kind pairs i j
      same_element_by_numbers u v i j p q = (
        λ h. numbers_from u v i j h p q,
        λ h. joins_trans u (t.word i) v (joins_value u (t.word i) p.1) (joins_trans (t.word i) (t.word j) v (numbers_to i j h).2 (joins_value (t.word j) v (same_symm v (t.word j) q.1))),
      )

      -- merging: once the edges of each merge lead to linked numbers, no more is to be merged
      pub merges_are_all : (merges : List (ℕ × ℕ)) → AreMerges t kind pairs merges
          → (i j : ℕ) → GeneratedNumber t kind pairs i j ↔ Linked t.count merges i j
      merges_are_all merges h i j = (to i j, from)
        where
          right_linked : IsKeptOnRight kind → (a : ℕ) → a < semi.letters → {i j : ℕ} → Linked t.count merges i j → Linked t.count merges (t.right i a) (t.right j a)
          right_linked m a l (itself {i} b) = itself (t.numbered.on_right i a b l).0
          right_linked m a l (merge {i} {j} e) = h.on_right i j a m l e
          right_linked m a l (back x) = back (right_linked m a l x)
          right_linked m a l (on x y) = on (right_linked m a l x) (right_linked m a l y)

          left_linked : IsKeptOnLeft kind → (a : ℕ) → a < semi.letters → {i j : ℕ} → Linked t.count merges i j → Linked t.count merges (t.left i a) (t.left j a)
          left_linked m a l (itself {i} b) = itself (t.numbered.on_left i a b l).0
          left_linked m a l (merge {i} {j} e) = h.on_left i j a m l e
          left_linked m a l (back x) = back (left_linked m a l x)
          left_linked m a l (on x y) = on (left_linked m a l x) (left_linked m a l y)

          at : (i j : ℕ) → GivenNumber t pairs i j → Linked t.count merges i j
          at i j (inl same) = subst (λ x. Linked t.count merges i x) same.1 (itself same.0)
          at i j (inr p) = h.given i j p

          to : (i j : ℕ) → GeneratedNumber t kind pairs i j → Linked t.count merges i j
          to i j =
              generated_least kind semi.letters t.right t.left (GivenNumber t pairs) (Linked t.count merges) at (λ i j x. back x)
              (λ i j l x y. on x y) (λ i j a m l x. right_linked m a l x) (λ i j a m l x. left_linked m a l x)

          from : {i j : ℕ} → Linked t.count merges i j → GeneratedNumber t kind pairs i j
          from (itself b) = given (inl (b, refl))
          from (merge {i} {j} e) = h.sound i j e
          from (back x) = symmetric (from x)
          from (on x y) = transitive (from x) (from y)

      -- so elements are related exactly where the merges link their numbers
      pub same_element_by_merges : (merges : List (ℕ × ℕ)) → AreMerges t kind pairs merges
          → (u v : Word) (i j : ℕ) → IsNumberOf t i u
          → IsNumberOf t j v
          → SameElement semi.letters equal (value_of semi) kind pairs u v ↔ Linked t.count merges i j
      same_element_by_merges merges h u v i j p q =
          let numbers = same_element_by_numbers u v i j p q in
          let all = merges_are_all merges h i j in
          (λ e. all.0 (numbers.0 e), λ e. numbers.1 (all.1 e))
