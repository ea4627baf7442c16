-- The parts of what a table knows, one by one.
use Rattle.std.proofs.Common.{ℕ, List, [], ◌∷◌, ◌++◌, refl, sym, ap, subst₂, Contains, inl, inr, arith}
use Rattle.theory.specs.Word.{Word}
use Rattle.theory.specs.Congruence.{EitherWay}
use Rattle.theory.specs.Facts as facts
use Rattle.theory.specs.Facts.{Part, HasParts, Follows, from_facts}
use Rattle.theory.proofs.Counting.{IsIn, in_from_contains}

-- V has each part
pub record HasEach (relations pairs : List (Word × Word)) (Given : Word → Word → Type 0) (U : Word → Type 0) (V : Word → Word → Type 0) : Type 0 where
  pub given : (u v : Word) → Given u v → V u v
  pub symmetric : (u v : Word) → V u v → V v u
  pub transitive : (u v w : Word) → V u v → V v w → V u w
  pub extended : (u v : Word) (a : ℕ) → V u v → V (u ++ a ∷ []) (u ++ a ∷ []) → V (u ++ a ∷ []) (v ++ a ∷ [])
  pub relation : (u w r s : Word) (a : ℕ) → V u w → U w → EitherWay relations r (s ++ a ∷ [])
      → V (u ++ r) (u ++ r) → V (u ++ s) (u ++ s) → V (u ++ r) (u ++ (s ++ a ∷ []))
  pub pair : (r s : Word) (a : ℕ) → EitherWay pairs r (s ++ a ∷ []) → V r r → V s s → V r (s ++ a ∷ [])

module _ (R P : List (Word × Word)) (G : Word → Word → Type 0) (U : Word → Type 0) where
  -- then it has its parts
  pub has_parts : (V : Word → Word → Type 0) → HasEach R P G U V → HasParts R P G U V
  has_parts V h u v p = go p
    where
      go : {u v : Word} → Part R P G U V u v → V u v
      go (facts.given {u} {v} g) = h.given u v g
      go (facts.symmetric {u} {v} f) = h.symmetric u v f
      go (facts.transitive {u} {v} {w} f g) = h.transitive u v w f g
      go (facts.extended u v a f g) = h.extended u v a f g
      go (facts.relation u w r s a f m e g k) = h.relation u w r s a f m e g k
      go (facts.pair r s a e g k) = h.pair r s a e g k

  -- the parts grow with V
  parts_grow : (V W : Word → Word → Type 0) → ((u v : Word) → V u v → W u v) → {u v : Word} → Part R P G U V u v → Part R P G U W u v
  parts_grow V W more (facts.given g) = facts.given g
  parts_grow V W more (facts.symmetric {u} {v} f) = facts.symmetric (more u v f)
  parts_grow V W more (facts.transitive {u} {v} {w} f g) = facts.transitive (more u v f) (more v w g)
  parts_grow V W more (facts.extended u v a f g) = facts.extended u v a (more u v f) (more (u ++ a ∷ []) (u ++ a ∷ []) g)
  parts_grow V W more (facts.relation u w r s a f m e g k) =
      facts.relation u w r s a (more u w f) m e (more (u ++ r) (u ++ r) g) (more (u ++ s) (u ++ s) k)
  parts_grow V W more (facts.pair r s a e g k) = facts.pair r s a e (more r r g) (more s s k)

  -- what follows lies within each relation that has its parts
  pub within_parts : (V : Word → Word → Type 0) → HasParts R P G U V → {u v : Word} → Follows R P G U u v → V u v
  within_parts V has (from_facts {u} {v} facts follow p) =
      has u v (parts_grow (λ x y. Contains facts (x, y)) V (λ x y m. within_parts V has (follow x y m)) p)

  none : (x y : Word) → IsIn {X = Word × Word} (x, y) [] → Follows R P G U x y
  none x y m = absurd m

  more : (u v : Word) (facts : List (Word × Word)) → Follows R P G U u v → ((x y : Word) → IsIn {X = Word × Word} (x, y) facts → Follows R P G U x y)
      → (x y : Word) → IsIn {X = Word × Word} (x, y) ((u, v) ∷ facts) → Follows R P G U x y
  more u v facts f all x y (inl e) = subst₂ (Follows R P G U) (sym (ap (λ (p : Word × Word). p.0) e)) (sym (ap (λ (p : Word × Word). p.1) e)) f
  more u v facts f all x y (inr m) = all x y m

  from : {u v : Word} (facts : List (Word × Word)) → ((x y : Word) → IsIn {X = Word × Word} (x, y) facts → Follows R P G U x y)
      → Part R P G U (λ x y. Contains facts (x, y)) u v → Follows R P G U u v
  from facts all p = from_facts facts (λ x y m. all x y (in_from_contains (x, y) facts m)) p

  -- and has its parts itself
  pub follows_each : HasEach R P G U (Follows R P G U)
  follows_each = record {
    given = λ u v g. from [] none (facts.given g);
    symmetric = λ u v f. from ((u, v) ∷ []) (more u v [] f none) (facts.symmetric (0, omega arith, refl));
    transitive = λ u v w f g.
        from ((u, v) ∷ (v, w) ∷ []) (more u v ((v, w) ∷ []) f (more v w [] g none))
        (facts.transitive (0, omega arith, refl) (1, omega arith, refl));
    extended = λ u v a f g. let next : Word = u ++ a ∷ [] in
        from ((u, v) ∷ (next, next) ∷ []) (more u v ((next, next) ∷ []) f (more next next [] g none))
        (facts.extended u v a (0, omega arith, refl) (1, omega arith, refl));
    relation = λ u w r s a f m e g k. let left : Word = u ++ r in let right : Word = u ++ s in
        from ((u, w) ∷ (left, left) ∷ (right, right) ∷ [])
        (more u w ((left, left) ∷ (right, right) ∷ []) f (more left left ((right, right) ∷ []) g (more right right [] k none)))
        (facts.relation u w r s a (0, omega arith, refl) m e (1, omega arith, refl) (2, omega arith, refl));
    pair = λ r s a e g k.
        from ((r, r) ∷ (s, s) ∷ []) (more r r ((s, s) ∷ []) g (more s s [] k none))
        (facts.pair r s a e (0, omega arith, refl) (1, omega arith, refl));
  }

-- so each part of what follows does
module _ {R P : List (Word × Word)} {G : Word → Word → Type 0} {U : Word → Type 0} where
  pub given : {u v : Word} → G u v → Follows R P G U u v
  given {u} {v} = (follows_each R P G U).given u v

  pub symmetric : {u v : Word} → Follows R P G U u v → Follows R P G U v u
  symmetric {u} {v} = (follows_each R P G U).symmetric u v

  pub transitive : {u v w : Word} → Follows R P G U u v → Follows R P G U v w → Follows R P G U u w
  transitive {u} {v} {w} = (follows_each R P G U).transitive u v w

  pub extended : (u v : Word) (a : ℕ) → Follows R P G U u v → Follows R P G U (u ++ a ∷ []) (u ++ a ∷ []) → Follows R P G U (u ++ a ∷ []) (v ++ a ∷ [])
  extended = (follows_each R P G U).extended

  pub relation : (u w r s : Word) (a : ℕ) → Follows R P G U u w → U w → EitherWay R r (s ++ a ∷ []) → Follows R P G U (u ++ r) (u ++ r)
      → Follows R P G U (u ++ s) (u ++ s) → Follows R P G U (u ++ r) (u ++ (s ++ a ∷ []))
  relation = (follows_each R P G U).relation

  pub pair : (r s : Word) (a : ℕ) → EitherWay P r (s ++ a ∷ []) → Follows R P G U r r → Follows R P G U s s → Follows R P G U r (s ++ a ∷ [])
  pair = (follows_each R P G U).pair
