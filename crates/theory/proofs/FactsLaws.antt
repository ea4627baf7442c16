-- The laws of what a partial table knows.
use Rattle.std.proofs.Common.{◌≡◌, ℕ, suc, List, [], ◌∷◌, ◌++◌, length, refl, sym, ◌∙◌, ap, subst, subst₂, append_assoc, append-nil, length-append, arith, ◌⊎◌, inl, inr, ◌↔◌, Contains}
use Rattle.std.proofs.lemmas.List.{same_from_push, nil_from_length}
use Rattle.theory.specs.Word.{Word, IsOver, IsPrefix}
use Rattle.theory.specs.Congruence.{Congruence, EitherWay, IsWellFormed, IsRightSided}
use Rattle.theory.specs.Chain.{MayStand, Step, StepBy, Chain, Related}
use Rattle.theory.specs.Facts.{Follows, Facts, HasFacts, Defines, Merged, AllDefined}
use Rattle.theory.proofs.PartLaws.{HasEach, has_parts, within_parts, follows_each, given, symmetric, transitive, extended, relation, pair}
use Rattle.theory.specs.declared.Kind.TheVariants.{TwoSided}
use Rattle.theory.proofs.Words.{over_append, over_left, over_right}
use Rattle.theory.proofs.Chains.{either_symm, related_congruence}
use Rattle.theory.proofs.Related.{element_over, side_element, step_over, related_behind, related_by_relation_at, related_by_pair, none_either}

-- what follows from G with relations read at the words U
abbrev pub Known : Congruence → (Word → Word → Type 0) → (Word → Type 0) → Word → Word → Type 0
Known c G U = Follows c.presentation.relations c.pairs G U

-- what follows lies within each relation that has each part
pub follows_least : (relations pairs : List (Word × Word)) (Given : Word → Word → Type 0) (U : Word → Type 0) (V : Word → Word → Type 0)
    → HasEach relations pairs Given U V → {u v : Word} → Follows relations pairs Given U u v → V u v
follows_least R P G U V h = within_parts R P G U V (has_parts R P G U V h)

-- it grows with what is given, and with the words where relations are read
pub follows_grow : (relations pairs : List (Word × Word)) (G H : Word → Word → Type 0) (U X : Word → Type 0)
    → ((u v : Word) → G u v → Follows relations pairs H X u v) → ((w : Word) → U w → X w) → (u v : Word) → Follows relations pairs G U u v
    → Follows relations pairs H X u v
follows_grow R P G H U X d m u v =
    follows_least R P G U (Follows R P H X) (record {
      given = d;
      symmetric = λ u v f. symmetric f;
      transitive = λ u v w f g. transitive f g;
      extended = λ u v a f g. extended u v a f g;
      relation = λ u w r s a f h e g k. relation u w r s a f (m w h) e g k;
      pair = λ r s a e g k. pair r s a e g k;
    })

-- what follows from what lies between is the same
pub follows_between : (relations pairs : List (Word × Word)) (G H : Word → Word → Type 0) (U : Word → Type 0)
    → ((u v : Word) → G u v → H u v) → ((u v : Word) → H u v → Follows relations pairs G U u v) → (u v : Word)
    → Follows relations pairs H U u v ↔ Follows relations pairs G U u v
follows_between R P G H U up down u v =
    (follows_grow R P H G U U down (λ w h. h) u v, follows_grow R P G H U U (λ x y g. given (up x y g)) (λ w h. h) u v)

-- merging is part of what follows
pub merged_follows : (relations pairs : List (Word × Word)) (G V : Word → Word → Type 0) (U : Word → Type 0) (x y : Word)
    → ((u v : Word) → V u v → Follows relations pairs G U u v) → Follows relations pairs G U x y → (u v : Word) → Merged V x y u v
    → Follows relations pairs G U u v
merged_follows R P G V U x y known one u v =
    follows_least [] [] (λ u v. V u v ⊎ ((u ≡ x) × (v ≡ y))) (λ w. ⊥) (Follows R P G U) (record {
      given = λ u v g. elim g [ inl h ↦ known u v h | inr e ↦ subst₂ (λ a b. Follows R P G U a b) (sym e.0) (sym e.1) one ];
      symmetric = λ u v f. symmetric f;
      transitive = λ u v w f g. transitive f g;
      extended = λ u v a f g. extended u v a f g;
      relation = λ u w r s a f m e g k. absurd m;
      pair = λ r s a e g k. absurd (none_either r (s ++ a ∷ []) e);
    })

-- Facts lies within each relation that has each part
pub facts_least : (c : Congruence) (D U : Word → Type 0) (V : Word → Word → Type 0)
    → HasEach c.presentation.relations c.pairs (Defines D) U V → {u v : Word} → Facts c D U u v → V u v
facts_least c D U = follows_least c.presentation.relations c.pairs (Defines D) U

-- what is defined at the start lies within a relation in which it is defined
pub defines_within : (D : Word → Type 0) (V : Word → Word → Type 0) → V [] [] → ((w : Word) → D w → V w w) → (u v : Word) → Defines D u v
    → V u v
defines_within D V empty words u v d = subst (λ x. V u x) d.0 (elim d.1 [ inl e ↦ subst (λ x. V x x) (sym e) empty | inr m ↦ words u m ])

-- and has them itself
pub empty_fact : (c : Congruence) (D U : Word → Type 0) → Facts c D U [] []
empty_fact c D U = given (refl, inl refl)

pub given_fact : (c : Congruence) (D U : Word → Type 0) (w : Word) → D w → Facts c D U w w
given_fact c D U w d = given (refl, inr d)

-- and within each that has the parts, which it has itself
pub facts_within : (c : Congruence) (D U : Word → Type 0) (V : Word → Word → Type 0) → HasFacts c D U V → {u v : Word} → Facts c D U u v → V u v
facts_within c D U = within_parts c.presentation.relations c.pairs (Defines D) U

pub facts_have : (c : Congruence) (D U : Word → Type 0) → HasFacts c D U (Facts c D U)
facts_have c D U =
    let all = follows_each c.presentation.relations c.pairs (Defines D) U in
    has_parts c.presentation.relations c.pairs (Defines D) U (Facts c D U) all

-- Facts grows with D and U
pub facts_grow : (c : Congruence) (D U D' U' : Word → Type 0) → ((w : Word) → D w → D' w) → ((w : Word) → U w → U' w) → (u v : Word)
    → Facts c D U u v → Facts c D' U' u v
facts_grow c D U D' U' d m =
    follows_grow c.presentation.relations c.pairs (Defines D) (Defines D') U U'
    (λ u v g. given (g.0, elim g.1 [ inl e ↦ inl e | inr h ↦ inr (d u h) ])) m

-- what follows from related words, wherever relations are read, lies within `~`
pub follows_related : (c : Congruence) (G : Word → Word → Type 0) (U : Word → Type 0) → IsRightSided c → ((u v : Word) → G u v → Related c u v)
    → (u v : Word) → Known c G U u v → Related c u v
follows_related c G U right known u v =
    follows_least c.presentation.relations c.pairs G U (Related c) (record {
      given = known;
      symmetric = (related_congruence c).symmetric;
      transitive = (related_congruence c).transitive;
      extended = λ u v a f g. related_behind c right u v (a ∷ []) f;
      relation = λ u w r s a f m e g k. related_by_relation_at c u r (s ++ a ∷ []) e;
      pair = λ r s a e g k. related_by_pair c r (s ++ a ∷ []) e;
    })

pub defines_related : (c : Congruence) (D : Word → Type 0) (u v : Word) → Defines D u v → Related c u v
defines_related c D = defines_within D (Related c) ((related_congruence c).reflexive []) (λ w d. (related_congruence c).reflexive w)

pub facts_related : (c : Congruence) (D U : Word → Type 0) → IsRightSided c → (u v : Word) → Facts c D U u v → Related c u v
facts_related c D U right = follows_related c (Defines D) U right (defines_related c D)

-- a word is empty, or a word and a last letter
pub last_letter : (u : Word) → (u ≡ []) ⊎ ((v : Word) × (a : ℕ) × (u ≡ v ++ a ∷ []))
last_letter [] = inl refl
last_letter (a ∷ u) = inr (elim (last_letter u) as (λ _. (v : Word) × (b : ℕ) × (a ∷ u ≡ v ++ b ∷ [])) [
  | inl e ↦ ([], a, ap (λ w. a ∷ w) e)
  | inr l ↦ (a ∷ l.0, l.1, ap (λ w. a ∷ w) l.2)
])

-- what every word's being defined, and related to a word of U, gives
module _ (c : Congruence) (G : Word → Word → Type 0) (U : Word → Type 0) (all : AllDefined c.presentation.letters (Known c G U)) where
  -- related words stay so under a word
  facts_behind : (y u v : Word) → IsOver c.presentation.letters (u ++ y) → Known c G U u v → Known c G U (u ++ y) (v ++ y)
  facts_behind [] u v over f = rw (append-nil, append-nil) f
  facts_behind (a ∷ y) u v over f =
      let over' : IsOver c.presentation.letters ((u ++ a ∷ []) ++ y) = rw append_assoc over in
      let next : Known c G U (u ++ a ∷ []) (v ++ a ∷ []) =
      extended u v a f (all (u ++ a ∷ []) (over_left c.presentation.letters (u ++ a ∷ []) y over')) in
      let both : Known c G U ((u ++ a ∷ []) ++ y) ((v ++ a ∷ []) ++ y) = facts_behind y (u ++ a ∷ []) (v ++ a ∷ []) over' next in
      subst₂ (λ p q. Known c G U p q) (append_assoc u (a ∷ []) y) (append_assoc v (a ∷ []) y) both

  -- the two sides of a pair
  facts_by_pair : (r s : Word) → IsOver c.presentation.letters r → IsOver c.presentation.letters s → EitherWay c.pairs r s → Known c G U r s
  facts_by_pair r s over_r over_s h = go (last_letter s) (last_letter r)
    where
      go : (s ≡ []) ⊎ ((v : Word) × (a : ℕ) × (s ≡ v ++ a ∷ [])) → (r ≡ []) ⊎ ((v : Word) × (a : ℕ) × (r ≡ v ++ a ∷ [])) → Known c G U r s
      go (inr l) end =
          let over : IsOver c.presentation.letters (l.0 ++ l.1 ∷ []) = subst (λ w. IsOver c.presentation.letters w) l.2 over_s in
          rw (l.2) (pair r l.0 l.1 (subst (λ w. EitherWay c.pairs r w) l.2 h) (all r over_r) (all l.0 (over_left c.presentation.letters l.0 (l.1 ∷ []) over)))
      go (inl e) (inr l) =
          let over : IsOver c.presentation.letters (l.0 ++ l.1 ∷ []) = subst (λ w. IsOver c.presentation.letters w) l.2 over_r in
          symmetric
          (rw (l.2)
          (pair s l.0 l.1 (subst (λ w. EitherWay c.pairs s w) l.2 (either_symm c.pairs r s h)) (all s over_s) (all l.0 (over_left c.presentation.letters l.0 (l.1 ∷ []) over))))
      go (inl e) (inl d) = rw (e, d) (all [] tt)

  -- two sides of a relation behind a word
  facts_by_relation : ((w : Word) → IsOver c.presentation.letters w → (v : Word) × U v × Known c G U w v) → (x r s : Word)
      → IsOver c.presentation.letters x → IsOver c.presentation.letters r → IsOver c.presentation.letters s
      → EitherWay c.presentation.relations r s → Known c G U (x ++ r) (x ++ s)
  facts_by_relation met x r s over_x over_r over_s h = go (last_letter s) (last_letter r)
    where
      k : ℕ
      k = c.presentation.letters

      go : (s ≡ []) ⊎ ((v : Word) × (a : ℕ) × (s ≡ v ++ a ∷ [])) → (r ≡ []) ⊎ ((v : Word) × (a : ℕ) × (r ≡ v ++ a ∷ []))
          → Known c G U (x ++ r) (x ++ s)
      go (inr l) end =
          let over : IsOver c.presentation.letters (l.0 ++ l.1 ∷ []) = subst (λ w. IsOver c.presentation.letters w) l.2 over_s in
          let at = met x over_x in
          rw (l.2) (relation x at.0 r l.0 l.1 at.2 at.1 (subst (λ w. EitherWay c.presentation.relations r w) l.2 h)
          (all (x ++ r) (over_append c.presentation.letters x r over_x over_r))
          (all (x ++ l.0) (over_append c.presentation.letters x l.0 over_x (over_left c.presentation.letters l.0 (l.1 ∷ []) over))))
      go (inl e) (inr l) =
          let over : IsOver c.presentation.letters (l.0 ++ l.1 ∷ []) = subst (λ w. IsOver c.presentation.letters w) l.2 over_r in
          let at = met x over_x in
          symmetric
          (rw (l.2) (relation x at.0 s l.0 l.1 at.2 at.1 (subst (λ w. EitherWay c.presentation.relations s w) l.2 (either_symm c.presentation.relations r s h))
          (all (x ++ s) (over_append c.presentation.letters x s over_x over_s))
          (all (x ++ l.0) (over_append c.presentation.letters x l.0 over_x (over_left c.presentation.letters l.0 (l.1 ∷ []) over)))))
      go (inl e) (inl d) = rw (e, d) (all (x ++ []) (over_append c.presentation.letters x [] over_x tt))

  -- then `~` lies within what follows
  pub facts_full : IsWellFormed c → IsRightSided c → ((w : Word) → IsOver c.presentation.letters w → (v : Word) × U v × Known c G U w v)
      → (u v : Word) → IsOver c.presentation.letters u → Related c u v → Known c G U u v
  facts_full is right met u v over h = go u h.0 over h.1
    where
      sides : (r s : Word) → EitherWay c.presentation.relations r s → IsOver c.presentation.letters r × IsOver c.presentation.letters s
      sides r s e =
          let both = side_element c.presentation.is_monoid c.presentation.letters c.presentation.relations r s is.relations e in (
            element_over c.presentation.is_monoid c.presentation.letters r both.0,
            element_over c.presentation.is_monoid c.presentation.letters s both.1,
          )

      pair_sides : (r s : Word) → EitherWay c.pairs r s → IsOver c.presentation.letters r × IsOver c.presentation.letters s
      pair_sides r s e =
          let both = side_element c.presentation.is_monoid c.presentation.letters c.pairs r s is.pairs e in (
            element_over c.presentation.is_monoid c.presentation.letters r both.0,
            element_over c.presentation.is_monoid c.presentation.letters s both.1,
          )

      by_relation : (u w : Word) → IsOver c.presentation.letters u → Step (EitherWay c.presentation.relations) TwoSided u w
          → Known c G U u w
      by_relation u w over a =
          let whole : IsOver c.presentation.letters (a.before ++ (a.from ++ a.after)) = subst (λ w. IsOver c.presentation.letters w) a.source over in
          let whole' : IsOver c.presentation.letters ((a.before ++ a.from) ++ a.after) = rw append_assoc whole in
          let one : Known c G U (a.before ++ a.from) (a.before ++ a.to) =
          facts_by_relation met a.before a.from a.to (over_left c.presentation.letters a.before (a.from ++ a.after) whole)
          (sides a.from a.to a.base).0 (sides a.from a.to a.base).1 a.base in
          let both : Known c G U ((a.before ++ a.from) ++ a.after) ((a.before ++ a.to) ++ a.after) =
          facts_behind a.after (a.before ++ a.from) (a.before ++ a.to) whole' one in
          subst₂ (λ p q. Known c G U p q) (append_assoc a.before a.from a.after ∙ sym a.source) (append_assoc a.before a.to a.after ∙ sym a.target)
          both

      by_pair : (u w : Word) → IsOver c.presentation.letters u → Step (EitherWay c.pairs) c.kind u w → Known c G U u w
      by_pair u w over b = elim right [
        | inl e ↦ fronted (subst (λ kind. MayStand kind b.before b.after) e b.place)
        | inr e ↦ absurd (none_either b.from b.to (subst (λ pairs. EitherWay pairs b.from b.to) e b.base))
      ]
        where
          fronted : b.before ≡ [] → Known c G U u w
          fronted e =
              let source : u ≡ b.from ++ b.after = b.source ∙ ap (λ x. x ++ (b.from ++ b.after)) e in
              let target : w ≡ b.to ++ b.after = b.target ∙ ap (λ x. x ++ (b.to ++ b.after)) e in
              let whole : IsOver c.presentation.letters (b.from ++ b.after) = subst (λ x. IsOver c.presentation.letters x) source over in
              let one : Known c G U b.from b.to =
              facts_by_pair b.from b.to (pair_sides b.from b.to b.base).0 (pair_sides b.from b.to b.base).1 b.base in
              subst₂ (λ p q. Known c G U p q) (sym source) (sym target) (facts_behind b.after b.from b.to whole one)

      step : (u w : Word) → IsOver c.presentation.letters u → StepBy (EitherWay c.presentation.relations) c.kind c.pairs u w
          → Known c G U u w × IsOver c.presentation.letters w
      step u w over h = elim h [
        | inl a ↦ (
          by_relation u w over a,
          step_over c.presentation.letters (EitherWay c.presentation.relations) TwoSided (λ r s e. (sides r s e).1) u w a over,
        )
        | inr b ↦ (by_pair u w over b, step_over c.presentation.letters (EitherWay c.pairs) c.kind (λ r s e. (pair_sides r s e).1) u w b over)
      ]

      go : (u : Word) (ws : List Word) → IsOver c.presentation.letters u
          → Chain (StepBy (EitherWay c.presentation.relations) c.kind c.pairs) u ws v → Known c G U u v
      go u [] over e = subst (λ x. Known c G U u x) e (all u over)
      go u (w ∷ ws) over chain =
          let first = step u w over chain.0 in
          transitive first.0 (go w ws first.1 chain.1)

-- related to a word of D
abbrev pub IsCovered : (Word → Type 0) → (Word → Word → Type 0) → Word → Type 0
IsCovered D V w = (x : Word) × D x × V w x

-- where what is given is between words that are related to words of D, so is all that follows
pub follows_covered : (c : Congruence) (G : Word → Word → Type 0) (U D : Word → Type 0)
    → ((u v : Word) → G u v → IsCovered D (Known c G U) u × IsCovered D (Known c G U) v) → (u v : Word) → Known c G U u v
    → IsCovered D (Known c G U) u × IsCovered D (Known c G U) v
follows_covered c G U D covered u v f = let all = follows_least c.presentation.relations c.pairs G U V have f in (all.1, all.2)
  where
    V : Word → Word → Type 0
    V u v = Known c G U u v × IsCovered D (Known c G U) u × IsCovered D (Known c G U) v

    have : HasEach c.presentation.relations c.pairs G U V
    have =
        record {
          given = λ u v g. let both = covered u v g in (given g, both.0, both.1);
          symmetric = λ u v f. (symmetric f.0, f.2, f.1);
          transitive = λ u v w f g. (transitive f.0 g.0, f.1, g.2);
          extended = λ u v a f g. let next = extended u v a f.0 g.0 in (next, g.1, (g.1.0, g.1.1, transitive (symmetric next) g.1.2));
          relation = λ u w r s a f m e g k. let next = relation u w r s a f.0 m e g.0 k.0 in (
            next,
            g.1,
            (g.1.0, g.1.1, transitive (symmetric next) g.1.2),
          );
          pair = λ r s a e g k. let next = pair r s a e g.0 k.0 in (next, g.1, (g.1.0, g.1.1, transitive (symmetric next) g.1.2));
        }

-- what is defined is related to itself, which is the empty word or a word of D
pub defines_covered : (D : Word → Type 0) (V : Word → Word → Type 0) → ((u v : Word) → Defines D u v → V u v) → (u v : Word) → Defines D u v
    → IsCovered (λ w. (w ≡ []) ⊎ D w) V u × IsCovered (λ w. (w ≡ []) ⊎ D w) V v
defines_covered D V within u v d =
    let here : IsCovered (λ w. (w ≡ []) ⊎ D w) V u = (u, d.1, within u u (refl, d.1)) in
    (here, subst (λ w. IsCovered (λ w. (w ≡ []) ⊎ D w) V w) d.0 here)

-- each defined word is related to the empty word or a word of D
pub facts_covered : (c : Congruence) (D : List Word) (U : Word → Type 0) → (u v : Word) → Facts c (Contains D) U u v
    → (w : Word) × Contains ([] ∷ D) w × Facts c (Contains D) U u w
facts_covered c D U u v f =
    let at =
    (follows_covered c (Defines (Contains D)) U (λ w. (w ≡ []) ⊎ Contains D w)
    (defines_covered (Contains D) (Facts c (Contains D) U) (λ x y d. given d)) u v f).0 in
    (at.0, listed at.0 at.1, at.2)
  where
    listed : (w : Word) → (w ≡ []) ⊎ Contains D w → Contains ([] ∷ D) w
    listed w (inl e) = (0, omega arith, sym e)
    listed w (inr m) = (suc m.0, omega (arith, m.1), m.2)

-- a prefix of a word and a last letter
pub prefix_last : (p v : Word) (a : ℕ) → IsPrefix p (v ++ a ∷ []) → IsPrefix p v ⊎ (p ≡ v ++ a ∷ [])
prefix_last p v a h =
    elim (last_letter h.after) [
      | inl e ↦ inr (sym (h.is ∙ ap (λ w. p ++ w) e ∙ append-nil p))
      | inr l ↦ inl (record {
        after = l.0;
        is = (same_from_push v (p ++ l.0) a l.1 (h.is ∙ ap (λ w. p ++ w) l.2 ∙ sym (append_assoc p l.0 (l.1 ∷ [])))).0;
      })
    ]

-- each prefix of w is defined
abbrev pub HasPrefixes : (Word → Word → Type 0) → Word → Type 0
HasPrefixes V w = (p : Word) → IsPrefix p w → V p p

-- the empty word's are, if it is defined itself
pub empty_prefixes : (V : Word → Word → Type 0) → V [] [] → HasPrefixes V []
empty_prefixes V empty p h = rw (nil_from_length p (omega (arith, length-append p h.after, ap length h.is))) empty

-- where what is given is between words whose prefixes are defined, so is all that follows
pub follows_prefixes : (c : Congruence) (G : Word → Word → Type 0) (U : Word → Type 0)
    → ((u v : Word) → G u v → HasPrefixes (Known c G U) u × HasPrefixes (Known c G U) v) → (u v : Word) → Known c G U u v
    → HasPrefixes (Known c G U) u × HasPrefixes (Known c G U) v
follows_prefixes c G U closed u v f = let all = follows_least c.presentation.relations c.pairs G U V have f in (all.1, all.2)
  where
    V : Word → Word → Type 0
    V u v = Known c G U u v × HasPrefixes (Known c G U) u × HasPrefixes (Known c G U) v

    more : (v : Word) (a : ℕ) → HasPrefixes (Known c G U) v → Known c G U (v ++ a ∷ []) (v ++ a ∷ []) → HasPrefixes (Known c G U) (v ++ a ∷ [])
    more v a prefixes whole p h = elim (prefix_last p v a h) [ inl q ↦ prefixes p q | inr e ↦ rw e whole ]

    itself : {u v : Word} → Known c G U u v → Known c G U v v
    itself f = transitive (symmetric f) f

    have : HasEach c.presentation.relations c.pairs G U V
    have =
        record {
          given = λ u v g. let both = closed u v g in (given g, both.0, both.1);
          symmetric = λ u v f. (symmetric f.0, f.2, f.1);
          transitive = λ u v w f g. (transitive f.0 g.0, f.1, g.2);
          extended = λ u v a f g. let next = extended u v a f.0 g.0 in (next, g.1, more v a f.2 (itself next));
          relation = λ u w r s a f m e g k. let next = relation u w r s a f.0 m e g.0 k.0 in
              (next, g.1, subst (λ x. HasPrefixes (Known c G U) x) (append_assoc u s (a ∷ [])) (more (u ++ s) a k.1 (rw append_assoc (itself next))));
          pair = λ r s a e g k. let next = pair r s a e g.0 k.0 in (next, g.1, more s a k.1 (itself next));
        }

-- where the prefixes of the words of D are defined, so are those of each defined word
pub defines_prefixes : (D : Word → Type 0) (V : Word → Word → Type 0) → V [] [] → ((w : Word) → D w → HasPrefixes V w) → (u v : Word)
    → Defines D u v → HasPrefixes V u × HasPrefixes V v
defines_prefixes D V empty words =
    defines_within D (λ u v. HasPrefixes V u × HasPrefixes V v) (empty_prefixes V empty, empty_prefixes V empty) (λ w d. (words w d, words w d))

pub facts_prefixes : (c : Congruence) (D U : Word → Type 0) → ((w : Word) → D w → HasPrefixes (Facts c D U) w) → (u v : Word) → Facts c D U u v
    → HasPrefixes (Facts c D U) u
facts_prefixes c D U words u v f =
    (follows_prefixes c (Defines D) U (defines_prefixes D (Facts c D U) (empty_fact c D U) words) u v f).0

-- related words are over the letters
pub facts_over : (c : Congruence) (D U : Word → Type 0) → IsWellFormed c → ((w : Word) → D w → IsOver c.presentation.letters w)
    → (u v : Word) → Facts c D U u v → IsOver c.presentation.letters u × IsOver c.presentation.letters v
facts_over c D U is over u v =
    facts_least c D U (λ u v. IsOver c.presentation.letters u × IsOver c.presentation.letters v) (record {
      given = defines_within D (λ u v. IsOver c.presentation.letters u × IsOver c.presentation.letters v) (tt, tt) (λ w d. (over w d, over w d));
      symmetric = λ u v f. (f.1, f.0);
      transitive = λ u v w f g. (f.0, g.1);
      extended = λ u v a f g. (g.0, over_append c.presentation.letters v (a ∷ []) f.1 (over_right c.presentation.letters u (a ∷ []) g.0));
      relation = λ u w r s a f m e g k.
          let side =
          element_over c.presentation.is_monoid c.presentation.letters (s ++ a ∷ [])
          (side_element c.presentation.is_monoid c.presentation.letters c.presentation.relations r (s ++ a ∷ []) is.relations e).1 in
          (g.0, over_append c.presentation.letters u (s ++ a ∷ []) f.0 side);
      pair =
          λ r s a e g k. (g.0, element_over c.presentation.is_monoid c.presentation.letters (s ++ a ∷ []) (side_element c.presentation.is_monoid c.presentation.letters c.pairs r (s ++ a ∷ []) is.pairs e).1);
    })
