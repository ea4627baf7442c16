-- The laws of classes.
use Rattle.std.proofs.Common.{suc, ◌≡◌, ℕ, ◌<◌, List, [], ◌∷◌, ◌++◌, length, sym, ◌∙◌, ap, subst, arith, ◌⊎◌, inl, inr, ◌↔◌, Option, Some, None}
use Rattle.theory.specs.Word.{Word}
use Rattle.theory.specs.ShortLex.{◌≺◌}
use Rattle.theory.specs.Listing.{IsAfter, IsAscending, IsStartOf, IsNext, IsStrictOrder}
use Rattle.theory.specs.Congruence.{Congruence}
use Rattle.theory.specs.Class.{SameClass, IsLeast, IsNormal, IsClassList, HasIndex, HasMoreThan, IsInfinite, IsReducedRule, RuleBefore, IsRuleList, Covers}
use Rattle.theory.proofs.Words.{order_cases, before_irrefl, before_trans, before_context}
use Rattle.theory.proofs.Chains.{related_congruence}
use Rattle.theory.proofs.Listings.{list_unique, start_no_longer, list_from_ascending, endless}
use Rattle.theory.proofs.Completeness.{normal_unique}
use Rattle.theory.proofs.Counting.{IsIn, AreApart, in_from_contains, pigeonhole}

-- short-lex is a strict order, whatever words are meant
pub shortlex_strict : (P : Word → Type 0) → IsStrictOrder P ◌≺◌
shortlex_strict P = record { cases = λ u v _ _. order_cases u v; irrefl = before_irrefl; trans = before_trans }

-- symmetric and transitive: an equivalence on the words that are related to themselves
pub record IsPartialEquivalence (R : Word → Word → Type 0) : Type 0 where
  pub symmetric : (u v : Word) → R u v → R v u
  pub transitive : (u v w : Word) → R u v → R v w → R u w

pub same_class_equivalence : (c : Congruence) → IsPartialEquivalence (SameClass c)
same_class_equivalence c =
    let known = related_congruence c in
    record {
      symmetric = λ u v h. record { left = h.right; right = h.left; related = known.symmetric u v h.related };
      transitive = λ u v w h k. record { left = h.left; right = k.right; related = known.transitive u v w h.related k.related };
    }

-- a word has one normal form
pub same_normal : (c : Congruence) (u v w : Word) → IsNormal (SameClass c) u v → IsNormal (SameClass c) u w → v ≡ w
same_normal c = normal_unique (SameClass c) (same_class_equivalence c).symmetric (same_class_equivalence c).transitive

-- a class has one least word
pub same_least : (c : Congruence) (u v : Word) → IsLeast (SameClass c) u → IsLeast (SameClass c) v → SameClass c u v → u ≡ v
same_least c u v p q h = same_normal c u u v (record { related = p.element; least = p }) (record { related = h; least = q })

-- two words are of one class exactly where their normal forms are one
pub same_class_by_normal : (c : Congruence) (u v x y : Word) → IsNormal (SameClass c) u x → IsNormal (SameClass c) v y
    → SameClass c u v ↔ (x ≡ y)
same_class_by_normal c u v x y p q =
    let known = same_class_equivalence c in (
      λ h. same_normal c u x y p (record { related = known.transitive u v y h q.related; least = q.least }),
      λ e. known.transitive u x v p.related (subst (λ w. SameClass c w v) (sym e) (known.symmetric v y q.related)),
    )

-- the class list is one, and so is the index
pub class_list_unique : (c : Congruence) (xs ys : List Word) → IsClassList (SameClass c) xs → IsClassList (SameClass c) ys → xs ≡ ys
class_list_unique c = list_unique (IsLeast (SameClass c)) ◌≺◌ (shortlex_strict (IsLeast (SameClass c))) None

pub index_unique : (c : Congruence) (m n : ℕ) → HasIndex (SameClass c) m → HasIndex (SameClass c) n → m ≡ n
index_unique c m n p q = sym p.2 ∙ ap length (class_list_unique c p.0 q.0 p.1 q.1) ∙ q.2

-- no index is more than itself
pub index_bound : (c : Congruence) (n m : ℕ) → HasIndex (SameClass c) n → HasMoreThan (SameClass c) m → m < n
index_bound c n m p q =
    omega (arith, p.2, q.2, start_no_longer (IsLeast (SameClass c)) ◌≺◌ (shortlex_strict (IsLeast (SameClass c))) None p.0 q.0 p.1 q.1)

pub finite_not_infinite : (c : Congruence) (n : ℕ) → HasIndex (SameClass c) n → IsInfinite (SameClass c) → ⊥
finite_not_infinite c n p q = omega (arith, index_bound c n n p (q n))

after_later : (cursor : Option Word) (x y : Word) → IsAfter ◌≺◌ cursor x → x ≺ y → IsAfter ◌≺◌ cursor y
after_later None x y h l = tt
after_later (Some u) x y h l = before_trans u x y h l

-- the words of a beginning come after its cursor, and are apart
pub start_apart : (R : Word → Word → Type 0) → IsPartialEquivalence R → (cursor : Option Word) (xs : List Word)
    → IsStartOf (IsLeast R) ◌≺◌ cursor xs → AreApart R xs × ((x : Word) → IsIn x xs → IsLeast R x × IsAfter ◌≺◌ cursor x)
start_apart R known cursor [] p = (tt, λ x h. absurd h)
start_apart R known cursor (x ∷ xs) p =
    let rest = start_apart R known (Some x) xs p.1 in (
      (λ y w m r s. (rest.1 y m).0.none_less x (known.transitive y w x s (known.symmetric x w r)) (rest.1 y m).1, rest.0),
      λ y m. elim m [
        | inl e ↦ (subst (λ z. IsLeast R z) (sym e) p.0.has, subst (λ z. IsAfter ◌≺◌ cursor z) (sym e) p.0.after)
        | inr n ↦ ((rest.1 y n).0, after_later cursor x y p.0.after (rest.1 y n).1)
      ],
    )

-- words that cover the classes bound their number
pub covers_bound : (c : Congruence) (ws : List Word) (n : ℕ) → Covers (SameClass c) ws → HasMoreThan (SameClass c) n → n < length ws
covers_bound c ws n covers more =
    let start = start_apart (SameClass c) (same_class_equivalence c) None more.0 more.1 in
    let covered : (x : Word) → IsIn x more.0 → (w : Word) × IsIn w ws × SameClass c x w = λ x m.
    let at = covers x (start.1 x m).0.element in
    (at.0, in_from_contains at.0 ws at.1, at.2) in
    omega (arith, pigeonhole (SameClass c) more.0 ws start.0 covered, more.2)

-- least words that cover the classes, in order, are the class list
pub list_from_least : (R : Word → Word → Type 0) → IsPartialEquivalence R → (ws : List Word) → IsAscending ◌≺◌ None ws
    → ((w : Word) → IsIn w ws → IsLeast R w) → ((u : Word) → R u u → (w : Word) × IsIn w ws × R u w) → IsClassList R ws
list_from_least R known ws ascending least covers =
    list_from_ascending (IsLeast R) ◌≺◌ (shortlex_strict (IsLeast R)) None ws ascending least (λ y h _. all y h)
  where
    all : (y : Word) → IsLeast R y → IsIn y ws
    all y h =
        let at = covers y h.element in
        elim (order_cases y at.0) [
          | inl l ↦ absurd ((least at.0 at.1).none_less y (known.symmetric y at.0 at.2) l)
          | inr (inl e) ↦ subst (λ w. IsIn w ws) (sym e) at.1
          | inr (inr g) ↦ absurd (h.none_less at.0 at.2 g)
        ]

-- a part of a least word is least, where the relation is kept in the context round it
pub least_part : (R : Word → Word → Type 0) (x f y : Word) → ((v : Word) → R f v → R (x ++ (f ++ y)) (x ++ (v ++ y))) → R f f
    → IsLeast R (x ++ (f ++ y)) → IsLeast R f
least_part R x f y kept here h = record {
  element = here;
  none_less = λ v r less. h.none_less (x ++ (v ++ y)) (kept v r) (before_context x v f y less);
}

-- reduced rules are in a strict order, and their list is one
pub rule_order : (R : Word → Word → Type 0) → IsPartialEquivalence R → IsStrictOrder (λ p. IsReducedRule R p.0 p.1) RuleBefore
rule_order R known = record { cases = cases; irrefl = λ p. before_irrefl p.0; trans = λ p q r. before_trans p.0 q.0 r.0 }
  where
    cases : (p q : Word × Word) → IsReducedRule R p.0 p.1 → IsReducedRule R q.0 q.1 → RuleBefore p q ⊎ ((p ≡ q) ⊎ RuleBefore q p)
    cases p q h k = elim (order_cases p.0 q.0) [
      | inl l ↦ inl l
      | inr (inr g) ↦ inr (inr g)
      | inr (inl e) ↦
          let right : p.1 ≡ q.1 =
          normal_unique R known.symmetric known.transitive p.0 p.1 q.1 h.normal (subst (λ w. IsNormal R w q.1) (sym e) k.normal) in
          inr (inl (λ i. (e i, right i)))
    ]

pub rule_list_unique : (c : Congruence) (ps qs : List (Word × Word)) → IsRuleList (SameClass c) ps → IsRuleList (SameClass c) qs → ps ≡ qs
rule_list_unique c = list_unique (λ p. IsReducedRule (SameClass c) p.0 p.1) RuleBefore (rule_order (SameClass c) (same_class_equivalence c)) None

-- where each least word has a greater one, the classes are infinitely many
pub infinite_from_next : (c : Congruence) → ((cursor : Option Word) → (u : Word) × IsNext (IsLeast (SameClass c)) ◌≺◌ cursor u)
    → IsInfinite (SameClass c)
infinite_from_next c next n =
    let start = endless (IsLeast (SameClass c)) ◌≺◌ (shortlex_strict (IsLeast (SameClass c))) next None (suc n) in
    (start.0, start.1, omega (arith, start.2))
