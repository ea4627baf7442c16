-- Completion of aa = a, bb = b, ab = ba ends at length two, and not at one.
use Rattle.std.proofs.Common.{◌≡◌, ℕ, zero, suc, ◌<◌, ◌≤◌, List, [], ◌∷◌, ◌++◌, length, refl, sym, ◌∙◌, ap, ap₂, subst, subst₂, arith, ◌↔◌, inl, inr, Some, None, Option, All, length-append, append-nil}
use Rattle.std.proofs.lemmas.List.{nil_from_length}
use Rattle.std.proofs.lemmas.List.Elements.{All-cons, All-nil}
use Rattle.std.specs.declared.cmp.Ordering.TheVariants.{Less}
use Rattle.theory.specs.Word.{Word, IsOver}
use Rattle.theory.specs.ShortLex.{shortlex}
use Rattle.theory.specs.Chain.{Step}
use Rattle.theory.specs.Graph.{path}
use Rattle.theory.specs.LowIndex.{Rows, graph_of, IsCompatible}
use Rattle.theory.specs.Completion.{Within, relation, IsReduced, Joinable, OverlapsJoin, Rule, CompletionEnds, Listed, AreRules}
use Rattle.theory.specs.Examples.{a1, a2, b1, ab, ba, semilattice}
use Rattle.theory.specs.declared.Kind.TheVariants.{TwoSided}
use Rattle.theory.proofs.Counting.{IsIn, in_from_contains}
use Rattle.theory.proofs.Chains.{step_at, step_whole}
use Rattle.theory.proofs.CompletionLaws.{proper_shorter, within_left, within_related}
use Rattle.theory.proofs.Completed.{side_too_long}
use Rattle.theory.proofs.Completeness.{joinable_refl}
use Rattle.theory.proofs.RuleLists.{listed_overlaps, listed_rules}
use Rattle.theory.proofs.TableLaws.{presentation_related}
use Rattle.theory.proofs.TableClasses.{two_letters}
use Rattle.theory.proofs.ReversedExample.{below_four}

abbrev b2 : Word
b2 = 1 ∷ 1 ∷ []

abbrev the_rules : List (Word × Word)
the_rules = (a2, a1) ∷ (ba, ab) ∷ (b2, b1) ∷ []

-- a property of each rule
each_rule : (P : Word × Word → Type 0) → P (a2, a1) → P (ba, ab) → P (b2, b1) → (l r : Word) → Listed the_rules l r → P (l, r)
each_rule P x y z l r m = go (in_from_contains (l, r) the_rules m)
  where
    go : IsIn (l, r) the_rules → P (l, r)
    go (inl e) = subst P (sym e) x
    go (inr (inl e)) = subst P (sym e) y
    go (inr (inr (inl e))) = subst P (sym e) z
    go (inr (inr (inr h))) = absurd h

two_long : (l r : Word) → Listed the_rules l r → length l ≡ 2
two_long = each_rule (λ (p : Word × Word). length p.0 ≡ 2) refl refl refl

not_ab : (l r : Word) → Listed the_rules l r → l ≡ ab → ⊥
not_ab = each_rule (λ (p : Word × Word). p.0 ≡ ab → ⊥) (λ e. cc) (λ e. cc) (λ e. cc)

-- 1, a, b and ab are reduced
short_reduced : (u : Word) → length u ≤ 1 → IsReduced (Listed the_rules) u
short_reduced u h v s =
    omega (arith, two_long s.from s.to s.base, ap length s.source, length-append s.before (s.from ++ s.after), length-append s.from s.after)

ab_reduced : IsReduced (Listed the_rules) ab
ab_reduced v s = go s.before s.after s.source
  where
    go : (x y : Word) → ab ≡ x ++ (s.from ++ y) → ⊥
    go [] [] e = not_ab s.from s.to s.base (sym (append-nil s.from) ∙ sym e)
    go [] (b ∷ y) e = omega (arith, two_long s.from s.to s.base, ap length e, length-append s.from (b ∷ y))
    go (a ∷ x) y e = omega (arith, two_long s.from s.to s.base, ap length e, length-append x (s.from ++ y), length-append s.from y)

-- where a and b lead from 1, a, b and ab
abbrev rows : Rows
rows = (1 ∷ 2 ∷ []) ∷ (1 ∷ 3 ∷ []) ∷ (3 ∷ 2 ∷ []) ∷ (3 ∷ 3 ∷ []) ∷ []

nodes : All (λ m. m < 4) (1 ∷ 2 ∷ 1 ∷ 3 ∷ 3 ∷ 2 ∷ 3 ∷ 3 ∷ [])
nodes =
    All-cons (λ m. m < 4) 1 (2 ∷ 1 ∷ 3 ∷ 3 ∷ 2 ∷ 3 ∷ 3 ∷ []) (omega arith)
    (All-cons (λ m. m < 4) 2 (1 ∷ 3 ∷ 3 ∷ 2 ∷ 3 ∷ 3 ∷ []) (omega arith)
    (All-cons (λ m. m < 4) 1 (3 ∷ 3 ∷ 2 ∷ 3 ∷ 3 ∷ []) (omega arith)
    (All-cons (λ m. m < 4) 3 (3 ∷ 2 ∷ 3 ∷ 3 ∷ []) (omega arith)
    (All-cons (λ m. m < 4) 3 (2 ∷ 3 ∷ 3 ∷ []) (omega arith)
    (All-cons (λ m. m < 4) 2 (3 ∷ 3 ∷ []) (omega arith)
    (All-cons (λ m. m < 4) 3 (3 ∷ []) (omega arith)
    (All-cons (λ m. m < 4) 3 [] (omega arith) (All-nil (λ m. m < 4)))))))))

-- both words lead from each node to one node
abbrev Agrees : Word × Word → Type 0
Agrees p = (node : ℕ) → node < 4 → path (graph_of rows) node p.0 ≡ path (graph_of rows) node p.1

compatible : IsCompatible semilattice rows
compatible node r s l m = go (in_from_contains (r, s) semilattice.relations m) node l
  where
    go : IsIn (r, s) semilattice.relations → Agrees (r, s)
    go (inl e) = subst Agrees (sym e) (below_four (λ n. path (graph_of rows) n a2 ≡ path (graph_of rows) n a1) refl refl refl refl)
    go (inr (inl e)) = subst Agrees (sym e) (below_four (λ n. path (graph_of rows) n b2 ≡ path (graph_of rows) n b1) refl refl refl refl)
    go (inr (inr (inl e))) = subst Agrees (sym e) (below_four (λ n. path (graph_of rows) n ab ≡ path (graph_of rows) n ba) refl refl refl refl)
    go (inr (inr (inr h))) = absurd h

-- what is related within two letters leads to one node
same : (u v : Word) → Within semilattice 2 u v → path (graph_of rows) 0 u ≡ path (graph_of rows) 0 v
same u v w = presentation_related semilattice rows (omega arith) nodes compatible u v (within_related semilattice 2 w)

-- a reduced word of at most two letters is that of its node
abbrev word_at : Option ℕ → Word
word_at None = []
word_at (Some zero) = []
word_at (Some (suc zero)) = a1
word_at (Some (suc (suc zero))) = b1
word_at (Some (suc (suc (suc n)))) = ab

rule_applies : (l r : Word) → Listed the_rules l r → IsReduced (Listed the_rules) l → ⊥
rule_applies l r m h = h r (step_whole (Listed the_rules) TwoSided l r m)

reduced_is : (u : Word) → IsOver 2 u → length u ≤ 2 → IsReduced (Listed the_rules) u → u ≡ word_at (path (graph_of rows) 0 u)
reduced_is =
    two_letters (λ u. IsReduced (Listed the_rules) u → u ≡ word_at (path (graph_of rows) 0 u))
    (λ h. refl) (λ h. refl) (λ h. refl)
    (λ h. absurd (rule_applies a2 a1 (0, omega arith, refl) h)) (λ h. refl)
    (λ h. absurd (rule_applies ba ab (1, omega arith, refl) h)) (λ h. absurd (rule_applies b2 b1 (2, omega arith, refl) h))

are_rules : AreRules semilattice 2 the_rules
are_rules = record {
  related = each_rule (λ (p : Word × Word). Within semilattice 2 p.0 p.1)
      (relation (inl (0, omega arith, refl)) (record { over = (omega arith, (omega arith, tt)); short = omega arith })
      (record { over = (omega arith, tt); short = omega arith }))
      (relation (inr (2, omega arith, refl)) (record { over = (omega arith, (omega arith, tt)); short = omega arith })
      (record { over = (omega arith, (omega arith, tt)); short = omega arith }))
      (relation (inl (1, omega arith, refl)) (record { over = (omega arith, (omega arith, tt)); short = omega arith })
      (record { over = (omega arith, tt); short = omega arith }));
  falls = each_rule (λ (p : Word × Word). shortlex p.1 p.0 ≡ Less) refl refl refl;
  reduced =
      each_rule (λ (p : Word × Word). IsReduced (Listed the_rules) p.1) (short_reduced a1 (omega arith)) ab_reduced (short_reduced b1 (omega arith));
  apart = λ l r f g m n h. omega (arith, proper_shorter f l h, two_long l r m, two_long f g n);
  full = λ u v w hu hv.
      let fits = within_left semilattice 2 w in
      reduced_is u fits.0.over fits.0.short hu ∙ ap word_at (same u v w) ∙ sym (reduced_is v fits.1.over fits.1.short hv);
}

rule_step : (x l r y : Word) → Listed the_rules l r → Step (Listed the_rules) TwoSided (x ++ (l ++ y)) (x ++ (r ++ y))
rule_step = step_at (Listed the_rules)

-- aba and ba lead to ab, and so do ba and bab
baa_joins : Joinable (Listed the_rules) (0 ∷ 1 ∷ 0 ∷ []) ba
baa_joins = record {
  word = ab;
  left = ((0 ∷ 0 ∷ 1 ∷ []) ∷ ab ∷ [], (rule_step a1 ba ab [] (1, omega arith, refl), (rule_step [] a2 a1 b1 (0, omega arith, refl), refl)));
  right = (ab ∷ [], (rule_step [] ba ab [] (1, omega arith, refl), refl));
}

bba_joins : Joinable (Listed the_rules) ba (1 ∷ 0 ∷ 1 ∷ [])
bba_joins = record {
  word = ab;
  left = (ab ∷ [], (rule_step [] ba ab [] (1, omega arith, refl), refl));
  right = ((0 ∷ 1 ∷ 1 ∷ []) ∷ ab ∷ [], (rule_step [] ba ab b1 (1, omega arith, refl), (rule_step a1 b2 b1 [] (2, omega arith, refl), refl)));
}

-- two rules that overlap in a letter
overlap : (x y z : ℕ) (v w : Word) (p q f g : ℕ) (r s : Word) → ◌≡◌ {A = Word × Word} (x ∷ y ∷ [], v) (p ∷ q ∷ [], r)
    → ◌≡◌ {A = Word × Word} (y ∷ z ∷ [], w) (f ∷ g ∷ [], s) → (q ≡ f → Joinable (Listed the_rules) (r ++ g ∷ []) (p ∷ s))
    → Joinable (Listed the_rules) (v ++ z ∷ []) (x ∷ w)
overlap x y z v w p q f g r s e d j =
    let left : x ∷ y ∷ [] ≡ p ∷ q ∷ [] = ap (λ (t : Word × Word). t.0) e in
    let right : y ∷ z ∷ [] ≡ f ∷ g ∷ [] = ap (λ (t : Word × Word). t.0) d in
    let ex : x ≡ p = cc in
    let eq : y ≡ q = cc in
    let ef : y ≡ f = cc in
    let eg : z ≡ g = cc in
    let there : v ++ z ∷ [] ≡ r ++ g ∷ [] = ap₂ (λ (a : Word) (b : ℕ). a ++ b ∷ []) (ap (λ (t : Word × Word). t.1) e) eg in
    let here : x ∷ w ≡ p ∷ s = ap₂ (λ (a : ℕ) (b : Word). a ∷ b) ex (ap (λ (t : Word × Word). t.1) d) in
    subst₂ (λ a b. Joinable (Listed the_rules) a b) (sym there) (sym here) (j (sym eq ∙ ef))

triple : (x y z : ℕ) (v w : Word) → IsIn (x ∷ y ∷ [], v) the_rules → IsIn (y ∷ z ∷ [], w) the_rules
    → Joinable (Listed the_rules) (v ++ z ∷ []) (x ∷ w)
triple x y z v w (inl e) (inl d) = overlap x y z v w 0 0 0 0 a1 a1 e d (λ m. joinable_refl (Listed the_rules) a2)
triple x y z v w (inl e) (inr (inl d)) = overlap x y z v w 0 0 1 0 a1 ab e d (λ m. absurd (omega arith))
triple x y z v w (inl e) (inr (inr (inl d))) = overlap x y z v w 0 0 1 1 a1 b1 e d (λ m. absurd (omega arith))
triple x y z v w (inr (inl e)) (inl d) = overlap x y z v w 1 0 0 0 ab a1 e d (λ m. baa_joins)
triple x y z v w (inr (inl e)) (inr (inl d)) = overlap x y z v w 1 0 1 0 ab ab e d (λ m. absurd (omega arith))
triple x y z v w (inr (inl e)) (inr (inr (inl d))) = overlap x y z v w 1 0 1 1 ab b1 e d (λ m. absurd (omega arith))
triple x y z v w (inr (inr (inl e))) (inl d) = overlap x y z v w 1 1 0 0 b1 a1 e d (λ m. absurd (omega arith))
triple x y z v w (inr (inr (inl e))) (inr (inl d)) = overlap x y z v w 1 1 1 0 b1 ab e d (λ m. bba_joins)
triple x y z v w (inr (inr (inl e))) (inr (inr (inl d))) = overlap x y z v w 1 1 1 1 b1 b1 e d (λ m. joinable_refl (Listed the_rules) b2)
triple x y z v w (inr (inr (inr h))) k = absurd h
triple x y z v w h (inr (inr (inr k))) = absurd k

-- the right side of a rule by its left side
abbrev right_side : Word → Word
right_side [] = []
right_side (zero ∷ u) = a1
right_side (suc a ∷ []) = []
right_side (suc a ∷ zero ∷ u) = ab
right_side (suc a ∷ suc b ∷ u) = b1

right_is : (l r : Word) → Listed the_rules l r → r ≡ right_side l
right_is = each_rule (λ (p : Word × Word). p.1 ≡ right_side p.0) refl refl refl

joins : OverlapsJoin (Listed the_rules)
joins [] b c v w full r s =
    let none : c ≡ [] = nil_from_length c (omega (arith, two_long b v r, two_long (b ++ c) w s, length-append b c)) in
    let whole : b ≡ b ++ c = sym (ap (λ x. b ++ x) none ∙ append-nil b) in
    let one : v ++ c ≡ w = ap (λ x. v ++ x) none ∙ append-nil v ∙ right_is b v r ∙ ap right_side whole ∙ sym (right_is (b ++ c) w s) in
    subst (λ x. Joinable (Listed the_rules) (v ++ c) x) one (joinable_refl (Listed the_rules) (v ++ c))
joins (x ∷ a) [] c v w full r s = absurd (full refl)
joins (x ∷ []) (y ∷ []) [] v w full r s = absurd (omega (arith, two_long (y ∷ []) w s))
joins (x ∷ []) (y ∷ []) (z ∷ []) v w full r s =
    triple x y z v w (in_from_contains (x ∷ y ∷ [], v) the_rules r) (in_from_contains (y ∷ z ∷ [], w) the_rules s)
joins (x ∷ []) (y ∷ []) (z ∷ d ∷ c) v w full r s = absurd (omega (arith, two_long (y ∷ z ∷ d ∷ c) w s))
joins (x ∷ []) (y ∷ d ∷ b) c v w full r s = absurd (omega (arith, two_long (x ∷ y ∷ d ∷ b) v r))
joins (x ∷ d ∷ a) (y ∷ b) c v w full r s = absurd (omega (arith, two_long (x ∷ d ∷ (a ++ y ∷ b)) v r, length-append a (y ∷ b)))

abbrev Short : Word × Word → Type 0
Short r = (length r.0 ≤ 2) × (length r.1 ≤ 2)

-- completion ends at length two
pub semilattice_ends_at_two : CompletionEnds semilattice 2
semilattice_ends_at_two = record {
  fits =
      All-cons Short (a2, a1) ((b2, b1) ∷ (ab, ba) ∷ []) (omega arith, omega arith)
      (All-cons Short (b2, b1) ((ab, ba) ∷ []) (omega arith, omega arith) (All-cons Short (ab, ba) [] (omega arith, omega arith) (All-nil Short)));
  join = listed_overlaps semilattice 2 the_rules are_rules joins;
}

-- and not at one, where no relation fits
pub semilattice_needs_two : CompletionEnds semilattice 1 → ⊥
semilattice_needs_two = side_too_long semilattice 1 (record { side = a2; other = a1; known = inl (0, omega arith, refl); long = omega arith })

-- the rules at length two
pub semilattice_rules : (u v : Word) → Listed ((a2, a1) ∷ (ba, ab) ∷ (1 ∷ 1 ∷ [], b1) ∷ []) u v ↔ Rule semilattice 2 u v
semilattice_rules = listed_rules semilattice 2 the_rules are_rules
