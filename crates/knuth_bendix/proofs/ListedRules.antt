-- Listed rules, their places and their left sides.
use Rattle.std.proofs.Common.{◌≡◌, ℕ, ◌<◌, List, [], ◌∷◌, ◌++◌, length, get_or, refl, sym, ◌∙◌, ap, subst, arith, inl, inr}
use Rattle.std.proofs.lemmas.List.{get_or-map, length-map}
use Rattle.theory.specs.Word.{Word, IsFactor}
use Rattle.theory.specs.Completion.{IsReduced, Listed}
use Rattle.theory.proofs.Counting.{IsIn, in_from_contains, contains_from_in}
use Rattle.knuth_bendix.specs.Held.{lefts}
use Rattle.knuth_bendix.specs.Overlaps.{rule_at}

-- the left side of a listed rule is listed
pub left_in : (p : Word × Word) (rules : List (Word × Word)) → IsIn p rules → IsIn p.0 (lefts rules)
left_in p (q ∷ rules) (inl e) = inl (ap (λ (r : Word × Word). r.0) e)
left_in p (q ∷ rules) (inr m) = inr (left_in p rules m)
left_in p [] m = absurd m

-- a listed left side is that of a listed rule
pub rule_of_left : (f : Word) (rules : List (Word × Word)) → IsIn f (lefts rules) → (r : Word) × IsIn (f, r) rules
rule_of_left f (q ∷ rules) (inl e) = (q.1, inl (ap (λ g. (g, q.1)) e))
rule_of_left f (q ∷ rules) (inr m) = let r = rule_of_left f rules m in (r.0, inr r.1)
rule_of_left f [] m = absurd m

-- rules that list the same left sides have as many rules, with the same left side at each place
pub lefts_length : (a b : List (Word × Word)) → lefts b ≡ lefts a → length b ≡ length a
lefts_length a b e = sym (length-map b (λ (r : Word × Word). r.0)) ∙ ap length e ∙ length-map a (λ (r : Word × Word). r.0)

pub lefts_at : (a b : List (Word × Word)) → lefts b ≡ lefts a → (i : ℕ) → i < length b → (rule_at b i).0 ≡ (rule_at a i).0
lefts_at a b e i less =
    let first : i < length a = omega (arith, lefts_length a b e) in
    sym (get_or-map (λ (r : Word × Word). r.0) b i ([], []) [] less) ∙ ap (λ (fs : List Word). get_or fs i []) e
    ∙ get_or-map (λ (r : Word × Word). r.0) a i ([], []) [] first

-- a rule applies where its left side stands
pub factor_applies : (rules : List (Word × Word)) (x f g : Word) → Listed rules f g → IsFactor f x → IsReduced (Listed rules) x → ⊥
factor_applies rules x f g m h reduced =
    reduced (h.before ++ (g ++ h.after)) (record {
      before = h.before;
      from = f;
      to = g;
      after = h.after;
      base = m;
      place = tt;
      source = h.is;
      target = refl;
    })

-- which words are reduced depends on the left sides alone
pub reduced_by_lefts : (a b : List (Word × Word)) → lefts b ≡ lefts a → (u : Word) → IsReduced (Listed a) u → IsReduced (Listed b) u
reduced_by_lefts a b e u h v s =
    let here = left_in (s.from, s.to) b (in_from_contains (s.from, s.to) b s.base) in
    let rule = rule_of_left s.from a (subst (λ fs. IsIn s.from fs) e here) in
    h (s.before ++ (rule.0 ++ s.after)) (record {
      before = s.before;
      from = s.from;
      to = rule.0;
      after = s.after;
      base = contains_from_in (s.from, rule.0) a rule.1;
      place = tt;
      source = s.source;
      target = refl;
    })
