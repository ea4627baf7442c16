-- What a completion logs, step by step.
use Rattle.std.proofs.Common.{◌≡◌, ℕ, zero, suc, min, ◌+◌, ◌-◌, ◌<◌, ◌≤◌, Bool, true, false, cond, ◌==◌, inl, inr, List, [], ◌∷◌, ◌++◌, map, reverse, take, drop, length, get_or, set, refl, sym, ◌∙◌, ap, ap₂, subst, subst₂, arith, append_assoc, Equal, Option, None, Some, option_map, slice_get, is_some, IsTrue, MatchOption, length-take, take-append-drop}
use Rattle.std.specs.Bool.{Decides}
use Rattle.std.specs.Cmp.{unsigned_Decides}
use Rattle.std.specs.Cmp.Lexicographic.{pointwise, pointwise_decides}
use Rattle.std.specs.List.{Contains}
use Rattle.std.specs.List.Sorted.{IsPermutation}
use Rattle.std.proofs.lemmas.List.{append-nil, get_or_default, map-append}
use Rattle.std.proofs.lemmas.List.Elements.{All-head, All-nil, All-set, All-tail, All-weaker, Contains-append_left, Contains-append_right, Contains-get_or, Contains-push}
use Rattle.std.proofs.lemmas.List.Sorted.{All-permutation}
use Rattle.std.proofs.lemmas.Bool.{cases_Bool, cases_lt}
use Rattle.std.proofs.lemmas.Bool.Decides.{Decides-and}
use Rattle.std.proofs.lemmas.Option.{get_or_from_slice_get, same_Some, slice_get_within}
use Rattle.theory.specs.Word.{Word}
use Rattle.theory.specs.Congruence.{Presentation}
use Rattle.theory.specs.PlacedStep.{Gives, AllGive, LeadTo, last_word, read_sides}
use Rattle.theory.specs.ShortLex.{◌≺◌, shortlex}
use Rattle.theory.proofs.Words.{before_irrefl, before_trans, shortlex_exact}
use Rattle.chains.specs.Chains.{steps_of}
use Rattle.chains.specs.Derivations.{Derived, all_of, pair_of, turned}
use Rattle.chains.proofs.DerivationLaws.{leads_around, leads_once, leads_once_back, leads_there_and_back}
use Rattle.chains.specs.declared.derivations.Fact.{Fact}
use Rattle.chains.specs.declared.steps.ChainStep.{ChainStep}
use Rattle.rewriting.specs.Traces.{LeadBy, as_relations, step_of}
use Rattle.rewriting.specs.declared.traces.Applied.{Applied}
use Rattle.knuth_bendix.specs.declared.logs.Facts.{Facts}
use Rattle.knuth_bendix.specs.Logs.{AreFor, AreLogged, AreNumbersOf, Grows, IsFor, IsLogOf, IsLogged, KeepsLog, LogsHeld, LogsRule, Shows, same_words}
use Rattle.knuth_bendix.specs.Overlaps.{critical_pair, overlaps_by, rule_at}
use Rattle.knuth_bendix.specs.Runs.{AreShortRelations}

-- facts may be added one after another
pub grows_none : (log : Option Derived) → Grows log log
grows_none None = refl
grows_none (Some d) = ([], ap (λ (fs : List Fact). Some (record { presentation = d.presentation; facts = fs })) (sym (append-nil d.facts)))

pub grows_after : (a b c : Option Derived) → Grows a b → Grows b c → Grows a c
grows_after None b c g h = subst (λ (o : Option Derived). Grows o c) g h
grows_after (Some d) b c g h =
    let on = subst (λ (o : Option Derived). Grows o c) g.1 h in
    (g.0 ++ on.0, on.1 ∙ ap (λ (fs : List Fact). Some (record { presentation = d.presentation; facts = fs })) (append_assoc d.facts g.0 on.0))

-- the rules that are applied, and their steps
pub for_more : (rules relations : List (Word × Word)) (trace : List Applied) (steps : List ChainStep) (at : Applied) (step : ChainStep)
    → AreFor rules relations trace steps → IsFor rules relations at step → AreFor rules relations (trace ++ at ∷ []) (steps ++ step ∷ [])
for_more rules relations [] [] at step all one = (one, tt)
for_more rules relations [] (s ∷ steps) at step all one = absurd all
for_more rules relations (a ∷ trace) [] at step all one = absurd all
for_more rules relations (a ∷ trace) (s ∷ steps) at step all one = (all.0, for_more rules relations trace steps at step all.1 one)

pub for_leads : (rules : List (Word × Word)) (P : Presentation) (trace : List Applied) (steps : List ChainStep) (u v : Word) → AreFor rules P.relations trace steps
    → LeadBy rules u trace v → LeadTo P u (steps_of steps) v
for_leads rules P trace steps u v all leads = go trace steps u leads.0 all leads.1 leads.2
  where
    go : (trace : List Applied) (steps : List ChainStep) (u : Word) (ws : List Word) → AreFor rules P.relations trace steps
        → AllGive (as_relations rules) u (map step_of trace) ws → last_word u ws ≡ v → LeadTo P u (steps_of steps) v
    go [] [] u [] all gives last = ([], tt, last)
    go [] [] u (w ∷ ws) all gives last = absurd gives
    go [] (s ∷ steps) u ws all gives last = absurd all
    go (a ∷ trace) [] u ws all gives last = absurd all
    go (a ∷ trace) (s ∷ steps) u [] all gives last = absurd gives
    go (a ∷ trace) (s ∷ steps) u (w ∷ ws) all gives last =
        let g = gives.0 in
        let rest = go trace steps w ws all.1 gives.1 last in
        let one : Gives P u (record { place = s.place; relation = s.relation; forward = s.forward }) w = record {
          sides = g.sides;
          known = all.0.same g.sides g.known;
          before = g.before;
          after = g.after;
          placed = g.placed ∙ sym all.0.place;
          source = g.source ∙ ap (λ b. g.before ++ ((read_sides b g.sides).0 ++ g.after)) (sym all.0.forward);
          target = g.target ∙ ap (λ b. g.before ++ ((read_sides b g.sides).1 ++ g.after)) (sym all.0.forward);
        } in
        (w ∷ rest.0, (one, rest.1), rest.2)

-- a rule that is applied is there
pub applied_within : (rules : List (Word × Word)) (trace : List Applied) (u v : Word) → LeadBy rules u trace v → (i : ℕ) (at : Applied) → slice_get trace i ≡ Some at
    → at.rule < length rules
applied_within rules trace u v leads i at is = go trace u leads.0 i leads.1 is
  where
    go : (trace : List Applied) (u : Word) (ws : List Word) (i : ℕ) → AllGive (as_relations rules) u (map step_of trace) ws → slice_get trace i ≡ Some at
        → at.rule < length rules
    go [] u ws i gives is = let bad : ⊥ = cc in absurd bad
    go (a ∷ trace) u [] i gives is = absurd gives
    go (a ∷ trace) u (w ∷ ws) zero gives is =
        let same : a ≡ at = cc in
        subst (λ (x : Applied). x.rule < length rules) same (slice_get_within rules a.rule gives.0.sides gives.0.known)
    go (a ∷ trace) u (w ∷ ws) (suc i) gives is = go trace w ws i gives.1 is

-- the word of an overlap leads to both words of its critical pair
pub overlap_leads : (P : Presentation) (first second : Word × Word) (shared m n : ℕ) → shared ≤ length first.0 → shared ≤ length second.0
    → overlaps_by first.0 second.0 shared → slice_get P.relations m ≡ Some first → slice_get P.relations n ≡ Some second
    → LeadTo P (critical_pair first second shared).0
    (steps_of (record { place = 0; relation = m; forward = false } ∷ record { place = length first.0 - shared; relation = n; forward = true } ∷ []))
    (critical_pair first second shared).1
overlap_leads P first second shared m n one two overlaps is_first is_second =
    let start = length first.0 - shared in
    let pair = critical_pair first second shared in
    let middle : Word = first.0 ++ drop shared second.0 in
    let there : Gives P pair.0 (record { place = 0; relation = m; forward = false }) middle = record {
      sides = first;
      known = is_first;
      before = [];
      after = drop shared second.0;
      placed = refl;
      source = refl;
      target = refl;
    } in
    let cut : first.0 ≡ take start first.0 ++ take shared second.0 =
    sym (take-append-drop start first.0) ∙ ap (λ w. take start first.0 ++ w) overlaps in
    let on : Gives P middle (record { place = start; relation = n; forward = true }) pair.1 = record {
      sides = second;
      known = is_second;
      before = take start first.0;
      after = [];
      placed = length-take start first.0 ∙ (let within : min start (length first.0) ≡ start = omega arith in within);
      source =
          ap (λ w. w ++ drop shared second.0) cut ∙ append_assoc (take start first.0) (take shared second.0) (drop shared second.0)
          ∙ ap (λ w. take start first.0 ++ w) (take-append-drop shared second.0 ∙ sym (append-nil second.0));
      target = ap (λ w. take start first.0 ++ w) (sym (append-nil second.1));
    } in
    (middle ∷ pair.1 ∷ [], (there, (on, tt)), refl)

-- where something is logged
pub log_is : (log : Option Derived) (held : Option Facts) (facts : Facts) → option_map (λ (f : Facts). f.derivations) held ≡ log → held ≡ Some facts
    → log ≡ Some facts.derivations
log_is log held facts view is = sym view ∙ ap (λ (o : Option Facts). option_map (λ (f : Facts). f.derivations) o) is

-- what is shown, where something is logged or nothing
pub shows_facts : (log : Option Derived) (d : Derived) (u : Word) (steps : List ChainStep) (v : Word) → log ≡ Some d → LeadTo (all_of d) u (steps_of steps) v
    → Shows log u steps v
shows_facts log d u steps v is leads = subst (λ (o : Option Derived). Shows o u steps v) (sym is) leads

pub facts_shown : (log : Option Derived) (d : Derived) (u : Word) (steps : List ChainStep) (v : Word) → log ≡ Some d → Shows log u steps v
    → LeadTo (all_of d) u (steps_of steps) v
facts_shown log d u steps v is shows = subst (λ (o : Option Derived). Shows o u steps v) is shows

pub log_of_none : (p : Presentation) (log : Option Derived) → log ≡ None → IsLogOf p log
log_of_none p log is = subst (IsLogOf p) (sym is) tt

pub log_of_facts : (p : Presentation) (log : Option Derived) (d : Derived) → log ≡ Some d → d.presentation ≡ p → IsLogOf p log
log_of_facts p log d is same = subst (IsLogOf p) (sym is) same

pub log_grows : (p : Presentation) (old new : Option Derived) → IsLogOf p old → Grows old new → IsLogOf p new
log_grows p None new is grows = subst (IsLogOf p) (sym grows) tt
log_grows p (Some d) new is grows = subst (IsLogOf p) (sym grows.1) is

pub logged_grows : (old new : Option Derived) → Grows old new → is_some new ≡ is_some old
logged_grows None new grows = ap (λ (o : Option Derived). is_some o) grows
logged_grows (Some d) new grows = ap (λ (o : Option Derived). is_some o) grows.1

-- across a pair
pub across_shows : (log : Option Derived) (d : Derived) → log ≡ Some d → (pair : Word × Word) (forward : Bool) (n : ℕ) (back on steps : List ChainStep)
    → slice_get (all_of d).relations n ≡ Some pair
    → steps ≡ reverse (map turned back) ++ ((record { place = 0; relation = n; forward = forward } ∷ []) ++ on)
    → (left right : Word) → Shows log (read_sides forward pair).0 back left → Shows log (read_sides forward pair).1 on right → Shows log left steps right
across_shows log d is pair forward n back on steps known e left right first second =
    shows_facts log d left steps right is
    (subst (λ (s : List ChainStep). LeadTo (all_of d) left (steps_of s) right) (sym e)
    (leads_around (all_of d) (read_sides forward pair).0 (read_sides forward pair).1 left right back (record { place = 0; relation = n; forward = forward } ∷ []) on
    (facts_shown log d (read_sides forward pair).0 back left is first) (one forward) (facts_shown log d (read_sides forward pair).1 on right is second)))
  where
    one : (b : Bool) → LeadTo (all_of d) (read_sides b pair).0 (steps_of (record { place = 0; relation = n; forward = b } ∷ [])) (read_sides b pair).1
    one true = leads_once (all_of d) n pair.0 pair.1 known
    one false = leads_once_back (all_of d) n pair.0 pair.1 known

-- over the word of an overlap
pub over_shows : (log : Option Derived) (d : Derived) → log ≡ Some d → (first second : Word × Word) (shared m n start : ℕ) (back on steps : List ChainStep)
    → shared ≤ length first.0 → shared ≤ length second.0 → overlaps_by first.0 second.0 shared
    → slice_get (all_of d).relations m ≡ Some first → slice_get (all_of d).relations n ≡ Some second → start ≡ length first.0 - shared
    → steps ≡ reverse (map turned back) ++ ((record { place = 0; relation = m; forward = false } ∷ record { place = start; relation = n; forward = true } ∷ []) ++ on)
    → (left right : Word) → Shows log (critical_pair first second shared).0 back left → Shows log (critical_pair first second shared).1 on right → Shows log left steps right
over_shows log d is first second shared m n start back on steps one two overlaps is_first is_second at e left right down up =
    let middle : List ChainStep = record { place = 0; relation = m; forward = false } ∷ record { place = start; relation = n; forward = true } ∷ [] in
    shows_facts log d left steps right is
    (subst (λ (s : List ChainStep). LeadTo (all_of d) left (steps_of s) right) (sym e)
    (leads_around (all_of d) (critical_pair first second shared).0 (critical_pair first second shared).1 left right back middle on
    (facts_shown log d (critical_pair first second shared).0 back left is down)
    (subst (λ k. LeadTo (all_of d) (critical_pair first second shared).0
    (steps_of (record { place = 0; relation = m; forward = false } ∷ record { place = k; relation = n; forward = true } ∷ [])) (critical_pair first second shared).1) (sym at)
    (overlap_leads (all_of d) first second shared m n one two overlaps is_first is_second))
    (facts_shown log d (critical_pair first second shared).1 on right is up)))

-- there and back
pub spell_shows : (log : Option Derived) (d : Derived) → log ≡ Some d → (from to middle : Word) (there back steps : List ChainStep)
    → steps ≡ there ++ reverse (map turned back) → Shows log from there middle → Shows log to back middle → LeadTo (all_of d) from (steps_of steps) to
spell_shows log d is from to middle there back steps e first second =
    subst (λ (s : List ChainStep). LeadTo (all_of d) from (steps_of s) to) (sym e)
    (leads_there_and_back (all_of d) from to middle there back (facts_shown log d from there middle is first) (facts_shown log d to back middle is second))

-- the next of a list
pub take_next : {X : Type 0} (xs : List X) (i : ℕ) (x : X) → slice_get xs i ≡ Some x → take (i + 1) xs ≡ take i xs ++ x ∷ []
take_next xs i x e = ap (λ n. take n xs) (let more : i + 1 ≡ suc i = omega arith in more) ∙ go xs i e
  where
    go : {X : Type 0} {x : X} (xs : List X) (i : ℕ) → slice_get xs i ≡ Some x → take (suc i) xs ≡ take i xs ++ x ∷ []
    go {X} {x} [] i e = let bad : ⊥ = cc in absurd bad
    go {X} {x} (y ∷ xs) zero e = let same : y ≡ x = cc in ap (λ z. z ∷ []) same
    go {X} {x} (y ∷ xs) (suc i) e = ap (λ (zs : List X). y ∷ zs) (go xs i e)

-- what is logged stays so when facts are added
pub still_logged : (old new : Option Derived) (pair : Word × Word) → Grows old new → IsLogged old pair → IsLogged new pair
still_logged None new pair grows is = subst (λ (o : Option Derived). IsLogged o pair) (sym grows) tt
still_logged (Some d) new pair grows is =
    let more : (all_of d).relations ++ map pair_of grows.0 ≡ d.presentation.relations ++ map pair_of (d.facts ++ grows.0) =
    append_assoc d.presentation.relations (map pair_of d.facts) (map pair_of grows.0)
    ∙ ap (λ (ps : List (Word × Word)). d.presentation.relations ++ ps) (sym (map-append pair_of d.facts grows.0)) in
    subst (λ (o : Option Derived). IsLogged o pair) (sym grows.1)
    (subst (λ (ps : List (Word × Word)). Contains ps pair) more (Contains-append_left (all_of d).relations (map pair_of grows.0) pair is))

pub all_still_logged : (old new : Option Derived) (pairs : List (Word × Word)) → Grows old new → AreLogged old pairs → AreLogged new pairs
all_still_logged old new pairs grows all = All-weaker (IsLogged old) (IsLogged new) (λ pair. still_logged old new pair grows) pairs all

-- the fact that was added is logged
pub fact_logged : (old new : Derived) (fact : Fact) (left right : Word) → new ≡ record { presentation = old.presentation; facts = old.facts ++ fact ∷ [] }
    → fact.left ≡ left → fact.right ≡ right → IsLogged (Some new) (left, right)
fact_logged old new fact left right is first second =
    let pushed : Contains (map pair_of (old.facts ++ fact ∷ [])) (pair_of fact) =
    subst (λ (ps : List (Word × Word)). Contains ps (pair_of fact)) (sym (map-append pair_of old.facts (fact ∷ []))) (Contains-push (map pair_of old.facts) (pair_of fact)) in
    subst (λ (d : Derived). IsLogged (Some d) (left, right)) (sym is)
    (subst₂ (λ (l r : Word). Contains (old.presentation.relations ++ map pair_of (old.facts ++ fact ∷ [])) (l, r)) first second
    (Contains-append_right old.presentation.relations (map pair_of (old.facts ++ fact ∷ [])) (pair_of fact) pushed))

-- what has a number is logged
pub numbered_logged : (pairs : List (Word × Word)) (n : ℕ) (pair : Word × Word) → slice_get pairs n ≡ Some pair → Contains pairs pair
numbered_logged pairs n pair is = (n, slice_get_within pairs n pair is, get_or_from_slice_get pairs n pair pair is)

pub found_logged : (pairs : List (Word × Word)) (pair : Word × Word) (found : Option ℕ) (is : Bool) → is ≡ is_some found
    → MatchOption found (Contains pairs pair → ⊥) (λ n. slice_get pairs n ≡ Some pair) → IsTrue is → Contains pairs pair
found_logged pairs pair None is e known holds = let bad : ⊥ = cc in absurd bad
found_logged pairs pair (Some n) is e known holds = numbered_logged pairs n pair known

-- a rule of those that are logged
pub rule_logged : (log : Option Derived) (rules : List (Word × Word)) (place : ℕ) (rule : Word × Word) → AreLogged log rules → place < length rules
    → rule ≡ get_or rules place rule → IsLogged log rule
rule_logged log rules place rule all within is = subst (IsLogged log) (sym is) (all place rule within)

-- a rule that has another right side
pub right_logged : (log : Option Derived) (old new : List (Word × Word)) (place : ℕ) (rule : Word × Word) (right : Word) → AreLogged log old → place < length old
    → rule ≡ get_or old place rule → IsLogged log (rule.0, right) → new ≡ set old place ((rule_at old place).0, right) → AreLogged log new
right_logged log old new place rule right all within is one set_is =
    let left : rule.0 ≡ (rule_at old place).0 = ap (λ (r : Word × Word). r.0) (is ∙ get_or_default old place rule ([], []) within) in
    subst (AreLogged log) (sym set_is)
    (All-set (IsLogged log) old place ((rule_at old place).0, right) (subst (λ (w : Word). IsLogged log (w, right)) left one) all)

-- the rule that two words make
pub equal_rule_logged : (log : Option Derived) (left right : Word) → Equal ≡ shortlex left right → LogsRule log left right
equal_rule_logged log left right e =
    record {
      less = λ before. cc;
      greater = λ before. absurd (before_irrefl right (subst (λ (w : Word). right ≺ w) (shortlex_exact left right (sym e)) before));
    }

pub less_rule_logged : (log : Option Derived) (left right : Word) → left ≺ right → IsLogged log (right, left) → LogsRule log left right
less_rule_logged log left right less one =
    record { less = λ _. one; greater = λ before. absurd (before_irrefl left (before_trans left right left less before)) }

pub greater_rule_logged : (log : Option Derived) (left right : Word) → right ≺ left → IsLogged log (left, right) → LogsRule log left right
greater_rule_logged log left right greater one =
    record { less = λ before. absurd (before_irrefl left (before_trans left right left before greater)); greater = λ _. one }

-- the relations are logged, and so are the equations at the start
pub relation_logged : (p : Presentation) (log : Option Derived) (pair : Word × Word) → IsLogOf p log → Contains p.relations pair → IsLogged log pair
relation_logged p None pair is listed = tt
relation_logged p (Some d) pair is listed =
    Contains-append_left d.presentation.relations (map pair_of d.facts) pair (subst (λ (q : Presentation). Contains q.relations pair) (sym is) listed)

pub start_held : (p : Presentation) (L : ℕ) (log : Option Derived) (equations : List (Word × Word)) → IsLogOf p log → AreShortRelations L p.relations equations
    → LogsHeld log [] equations
start_held p L log equations is short =
    record {
      each_rule = All-nil (IsLogged log);
      each_equation = λ k d less.
          relation_logged p log (get_or equations k d) is (short.are (get_or equations k d).0 (get_or equations k d).1 (Contains-get_or equations k d less)).0;
    }

-- rules and equations that are held
pub none_held : (log : Option Derived) (rules equations : List (Word × Word)) → log ≡ None → LogsHeld log rules equations
none_held log rules equations is =
    subst (λ (o : Option Derived). LogsHeld o rules equations) (sym is) (record { each_rule = λ k d less. tt; each_equation = λ k d less. tt })

pub still_held : (old new : Option Derived) (rules equations : List (Word × Word)) → Grows old new → LogsHeld old rules equations → LogsHeld new rules equations
still_held old new rules equations grows held =
    record { each_rule = all_still_logged old new rules grows held.each_rule; each_equation = all_still_logged old new equations grows held.each_equation }

-- an equation is taken out
pub taken_held : (log : Option Derived) (rules old new : List (Word × Word)) (pair : Word × Word) → IsPermutation old (pair ∷ new) → LogsHeld log rules old
    → IsLogged log pair × LogsHeld log rules new
taken_held log rules old new pair moved held =
    let all : AreLogged log (pair ∷ new) = All-permutation (IsLogged log) old (pair ∷ new) moved held.each_equation in
    (All-head (IsLogged log) pair new all, record { each_rule = held.each_rule; each_equation = All-tail (IsLogged log) pair new all })

pub keeps_none : (log : Option Derived) (rules equations : List (Word × Word)) → LogsHeld log rules equations → KeepsLog log log rules equations
keeps_none log rules equations held = record { grows = grows_none log; held = held }

pub keeps_after : (a b c : Option Derived) (rules equations : List (Word × Word)) → Grows a b → KeepsLog b c rules equations → KeepsLog a c rules equations
keeps_after a b c rules equations grows keeps = record { grows = grows_after a b c grows keeps.grows; held = keeps.held }

-- one relation more has a number
pub numbers_step : (relations : List (Word × Word)) (count : ℕ) (old new : Word × Word → Option ℕ) (pair : Word × Word) → AreNumbersOf relations count old → slice_get relations count ≡ Some pair
    → ((q : Word × Word) → new q ≡ cond (same_words pair q) (Some count) (old q)) → AreNumbersOf relations (count + 1) new
numbers_step relations count old new pair is at put q = elim (cases_Bool (same_words pair q)) [
  | inl t ↦ rw (put q, t) (at ∙ ap Some (ap₂ (λ (u v : Word). (u, v)) (same.0 t).0 (same.0 t).1))
  | inr f ↦ rw (put q, f) (go (old q) (is q) f)
]
  where
    same : Decides (same_words pair q) ((pair.0 ≡ q.0) × (pair.1 ≡ q.1))
    same = Decides-and (pointwise ◌==◌ pair.0 q.0) (pointwise ◌==◌ pair.1 q.1) (pointwise_decides unsigned_Decides pair.0 q.0) (pointwise_decides unsigned_Decides pair.1 q.1)

    go : (o : Option ℕ) → MatchOption o ((place : ℕ) → place < count → slice_get relations place ≡ Some q → ⊥) (λ n. slice_get relations n ≡ Some q) → same_words pair q ≡ false
        → MatchOption o ((place : ℕ) → place < count + 1 → slice_get relations place ≡ Some q → ⊥) (λ n. slice_get relations n ≡ Some q)
    go (Some n) h f = h
    go None h f = λ place within e. elim (cases_lt place count) [
      | inl l ↦ h place l e
      | inr l ↦
          let last : place ≡ count = omega (arith, l, within) in
          let it = same_Some pair q (sym at ∙ ap (slice_get relations) (sym last) ∙ e) in
          let bad : true ≡ false = sym (same.1 (ap (λ (p : Word × Word). p.0) it, ap (λ (p : Word × Word). p.1) it)) ∙ f in
          let no : ⊥ = cc in
          absurd no
    ]
