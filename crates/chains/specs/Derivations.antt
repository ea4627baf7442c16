-- Facts that follow from relations, each by steps over these and over earlier facts.
use Rattle.std.specs.Prelude.{◌≡◌, ℕ, suc, ◌+◌, ◌<◌, ◌^◌, Bool, true, false, not, List, length, map, reverse, take, slice_get, nat_eq, Some}
use Rattle.std.specs.Global.{Vec}
use Rattle.std.specs.HashMap.{HashMap, get}
use Rattle.std.specs.List.{sum_by}
use Rattle.theory.specs.Word.{Word}
use Rattle.theory.specs.Congruence.{Presentation, with_relations}
use Rattle.theory.specs.PlacedStep.{LeadTo}
use Rattle.chains.specs.Chains.{steps_of}
use Rattle.chains.specs.Walks.{IsWalk, here}
use Rattle.chains.specs.declared.derivations.Fact.{Fact}
use Rattle.chains.specs.declared.steps.ChainStep.{ChainStep}
use Rattle.chains.specs.declared.walks.Walk.{Walk}

-- a presentation, and facts that follow from it
pub record Derived : Type 0 where
  pub presentation : Presentation
  pub facts : List Fact

-- the two words of a fact
abbrev pub pair_of : Fact → Word × Word
pair_of fact = (fact.left, fact.right)

-- a presentation with facts as further relations, numbered behind its own
abbrev pub with_facts : Presentation → List Fact → Presentation
with_facts p facts = with_relations p (map pair_of facts)

-- the relations, and the facts behind them
abbrev pub all_of : Derived → Presentation
all_of d = with_facts d.presentation d.facts

-- the steps of the fact lead from the one word to the other
abbrev pub Proves : Presentation → Fact → Type 0
Proves p fact = LeadTo p fact.left (steps_of fact.steps.items) fact.right

-- each fact follows from the relations and the facts before it
abbrev pub AreDerived : Presentation → List Fact → Type 0
AreDerived p facts = (n : ℕ) (fact : Fact) → slice_get facts n ≡ Some fact
    → Proves (with_facts p (take n facts)) fact

-- the step behind so many more letters
abbrev pub moved : ℕ → ChainStep → ChainStep
moved letters step = record {
  place = letters + step.place;
  relation = step.relation;
  forward = step.forward;
}

-- the step back
abbrev pub turned : ChainStep → ChainStep
turned step = record {
  place = step.place;
  relation = step.relation;
  forward = not step.forward;
}

-- the steps, or the steps back
abbrev pub read_steps : Bool → List ChainStep → List ChainStep
read_steps true steps = steps
read_steps false steps = reverse (map turned steps)

-- the steps that stand for one by a fact, whose own steps these are
abbrev pub in_place_of : ChainStep → List ChainStep → List ChainStep
in_place_of step steps = map (moved step.place) (read_steps step.forward steps)

-- how many steps the facts have
abbrev pub count_of : List Fact → ℕ
count_of = sum_by (λ fact. length fact.steps.items)

-- a step weighs more than all the steps by which its fact follows
abbrev pub weight_of : Derived → List ChainStep → ℕ
weight_of d = sum_by (λ step. suc (count_of d.facts) ^ step.relation)

-- the steps that are left, the next one last, lead from where the walk stands to where they led
-- before, and weigh less
pub record GoesOn (d : Derived) (old_left : List ChainStep) (old : Walk)
    (new_left : List ChainStep) (new : Walk) : Type 0 where
  pub walk : (u : Word) → IsWalk d.presentation u old → IsWalk d.presentation u new
  pub leads : (v : Word) → LeadTo (all_of d) (here old) (steps_of (reverse old_left)) v
      → LeadTo (all_of d) (here new) (steps_of (reverse new_left)) v
  pub less : weight_of d new_left < weight_of d old_left

-- each chain that is kept leads, by the relations alone, from the left word of its number to the
-- right one
abbrev pub AreKept : {S : Type 0} → Derived → HashMap ℕ (Vec ChainStep) S → Type 0
AreKept {S} d kept = (number : ℕ) (chain : Vec ChainStep) (left right : Word)
    → get nat_eq kept number ≡ Some chain
    → slice_get (all_of d).relations number ≡ Some (left, right)
    → LeadTo d.presentation left (steps_of chain.items) right

-- the other steps lead to each word to which the steps lead
abbrev pub LeadAlike : Presentation → Word → List ChainStep → List ChainStep → Type 0
LeadAlike p u steps others = (v : Word) → LeadTo p u (steps_of steps) v
    → LeadTo p u (steps_of others) v

-- the log has the words of the first facts of another, so many, and perhaps other steps
pub record IsFrontOf (n : ℕ) (d front : Derived) : Type 0 where
  pub presentation : front.presentation ≡ d.presentation
  pub words : map pair_of front.facts ≡ map pair_of (take n d.facts)
