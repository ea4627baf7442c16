-- Turns of a completion.
use Rattle.std.proofs.Common.{◌≡◌, ℕ, ◌+◌, ◌*◌, ◌<◌, ◌≤◌, Bool, true, false, List, [], ◌∷◌, length, cond, refl, sym, subst, subst₂, arith, inl, inr, IfOk, MatchBool, MatchResult, Result, Ok, Err}
use Rattle.std.specs.List.{All}
use Rattle.std.specs.List.Sorted.{IsPermutation}
use Rattle.std.proofs.lemmas.List.Sorted.{length_permutation}
use Rattle.theory.specs.Word.{Word}
use Rattle.theory.specs.Congruence.{Presentation, AreElements}
use Rattle.theory.specs.Completion.{CompletionEnds}
use Rattle.race.specs.declared.engines.Progress.{Progress}
use Rattle.race.specs.declared.engines.Progress.TheVariants.{More, Decided, Spent, NoMemory}
use Rattle.knuth_bendix.specs.Held.{IsSound, held_of}
use Rattle.knuth_bendix.specs.declared.lengths.Lengths.TheVariants.{Beyond}
use Rattle.knuth_bendix.specs.Overlaps.{AreJoined, AreShort, IsSplit, rule_at}
use Rattle.knuth_bendix.specs.Changes.{Joins}
use Rattle.knuth_bendix.specs.Remaining.{still_reduced}
use Rattle.knuth_bendix.specs.Runs.{AreShortRelations, IsCompletion, IsRun, IsTurn, growth, left_of}
use Rattle.knuth_bendix.proofs.BoundedConfluence.{short_overlaps}
use Rattle.knuth_bendix.proofs.Endings.{decided_by_overlaps}
use Rattle.knuth_bendix.proofs.JoinedOverlaps.{joined_overlaps, split_spent}
use Rattle.knuth_bendix.proofs.AddedRules.{joins_nearer, joins_sound, moved_sound, sound_linked_up, sound_rules, sound_short, start_sound}

module _ (p : Presentation) (L : ℕ) (rules : List (Word × Word)) (sound : IsSound p L (record { rules = rules; equations = [] })) where
  -- the last test
  pub ends_tested : All (λ r. (length r.0 ≤ L) × (length r.1 ≤ L)) p.relations → (joined : Bool)
      → MatchBool joined
      ((first second : ℕ) → first < length rules → second < length rules → AreJoined (Beyond L) rules [] (rule_at rules first) (rule_at rules second))
      ((u : Word) × (v : Word) × IsSplit (Beyond L) rules u v)
      → MatchBool joined (CompletionEnds p L) (CompletionEnds p L → ⊥)
  ends_tested fits true h = decided_by_overlaps p L rules (sound_rules p L rules sound) fits (joined_overlaps L rules sound.clear (short_overlaps p L rules (sound_linked_up p L rules sound)) h)
  ends_tested fits false h = split_spent p L rules (sound_rules p L rules sound) h.0 h.1 h.2

  -- the last turn
  pub last_turn : (ends : Bool) → MatchBool ends (CompletionEnds p L) (CompletionEnds p L → ⊥) → IsTurn p L (held_of rules []) (held_of rules []) (cond ends Decided Spent)
  last_turn true h = record {
    more = λ e. cc;
    run = record {
      short = sound_short p L (record { rules = rules; equations = [] }) sound;
      sound = λ _. sound;
      decided = λ _. h;
      spent = λ e. cc;
      kept = λ _. sound_rules p L rules sound;
    };
  }
  last_turn false h = record {
    more = λ e. cc;
    run = record {
      short = sound_short p L (record { rules = rules; equations = [] }) sound;
      sound = λ _. sound;
      decided = λ e. cc;
      spent = λ _. h;
      kept = λ _. sound_rules p L rules sound;
    };
  }

-- what a sound state is while there is more to do
pub going_on : (p : Presentation) (L : ℕ) (rules equations : List (Word × Word)) → IsSound p L (record { rules = rules; equations = equations })
    → IsRun p L rules equations More
going_on p L rules equations sound =
    record {
      short = sound_short p L (record { rules = rules; equations = equations }) sound;
      sound = λ _. sound;
      decided = λ e. cc;
      spent = λ e. cc;
      kept = λ e. elim e [ inl d ↦ cc | inr s ↦ cc ];
    }

-- a turn that joins an equation
pub join_turn : (p : Presentation) (L : ℕ) (rules old new_rules new_equations equations : List (Word × Word)) (q : Word × Word)
    → IsSound p L (record { rules = rules; equations = old }) → IsPermutation old (q ∷ equations) → Joins L q.0 q.1 (held_of rules equations) (held_of new_rules new_equations)
    → IsTurn p L (held_of rules old) (held_of new_rules new_equations) More
join_turn p L rules old new_rules new_equations equations q sound moved joins =
    let held : IsSound p L (record { rules = rules; equations = (q.0, q.1) ∷ equations }) =
    moved_sound p L rules old (q ∷ equations) moved sound in
    record {
      more = λ _.
          subst (λ (n : ℕ). left_of p L new_rules new_equations < still_reduced p.letters L rules * growth p.letters L + n)
          (length_permutation old (q ∷ equations) moved)
          (joins_nearer p L rules equations new_rules new_equations q.0 q.1 held joins);
      run = going_on p L new_rules new_equations (joins_sound p L rules equations new_rules new_equations q.0 q.1 held joins);
    }

-- before the first turn
pub fresh_completion : (p : Presentation) (L : ℕ) (equations : List (Word × Word)) → AreElements p.is_monoid p.letters p.relations
    → AreShortRelations L p.relations equations → IsCompletion p L [] equations More
fresh_completion p L equations over short = record { elements = over; run = going_on p L [] equations (start_sound p L equations over short) }

-- a turn that finds no equation left
pub end_turn : (p : Presentation) (L : ℕ) (rules old new : List (Word × Word)) (ends : Bool) (progress : Progress)
    → IsSound p L (record { rules = rules; equations = old }) → (old ≡ []) × (new ≡ [])
    → MatchBool ends (CompletionEnds p L) (CompletionEnds p L → ⊥) → progress ≡ cond ends Decided Spent
    → IsTurn p L (held_of rules old) (held_of rules new) progress
end_turn p L rules old new ends progress sound none h told =
    let held : IsSound p L (record { rules = rules; equations = [] }) =
    subst (λ (es : List (Word × Word)). IsSound p L (record { rules = rules; equations = es })) none.0 sound in
    let turn : IsTurn p L (held_of rules []) (held_of rules []) (cond ends Decided Spent) = last_turn p L rules held ends h in
    let from : IsTurn p L (held_of rules old) (held_of rules []) (cond ends Decided Spent) =
    subst (λ (es : List (Word × Word)). IsTurn p L (held_of rules es) (held_of rules []) (cond ends Decided Spent)) (sym none.0) turn in
    let to : IsTurn p L (held_of rules old) (held_of rules new) (cond ends Decided Spent) =
    subst (λ (es : List (Word × Word)). IsTurn p L (held_of rules old) (held_of rules es) (cond ends Decided Spent)) (sym none.1) from in
    subst (λ (told : Progress). IsTurn p L (held_of rules old) (held_of rules new) told) (sym told) to

-- what a turn leaves: a run, nearer to its end where there is more to do
pub record Leaves (left : ℕ) (p : Presentation) (L : ℕ) (rules equations : List (Word × Word)) (said : Progress) : Type 0 where
  pub run : IsRun p L rules equations said
  pub nearer : said ≡ More → left_of p L rules equations < left

-- after want of memory no rule is held
pub leaves_starved : (left : ℕ) (p : Presentation) (L : ℕ) (rules equations : List (Word × Word)) → rules ≡ [] → Leaves left p L rules equations NoMemory
leaves_starved left p L rules equations none =
    record {
      run = record {
        short = subst (λ (rs : List (Word × Word)). AreShort L rs) (sym none) (λ k d less. absurd (omega arith));
        sound = λ n. absurd (n refl);
        decided = λ e. cc;
        spent = λ e. cc;
        kept = λ e. elim e [ inl d ↦ cc | inr s ↦ cc ];
      };
      nearer = λ e. cc;
    }

pub leaves_turn : (left : ℕ) (p : Presentation) (L : ℕ) (held rules equations new_rules new_equations : List (Word × Word)) (said : Progress)
    → held ≡ rules → left_of p L rules equations ≡ left → IsTurn p L (held_of held equations) (held_of new_rules new_equations) said
    → Leaves left p L new_rules new_equations said
leaves_turn left p L held rules equations new_rules new_equations said same is turn =
    let here : IsTurn p L (held_of rules equations) (held_of new_rules new_equations) said =
    subst (λ (rs : List (Word × Word)). IsTurn p L (held_of rs equations) (held_of new_rules new_equations) said) same turn in
    record { run = here.run; nearer = λ e. subst (λ (n : ℕ). left_of p L new_rules new_equations < n) is (here.more e) }

-- what a turn leaves, whether or not it met want of memory
pub turn_leaves : {E : Type 0} (left : ℕ) (p : Presentation) (L : ℕ) (rules equations new_rules new_equations rest : List (Word × Word))
    (turn : Result Progress E) (said : Progress)
    → left_of p L rules equations ≡ left → IfOk turn (IsTurn p L (held_of rules equations) (held_of new_rules new_equations))
    → MatchResult turn (λ t. (said ≡ t) × (rest ≡ new_rules)) (λ _. (said ≡ NoMemory) × (rest ≡ [])) → Leaves left p L rest new_equations said
turn_leaves left p L rules equations new_rules new_equations rest (Ok t) said is turn e =
    subst₂ (λ (rs : List (Word × Word)) (told : Progress). Leaves left p L rs new_equations told) (sym e.1) (sym e.0)
    (leaves_turn left p L rules rules equations new_rules new_equations t refl is turn)
turn_leaves left p L rules equations new_rules new_equations rest (Err none) said is turn e =
    subst (λ (told : Progress). Leaves left p L rest new_equations told) (sym e.0) (leaves_starved left p L rest new_equations e.1)
