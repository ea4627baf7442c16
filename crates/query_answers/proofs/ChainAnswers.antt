-- Chains that a completion finds, as answers.
use Rattle.std.proofs.Common.{◌≡◌, ◌↔◌, ℕ, true, false, inl, inr, All, List, [], ◌∷◌, ◌++◌, map, length, Result, Ok, Err, refl, sym, ap, ◌∙◌, subst, subst₂}
use Rattle.std.specs.Prelude.{codes, decimal}
use Rattle.std.proofs.lemmas.List.{append_assoc}
use Rattle.std.proofs.lemmas.List.Elements.{All-cons, All-nil}
use Rattle.ports.specs.declared.sink.Sink.{Ghosts}
use Rattle.ports.specs.declared.fault.WriteFault.{WriteFault}
use Rattle.ports.specs.Writes.{WritesBytes}
use Rattle.ports.proofs.WriteLemmas.{bytes_broken_off, bytes_then, same_bytes}
use Rattle.theory.specs.Word.{Word, IsElement, IsOver}
use Rattle.theory.specs.Congruence.{Congruence, Presentation, IsWellFormed, is_two_sided, of_presentation}
use Rattle.theory.specs.Chain.{Related}
use Rattle.theory.specs.Completion.{CompletionEnds}
use Rattle.theory.specs.Class.{SameClass}
use Rattle.theory.specs.PlacedStep.{PlacedStep, AllGive}
use Rattle.theory.proofs.CompletedKinds.{two_sided_from_test}
use Rattle.theory.proofs.KindLaws.{pairs_as_relations, relations_well_formed}
use Rattle.theory.proofs.PlacedSteps.{all_give_related, gives_related}
use Rattle.theory.proofs.Related.{element_over, related_element}
use Rattle.chains.specs.Chains as chains
use Rattle.chains.specs.Chains.{IsStraight, steps_of}
use Rattle.chains.specs.declared.steps.ChainStep.{ChainStep}
use Rattle.chains.proofs.ChainLaws.{one_chain}
use Rattle.race.specs.declared.engines.Progress.TheVariants.{Decided, Spent}
use Rattle.knuth_bendix.specs.Runs.{CompletionRun}
use Rattle.presentation.specs.Presented.{Posed}
use Rattle.problem.specs.declared.kinds.Problem.{Problem}
use Rattle.problem.specs.declared.kinds.Problem.TheVariants.{Presented}
use Rattle.problem.specs.Problem.{IsWellPosed}
use Rattle.query_lang.specs.declared.script.Query.TheVariants as query
use Rattle.query_lang.specs.Query.{IsQueryOf}
use Rattle.report_lines.specs.LineBytes.{bytes_of}
use Rattle.report_lines.specs.Lines.{chain_lines, end_line, no_chain_line, steps_line, word_line}
use Rattle.query_answers.specs.Answer.{AreLines}
use Rattle.query_answers.specs.Chains.{ChainsAreLogged, IsChain, IsLogOf, Tells, with_its_pairs}

-- the words of steps whose words are all different are a chain
pub straight_words : (p : Presentation) (u v : Word) (steps : List ChainStep) (words : List Word) → IsStraight p u steps v → chains.IsChain p u steps words
    → (behind : List Word) × (words ≡ u ∷ behind) × IsChain p u v behind
straight_words p u v steps words straight chain =
    let same : words ≡ u ∷ straight.0 = one_chain p u steps words (u ∷ straight.0) chain (straight.0, refl, straight.1) in
    (straight.0, same, record { steps = steps_of steps; all_give = straight.1; last = straight.2; different = straight.3 })

-- all words of a chain from an element are over the letters
words_over : (p : Presentation) → IsWellFormed (of_presentation p) → (u : Word) → IsElement p.is_monoid p.letters u → (steps : List PlacedStep) (words : List Word) → AllGive p u steps words → All (IsOver p.letters) (u ∷ words)
words_over p well u element [] [] h = All-cons (IsOver p.letters) u [] (element_over p.is_monoid p.letters u element) (All-nil (IsOver p.letters))
words_over p well u element (step ∷ steps) (w ∷ words) h =
    All-cons (IsOver p.letters) u (w ∷ words) (element_over p.is_monoid p.letters u element)
    (words_over p well w (related_element (of_presentation p) well u w (gives_related p u w step h.0) element) steps words h.1)
words_over p well u element [] (w ∷ words) h = absurd h
words_over p well u element (step ∷ steps) [] h = absurd h

module _ (c : Congruence) (well : IsWellFormed c) (two_sided : is_two_sided c ≡ true) (u v : Word)
    (from : IsElement c.presentation.is_monoid c.presentation.letters u) (to : IsElement c.presentation.is_monoid c.presentation.letters v) where
  by_relations : Related c u v ↔ Related (of_presentation (with_its_pairs c)) u v
  by_relations = pairs_as_relations c (two_sided_from_test c two_sided) u v

  -- all words of a chain are over the letters
  pub chain_over : (words : List Word) → IsChain (with_its_pairs c) u v words → All (IsOver c.presentation.letters) (u ∷ words)
  chain_over words h = words_over (with_its_pairs c) (relations_well_formed c well) u from h.steps words h.all_give

  -- a chain joins related words
  pub chain_related : (words : List Word) → IsChain (with_its_pairs c) u v words → SameClass c u v
  chain_related words h = record {
    left = from;
    right = to;
    related = by_relations.1 (subst (Related (of_presentation (with_its_pairs c)) u) h.last (all_give_related (with_its_pairs c) u h.steps words h.all_give));
  }

  -- words that the relations do not relate are of two classes
  pub not_related : (Related (of_presentation (with_its_pairs c)) u v → ⊥) → SameClass c u v → ⊥
  not_related none same = none (by_relations.0 same.related)

module _ (o : Posed) (u v : Word) (posed : IsWellPosed (Presented o)) (asked : IsQueryOf (Presented o) (query.Chain u v)) where
  abbrev c : Congruence
  c = o.congruence

  from : IsElement c.presentation.is_monoid c.presentation.letters u
  from = subst (λ k. IsElement c.presentation.is_monoid k u) (sym posed.letters) asked.over.0

  to : IsElement c.presentation.is_monoid c.presentation.letters v
  to = subst (λ k. IsElement c.presentation.is_monoid k v) (sym posed.letters) asked.over.1

  -- the lines of a chain are an answer
  pub chain_told : (bound : ℕ) (words : List Word) → IsChain (with_its_pairs c) u v words → AreLines (Presented o) bound (query.Chain u v) (chain_lines o.alphabet u words)
  chain_told bound words h = inl (chain_related c posed.well_formed (asked.allowed refl) u v from to words h, (words, h, refl))

  -- and so is that there is none
  pub none_told : (bound : ℕ) → (Related (of_presentation (with_its_pairs c)) u v → ⊥) → AreLines (Presented o) bound (query.Chain u v) (no_chain_line ∷ [])
  none_told bound none = inr (not_related c posed.well_formed (asked.allowed refl) u v from to none, refl)

  -- the words of a chain can be printed
  pub chain_printed : (words : List Word) → IsChain (with_its_pairs c) u v words → All (IsOver (length o.alphabet)) (u ∷ words)
  chain_printed words h = subst (λ k. All (IsOver k) (u ∷ words)) posed.letters (chain_over c posed.well_formed (asked.allowed refl) u v from to words h)

-- a completion at its end is a log of the problem
pub log_of : (o : Posed) (L : ℕ) (k : CompletionRun) → k.presentation ≡ with_its_pairs o.congruence → k.length ≡ L → k.logged ≡ true → Tells k.said (CompletionEnds k.presentation k.length) → IsLogOf (Presented o) L k
log_of o L k relations length logged tells = record { logs = (relations, logged); length = length; ended = subst₂ (λ p n. Tells k.said (CompletionEnds p n)) relations length tells }

different_ends : Decided ≡ Spent → ⊥
different_ends e = cc

-- where the completion that was run has decided, chains are logged
pub logged_comes : (p : Problem) (L : ℕ) (k : CompletionRun) → IsLogOf p L k → k.said ≡ Decided → ChainsAreLogged p L
logged_comes p L k h is = elim (h.ended) [ inl held ↦ held.1 | inr failed ↦ absurd (different_ends (sym is ∙ failed.0)) ]

-- and else they are not
pub logged_fails : (p : Problem) (L : ℕ) (k : CompletionRun) → IsLogOf p L k → (k.said ≡ Decided → ⊥) → ChainsAreLogged p L → ⊥
logged_fails p L k h unlike = elim (h.ended) [ inl held ↦ absurd (unlike held.0) | inr failed ↦ failed.1 ]

-- the line of the number of steps
pub steps_text : (n m : ℕ) (begun counted : List ℕ) → begun ≡ codes "chain " → counted ≡ begun ++ decimal m → m ≡ n → counted ++ codes "\n" ≡ steps_line n
steps_text n m begun counted first second same =
    ap (λ l. l ++ codes "\n") (second ∙ ap (λ l. l ++ decimal m) first ∙ ap (λ i. codes "chain " ++ decimal i) same) ∙ append_assoc (codes "chain ") (decimal n) (codes "\n")

-- the bytes of a chain: of its first line, and of its words
module _ {K : Type 0} (sink : Ghosts K) (letters : List ℕ) (from : Word) (behind : List Word) (line : List ℕ) (is : line ≡ steps_line (length behind)) (old mid : K) where
  abbrev words_bytes : List Word → List ℕ
  words_bytes words = bytes_of (map (word_line letters) words ++ end_line false ∷ [])

  pub chain_begun : (fault : WriteFault) → WritesBytes sink {T = Unit {0}} line old mid (Err fault) → WritesBytes sink {T = Unit {0}} (bytes_of (chain_lines letters from behind)) old mid (Err fault)
  chain_begun fault h = bytes_broken_off sink (steps_line (length behind)) (words_bytes (from ∷ behind)) old mid fault (same_bytes sink _ _ old mid _ is h)

  pub chain_written : (value : Unit {0}) → WritesBytes sink line old mid (Ok value) → (words : List Word) → words ≡ from ∷ behind → (new : K) (r : Result (Unit {0}) WriteFault) → WritesBytes sink (words_bytes words) mid new r
      → WritesBytes sink (bytes_of (chain_lines letters from behind)) old new r
  chain_written value h words same new r g =
      bytes_then sink (steps_line (length behind)) (words_bytes (from ∷ behind)) old mid new value r (same_bytes sink _ _ old mid _ is h) (same_bytes sink _ _ mid new r (ap words_bytes same) g)
