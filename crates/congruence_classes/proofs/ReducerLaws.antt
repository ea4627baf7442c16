-- What a reducer reduces and lists.
use Rattle.std.proofs.Common.{◌≡◌, ℕ, suc, [], ◌∷◌, sym, ◌∙◌, ap, subst, arith, ◌↔◌}
use Rattle.theory.specs.declared.Kind.{Kind}
use Rattle.theory.specs.declared.Kind.TheVariants.{TwoSided, Right, Left}
use Rattle.theory.specs.Word.{Word, IsOver}
use Rattle.theory.specs.Congruence.{Congruence}
use Rattle.theory.specs.Completion.{IsReduced, Listed}
use Rattle.theory.specs.Marked.{completed_word, marked_word}
use Rattle.theory.proofs.CompletedKinds.{word_marked, word_plain}
use Rattle.theory.proofs.MarkedLaws.{marked_framed}
use Rattle.theory.proofs.Words.{over_append}
use Rattle.reduced_automaton.specs.declared.frames.Frame.{Frame}
use Rattle.congruence_classes.specs.declared.reducers.Reducer.{Reducer}
use Rattle.congruence_classes.specs.declared.reducers.Reducer.TheVariants.{Plain, Marked}
use Rattle.congruence_classes.specs.Rewriting.{IsReducedIn, IsReducerOf, ReducesFor, rules_in, within_frame, word_in}
use Rattle.congruence_classes.proofs.RewrittenRules.{DecidesBy, decides_by}

-- the word that is reduced for a word is the one that stands for it
pub word_in_is : (c : Congruence) (r : Reducer) → ReducesFor c r → (u : Word) → word_in r u ≡ completed_word c u
word_in_is c (Plain a) (test, letters) u = sym (word_plain c u test)
word_in_is c (Marked f) (test, frame, letters) u =
    ap (λ (g : Frame). within_frame g u) frame ∙ sym (marked_framed c.kind c.presentation.letters u) ∙ sym (word_marked c u test)

over_more : (k : ℕ) (u : Word) → IsOver k u → IsOver (suc k) u
over_more k [] h = tt
over_more k (a ∷ u) h = (omega (arith, h.0), over_more k u h.1)

marked_over : (kind : Kind) (k : ℕ) (u : Word) → IsOver k u → IsOver (suc k) (marked_word kind k u)
marked_over TwoSided k u h = over_more k u h
marked_over Right k u h = (omega arith, over_more k u h)
marked_over Left k u h = over_append (suc k) u (k ∷ []) (over_more k u h) (omega arith, tt)

-- what is listed is over the letters, and no rule applies to the word that stands for it
pub listed_in : (c : Congruence) (r : Reducer) → ReducesFor c r → (u : Word)
    → IsReducedIn r u ↔ (IsOver c.presentation.letters u × IsReduced (Listed (rules_in r)) (completed_word c u))
listed_in c (Plain a) (test, letters) u =
    let is = word_in_is c (Plain a) (test, letters) u in (
      λ h. (subst (λ k. IsOver k u) letters h.over, subst (IsReduced (Listed a.rules)) is h.reduced),
      λ h. record { over = subst (λ k. IsOver k u) (sym letters) h.0; reduced = subst (IsReduced (Listed a.rules)) (sym is) h.1 },
    )
listed_in c (Marked f) (test, frame, letters) u =
    let is = word_in_is c (Marked f) (test, frame, letters) u in
    let few = ap (λ (g : Frame). g.letters) frame in (
      λ h. (subst (λ k. IsOver k u) few h.over, subst (IsReduced (Listed f.automaton.rules)) is h.reduced.reduced),
      λ h. record {
        over = subst (λ k. IsOver k u) (sym few) h.0;
        reduced = record {
          over =
              subst (λ k. IsOver k (within_frame f.frame u)) (sym letters)
              (subst (IsOver (suc c.presentation.letters))
              (marked_framed c.kind c.presentation.letters u ∙ sym (ap (λ (g : Frame). within_frame g u) frame))
              (marked_over c.kind c.presentation.letters u h.0));
          reduced = subst (IsReduced (Listed f.automaton.rules)) (sym is) h.1;
        };
      },
    )

pub decided_by : (c : Congruence) (r : Reducer) → IsReducerOf c r → DecidesBy c (rules_in r)
decided_by c r is = decides_by c (rules_in r) is.well_formed is.rules
