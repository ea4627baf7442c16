use Rattle.std.proofs.Common.{List, ℕ, sym, subst}
use Rattle.theory.specs.Word.{Word as Letters}
use Rattle.congruence_classes.specs.ClassLists.{ArePlaced, ArePlacesOf, IsSolutionFor, coset_list, reads_backwards}
use Rattle.congruence_classes.proofs.ClassListLaws.{listed_for, ordered_once, solution_for}
use Rattle.congruence_classes.proofs.cosets.CosetList.new.Goals as goal

pub places_of-requires : goal.places_of-requires
places_of-requires c =
    subst (λ (l : List (ℕ × Letters)). ArePlaced l) (sym c.as_slice.ensures.value)
    (ordered_once c.args.graph (reads_backwards c.args.problem.now) c.args.least.items c.requires.words)

pub invariant_of-result : goal.invariant_of-result
invariant_of-result c =
    listed_for c.args.problem.now c.args.graph c.args.least.items c.in_ok-places.places.items c.requires.graph c.requires.words
    (subst (λ (l : List (ℕ × Letters)). ArePlacesOf l c.in_ok-places.places.items) c.as_slice.ensures.value c.in_ok-places.ensures)

pub returns : goal.returns
returns c =
    subst (λ b. IsSolutionFor c.args.problem.now
    (coset_list (record { letters = c.letters.result; backwards = b; graph = c.args.graph; least = c.args.least.items; places = c.in_ok-places.places.items }))) (sym c.reads_backwards.ensures)
    (solution_for c.args.problem.now c.letters.result c.args.graph c.args.least.items c.in_ok-places.places.items c.requires.graph c.letters.ensures.graph c.requires.words
    (subst (λ (l : List (ℕ × Letters)). ArePlacesOf l c.in_ok-places.places.items) c.as_slice.ensures.value c.in_ok-places.ensures))
