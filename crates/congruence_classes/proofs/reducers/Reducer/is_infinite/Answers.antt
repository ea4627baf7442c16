use Rattle.std.proofs.Common.{◌↔◌, sym, subst, IsTrue}
use Rattle.theory.specs.ShortLex.{◌≺◌}
use Rattle.theory.specs.Listing.{AreInfinite}
use Rattle.congruence_classes.specs.declared.reducers.Reducer.{Reducer}
use Rattle.congruence_classes.specs.Rewriting.{IsReducedIn}
use Rattle.congruence_classes.proofs.reducers.Reducer.is_infinite.Goals as goal

pub returns-in-Plain-clause-infinite : goal.returns-in-Plain-clause-infinite
returns-in-Plain-clause-infinite c =
    subst (λ (r : Reducer). IsTrue c.is_infinite.result ↔ AreInfinite (IsReducedIn r) ◌≺◌) (sym c.in-Plain.is) c.is_infinite.ensures.infinite

pub returns-in-Marked-clause-infinite : goal.returns-in-Marked-clause-infinite
returns-in-Marked-clause-infinite c =
    subst (λ (r : Reducer). IsTrue c.is_infinite-in-Marked.result ↔ AreInfinite (IsReducedIn r) ◌≺◌) (sym c.in-Marked.is)
    c.is_infinite-in-Marked.ensures.infinite
