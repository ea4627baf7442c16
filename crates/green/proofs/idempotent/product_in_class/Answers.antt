use Rattle.std.proofs.Common.{◌≡◌, ◌<◌, ◌++◌, ◌∷◌, [], ℕ, length, reverse, slice_index, IfSome, Option, refl, sym, ap, subst, ◌∙◌, arith}
use Rattle.std.proofs.lemmas.List.{reverse-append}
use Rattle.theory.specs.Green.{Reaches, IsEdge, here, further, follow}
use Rattle.theory.specs.Word.{IsOver, Word}
use Rattle.theory.proofs.KindLaws.{over_turned}
use Rattle.theory.proofs.Words.{over_left, over_right}
use Rattle.froidure_pin.specs.Found.{word_or_none}
use Rattle.cayley.specs.Tables.{edge}
use Rattle.green.specs.Related.{product_in}
use Rattle.green.proofs.FiniteLaws.{follow_reaches}
use Rattle.green.proofs.TourLaws.{reaches_on}
use Rattle.green.proofs.idempotent.product_in_class.Goals as goal

pub at-at-requires-clause-letter : goal.at-at-requires-clause-letter
at-at-requires-clause-letter c =
    let place : c.in-Some.place < length c.args.tables.now.words = subst (λ (rest : Option ℕ). IfSome rest (λ place. place < length c.args.tables.now.words)) c.in-Some.is c.loop-rest.invariant.within in
    let over : IsOver (length c.args.tables.now.letters) (word_or_none c.args.tables.now.words c.factors-prefix.result.0 ++ c.factors-prefix.result.1 ∷ []) =
    subst (λ (w : Word). IsOver (length c.args.tables.now.letters) w) c.factors-prefix.ensures.word (c.requires.words c.in-Some.place place) in
    let last = (over_right (length c.args.tables.now.letters) (word_or_none c.args.tables.now.words c.factors-prefix.result.0) (c.factors-prefix.result.1 ∷ []) over).0 in
    omega (arith, last, c.number.ensures, c.requires.fit.left.width c.loop-rest.at c.loop-rest.invariant.at)

-- the product is reached from where the class is left
pub returns-then-names-at : goal.returns-then-names-at
returns-then-names-at c related =
    let t = c.args.tables.now in
    let k : ℕ = length t.letters in
    let left : ℕ → ℕ → ℕ = edge t.left in
    let front : Word = word_or_none t.words c.factors-prefix.result.0 in
    let a : ℕ = c.factors-prefix.result.1 in
    let place : c.in-Some.place < length t.words = subst (λ (rest : Option ℕ). IfSome rest (λ place. place < length t.words)) c.in-Some.is c.loop-rest.invariant.within in
    let over : IsOver k (front ++ a ∷ []) = subst (λ (w : Word). IsOver k w) c.factors-prefix.ensures.word (c.requires.words c.in-Some.place place) in
    let last : a < k = (over_right k front (a ∷ []) over).0 in
    let step : c.at-at.result ≡ left c.loop-rest.at a = c.at-at.ensures ∙ ap (left c.loop-rest.at) c.number.ensures in
    let turned : reverse (word_or_none t.words c.loop-rest.rest) ≡ a ∷ reverse front =
    ap (λ (rest : Option ℕ). reverse (word_or_none t.words rest)) c.in-Some.is ∙ ap reverse c.factors-prefix.ensures.word ∙ reverse-append front (a ∷ []) in
    let ahead : follow left (left c.loop-rest.at a) (reverse front) ≡ product_in t c.args.first c.args.second =
    sym (ap (follow left c.loop-rest.at) turned) ∙ c.loop-rest.invariant.same in
    let on : Reaches (IsEdge k left) (left c.loop-rest.at a) (product_in t c.args.first c.args.second) =
    subst (Reaches (IsEdge k left) (left c.loop-rest.at a)) ahead
    (follow_reaches (length t.words) k left c.requires.fit.left.within (reverse front) (left c.loop-rest.at a) (over_turned k front (over_left k front (a ∷ []) over))) in
    let there : Reaches (IsEdge k left) c.args.second (left c.loop-rest.at a) = reaches_on (IsEdge k left) c.loop-rest.invariant.reached (further (a, last, refl) here) in
    let inside : left c.loop-rest.at a < length t.words = c.requires.fit.left.within c.loop-rest.at a c.loop-rest.invariant.at last in
    c.if-names-at.true (ap (slice_index c.args.names.now) step ∙ sym ((c.requires.names.same c.args.second (left c.loop-rest.at a) c.requires.second inside).1 (there, reaches_on (IsEdge k left) on related.1)))
