use Rattle.std.proofs.Common.{length, arith, length-append, ◌≡◌, ◌++◌, ◌∷◌, [], take, List, Option, ℕ, map, not, sym, ◌∙◌, ap, subst}
use Rattle.std.specs.List.{filter}
use Rattle.std.proofs.lemmas.List.Elements.{All-filter}
use Rattle.theory.specs.Word.{Word}
use Rattle.theory.specs.ShortLex.{◌≺◌}
use Rattle.rewriting.specs.Rules.{AreFalling, stands_in}
use Rattle.rewriting.specs.Newer.{AreNewer}
use Rattle.rewriting.specs.Lookups.{IsLookup, moves_or_none}
use Rattle.rewriting.specs.Parts.{kept_of, places_of, through}
use Rattle.rewriting.proofs.PartLaws.{added_lookup, first_few_kept, none_goes}
use Rattle.rewriting.proofs.lookups.Lookup.put.Goals as goal

pub put_last-requires : goal.put_last-requires
put_last-requires c = (c.args.rules.now, (c.args.left, c.args.right), c.in_ok-push.ensures.ok, c.requires.lookup)

pub returns-then-not-has_in_left-clause-kept : goal.returns-then-not-has_in_left-clause-kept
returns-then-not-has_in_left-clause-kept c =
    c.in_ok-push.ensures.ok
    ∙ ap (λ (rs : List (Word × Word)). rs ++ (c.args.left, c.args.right) ∷ []) (sym (none_goes c.args.left c.args.rules.now (c.has_in_left.ensures c.if-not-has_in_left.true)).0)

pub returns-then-not-has_in_left-clause-gone : goal.returns-then-not-has_in_left-clause-gone
returns-then-not-has_in_left-clause-gone c = c.new.ensures.items ∙ sym (none_goes c.args.left c.args.rules.now (c.has_in_left.ensures c.if-not-has_in_left.true)).1

pub from_vec-requires : goal.from_vec-requires
from_vec-requires c =
    subst (λ (rs : List (Word × Word)). AreFalling rs) (sym c.in_ok-parts.ensures.kept)
    (All-filter (λ q. not (stands_in c.args.left q.0)) (λ (r : Word × Word). r.1 ≺ r.0) c.into_vec.result.items (subst (λ (rs : List (Word × Word)). AreFalling rs) (sym c.into_vec.ensures.rules) c.into_vec.ensures.falling))

pub place_anew-requires : goal.place_anew-requires
place_anew-requires c =
    let few = first_few_kept c.args.left c.args.self.now.first c.into_vec.result.items in
    omega (arith, few, c.in_ok-parts.ensures.first, ap length (c.drop.view_is ∙ c.from_vec.ensures ∙ c.in_ok-parts.ensures.kept), ap length c.in_ok-push-2.ensures.ok, length-append c.drop.inside.items.items ((c.args.left, c.args.right) ∷ []))

pub returns-clause-kept : goal.returns-clause-kept
returns-clause-kept c =
    c.in_ok-push-2.ensures.ok
    ∙ ap (λ (rs : List (Word × Word)). rs ++ (c.args.left, c.args.right) ∷ []) (c.drop.view_is ∙ c.from_vec.ensures ∙ c.in_ok-parts.ensures.kept ∙ ap (kept_of c.args.left) (c.into_vec.ensures.rules ∙ c.replace-old.ensures.value))

pub renew-requires-2 : goal.renew-requires-2
renew-requires-2 c =
    let rule : Word × Word = (c.args.left, c.args.right) in
    let old : c.into_vec.result.items ≡ c.args.rules.now = c.into_vec.ensures.rules ∙ c.replace-old.ensures.value in
    let added : c.push-2.new.self ≡ kept_of c.args.left c.args.rules.now ++ rule ∷ [] =
    c.in_ok-push-2.ensures.ok ∙ ap (λ (rs : List (Word × Word)). rs ++ rule ∷ []) (c.drop.view_is ∙ c.from_vec.ensures ∙ c.in_ok-parts.ensures.kept ∙ ap (kept_of c.args.left) old) in
    subst (λ (rs : List (Word × Word)). IsLookup rs c.place_anew.new.self) (sym added)
    (added_lookup c.args.rules.now c.args.self.now c.place_anew.new.self rule c.requires.lookup
    (c.in_ok-place_anew.ensures.first ∙ c.in_ok-parts.ensures.first ∙ ap (λ (rs : List (Word × Word)). length (kept_of c.args.left (take c.args.self.now.first rs))) old)
    (ap moves_or_none c.in_ok-place_anew.ensures.table)
    (c.in_ok-place_anew.ensures.places
    ∙ ap (λ (ms : List (Option ℕ)). map (through ms) c.args.self.now.places.items) (c.as_slice.ensures.value ∙ c.in_ok-parts.ensures.moved ∙ ap (places_of c.args.left 0) old))
    (subst (λ n. AreNewer (kept_of c.args.left c.args.rules.now ++ rule ∷ []) n c.place_anew.new.self.newer) (sym c.in_ok-place_anew.ensures.first)
    (subst (λ (rs : List (Word × Word)). AreNewer rs c.in_ok-parts.parts.first c.place_anew.new.self.newer) added c.in_ok-place_anew.ensures.newer)))

pub returns-clause-gone : goal.returns-clause-gone
returns-clause-gone c = c.in_ok-parts.ensures.gone ∙ ap (filter (λ q. stands_in c.args.left q.0)) (c.into_vec.ensures.rules ∙ c.replace-old.ensures.value)
