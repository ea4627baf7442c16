use Rattle.std.proofs.Common.{Err, inl, subst, ◌≡◌, ℕ, List, [], ◌∷◌, ◌++◌, ◌<◌, take, slice_get, Some, arith, sym, ap, ◌∙◌, below_more}
use Rattle.std.proofs.lemmas.Grind.{common_steps}
use Rattle.std.proofs.lemmas.List.{take_more, map-append}
use Rattle.std.proofs.lemmas.List.Elements.{All-append}
use Rattle.std.proofs.lemmas.Option.{slice_get-get_or}
use Rattle.elements.specs.declared.field.Field.{Field}
use Rattle.elements.specs.declared.field.Field.TheVariants.{Number}
use Rattle.elements.specs.declared.field.ElementFault.TheVariants.{BadEntry}
use Rattle.elements.specs.Fields.{IsFirstBad}
use Rattle.elements.proofs.Refused.{first_bad, one_first_bad, one_entry}
use Rattle.elements.proofs.transf.read_images.Goals as goal

pub loop-i-preserved : goal.loop-i-preserved
loop-i-preserved c =
    let pushed = c.in_ok-push-in-Some.ensures.items in
    let read = c.in-Some.ensures in
    let inv = c.loop-i.invariant in
    let fields : List Field = c.args.fields.now in
    let y : ℕ = c.in-Some.y in
    let at : slice_get fields c.loop-i.i ≡ Some (Number y) = slice_get-get_or fields c.loop-i.i _ c.loop-i-test.true ∙ ap Some read.0 in
    record {
      images = rw (pushed, map-append) (ap (λ t. t ++ Number y ∷ []) inv.images ∙ ap (λ f. take c.loop-i.i fields ++ f ∷ []) (sym read.0) ∙ sym (take_more fields c.loop-i.i _ c.loop-i-test.true));
      in_range = rw pushed (All-append (λ k. k < c.args.degree) c.loop-i.images.items (y ∷ []) inv.in_range (grind (arith, common_steps)));
      count = grind (arith, common_steps);
      before = below_more _ _ inv.before (rw at read.1);
    }

pub returns-in-None-clause-entry : goal.returns-in-None-clause-entry
returns-in-None-clause-entry c = λ place e.
    let first = first_bad c.args.degree c.args.fields.now c.loop-i.i _ c.loop-i.invariant.before c.loop-i-test.true c.in-None.ensures in
    subst (IsFirstBad c.args.degree c.args.fields.now) (one_entry e) first

pub returns-in-None-clause-refused : goal.returns-in-None-clause-refused
returns-in-None-clause-refused c = λ place p.
    let first = first_bad c.args.degree c.args.fields.now c.loop-i.i _ c.loop-i.invariant.before c.loop-i-test.true c.in-None.ensures in
    inl (ap (λ k. Err (BadEntry k)) (one_first_bad c.args.degree c.args.fields.now c.loop-i.i place first p))
