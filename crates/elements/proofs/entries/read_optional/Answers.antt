use Rattle.std.proofs.Common.{ℕ, List, Err, inl, subst, [], ◌∷◌, ◌++◌, take, arith, sym, ap, ◌∙◌}
use Rattle.std.specs.Prelude.{Option}
use Rattle.std.proofs.lemmas.List.{take_more, map-append}
use Rattle.std.proofs.lemmas.List.Elements.{All-append}
use Rattle.elements.specs.declared.field.Field.{Field}
use Rattle.elements.specs.declared.field.ElementFault.TheVariants.{BadEntry}
use Rattle.elements.specs.Fields.{IsBelow, IsBelowOrDash, IsFirstRefused, field_of}
use Rattle.elements.proofs.Refused.{all_one, good_more, all_good, none_refused, first_refused, one_first_refused, one_entry}
use Rattle.elements.proofs.entries.read_optional.Goals as goal

pub loop-i-preserved : goal.loop-i-preserved
loop-i-preserved c =
    let pushed = c.in_ok-push-in-Some.ensures.items in
    let read = c.in-Some.ensures in
    let inv = c.loop-i.invariant in
    let fields : List Field = c.args.fields.now in
    let e : Option ℕ = c.in-Some.entry in
    record {
      entries = rw (pushed, map-append) (ap (λ t. t ++ field_of e ∷ []) inv.entries ∙ ap (λ f. take c.loop-i.i fields ++ f ∷ []) (sym read.0) ∙ sym (take_more fields c.loop-i.i _ c.loop-i-test.true));
      in_range = rw pushed (All-append (IsBelow c.args.limit) c.loop-i.entries.items (e ∷ []) inv.in_range (all_one (IsBelow c.args.limit) e read.1));
      before = good_more (IsBelowOrDash c.args.limit) fields c.loop-i.i _ inv.before c.loop-i-test.true read.2;
    }

pub returns-clause-good : goal.returns-clause-good
returns-clause-good c = all_good (IsBelowOrDash c.args.limit) c.args.fields.now c.loop-i.i c.loop-i.invariant.before (omega arith)

pub returns-clause-refused : goal.returns-clause-refused
returns-clause-refused c = λ place p. absurd (none_refused (IsBelowOrDash c.args.limit) c.args.fields.now (all_good (IsBelowOrDash c.args.limit) c.args.fields.now c.loop-i.i c.loop-i.invariant.before (omega arith)) place p)

pub returns-in-None-clause-entry : goal.returns-in-None-clause-entry
returns-in-None-clause-entry c = λ place e.
    let first = first_refused (IsBelowOrDash c.args.limit) c.args.fields.now c.loop-i.i _ c.loop-i.invariant.before c.loop-i-test.true c.in-None.ensures in
    subst (IsFirstRefused (IsBelowOrDash c.args.limit) c.args.fields.now) (one_entry e) first

pub returns-in-None-clause-refused : goal.returns-in-None-clause-refused
returns-in-None-clause-refused c = λ place p.
    let first = first_refused (IsBelowOrDash c.args.limit) c.args.fields.now c.loop-i.i _ c.loop-i.invariant.before c.loop-i-test.true c.in-None.ensures in
    inl (ap (λ k. Err (BadEntry k)) (one_first_refused (IsBelowOrDash c.args.limit) c.args.fields.now c.loop-i.i place first p))
