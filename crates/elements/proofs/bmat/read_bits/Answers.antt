use Rattle.std.proofs.Common.{Err, inl, subst, List, Bool, [], ◌∷◌, ◌++◌, take, arith, sym, ap, ◌∙◌}
use Rattle.std.proofs.lemmas.Grind.{common_steps}
use Rattle.std.proofs.lemmas.List.{take_more, map-append}
use Rattle.elements.specs.declared.field.Field.{Field}
use Rattle.elements.specs.declared.field.ElementFault.TheVariants.{BadEntry}
use Rattle.elements.specs.Fields.{IsFirstRefused}
use Rattle.elements.specs.BMat.{IsBit, field_of_bit}
use Rattle.elements.proofs.Refused.{good_more, all_good, none_refused, first_refused, one_first_refused, one_entry}
use Rattle.elements.proofs.bmat.read_bits.Goals as goal

pub loop-i-preserved : goal.loop-i-preserved
loop-i-preserved c =
    let pushed = c.in_ok-push-in-Some.ensures.items in
    let read = c.in-Some.ensures in
    let inv = c.loop-i.invariant in
    let fields : List Field = c.args.fields.now in
    let bit : Bool = c.in-Some.bit in
    record {
      entries = rw (pushed, map-append) (ap (λ t. t ++ field_of_bit bit ∷ []) inv.entries ∙ ap (λ f. take c.loop-i.i fields ++ f ∷ []) (sym read.0) ∙ sym (take_more fields c.loop-i.i _ c.loop-i-test.true));
      count = grind (arith, common_steps);
      before = good_more IsBit fields c.loop-i.i _ inv.before c.loop-i-test.true read.1;
    }

pub returns-clause-refused : goal.returns-clause-refused
returns-clause-refused c = λ place p. absurd (none_refused IsBit c.args.fields.now (all_good IsBit c.args.fields.now c.loop-i.i c.loop-i.invariant.before (omega arith)) place p)

pub returns-in-None-clause-entry : goal.returns-in-None-clause-entry
returns-in-None-clause-entry c = λ place e.
    let first = first_refused IsBit c.args.fields.now c.loop-i.i _ c.loop-i.invariant.before c.loop-i-test.true c.in-None.ensures in
    subst (IsFirstRefused IsBit c.args.fields.now) (one_entry e) first

pub returns-in-None-clause-refused : goal.returns-in-None-clause-refused
returns-in-None-clause-refused c = λ place p.
    let first = first_refused IsBit c.args.fields.now c.loop-i.i _ c.loop-i.invariant.before c.loop-i-test.true c.in-None.ensures in
    inl (ap (λ k. Err (BadEntry k)) (one_first_refused IsBit c.args.fields.now c.loop-i.i place first p))
