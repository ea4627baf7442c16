use Rattle.std.proofs.Common.{◌∙◌, length, arith, subst}
use Rattle.cayley.specs.Tables.{edge}
use Rattle.green.specs.Touring.{IsTour}
use Rattle.green.proofs.Results.{if_both}
use Rattle.green.proofs.NameLaws.{are_names}
use Rattle.green.proofs.naming.names_in.Goals as goal

pub loop-number-init : goal.loop-number-init
loop-number-init c = record {
  tour = subst (λ n. IsTour n c.args.letters (edge c.args.rows.now) c.in_ok-search.search) c.len.ensures
      (c.in_ok-search.ensures.tour c.args.letters (edge c.args.rows.now));
  rest = c.in_ok-search.ensures.rest;
  seen = λ i l. absurd (omega arith);
}

pub returns : goal.returns
returns c =
    let tour = c.loop-number.invariant.tour in
    if_both c.names.result _ _ _ c.names.ensures.count c.names.ensures.at (λ names count at.
    are_names (length c.args.rows.now) c.args.letters (edge c.args.rows.now) c.loop-number.search tour c.loop-number.invariant.rest
    (λ i l. c.loop-number.invariant.seen i (omega (arith, l, c.loop-number-test.false, c.len-number-end.ensures))) names.items (count ∙ tour.count)
    (λ i name l e. at i name (omega (arith, l, tour.count)) e))
