use Rattle.std.proofs.Common.{refl, arith}
use Rattle.coincidence.specs.declared.absorb.Merge.{Merge}
use Rattle.coincidence.specs.declared.cosets.Cosets.{Cosets}
use Rattle.coincidence.proofs.JoinLaws.{first_replaced, joins_both, joins_less, nodes_kept, none_left, second_replaced, taking_end, taking_found, taking_start, taking_step}
use Rattle.coincidence.proofs.cosets.Cosets.next_merge.Goals as goal

pub loop-p-init : goal.loop-p-init
loop-p-init c = record { taking = taking_start c.args.self.now; rest = refl }

pub representative-s-requires : goal.representative-s-requires
representative-s-requires c = first_replaced c.args.self.now c.loop-p.self c.pop.new.self.items c.in-Some.p c.in-Some.q c.in-Some.ensures.items c.loop-p.invariant.taking c.requires

pub representative-t-requires : goal.representative-t-requires
representative-t-requires c = second_replaced c.args.self.now c.loop-p.self c.pop.new.self.items c.in-Some.p c.in-Some.q c.in-Some.ensures.items c.loop-p.invariant.taking
    c.representative-s.new.replaced_by.items c.representative-s.result c.representative-s.ensures.stays c.requires

pub returns-then-s-t-clause-less : goal.returns-then-s-t-clause-less
returns-then-s-t-clause-less c = joins_less c.representative-s.result c.representative-t.result (record { lost = c.max-lost.result; kept = c.min-kept.result }) c.if-s-t.true c.max-lost.ensures c.min-kept.ensures

pub returns-then-s-t-clause-some : goal.returns-then-s-t-clause-some
returns-then-s-t-clause-some c =
    let new : Cosets = record c.loop-p.self { queue = c.pop.new.self; replaced_by = c.representative-t.new.replaced_by } in
    let merge : Merge = record { lost = c.max-lost.result; kept = c.min-kept.result } in
    taking_found c.args.self.now c.loop-p.self c.pop.new.self.items c.in-Some.p c.in-Some.q c.in-Some.ensures.items c.loop-p.invariant.taking
    c.representative-s.new.replaced_by.items c.representative-s.result c.representative-s.ensures.stays new c.representative-t.result refl refl c.representative-s.ensures.live c.representative-t.ensures.live c.representative-t.ensures.stays
    merge (joins_both c.representative-s.result c.representative-t.result merge c.max-lost.ensures c.min-kept.ensures)

pub loop-p-preserved : goal.loop-p-preserved
loop-p-preserved c =
    let new : Cosets = record c.loop-p.self { queue = c.pop.new.self; replaced_by = c.representative-t.new.replaced_by } in
    record {
      taking = taking_step c.args.self.now c.loop-p.self c.pop.new.self.items c.in-Some.p c.in-Some.q c.in-Some.ensures.items c.loop-p.invariant.taking
          c.representative-s.new.replaced_by.items c.representative-s.result c.representative-s.ensures.stays new c.representative-t.result refl refl c.representative-s.ensures.live c.representative-t.ensures.live c.representative-t.ensures.stays c.if-s-t.false;
      rest = nodes_kept c.args.self.now c.loop-p.self new c.loop-p.invariant.rest refl;
    }

pub returns-clause-none : goal.returns-clause-none
returns-clause-none c = taking_end c.args.self.now c.loop-p.self (none_left c.loop-p.self.queue.items (omega (arith, c.in_default.ensures.cases.0, c.loop-p.self.queue.ok))) c.loop-p.invariant.taking
