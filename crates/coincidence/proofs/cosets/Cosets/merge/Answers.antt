use Rattle.std.proofs.Common.{◌∷◌, ◌++◌, [], ℕ, List, refl, ◌∙◌, ap, arith}
use Rattle.coincidence.specs.declared.cosets.Cosets.{Cosets}
use Rattle.coincidence.proofs.AbsorbLaws.{merge_still}
use Rattle.coincidence.proofs.JoinLaws.{joining_start, joining_step, joining_end, merging, with_entries, fewer_live}
use Rattle.coincidence.proofs.cosets.Cosets.merge.Goals as goal

pub loop-merge-init : goal.loop-merge-init
loop-merge-init c =
    let first = c.args.self.now in
    let now : Cosets = record first { replaced_by = c.make_room.new.replaced_by; queue = c.push.new.self } in
    joining_start c.requires.whole.0 first now c.args.x c.args.y c.args.at c.requires.whole.1 refl
    (c.in_ok-push.ensures.items ∙ ap (λ (z : List (ℕ × ℕ)). z ++ (c.args.x, c.args.y) ∷ []) c.clear.ensures.items) c.requires.x c.requires.y c.requires.at (omega (arith, c.len.ensures, first.live.ok, c.in_ok-make_room.ensures))

pub next_merge-requires : goal.next_merge-requires
next_merge-requires c = (c.args.self.now.live.items, c.loop-merge.invariant.class, c.loop-merge.invariant.replaced, c.loop-merge.invariant.on)

pub absorb-requires : goal.absorb-requires
absorb-requires c = merging c.requires.whole.0 c.args.self.now c.loop-merge.self c.next_merge.new.self c.args.x c.args.y c.args.at c.loop-merge.to c.in-Some.merge c.requires.whole.1 c.requires.x c.requires.y
    c.loop-merge.invariant c.in-Some.ensures.less c.in-Some.ensures.some c.next_merge.ensures.rest

pub lose-requires : goal.lose-requires
lose-requires c =
    let before = merging c.requires.whole.0 c.args.self.now c.loop-merge.self c.next_merge.new.self c.args.x c.args.y c.args.at c.loop-merge.to c.in-Some.merge c.requires.whole.1 c.requires.x c.requires.y
    c.loop-merge.invariant c.in-Some.ensures.less c.in-Some.ensures.some c.next_merge.ensures.rest in
    record {
      merge = merge_still c.next_merge.new.self.edges.graph c.absorb.new.self.edges.graph c.in-Some.merge c.in_ok-absorb.ensures.ok.shape before;
      entries = with_entries c.requires.whole.0 c.args.self.now c.loop-merge.self c.next_merge.new.self c.args.x c.args.y c.args.at c.loop-merge.to c.in-Some.merge c.requires.whole.1 c.requires.x c.requires.y
          c.loop-merge.invariant c.in-Some.ensures.less c.in-Some.ensures.some c.next_merge.ensures.rest c.absorb.new.self c.in_ok-absorb.ensures.ok c.in_ok-absorb.ensures.rest;
    }

pub loop-merge-smaller : goal.loop-merge-smaller
loop-merge-smaller c = fewer_live c.requires.whole.0 c.args.self.now c.loop-merge.self c.next_merge.new.self c.args.x c.args.y c.args.at c.loop-merge.to c.in-Some.merge c.requires.whole.1 c.requires.x c.requires.y
    c.loop-merge.invariant c.in-Some.ensures.less c.in-Some.ensures.some c.next_merge.ensures.rest c.absorb.new.self c.in_ok-absorb.ensures.ok c.in_ok-absorb.ensures.rest c.lose.new.self c.gone-to.result c.lose.ensures c.gone-to.ensures

pub loop-merge-preserved : goal.loop-merge-preserved
loop-merge-preserved c = joining_step c.requires.whole.0 c.args.self.now c.loop-merge.self c.next_merge.new.self c.args.x c.args.y c.args.at c.loop-merge.to c.in-Some.merge c.requires.whole.1 c.requires.x c.requires.y
    c.loop-merge.invariant c.in-Some.ensures.less c.in-Some.ensures.some c.next_merge.ensures.rest c.absorb.new.self c.in_ok-absorb.ensures.ok c.in_ok-absorb.ensures.rest c.lose.new.self c.gone-to.result c.lose.ensures c.gone-to.ensures

pub returns : goal.returns
returns c = joining_end c.args.self.now c.loop-merge.self c.next_merge.new.self c.args.x c.args.y c.args.at c.loop-merge.to c.next_merge.ensures.rest c.in_default.ensures.none c.loop-merge.invariant
