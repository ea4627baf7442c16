use Rattle.std.proofs.Common.{◌≡◌, ◌+◌, ◌-◌, ◌<◌, ◌≤◌, length, drop, lit<, ap, refl, sym, subst, subst₂, ◌∙◌, arith}
use Rattle.std.proofs.lemmas.List.{length-set}
use Rattle.theory.specs.Word.{Word}
use Rattle.rewriting.specs.Newer.{AreNewerTo, end_key}
use Rattle.rewriting.specs.Tries.{left_at}
use Rattle.rewriting.proofs.Standing.{rule_read}
use Rattle.rewriting.proofs.NewerLaws.{key_few, newer_pushed}
use Rattle.rewriting.proofs.newer.Newer.of.Goals as goal

pub loop-place-preserved : goal.loop-place-preserved
loop-place-preserved c =
    let rules = c.args.rules.now in
    let place = c.loop-place.place in
    let within : place < length rules = omega (arith, c.loop-place-test.true, c.len-place-end.ensures.len) in
    let left_is : left_at rules (c.args.first + (place - c.args.first)) ≡ c.letters.result.now =
    ap (left_at rules) (let e : c.args.first + (place - c.args.first) ≡ place = omega (arith, c.loop-place.auto.place) in e)
    ∙ sym (c.letters.ensures ∙ ap (λ (r : Word × Word). r.0) (rule_read rules rules place c.rule.result.now refl within c.rule.ensures.rule)) in
    let depth = c.loop-place.newer.depth in
    let to =
    newer_pushed rules c.args.first (place - c.args.first) c.loop-place.newer c.push.new.self c.loop-place.invariant.to c.in_ok-push.ensures.depth c.loop-place.invariant.keys
    (end_key depth c.letters.result.now) (key_few 0 (drop (length c.letters.result.now - depth) c.letters.result.now) (let z : 0 < 256 = lit< tt in z)) (ap (end_key depth) left_is) c.in_ok-push.ensures.before c.in_ok-push.ensures.latest in
    let more : place - c.args.first + 1 ≡ place + 1 - c.args.first = omega (arith, c.loop-place.auto.place) in
    record {
      to = subst (λ n. AreNewerTo rules c.args.first n c.push.new.self) more to;
      keys = ap length c.in_ok-push.ensures.latest ∙ length-set _ _ _ ∙ c.loop-place.invariant.keys;
      depth = c.in_ok-push.ensures.depth ∙ c.loop-place.invariant.depth;
    }

pub returns : goal.returns
returns c =
    let rules = c.args.rules.now in
    let newer = c.loop-place.newer in
    let is = c.loop-place.invariant in
    let within = c.loop-place.auto.place-end (omega (arith, c.requires, c.len-place-end.ensures.len)) in
    record {
      count = omega (arith, is.to.all, within, c.loop-place-test.false, c.len-place-end.ensures.len, c.requires);
      some = subst (λ d. 0 < d) (sym is.depth) c.depth_of.ensures.some;
      long = λ place from inside. subst (λ d. d ≤ length (left_at rules place)) (sym is.depth) (c.depth_of.ensures.long place from inside);
      to = subst (λ n. AreNewerTo rules c.args.first n newer) (sym is.to.all) is.to;
    }

pub rule-requires : goal.rule-requires
rule-requires c = omega (arith, c.loop-place-test.true, c.len-place-end.ensures.len)

pub push-requires : goal.push-requires
push-requires c =
    let rules = c.args.rules.now in
    let place = c.loop-place.place in
    let within : place < length rules = omega (arith, c.loop-place-test.true, c.len-place-end.ensures.len) in
    let left_is : left_at rules place ≡ c.letters.result.now =
    sym (c.letters.ensures ∙ ap (λ (r : Word × Word). r.0) (rule_read rules rules place c.rule.result.now refl within c.rule.ensures.rule)) in
    record {
      long = subst₂ (λ d (w : Word). d ≤ length w) (sym c.loop-place.invariant.depth) left_is (c.depth_of.ensures.long place c.loop-place.auto.place within);
      keys = c.loop-place.invariant.keys;
    }
