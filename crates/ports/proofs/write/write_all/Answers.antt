use Rattle.std.proofs.Common.{ℕ, ◌+◌, ◌≤◌, List, take, Err, ap, arith, refl, sym, ◌∙◌, subst}
use Rattle.ports.specs.Bytes.{Rose, TakesAll}
use Rattle.ports.proofs.BytesLemmas.{TakesAll-append, take-piece, length-piece}
use Rattle.ports.proofs.write.write_all.Goals as goal

pub returns-in-Err-clause-bytes : goal.returns-in-Err-clause-bytes
returns-in-Err-clause-bytes g c =
    let done : ℕ = c.loop-done.done in
    let bytes : List ℕ = c.args.bytes.now in
    let part = c.in-Err.ensures.bytes in
    let n : ℕ = part.0 in
    let after : ℕ = g.O.Sink.faults c.write.new.self in
    record {
      all = tt;
      part = (
        bytes,
        refl,
        (
          done + n,
          omega (arith, part.1, length-piece bytes done, c.loop-done-test.true),
          subst (λ t. TakesAll (g.O.Sink.taken c.args.sink.now) (g.O.Sink.taken c.write.new.self) t) (sym (take-piece bytes done n))
              (TakesAll-append _ (g.O.Sink.taken c.loop-done.sink) _ (take done bytes) _ c.loop-done.invariant.taken part.2),
        ),
      );
      failed = λ is. subst (λ m. Rose m after) c.loop-done.invariant.faults (c.in-Err.ensures.failed (ap Err is));
      kept = subst (λ m. m ≤ after) c.loop-done.invariant.faults c.in-Err.ensures.faults_kept;
      quiet = tt;
    }

pub loop-done-preserved : goal.loop-done-preserved
loop-done-preserved g c =
    let done : ℕ = c.loop-done.done in
    let bytes : List ℕ = c.args.bytes.now in
    let n : ℕ = c.in-Ok.n in
    record {
      within = omega (arith, c.in-Ok.ensures.within, length-piece bytes done, c.loop-done-test.true);
      taken = subst (λ t. TakesAll (g.O.Sink.taken c.args.sink.now) (g.O.Sink.taken c.write.new.self) t) (sym (take-piece bytes done n))
          (TakesAll-append _ (g.O.Sink.taken c.loop-done.sink) _ (take done bytes) _ c.loop-done.invariant.taken c.in-Ok.ensures.bytes);
      faults = c.in-Ok.ensures.quiet.0 ∙ c.loop-done.invariant.faults;
      refusals = c.in-Ok.ensures.quiet.1 ∙ c.loop-done.invariant.refusals;
    }
