-- Faults that are passed on, and what is told of refusals.
use Rattle.std.proofs.Common.{◌≡◌, ◌∙◌, Result, Ok, Err, IfErr, IsErrAnd, subst, sym, arith}
use Rattle.ports.specs.Bytes.{Rose}
use Rattle.ports.specs.Writes.{TellsRefusals}
use Rattle.ports.specs.declared.sink.Sink.{Ghosts}
use Rattle.ports.specs.declared.fault.WriteFault.{WriteFault}
use Rattle.ports.specs.declared.fault.WriteFault.TheVariants.{NoMemory}

-- what holds of a fault holds of a result that passes it on
pub handed_on : {A E : Type 0} (P : E → Type 0) (r : Result A E) (fault : E) → IsErrAnd r (λ e. e ≡ fault) → P fault → IfErr r P
handed_on P (Ok x) fault h p = tt
handed_on P (Err e) fault h p = subst P (sym h) p

module _ {A : Type 0} (sink : Ghosts A) where
  -- one call that writes, and then another
  pub refusals_then : {S T : Type 0} (old mid new : A) (first : S) (r : Result T WriteFault) → TellsRefusals sink old mid (Ok first) → TellsRefusals sink mid new r → TellsRefusals sink old new r
  refusals_then old mid new first (Ok value) p q = record { refused = tt; kept = omega (arith, p.kept, q.kept); quiet = q.quiet ∙ p.quiet }
  refusals_then old mid new first (Err fault) p q = record {
    refused = λ e. subst (λ n. Rose n (sink.refusals new)) p.quiet (q.refused e);
    kept = omega (arith, p.kept, q.kept);
    quiet = tt;
  }

  -- a fault that is passed on
  pub refusals_handed : {S T : Type 0} (old new : A) (r : Result T WriteFault) (fault : WriteFault) → IsErrAnd r (λ e. e ≡ fault) → TellsRefusals sink {T = S} old new (Err fault) → TellsRefusals sink old new r
  refusals_handed old new (Ok value) fault e h = absurd e
  refusals_handed old new (Err other) fault e h = record {
    refused = subst (λ (f : WriteFault). f ≡ NoMemory → Rose (sink.refusals old) (sink.refusals new)) (sym e) h.refused;
    kept = h.kept;
    quiet = tt;
  }
