-- What follows from a clause of a result that may fail, or of a value that may be absent.
use Rattle.std.specs.Prelude.{◌≡◌, Option, Some, IfSome, Result, Ok, Err, IfOk}
use Rattle.std.proofs.Common.{subst}
use Rattle.std.specs.Result.{OnOk}

pub on_ok : {T E : Type 0} (r : Result T E) (P Q : Type 0) → OnOk r P → (P → Q) → OnOk r Q
on_ok (Ok v) P Q p f = f p
on_ok (Err e) P Q p f = tt

pub if_ok : {T E : Type 0} (r : Result T E) (P Q : T → Type 0) → IfOk r P → ((v : T) → P v → Q v) → IfOk r Q
if_ok (Ok v) P Q p f = f v p
if_ok (Err e) P Q p f = tt

pub if_both : {T E : Type 0} (r : Result T E) (P Q S : T → Type 0) → IfOk r P → IfOk r Q → ((v : T) → P v → Q v → S v) → IfOk r S
if_both (Ok v) P Q S p q f = f v p q
if_both (Err e) P Q S p q f = tt

pub in_some : {X : Type 0} (P : X → Type 0) (o : Option X) (x : X) → IfSome o P → o ≡ Some x → P x
in_some {X} P o x h e = let at : IfSome (Some x) P = subst (λ (p : Option X). IfSome p P) e h in at
