-- Calls that write, one after the other.
use Rattle.ports.specs.declared.sink.Sink.{Ghosts}
use Rattle.std.proofs.Common.{◌≡◌, inl, inr, List, ℕ, [], ◌++◌, append-nil, IsErrAnd, Result, Ok, Err, refl, sym, ap, ap₂, subst, ◌∙◌, arith}
use Rattle.ports.specs.Bytes.{Rose}
use Rattle.ports.specs.declared.fault.WriteFault.{WriteFault}
use Rattle.ports.specs.declared.fault.WriteFault.TheVariants.{NoMemory}
use Rattle.ports.specs.Writes.{Writes, WritesBytes, WritesOrBegins}
use Rattle.ports.proofs.BytesLemmas.{TakesAll-append, takes_nothing, all_before, prefix_more, prefix_after}

module _ {A : Type 0} (sink : Ghosts A) where
  -- nothing is written yet
  pub no_bytes : (old : A) → WritesBytes sink [] old old (Ok (tt {0}))
  no_bytes old = record { all = ([], refl, takes_nothing (sink.taken old)); part = tt; failed = tt; kept = omega arith; quiet = refl }

  module _ {T U : Type 0} {V : T → List ℕ → Type 0} {C : List ℕ → Type 0} {W : U → List ℕ → Type 0} {B : List ℕ → Type 0} where
    -- an answer passed on: what it stands for is what another one stands for
    pub answered : (old new : A) (value : T) (other : U) → ((bytes : List ℕ) → V value bytes → W other bytes) → WritesOrBegins sink V C old new (Ok value) → WritesOrBegins sink W B old new (Ok other)
    answered old new value other f h = record { all = (h.all.0, f h.all.0 h.all.1, h.all.2); part = tt; failed = tt; kept = h.kept; quiet = h.quiet }

    -- a fault passed on: what was begun is what another call begins
    pub faulted : (old new : A) (fault : WriteFault) → ((bytes : List ℕ) → C bytes → B bytes) → WritesOrBegins sink V C old new (Err fault) → WritesOrBegins sink W B old new (Err fault)
    faulted old new fault f h = record { all = tt; part = (h.part.0, f h.part.0 h.part.1, h.part.2); failed = h.failed; kept = h.kept; quiet = tt }

    -- a fault passed on: what was begun is the front of what another call begins
    pub broken_off : (old new : A) (fault : WriteFault) → ((bytes : List ℕ) → C bytes → (more : List ℕ) × B (bytes ++ more)) → WritesOrBegins sink V C old new (Err fault) → WritesOrBegins sink W B old new (Err fault)
    broken_off old new fault f h =
        let bytes = h.part.0 in
        let more = f bytes h.part.1 in
        record { all = tt; part = (bytes ++ more.0, more.1, prefix_more (sink.taken old) (sink.taken new) bytes more.0 h.part.2); failed = h.failed; kept = h.kept; quiet = tt }

    -- memory ran out after a call that wrote
    pub out_of_memory : (old new : A) (value : T) → ((bytes : List ℕ) → V value bytes → (more : List ℕ) × B (bytes ++ more)) → WritesOrBegins sink V C old new (Ok value) → WritesOrBegins sink W B old new (Err NoMemory)
    out_of_memory old new value f h =
        let bytes = h.all.0 in
        let more = f bytes h.all.1 in
        record { all = tt; part = (bytes ++ more.0, more.1, all_before (sink.taken old) (sink.taken new) bytes more.0 h.all.2); failed = λ e. absurd (cc); kept = h.kept; quiet = tt }

  -- an error that is handed on as it is
  pub handed_on : {T : Type 0} {W : T → List ℕ → Type 0} {B : List ℕ → Type 0} (old new : A) (r : Result T WriteFault) (fault : WriteFault) → IsErrAnd r (λ e. e ≡ fault) → WritesOrBegins sink W B old new (Err fault) → WritesOrBegins sink W B old new r
  handed_on old new (Ok value) fault e h = absurd e
  handed_on {W} {B} old new (Err other) fault e h = subst (λ f. WritesOrBegins sink W B old new (Err f)) (sym e) h

  -- what a call writes or begins is what another one is to write or begin
  pub writes_weaker : {T : Type 0} {V W : T → List ℕ → Type 0} {C B : List ℕ → Type 0} (old new : A) (r : Result T WriteFault) → ((value : T) (bytes : List ℕ) → V value bytes → W value bytes) → ((bytes : List ℕ) → C bytes → B bytes)
      → WritesOrBegins sink V C old new r → WritesOrBegins sink W B old new r
  writes_weaker {W} {B} old new (Ok value) f g h = answered {W = W} {B = B} old new value value (f value) h
  writes_weaker {W} {B} old new (Err fault) f g h = faulted {W = W} {B = B} old new fault g h

  -- one call, and then another
  pub writes_then : {S T : Type 0} {U : S → List ℕ → Type 0} {D : List ℕ → Type 0} {V W : T → List ℕ → Type 0} {C B : List ℕ → Type 0} (old mid new : A) (first : S) (r : Result T WriteFault)
      → ((value : T) (xs ys : List ℕ) → U first xs → V value ys → W value (xs ++ ys)) → ((xs ys : List ℕ) → U first xs → C ys → B (xs ++ ys))
      → WritesOrBegins sink U D old mid (Ok first) → WritesOrBegins sink V C mid new r → WritesOrBegins sink W B old new r
  writes_then old mid new first (Ok value) f g p q = record {
    all = (p.all.0 ++ q.all.0, f value p.all.0 q.all.0 p.all.1 q.all.1, TakesAll-append (sink.taken old) (sink.taken mid) (sink.taken new) p.all.0 q.all.0 p.all.2 q.all.2);
    part = tt;
    failed = tt;
    kept = omega (arith, p.kept, q.kept);
    quiet = q.quiet ∙ p.quiet;
  }
  writes_then old mid new first (Err fault) f g p q = record {
    all = tt;
    part = (p.all.0 ++ q.part.0, g p.all.0 q.part.0 p.all.1 q.part.1, prefix_after (sink.taken old) (sink.taken mid) (sink.taken new) p.all.0 q.part.0 p.all.2 q.part.2);
    failed = λ e. subst (λ n. Rose n (sink.faults new)) p.quiet (q.failed e);
    kept = omega (arith, p.kept, q.kept);
    quiet = tt;
  }

  -- the same bytes, written otherwise
  pub same_bytes : {T : Type 0} (xs ys : List ℕ) (old new : A) (r : Result T WriteFault) → xs ≡ ys → WritesBytes sink xs old new r → WritesBytes sink ys old new r
  same_bytes xs ys old new r e = subst (λ bytes. WritesBytes sink bytes old new r) e

  -- some bytes, and then others
  pub bytes_then : {S T : Type 0} (xs ys : List ℕ) (old mid new : A) (first : S) (r : Result T WriteFault) → WritesBytes sink xs old mid (Ok first) → WritesBytes sink ys mid new r → WritesBytes sink (xs ++ ys) old new r
  bytes_then xs ys old mid new first r = writes_then old mid new first r (λ value a b p q. ap₂ ◌++◌ p q) (λ a b p q. ap₂ ◌++◌ p q)

  -- a fault while the first bytes are written
  pub bytes_broken_off : {S T : Type 0} (xs ys : List ℕ) (old new : A) (fault : WriteFault) → WritesBytes sink {T = S} xs old new (Err fault) → WritesBytes sink {T = T} (xs ++ ys) old new (Err fault)
  bytes_broken_off xs ys old new fault = broken_off old new fault (λ bytes e. (ys, ap (λ t. t ++ ys) e))

  -- memory ran out once the first bytes were written
  pub bytes_out_of_memory : {S T : Type 0} (xs ys : List ℕ) (old new : A) (first : S) → WritesBytes sink xs old new (Ok first) → WritesBytes sink {T = T} (xs ++ ys) old new (Err NoMemory)
  bytes_out_of_memory xs ys old new first = out_of_memory old new first (λ bytes e. (ys, ap (λ t. t ++ ys) e))

  -- memory ran out before anything was written
  pub bytes_refused : {T : Type 0} (bytes : List ℕ) (old : A) → WritesBytes sink {T = T} bytes old old (Err NoMemory)
  bytes_refused bytes old = bytes_out_of_memory [] bytes old old (tt {0}) (no_bytes old)

  pub refused : {T : Type 0} {M : T → List ℕ → Type 0} (old : A) → Writes sink M old old (Err NoMemory)
  refused old = out_of_memory old old (tt {0}) (λ bytes e. ([], inl (append-nil bytes ∙ e))) (no_bytes old)

  -- bytes that are meant with each answer
  pub meant_bytes : {T : Type 0} {M : T → List ℕ → Type 0} (bytes : List ℕ) (old new : A) (r : Result T WriteFault) → (some : T) → ((value : T) → M value bytes) → WritesBytes sink bytes old new r → Writes sink M old new r
  meant_bytes {M} bytes old new r some f = writes_weaker old new r (λ value b e. subst (M value) (sym e) (f value)) (λ b e. inr (some, subst (M some) (sym e) (f some)))

  -- what is meant by one call is meant by another
  pub meant_weaker : {T : Type 0} {M N : T → List ℕ → Type 0} (old new : A) (r : Result T WriteFault) → ((value : T) (bytes : List ℕ) → M value bytes → N value bytes) → Writes sink M old new r → Writes sink N old new r
  meant_weaker old new r f = writes_weaker old new r f (λ bytes c. elim c [ inl none ↦ inl none | inr some ↦ inr (some.0, f some.0 bytes some.1) ])
