-- What the statuses of a run say once the sink has passed on what it kept back.
use Rattle.std.proofs.Common.{◌≡◌, ◌≢◌, ◌≤◌, ◌⊎◌, ◌∙◌, ℕ, List, Option, None, Some, IfSome, inl, inr, sym, arith}
use Rattle.ports.specs.Bytes.{Rose}
use Rattle.settings.specs.declared.Settings.{Settings}
use Rattle.run_parts.specs.Made.{input_of}
use Rattle.semi.specs.Settings.{OnInput}

if_some : {A : Type 0} (o : Option A) (P Q : A → Type 0) → ((a : A) → P a → Q a) → IfSome o P → IfSome o Q
if_some None P Q f h = tt
if_some (Some a) P Q f h = f a h

pub on_input : (words : List (List ℕ)) (left : Option (List ℕ)) (P Q : Settings → List ℕ → Type 0)
    → ((settings : Settings) (input : List ℕ) → P settings input → Q settings input) → OnInput words left P → OnInput words left Q
on_input words left P Q f h = (h.0, h.1, if_some (input_of h.0 left) (P h.0) (Q h.0) (f h.0) h.2)

-- the status stays, or it was at most 1 and is 5
abbrev pub Passed : ℕ → ℕ → Type 0 → Type 0 → Type 0 → Type 0
Passed status result Same Rises Told = ((result ≡ status) × Same) ⊎ ((status ≤ 1) × (result ≡ 5) × Rises × Told)

pub stays_at : {Same Rises Told : Type 0} (status result n : ℕ) → Passed status result Same Rises Told → n ≢ 5 → result ≡ n → status ≡ n
stays_at status result n (inl h) other e = sym h.0 ∙ e
stays_at status result n (inr h) other e = absurd (other (sym e ∙ h.1))

pub stays_above : {Same Rises Told : Type 0} (status result n : ℕ) → Passed status result Same Rises Told → 2 ≤ n → status ≡ n → result ≡ n
stays_above status result n (inl h) more e = h.0 ∙ e
stays_above status result n (inr h) more e = absurd (omega (arith, h.0, more, e))

pub rose_on : (before middle after : ℕ) → Rose before middle → middle ≤ after → Rose before after
rose_on before middle after rose more = omega (arith, rose, more)
