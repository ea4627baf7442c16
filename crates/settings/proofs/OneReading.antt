-- What is read from words is a function of them.
use Rattle.std.proofs.Common.{◌≡◌, ℕ, List, Option, Some, ap, sym, ◌∙◌}
use Rattle.clap.specs.Words.{Text}
use Rattle.settings.specs.Settings.{Reads}
use Rattle.settings.specs.declared.Settings.{Settings}

same_number : (o : Option ℕ) (m n : ℕ) → o ≡ Some m → o ≡ Some n → m ≡ n
same_number o m n p q = cc

abbrev built : ℕ → ℕ → ℕ → ℕ → ℕ → ℕ → Option ℕ → Settings
built r d l n c w k = record { rows = r; defs = d; length = l; elements = n; classes = c; workers = w; make = k }

pub one_reading : (words : List Text) (s t : Settings) → Reads words s → Reads words t → s ≡ t
one_reading words s t p q =
    let rows : s.rows ≡ t.rows = same_number _ s.rows t.rows p.rows q.rows in
    let defs : s.defs ≡ t.defs = same_number _ s.defs t.defs p.defs q.defs in
    let length : s.length ≡ t.length = same_number _ s.length t.length p.length q.length in
    let elements : s.elements ≡ t.elements = same_number _ s.elements t.elements p.elements q.elements in
    let classes : s.classes ≡ t.classes = same_number _ s.classes t.classes p.classes q.classes in
    let workers : s.workers ≡ t.workers = same_number _ s.workers t.workers p.workers q.workers in
    let make : s.make ≡ t.make = sym p.make ∙ q.make in
    ap (λ r. built r s.defs s.length s.elements s.classes s.workers s.make) rows ∙ ap (λ d. built t.rows d s.length s.elements s.classes s.workers s.make) defs
    ∙ ap (λ l. built t.rows t.defs l s.elements s.classes s.workers s.make) length ∙ ap (λ n. built t.rows t.defs t.length n s.classes s.workers s.make) elements
    ∙ ap (λ c. built t.rows t.defs t.length t.elements c s.workers s.make) classes ∙ ap (λ w. built t.rows t.defs t.length t.elements t.classes w s.make) workers
    ∙ ap (built t.rows t.defs t.length t.elements t.classes t.workers) make
