use Rattle.std.proofs.Common.{◌≡◌, ◌-◌, ◌<◌, ℕ, length, sym, ◌∙◌, ap, subst, arith}
use Rattle.std.proofs.lemmas.List.{get_or_default}
use Rattle.coincidence.specs.Pending.{IsAmong}
use Rattle.coincidence.proofs.LiveLaws.{eq_true}
use Rattle.coincidence.proofs.UsesLaws.{among_read, entry_same}
use Rattle.coincidence.proofs.uses.ends_with.Goals as goal

pub returns-then-index-entry : goal.returns-then-index-entry
returns-then-index-entry c = λ same.
    let list = c.args.list.now.items in
    let last = c.len-count.result - 1 in
    let long : c.len-count.result ≡ length list = omega (arith, c.len-count.ensures, c.args.list.now.ok) in
    let less : last < length list = omega (arith, long, c.if-count-eq0.false) in
    let x = c.index.result.now in
    let y = c.index-then-index-entry.result.now in
    let one : x ≡ y = c.index.ensures ∙ get_or_default list last x y less ∙ sym c.index-then-index-entry.ensures in
    let is : x ≡ c.args.entry = entry_same x c.args.entry c.if-index-entry.true (ap (λ (z : ℕ × ℕ). z.1) one ∙ eq_true y.1 c.args.entry.1 same) in
    subst (λ (z : ℕ × ℕ). IsAmong z list) is (among_read list last x less (sym c.index.ensures))
