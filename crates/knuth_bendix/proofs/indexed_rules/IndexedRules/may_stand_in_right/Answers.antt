use Rattle.std.proofs.Common.{◌≡◌, ℕ, true, ap, sym, subst₂}
use Rattle.std.specs.Int.Bits.{bit_or}
use Rattle.knuth_bendix.specs.Overlaps.{rule_at}
use Rattle.knuth_bendix.proofs.MarkLaws.{sign_taken_up}
use Rattle.knuth_bendix.proofs.indexed_rules.IndexedRules.may_stand_in_right.Goals as goal

pub returns : goal.returns
returns c = λ no factor.
    let all : bit_or c.right_sign.result c.marks.result.sign ≡ c.right_sign.result =
    subst₂ (λ (a b : ℕ). bit_or a b ≡ a) (sym c.right_sign.ensures) (sym (ap (λ m. m.sign) c.marks.ensures))
    (sign_taken_up (rule_at c.args.self.now c.args.left).0 (rule_at c.args.self.now c.args.right).1 factor) in
    let yes : c.takes_up.result ≡ true = c.takes_up.ensures.1 all in
    let bad : ⊥ = cc in
    bad
