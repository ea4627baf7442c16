use Rattle.std.proofs.Common.{◌≡◌, refl, inr, subst, sym, ap, ◌∙◌, [], ◌∷◌, ◌++◌}
use Rattle.words.specs.Alphabet.{IsAlphabet, marker}
use Rattle.words.proofs.Symbols.{one_more}
use Rattle.words.proofs.alphabets.Alphabet.with_marker.Goals as goal

pub invariant_of-result : goal.invariant_of-result
invariant_of-result c =
    let slice : c.as_slice.result.now ≡ c.args.self.now = c.as_slice.ensures.value ∙ c.self.view_is in
    subst IsAlphabet (sym (c.in_ok-bytes.ensures ∙ ap (λ bytes. bytes ++ marker ∷ []) slice))
    (one_more c.args.self.now marker (inr refl) (subst IsAlphabet c.self.view_is c.self.invariant) c.requires)
