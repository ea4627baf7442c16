use Rattle.std.proofs.Common.{◌≡◌, ◌<◌, ◌++◌, ◌∷◌, List, [], length, slice_index_or, sym, ap, subst, arith}
use Rattle.theory.specs.Word.{Word}
use Rattle.froidure_pin.specs.Found.{word_or_none, words_of}
use Rattle.froidure_pin.proofs.Factors.{words_length}
use Rattle.froidure_pin.proofs.Spelling.{factor_read}
use Rattle.froidure_pin.proofs.lists.Words.factors.Goals as goal

pub index-factor-requires : goal.index-factor-requires
index-factor-requires c = omega (arith, c.requires, ap length c.self.view_is, words_length c.self.inside.factors.items)

pub overflow_cast-factor-2 : goal.overflow_cast-factor-2
overflow_cast-factor-2 c =
    omega (arith, (factor_read c.self.inside.factors.items c.args.number c.index-factor.result.now c.self.invariant (subst (λ (ws : List Word). c.args.number < length ws) (sym c.self.view_is) c.requires) c.index-factor.ensures).0)

pub returns-clause-earlier : goal.returns-clause-earlier
returns-clause-earlier c =
    ((factor_read c.self.inside.factors.items c.args.number c.index-factor.result.now c.self.invariant (subst (λ (ws : List Word). c.args.number < length ws) (sym c.self.view_is) c.requires) c.index-factor.ensures).1 c.checked_sub-prefix.result c.checked_sub-prefix.ensures).0

pub returns-clause-word : goal.returns-clause-word
returns-clause-word c =
    let read = ((factor_read c.self.inside.factors.items c.args.number c.index-factor.result.now c.self.invariant (subst (λ (ws : List Word). c.args.number < length ws) (sym c.self.view_is) c.requires) c.index-factor.ensures).1 c.checked_sub-prefix.result c.checked_sub-prefix.ensures).1 in
    subst (λ (ws : List Word). slice_index_or ws c.args.number [] ≡ word_or_none ws c.checked_sub-prefix.result ++ c.new.result ∷ []) c.self.view_is
    (subst (λ a. slice_index_or (words_of c.self.inside.factors.items) c.args.number [] ≡ word_or_none (words_of c.self.inside.factors.items) c.checked_sub-prefix.result ++ a ∷ []) (sym c.new.ensures) read)
