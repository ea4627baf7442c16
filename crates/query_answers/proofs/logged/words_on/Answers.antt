use Rattle.std.proofs.Common.{subst}
use Rattle.chains.specs.Chains as chains
use Rattle.query_answers.specs.Chains.{with_its_pairs}
use Rattle.query_answers.proofs.ChainAnswers.{straight_words}
use Rattle.query_answers.proofs.logged.words_on.Goals as goal

pub returns : goal.returns
returns c to straight =
    let chain = rw c.in-Some.is at c.in_ok-words.ensures in
    straight_words (with_its_pairs c.args.congruence.now.congruence) c.args.from.now to c.args.steps.now.items c.in-Some.words.items straight
    (subst (λ p. chains.IsChain p c.args.from.now c.args.steps.now.items c.in-Some.words.items) c.in_ok-relations.ensures chain)
