use Rattle.std.proofs.Common.{◌≡◌, ◌-◌, ℕ, List, ◌∷◌, length, ap, ◌∙◌, arith}
use Rattle.theory.specs.Word.{Word}
use Rattle.ports.proofs.WriteLemmas.{handed_on}
use Rattle.query_answers.proofs.ChainAnswers.{chain_begun, chain_written, steps_text}
use Rattle.query_answers.proofs.logged.write_chain.Goals as goal

-- one word less than there are
one_less : (words behind : List Word) (from : Word) (n : ℕ) → n ≡ length words → words ≡ from ∷ behind → n - 1 ≡ length behind
one_less words behind from n counted is = let e : length words ≡ length (from ∷ behind) = ap length is in omega (arith, counted, e)

pub returns-in_err-write : goal.returns-in_err-write
returns-in_err-write g c from behind is =
    let line = steps_text (length behind) _ _ _ c.in_ok-line.ensures c.in_ok-number.ensures (one_less c.args.words.now.items behind from c.len.result (c.len.ensures ∙ c.args.words.now.ok.0) is) in
    handed_on g.O.Sink _ _ _ _ c.from_residual-in_err-write.ensures.1
    (chain_begun g.O.Sink c.args.alphabet.now from behind _ line _ _ _ c.in_err-write.ensures)

pub returns : goal.returns
returns g c from behind is =
    let line = steps_text (length behind) _ _ _ c.in_ok-line.ensures c.in_ok-number.ensures (one_less c.args.words.now.items behind from c.len.result (c.len.ensures ∙ c.args.words.now.ok.0) is) in
    chain_written g.O.Sink c.args.alphabet.now from behind _ line _ _ _ c.in_ok-write.ensures c.args.words.now.items is _ _ c.write_words.ensures
