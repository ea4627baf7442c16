use Rattle.std.proofs.Common.{◌≡◌, ◌+◌, ◌/◌, ◌-◌, ◌*◌, suc, ap, arith, drop, fold, length, refl, take, ◌∙◌}
use Rattle.words.specs.Pieces.{pieces}
use Rattle.words.proofs.PieceLaws.{piece_more}
use Rattle.words.proofs.letters.hash_letters.Goals as goal

pub loop-piece-preserved : goal.loop-piece-preserved
loop-piece-preserved g c =
    piece_more g.H.Hasher.write c.args.state.now c.loop-piece.state c.hash_piece.new.state c.args.letters.now (take (length c.args.letters.now - c.loop-piece.piece * 32) (drop (c.loop-piece.piece * 32) c.args.letters.now)) c.loop-piece.piece (c.loop-piece.piece + 1)
    refl refl c.loop-piece.invariant c.hash_piece.ensures

pub returns : goal.returns
returns g c =
    let letters = c.args.letters.now in
    let all : c.loop-piece.piece ≡ suc (length letters / 32) = omega (arith, c.loop-piece-test.false, c.loop-piece.auto.piece-end) in
    c.loop-piece.invariant ∙ ap (λ n. fold g.H.Hasher.write c.args.state.now (pieces n letters)) all
