use Rattle.std.proofs.Common.{◌≡◌, ℕ, ◌+◌, ◌*◌, ◌%◌, ◌^◌, ◌<◌, ◌≤◌, List, [], ◌∷◌, length, get_or, fold, refl, sym, ap, ◌∙◌, arith}
use Rattle.std.specs.Prelude.{bit_or}
use Rattle.std.specs.List.{between}
use Rattle.std.proofs.lemmas.Grind.{common_steps, fold-append}
use Rattle.std.proofs.lemmas.List.Edits.{between_more}
use Rattle.elements.proofs.transf.images.Images.octet.Goals as goal

abbrev joined : ℕ → ℕ → ℕ
joined n y = bit_or (n * 2 ^ 8 % 2 ^ 64) y

octet_more : (x : List ℕ) (start point number y next : ℕ) → start ≤ point → point < length x → y ≡ get_or x point 0 → next ≡ joined number y → number ≡ fold joined 0 (between start point x) → next ≡ fold joined 0 (between start (point + 1) x)
octet_more x start point number y next from within is made so_far =
    made ∙ (λ t. joined (so_far t) (is t)) ∙ sym (fold-append joined 0 (between start point x) (get_or x point 0 ∷ []))
    ∙ ap (fold joined 0) (sym (between_more x start point 0 from within))

pub loop-point-preserved : goal.loop-point-preserved
loop-point-preserved c =
    let within : c.loop-point.point < length c.args.self.now = grind (arith, common_steps) in
    octet_more c.args.self.now c.args.start c.loop-point.point c.loop-point.number c.at.result _ c.loop-point.auto.point within c.at.ensures refl c.loop-point.invariant
