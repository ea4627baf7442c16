use Rattle.std.proofs.Common.{◌++◌, ◌∷◌, [], ℕ, List, codes, false, map, ap}
use Rattle.ports.proofs.WriteLemmas.{handed_on, same_bytes}
use Rattle.report_lines.specs.Collected.{TextLines}
use Rattle.report_lines.specs.LineBytes.{bytes_of}
use Rattle.report_lines.specs.Lines.{end_line}
use Rattle.report_lines.proofs.ListingLemmas.{listing_begun, listing_ended}
use Rattle.report_lines.proofs.class_lines.ClassLines.write.Goals as goal

-- the bytes that are written
abbrev bytes_in : List (List ℕ) → List ℕ
bytes_in lines = bytes_of (map (λ line. line ++ codes "\n") lines ++ end_line false ∷ [])

pub returns-in_err-write_lines : goal.returns-in_err-write_lines
returns-in_err-write_lines g c =
    let lines : List (List ℕ) = c.self.inside.lines.items in
    handed_on g.O.Sink _ _ _ _ c.from_residual.ensures.1
    (same_bytes g.O.Sink (bytes_in lines) (bytes_in c.args.self.now.lines) _ _ _ (ap (λ (s : TextLines). bytes_in s.lines) c.self.view_is)
    (listing_begun g.O.Sink (λ (line : List ℕ). line ++ codes "\n") lines (end_line false) _ _ _ c.in_err-write_lines.ensures))

pub returns : goal.returns
returns g c =
    let lines : List (List ℕ) = c.self.inside.lines.items in
    same_bytes g.O.Sink (bytes_in lines) (bytes_in c.args.self.now.lines) _ _ _ (ap (λ (s : TextLines). bytes_in s.lines) c.self.view_is)
    (listing_ended g.O.Sink (λ (line : List ℕ). line ++ codes "\n") lines (end_line false) _ _ _ _ c.in_ok-write_lines.ensures c.write_end.ensures.bytes)
