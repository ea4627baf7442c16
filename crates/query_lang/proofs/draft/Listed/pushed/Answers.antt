use Rattle.std.proofs.Common.{◌∙◌, ap, sym}
use Rattle.query_lang.specs.Draft.{DraftOf, new_letter_of}
use Rattle.query_lang.proofs.DraftLemmas.{generator_added}
use Rattle.query_lang.proofs.draft.Listed.pushed.Goals as goal

pub invariant_of-result : goal.invariant_of-result
invariant_of-result g c =
    let draft = c.self.inside in
    let wide = c.requires.letter.0 in
    let name = c.requires.letter.1 in
    generator_added g.E.Values.shape (g.E.Generator.shape_for draft.sizes) draft.letters.items draft.generators.items wide name c.args.letter c.args.generator c.self.invariant
    (sym c.requires.letter.2 ∙ ap (λ (d : DraftOf g.row.E.Denot). new_letter_of wide d.posed.letters name) (sym c.self.view_is))
    (c.requires.shape ∙ ap (λ (d : DraftOf g.row.E.Denot). g.E.Generator.shape_for d.sizes) (sym c.self.view_is))
    c.push.new.self.items c.push-2.new.self.items c.in_ok-push.ensures.items c.in_ok-push-2.ensures.items
