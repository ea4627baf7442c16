-- A problem has one list of Green's classes, and one of idempotents.
use Rattle.std.proofs.Common.{◌≡◌, ℕ, false, List, [], ◌∷◌, ◌++◌, length, map, None, sym, ap, ap₂, subst, ◌∙◌}
use Rattle.theory.specs.Word.{Word}
use Rattle.theory.specs.ShortLex.{◌≺◌}
use Rattle.theory.specs.Green.{AreClasses}
use Rattle.theory.specs.declared.Relation.{Relation}
use Rattle.theory.proofs.ClassLaws.{shortlex_strict}
use Rattle.theory.proofs.ClassListLaws.{classes_one}
use Rattle.theory.proofs.Listings.{list_unique}
use Rattle.problem.specs.declared.kinds.Problem.{Problem}
use Rattle.problem.specs.Problem.{SameClassOf, letters_of}
use Rattle.element_tables.proofs.OneNumber.{one_list}
use Rattle.report_lines.specs.Greens.{AreGreenAt, AreGreenLines, AreIdempotentLines, IsLeastIdempotent}
use Rattle.report_lines.specs.Lines.{class_line, end_line, word_line}

pub one_green : (p : Problem) (relation : Relation) (lines others : List (List ℕ)) → AreGreenLines relation p lines → AreGreenLines relation p others → lines ≡ others
one_green p relation lines others h g =
    let words : g.words ≡ h.words = one_list (SameClassOf p) g.words h.words g.listed h.listed in
    let moved : AreClasses (length h.words) (AreGreenAt relation p h.words) g.classes =
    subst (λ (ws : List Word). AreClasses (length ws) (AreGreenAt relation p ws) g.classes) words g.are_classes in
    h.are_lines
    ∙ ap₂ (λ (ws : List Word) (cs : List (List ℕ)). map (class_line (letters_of p) ws) cs ++ end_line false ∷ []) (sym words)
    (classes_one (length h.words) (AreGreenAt relation p h.words) h.classes g.classes h.are_classes moved)
    ∙ sym g.are_lines

pub one_idempotents : (p : Problem) (lines others : List (List ℕ)) → AreIdempotentLines p lines → AreIdempotentLines p others → lines ≡ others
one_idempotents p lines others h g =
    h.are_lines
    ∙ ap (λ ws. map (word_line (letters_of p)) ws ++ end_line false ∷ [])
    (list_unique (IsLeastIdempotent p) ◌≺◌ (shortlex_strict (IsLeastIdempotent p)) None h.words g.words h.listed g.listed)
    ∙ sym g.are_lines
