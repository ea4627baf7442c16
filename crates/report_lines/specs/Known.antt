-- What is known of the elements of a problem.
use Rattle.std.specs.Prelude.{◌≡◌, length, IfSome, IsSome, Some}
use Rattle.froidure_pin.specs.declared.tables.CayleyTables.{CayleyTables}
use Rattle.problem.specs.declared.kinds.Problem.{Problem}
use Rattle.problem.specs.Problem.{letters_of}
use Rattle.theory.specs.declared.Relation.{Relation}
use Rattle.element_tables.specs.CayleyGraphs.{AreTablesFor}
use Rattle.green.specs.Known.{AreNamesIn, HasNames, KeepsNames}
use Rattle.report_lines.specs.Texts.{AreTexts, JoinedTexts}
use Rattle.report_lines.specs.declared.known.KnownElements.{KnownElements}

-- the texts are those of all words of the tables
abbrev pub AreTextsOf : Problem → CayleyTables → JoinedTexts → Type 0
AreTextsOf p t texts = (texts.count ≡ length t.words) × AreTexts (letters_of p) t.words texts

-- names of classes, and texts, are right, whatever tables the problem has
pub record AreKnownOf (p : Problem) (known : KnownElements) : Type 0 where
  pub names : (t : CayleyTables) → AreTablesFor p t → AreNamesIn t known.names
  pub texts : (t : CayleyTables) → AreTablesFor p t → IfSome known.texts (AreTextsOf p t)

-- what was known stays known
pub record KeepsKnown (old new : KnownElements) : Type 0 where
  pub names : KeepsNames old.names new.names
  pub texts : IfSome old.texts (λ texts. new.texts ≡ Some texts)

-- the names of Green's classes and the texts, of which their lines are made, are known
abbrev pub HasGreen : Relation → KnownElements → Type 0
HasGreen relation known = HasNames relation known.names × IsSome known.texts
