-- Green's relations on the numbers of elements (Howie 1995, ch. 2).
use Rattle.std.specs.Prelude.{◌≡◌, ℕ, ◌<◌, length, reverse}
use Rattle.theory.specs.Word.{IsOver}
use Rattle.theory.specs.Green.{AreConnected, IsEdge, IsEdgeOfEither, follow}
use Rattle.froidure_pin.specs.declared.tables.CayleyTables.{CayleyTables}
use Rattle.cayley.specs.Tables.{edge, word_at}
use Rattle.theory.specs.declared.Relation.{Relation}
use Rattle.theory.specs.declared.Relation.TheVariants.{R, L, H, J}

-- connected in the right Cayley graph, in the left one, in each of them, in both together
abbrev pub AreRelated : Relation → CayleyTables → ℕ → ℕ → Type 0
AreRelated R t = AreConnected (IsEdge (length t.letters) (edge t.right))
AreRelated L t = AreConnected (IsEdge (length t.letters) (edge t.left))
AreRelated H t = λ i j. AreConnected (IsEdge (length t.letters) (edge t.right)) i j
    × AreConnected (IsEdge (length t.letters) (edge t.left)) i j
AreRelated J t = AreConnected (IsEdgeOfEither (length t.letters) (edge t.right) (edge t.left))

-- a letter on the left and one on the right may be multiplied in either order
abbrev pub DoCommute : CayleyTables → Type 0
DoCommute t = (i a b : ℕ) → i < length t.words → a < length t.letters → b < length t.letters
    → edge t.left (edge t.right i a) b ≡ edge t.right (edge t.left i b) a

-- the words are words of the letters
abbrev pub AreOfLetters : CayleyTables → Type 0
AreOfLetters t = (i : ℕ) → i < length t.words → IsOver (length t.letters) (word_at t i)

-- the product of two numbers: where the word of the first, its last letter first, leads in the left
-- Cayley graph from the second
abbrev pub product_in : CayleyTables → ℕ → ℕ → ℕ
product_in t i j = follow (edge t.left) j (reverse (word_at t i))

-- the word of the second leads there too, in the right Cayley graph from the first
abbrev pub DoAgree : CayleyTables → Type 0
DoAgree t = (i j : ℕ) → i < length t.words → j < length t.words
    → product_in t i j ≡ follow (edge t.right) i (word_at t j)

-- the number is its own square
pub record IsIdempotentAt (t : CayleyTables) (i : ℕ) : Type 0 where
  pub below : i < length t.words
  pub back : product_in t i i ≡ i
