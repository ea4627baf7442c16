-- What a growth is as a whole, before and after its methods (Froidure and Pin 1997).
use Rattle.std.specs.Prelude.{◌≡◌, ℕ, Bool, [], ◌∷◌, ◌++◌}
use Rattle.std.specs.List.{position_or_len}
use Rattle.indexmap.specs.IndexSet.{insert_key}
use Rattle.froidure_pin.specs.declared.growth.Growth.{Growth}
use Rattle.froidure_pin.specs.declared.parts.Factor.{Factor}
use Rattle.froidure_pin.specs.declared.parts.Tail.{Tail}
use Rattle.froidure_pin.specs.Found.{FoundLists, insert_beside, words_in}
use Rattle.froidure_pin.specs.Numbering.{TableOf}

-- the lists of a growth
abbrev pub lists_of : {V : Type 0} → Growth V → FoundLists V
lists_of growth = record {
  elements = growth.elements.keys;
  factors = growth.factors.items;
  tails = growth.tails.items;
  right = growth.right.items;
  left = growth.left.items;
}

-- the table of what is found
abbrev pub table_of : {V : Type 0} → FoundLists V → ℕ → TableOf V
table_of lists letters = record {
  elements = lists.elements;
  words = words_in lists;
  letters = letters;
  right = lists.right;
  left = lists.left;
}

-- nothing is found yet
pub record IsNew {V : Type 0} (growth : Growth V) : Type 0 where
  pub elements : growth.elements.keys ≡ []
  pub factors : growth.factors.items ≡ []
  pub tails : growth.tails.items ≡ []
  pub right : growth.right.items ≡ []
  pub left : growth.left.items ≡ []

-- a product was taken in, with what its word is made of where it is new, and its number
pub record HasTakenIn {V : Type 0} (equal : V → V → Bool) (old new : Growth V) (made : V)
    (factor : Factor) (tail : Tail) : Type 0 where
  pub elements : new.elements.keys ≡ insert_key equal old.elements.keys made
  pub factors : new.factors.items
      ≡ insert_beside equal old.elements.keys old.factors.items made factor
  pub tails : new.tails.items ≡ insert_beside equal old.elements.keys old.tails.items made tail
  pub right : new.right.items
      ≡ old.right.items ++ position_or_len (equal made) old.elements.keys ∷ []
  pub left : new.left.items ≡ old.left.items
