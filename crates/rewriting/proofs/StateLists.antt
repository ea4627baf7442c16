-- Lists of states as they grow.
use Rattle.std.proofs.Common.{◌≡◌, ℕ, ◌<◌, List, [], length, get_or, ◌∙◌, Contains}
use Rattle.std.proofs.lemmas.List.{get_or_default}
use Rattle.theory.specs.Word.{Word}

-- a word where it stands in a list
pub contains_at : (states : List Word) (w : Word) (place : ℕ) → place < length states → get_or states place [] ≡ w → Contains states w
contains_at states w place h e = (place, h, get_or_default states place w [] h ∙ e)

-- the item at the place at which a list contains it
pub item_at : {X : Type 0} (xs : List X) (x d : X) (h : Contains xs x) → get_or xs h.0 d ≡ x
item_at xs x d h = get_or_default xs h.0 d x h.1 ∙ h.2
