-- Pages of what has a property, each item on a line of its own.
use Rattle.std.specs.Prelude.{◌≡◌, ℕ, Bool, List, Option}
use Rattle.theory.specs.Listing.{IsPage}
use Rattle.report_lines.specs.Lines.{page_lines}

-- the lines of a page, and its end
pub record ArePageLines {A : Type 0} (P : A → Type 0) (Less : A → A → Type 0) (line : A → List ℕ)
    (after : Option A) (count : ℕ) (lines : List (List ℕ)) : Type 0 where
  pub items : List A
  pub more : Bool
  pub is_page : IsPage P Less after count items more
  pub are_lines : lines ≡ page_lines line items more
