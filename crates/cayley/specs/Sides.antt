-- The edges of Cayley graphs as maps of numbers.
use Rattle.std.specs.Prelude.{ℕ, ◌*◌, ◌-◌, List, length, map, nat_lt, cond}
use Rattle.theory.specs.Word.{Word}
use Rattle.theory.specs.declared.Kind.{Kind}
use Rattle.theory.specs.declared.Kind.TheVariants.{TwoSided, Right, Left}
use Rattle.congruence_closure.specs.Maps.{MapList}
use Rattle.froidure_pin.specs.declared.tables.CayleyTables.{CayleyTables}
use Rattle.cayley.specs.Tables.{edge, number_in}

-- how many graphs and letters there are on the sides of the kind
abbrev pub side_count : Kind → ℕ → ℕ
side_count TwoSided k = 2 * k
side_count Right k = k
side_count Left k = k

-- where an edge leads: those of the right graph stand first
abbrev pub side_image : Kind → CayleyTables → ℕ → ℕ → ℕ
side_image TwoSided t i a = cond (nat_lt a (length t.letters)) (edge t.right i a)
    (edge t.left i (a - length t.letters))
side_image Right t i a = edge t.right i a
side_image Left t i a = edge t.left i a

abbrev pub side_maps : CayleyTables → Kind → MapList
side_maps t kind = record {
  bound = length t.words;
  count = side_count kind (length t.letters);
  image = side_image kind t;
}

-- the numbers of each pair
abbrev pub numbers_of : CayleyTables → List (Word × Word) → List (ℕ × ℕ)
numbers_of t pairs = map (λ p. (number_in t p.0, number_in t p.1)) pairs
