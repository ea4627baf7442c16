-- Small congruences, for examples.
use Rattle.std.specs.Prelude.{ℕ, zero, suc, ◌+◌, ◌*◌, ◌/◌, ◌%◌, true, false, List, [], ◌∷◌, map, slice_index}
use Rattle.theory.specs.Word.{Word}
use Rattle.theory.specs.Congruence.{Presentation, Congruence}
use Rattle.theory.specs.LowIndex.{Rows}
use Rattle.theory.specs.Value.{value}
use Rattle.theory.specs.declared.Kind.TheVariants.{Right, Left}

-- the letter a, once, twice and three times
abbrev pub a1 : Word
a1 = 0 ∷ []

abbrev pub a2 : Word
a2 = 0 ∷ 0 ∷ []

abbrev pub a3 : Word
a3 = 0 ∷ 0 ∷ 0 ∷ []

-- the monoid with one generator a, in which aaa is 1
abbrev pub order_three : Presentation
order_three = record { letters = 1; is_monoid = true; relations = (a3, []) ∷ [] }

abbrev pub cyclic : Congruence
cyclic = record { presentation = order_three; kind = Right; pairs = [] }

-- the free monoid with one generator
abbrev pub free_one : Presentation
free_one = record { letters = 1; is_monoid = true; relations = [] }

-- one node; two nodes that the letter exchanges; two nodes of which the second keeps itself
abbrev pub point_rows : Rows
point_rows = (0 ∷ []) ∷ []

abbrev pub swap_rows : Rows
swap_rows = (1 ∷ []) ∷ (0 ∷ []) ∷ []

abbrev pub tail_rows : Rows
tail_rows = (1 ∷ []) ∷ (1 ∷ []) ∷ []

-- the monoid with two generators in which aba is bab
abbrev pub aba : Word
aba = 0 ∷ 1 ∷ 0 ∷ []

abbrev pub bab : Word
bab = 1 ∷ 0 ∷ 1 ∷ []

abbrev pub braid : Presentation
braid = record { letters = 2; is_monoid = true; relations = (aba, bab) ∷ [] }

-- the letter b, and the words ab and ba
abbrev pub b1 : Word
b1 = 1 ∷ []

abbrev pub ab : Word
ab = 0 ∷ 1 ∷ []

abbrev pub ba : Word
ba = 1 ∷ 0 ∷ []

-- the monoid with two generators in which aa, bbb and abab are 1: a group of order six
abbrev pub dihedral : Presentation
dihedral = record {
  letters = 2;
  is_monoid = true;
  relations = (a2, []) ∷ (1 ∷ 1 ∷ 1 ∷ [], []) ∷ (0 ∷ 1 ∷ 0 ∷ 1 ∷ [], []) ∷ [];
}

-- it with the right pair a, 1, and with the left pair a, 1
abbrev pub right_pair : Congruence
right_pair = record { presentation = dihedral; kind = Right; pairs = (a1, []) ∷ [] }

abbrev pub left_pair : Congruence
left_pair = record { presentation = dihedral; kind = Left; pairs = (a1, []) ∷ [] }

-- the monoid with two generators in which aa and bb are 1 and ab is ba: a group of order four, with
-- the left pair 1, 1
abbrev pub four_group : Presentation
four_group = record {
  letters = 2;
  is_monoid = true;
  relations = (a2, []) ∷ (1 ∷ 1 ∷ [], []) ∷ (ab, ba) ∷ [];
}

abbrev pub left_four : Congruence
left_four = record { presentation = four_group; kind = Left; pairs = ([], []) ∷ [] }

-- the semigroup with two generators in which aa is a, bb is b and ab is ba
abbrev pub semilattice : Presentation
semilattice = record {
  letters = 2;
  is_monoid = false;
  relations = (a2, a1) ∷ (1 ∷ 1 ∷ [], b1) ∷ (ab, ba) ∷ [];
}

-- transformations of three points, by their images: the left factor acts first
abbrev pub composed : List ℕ → List ℕ → List ℕ
composed x y = map (λ i. slice_index y i) x

-- the transformations 1 0 2, 1 2 0 and 0 0 2
abbrev pub three_maps : ℕ → List ℕ
three_maps zero = 1 ∷ 0 ∷ 2 ∷ []
three_maps (suc zero) = 1 ∷ 2 ∷ 0 ∷ []
three_maps (suc (suc n)) = 0 ∷ 0 ∷ 2 ∷ []

-- numbers below four as two bits: a product has the first bit of the one and the second of the
-- other
abbrev pub band : ℕ → ℕ → ℕ
band x y = x / 2 * 2 + y % 2

-- its generators 0 and 3, whose products are 1 and 2, and the values of words
abbrev pub band_generator : ℕ → ℕ
band_generator zero = 0
band_generator (suc n) = 3

abbrev pub band_value : Word → ℕ
band_value = value band band_generator 0

-- the pair a, ab
abbrev pub band_pair : List (Word × Word)
band_pair = (a1, ab) ∷ []

-- three nodes, the first of which is left and two that the letter exchanges
abbrev pub tail_swap_rows : Rows
tail_swap_rows = (1 ∷ []) ∷ (2 ∷ []) ∷ (1 ∷ []) ∷ []

-- where a and b lead from the classes of 1, b and ba with the right pair a, 1
abbrev pub right_pair_rows : Rows
right_pair_rows = (0 ∷ 1 ∷ []) ∷ (2 ∷ 2 ∷ []) ∷ (1 ∷ 0 ∷ []) ∷ []

-- the monoid with two generators b and c in which bc is 1, with the right pair c, 1
abbrev pub bicyclic_right : Congruence
bicyclic_right = record {
  presentation = record { letters = 2; is_monoid = true; relations = (0 ∷ 1 ∷ [], []) ∷ [] };
  kind = Right;
  pairs = (1 ∷ [], []) ∷ [];
}

-- the word of n letters b
abbrev pub power : ℕ → Word
power zero = []
power (suc n) = 0 ∷ power n
