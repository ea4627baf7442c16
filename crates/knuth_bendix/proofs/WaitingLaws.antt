-- The equation that is taken first.
use Rattle.std.proofs.Common.{◌≡◌, ◌≤◌, false, List, [], ◌∷◌, map, refl}
use Rattle.std.specs.BinaryHeap.{IsUpperBound}
use Rattle.std.specs.List.{All}
use Rattle.std.specs.Ordering.{is_lt, nat_cmp, ordering_then}
use Rattle.std.specs.declared.cmp.Ordering.{Ordering}
use Rattle.std.specs.declared.cmp.Ordering.TheVariants.{Less, Equal, Greater}
use Rattle.std.proofs.HeapSift.{at_most}
use Rattle.std.proofs.lemmas.List.Elements.{All-nil, All-cons}
use Rattle.knuth_bendix.specs.declared.equations.Equation.{Equation}
use Rattle.knuth_bendix.specs.Waiting.{longer, turn_cmp}

-- what comes first decides unless it is `Equal`
first_not_less : (a b : Ordering) → is_lt (ordering_then a b) ≡ false → is_lt a ≡ false
first_not_less Less b e = e
first_not_less Equal b e = refl
first_not_less Greater b e = e

-- the longer word of the greatest equation is no longer than that of any other
pub shortest_first : (first : Equation) (rest : List Equation) → IsUpperBound turn_cmp first rest
    → All (λ pair. longer first.pair ≤ longer pair) (map (λ e. e.pair) rest)
shortest_first first [] h = All-nil (λ pair. longer first.pair ≤ longer pair)
shortest_first first (e ∷ rest) h =
    All-cons (λ pair. longer first.pair ≤ longer pair) e.pair (map (λ e. e.pair) rest)
    (at_most (longer e.pair) (longer first.pair) (first_not_less (nat_cmp (longer e.pair) (longer first.pair)) (nat_cmp e.number first.number) h.0))
    (shortest_first first rest h.1)
