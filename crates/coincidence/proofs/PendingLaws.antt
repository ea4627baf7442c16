-- What is closed apart from new nodes and edges.
use Rattle.std.proofs.Common.{◌≡◌, ℕ, ◌+◌, ◌-◌, ◌<◌, append_assoc, append-nil, arith, IfSome, length, take, get_or, List, [], ◌∷◌, ◌++◌, refl, sym, ◌∙◌, ap, ◌⊎◌, inl, inr, Bool, Option, Some, None, subst, option_and_then}
use Rattle.std.proofs.lemmas.Bool.{cases_eq}
use Rattle.std.proofs.lemmas.List.{nil_from_length, take_all, take_more}
use Rattle.theory.specs.Word.{Word}
use Rattle.theory.specs.Graph.{Graph, target, path, IsClosedAt}
use Rattle.theory.proofs.GraphLaws.{path_append}
use Rattle.word_graph.proofs.WalkLaws.{some_same}
use Rattle.coincidence.specs.Live.{IsOn, IsLiveGraph}
use Rattle.coincidence.specs.Absorbing.{Extends}
use Rattle.coincidence.specs.Closing.{IsEdged}
use Rattle.coincidence.specs.Drawing.{IsLast}
use Rattle.coincidence.proofs.MarkLaws.{on_within}
use Rattle.coincidence.specs.Pending.{IsAmong, IsSettled, IsClosedBut, Crosses, IsClosedThrough, IsRenewed}
use Rattle.coincidence.specs.declared.pending.Pending.{Pending}
use Rattle.coincidence.specs.declared.pending.Pending.TheVariants.{NewNode, NewEdge}

-- the last of a list, and those before it
pub among_push : {X : Type 0} (x y : X) (xs : List X) → IsAmong x (xs ++ y ∷ []) → IsAmong x xs ⊎ (x ≡ y)
among_push x y [] (inl e) = inr e
among_push x y [] (inr h) = absurd h
among_push x y (z ∷ xs) (inl e) = inl (inl e)
among_push x y (z ∷ xs) (inr h) = elim (among_push x y xs h) [ inl k ↦ inl (inr k) | inr e ↦ inr e ]

pub among_before : {X : Type 0} (x y : X) (xs : List X) → IsAmong x xs → IsAmong x (xs ++ y ∷ [])
among_before x y [] h = absurd h
among_before x y (z ∷ xs) (inl e) = inl e
among_before x y (z ∷ xs) (inr h) = inr (among_before x y xs h)

pub among_last : {X : Type 0} (y : X) (xs : List X) → IsAmong y (xs ++ y ∷ [])
among_last y [] = inl refl
among_last y (z ∷ xs) = inr (among_last y xs)

-- what is read in the new graph without crossing a pending edge was read so in the old one
settled_before : (old new : Graph) (was is : List Bool) (before after : List Pending) → IsRenewed old new was is before after
    → (n m : ℕ) (u : Word) → path new n u ≡ Some m → IsSettled new after n u → (path old n u ≡ Some m) × IsSettled old before n u
settled_before old new was is before after renewed n m [] e s = (e, tt)
settled_before old new was is before after renewed n m (a ∷ u) e s = go (target new n a) refl (λ t h. settled_before old new was is before after renewed t m u h) e
  where
    Was : Type 0
    Was = (path old n (a ∷ u) ≡ Some m) × IsSettled old before n (a ∷ u)

    go : (x : Option ℕ) → target new n a ≡ x
        → ((t : ℕ) → path new t u ≡ Some m → IsSettled new after t u → (path old t u ≡ Some m) × IsSettled old before t u)
        → option_and_then (λ next. path new next u) x ≡ Some m → Was
    go None h further e = cc
    go (Some t) h further e = elim (renewed.edges n a t h) [
      | inl pending ↦ absurd (s.0 pending)
      | inr there ↦
          let rest = further t e (s.1 t h) in
          let clear : IsSettled old before n (a ∷ u) = (
            λ k. s.0 (renewed.pending (NewEdge n a) k),
            λ t' h'. let same : t ≡ t' = some_same t t' (sym there ∙ h') in subst (λ z. IsSettled old before z u) same rest.1,
          ) in
          (rw there rest.0, clear)
    ]

-- a path from a live node ends at one
pub path_live : (g : Graph) (live : List Bool) → IsLiveGraph g live → (n m : ℕ) (u : Word) → IsOn live n → path g n u ≡ Some m → IsOn live m
path_live g live is n m u on e = let w = is.reached n on in is.lives m (w.0 ++ u, path_append g 0 n w.0 u w.1 ∙ e)

-- what was closed stays closed, whatever becomes of the graph, where all that is new is pending
pub closed_renewed : (pairs : List (Word × Word)) (old new : Graph) (was is : List Bool) (before after : List Pending)
    → IsLiveGraph new is → IsRenewed old new was is before after → IsClosedBut pairs old was before → IsClosedBut pairs new is after
closed_renewed pairs old new was is before after live renewed closed node r s a m j on old_node sides first second clear clear' =
    let r' = settled_before old new was is before after renewed node m r first clear in
    let s' = settled_before old new was is before after renewed node j s second clear' in
    let here : IsOn was node = elim (renewed.nodes node on) [ inl fresh ↦ absurd (old_node fresh) | inr h ↦ h ] in
    renewed.kept j a m (path_live new is live node j s on second) (path_live new is live node m r on first)
    (closed node r s a m j here (λ k. old_node (renewed.pending (NewNode node) k)) sides r'.0 s'.0 r'.1 s'.1)

-- what is in one list is in both
pub among_left : {X : Type 0} (x : X) (xs ys : List X) → IsAmong x xs → IsAmong x (xs ++ ys)
among_left x [] ys h = absurd h
among_left x (z ∷ xs) ys (inl e) = inl e
among_left x (z ∷ xs) ys (inr h) = inr (among_left x xs ys h)

pub among_right : {X : Type 0} (x : X) (xs ys : List X) → IsAmong x ys → IsAmong x (xs ++ ys)
among_right x [] ys h = h
among_right x (z ∷ xs) ys h = inr (among_right x xs ys h)

among_either : {X : Type 0} (x : X) (xs ys : List X) → IsAmong x (xs ++ ys) → IsAmong x xs ⊎ IsAmong x ys
among_either x [] ys h = inr h
among_either x (z ∷ xs) ys (inl e) = inl (inl e)
among_either x (z ∷ xs) ys (inr h) = elim (among_either x xs ys h) [ inl k ↦ inl (inr k) | inr k ↦ inr k ]

-- whatever was in a list, or is new, is in the next one
pub extended : {X : Type 0} (x y : X) (old new : List X) → Extends (old ++ y ∷ []) new → IsAmong x old → IsAmong x new
extended x y old new more h = more x (among_before x y old h)

pub extended_last : {X : Type 0} (y : X) (old new : List X) → Extends (old ++ y ∷ []) new → IsAmong y new
extended_last y old new more = more y (among_last y old)

pub extended_twice : {X : Type 0} (y z : X) (old next new : List X) → Extends (old ++ y ∷ []) next → Extends (next ++ z ∷ []) new → Extends ((old ++ y ∷ []) ++ z ∷ []) new
extended_twice y z old next new first second x h = elim (among_push x z (old ++ y ∷ []) h) [
  | inl k ↦ extended x z next new second (first x k)
  | inr e ↦ subst (λ w. IsAmong w new) (sym e) (extended_last z next new second)
]

-- an entry more in the first or the second of two lists
pub second_pushed : {X : Type 0} (xs ys new : List X) (y : X) → new ≡ ys ++ y ∷ [] → Extends ((xs ++ ys) ++ y ∷ []) (xs ++ new)
second_pushed xs ys new y is x h = elim (among_push x y (xs ++ ys) h) [
  | inl k ↦ elim (among_either x xs ys k) [
    | inl first ↦ among_left x xs new first
    | inr second ↦ among_right x xs new (subst (IsAmong x) (sym is) (among_before x y ys second))
  ]
  | inr e ↦ among_right x xs new (subst (IsAmong x) (sym is) (subst (λ w. IsAmong w (ys ++ y ∷ [])) (sym e) (among_last y ys)))
]

pub first_pushed : {X : Type 0} (xs ys new : List X) (y : X) → new ≡ xs ++ y ∷ [] → Extends ((xs ++ ys) ++ y ∷ []) (new ++ ys)
first_pushed xs ys new y is x h = elim (among_push x y (xs ++ ys) h) [
  | inl k ↦ elim (among_either x xs ys k) [
    | inl first ↦ among_left x new ys (subst (IsAmong x) (sym is) (among_before x y xs first))
    | inr second ↦ among_right x new ys second
  ]
  | inr e ↦ among_left x new ys (subst (IsAmong x) (sym is) (subst (λ w. IsAmong w (xs ++ y ∷ [])) (sym e) (among_last y xs)))
]

-- what crosses no pending edge crosses none of fewer
settled_fewer : (g : Graph) (fewer more : List Pending) → Extends fewer more → (n : ℕ) (u : Word) → IsSettled g more n u → IsSettled g fewer n u
settled_fewer g fewer more extends n [] s = tt
settled_fewer g fewer more extends n (a ∷ u) s = (λ k. s.0 (extends (NewEdge n a) k), λ next h. settled_fewer g fewer more extends next u (s.1 next h))

-- what is closed but for some entries is so but for more
pub closed_more : (pairs : List (Word × Word)) (g : Graph) (live : List Bool) (fewer more : List Pending) → Extends fewer more → IsClosedBut pairs g live fewer → IsClosedBut pairs g live more
closed_more pairs g live fewer more extends closed node r s a m j on old_node sides first second clear clear' =
    closed node r s a m j on (λ k. old_node (extends (NewNode node) k)) sides first second (settled_fewer g fewer more extends node r clear) (settled_fewer g fewer more extends node s clear')

-- with one node more at the end, so many nodes are among the entries
pub nodes_push : (old new : List Pending) (n : ℕ) → Extends (old ++ NewNode n ∷ []) new → ((node : ℕ) → node < n → IsAmong (NewNode node) old)
    → (node : ℕ) → node < n + 1 → IsAmong (NewNode node) new
nodes_push old new n more all node less = elim (cases_eq node n) [
  | inl e ↦ subst (λ z. IsAmong (NewNode z) new) (sym e) (extended_last (NewNode n) old new more)
  | inr d ↦ extended (NewNode node) (NewNode n) old new more (all node (omega (arith, less, d)))
]

-- nothing is asked of nodes that are all new
pub closed_nodes : (pairs : List (Word × Word)) (g : Graph) (live : List Bool) (pending : List Pending)
    → ((node : ℕ) → node < length live → IsAmong (NewNode node) pending) → IsClosedBut pairs g live pending
closed_nodes pairs g live pending all node r s a m j on old_node = absurd (old_node (all node (on_within live node on)))

-- a table with the root alone, which is new
pub closed_root : (pairs : List (Word × Word)) (g : Graph) (live : List Bool) → ((node : ℕ) → IsOn live node → node ≡ 0) → IsClosedBut pairs g live (NewNode 0 ∷ [])
closed_root pairs g live only node r s a m j on old_node = absurd (old_node (inl (ap NewNode (only node on))))

-- the newest of the list
pub newest_entry : (entries : List Pending) (entry : Pending) → 0 < length entries → entry ≡ get_or entries (length entries - 1) entry → IsLast entries (Some entry)
newest_entry entries entry some e = (
  take (length entries - 1) entries,
  sym (take_all ((length entries - 1) + 1) entries (omega (arith, some))) ∙ take_more entries (length entries - 1) entry (omega (arith, some)) ∙ ap (λ z. take (length entries - 1) entries ++ z ∷ []) (sym e),
)

-- so it is of both lists, if it is of the second, or the second is empty and it is of the first
pub last_of_second : (edges nodes : List Pending) (entry : Option Pending) → 0 < length nodes → IsLast nodes entry → IsLast (edges ++ nodes) entry
last_of_second edges nodes None some last = absurd (omega (arith, some, ap length last))
last_of_second edges nodes (Some entry) some last = (edges ++ last.0, ap (λ z. edges ++ z) last.1 ∙ sym (append_assoc edges last.0 (entry ∷ [])))

pub last_node_of : (edges nodes : List Pending) (entry : Option Pending) → IsLast nodes entry → IfSome entry (λ node. IsLast (edges ++ nodes) (Some node))
last_node_of edges nodes None last = tt
last_node_of edges nodes (Some entry) last = (edges ++ last.0, ap (λ z. edges ++ z) last.1 ∙ sym (append_assoc edges last.0 (entry ∷ [])))

pub last_of_first : (edges nodes : List Pending) (entry : Option Pending) → length nodes ≡ 0 → IsLast edges entry → IsLast (edges ++ nodes) entry
last_of_first edges nodes entry none last = subst (λ z. IsLast z entry) (sym (ap (λ z. edges ++ z) (nil_from_length nodes none) ∙ append-nil edges)) last

-- with nothing pending all is closed
settled_all : (g : Graph) (n : ℕ) (u : Word) → IsSettled g [] n u
settled_all g n [] = tt
settled_all g n (a ∷ u) = (λ h. h, λ next e. settled_all g next u)

pub closed_end : (pairs : List (Word × Word)) (g : Graph) (live : List Bool) → IsClosedBut pairs g live [] → (node : ℕ) → IsOn live node → IsClosedAt pairs g node
closed_end pairs g live closed node on = λ r s a m j sides first second. closed node r s a m j on (λ h. h) sides first second (settled_all g node r) (settled_all g node s)

-- a word that crosses none of the others crosses the last edge or none
settled_or_crosses : (g : Graph) (pending : List Pending) (x b n m : ℕ) (u : Word) → path g n u ≡ Some m → IsSettled g pending n u
    → IsSettled g (pending ++ NewEdge x b ∷ []) n u ⊎ Crosses g n u x b
settled_or_crosses g pending x b n m [] e s = inl tt
settled_or_crosses g pending x b n m (a ∷ u) e s = go (target g n a) refl (λ t h k. settled_or_crosses g pending x b t m u h k) e
  where
    Either : Type 0
    Either = IsSettled g (pending ++ NewEdge x b ∷ []) n (a ∷ u) ⊎ Crosses g n (a ∷ u) x b

    here : (n ≡ x) × (a ≡ b) → Either
    here p = inr (record { front = []; back = u; word = ap (λ z. z ∷ u) p.1; leads = ap (λ z. Some z) p.0 })

    later : (t : ℕ) → target g n a ≡ Some t → ((n ≡ x) × (a ≡ b) → ⊥) → IsSettled g (pending ++ NewEdge x b ∷ []) t u ⊎ Crosses g t u x b → Either
    later t h other (inl clear) = inl (
      λ k. elim (among_push (NewEdge n a) (NewEdge x b) pending k) [ inl among ↦ s.0 among | inr e ↦ other (edge_same n a x b e) ],
      λ t' h'. subst (λ z. IsSettled g (pending ++ NewEdge x b ∷ []) z u) (some_same t t' (sym h ∙ h')) clear,
    )
      where
        edge_same : (n a x b : ℕ) → NewEdge n a ≡ NewEdge x b → (n ≡ x) × (a ≡ b)
        edge_same n a x b e = (let p : n ≡ x = cc in p, let q : a ≡ b = cc in q)
    later t h other (inr k) = inr (record { front = a ∷ k.front; back = k.back; word = ap (λ z. a ∷ z) k.word; leads = rw h (k.leads) })

    go : (y : Option ℕ) → target g n a ≡ y
        → ((t : ℕ) → path g t u ≡ Some m → IsSettled g pending t u → IsSettled g (pending ++ NewEdge x b ∷ []) t u ⊎ Crosses g t u x b)
        → option_and_then (λ next. path g next u) y ≡ Some m → Either
    go None h further e = cc
    go (Some t) h further e = elim (cases_eq n x) [
      | inr other ↦ later t h (λ p. other p.0) (further t e (s.1 t h))
      | inl same ↦ elim (cases_eq a b) [
        | inr other ↦ later t h (λ p. other p.1) (further t e (s.1 t h))
        | inl letter ↦ here (same, letter)
      ]
    ]

-- an edge is settled once all that crosses it is closed
pub closed_edge : (pairs : List (Word × Word)) (g : Graph) (live : List Bool) (pending : List Pending) (x b : ℕ) → IsClosedThrough pairs g live x b
    → IsClosedBut pairs g live (pending ++ NewEdge x b ∷ []) → IsClosedBut pairs g live pending
closed_edge pairs g live pending x b through closed node r s a m j on old_node sides first second clear clear' =
    elim (settled_or_crosses g pending x b node m r first clear) [
      | inr crosses ↦ through node r s a m j on sides first second (inl crosses)
      | inl quiet ↦ elim (settled_or_crosses g pending x b node j s second clear') [
        | inr crosses ↦ through node r s a m j on sides first second (inr crosses)
        | inl quiet' ↦ closed node r s a m j on (λ k. elim (among_push (NewNode node) (NewEdge x b) pending k) [ inl among ↦ old_node among | inr e ↦ cc ]) sides first second quiet quiet'
      ]
    ]

-- a word that crosses no pending edge crosses none of one more node
settled_node : (g : Graph) (pending : List Pending) (x n : ℕ) (u : Word) → IsSettled g pending n u → IsSettled g (pending ++ NewNode x ∷ []) n u
settled_node g pending x n [] s = tt
settled_node g pending x n (a ∷ u) s = (
  λ k. elim (among_push (NewEdge n a) (NewNode x) pending k) [ inl among ↦ s.0 among | inr e ↦ cc ],
  λ next h. settled_node g pending x next u (s.1 next h),
)

-- a node is settled once the relations are closed there
pub closed_node : (pairs : List (Word × Word)) (g : Graph) (live : List Bool) (pending : List Pending) (x : ℕ) → (IsOn live x → IsClosedAt pairs g x)
    → IsClosedBut pairs g live (pending ++ NewNode x ∷ []) → IsClosedBut pairs g live pending
closed_node pairs g live pending x here closed node r s a m j on old_node sides first second clear clear' =
    elim (cases_eq node x) [
      | inl same ↦ here (subst (IsOn live) same on) r s a m j sides (subst (λ z. path g z r ≡ Some m) same first) (subst (λ z. path g z s ≡ Some j) same second)
      | inr other ↦ closed node r s a m j on (λ k. elim (among_push (NewNode node) (NewNode x) pending k) [ inl among ↦ old_node among | inr e ↦ other (node_same node x e) ]) sides first second
          (settled_node g pending x node r clear) (settled_node g pending x node s clear')
    ]
  where
    node_same : (n x : ℕ) → NewNode n ≡ NewNode x → n ≡ x
    node_same n x e = cc

-- one edge more, which is pending
pub renewed_edged : (old new : Graph) (live : List Bool) (pending : List Pending) (j a m : ℕ) → IsEdged old new j a m → IsRenewed old new live live pending (pending ++ NewEdge j a ∷ [])
renewed_edged old new live pending j a m f = record {
  edges = λ n b t e. elim (f.back n b t e) [
    | inl o ↦ inr o
    | inr p ↦ inl (subst (λ z. IsAmong z (pending ++ NewEdge j a ∷ [])) (edge_is n b p.0 p.1) (among_last (NewEdge j a) pending))
  ];
  nodes = λ n on. inr on;
  pending = λ p h. among_before p (NewEdge j a) pending h;
  kept = λ n b t _ _ e. f.kept n b t e;
}
  where
    edge_is : (n b : ℕ) → n ≡ j → b ≡ a → NewEdge j a ≡ NewEdge n b
    edge_is n b e d = cc
