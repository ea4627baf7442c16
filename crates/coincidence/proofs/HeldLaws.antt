-- What the parts of a table show.
use Rattle.std.proofs.Common.{◌≡◌, ℕ, zero, suc, ◌+◌, ◌<◌, List, [], ◌∷◌, ◌++◌, refl, sym, ◌∙◌, ap, arith, Option, Some, None, length, subst, Bool, true, false, replicate, set}
use Rattle.theory.specs.Congruence.{Congruence, IsWellFormed}
use Rattle.theory.specs.Graph.{Graph, target, IsGraph}
use Rattle.coincidence.specs.Live.{IsOn, IsLiveGraph, IsIdentified}
use Rattle.coincidence.specs.Links.{Links, IsSources}
use Rattle.coincidence.specs.Pending.{IsClosedBut}
use Rattle.std.proofs.Common.{inl, inr, length-set, get_or}
use Rattle.std.proofs.lemmas.Bool.{cases_eq}
use Rattle.std.proofs.lemmas.List.{get_or-set_same, get_or-set_other, get_or_append_left, length_push}
use Rattle.theory.specs.Word.{Word}
use Rattle.theory.specs.Graph.{path, SameEnd}
use Rattle.theory.proofs.PartLaws.{given}
use Rattle.word_graph.specs.Edges.{with_edge, with_node}
use Rattle.word_graph.proofs.EdgeLaws.{graph_edged, target_in}
use Rattle.word_graph.proofs.WalkLaws.{some_same}
use Rattle.cells.proofs.EntryLaws.{target_node}
use Rattle.coincidence.specs.Absorbing.{Extends}
use Rattle.coincidence.specs.Closing.{IsEdged}
use Rattle.coincidence.specs.Cosets.{IsWhole, IsGathered}
use Rattle.coincidence.specs.Joining.{IsJoined}
use Rattle.coincidence.specs.Kept.{IsKept, IsPlaced, listing_of, step_at}
use Rattle.coincidence.specs.Marks.{KeepsNumbers}
use Rattle.coincidence.specs.Merging.{IsReached}
use Rattle.coincidence.specs.Seen.{HoldWhereSeen, IsSeen}
use Rattle.coincidence.specs.Holding.{MeetAt}
use Rattle.coincidence.specs.Table.{CosetTable, IsHeld, IsLive, shown, bare}
use Rattle.coincidence.specs.declared.cosets.Cosets.{Cosets}
use Rattle.coincidence.specs.declared.order.Order.{Order}
use Rattle.coincidence.specs.declared.pending.Pending.{Pending}
use Rattle.coincidence.specs.declared.pending.Pending.TheVariants.{NewNode, NewEdge}
use Rattle.coincidence.proofs.CloseLaws.{edged_path}
use Rattle.coincidence.proofs.DrawLaws.{IsLeft, defined_closed, joined_left, joined_split}
use Rattle.coincidence.proofs.FoldLaws.{edged_with}
use Rattle.coincidence.proofs.FollowsLaws.{path_more}
use Rattle.coincidence.proofs.KeptLaws.{kept_lives, kept_more}
use Rattle.coincidence.proofs.MarkLaws.{marks_pushed, no_mark}
use Rattle.coincidence.proofs.PendingLaws.{closed_more, closed_renewed, closed_root, renewed_edged}
use Rattle.coincidence.proofs.SeenLaws.{seen_folded, seen_kept, seen_nothing}
use Rattle.coincidence.proofs.StepLaws.{edged_live}
use Rattle.coincidence.proofs.TableLaws.{define_edged, define_graph, define_live, on_inside, path_same, root_graph, root_live}

-- each node has its sources, as edges tell
abbrev pub HasSources : Links → Type 0
HasSources links = (node letter : ℕ) → (list : List ℕ) × IsSources links node letter list

pub held : (c : Congruence) (t : Cosets) (failed : Bool) → failed ≡ false → IsWhole c t → HasSources t.edges → IsHeld c failed t
held c t false e w sources = record {
  table = record {
    congruence = w.congruence;
    graph = w.graph;
    live = w.lives;
    shape = w.shape;
    marked = λ _. w.marks;
    sources = λ _. sources;
  };
  whole = λ _. w;
}
held c t true e w sources = cc

-- the edges are what they were
pub still_held : (c : Congruence) (t new : Cosets) (failed : Bool) → failed ≡ false → IsHeld c failed t → IsWhole c new → new.edges ≡ t.edges → IsHeld c failed new
still_held c t new false e h w same = held c new false refl w (subst HasSources (sym same) (h.table.sources refl))
still_held c t new true e h w same = cc

-- once memory was wanting, the root alone
pub failed_held : (c : Congruence) (t : Cosets) → IsWellFormed c → IsHeld c true t
failed_held c t is = record {
  table = record {
    congruence = is;
    graph = root_graph c.presentation.letters;
    live = root_live c.presentation.letters;
    shape = refl;
    marked = λ e. cc;
    sources = λ e. cc;
  };
  whole = λ e. cc;
}

-- while it was not, the cosets themselves are seen
pub seen : (c : Congruence) (t : Cosets) (failed : Bool) (table : CosetTable) → failed ≡ false → shown c failed t ≡ table → shown c false t ≡ table
seen c t false table e view = view
seen c t true table e view = cc

-- what holds of the cosets before and after holds of what is seen
pub between : (P : CosetTable → CosetTable → Type 0) (c : Congruence) (failed : Bool) (t t' : Cosets) (table : CosetTable) → failed ≡ false → shown c failed t ≡ table
    → P (shown c false t) (shown c false t') → P table (shown c failed t')
between P c false t t' table e view h = subst (λ z. P z (shown c false t')) view h
between P c true t t' table e view h = cc

-- what is known to hold does
pub known_holds : (c : Congruence) (t : Cosets) (failed : Bool) (table : CosetTable) → failed ≡ false → IsWhole c t → shown c failed t ≡ table → (node i : ℕ) → IsSeen t.seen node i → IsLive table node
    → (p : Word × Word) → MeetAt table.graph node (get_or table.congruence.presentation.relations i p)
known_holds c t failed table e w view node i h on p =
    subst (λ (z : CosetTable). IsLive z node → MeetAt z.graph node (get_or z.congruence.presentation.relations i p)) (seen c t failed table e view) (λ here. w.seen node i p h (w.lives.reached node here)) on

-- nodes in the order live
pub kept_live : (k : ℕ) (g : Graph) (live marked : List Bool) (o : Order) → IsLiveGraph g live → IsKept k g marked o → (n : ℕ) → IsPlaced o n → IsOn live n
kept_live k g live marked o lives is n p =
    let q = is.order.walk.placed n p.0 p.1 in
    lives.lives n (is.word p.0, is.order.walk.leads p.0 q.0 ∙ ap (λ z. Some z) q.1)

-- what a node that lives was and is
module _ (old new : Graph) (live live' : List Bool) (lives : IsLiveGraph new live') (numbers : KeepsNumbers old new) (persist : (u v : Word) → SameEnd old u v → SameEnd new u v) where
  own : (n : ℕ) → IsOn live' n → (v : Word) × (path old 0 v ≡ Some n) × (path new 0 v ≡ Some n)
  own n on = let r = lives.reached n on in numbers.from r.0 n r.1

  edges_stay : (j b m : ℕ) → IsOn live' j → IsOn live' m → target old j b ≡ Some m → target new j b ≡ Some m
  edges_stay j b m hj hm e =
      let u = own j hj in
      let v = own m hm in
      let there : path old 0 (u.0 ++ b ∷ []) ≡ Some m = path_more old 0 j u.0 b u.1 ∙ e in
      let s = persist (u.0 ++ b ∷ []) v.0 (m, there, v.1) in
      let same : s.0 ≡ m = some_same s.0 m (sym s.2 ∙ v.2) in
      sym (path_more new 0 j u.0 b u.2) ∙ s.1 ∙ ap (λ z. Some z) same

-- what two nodes that become one leave
module _ (c : Congruence) (old new : Cosets) (x y : ℕ) (at to : Option ℕ) (w : IsWhole c old) (hx : IsOn old.live.items x) (hy : IsOn old.live.items y) (o : IsJoined old new x y at to) where
  left : IsLeft old new x y
  left = joined_left old new x y at to w.lives hx hy w.shape w.marks o

  pub joined_identified : IsIdentified old.edges.graph new.edges.graph old.live.items new.live.items x y
  joined_identified = left.ok

  pub joined_gathered : IsGathered old new
  joined_gathered = record { marks = left.marks; numbers = left.numbers }

  persist : (u v : Word) → SameEnd old.edges.graph u v → SameEnd new.edges.graph u v
  persist u v h = (left.ok.relates u v).1 (given (inl h))

  pub joined_whole : IsWhole c new
  joined_whole = record {
    congruence = w.congruence;
    graph = left.graph c.presentation.letters w.graph;
    lives = left.ok.live;
    shape = left.shape;
    marks = left.marked_on;
    closed = left.closed c.presentation.relations w.closed;
    order = kept_lives c.presentation.letters old.edges.graph old.marked.items (listing_of new.order) (o.order.kept c.presentation.letters old.edges.graph old.marked.items w.order)
        new.edges.graph new.live.items new.marked.items left.ok.nodes
        (λ n b t e. (target_in c.presentation.letters new.edges.graph (left.graph c.presentation.letters w.graph) n b t e).1)
        (λ n j e. o.order.lives (kept_live c.presentation.letters old.edges.graph old.live.items old.marked.items old.order w.lives w.order) n (j, e))
        (edges_stay old.edges.graph new.edges.graph old.live.items new.live.items left.ok.live left.numbers persist)
        (λ n on was. let v = own old.edges.graph new.edges.graph old.live.items new.live.items left.ok.live left.numbers persist n on in left.marks.kept v.0 v.0 n n v.1 was v.2 v.2);
    seen = subst (HoldWhereSeen c.presentation.relations new.edges.graph) (sym o.seen)
        (seen_folded c.presentation.relations old.edges.graph o.class new.edges.graph old.seen o.merging.folded
        (λ n r. let s = joined_split old new x y at to o n (left.ok.live.lives n r) in (w.lives.reached n s.0, s.1)) w.seen);
  }

-- the order of a table with one node more
pub kept_added : (k : ℕ) (g : Graph) (marked marked' : List Bool) (o o' : Order) (live : List Bool) (node letter : ℕ) → IsGraph k g → IsLiveGraph g live → IsOn live node → letter < k → target g node letter ≡ None
    → o'.places.items ≡ o.places.items ++ None ∷ [] → o'.steps.items ≡ o.steps.items → o'.row ≡ o.row → o'.letter ≡ o.letter → o'.done ≡ o.done → marked' ≡ marked ++ false ∷ []
    → IsKept k g marked o → IsKept k (with_edge (with_node k g) node letter (length g)) marked' o'
kept_added k g marked marked' o o' live node letter graph lives on less none places steps row at done marks is =
    rw (places, steps, row, at, done, marks)
    (kept_more k g (with_edge (with_node k g) node letter (length g)) marked (listing_of o) longer letters stays is)
  where
    inside : node < length g
    inside = on_inside g live node lives on

    longer : length (with_edge (with_node k g) node letter (length g)) ≡ length g + 1
    longer = length-set (with_node k g) node (set (get_or (with_node k g) node []) letter (Some (length g))) ∙ length_push {X = List (Option ℕ)} g (replicate k None)

    letters : (n b t : ℕ) → target (with_edge (with_node k g) node letter (length g)) n b ≡ Some t → b < k
    letters n b t e = (target_in k (with_edge (with_node k g) node letter (length g)) (define_graph k g node letter graph inside less) n b t e).1

    stays : (n b t : ℕ) → target g n b ≡ Some t → target (with_edge (with_node k g) node letter (length g)) n b ≡ Some t
    stays n b t e = (define_edged k g node letter graph inside less none).kept n b t (target_node k g n b ∙ e)

-- a mark more
pub kept_marked : (k : ℕ) (g : Graph) (marked : List Bool) (o : Order) (node : ℕ) → node < length marked → IsKept k g marked o → IsKept k g (set marked node true) o
kept_marked k g marked o node less is = record {
  word = is.word;
  order = is.order;
  shape = is.shape;
  gaps = is.gaps;
  within = is.within;
  front = is.front;
  met = λ j h. more ((step_at o.steps.items j).node) (is.met j h);
}
  where
    more : (n : ℕ) → IsOn marked n → IsOn (set marked node true) n
    more n on = elim (cases_eq n node) [
      | inl e ↦ subst (IsOn (set marked node true)) (sym e) (get_or-set_same marked node true false less)
      | inr d ↦ get_or-set_other marked node n true false d ∙ on
    ]

-- another order of the same nodes
pub ordered_whole : (c : Congruence) (t new : Cosets) → new ≡ record t { order = new.order } → IsWhole c t → IsKept c.presentation.letters t.edges.graph t.marked.items new.order → IsWhole c new
ordered_whole c t new is w kept = subst (IsWhole c) (sym is) (record {
  congruence = w.congruence;
  graph = w.graph;
  lives = w.lives;
  shape = w.shape;
  marks = w.marks;
  closed = w.closed;
  order = kept;
  seen = w.seen;
})

-- a mark more
pub marked_whole : (c : Congruence) (t new : Cosets) (node : ℕ) → new ≡ record t { marked = new.marked } → new.marked.items ≡ set t.marked.items node true → IsOn t.live.items node → IsWhole c t → IsWhole c new
marked_whole c t new node is marked on w = subst (IsWhole c) (sym is) (record {
  congruence = w.congruence;
  graph = w.graph;
  lives = w.lives;
  shape = ap length marked ∙ length-set t.marked.items node true ∙ w.shape;
  marks = λ n h. elim (cases_eq n node) [
    | inl e ↦ subst (IsOn t.live.items) (sym e) on
    | inr d ↦ w.marks n (sym (get_or-set_other t.marked.items node n true false d) ∙ subst (λ m. IsOn m n) marked h)
  ];
  closed = w.closed;
  order = subst (λ m. IsKept c.presentation.letters t.edges.graph m t.order) (sym marked)
      (kept_marked c.presentation.letters t.edges.graph t.marked.items t.order node (omega (arith, on_inside t.edges.graph t.live.items node w.lives on, w.shape)) w.order);
  seen = w.seen;
})

-- other entries, but for which all is closed too, and more that was seen to hold
pub read_whole : (c : Congruence) (t new : Cosets) → new ≡ record t { pending = new.pending; seen = new.seen } → IsClosedBut c.presentation.relations t.edges.graph t.live.items new.pending
    → HoldWhereSeen c.presentation.relations t.edges.graph new.seen → IsWhole c t → IsWhole c new
read_whole c t new is closed seen w = subst (IsWhole c) (sym is) (record {
  congruence = w.congruence;
  graph = w.graph;
  lives = w.lives;
  shape = w.shape;
  marks = w.marks;
  closed = closed;
  order = w.order;
  seen = seen;
})

pub pending_whole : (c : Congruence) (t new : Cosets) → new ≡ record t { pending = new.pending } → IsClosedBut c.presentation.relations t.edges.graph t.live.items new.pending → IsWhole c t → IsWhole c new
pending_whole c t new is closed w = subst (IsWhole c) (sym is) (read_whole c t (record t { pending = new.pending }) refl closed w.seen w)

-- an edge more, which is pending
module _ (c : Congruence) (t new : Cosets) (node letter to : ℕ) (w : IsWhole c t) (hn : IsOn t.live.items node) (ht : IsOn t.live.items to) (less : letter < c.presentation.letters) (none : target t.edges.graph node letter ≡ None)
    (graph_is : new.edges.graph ≡ with_edge t.edges.graph node letter to) (others : new ≡ record t { edges = new.edges; pending = new.pending }) (more : Extends (t.pending ++ NewEdge node letter ∷ []) new.pending) where
  drawn_node : node < length t.edges.graph
  drawn_node = on_inside t.edges.graph t.live.items node w.lives hn

  drawn_to : to < length t.edges.graph
  drawn_to = on_inside t.edges.graph t.live.items to w.lives ht

  pub drawn_edge : IsEdged t.edges.graph (with_edge t.edges.graph node letter to) node letter to
  drawn_edge = edged_with t.edges.graph node letter to drawn_node (omega (arith, w.graph.width node [] drawn_node, less)) none

  abbrev drawn : Graph
  drawn = with_edge t.edges.graph node letter to

  abbrev later : List Pending
  later = t.pending ++ NewEdge node letter ∷ []

  same : length drawn ≡ length t.edges.graph
  same = length-set t.edges.graph node (set (get_or t.edges.graph node []) letter (Some to))

  graph : IsGraph c.presentation.letters drawn
  graph = graph_edged c.presentation.letters t.edges.graph node letter to w.graph drawn_node less drawn_to

  lives : IsLiveGraph drawn t.live.items
  lives = edged_live t.edges.graph drawn t.live.items node letter to same drawn_edge (w.lives.reached node hn) (w.lives.reached to ht) w.lives

  pub drawn_whole : IsWhole c new
  drawn_whole = subst (IsWhole c) (sym others) (record {
    congruence = w.congruence;
    graph = subst (IsGraph c.presentation.letters) (sym graph_is) graph;
    lives = subst (λ (g : Graph). IsLiveGraph g t.live.items) (sym graph_is) lives;
    shape = w.shape ∙ sym same ∙ ap length (sym graph_is);
    marks = w.marks;
    closed = rw graph_is
        (closed_more c.presentation.relations drawn t.live.items later new.pending more (closed_renewed c.presentation.relations t.edges.graph drawn t.live.items t.live.items t.pending later lives (renewed_edged t.edges.graph drawn t.live.items t.pending node letter to drawn_edge) w.closed));
    order = subst (λ (g : Graph). IsKept c.presentation.letters g t.marked.items t.order) (sym graph_is)
        (kept_lives c.presentation.letters t.edges.graph t.marked.items (listing_of t.order) w.order drawn t.live.items t.marked.items same
        (λ n b m e. (target_in c.presentation.letters drawn graph n b m e).1)
        (λ n j e. kept_live c.presentation.letters t.edges.graph t.live.items t.marked.items t.order w.lives w.order n (j, e))
        (λ n b m _ _ e. drawn_edge.kept n b m e)
        (λ n _ on. on));
    seen = subst (λ (g : Graph). HoldWhereSeen c.presentation.relations g t.seen) (sym graph_is)
        (seen_kept c.presentation.relations t.edges.graph drawn t.seen t.seen (edged_path t.edges.graph drawn node letter to drawn_edge)
        (λ n i h r. (h, w.lives.reached n (lives.lives n r))) w.seen);
  })

-- the root alone
pub root_whole : (c : Congruence) (t : Cosets) → IsWellFormed c → t.edges.graph ≡ bare c → t.live.items ≡ true ∷ [] → t.marked.items ≡ false ∷ [] → Extends (NewNode 0 ∷ []) t.pending → IsKept c.presentation.letters (bare c) (false ∷ []) t.order → t.seen ≡ [] → IsWhole c t
root_whole c t is graph live marked pending kept none = record {
  congruence = is;
  graph = rw graph (root_graph c.presentation.letters);
  lives = rw (graph, live) (root_live c.presentation.letters);
  shape = ap length marked ∙ sym (ap length graph);
  marks = λ n on. absurd (no_mark n (subst (λ m. IsOn m n) marked on));
  closed = rw (graph, live) (closed_more c.presentation.relations (bare c) (true ∷ []) (NewNode 0 ∷ []) t.pending pending (closed_root c.presentation.relations (bare c) (true ∷ []) only_root));
  order = rw (graph, marked) kept;
  seen = seen_nothing c.presentation.relations t.edges.graph t.seen (ap length none);
}
  where
    only_root : (n : ℕ) → IsOn (true ∷ []) n → n ≡ 0
    only_root zero on = refl
    only_root (suc n) on = cc

-- a node more, without mark, and an edge to it
module _ (c : Congruence) (t new : Cosets) (node letter : ℕ) (w : IsWhole c t) (on : IsOn t.live.items node) (less : letter < c.presentation.letters) (none : target t.edges.graph node letter ≡ None) where
  abbrev pub defined : Graph
  defined = with_edge (with_node c.presentation.letters t.edges.graph) node letter (length t.edges.graph)

  longer : length defined ≡ length t.edges.graph + 1
  longer = length-set (with_node c.presentation.letters t.edges.graph) node (set (get_or (with_node c.presentation.letters t.edges.graph) node []) letter (Some (length t.edges.graph))) ∙ length_push {X = List (Option ℕ)} t.edges.graph (replicate c.presentation.letters None)

  inside : node < length t.edges.graph
  inside = on_inside t.edges.graph t.live.items node w.lives on

  was_reached : (n : ℕ) → IsReached defined n → n < length t.edges.graph → IsReached t.edges.graph n
  was_reached n r old =
      let is : IsOn (t.live.items ++ true ∷ []) n = (define_live c.presentation.letters t.edges.graph t.live.items node letter w.graph w.lives on less none).lives n r in
      w.lives.reached n (sym (get_or_append_left t.live.items (true ∷ []) false n (omega (arith, old, w.lives.shape))) ∙ is)

  pub defined_whole : new.edges.graph ≡ defined → new.live.items ≡ t.live.items ++ true ∷ [] → new.marked.items ≡ t.marked.items ++ false ∷ []
      → Extends ((t.pending ++ NewEdge node letter ∷ []) ++ NewNode (length t.edges.graph) ∷ []) new.pending
      → new.order.places.items ≡ t.order.places.items ++ None ∷ [] → new.order.steps.items ≡ t.order.steps.items → new.order.row ≡ t.order.row → new.order.letter ≡ t.order.letter → new.order.done ≡ t.order.done
      → ((n i : ℕ) → IsSeen new.seen n i → IsSeen t.seen n i × (n < length t.edges.graph)) → IsWhole c new
  defined_whole graph live marked pending places steps row at done cut = record {
    congruence = w.congruence;
    graph = subst (IsGraph c.presentation.letters) (sym graph) (define_graph c.presentation.letters t.edges.graph node letter w.graph (on_inside t.edges.graph t.live.items node w.lives on) less);
    lives = rw (graph, live) (define_live c.presentation.letters t.edges.graph t.live.items node letter w.graph w.lives on less none);
    shape = ap length marked ∙ length_push {X = Bool} t.marked.items false ∙ omega (arith, w.shape, longer, ap length graph);
    marks = λ n h. subst (λ is. IsOn is n) (sym live) (marks_pushed t.live.items t.marked.items (w.shape ∙ sym w.lives.shape) w.marks n (subst (λ is. IsOn is n) marked h));
    closed = closed_more c.presentation.relations new.edges.graph new.live.items ((t.pending ++ NewEdge node letter ∷ []) ++ NewNode (length t.edges.graph) ∷ []) new.pending pending
        (defined_closed c.presentation.letters t.edges.graph new.edges.graph t.live.items new.live.items t.pending ((t.pending ++ NewEdge node letter ∷ []) ++ NewNode (length t.edges.graph) ∷ []) node letter (length t.edges.graph) w.graph w.lives on less none refl graph live refl c.presentation.relations w.closed);
    order = subst (λ (g : Graph). IsKept c.presentation.letters g new.marked.items new.order) (sym graph)
        (kept_added c.presentation.letters t.edges.graph t.marked.items new.marked.items t.order new.order t.live.items node letter w.graph w.lives on less none places steps row at done marked w.order);
    seen = subst (λ (g : Graph). HoldWhereSeen c.presentation.relations g new.seen) (sym graph)
        (seen_kept c.presentation.relations t.edges.graph defined t.seen new.seen
        (λ n m u e. edged_path (with_node c.presentation.letters t.edges.graph) defined node letter (length t.edges.graph) (define_edged c.presentation.letters t.edges.graph node letter w.graph inside less none) n m u (path_same t.edges.graph (with_node c.presentation.letters t.edges.graph) (λ p b. sym (target_node c.presentation.letters t.edges.graph p b)) n m u e))
        (λ n i h r. let k = cut n i h in (k.0, was_reached n r k.1)) w.seen);
  }
