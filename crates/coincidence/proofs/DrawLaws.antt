-- Drawing what is asked for by what is pending.
use Rattle.std.proofs.Common.{◌≡◌, ◌≢◌, ℕ, ◌<◌, List, [], ◌∷◌, ◌++◌, refl, sym, ◌∙◌, ap, arith, inl, inr, Option, Some, None, length, subst, get_or, slice_index, Bool, true, false, nat_eq, option_and_then}
use Rattle.std.proofs.lemmas.Bool.{cases_lt}
use Rattle.word_graph.specs.Edges.{with_edge, with_node}
use Rattle.coincidence.proofs.TableLaws.{define_edged, define_live, on_inside}
use Rattle.cells.proofs.EntryLaws.{target_node}
use Rattle.coincidence.specs.Merging.{IsReached}
use Rattle.std.proofs.lemmas.List.{get_or_append_left, length_push}
use Rattle.theory.specs.Word.{Word}
use Rattle.theory.specs.Congruence.{Congruence}
use Rattle.theory.specs.Graph.{Graph, target, path, IsGraph, IsClosedAt}
use Rattle.word_graph.proofs.WalkLaws.{some_same}
use Rattle.coincidence.specs.Closing.{IsEdged, by_relation, by_pair}
use Rattle.coincidence.specs.DueSpec.{IsDueAt, IsDueIn}
use Rattle.coincidence.specs.Live.{IsOn, IsLiveGraph, IsIdentified}
use Rattle.coincidence.specs.Marks.{IsCarried, KeepsMarks, KeepsNumbers}
use Rattle.coincidence.specs.Pending.{IsAmong, IsClosedBut, IsRenewed, Crosses}
use Rattle.coincidence.specs.Joining.{IsJoined}
use Rattle.coincidence.specs.Reading.{IsDueThrough}
use Rattle.coincidence.specs.Drawing.{IsDueOf}
use Rattle.coincidence.specs.declared.cosets.Cosets.{Cosets}
use Rattle.coincidence.specs.declared.due.Due.{Due}
use Rattle.coincidence.specs.declared.due.Due.TheVariants.{Nothing, Edge, Join}
use Rattle.coincidence.specs.declared.pending.Pending.{Pending}
use Rattle.coincidence.specs.declared.pending.Pending.TheVariants.{NewNode, NewEdge}
use Rattle.coincidence.proofs.CarryLaws.{carried_merged}
use Rattle.coincidence.proofs.LiveLaws.{identified, eq_true, and_cases}
use Rattle.coincidence.proofs.MarkLaws.{marks_kept, live_marks, on_within}
use Rattle.coincidence.proofs.PendingLaws.{closed_node, closed_edge, closed_end, closed_renewed, among_last, among_before}

-- a node that does not live, or has no such edge, asks for nothing
pub drop_node : (pairs : List (Word × Word)) (g : Graph) (live : List Bool) (node : ℕ) → (IsOn live node → IsClosedAt pairs g node) → IsDueOf pairs g live (NewNode node) Nothing
drop_node pairs g live node here rest closed = closed_node pairs g live rest node here closed

pub drop_edge : (pairs : List (Word × Word)) (g : Graph) (live : List Bool) (node letter : ℕ) → IsDueThrough g pairs node letter Nothing → IsDueOf pairs g live (NewEdge node letter) Nothing
drop_edge pairs g live node letter through rest closed = closed_edge pairs g live rest node letter (λ n r s a m j on sides first second crosses. through n r s a m j sides first second crosses) closed

-- no word crosses an edge that is not there
none_crosses : (g : Graph) (n m x b : ℕ) (u : Word) → target g x b ≡ None → path g n u ≡ Some m → Crosses g n u x b → ⊥
none_crosses g n m x b u none e k = go k.front k.back n k.leads (ap (path g n) (sym k.word) ∙ e)
  where
    go : (front back : Word) (n : ℕ) → path g n front ≡ Some x → path g n (front ++ b ∷ back) ≡ Some m → ⊥
    go [] back n f e =
        let same : n ≡ x = some_same n x f in
        let gone : target g n b ≡ None = subst (λ z. target g z b ≡ None) (sym same) none in
        let no : None ≡ Some m = sym (ap (λ z. option_and_then (λ next. path g next back) z) gone) ∙ e in cc
    go (c ∷ front) back n f e = step (target g n c) (λ t h k. go front back t h k) f e
      where
        step : (o : Option ℕ) → ((t : ℕ) → path g t front ≡ Some x → path g t (front ++ b ∷ back) ≡ Some m → ⊥) → option_and_then (λ next. path g next front) o ≡ Some x → option_and_then (λ next. path g next (front ++ b ∷ back)) o ≡ Some m → ⊥
        step None further f e = cc
        step (Some t) further f e = further t f e

pub drop_none : (pairs : List (Word × Word)) (g : Graph) (live : List Bool) (node letter : ℕ) → target g node letter ≡ None → IsDueOf pairs g live (NewEdge node letter) Nothing
drop_none pairs g live node letter none = drop_edge pairs g live node letter (λ n r s a m j sides first second crosses. absurd (elim crosses [ inl k ↦ none_crosses g n m node letter r none first k | inr k ↦ none_crosses g n j node letter s none second k ]))

-- the node from which a word leads to a live one lives
before_live : (g : Graph) (live : List Bool) → IsLiveGraph g live → (n node : ℕ) (front : Word) → IsOn live node → path g n front ≡ Some node → IsOn live n
before_live g live is n node [] on e = subst (IsOn live) (sym (some_same n node e)) on
before_live g live is n node (a ∷ front) on e = go (target g n a) refl e
  where
    go : (o : Option ℕ) → target g n a ≡ o → option_and_then (λ next. path g next front) o ≡ Some node → IsOn live n
    go None h e = cc
    go (Some t) h e = is.lives n (is.edges n a t h)

-- what a new node asks for
pub due_of_node : (pairs : List (Word × Word)) (g : Graph) (live : List Bool) (node : ℕ) (due : Due) → IsOn live node → IsDueAt g node pairs due → IsDueOf pairs g live (NewNode node) due
due_of_node pairs g live node Nothing on h = drop_node pairs g live node (λ _. h)
due_of_node pairs g live node (Edge j a m) on h = (node, on, h.0, h.1)
due_of_node pairs g live node (Join j a t m) on h = (node, on, h.0, h.1, h.2)

-- what a new edge asks for
pub due_of_edge : (pairs : List (Word × Word)) (g : Graph) (live : List Bool) (node letter : ℕ) (due : Due) → IsLiveGraph g live → target g node letter ≢ None → IsDueThrough g pairs node letter due → IsDueOf pairs g live (NewEdge node letter) due
due_of_edge pairs g live node letter due is there h = go due h
  where
    on : IsOn live node
    on = some (target g node letter) refl
      where
        some : (o : Option ℕ) → target g node letter ≡ o → IsOn live node
        some None e = absurd (there e)
        some (Some t) e = is.lives node (is.edges node letter t e)

    go : (due : Due) → IsDueThrough g pairs node letter due → IsDueOf pairs g live (NewEdge node letter) due
    go Nothing h = drop_edge pairs g live node letter h
    go (Edge j a m) h = (h.0.0, before_live g live is h.0.0 node h.0.1 on h.0.2, h.0.3, h.1)
    go (Join j a t m) h = (h.0.0, before_live g live is h.0.0 node h.0.1 on h.0.2, h.0.3, h.1, h.2)

-- where nothing is pending, the pairs alone are left
pub due_last : (c : Congruence) (g : Graph) (live : List Bool) (due : Due) → IsClosedBut c.presentation.relations g live [] → IsDueAt g 0 c.pairs due → IsDueIn c g live None due
due_last c g live Nothing closed h = (λ node _ on. closed_end c.presentation.relations g live closed node on, h)
due_last c g live (Edge j a m) closed h = (by_pair h.0, h.1)
due_last c g live (Join j a t m) closed h = (by_pair h.0, h.1, h.2)

pub due_entry : (c : Congruence) (g : Graph) (live : List Bool) (entry : Pending) (due : Due) → IsLiveGraph g live → (due ≡ Nothing → ⊥) → IsDueOf c.presentation.relations g live entry due → IsDueIn c g live None due
due_entry c g live entry Nothing is not h = absurd (not refl)
due_entry c g live entry (Edge j a m) is not h = let r = is.reached h.0 h.1 in (by_relation h.0 r.0 tt r.1 h.2, h.3)
due_entry c g live entry (Join j a t m) is not h = let r = is.reached h.0 h.1 in (by_relation h.0 r.0 tt r.1 h.2, h.3, h.4)

-- and what is asked for at one node
pub due_here : (c : Congruence) (g : Graph) (live : List Bool) (node : ℕ) (due : Due) → IsLiveGraph g live → IsOn live node → IsClosedAt c.pairs g 0 → IsDueAt g node c.presentation.relations due → IsDueIn c g live (Some node) due
due_here c g live node Nothing is on root h = (λ n same _. subst (IsClosedAt c.presentation.relations g) (sym same) h, root)
due_here c g live node (Edge j a m) is on root h = let r = is.reached node on in (by_relation node r.0 refl r.1 h.0, h.1)
due_here c g live node (Join j a t m) is on root h = let r = is.reached node on in (by_relation node r.0 refl r.1 h.0, h.1, h.2)

-- what stays live was live, and its own class
pub joined_split : (old new : Cosets) (x y : ℕ) (at to : Option ℕ) (o : IsJoined old new x y at to) → (n : ℕ) → IsOn new.live.items n → IsOn old.live.items n × (slice_index o.class n ≡ n)
joined_split old new x y at to o n on =
    let both = and_cases (get_or old.live.items n false) (nat_eq (slice_index o.class n) n) (sym (o.live n) ∙ on) in
    (both.0, eq_true (slice_index o.class n) n both.1)

-- a merging renews
joined_renewed : (old new : Cosets) (x y : ℕ) (at to : Option ℕ) → IsJoined old new x y at to → IsRenewed old.edges.graph new.edges.graph old.live.items new.live.items old.pending new.pending
joined_renewed old new x y at to o = record {
  edges = o.fresh;
  nodes = λ n on. inr (joined_split old new x y at to o n on).0;
  pending = o.pending;
  kept = λ p b q hp hq f. subst (λ z. target new.edges.graph z b ≡ Some q) (joined_split old new x y at to o p hp).1 (o.merging.folded.edge p b q f ∙ ap (λ z. Some z) (joined_split old new x y at to o q hq).1);
}

-- live nodes have kept their numbers
pub numbers_kept : (old new : Graph) (live : List Bool) (class : List ℕ) → length new ≡ length old → IsCarried old new class → IsLiveGraph new live → ((n : ℕ) → IsOn live n → IsReached old n × (slice_index class n ≡ n)) → KeepsNumbers old new
numbers_kept old new live class same gone lives own = record {
  nodes = same;
  least = λ w n m e f.
      let same : n ≡ slice_index class m = some_same n (slice_index class m) (sym e ∙ gone.follows w m f) in
      omega (arith, same, gone.below m);
  from = λ w n e.
      let r = own n (lives.lives n (w, e)) in
      (r.0.0, r.0.1, gone.follows r.0.0 n r.0.1 ∙ ap (λ z. Some z) r.1);
}

-- what two nodes that become one leave
pub record IsLeft (old new : Cosets) (x y : ℕ) : Type 0 where
  pub ok : IsIdentified old.edges.graph new.edges.graph old.live.items new.live.items x y
  pub marks : KeepsMarks old.edges.graph old.marked.items new.edges.graph new.marked.items
  pub numbers : KeepsNumbers old.edges.graph new.edges.graph
  pub graph : (k : ℕ) → IsGraph k old.edges.graph → IsGraph k new.edges.graph
  pub shape : length new.marked.items ≡ length new.edges.graph
  pub marked_on : (n : ℕ) → IsOn new.marked.items n → IsOn new.live.items n
  pub closed : (pairs : List (Word × Word)) → IsClosedBut pairs old.edges.graph old.live.items old.pending → IsClosedBut pairs new.edges.graph new.live.items new.pending

pub joined_left : (old new : Cosets) (x y : ℕ) (at to : Option ℕ) → IsLiveGraph old.edges.graph old.live.items → IsOn old.live.items x → IsOn old.live.items y → length old.marked.items ≡ length old.edges.graph
    → ((n : ℕ) → IsOn old.marked.items n → IsOn old.live.items n) → IsJoined old new x y at to → IsLeft old new x y
joined_left old new x y at to lives hx hy shape on o =
    let id : IsIdentified old.edges.graph new.edges.graph old.live.items new.live.items x y = identified old.edges.graph new.edges.graph old.live.items new.live.items o.class x y lives hx hy o.merging o.shape o.live in
    let gone = carried_merged old.edges.graph new.edges.graph o.class x y o.merging in
    record {
      ok = id;
      marks = marks_kept old.edges.graph new.edges.graph old.marked.items new.marked.items o.class (λ n h. lives.reached n (on n h)) gone o.carried;
      numbers = numbers_kept old.edges.graph new.edges.graph new.live.items o.class id.nodes gone id.live (λ n h. let s = joined_split old new x y at to o n h in (lives.reached n s.0, s.1));
      graph = o.merging.graph;
      shape = o.carried.shape ∙ shape ∙ sym id.nodes;
      marked_on = live_marks old.edges.graph new.edges.graph old.live.items new.live.items old.marked.items new.marked.items o.class lives id.live on gone o.carried;
      closed = λ pairs c. closed_renewed pairs old.edges.graph new.edges.graph old.live.items new.live.items old.pending new.pending id.live (joined_renewed old new x y at to o) c;
    }

-- a definition renews
pub defined_renewed : (k : ℕ) (g : Graph) (live : List Bool) (pending : List Pending) (n a : ℕ) → IsGraph k g → IsLiveGraph g live → IsOn live n → a < k → target g n a ≡ None
    → IsRenewed g (with_edge (with_node k g) n a (length g)) live (live ++ true ∷ []) pending ((pending ++ NewEdge n a ∷ []) ++ NewNode (length g) ∷ [])
defined_renewed k g live pending n a is lives on letter missing = record {
  edges = λ p b t e. elim (edged.back p b t e) [
    | inl o ↦ inr (sym (target_node k g p b) ∙ o)
    | inr o ↦ inl (subst (λ z. IsAmong z ((pending ++ NewEdge n a ∷ []) ++ NewNode (length g) ∷ [])) (edge_is p b o.0 o.1) (among_before (NewEdge n a) (NewNode (length g)) (pending ++ NewEdge n a ∷ []) (among_last (NewEdge n a) pending)))
  ];
  nodes = λ p h. elim (cases_lt p (length live)) [
    | inl less ↦ inr (sym (get_or_append_left live (true ∷ []) false p less) ∙ h)
    | inr more ↦
        let last : p ≡ length g = omega (arith, more, on_within (live ++ true ∷ []) p h, length_push {X = Bool} live true, lives.shape) in
        inl (subst (λ z. IsAmong (NewNode z) ((pending ++ NewEdge n a ∷ []) ++ NewNode (length g) ∷ [])) (sym last) (among_last (NewNode (length g)) (pending ++ NewEdge n a ∷ [])))
  ];
  pending = λ p h. among_before p (NewNode (length g)) (pending ++ NewEdge n a ∷ []) (among_before p (NewEdge n a) pending h);
  kept = λ j b m _ _ e. edged.kept j b m (target_node k g j b ∙ e);
}
  where
    edged : IsEdged (with_node k g) (with_edge (with_node k g) n a (length g)) n a (length g)
    edged = define_edged k g n a is (on_inside g live n lives on) letter missing

    edge_is : (p b : ℕ) → p ≡ n → b ≡ a → NewEdge n a ≡ NewEdge p b
    edge_is p b e d = cc

-- and keeps what is closed
pub defined_closed : (k : ℕ) (g new : Graph) (live is : List Bool) (pending later : List Pending) (n a m : ℕ) → IsGraph k g → IsLiveGraph g live → IsOn live n → a < k → target g n a ≡ None
    → m ≡ length g → new ≡ with_edge (with_node k g) n a m → is ≡ live ++ true ∷ [] → later ≡ (pending ++ NewEdge n a ∷ []) ++ NewNode (length g) ∷ []
    → (pairs : List (Word × Word)) → IsClosedBut pairs g live pending → IsClosedBut pairs new is later
defined_closed k g new live is pending later n a m graph lives on letter missing fresh new_is live_is later_is pairs closed =
    rw (new_is, fresh, live_is, later_is)
    (closed_renewed pairs g (with_edge (with_node k g) n a (length g)) live (live ++ true ∷ []) pending ((pending ++ NewEdge n a ∷ []) ++ NewNode (length g) ∷ [])
    (define_live k g live n a graph lives on letter missing) (defined_renewed k g live pending n a graph lives on letter missing) closed)
