-- Closing, under way.
use Rattle.std.proofs.Common.{◌≡◌, ℕ, ◌+◌, ◌<◌, List, [], ◌∷◌, ◌++◌, refl, sym, ◌∙◌, ap, arith, Option, Some, None, length, subst, get_or, set, slice_index, map, option_map, length-set}
use Rattle.std.specs.List.{range_with_len}
use Rattle.std.proofs.lemmas.List.{length-map}
use Rattle.std.proofs.lemmas.List.FromFn.{get_or-range_with_len, length-range_with_len}
use Rattle.theory.specs.Congruence.{Congruence}
use Rattle.theory.specs.Word.{Word}
use Rattle.theory.specs.Graph.{path, target}
use Rattle.theory.proofs.GraphLaws.{path_append}
use Rattle.word_graph.specs.Edges.{with_edge}
use Rattle.coincidence.specs.Absorbing.{Extends}
use Rattle.coincidence.specs.Closing.{IsDue}
use Rattle.coincidence.specs.Cosets.{IsWhole, IsGathered}
use Rattle.coincidence.specs.Holding.{HoldWhere}
use Rattle.coincidence.specs.Joining.{IsJoined}
use Rattle.coincidence.specs.Live.{IsOn}
use Rattle.coincidence.specs.Marks.{AreCarried, IsCarried}
use Rattle.coincidence.specs.Merging.{IsReached}
use Rattle.coincidence.specs.declared.cosets.Cosets.{Cosets}
use Rattle.coincidence.specs.declared.pending.Pending.TheVariants.{NewEdge}
use Rattle.coincidence.proofs.CarryLaws.{carried_apart, carried_edged, carried_merged, carried_on, placed_at, placed_reached}
use Rattle.coincidence.proofs.ClassLaws.{index_map}
use Rattle.coincidence.proofs.CloseLaws.{IsPlaced, IsWithin, within_start, within_merge}
use Rattle.coincidence.proofs.DrawLaws.{joined_split, numbers_kept}
use Rattle.coincidence.proofs.HeldLaws.{drawn_edge, drawn_whole, joined_identified, joined_whole}
use Rattle.coincidence.proofs.JoinLaws.{option_gone, at_same}
use Rattle.coincidence.proofs.LiveLaws.{left_in, left_join}
use Rattle.coincidence.proofs.MarkLaws.{marks_kept, on_within}
use Rattle.coincidence.proofs.StepLaws.{due_inside, due_letter, due_reached, edge_step}

-- what has been drawn from the first cosets on
pub record IsDrawing (c : Congruence) (first now : Cosets) (from at : Option ℕ) : Type 0 where
  pub class : List ℕ
  pub whole : IsWhole c now
  pub within : IsWithin c first.edges.graph from now.edges.graph
  pub carried : IsCarried first.edges.graph now.edges.graph class
  pub gone : at ≡ option_map (slice_index class) from
  pub marks : AreCarried class first.marked.items now.marked.items
  pub nodes : length now.edges.graph ≡ length first.edges.graph
  pub own : (n : ℕ) → IsOn now.live.items n → IsReached first.edges.graph n × (slice_index class n ≡ n)

module _ (c : Congruence) (first : Cosets) (at : Option ℕ) (w : IsWhole c first) (here : (n : ℕ) → at ≡ Some n → IsOn first.live.items n) where
  abbrev class_at_first : List ℕ
  class_at_first = range_with_len 0 (length first.edges.graph)

  own_at_first : (n : ℕ) → n < length first.edges.graph → slice_index class_at_first n ≡ n
  own_at_first n h = get_or-range_with_len 0 (length first.edges.graph) n 0 h ∙ (let e : 0 + n ≡ n = omega arith in e)

  live_at_first : (n : ℕ) → IsOn first.live.items n → slice_index class_at_first n ≡ n
  live_at_first n on = own_at_first n (omega (arith, on_within first.live.items n on, w.lives.shape))

  marked_at_first : (n : ℕ) → IsOn first.marked.items n → slice_index class_at_first n ≡ n
  marked_at_first n on = own_at_first n (omega (arith, on_within first.marked.items n on, w.shape))

  pub drawing_start : IsDrawing c first first at at
  drawing_start = record {
    class = class_at_first;
    whole = w;
    within = within_start c first.edges.graph at;
    carried = carried_apart c.presentation.letters first.edges.graph class_at_first w.graph (length-range_with_len 0 (length first.edges.graph)) own_at_first;
    gone = at_same (slice_index class_at_first) at (λ n e. live_at_first n (here n e));
    marks = record {
      shape = refl;
      kept = λ n on. subst (IsOn first.marked.items) (sym (marked_at_first n on)) on;
      from = λ m on. (m, on, marked_at_first m on);
    };
    nodes = refl;
    own = λ n on. (w.lives.reached n on, live_at_first n on);
  }

module _ (c : Congruence) (first now : Cosets) (from at : Option ℕ) (w : IsWhole c first) (there : (n : ℕ) → from ≡ Some n → IsOn first.live.items n) (d : IsDrawing c first now from at) where
  pub placed : IsPlaced first.edges.graph from now.edges.graph at
  placed = placed_at first.edges.graph now.edges.graph d.class d.carried from at (λ n e. w.lives.reached n (there n e)) d.gone

  pub placed_on : (n : ℕ) → at ≡ Some n → IsOn now.live.items n
  placed_on n e = d.whole.lives.lives n (placed_reached first.edges.graph now.edges.graph from at placed n e)

  -- what the first cosets were is kept
  pub drawing_gathered : IsGathered first now
  drawing_gathered = record {
    marks = marks_kept first.edges.graph now.edges.graph first.marked.items now.marked.items d.class (λ n on. w.lives.reached n (w.marks n on)) d.carried d.marks;
    numbers = numbers_kept first.edges.graph now.edges.graph now.live.items d.class d.nodes d.carried d.whole.lives d.own;
  }

  -- relations that held at marked nodes do so
  pub drawing_holds : (pairs : List (Word × Word)) → HoldWhere pairs first.edges.graph first.marked.items → HoldWhere pairs now.edges.graph now.marked.items
  drawing_holds pairs hold n on r s sides =
      let was = d.marks.from n on in
      let reach = w.lives.reached was.0 (w.marks was.0 was.1) in
      let met = hold was.0 was.1 r s sides in
      let here : path now.edges.graph 0 reach.0 ≡ Some n = d.carried.follows reach.0 was.0 reach.1 ∙ ap (λ z. Some z) was.2 in
      let leads : (u : Word) → path first.edges.graph was.0 u ≡ Some met.0 → path now.edges.graph n u ≡ Some (slice_index d.class met.0) = λ u e.
      sym (path_append now.edges.graph 0 n reach.0 u here) ∙ d.carried.follows (reach.0 ++ u) met.0 (path_append first.edges.graph 0 was.0 reach.0 u reach.1 ∙ e) in
      (slice_index d.class met.0, leads r met.1, leads s met.2)

  -- entries were dropped
  pub drawing_dropped : (new : Cosets) → new ≡ record now { pending = new.pending; seen = new.seen } → IsWhole c new → IsDrawing c first new from at
  drawing_dropped new is whole = subst (λ z. IsDrawing c first z from at) (sym is) (record {
    class = d.class;
    whole = subst (IsWhole c) is whole;
    within = d.within;
    carried = d.carried;
    gone = d.gone;
    marks = d.marks;
    nodes = d.nodes;
    own = d.own;
  })

  module _ (new : Cosets) (j a m : ℕ) (due : IsDue c now.edges.graph at j a m) where
    pub inside : (j < length now.edges.graph) × (a < length (get_or now.edges.graph j [])) × (m < length now.edges.graph)
    inside = due_inside c now.edges.graph at j a m d.whole.graph w.congruence due

    letter : a < c.presentation.letters
    letter = due_letter c now.edges.graph at j a m w.congruence due

    reach : IsReached now.edges.graph j × IsReached now.edges.graph m
    reach = due_reached c now.edges.graph at j a m due

    -- an edge is drawn
    pub drawing_edge : target now.edges.graph j a ≡ None → new.edges.graph ≡ with_edge now.edges.graph j a m → new ≡ record now { edges = new.edges; pending = new.pending } → Extends (now.pending ++ NewEdge j a ∷ []) new.pending → IsDrawing c first new from at
    drawing_edge none graph others pending =
        let on_j = d.whole.lives.lives j reach.0 in
        let on_m = d.whole.lives.lives m reach.1 in
        let edged = drawn_edge c now new j a m d.whole on_j on_m letter none graph others pending in
        let step = edge_step c first.edges.graph from now.edges.graph at now.live.items j a m w.congruence d.whole.graph d.whole.lives placed d.within due none in
        subst (λ z. IsDrawing c first z from at) (sym others) (record {
          class = d.class;
          whole = subst (IsWhole c) others (drawn_whole c now new j a m d.whole on_j on_m letter none graph others pending);
          within = rw graph step.0;
          carried = rw graph (carried_edged first.edges.graph now.edges.graph (with_edge now.edges.graph j a m) d.class j a m edged d.carried);
          gone = d.gone;
          marks = d.marks;
          nodes = ap length graph ∙ length-set now.edges.graph j (set (get_or now.edges.graph j []) a (Some m)) ∙ d.nodes;
          own = d.own;
        })

    -- two nodes become one
    module _ (t : ℕ) (to : Option ℕ) (e : target now.edges.graph j a ≡ Some t) (ht : IsOn now.live.items t) (hm : IsOn now.live.items m) (o : IsJoined now new t m at to) where
      abbrev merged : List ℕ
      merged = map (slice_index o.class) d.class

      zero_own : slice_index o.class 0 ≡ 0
      zero_own = omega (arith, o.merging.classing.below 0)

      index : (n : ℕ) → slice_index merged n ≡ slice_index o.class (slice_index d.class n)
      index n = index_map (slice_index o.class) d.class n zero_own

      pub drawing_join : IsDrawing c first new from to
      drawing_join =
          let ok = joined_identified c now new t m at to d.whole ht hm o in
          record {
            class = merged;
            whole = joined_whole c now new t m at to d.whole ht hm o;
            within = within_merge c first.edges.graph from now.edges.graph at placed d.within new.edges.graph j a m t ok.relates due reach.0.0 reach.0.1 e;
            carried = carried_on c.presentation.letters first.edges.graph now.edges.graph new.edges.graph d.class o.class merged w.graph d.carried (carried_merged now.edges.graph new.edges.graph o.class t m o.merging) (length-map d.class (slice_index o.class)) (λ n _. index n);
            gone = option_gone d.class merged (slice_index o.class) index from at to d.gone o.gone;
            marks = record {
              shape = o.carried.shape ∙ d.marks.shape;
              kept = λ n on. subst (IsOn new.marked.items) (sym (index n)) (o.carried.kept (slice_index d.class n) (d.marks.kept n on));
              from = λ p on. let f = o.carried.from p on in let b = d.marks.from f.0 f.1 in (b.0, b.1, index b.0 ∙ ap (slice_index o.class) b.2 ∙ f.2);
            };
            nodes = ok.nodes ∙ d.nodes;
            own = λ n on. let s = joined_split now new t m at to o n on in let before = d.own n s.0 in (before.0, index n ∙ ap (slice_index o.class) before.1 ∙ s.1);
          }

      -- and less is left to draw
      pub left_joined : (t ≡ m → ⊥) → left_in c.presentation.letters new.edges.graph new.live.items < left_in c.presentation.letters now.edges.graph now.live.items
      left_joined apart =
          let ok = joined_identified c now new t m at to d.whole ht hm o in
          left_join c.presentation.letters now.edges.graph new.edges.graph now.live.items new.live.items ok.nodes (o.merging.graph c.presentation.letters d.whole.graph).width (ok.fewer apart)
