-- The words of a frame as paths, and the next of them.
use Rattle.std.proofs.Common.{◌≡◌, ◌↔◌, ℕ, zero, suc, ◌+◌, ◌-◌, ◌<◌, ◌≤◌, List, [], ◌∷◌, ◌++◌, length, map, get_or, refl, sym, ◌∙◌, ap, subst, arith, inl, inr, Bool, true, Option, Some, None, Vec, Global, option_and_then}
use Rattle.std.specs.Option.{MatchOption, is_some}
use Rattle.std.proofs.lemmas.Bool.{cases_lt}
use Rattle.std.proofs.lemmas.List.{get_or_append_left, get_or_push, length-map, length_push, map_push}
use Rattle.std.proofs.lemmas.Option.{same_Some}
use Rattle.theory.specs.Word.{Word, IsOver}
use Rattle.theory.specs.ShortLex.{◌≺◌}
use Rattle.theory.specs.Graph.{Graph, target, path, IsGraph}
use Rattle.theory.specs.Listing.{IsLast, IsNext, AreFinite, AreInfinite, GoesOnOrEnds}
use Rattle.theory.proofs.GraphLaws.{path_append, path_front}
use Rattle.theory.proofs.LatticeLaws.{path_inside, path_over}
use Rattle.reduced_automaton.specs.Paths.{AreIn, GoesFar, GoesOn, HasPath, IsLastOfLength, Paths, narrowed}
use Rattle.reduced_automaton.specs.Automaton.{IsReader, Reading}
use Rattle.reduced_automaton.specs.Frames.{IsFramed}
use Rattle.reduced_automaton.specs.Framings.{AreLayers, AreMarks, IsFraming, IsLeastFrom, IsLimit, IsPathIn, IsSpread, IsUnder, LeadsTo, frame_paths}
use Rattle.reduced_automaton.specs.declared.frames.Frame.{Frame}
use Rattle.reduced_automaton.specs.declared.framings.Framing.{Framing}
use Rattle.reduced_automaton.proofs.PathLaws.{far_first, goes_as, goes_behind, goes_path}
use Rattle.reduced_automaton.proofs.NextPaths.{IsPassed, passed_last, passed_next}
use Rattle.reduced_automaton.proofs.ReadingLaws.{answer_same, endless_infinite, ended_finite, last_same, list_of_all, next_or_last, next_same}
use Rattle.reduced_automaton.proofs.Decisions.{far_decided}
use Rattle.reduced_automaton.proofs.MarkLaws.{ends_in, layer_in, layer_item, layer_more, marks_same, narrowed_count, narrowed_graph, narrowed_in}

pub narrowed_path : (m : ℕ) (g : Graph) (u : Word) (node : ℕ) → IsOver m u → path (narrowed m g) node u ≡ path g node u
narrowed_path m g [] node over = refl
narrowed_path m g (a ∷ u) node over = go (target g node a) refl (λ next. narrowed_path m g u next over.1)
  where
    go : (o : Option ℕ) → target g node a ≡ o → ((next : ℕ) → path (narrowed m g) next u ≡ path g next u)
        → path (narrowed m g) node (a ∷ u) ≡ path g node (a ∷ u)
    go None e on =
        ap (λ (o : Option ℕ). option_and_then (λ x. path (narrowed m g) x u) o) (narrowed_in m g node a over.0 ∙ e)
        ∙ sym (ap (λ (o : Option ℕ). option_and_then (λ x. path g x u) o) e)
    go (Some next) e on =
        ap (λ (o : Option ℕ). option_and_then (λ x. path (narrowed m g) x u) o) (narrowed_in m g node a over.0 ∙ e)
        ∙ on next ∙ sym (ap (λ (o : Option ℕ). option_and_then (λ x. path g x u) o) e)

some_is : (o : Option ℕ) → is_some o ≡ true → (x : ℕ) × (o ≡ Some x)
some_is None t = cc
some_is (Some x) t = (x, refl)

pub none_then : (x : ℕ) → ◌≡◌ {A = Option ℕ} (Some x) None → (P : Type 0) → P
none_then x e P = absurd (let no : ⊥ = cc in no)

-- Layers.
pub layers_start : (p : Paths) (layer : List Bool) → AreMarks (λ node. GoesOn p node 0) (length p.graph) layer → AreLayers p (layer ∷ [])
layers_start p layer h = record { some = omega arith; at = at }
  where
    at : (n : ℕ) → n < 1 → AreMarks (λ node. GoesOn p node n) (length p.graph) (get_or (layer ∷ []) n [])
    at zero less = h
    at (suc n) less = absurd (omega arith)

pub layers_push : (p : Paths) → AreIn p → (layers : List (List Bool)) (layer : List Bool) → AreLayers p layers
    → AreMarks (LeadsTo p.graph (get_or layers (length layers - 1) [])) (length p.graph) layer → AreLayers p (layers ++ layer ∷ [])
layers_push p graph layers layer h here = record { some = omega (arith, length_push layers layer); at = at }
  where
    last : ℕ
    last = length layers - 1

    there : AreMarks (λ node. GoesOn p node (length layers - 1 + 1)) (length p.graph) layer
    there =
        marks_same (LeadsTo p.graph (get_or layers (length layers - 1) [])) (λ node. GoesOn p node (length layers - 1 + 1)) (length p.graph) layer
        (λ node less. layer_more p graph (length layers - 1) (get_or layers (length layers - 1) []) (h.at (length layers - 1) (omega (arith, h.some))) node) here

    at : (n : ℕ) → n < length (layers ++ layer ∷ []) → AreMarks (λ node. GoesOn p node n) (length p.graph) (get_or (layers ++ layer ∷ []) n [])
    at n less = elim (cases_lt n (length layers)) [
      | inl old ↦
          subst (λ (xs : List Bool). AreMarks (λ node. GoesOn p node n) (length p.graph) xs) (sym (get_or_append_left layers (layer ∷ []) [] n old)) (h.at n old)
      | inr past ↦
          let same : n ≡ length layers = omega (arith, less, past, length_push layers layer) in
          subst (λ (xs : List Bool). AreMarks (λ node. GoesOn p node n) (length p.graph) xs) (sym (get_or_push layers layer [] n (sym same)))
          (subst (λ z. AreMarks (λ node. GoesOn p node z) (length p.graph) layer) (omega (arith, same, h.some)) there)
    ]

-- What is found once, with one layer more.
module _ (k : ℕ) (g : Graph) (frame : Frame) (graph : IsGraph k g) where
  pub start_inside : (node : ℕ) → path g 0 frame.prefix ≡ Some node → node < length (frame_paths g frame).graph
  start_inside node e = omega (arith, path_inside k g graph frame.prefix 0 node graph.rooted e, narrowed_count frame.letters g)

  pub paths_of : (few : frame.letters ≤ k) → AreIn (frame_paths g frame)
  paths_of few = narrowed_graph frame.letters g k few graph

  pub framing_push : (f new : Framing) (layer last : Vec Bool Global) (read : List Bool) → IsFraming k g frame f
      → last ≡ get_or f.layers.items (length f.layers.items - 1) last → read ≡ last.items
      → AreMarks (LeadsTo (narrowed frame.letters g) read) (length g) layer.items
      → new.start ≡ f.start → new.limit ≡ f.limit → new.spread ≡ f.spread → new.layers.items ≡ f.layers.items ++ layer ∷ []
      → IsFraming k g frame new
  framing_push f new layer last read is e d marks start limit spread layers =
      record {
        few = is.few;
        start = start ∙ is.start;
        limit = λ node s. subst (λ (o : Option ℕ). IsLimit (frame_paths g frame) node o) (sym limit) (is.limit node (sym start ∙ s));
        none = λ s. limit ∙ is.none (sym start ∙ s);
        spread = subst (λ n. IsSpread (frame_paths g frame) n) (sym spread) is.spread;
        layers =
            subst (λ (ls : List (List Bool)). AreLayers (frame_paths g frame) ls)
            (sym (ap (map (λ (v : Vec Bool Global). v.items)) layers ∙ map_push (λ (v : Vec Bool Global). v.items) f.layers.items layer))
            (layers_push (frame_paths g frame) (paths_of is.few) (map (λ (v : Vec Bool Global). v.items) f.layers.items) layer.items is.layers here);
      }
    where
      size : length (map (λ (v : Vec Bool Global). v.items) f.layers.items) ≡ length f.layers.items
      size = length-map f.layers.items (λ (v : Vec Bool Global). v.items)

      same : read ≡ get_or (map (λ (v : Vec Bool Global). v.items) f.layers.items) (length (map (λ (v : Vec Bool Global). v.items) f.layers.items) - 1) []
      same =
          d ∙ sym (layer_item f.layers.items (length f.layers.items - 1) last (omega (arith, size, is.layers.some)) e)
          ∙ ap (λ n. get_or (map (λ (v : Vec Bool Global). v.items) f.layers.items) (n - 1) []) (sym size)

      here : AreMarks (LeadsTo (frame_paths g frame).graph (get_or (map (λ (v : Vec Bool Global). v.items) f.layers.items) (length (map (λ (v : Vec Bool Global). v.items) f.layers.items) - 1) []))
          (length (frame_paths g frame).graph) layer.items
      here = layer_in g frame (get_or (map (λ (v : Vec Bool Global). v.items) f.layers.items) (length (map (λ (v : Vec Bool Global). v.items) f.layers.items) - 1) []) read layer.items same marks

  pub framing_made : (f : Framing) (ends : Vec Bool Global) → frame.letters ≤ k → f.start ≡ path g 0 frame.prefix
      → ((node : ℕ) → f.start ≡ Some node → IsLimit (frame_paths g frame) node f.limit) → (f.start ≡ None → f.limit ≡ Some 0)
      → IsSpread (frame_paths g frame) f.spread → AreMarks (λ node. GoesOn (frame_paths g frame) node 0) (length g) ends.items
      → f.layers.items ≡ ends ∷ [] → IsFraming k g frame f
  framing_made f ends few start limit none spread marks layers =
      record {
        few = few;
        start = start;
        limit = limit;
        none = none;
        spread = spread;
        layers =
            subst (λ (ls : List (Vec Bool Global)). AreLayers (frame_paths g frame) (map (λ (v : Vec Bool Global). v.items) ls)) (sym layers)
            (layers_start (frame_paths g frame) ends.items (ends_in g frame ends.items marks));
      }

-- Lengths.
pub no_longer : (limit : Option ℕ) (p : Paths) (node n : ℕ) → IsLimit p node limit → (IsUnder limit n → ⊥) → GoesFar p node n → ⊥
no_longer limit p node n is none far = none ((is n).0 far)

pub none_as_long : (limit : Option ℕ) (p : Paths) (node : ℕ) (u : Word) → IsLimit p node limit → (IsUnder limit (length u) → ⊥) → IsLastOfLength p node u
none_as_long limit p node u is none v has long after =
    none ((is (length u)).0 (record { word = v; long = omega (arith, long); has = has }))

module _ (p : Paths) (graph : AreIn p) (spread : ℕ) (is : IsSpread p spread) where
  -- a word that is long enough has one that is not much longer
  pub spread_from : (first node : ℕ) → node < length p.graph → GoesFar p node first
      → (m : ℕ) × (first ≤ m) × (m < first + spread) × GoesOn p node m
  spread_from zero node inside far =
      let near = is node (length far.word) inside (goes_path p node far.word far.has) in
      (near.0, omega arith, omega (arith, near.1), near.2)
  spread_from (suc first) node inside far =
      let step = far_first p node first (record { word = far.word; long = omega (arith, far.long); has = far.has }) in
      let near = spread_from first step.1 (graph.nodes node step.0 step.1 step.2) step.3 in
      (near.0 + 1, omega (arith, near.1), omega (arith, near.2), goes_behind p graph node step.0 step.1 near.0 step.2 near.3)

  pub spread_ends : (first node count : ℕ) → node < length p.graph → first + spread ≤ count
      → ((m : ℕ) → first ≤ m → m < count → GoesOn p node m → ⊥) → GoesFar p node first → ⊥
  spread_ends first node count inside all none far =
      let near = spread_from first node inside far in
      none near.0 near.1 (omega (arith, near.2)) near.3

pub none_more : (p : Paths) (node first count : ℕ) → ((m : ℕ) → first ≤ m → m < count → GoesOn p node m → ⊥) → (GoesOn p node count → ⊥)
    → (m : ℕ) → first ≤ m → m < count + 1 → GoesOn p node m → ⊥
none_more p node first count none here m from less goes = elim (cases_lt m count) [
  | inl old ↦ none m from old goes
  | inr past ↦ here (goes_as p node m count (omega arith) goes)
]

-- The next word by its length.
pub least_next : (p : Paths) (node : ℕ) (cursor : Option Word) (first : ℕ) (w : Word) → IsPassed p node cursor first → IsLeastFrom p node first w
    → IsNext (HasPath p node) ◌≺◌ cursor w
least_next p node cursor first w passed h =
    passed_next p node cursor h.length w (record {
      below = λ y has after. elim (cases_lt (length y) h.length) [
        | inl less ↦ absurd (h.next.least (length y) (passed.below y has after) less (goes_path p node y has))
        | inr past ↦ past
      ];
      above = λ y long. passed.above y (omega (arith, long, h.next.from));
    }) h.least

pub least_answer : (p : Paths) (node : ℕ) (cursor : Option Word) (first : ℕ) (next : Option Word) → IsPassed p node cursor first
    → MatchOption next (GoesFar p node first → ⊥) (IsLeastFrom p node first)
    → MatchOption next (IsLast (HasPath p node) ◌≺◌ cursor) (IsNext (HasPath p node) ◌≺◌ cursor)
least_answer p node cursor first None passed h = passed_last p node cursor first passed h
least_answer p node cursor first (Some w) passed h = least_next p node cursor first w passed h

-- The words of the frame.
module _ (g : Graph) (frame : Frame) where
  pub in_as_path : (start : ℕ) → path g 0 frame.prefix ≡ Some start → (w : Word) → HasPath (frame_paths g frame) start w ↔ IsPathIn g frame w
  in_as_path start e w = (
    λ h. record { start = start; is = e; has = h },
    λ h. subst (λ z. HasPath (frame_paths g frame) z w) (same_Some h.start start (sym h.is ∙ e)) h.has,
  )

  pub none_in : path g 0 frame.prefix ≡ None → (w : Word) → IsPathIn g frame w → ⊥
  none_in e w h = let bad : None ≡ Some h.start = sym e ∙ h.is in cc

  pub answer_in : (start : ℕ) → path g 0 frame.prefix ≡ Some start → (cursor next : Option Word)
      → MatchOption next (IsLast (HasPath (frame_paths g frame) start) ◌≺◌ cursor) (IsNext (HasPath (frame_paths g frame) start) ◌≺◌ cursor)
      → MatchOption next (IsLast (IsPathIn g frame) ◌≺◌ cursor) (IsNext (IsPathIn g frame) ◌≺◌ cursor)
  answer_in start e = answer_same (HasPath (frame_paths g frame) start) (IsPathIn g frame) ◌≺◌ (in_as_path start e)

-- The reduced words of the frame.
module _ (a : Reading) (frame : Frame) (reader : IsReader a.letters a.rules a.graph) (few : frame.letters ≤ a.letters) where
  within : AreIn (frame_paths a.graph frame)
  within = narrowed_graph frame.letters a.graph a.letters few reader.graph

  framed_path : (w : Word) → IsFramed a frame w → IsPathIn a.graph frame w
  framed_path w h =
      let whole = (reader.reads (frame.prefix ++ (w ++ frame.suffix)) h.reduced.over).1 h.reduced.reduced in
      let front = path_front a.graph 0 whole.end frame.prefix (w ++ frame.suffix) whole.is in
      let rest = path_front a.graph front.0 whole.end w frame.suffix front.2 in
      record {
        start = front.0;
        is = front.1;
        has =
            record {
              over = h.over;
              end = rest.0;
              is = narrowed_path frame.letters a.graph w front.0 h.over ∙ rest.1;
              ends = ap is_some rest.2;
            };
      }

  path_framed : (w : Word) → IsPathIn a.graph frame w → IsFramed a frame w
  path_framed w h =
      let suffix = some_is (path a.graph h.has.end frame.suffix) h.has.ends in
      let middle : path a.graph h.start w ≡ Some h.has.end = sym (narrowed_path frame.letters a.graph w h.start h.has.over) ∙ h.has.is in
      let whole : path a.graph 0 (frame.prefix ++ (w ++ frame.suffix)) ≡ Some suffix.0 =
      path_append a.graph 0 h.start frame.prefix (w ++ frame.suffix) h.is ∙ path_append a.graph h.start h.has.end w frame.suffix middle ∙ suffix.1 in
      let over = path_over a.letters a.graph reader.graph (frame.prefix ++ (w ++ frame.suffix)) 0 suffix.0 whole in
      record {
        over = h.has.over;
        reduced =
            record {
              over = over;
              reduced = (reader.reads (frame.prefix ++ (w ++ frame.suffix)) over).0 (record { over = over; end = suffix.0; is = whole; ends = refl });
            };
      }

  pub in_as_framed : (w : Word) → IsPathIn a.graph frame w ↔ IsFramed a frame w
  in_as_framed w = (path_framed w, framed_path w)

  path_goes_on : (o : Option ℕ) → path a.graph 0 frame.prefix ≡ o → GoesOnOrEnds (IsPathIn a.graph frame) ◌≺◌
  path_goes_on None e cursor = inl (λ y has after. none_in a.graph frame e y has)
  path_goes_on (Some start) e cursor =
      elim (next_or_last (frame_paths a.graph frame) within start (far_decided (frame_paths a.graph frame) within start (start_inside a.letters a.graph frame reader.graph start e)) cursor) [
        | inl last ↦
            inl (last_same (HasPath (frame_paths a.graph frame) start) (IsPathIn a.graph frame) ◌≺◌ (in_as_path a.graph frame start e) cursor last)
        | inr next ↦
            inr (next.0, next_same (HasPath (frame_paths a.graph frame) start) (IsPathIn a.graph frame) ◌≺◌ (in_as_path a.graph frame start e) cursor next.0 next.1)
      ]

  pub framed_goes_on : GoesOnOrEnds (IsFramed a frame) ◌≺◌
  framed_goes_on cursor = elim (path_goes_on (path a.graph 0 frame.prefix) refl cursor) [
    | inl last ↦ inl (last_same (IsPathIn a.graph frame) (IsFramed a frame) ◌≺◌ in_as_framed cursor last)
    | inr next ↦ inr (next.0, next_same (IsPathIn a.graph frame) (IsFramed a frame) ◌≺◌ in_as_framed cursor next.0 next.1)
  ]

  module _ (f : Framing) (is : IsFraming a.letters a.graph frame f) where
    pub framed_answer : (cursor next : Option Word)
        → MatchOption next (IsLast (IsPathIn a.graph frame) ◌≺◌ cursor) (IsNext (IsPathIn a.graph frame) ◌≺◌ cursor)
        → MatchOption next (IsLast (IsFramed a frame) ◌≺◌ cursor) (IsNext (IsFramed a frame) ◌≺◌ cursor)
    framed_answer = answer_same (IsPathIn a.graph frame) (IsFramed a frame) ◌≺◌ in_as_framed

    -- no limit
    pub framed_endless : f.limit ≡ None → AreInfinite (IsFramed a frame) ◌≺◌
    framed_endless e = endless_infinite frame.letters (IsFramed a frame) (λ u h. h.over) framed_goes_on (long f.start refl)
      where
        long : (o : Option ℕ) → f.start ≡ o → (n : ℕ) → (u : Word) × IsFramed a frame u × (n ≤ length u)
        long None d n = absurd (let bad : ◌≡◌ {A = Option ℕ} None (Some 0) = sym e ∙ is.none d in let no : ⊥ = cc in no)
        long (Some start) d n =
            let far = (is.limit start d n).1 (subst (λ (o : Option ℕ). IsUnder o n) (sym e) tt) in
            (far.word, path_framed far.word (record { start = start; is = sym is.start ∙ d; has = far.has }), far.long)

    -- a limit
    module _ (limit : ℕ) (e : f.limit ≡ Some limit) where
      short : (u : Word) → IsFramed a frame u → length u ≤ limit
      short u h =
          let there = framed_path u h in
          let under : IsUnder (Some limit) (length u) =
          subst (λ (o : Option ℕ). IsUnder o (length u)) e
          ((is.limit there.start (is.start ∙ there.is) (length u)).0 (record { word = u; long = omega arith; has = there.has })) in
          omega (arith, under)

      pub framed_ended : AreInfinite (IsFramed a frame) ◌≺◌ → ⊥
      framed_ended = ended_finite frame.letters (IsFramed a frame) (λ u h. h.over) framed_goes_on limit short

      pub framed_list : AreFinite (IsFramed a frame) ◌≺◌
      framed_list = list_of_all frame.letters (IsFramed a frame) (λ u h. h.over) framed_goes_on limit short

    pub framed_infinite : (answer : Bool) → (answer ≡ true) ↔ (f.limit ≡ None) → (answer ≡ true) ↔ AreInfinite (IsFramed a frame) ◌≺◌
    framed_infinite answer test = (λ t. framed_endless (test.0 t), λ infinite. go f.limit refl infinite)
      where
        go : (o : Option ℕ) → f.limit ≡ o → AreInfinite (IsFramed a frame) ◌≺◌ → answer ≡ true
        go None e infinite = test.1 e
        go (Some limit) e infinite = absurd (framed_ended limit e infinite)

    pub framed_finite : (f.limit ≡ None → ⊥) → AreFinite (IsFramed a frame) ◌≺◌
    framed_finite some = go f.limit refl
      where
        go : (o : Option ℕ) → f.limit ≡ o → AreFinite (IsFramed a frame) ◌≺◌
        go None e = absurd (some e)
        go (Some limit) e = framed_list limit e
