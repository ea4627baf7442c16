-- Nodes that are marked, and how many letters lead from them to an end.
use Rattle.std.proofs.Common.{◌≡◌, ◌↔◌, ℕ, zero, suc, ◌+◌, ◌-◌, ◌<◌, ◌≤◌, List, [], ◌∷◌, ◌++◌, length, map, take, get_or, refl, sym, ◌∙◌, ap, subst, arith, inl, inr, Bool, true, false, Option, Some, None, Vec, Global, if◌then◌else◌}
use Rattle.std.specs.Option.{is_some}
use Rattle.std.proofs.lemmas.Bool.{cases_lt}
use Rattle.std.proofs.lemmas.List.{get_or-map, get_or-take, get_or_past, get_or_read, get_or_append_left, get_or_push, length-map, length-take-le, length_push, take_more}
use Rattle.theory.specs.Word.{Word}
use Rattle.theory.specs.Graph.{Graph, target, path, IsGraph}
use Rattle.cells.proofs.EntryLaws.{target_is}
use Rattle.reduced_automaton.specs.Paths.{AreIn, GoesFar, GoesOn, HasPath, Paths, narrowed}
use Rattle.reduced_automaton.specs.Framings.{AreLayers, AreMarks, IsGrown, IsLimit, IsMarked, IsSpread, LeadsTo, count_marked, frame_paths}
use Rattle.reduced_automaton.specs.declared.frames.Frame.{Frame}
use Rattle.reduced_automaton.proofs.PathLaws.{far_behind, far_first, far_less, goes_behind, goes_first, path_first}
use Rattle.reduced_automaton.proofs.NextPaths.{end_here}

-- The graph with fewer letters.
module _ (m : ℕ) (g : Graph) where
  row_of : (node : ℕ) → get_or (narrowed m g) node [] ≡ take m (get_or g node [])
  row_of node = elim (cases_lt node (length g)) [
    | inl inside ↦ get_or-map (λ row. take m row) g node [] [] inside
    | inr past ↦
        get_or_past (narrowed m g) node [] (omega (arith, past, length-map g (λ (row : List (Option ℕ)). take m row)))
        ∙ sym (ap (λ row. take m row) (get_or_past g node [] past) ∙ take_nil m)
  ]
    where
      take_nil : (n : ℕ) → ◌≡◌ {A = List (Option ℕ)} (take n []) []
      take_nil zero = refl
      take_nil (suc n) = refl

  pub narrowed_in : (node a : ℕ) → a < m → target (narrowed m g) node a ≡ target g node a
  narrowed_in node a less =
      target_is (narrowed m g) node a ∙ ap (λ (row : List (Option ℕ)). get_or row a None) (row_of node)
      ∙ get_or-take m (get_or g node []) a None less ∙ sym (target_is g node a)

  pub narrowed_past : (node a : ℕ) → m ≤ a → target (narrowed m g) node a ≡ None
  narrowed_past node a past =
      target_is (narrowed m g) node a ∙ ap (λ (row : List (Option ℕ)). get_or row a None) (row_of node)
      ∙ get_or_past (take m (get_or g node [])) a None (omega (arith, past, length-take-most m (get_or g node [])))
    where
      length-take-most : (n : ℕ) (xs : List (Option ℕ)) → length (take n xs) ≤ n
      length-take-most zero xs = omega arith
      length-take-most (suc n) [] = omega arith
      length-take-most (suc n) (x ∷ xs) = let h = length-take-most n xs in omega (arith, h)

  pub narrowed_next : (k : ℕ) → IsGraph k g → (node a next : ℕ) → target (narrowed m g) node a ≡ Some next → next < length g
  narrowed_next k graph node a next e = elim (cases_lt a m) [
    | inl less ↦ graph.nodes node a next (sym (narrowed_in node a less) ∙ e)
    | inr past ↦ let bad : None ≡ Some next = sym (narrowed_past node a past) ∙ e in cc
  ]

  pub narrowed_count : length (narrowed m g) ≡ length g
  narrowed_count = length-map g (λ (row : List (Option ℕ)). take m row)

  pub narrowed_graph : (k : ℕ) → m ≤ k → IsGraph k g → IsGraph m (narrowed m g)
  narrowed_graph k few graph = record {
    rooted = omega (arith, graph.rooted, narrowed_count);
    width = λ node d inside.
        let there : node < length g = omega (arith, inside, narrowed_count) in
        ap length (get_or-map (λ row. take m row) g node d d there)
        ∙ length-take-le m (get_or g node d) (omega (arith, few, graph.width node d there));
    nodes = λ node a next e. elim (cases_lt a m) [
      | inl less ↦ omega (arith, graph.nodes node a next (sym (narrowed_in node a less) ∙ e), narrowed_count)
      | inr past ↦ let bad : None ≡ Some next = sym (narrowed_past node a past) ∙ e in cc
    ];
  }

pub marked_not : (b : Bool) → b ≡ false → b ≡ true → ⊥
marked_not b e t = let bad : false ≡ true = sym e ∙ t in cc

-- Marks one after another.
pub marks_start : (P : ℕ → Type 0) → AreMarks P 0 []
marks_start P = record { long = refl; at = λ node less. absurd (omega arith) }

pub marks_push : (P : ℕ → Type 0) (place : ℕ) (marks new : List Bool) (mark : Bool) → AreMarks P place marks → (mark ≡ true) ↔ P place
    → new ≡ marks ++ mark ∷ [] → AreMarks P (place + 1) new
marks_push P place marks new mark h here e =
    record { long = omega (arith, ap length e, length_push marks mark, h.long); at = at }
  where
    at : (node : ℕ) → node < place + 1 → IsMarked new node ↔ P node
    at node less = elim (cases_lt node place) [
      | inl old ↦
          let same : get_or new node false ≡ get_or marks node false =
          ap (λ xs. get_or xs node false) e ∙ get_or_append_left marks (mark ∷ []) false node (omega (arith, h.long)) in
          (λ t. (h.at node old).0 (sym same ∙ t), λ p. same ∙ (h.at node old).1 p)
      | inr past ↦
          let last : node ≡ place = omega arith in
          let same : get_or new node false ≡ mark =
          ap (λ xs. get_or xs node false) e ∙ get_or_push marks mark false node (omega (arith, h.long, last)) in
          (λ t. subst P (sym last) (here.0 (sym same ∙ t)), λ p. same ∙ here.1 (subst P last p))
    ]

pub marks_end : (P : ℕ → Type 0) (place count : ℕ) (marks : List Bool) → place ≡ count → AreMarks P place marks → AreMarks P count marks
marks_end P place count marks e h = subst (λ n. AreMarks P n marks) e h

pub marks_same : (P Q : ℕ → Type 0) (count : ℕ) (marks : List Bool) → ((node : ℕ) → node < count → P node ↔ Q node) → AreMarks P count marks → AreMarks Q count marks
marks_same P Q count marks same h =
    record {
      long = h.long;
      at = λ node less. (λ t. (same node less).0 ((h.at node less).0 t), λ q. (h.at node less).1 ((same node less).1 q));
    }

pub marked_inside : (marks : List Bool) (node : ℕ) → IsMarked marks node → node < length marks
marked_inside marks node t = elim (cases_lt node (length marks)) [
  | inl inside ↦ inside
  | inr past ↦ let bad : false ≡ true = sym (get_or_past marks node false past) ∙ t in cc
]

-- How many are marked.
pub count_more : (marks : List Bool) (place : ℕ) (mark : Bool) → place < length marks → get_or marks place false ≡ mark
    → count_marked (take (place + 1) marks) ≡ count_marked (take place marks) + (if mark then 1 else 0)
count_more marks place mark inside e =
    ap count_marked (take_more marks place false inside) ∙ count_push (take place marks) (get_or marks place false)
    ∙ ap (λ b. count_marked (take place marks) + (if b then 1 else 0)) e
  where
    count_push : (xs : List Bool) (b : Bool) → count_marked (xs ++ b ∷ []) ≡ count_marked xs + (if b then 1 else 0)
    count_push [] true = refl
    count_push [] false = refl
    count_push (true ∷ xs) b = omega (arith, count_push xs b)
    count_push (false ∷ xs) b = count_push xs b

pub count_most : (marks : List Bool) → count_marked marks ≤ length marks
count_most [] = omega arith
count_most (true ∷ marks) = let h = count_most marks in omega (arith, h)
count_most (false ∷ marks) = let h = count_most marks in omega (arith, h)

-- what is marked in one list is marked in the other
abbrev pub AreWithin : List Bool → List Bool → Type 0
AreWithin some marks = (node : ℕ) → IsMarked some node → IsMarked marks node

pub count_within : (some marks : List Bool) → AreWithin some marks → count_marked some ≤ count_marked marks
count_within [] marks within = omega arith
count_within (true ∷ some) [] within = let bad : false ≡ true = within 0 refl in cc
count_within (false ∷ some) [] within = let h = count_within some [] (λ node t. within (suc node) t) in omega (arith, h)
count_within (true ∷ some) (true ∷ marks) within = let h = count_within some marks (λ node t. within (suc node) t) in omega (arith, h)
count_within (true ∷ some) (false ∷ marks) within = let bad : false ≡ true = within 0 refl in cc
count_within (false ∷ some) (true ∷ marks) within = let h = count_within some marks (λ node t. within (suc node) t) in omega (arith, h)
count_within (false ∷ some) (false ∷ marks) within = let h = count_within some marks (λ node t. within (suc node) t) in omega (arith, h)

pub count_back : (some marks : List Bool) → AreWithin some marks → count_marked marks ≤ count_marked some → AreWithin marks some
count_back some [] within few node t = let bad : false ≡ true = t in cc
count_back [] (true ∷ marks) within few node t = absurd (omega arith)
count_back [] (false ∷ marks) within few zero t = let bad : false ≡ true = t in cc
count_back [] (false ∷ marks) within few (suc node) t = count_back [] marks (λ n s. let bad : false ≡ true = s in cc) few node t
count_back (true ∷ some) (true ∷ marks) within few zero t = refl
count_back (true ∷ some) (true ∷ marks) within few (suc node) t = count_back some marks (λ n s. within (suc n) s) (omega arith) node t
count_back (true ∷ some) (false ∷ marks) within few node t = let bad : false ≡ true = within 0 refl in cc
count_back (false ∷ some) (true ∷ marks) within few node t =
    let h = count_within some marks (λ n s. within (suc n) s) in absurd (omega (arith, few, h))
count_back (false ∷ some) (false ∷ marks) within few zero t = let bad : false ≡ true = t in cc
count_back (false ∷ some) (false ∷ marks) within few (suc node) t = count_back some marks (λ n s. within (suc n) s) few node t

-- a test whether there are fewer
pub not_fewer : (b : Bool) (n m : ℕ) → (b ≡ true) ↔ (n < m) → b ≡ false → m ≤ n
not_fewer b n m test e = elim (cases_lt n m) [
  | inl less ↦ let bad : false ≡ true = sym e ∙ test.1 less in absurd (let no : ⊥ = cc in no)
  | inr few ↦ few
]

module _ (p : Paths) where
  -- The nodes from which some word leads to an end, as they are found.
  pub record AreGrowing (ends marks : List Bool) (spread : ℕ) (growing : Bool) : Type 0 where
    pub long : length marks ≡ length p.graph
    pub with_ends : AreWithin ends marks
    pub sound : (node : ℕ) → IsMarked marks node → (n : ℕ) × (n < spread) × GoesOn p node n
    pub closes : (node : ℕ) → IsMarked marks node → IsGrown p.graph ends marks node
    pub stable : growing ≡ false → (node : ℕ) → node < length p.graph → IsGrown p.graph ends marks node → IsMarked marks node
    pub few : growing ≡ true → spread ≤ count_marked marks + 1

  -- The nodes from which words of so many letters, or more, lead to an end.
  pub record AreFar (start letters : ℕ) (far : List Bool) : Type 0 where
    pub marks : AreMarks (λ node. GoesFar p node letters) (length p.graph) far
    pub before : (n : ℕ) → n < letters → GoesFar p start n
    pub few : letters + count_marked far ≤ length p.graph

-- One letter more.
module _ (p : Paths) (graph : AreIn p) where
  pub goes_zero : (node : ℕ) → (p.is_end node ≡ true) ↔ GoesOn p node 0
  goes_zero node = (
    λ e. record { word = []; long = refl; has = record { over = tt; end = node; is = refl; ends = e } },
    λ h. end_here p node h,
  )

  -- an edge to a marked node, where an edge leads from what Q says to what P says, and back
  leads_as : (P Q : ℕ → Type 0) (marks : List Bool) → AreMarks P (length p.graph) marks
      → ((node a next : ℕ) → target p.graph node a ≡ Some next → P next → Q node)
      → ((node : ℕ) → Q node → (a next : ℕ) × (target p.graph node a ≡ Some next) × P next) → (node : ℕ) → LeadsTo p.graph marks node ↔ Q node
  leads_as P Q marks h behind first node = (
    λ leads. behind node leads.letter leads.next leads.is ((h.at leads.next (graph.nodes node leads.letter leads.next leads.is)).0 leads.marked),
    λ q. let f = first node q in record { letter = f.0; next = f.1; is = f.2; marked = (h.at f.1 (graph.nodes node f.0 f.1 f.2)).1 f.3 },
  )

  pub layer_more : (n : ℕ) (marks : List Bool) → AreMarks (λ node. GoesOn p node n) (length p.graph) marks
      → (node : ℕ) → LeadsTo p.graph marks node ↔ GoesOn p node (n + 1)
  layer_more n marks h =
      leads_as (λ node. GoesOn p node n) (λ node. GoesOn p node (n + 1)) marks h (λ node a next e goes. goes_behind p graph node a next n e goes) (λ node goes. goes_first p node n goes)

  pub far_more : (n : ℕ) (marks : List Bool) → AreMarks (λ node. GoesFar p node n) (length p.graph) marks
      → (node : ℕ) → LeadsTo p.graph marks node ↔ GoesFar p node (n + 1)
  far_more n marks h =
      leads_as (λ node. GoesFar p node n) (λ node. GoesFar p node (n + 1)) marks h (λ node a next e far. far_behind p graph node a next n e far) (λ node far. far_first p node n far)

  module _ (ends : List Bool) (are : AreMarks (λ node. GoesOn p node 0) (length p.graph) ends) where
    pub growing_start : AreGrowing p ends ends 1 true
    growing_start = record {
      long = are.long;
      with_ends = λ node t. t;
      sound = λ node t. (0, omega arith, (are.at node (omega (arith, marked_inside ends node t, are.long))).0 t);
      closes = λ node t. inl t;
      stable = λ e. let bad : true ≡ false = e in cc;
      few = λ e. omega arith;
    }

    grown_more : (marks new : List Bool) (node : ℕ) → AreWithin marks new → IsGrown p.graph ends marks node → IsGrown p.graph ends new node
    grown_more marks new node within (inl t) = inl t
    grown_more marks new node within (inr leads) =
        inr (record { letter = leads.letter; next = leads.next; is = leads.is; marked = within leads.next leads.marked })

    module _ (marks new : List Bool) (spread : ℕ) (grow : Bool) (h : AreGrowing p ends marks spread true)
        (next : AreMarks (IsGrown p.graph ends marks) (length p.graph) new)
        (test : (grow ≡ true) ↔ (count_marked marks < count_marked new)) where
      pub growing_within : AreWithin marks new
      growing_within node t = (next.at node (omega (arith, marked_inside marks node t, h.long))).1 (h.closes node t)

      inside : (node : ℕ) → IsMarked new node → node < length p.graph
      inside node t = omega (arith, marked_inside new node t, next.long)

      leads_sound : (node : ℕ) → IsGrown p.graph ends marks node → node < length p.graph → (n : ℕ) × (n < spread + 1) × GoesOn p node n
      leads_sound node (inl t) less = (0, omega arith, (are.at node less).0 t)
      leads_sound node (inr leads) less =
          let on = h.sound leads.next leads.marked in
          (on.0 + 1, omega (arith, on.1), goes_behind p graph node leads.letter leads.next on.0 leads.is on.2)

      pub growing_more : AreGrowing p ends new (spread + 1) grow
      growing_more = record {
        long = next.long;
        with_ends = λ node t. growing_within node (h.with_ends node t);
        sound = λ node t. leads_sound node ((next.at node (inside node t)).0 t) (inside node t);
        closes = λ node t. grown_more marks new node growing_within ((next.at node (inside node t)).0 t);
        stable = λ e node less grown.
            let few : count_marked new ≤ count_marked marks = not_fewer grow (count_marked marks) (count_marked new) test e in
            (next.at node less).1 (grown_more new marks node (count_back marks new growing_within few) grown);
        few = λ e. omega (arith, h.few refl, test.0 e);
      }

    module _ (marks : List Bool) (spread : ℕ) (h : AreGrowing p ends marks spread false) where
      reached : (u : Word) (node : ℕ) → node < length p.graph → HasPath p node u → IsMarked marks node
      reached [] node less has =
          h.with_ends node ((are.at node less).1 (record { word = []; long = refl; has = has }))
      reached (a ∷ u) node less has =
          let first = path_first p node a u has in
          let on = reached u first.0 (graph.nodes node a first.0 first.1) first.2 in
          h.stable refl node less (inr (record { letter = a; next = first.0; is = first.1; marked = on }))

      pub growing_end : AreMarks (λ node. GoesFar p node 0) (length p.graph) marks
      growing_end = record {
        long = h.long;
        at = λ node less. (
          λ t. let on = h.sound node t in record { word = on.2.word; long = omega arith; has = on.2.has },
          λ far. reached far.word node less far.has,
        );
      }

      pub growing_spread : IsSpread p spread
      growing_spread node n less goes = h.sound node (reached goes.word node less goes.has)

  module _ (start : ℕ) (inside : start < length p.graph) where
    pub far_start : (far : List Bool) → AreMarks (λ node. GoesFar p node 0) (length p.graph) far → AreFar p start 0 far
    far_start far h = record { marks = h; before = λ n less. absurd (omega arith); few = omega (arith, count_most far, h.long) }

    -- the mark of the start, as the code reads it
    module _ (letters : ℕ) (far : List Bool) (h : AreFar p start letters far) (mark : Bool) (at : mark ≡ get_or far start mark) where
      is_read : mark ≡ get_or far start false
      is_read = get_or_read far start mark (omega (arith, inside, h.marks.long)) at false

      pub far_limit : mark ≡ false → IsLimit p start (Some letters)
      far_limit none n = (
        λ goes. elim (cases_lt n letters) [
          | inl less ↦ less
          | inr more ↦ absurd (marked_not mark none (is_read ∙ (h.marks.at start inside).1 (far_less p start n letters more goes)))
        ],
        λ less. h.before n less,
      )

      module _ (some : mark ≡ true) (next : List Bool) (layer : AreMarks (LeadsTo p.graph far) (length p.graph) next) where
        pub far_next : AreMarks (λ node. GoesFar p node (letters + 1)) (length p.graph) next
        far_next = marks_same (LeadsTo p.graph far) (λ node. GoesFar p node (letters + 1)) (length p.graph) next (λ node less. far_more letters far h.marks node) layer

        pub far_within : AreWithin next far
        far_within node s =
            let less : node < length p.graph = omega (arith, marked_inside next node s, layer.long) in
            (h.marks.at node less).1 (far_less p node (letters + 1) letters (omega arith) ((far_next.at node less).0 s))

        pub far_step : count_marked next < count_marked far → AreFar p start (letters + 1) next
        far_step fewer =
            record {
              marks = far_next;
              before = λ n less. far_less p start letters n (omega arith) ((h.marks.at start inside).0 (sym is_read ∙ some));
              few = omega (arith, fewer, h.few);
            }

        -- the same nodes once more: then for any number of letters
        endless : count_marked far ≤ count_marked next → (n node : ℕ) → IsMarked far node → GoesFar p node (letters + n)
        endless same zero node s =
            subst (λ z. GoesFar p node z) (omega arith) ((h.marks.at node (omega (arith, marked_inside far node s, h.marks.long))).0 s)
        endless same (suc n) node s =
            let back = count_back next far far_within same in
            let less : node < length p.graph = omega (arith, marked_inside far node s, h.marks.long) in
            let leads = (layer.at node less).0 (back node s) in
            subst (λ z. GoesFar p node z) (omega arith)
            (far_behind p graph node leads.letter leads.next (letters + n) leads.is (endless same n leads.next leads.marked))

        pub far_endless : count_marked far ≤ count_marked next → IsLimit p start None
        far_endless same n = (λ goes. tt, λ none. far_less p start (letters + n) n (omega arith) (endless same n start (sym is_read ∙ some)))

-- the ends of a frame
pub ends_are : (g : Graph) (frame : Frame) (node : ℕ) (mark : Bool) → mark ≡ is_some (path g node frame.suffix)
    → (mark ≡ true) ↔ GoesOn (frame_paths g frame) node 0
ends_are g frame node mark e = (
  λ t. record { word = []; long = refl; has = record { over = tt; end = node; is = refl; ends = sym e ∙ t } },
  λ h. e ∙ end_here (frame_paths g frame) node h,
)

-- a layer in the list of layers
pub layer_item : (layers : List (Vec Bool Global)) (n : ℕ) (v : Vec Bool Global) → n < length layers → v ≡ get_or layers n v
    → get_or (map (λ (x : Vec Bool Global). x.items) layers) n [] ≡ v.items
layer_item layers n v inside e = get_or-map (λ (x : Vec Bool Global). x.items) layers n v [] inside ∙ ap (λ (x : Vec Bool Global). x.items) (sym e)

pub layer_at : (p : Paths) (layers : List (Vec Bool Global)) (n : ℕ) (v : Vec Bool Global) (marks : List Bool)
    → AreLayers p (map (λ (x : Vec Bool Global). x.items) layers) → n < length layers → v ≡ get_or layers n v → marks ≡ v.items
    → AreMarks (λ node. GoesOn p node n) (length p.graph) marks
layer_at p layers n v marks are inside e d =
    subst (λ (xs : List Bool). AreMarks (λ node. GoesOn p node n) (length p.graph) xs) (layer_item layers n v inside e ∙ sym d)
    (are.at n (omega (arith, inside, length-map layers (λ (x : Vec Bool Global). x.items))))

-- the measure of what grows
pub growing_less : (most old new : ℕ) (was grow : Bool) → was ≡ true → old ≤ new → new ≤ most → (grow ≡ true → old < new)
    → most - new + (if grow then 1 else 0) < most - old + (if was then 1 else 0)
growing_less most old new false grow e few room more = let bad : false ≡ true = e in cc
growing_less most old new true true e few room more = let less = more refl in omega arith
growing_less most old new true false e few room more = omega arith

-- a node that is an end, or leads to a marked one
pub grown_by : (g : Graph) (ends marks : List Bool) (node : ℕ) (mark leads : Bool) → get_or ends node false ≡ false → (leads ≡ true) ↔ LeadsTo g marks node
    → mark ≡ leads → (mark ≡ true) ↔ IsGrown g ends marks node
grown_by g ends marks node mark leads none h e = (λ t. inr (h.0 (sym e ∙ t)), back)
  where
    back : IsGrown g ends marks node → mark ≡ true
    back (inl t) = let bad : false ≡ true = sym none ∙ t in cc
    back (inr l) = e ∙ h.1 l

-- The paths of a frame.
pub frame_graph : (k few : ℕ) (g : Graph) (frame : Frame) → k ≡ few → IsGraph k g → frame.letters ≤ few → AreIn (frame_paths g frame)
frame_graph k few g frame e graph less = narrowed_graph frame.letters g k (omega (arith, e, less)) graph

pub ends_in : (g : Graph) (frame : Frame) (ends : List Bool) → AreMarks (λ node. GoesOn (frame_paths g frame) node 0) (length g) ends
    → AreMarks (λ node. GoesOn (frame_paths g frame) node 0) (length (frame_paths g frame).graph) ends
ends_in g frame ends h =
    marks_end (λ node. GoesOn (frame_paths g frame) node 0) (length g) (length (frame_paths g frame).graph) ends (sym (narrowed_count frame.letters g)) h

pub layer_in : (g : Graph) (frame : Frame) (marks read new : List Bool) → read ≡ marks → AreMarks (LeadsTo (narrowed frame.letters g) read) (length g) new
    → AreMarks (LeadsTo (frame_paths g frame).graph marks) (length (frame_paths g frame).graph) new
layer_in g frame marks read new e h =
    marks_end (LeadsTo (narrowed frame.letters g) marks) (length g) (length (frame_paths g frame).graph) new (sym (narrowed_count frame.letters g))
    (subst (λ (xs : List Bool). AreMarks (LeadsTo (narrowed frame.letters g) xs) (length g) new) e h)
