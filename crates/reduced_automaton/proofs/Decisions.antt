-- That it can be decided from which nodes words lead to an end.
use Rattle.std.proofs.Common.{◌≡◌, ℕ, zero, suc, ◌+◌, ◌<◌, ◌≤◌, List, [], ◌∷◌, ◌++◌, length, get_or, refl, sym, ◌∙◌, ap, arith, ◌⊎◌, inl, inr, Bool, true, false, Option, Some, None}
use Rattle.std.proofs.lemmas.Bool.{cases_lt}
use Rattle.std.proofs.lemmas.Option.{same_Some}
use Rattle.theory.specs.Graph.{target}
use Rattle.word_graph.proofs.EdgeLaws.{target_in}
use Rattle.reduced_automaton.specs.Paths.{AreIn, GoesFar, GoesOn, Paths}
use Rattle.reduced_automaton.specs.Framings.{AreMarks, IsGrown, IsMarked, LeadsTo, count_marked}
use Rattle.reduced_automaton.proofs.MarkLaws.{AreGrowing, count_most, far_more, goes_zero, growing_end, growing_more, growing_start, marked_not, marks_end, marks_push, marks_start}

marked_or : (marks : List Bool) (node : ℕ) → IsMarked marks node ⊎ (IsMarked marks node → ⊥)
marked_or marks node = go (get_or marks node false) refl
  where
    go : (b : Bool) → get_or marks node false ≡ b → IsMarked marks node ⊎ (IsMarked marks node → ⊥)
    go true e = inl e
    go false e = inr (marked_not (get_or marks node false) e)

-- what can be decided can be marked
marks_exist : (P : ℕ → Type 0) (count : ℕ) → ((node : ℕ) → node < count → P node ⊎ (P node → ⊥)) → (marks : List Bool) × AreMarks P count marks
marks_exist P zero or = ([], marks_start P)
marks_exist P (suc n) or = push (marks_exist P n (λ node less. or node (omega arith))) (or n (omega arith))
  where
    push : (marks : List Bool) × AreMarks P n marks → P n ⊎ (P n → ⊥) → (marks : List Bool) × AreMarks P (suc n) marks
    push rest (inl has) = (
      rest.0 ++ true ∷ [],
      marks_end P (n + 1) (suc n) (rest.0 ++ true ∷ []) (omega arith) (marks_push P n rest.0 (rest.0 ++ true ∷ []) true rest.1 (λ t. has, λ y. refl) refl),
    )
    push rest (inr none) = (
      rest.0 ++ false ∷ [],
      marks_end P (n + 1) (suc n) (rest.0 ++ false ∷ []) (omega arith)
          (marks_push P n rest.0 (rest.0 ++ false ∷ []) false rest.1 (λ t. absurd (marked_not false refl t), λ y. absurd (none y)) refl),
    )

module _ (p : Paths) (graph : AreIn p) where
  -- no letter below this one leads to a marked node
  abbrev NoneBelow : List Bool → ℕ → ℕ → Type 0
  NoneBelow marks node first = (b m : ℕ) → b < first → target p.graph node b ≡ Some m → IsMarked marks m → ⊥

  none_up : (marks : List Bool) (node first : ℕ) → NoneBelow marks node first → ((m : ℕ) → target p.graph node first ≡ Some m → IsMarked marks m → ⊥)
      → NoneBelow marks node (first + 1)
  none_up marks node first below here b m less e t = elim (cases_lt b first) [
    | inl old ↦ below b m old e t
    | inr past ↦ let same : b ≡ first = omega arith in here m (ap (λ z. target p.graph node z) (sym same) ∙ e) t
  ]

  leads_from : (marks : List Bool) (node left first : ℕ) → p.letters ≤ first + left → NoneBelow marks node first
      → LeadsTo p.graph marks node ⊎ (LeadsTo p.graph marks node → ⊥)
  leads_from marks node zero first all below =
      inr (λ leads.
      let edge = target_in p.letters p.graph graph node leads.letter leads.next leads.is in
      below leads.letter leads.next (omega (arith, edge.1)) leads.is leads.marked)
  leads_from marks node (suc left) first all below =
      go (target p.graph node first) refl (λ here. leads_from marks node left (first + 1) (omega arith) (none_up marks node first below here))
    where
      go : (o : Option ℕ) → target p.graph node first ≡ o
          → (((m : ℕ) → target p.graph node first ≡ Some m → IsMarked marks m → ⊥) → LeadsTo p.graph marks node ⊎ (LeadsTo p.graph marks node → ⊥))
          → LeadsTo p.graph marks node ⊎ (LeadsTo p.graph marks node → ⊥)
      go None e on = on (λ m d t. let bad : None ≡ Some m = sym e ∙ d in cc)
      go (Some next) e on = elim (marked_or marks next) [
        | inl t ↦ inl (record { letter = first; next = next; is = e; marked = t })
        | inr none ↦
            on (λ m d t.
            let same : m ≡ next = same_Some m next (sym d ∙ e) in
            none (ap (λ z. get_or marks z false) (sym same) ∙ t))
      ]

  leads_or : (marks : List Bool) (node : ℕ) → LeadsTo p.graph marks node ⊎ (LeadsTo p.graph marks node → ⊥)
  leads_or marks node = leads_from marks node p.letters 0 (omega arith) (λ b m less e t. omega arith)

  grown_or : (ends marks : List Bool) (node : ℕ) → IsGrown p.graph ends marks node ⊎ (IsGrown p.graph ends marks node → ⊥)
  grown_or ends marks node = elim (marked_or ends node) [
    | inl t ↦ inl (inl t)
    | inr none ↦ elim (leads_or marks node) [
      | inl leads ↦ inl (inr leads)
      | inr neither ↦ inr (λ grown. elim grown [ inl t ↦ none t | inr leads ↦ neither leads ])
    ]
  ]

  -- the marks of a round
  next_marks : (ends marks : List Bool) → (new : List Bool) × AreMarks (IsGrown p.graph ends marks) (length p.graph) new
  next_marks ends marks = marks_exist (IsGrown p.graph ends marks) (length p.graph) (λ node less. grown_or ends marks node)

  module _ (ends : List Bool) (are : AreMarks (λ node. GoesOn p node 0) (length p.graph) ends) where
    abbrev Ended : Type 0
    Ended = (final : List Bool) × (spread : ℕ) × AreGrowing p ends final spread false

    -- rounds until one marks no further node
    rounds : (left : ℕ) (marks : List Bool) (spread : ℕ) → AreGrowing p ends marks spread true → length p.graph ≤ count_marked marks + left → Ended
    rounds zero marks spread h all =
        let new = next_marks ends marks in
        let most = count_most new.0 in
        let few : count_marked new.0 ≤ count_marked marks = omega (arith, most, new.1.long) in
        (new.0, spread + 1, growing_more p graph ends are marks new.0 spread false h new.1 (λ t. absurd (marked_not false refl t), λ less. absurd (omega (arith, less, few))))
    rounds (suc left) marks spread h all =
        let new = next_marks ends marks in
        elim (cases_lt (count_marked marks) (count_marked new.0)) [
          | inl less ↦
              rounds left new.0 (spread + 1) (growing_more p graph ends are marks new.0 spread true h new.1 (λ t. less, λ l. refl)) (omega (arith, less, all))
          | inr few ↦
              (new.0, spread + 1, growing_more p graph ends are marks new.0 spread false h new.1 (λ t. absurd (marked_not false refl t), λ less. absurd (omega (arith, less, few))))
        ]

    ended : Ended
    ended = rounds (length p.graph) ends 1 (growing_start p graph ends are) (omega arith)

  -- the nodes that are ends
  end_marks : (ends : List Bool) × AreMarks (λ node. GoesOn p node 0) (length p.graph) ends
  end_marks = marks_exist (λ node. GoesOn p node 0) (length p.graph) (λ node less. end_or node)
    where
      end_or : (node : ℕ) → GoesOn p node 0 ⊎ (GoesOn p node 0 → ⊥)
      end_or node = go (p.is_end node) refl
        where
          go : (b : Bool) → p.is_end node ≡ b → GoesOn p node 0 ⊎ (GoesOn p node 0 → ⊥)
          go true e = inl ((goes_zero p graph node).0 e)
          go false e = inr (λ h. marked_not (p.is_end node) e ((goes_zero p graph node).1 h))

  far_or : (n : ℕ) (marks : List Bool) → AreMarks (λ node. GoesFar p node n) (length p.graph) marks
      → (node : ℕ) → node < length p.graph → GoesFar p node n ⊎ (GoesFar p node n → ⊥)
  far_or n marks h node less = elim (marked_or marks node) [
    | inl t ↦ inl ((h.at node less).0 t)
    | inr none ↦ inr (λ far. none ((h.at node less).1 far))
  ]

  far_marks : (n : ℕ) → (marks : List Bool) × AreMarks (λ node. GoesFar p node n) (length p.graph) marks
  far_marks zero =
      let ends = end_marks in
      let last = ended ends.0 ends.1 in
      (last.0, growing_end p graph ends.0 ends.1 last.0 last.1 last.2)
  far_marks (suc n) =
      let before = far_marks n in
      marks_exist (λ node. GoesFar p node (suc n)) (length p.graph) (λ node less. step before.0 before.1 node)
    where
      on : (node : ℕ) → GoesFar p node (n + 1) → GoesFar p node (suc n)
      on node h = record { word = h.word; long = omega (arith, h.long); has = h.has }

      back : (node : ℕ) → GoesFar p node (suc n) → GoesFar p node (n + 1)
      back node h = record { word = h.word; long = omega (arith, h.long); has = h.has }

      step : (marks : List Bool) → AreMarks (λ node. GoesFar p node n) (length p.graph) marks → (node : ℕ) → GoesFar p node (suc n) ⊎ (GoesFar p node (suc n) → ⊥)
      step marks h node = elim (leads_or marks node) [
        | inl leads ↦ inl (on node ((far_more p graph n marks h node).0 leads))
        | inr none ↦ inr (λ far. none ((far_more p graph n marks h node).1 (back node far)))
      ]

  -- whether words of so many letters, or more, lead from the node to an end
  pub far_decided : (node : ℕ) → node < length p.graph → (n : ℕ) → GoesFar p node n ⊎ (GoesFar p node n → ⊥)
  far_decided node less n = let marks = far_marks n in far_or n marks.0 marks.1 node less
