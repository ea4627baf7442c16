-- How far words lead from the nodes of a graph.
use Rattle.std.proofs.Common.{◌≡◌, ℕ, zero, suc, ◌+◌, ◌<◌, ◌≤◌, List, [], ◌∷◌, ◌++◌, length, take, drop, get_or, set, Bool, true, false, refl, sym, ◌∙◌, ap, subst, arith, ◌⊎◌, inl, inr, Option, Some, None, length-set, replicate}
use Rattle.std.specs.Option.{is_some}
use Rattle.std.proofs.lemmas.Bool.{cases_lt, cases_eq}
use Rattle.std.proofs.lemmas.List.{take-append-drop, length-take-le, get_or-set_same, get_or-set_other, get_or-replicate, length-replicate}
use Rattle.theory.specs.Word.{Word, IsOver}
use Rattle.theory.specs.Graph.{Graph, target, path, IsGraph}
use Rattle.theory.proofs.Words.{over_left}
use Rattle.theory.proofs.GraphLaws.{path_front}
use Rattle.word_graph.specs.Gaps.{count_none}
use Rattle.reduced_automaton.specs.Paths.{GoesOn, all_paths}
use Rattle.reduced_automaton.specs.Automaton.{Allows, AreDepths, AreSettled, AreSettledTo, IsChange, IsSettled, LeadsOn}
use Rattle.reduced_automaton.proofs.PathLaws.{goes_as, goes_behind, goes_first}

pub option_cases : {X : Type 0} (o : Option X) → (o ≡ None) ⊎ ((x : X) × (o ≡ Some x))
option_cases None = inl refl
option_cases (Some x) = inr (x, refl)

module _ (k : ℕ) (g : Graph) where
  pub goes_nowhere : (node : ℕ) → GoesOn (all_paths k g) node 0
  goes_nowhere node = record { word = []; long = refl; has = record { over = tt; end = node; is = refl; ends = refl } }

  -- a word with a path has one for each prefix
  pub goes_shorter : (node n m : ℕ) → m ≤ n → GoesOn (all_paths k g) node n → GoesOn (all_paths k g) node m
  goes_shorter node n m less h =
      let whole : take m h.word ++ drop m h.word ≡ h.word = take-append-drop m h.word in
      let front = path_front g node h.has.end (take m h.word) (drop m h.word) (ap (λ (u : Word). path g node u) whole ∙ h.has.is) in
      record {
        word = take m h.word;
        long = length-take-le m h.word (omega (arith, h.long));
        has =
            record {
              over = over_left k (take m h.word) (drop m h.word) (subst (λ (u : Word). IsOver k u) (sym whole) h.has.over);
              end = front.0;
              is = front.1;
              ends = refl;
            };
      }

  -- what is settled, and allows so many letters, has such paths
  settled_allows : (node round n : ℕ) (o : Option ℕ) → n ≤ round → IsSettled k g round node o → Allows o n → GoesOn (all_paths k g) node n
  settled_allows node round n None less h allows = goes_shorter node round n less h
  settled_allows node round n (Some most) less h allows = goes_shorter node most n allows h.1

  -- and what does not allow them has none
  settled_ends : (node round n : ℕ) (o : Option ℕ) → IsSettled k g round node o → (Allows o n → ⊥) → GoesOn (all_paths k g) node n → ⊥
  settled_ends node round n None h none goes = none tt
  settled_ends node round n (Some most) h none goes = elim (cases_lt most n) [
    | inl more ↦ h.2 (goes_shorter node n (most + 1) (omega arith) goes)
    | inr less ↦ none less
  ]

  settled_later : (node round most : ℕ) → IsSettled k g round node (Some most) → IsSettled k g (round + 1) node (Some most)
  settled_later node round most h = (omega (arith, h.0), h.1, h.2)

  module _ (graph : IsGraph k g) where
    -- A round.
    pub round_start : (round : ℕ) (depths : List (Option ℕ)) → AreSettled k g round depths → AreSettledTo k g round 0 depths
    round_start round depths h = record { count = h.count; before = λ node l less. absurd (omega arith); behind = λ node l less. h.at node less }

    pub round_end : (round done : ℕ) (depths : List (Option ℕ)) → length g ≤ done → AreSettledTo k g round done depths
        → AreSettled k g (round + 1) depths
    round_end round done depths all h = record { count = h.count; at = λ node less. h.before node (omega arith) less }

    module _ (round node : ℕ) (depths : List (Option ℕ)) (is : AreSettledTo k g round node depths) where
      -- the node is done, and no other has changed
      with_done : (inside : node < length g) (new : List (Option ℕ)) → length new ≡ length depths
          → ((n : ℕ) → (n ≡ node → ⊥) → get_or new n None ≡ get_or depths n None)
          → IsSettled k g (round + 1) node (get_or new node None) → AreSettledTo k g round (node + 1) new
      with_done inside new count other here =
          record {
            count = count ∙ is.count;
            before = λ n l less. elim (cases_eq n node) [
              | inl e ↦ subst (λ z. IsSettled k g (round + 1) z (get_or new z None)) (sym e) here
              | inr ne ↦ subst (λ (o : Option ℕ). IsSettled k g (round + 1) n o) (sym (other n ne)) (is.before n (apart n ne l) less)
            ];
            behind = λ n l less. subst (λ (o : Option ℕ). IsSettled k g round n o) (sym (other n (λ e. omega arith))) (is.behind n (omega arith) less);
          }
        where
          apart : (n : ℕ) → (n ≡ node → ⊥) → n < node + 1 → n < node
          apart n ne l = elim (cases_lt n node) [ inl h ↦ h | inr h ↦ absurd (ne (omega arith)) ]

      -- a node with a depth
      pub round_known : (most : ℕ) → node < length g → get_or depths node None ≡ Some most → AreSettledTo k g round (node + 1) depths
      round_known most inside e =
          with_done inside depths refl (λ n ne. refl)
          (subst (λ (o : Option ℕ). IsSettled k g (round + 1) node o) (sym e)
          (settled_later node round most (subst (λ (o : Option ℕ). IsSettled k g round node o) e (is.behind node (omega arith) inside))))

      leads_on : LeadsOn g depths node round → GoesOn (all_paths k g) node (round + 1)
      leads_on h =
          let inside : h.1.next < length g = graph.nodes node h.0 h.1.next h.1.is in
          goes_behind (all_paths k g) graph node h.0 h.1.next round h.1.is (elim (cases_lt h.1.next node) [
            | inl l ↦ settled_allows h.1.next (round + 1) round (get_or depths h.1.next None) (omega arith) (is.before h.1.next l inside) h.1.allows
            | inr l ↦ settled_allows h.1.next round round (get_or depths h.1.next None) (omega arith) (is.behind h.1.next l inside) h.1.allows
          ])

      -- a node with an edge on
      pub round_leads : node < length g → get_or depths node None ≡ None → LeadsOn g depths node round
          → AreSettledTo k g round (node + 1) depths
      round_leads inside e h =
          with_done inside depths refl (λ n ne. refl) (subst (λ (o : Option ℕ). IsSettled k g (round + 1) node o) (sym e) (leads_on h))

      ends : (LeadsOn g depths node round → ⊥) → GoesOn (all_paths k g) node (round + 1) → ⊥
      ends none h =
          let first = goes_first (all_paths k g) node round h in
          let inside : first.1 < length g = graph.nodes node first.0 first.1 first.2 in
          let closed : Allows (get_or depths first.1 None) round → ⊥ = λ allows. none (first.0, record { next = first.1; is = first.2; allows = allows }) in
          elim (cases_lt first.1 node) [
            | inl l ↦ settled_ends first.1 (round + 1) round (get_or depths first.1 None) (is.before first.1 l inside) closed first.3
            | inr l ↦ settled_ends first.1 round round (get_or depths first.1 None) (is.behind first.1 l inside) closed first.3
          ]

      -- a node without one
      pub round_ends : node < length g → get_or depths node None ≡ None → (LeadsOn g depths node round → ⊥)
          → AreSettledTo k g round (node + 1) (set depths node (Some round))
      round_ends inside e none =
          let within : node < length depths = omega (arith, is.count) in
          let goes : GoesOn (all_paths k g) node round = subst (λ (o : Option ℕ). IsSettled k g round node o) e (is.behind node (omega arith) inside) in
          with_done inside (set depths node (Some round)) (length-set depths node (Some round))
          (λ n ne. get_or-set_other depths node n (Some round) None ne)
          (subst (λ (o : Option ℕ). IsSettled k g (round + 1) node o) (sym (get_or-set_same depths node (Some round) None within))
          (omega arith, goes, ends none))

    -- Before the first round, and after a round without a change.
    pub rounds_start : AreSettled k g 0 (replicate (length g) None)
    rounds_start =
        record {
          count = length-replicate (length g) None;
          at = λ node less. subst (λ (o : Option ℕ). IsSettled k g 0 node o) (sym (get_or-replicate (length g) node None None less)) (goes_nowhere node);
        }

    module _ (round : ℕ) (depths : List (Option ℕ)) (old : AreSettled k g round depths) (new : AreSettled k g (round + 1) depths) where
      -- a node without a depth has an edge to one
      none_on : (node : ℕ) → node < length g → get_or depths node None ≡ None
          → (a m : ℕ) × (target g node a ≡ Some m) × (get_or depths m None ≡ None)
      none_on node inside e =
          let first = goes_first (all_paths k g) node round (subst (λ (o : Option ℕ). IsSettled k g (round + 1) node o) e (new.at node inside)) in
          let within : first.1 < length g = graph.nodes node first.0 first.1 first.2 in (
            first.0,
            first.1,
            first.2,
            elim (option_cases (get_or depths first.1 None)) [
              | inl none ↦ none
              | inr some ↦
                  let there : IsSettled k g round first.1 (Some some.0) = subst (λ (o : Option ℕ). IsSettled k g round first.1 o) some.1 (old.at first.1 within) in
                  absurd (there.2 (goes_shorter first.1 round (some.0 + 1) (omega (arith, there.0)) first.3))
            ],
          )

      none_endless : (n node : ℕ) → node < length g → get_or depths node None ≡ None → GoesOn (all_paths k g) node n
      none_endless zero node inside e = goes_nowhere node
      none_endless (suc n) node inside e =
          let on = none_on node inside e in
          goes_as (all_paths k g) node (n + 1) (suc n) (omega arith)
          (goes_behind (all_paths k g) graph node on.0 on.1 n on.2 (none_endless n on.1 (graph.nodes node on.0 on.1 on.2) on.3))

      pub rounds_end : AreDepths k g depths
      rounds_end = record { count = old.count; depth = λ node n inside. at node n inside (get_or depths node None) refl }
        where
          at : (node n : ℕ) → node < length g → (o : Option ℕ) → get_or depths node None ≡ o → (GoesOn (all_paths k g) node n → Allows o n) × (Allows o n → GoesOn (all_paths k g) node n)
          at node n inside None e = (λ h. tt, λ h. none_endless n node inside e)
          at node n inside (Some most) e =
              let here : IsSettled k g round node (Some most) = subst (λ (o : Option ℕ). IsSettled k g round node o) e (old.at node inside) in (
                λ h. elim (cases_lt most n) [
                  | inl more ↦ absurd (here.2 (goes_shorter node n (most + 1) (omega arith) h))
                  | inr less ↦ less
                ],
                λ less. goes_shorter node most n less here.1,
              )

-- Changes.
pub none_set : (xs : List (Option ℕ)) (i x : ℕ) → i < length xs → get_or xs i None ≡ None → count_none (set xs i (Some x)) < count_none xs
none_set [] i x h e = absurd (omega arith)
none_set (None ∷ xs) zero x h e = omega arith
none_set (Some y ∷ xs) zero x h e = cc
none_set (None ∷ xs) (suc i) x h e = omega (arith, none_set xs i x (omega arith) e)
none_set (Some y ∷ xs) (suc i) x h e = none_set xs i x (omega arith) e

pub none_all : (n : ℕ) → count_none {X = ℕ} (replicate n None) ≡ n
none_all zero = refl
none_all (suc n) = omega (arith, none_all n)

pub change_more : (changed : Bool) (x y z : List (Option ℕ)) → IsChange changed x y → IsChange true y z → IsChange true x z
change_more true x y z h l = omega arith
change_more false x y z h l = subst (λ (w : List (Option ℕ)). IsChange true w z) h l

pub change_same : (changed : Bool) (x y z : List (Option ℕ)) → IsChange changed x y → IsChange false y z → IsChange changed x z
change_same changed x y z h e = subst (λ (w : List (Option ℕ)). IsChange changed x w) (sym e) h

pub none_is : {X : Type 0} (o : Option X) → is_some o ≡ false → o ≡ None
none_is None e = refl
none_is (Some x) e = cc
