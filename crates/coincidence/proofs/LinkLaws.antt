-- Lists of sources where edges come and go.
use Rattle.std.proofs.Common.{append_assoc, ◌≡◌, ◌≢◌, ℕ, zero, suc, ◌<◌, ◌≤◌, All, List, [], ◌∷◌, ◌++◌, refl, sym, ◌∙◌, ap, arith, ◌⊎◌, inl, inr, Option, Some, None, length, subst, replicate}
use Rattle.std.proofs.lemmas.Bool.{cases_eq}
use Rattle.std.proofs.lemmas.List.{length-replicate}
use Rattle.std.proofs.lemmas.List.Elements.{All-push}
use Rattle.theory.specs.Graph.{Graph, target, IsGraph}
use Rattle.theory.proofs.Counting.{IsIn, AreApart, in_numbers, length_numbers, numbers_below, pigeonhole}
use Rattle.word_graph.proofs.EdgeLaws.{target_in}
use Rattle.cells.proofs.EntryLaws.{entry_length, entry_put, entry_width, graph_put, node_graph, target_bare, target_node}
use Rattle.word_graph.proofs.WalkLaws.{some_same}
use Rattle.cells.specs.Rows.{IsPut, with_entry}
use Rattle.coincidence.specs.Pending.{IsAmong}
use Rattle.coincidence.specs.Links.{Links, IsChain, IsOnce, IsSources, IsLinked, IsBehind, chain_count}
use Rattle.word_graph.specs.Edges.{with_node}
use Rattle.coincidence.proofs.TableLaws.{root_graph}

-- a list stays where its nodes are followed as before
pub chain_same : (next next' : ℕ → Option ℕ) (start : Option ℕ) (list : List ℕ) → ((n : ℕ) → IsAmong n list → next' n ≡ next n) → IsChain next start list → IsChain next' start list
chain_same next next' start [] same c = c
chain_same next next' start (n ∷ ns) same c = (c.0, chain_same next next' (next' n) ns (λ m h. same m (inr h)) (subst (λ z. IsChain next z ns) (sym (same n (inl refl))) c.1))

-- the length of a list, counted
pub chain_counted : (most : ℕ) (next : ℕ → Option ℕ) (start : Option ℕ) (list : List ℕ) → IsChain next start list → length list ≤ most → chain_count most next start ≡ length list
chain_counted zero next start [] c h = refl
chain_counted zero next start (n ∷ ns) c h = absurd (omega (arith, h))
chain_counted (suc most) next start [] c h = rw c refl
chain_counted (suc most) next start (n ∷ ns) c h = rw (c.0) (ap suc (chain_counted most next (next n) ns c.1 (omega (arith, h))))

among_in : (n : ℕ) (ns : List ℕ) → IsIn n ns → IsAmong n ns
among_in n [] h = absurd h
among_in n (m ∷ ms) (inl e) = inl e
among_in n (m ∷ ms) (inr h) = inr (among_in n ms h)

once_apart : (ns : List ℕ) → IsOnce ns → AreApart (λ (x : ℕ) (w : ℕ). x ≡ w) ns
once_apart [] o = tt
once_apart (n ∷ ns) o = (λ y w m e d. o.0 (among_in n ns (subst (λ z. IsIn z ns) (d ∙ sym e) m)), once_apart ns o.1)

-- numbers below n that stand once are at most n
pub once_few : (n : ℕ) (ns : List ℕ) → IsOnce ns → ((m : ℕ) → IsAmong m ns → m < n) → length ns ≤ n
once_few n ns once less =
    let few : length ns ≤ length (numbers_below n) = pigeonhole (λ (x : ℕ) (w : ℕ). x ≡ w) ns (numbers_below n) (once_apart ns once) (λ x h. (x, in_numbers n x (less x (among_in x ns h)), refl)) in
    omega (arith, few, length_numbers n)

-- sources are at most as many as nodes
pub sources_few : (k : ℕ) (t : Links) (node letter : ℕ) (list : List ℕ) → IsLinked k t → IsSources t node letter list → length list ≤ length t.graph
sources_few k t node letter list is s = once_few (length t.graph) list s.once (λ m h. (target_in k t.graph is.graph m letter node (s.only m h)).0)

-- one source more, at the front
pub sources_set : (old new : Links) (n a m : ℕ) → target old.graph n a ≡ None
    → IsPut old.graph new.graph n a (Some m) → IsPut old.firsts new.firsts m a (Some n) → IsPut old.nexts new.nexts n a (target old.firsts m a)
    → (node letter : ℕ) (list : List ℕ) → IsSources old node letter list → (list' : List ℕ) × IsSources new node letter list'
sources_set old new n a m missing graph firsts nexts node letter list s = go (cases_eq node m) (cases_eq letter a)
  where
    -- the node is in no list of the letter
    off : (l : ℕ) → l ≡ a → (p : ℕ) → IsAmong p list → letter ≡ l → p ≢ n
    off l e p h same is =
        let there : target old.graph n a ≡ Some node = subst (λ z. target old.graph z a ≡ Some node) is (subst (λ z. target old.graph p z ≡ Some node) (same ∙ e) (s.only p h)) in
        let no : None ≡ Some node = sym missing ∙ there in
        let none : ⊥ = cc in none

    nexts_kept : (p : ℕ) → IsAmong p list → target new.nexts p letter ≡ target old.nexts p letter
    nexts_kept p h = nexts.other p letter (λ both. off a refl p h both.1 both.0)

    elsewhere : ((node ≡ m) × (letter ≡ a) → ⊥) → (list' : List ℕ) × IsSources new node letter list'
    elsewhere apart = (
      list,
      record {
        chain = chain_same (λ p. target old.nexts p letter) (λ p. target new.nexts p letter) (target new.firsts node letter) list nexts_kept
            (subst (λ z. IsChain (λ p. target old.nexts p letter) z list) (sym (firsts.other node letter apart)) s.chain);
        once = s.once;
        all = λ p e. s.all p (sym (graph.other p letter (λ both.
            let here : target new.graph p letter ≡ Some m = subst (λ z. target new.graph z letter ≡ Some m) (sym both.0) (subst (λ z. target new.graph n z ≡ Some m) (sym both.1) graph.put) in
            apart (some_same node m (sym e ∙ here), both.1))) ∙ e);
        only = λ p h. graph.other p letter (λ both. off a refl p h both.1 both.0) ∙ s.only p h;
      },
    )

    here : node ≡ m → letter ≡ a → (list' : List ℕ) × IsSources new node letter list'
    here e d = (
      n ∷ list,
      record {
        chain = (
          subst (λ z. target new.firsts z letter ≡ Some n) (sym e) (subst (λ z. target new.firsts m z ≡ Some n) (sym d) firsts.put),
          chain_same (λ p. target old.nexts p letter) (λ p. target new.nexts p letter) (target new.nexts n letter) list nexts_kept
              (subst (λ z. IsChain (λ p. target old.nexts p letter) z list) (sym start) s.chain),
        );
        once = (λ h. off a refl n h d refl, s.once);
        all = λ p f. elim (cases_eq p n) [ inl same ↦ inl same | inr other ↦ inr (s.all p (sym (graph.other p letter (λ both. other both.0)) ∙ f)) ];
        only = λ p h. elim h [
          | inl same ↦ subst (λ z. target new.graph z letter ≡ Some node) (sym same) (subst (λ z. target new.graph n z ≡ Some node) (sym d) (graph.put ∙ ap (λ z. Some z) (sym e)))
          | inr among ↦ graph.other p letter (λ both. off a refl p among both.1 both.0) ∙ s.only p among
        ];
      },
    )
      where
        start : target new.nexts n letter ≡ target old.firsts node letter
        start = subst (λ z. target new.nexts n z ≡ target old.firsts node z) (sym d) (nexts.put ∙ ap (λ z. target old.firsts z a) (sym e))

    go : (node ≡ m) ⊎ (node ≢ m) → (letter ≡ a) ⊎ (letter ≢ a) → (list' : List ℕ) × IsSources new node letter list'
    go (inl e) (inl d) = here e d
    go (inr e) y = elsewhere (λ both. e both.0)
    go (inl e) (inr d) = elsewhere (λ both. d both.1)

-- parts of a list
pub among_front : {X : Type 0} (x : X) (xs ys : List X) → IsAmong x xs → IsAmong x (xs ++ ys)
among_front x [] ys h = absurd h
among_front x (z ∷ xs) ys (inl e) = inl e
among_front x (z ∷ xs) ys (inr h) = inr (among_front x xs ys h)

pub among_back : {X : Type 0} (x : X) (xs ys : List X) → IsAmong x ys → IsAmong x (xs ++ ys)
among_back x [] ys h = h
among_back x (z ∷ xs) ys h = inr (among_back x xs ys h)

pub among_parts : {X : Type 0} (x : X) (xs ys : List X) → IsAmong x (xs ++ ys) → IsAmong x xs ⊎ IsAmong x ys
among_parts x [] ys h = inr h
among_parts x (z ∷ xs) ys (inl e) = inl (inl e)
among_parts x (z ∷ xs) ys (inr h) = elim (among_parts x xs ys h) [ inl k ↦ inl (inr k) | inr k ↦ inr k ]

-- a list that stands once, without one of its nodes
once_without : (front back : List ℕ) (n : ℕ) → IsOnce (front ++ n ∷ back) → IsOnce (front ++ back) × (IsAmong n (front ++ back) → ⊥)
once_without [] back n o = (o.1, o.0)
once_without (m ∷ front) back n o =
    let rest = once_without front back n o.1 in
    let head : IsAmong m (front ++ back) → ⊥ = λ h. o.0 (elim (among_parts m front back h) [ inl k ↦ among_front m front (n ∷ back) k | inr k ↦ among_back m front (n ∷ back) (inr k) ]) in
    let tail : IsAmong n (m ∷ (front ++ back)) → ⊥ = λ h. elim h [ inl e ↦ o.0 (subst (λ z. IsAmong z (front ++ n ∷ back)) e (among_back n front (n ∷ back) (inl refl))) | inr k ↦ rest.1 k ] in
    ((head, rest.0), tail)

-- a chain around a node that is passed over
chain_cut : (next next' : ℕ → Option ℕ) (start : Option ℕ) (front back : List ℕ) (p n : ℕ) → IsOnce (front ++ p ∷ n ∷ back)
    → next' p ≡ next n → ((q : ℕ) → q ≢ p → next' q ≡ next q) → IsChain next start (front ++ p ∷ n ∷ back) → IsChain next' start (front ++ p ∷ back)
chain_cut next next' start [] back p n once here other c =
    (c.0, subst (λ z. IsChain next' z back) (sym here) (chain_same next next' (next n) back (λ q h. other q (λ e. once.0 (inr (subst (λ z. IsAmong z back) e h)))) c.1.1))
chain_cut next next' start (m ∷ front) back p n once here other c =
    let apart : m ≢ p = λ e. once.0 (subst (λ z. IsAmong z (front ++ p ∷ n ∷ back)) (sym e) (among_back p front (p ∷ n ∷ back) (inl refl))) in
    (c.0, subst (λ z. IsChain next' z (front ++ p ∷ back)) (sym (other m apart)) (chain_cut next next' (next m) front back p n once.1 here other c.1))

-- a list from which no node is gone stays
sources_kept : (old new : Links) (n a m : ℕ) → target old.graph n a ≡ Some m → IsPut old.graph new.graph n a None
    → (node letter : ℕ) → ((node ≡ m) × (letter ≡ a) → ⊥) → (list : List ℕ) → IsSources old node letter list
    → target new.firsts node letter ≡ target old.firsts node letter
    → ((p : ℕ) → IsAmong p list → target new.nexts p letter ≡ target old.nexts p letter) → IsSources new node letter list
sources_kept old new n a m edge graph node letter apart list s first nexts = record {
  chain = chain_same (λ p. target old.nexts p letter) (λ p. target new.nexts p letter) (target new.firsts node letter) list nexts
      (subst (λ z. IsChain (λ p. target old.nexts p letter) z list) (sym first) s.chain);
  once = s.once;
  all = λ p e. s.all p (sym (graph.other p letter (λ both. gone p both.0 both.1 e)) ∙ e);
  only = λ p h. graph.other p letter (λ both. apart (one p both.0 both.1 h, both.1)) ∙ s.only p h;
}
  where
    gone : (p : ℕ) → p ≡ n → letter ≡ a → target new.graph p letter ≡ Some node → ⊥
    gone p e d f =
        let none : target new.graph p letter ≡ None = subst (λ z. target new.graph z letter ≡ None) (sym e) (subst (λ z. target new.graph n z ≡ None) (sym d) graph.put) in
        let no : None ≡ Some node = sym none ∙ f in
        cc

    one : (p : ℕ) → p ≡ n → letter ≡ a → IsAmong p list → node ≡ m
    one p e d h =
        let here : target old.graph p letter ≡ Some m = subst (λ z. target old.graph z letter ≡ Some m) (sym e) (subst (λ z. target old.graph n z ≡ Some m) (sym d) edge) in
        some_same node m (sym (s.only p h) ∙ here)

-- the list from which the node is gone
sources_gone : (old new : Links) (n a m : ℕ) → target old.graph n a ≡ Some m → IsPut old.graph new.graph n a None
    → (front back : List ℕ) → IsSources old m a (front ++ n ∷ back)
    → IsChain (λ p. target new.nexts p a) (target new.firsts m a) (front ++ back) → IsSources new m a (front ++ back)
sources_gone old new n a m edge graph front back s chain =
    let once = once_without front back n s.once in
    record {
      chain = chain;
      once = once.0;
      all = λ p e. elim (cases_eq p n) [
        | inl same ↦ absurd (let no : None ≡ Some m = sym graph.put ∙ subst (λ z. target new.graph z a ≡ Some m) same e in let none : ⊥ = cc in none)
        | inr other ↦ elim (among_parts p front (n ∷ back) (s.all p (sym (graph.other p a (λ both. other both.0)) ∙ e))) [
          | inl h ↦ among_front p front back h
          | inr h ↦ elim h [ inl same ↦ absurd (other same) | inr k ↦ among_back p front back k ]
        ]
      ];
      only = λ p h.
          let there : IsAmong p (front ++ n ∷ back) = elim (among_parts p front back h) [ inl k ↦ among_front p front (n ∷ back) k | inr k ↦ among_back p front (n ∷ back) (inr k) ] in
          graph.other p a (λ both. once.1 (subst (λ z. IsAmong z (front ++ back)) both.0 h)) ∙ s.only p there;
    }

-- the first source goes
pub sources_first : (old new : Links) (n a m : ℕ) (back : List ℕ) → target old.graph n a ≡ Some m → IsSources old m a (n ∷ back)
    → IsPut old.graph new.graph n a None → IsPut old.firsts new.firsts m a (target old.nexts n a) → new.nexts ≡ old.nexts
    → (node letter : ℕ) (list : List ℕ) → IsSources old node letter list → (list' : List ℕ) × IsSources new node letter list'
sources_first old new n a m back edge s graph firsts nexts node letter list s' = go (cases_eq node m) (cases_eq letter a)
  where
    elsewhere : ((node ≡ m) × (letter ≡ a) → ⊥) → (list' : List ℕ) × IsSources new node letter list'
    elsewhere apart = (list, sources_kept old new n a m edge graph node letter apart list s' (firsts.other node letter apart) (λ p h. ap (λ (g : Graph). target g p letter) nexts))

    go : (node ≡ m) ⊎ (node ≢ m) → (letter ≡ a) ⊎ (letter ≢ a) → (list' : List ℕ) × IsSources new node letter list'
    go (inl e) (inl d) = subst (λ z. (list' : List ℕ) × IsSources new z letter list') (sym e) (subst (λ z. (list' : List ℕ) × IsSources new m z list') (sym d) (
      back,
      sources_gone old new n a m edge graph [] back s (subst (λ (g : Graph). IsChain (λ p. target g p a) (target new.firsts m a) back) (sym nexts)
          (subst (λ z. IsChain (λ p. target old.nexts p a) z back) (sym firsts.put) (s.chain.1))),
    ))
    go (inr e) y = elsewhere (λ both. e both.0)
    go (inl e) (inr d) = elsewhere (λ both. d both.1)

-- a source behind another goes
pub sources_later : (old new : Links) (n a m p : ℕ) (front back : List ℕ) → target old.graph n a ≡ Some m → IsSources old m a (front ++ p ∷ n ∷ back)
    → IsPut old.graph new.graph n a None → IsPut old.nexts new.nexts p a (target old.nexts n a) → new.firsts ≡ old.firsts
    → (node letter : ℕ) (list : List ℕ) → IsSources old node letter list → (list' : List ℕ) × IsSources new node letter list'
sources_later old new n a m p front back edge s graph nexts firsts node letter list s' = go (cases_eq node m) (cases_eq letter a)
  where
    before : target old.graph p a ≡ Some m
    before = s.only p (among_back p front (p ∷ n ∷ back) (inl refl))

    elsewhere : ((node ≡ m) × (letter ≡ a) → ⊥) → (list' : List ℕ) × IsSources new node letter list'
    elsewhere apart = (list, sources_kept old new n a m edge graph node letter apart list s' (ap (λ (g : Graph). target g node letter) firsts) (λ q h. nexts.other q letter (λ both. apart (one q both.0 both.1 h, both.1))))
      where
        one : (q : ℕ) → q ≡ p → letter ≡ a → IsAmong q list → node ≡ m
        one q e d h =
            let here : target old.graph q letter ≡ Some m = subst (λ z. target old.graph z letter ≡ Some m) (sym e) (subst (λ z. target old.graph p z ≡ Some m) (sym d) before) in
            some_same node m (sym (s'.only q h) ∙ here)

    go : (node ≡ m) ⊎ (node ≢ m) → (letter ≡ a) ⊎ (letter ≢ a) → (list' : List ℕ) × IsSources new node letter list'
    go (inl e) (inl d) = subst (λ z. (list' : List ℕ) × IsSources new z letter list') (sym e) (subst (λ z. (list' : List ℕ) × IsSources new m z list') (sym d) here)
      where
        parts : IsSources old m a ((front ++ p ∷ []) ++ n ∷ back)
        parts = rw append_assoc s

        chain : IsChain (λ q. target new.nexts q a) (target new.firsts m a) (front ++ p ∷ back)
        chain = subst (λ (g : Graph). IsChain (λ q. target new.nexts q a) (target g m a) (front ++ p ∷ back)) (sym firsts)
            (chain_cut (λ q. target old.nexts q a) (λ q. target new.nexts q a) (target old.firsts m a) front back p n s.once nexts.put (λ q d. nexts.other q a (λ both. d both.0)) s.chain)

        here : (list' : List ℕ) × IsSources new m a list'
        here = ((front ++ p ∷ []) ++ back, sources_gone old new n a m edge graph (front ++ p ∷ []) back parts (rw append_assoc chain))
    go (inr e) y = elsewhere (λ both. e both.0)
    go (inl e) (inr d) = elsewhere (λ both. d both.1)

-- links that read the same
pub linked_same : (k : ℕ) (old new : Links) → IsLinked k old → IsGraph k new.graph → All (λ row. length row ≡ k) new.firsts → All (λ row. length row ≡ k) new.nexts
    → length new.graph ≤ length new.firsts → length new.graph ≤ length new.nexts
    → ((n a : ℕ) → target new.graph n a ≡ target old.graph n a) → ((n a : ℕ) → target new.firsts n a ≡ target old.firsts n a) → ((n a : ℕ) → target new.nexts n a ≡ target old.nexts n a)
    → IsLinked k new
linked_same k old new is graph firsts nexts first_rows next_rows g f n = record {
  few = is.few;
  graph = graph;
  firsts = firsts;
  nexts = nexts;
  first_rows = first_rows;
  next_rows = next_rows;
  lists = λ node letter.
      let l = is.lists node letter in (
        l.0,
        record {
          chain = chain_same (λ p. target old.nexts p letter) (λ p. target new.nexts p letter) (target new.firsts node letter) l.0 (λ p _. n p letter)
              (subst (λ z. IsChain (λ p. target old.nexts p letter) z l.0) (sym (f node letter)) l.1.chain);
          once = l.1.once;
          all = λ p e. l.1.all p (sym (g p letter) ∙ e);
          only = λ p h. g p letter ∙ l.1.only p h;
        },
      );
}

-- one row more in each, or in some
pub linked_rows : (k : ℕ) (t : Links) (graph firsts nexts : Graph) → IsLinked k t
    → (graph ≡ t.graph) ⊎ (graph ≡ with_node k t.graph) → (firsts ≡ t.firsts) ⊎ (firsts ≡ with_node k t.firsts) → (nexts ≡ t.nexts) ⊎ (nexts ≡ with_node k t.nexts)
    → length graph ≤ length firsts → length graph ≤ length nexts
    → IsLinked k (record { graph = graph; firsts = firsts; nexts = nexts })
linked_rows k t graph firsts nexts is g f n first_rows next_rows =
    linked_same k t (record { graph = graph; firsts = firsts; nexts = nexts }) is (whole g) (wide t.firsts firsts is.firsts f) (wide t.nexts nexts is.nexts n) first_rows next_rows
    (same t.graph graph g) (same t.firsts firsts f) (same t.nexts nexts n)
  where
    whole : (graph ≡ t.graph) ⊎ (graph ≡ with_node k t.graph) → IsGraph k graph
    whole (inl e) = subst (IsGraph k) (sym e) is.graph
    whole (inr e) = subst (IsGraph k) (sym e) (node_graph k t.graph is.graph)

    wide : (old new : Graph) → All (λ row. length row ≡ k) old → (new ≡ old) ⊎ (new ≡ with_node k old) → All (λ row. length row ≡ k) new
    wide old new w (inl e) = subst (λ (z : Graph). All (λ row. length row ≡ k) z) (sym e) w
    wide old new w (inr e) = subst (λ (z : Graph). All (λ row. length row ≡ k) z) (sym e) (All-push (λ row. length row ≡ k) old (replicate k None) w (length-replicate k None))

    same : (old new : Graph) → (new ≡ old) ⊎ (new ≡ with_node k old) → (p a : ℕ) → target new p a ≡ target old p a
    same old new (inl e) p a = ap (λ (z : Graph). target z p a) e
    same old new (inr e) p a = ap (λ (z : Graph). target z p a) e ∙ target_node k old p a

-- the root alone
pub root_sources : (k node letter : ℕ) → (list : List ℕ) × IsSources (record { graph = replicate k None ∷ []; firsts = replicate k None ∷ []; nexts = replicate k None ∷ [] }) node letter list
root_sources k node letter = (
  [],
  record {
    chain = target_bare 1 k node letter;
    once = tt;
    all = λ n e. absurd (let no : None ≡ Some node = sym (target_bare 1 k n letter) ∙ e in let none : ⊥ = cc in none);
    only = λ n h. absurd h;
  },
)

pub linked_root : (k : ℕ) → k ≤ 256 → IsLinked k (record { graph = replicate k None ∷ []; firsts = replicate k None ∷ []; nexts = replicate k None ∷ [] })
linked_root k few = record {
  few = few;
  graph = root_graph k;
  firsts = (root_graph k).width;
  nexts = (root_graph k).width;
  first_rows = omega arith;
  next_rows = omega arith;
  lists = root_sources k;
}

-- a list of nodes goes on with one of them
chain_goes_on : (next : ℕ → Option ℕ) (start : Option ℕ) (list : List ℕ) (n m : ℕ) → IsChain next start list → IsAmong n list → next n ≡ Some m → IsAmong m list
chain_goes_on next start [] n m c h later = absurd h
chain_goes_on next start (p ∷ []) n m c (inl e) later = let none : None ≡ Some m = sym (subst (λ z. next z ≡ None) (sym e) c.1) ∙ later in cc
chain_goes_on next start (p ∷ q ∷ rest) n m c (inl e) later =
    let same : q ≡ m = some_same q m (sym (subst (λ z. next z ≡ Some q) (sym e) c.1.0) ∙ later) in
    inr (inl (sym same))
chain_goes_on next start (p ∷ rest) n m c (inr h) later = inr (chain_goes_on next (next p) rest n m c.1 h later)

-- the first source is a node
pub first_within : (k : ℕ) (t : Links) (m a n : ℕ) → IsLinked k t → target t.firsts m a ≡ Some n → n < length t.graph
first_within k t m a n is first = (target_in k t.graph is.graph n a m (own.1.only n (go own.0 own.1.chain))).0
  where
    own : (list : List ℕ) × IsSources t m a list
    own = is.lists m a

    go : (list : List ℕ) → IsChain (λ q. target t.nexts q a) (target t.firsts m a) list → IsAmong n list
    go [] c = let none : None ≡ Some n = sym c ∙ first in cc
    go (p ∷ rest) c = inl (sym (some_same p n (sym c.0 ∙ first)))

-- the source after another is a node
pub next_within : (k : ℕ) (t : Links) (n a m p : ℕ) → IsLinked k t → target t.graph n a ≡ Some m → target t.nexts n a ≡ Some p → p < length t.graph
next_within k t n a m p is edge later =
    let own = is.lists m a in
    let among = chain_goes_on (λ q. target t.nexts q a) (target t.firsts m a) own.0 n p own.1.chain (own.1.all n edge) later in
    (target_in k t.graph is.graph p a m (own.1.only p among)).0

-- an edge more
pub linked_set : (k : ℕ) (t : Links) (n a m : ℕ) → IsLinked k t → n < length t.graph → a < k → m < length t.graph → target t.graph n a ≡ None
    → IsLinked k (record { graph = with_entry t.graph n a (Some m); firsts = with_entry t.firsts m a (Some n); nexts = with_entry t.nexts n a (target t.firsts m a) })
linked_set k t n a m is hn ha hm missing =
    let hf : m < length t.firsts = omega (arith, hm, is.first_rows) in
    let hx : n < length t.nexts = omega (arith, hn, is.next_rows) in
    record {
      few = is.few;
      graph = graph_put k t.graph n a (Some m) is.graph hn ha (λ p e. subst (λ z. z < length t.graph) (some_same m p e) hm);
      firsts = entry_width k t.firsts m a (Some n) hf is.firsts;
      nexts = entry_width k t.nexts n a (target t.firsts m a) hx is.nexts;
      first_rows = omega (arith, entry_length t.graph n a (Some m), entry_length t.firsts m a (Some n), is.first_rows);
      next_rows = omega (arith, entry_length t.graph n a (Some m), entry_length t.nexts n a (target t.firsts m a), is.next_rows);
      lists = λ node letter. let l = is.lists node letter in
          sources_set t (record { graph = with_entry t.graph n a (Some m); firsts = with_entry t.firsts m a (Some n); nexts = with_entry t.nexts n a (target t.firsts m a) }) n a m missing
          (entry_put t.graph n a (Some m) hn (omega (arith, is.graph.width n [] hn, ha))) (entry_put t.firsts m a (Some n) hf (omega (arith, is.firsts m [] hf, ha))) (entry_put t.nexts n a (target t.firsts m a) hx (omega (arith, is.nexts n [] hx, ha)))
          node letter l.0 l.1;
    }

-- an edge less, whose node is the first source
pub linked_first : (k : ℕ) (t : Links) (n a m : ℕ) → IsLinked k t → target t.graph n a ≡ Some m → ((list : List ℕ) → IsSources t m a list → IsBehind list n None)
    → IsLinked k (record { graph = with_entry t.graph n a None; firsts = with_entry t.firsts m a (target t.nexts n a); nexts = t.nexts })
linked_first k t n a m is edge behind =
    let at = target_in k t.graph is.graph n a m edge in
    let hf : m < length t.firsts = omega (arith, at.2, is.first_rows) in
    let own = is.lists m a in
    let front = behind own.0 own.1 in
    record {
      few = is.few;
      graph = graph_put k t.graph n a None is.graph at.0 at.1 (λ p e. absurd (let no : None ≡ Some p = e in let none : ⊥ = cc in none));
      firsts = entry_width k t.firsts m a (target t.nexts n a) hf is.firsts;
      nexts = is.nexts;
      first_rows = omega (arith, entry_length t.graph n a None, entry_length t.firsts m a (target t.nexts n a), is.first_rows);
      next_rows = omega (arith, entry_length t.graph n a None, is.next_rows);
      lists = λ node letter. let l = is.lists node letter in
          sources_first t (record { graph = with_entry t.graph n a None; firsts = with_entry t.firsts m a (target t.nexts n a); nexts = t.nexts }) n a m front.0 edge (subst (IsSources t m a) front.1 own.1)
          (entry_put t.graph n a None at.0 (omega (arith, is.graph.width n [] at.0, at.1))) (entry_put t.firsts m a (target t.nexts n a) hf (omega (arith, is.firsts m [] hf, at.1))) refl
          node letter l.0 l.1;
    }

-- the source before another is one
pub behind_source : (k : ℕ) (t : Links) (n a m p : ℕ) → IsLinked k t → target t.graph n a ≡ Some m → ((list : List ℕ) → IsSources t m a list → IsBehind list n (Some p)) → target t.graph p a ≡ Some m
behind_source k t n a m p is edge behind =
    let own = is.lists m a in
    let parts = behind own.0 own.1 in
    own.1.only p (subst (IsAmong p) (sym parts.2) (among_back p parts.0 (p ∷ n ∷ parts.1) (inl refl)))

-- an edge less, whose node is a source behind another
pub linked_later : (k : ℕ) (t : Links) (n a m p : ℕ) → IsLinked k t → target t.graph n a ≡ Some m → ((list : List ℕ) → IsSources t m a list → IsBehind list n (Some p))
    → IsLinked k (record { graph = with_entry t.graph n a None; firsts = t.firsts; nexts = with_entry t.nexts p a (target t.nexts n a) })
linked_later k t n a m p is edge behind =
    let at = target_in k t.graph is.graph n a m edge in
    let own = is.lists m a in
    let parts = behind own.0 own.1 in
    let before = behind_source k t n a m p is edge behind in
    let in_p = target_in k t.graph is.graph p a m before in
    let hx : p < length t.nexts = omega (arith, in_p.0, is.next_rows) in
    record {
      few = is.few;
      graph = graph_put k t.graph n a None is.graph at.0 at.1 (λ q e. absurd (let no : None ≡ Some q = e in let none : ⊥ = cc in none));
      firsts = is.firsts;
      nexts = entry_width k t.nexts p a (target t.nexts n a) hx is.nexts;
      first_rows = omega (arith, entry_length t.graph n a None, is.first_rows);
      next_rows = omega (arith, entry_length t.graph n a None, entry_length t.nexts p a (target t.nexts n a), is.next_rows);
      lists = λ node letter. let l = is.lists node letter in
          sources_later t (record { graph = with_entry t.graph n a None; firsts = t.firsts; nexts = with_entry t.nexts p a (target t.nexts n a) }) n a m p parts.0 parts.1 edge (subst (IsSources t m a) parts.2 own.1)
          (entry_put t.graph n a None at.0 (omega (arith, is.graph.width n [] at.0, at.1))) (entry_put t.nexts p a (target t.nexts n a) hx (omega (arith, is.nexts p [] hx, at.1))) refl
          node letter l.0 l.1;
    }
