-- One node becomes another, edge by edge.
use Rattle.std.proofs.Common.{◌≡◌, ◌≢◌, ℕ, zero, suc, ◌+◌, ◌<◌, ◌≤◌, List, [], ◌∷◌, ◌++◌, refl, sym, ◌∙◌, ap, arith, ◌⊎◌, inl, inr, Option, Some, None, length, subst, get_or, set, cond, nat_eq}
use Rattle.std.proofs.lemmas.Bool.{cases_eq}
use Rattle.std.proofs.lemmas.List.{get_or-set_same}
use Rattle.theory.specs.Graph.{Graph, target, IsGraph}
use Rattle.word_graph.proofs.EdgeLaws.{target_in}
use Rattle.cells.proofs.EntryLaws.{entry_length, entry_put, graph_put, target_is}
use Rattle.word_graph.proofs.WalkLaws.{some_same}
use Rattle.cells.specs.Rows.{IsPut, with_entry}
use Rattle.coincidence.specs.Pending.{IsAmong}
use Rattle.coincidence.specs.Links.{Links, IsChain, IsLinked}
use Rattle.coincidence.specs.Absorbing.{Absorbing, Extends, IsSameShape, IsMerge, IsRedirecting, IsRedirected, IsMoved, IsMet, IsAbsorbedAt, IsAbsorbed, KeepsRest, goes}
use Rattle.coincidence.specs.declared.absorb.Merge.{Merge}
use Rattle.coincidence.specs.declared.cosets.Cosets.{Cosets}
use Rattle.coincidence.specs.declared.pending.Pending.TheVariants.{NewEdge}
use Rattle.coincidence.proofs.ClassLaws.{relabel_same, relabel_other}
use Rattle.coincidence.proofs.PendingLaws.{among_push, among_before, among_last, extended, extended_last}

-- an end is the node or not
is_some : (x : Option ℕ) (m : ℕ) → (x ≡ Some m) ⊎ (x ≡ Some m → ⊥)
is_some None m = inr (λ e. let none : ⊥ = cc in none)
is_some (Some n) m = elim (cases_eq n m) [ inl e ↦ inl (ap (λ z. Some z) e) | inr d ↦ inr (λ e. d (some_same n m e)) ]

pub is_there : (x : Option ℕ) → (x ≡ None) ⊎ ((m : ℕ) × (x ≡ Some m))
is_there None = inl refl
is_there (Some m) = inr (m, refl)

pub same_shape : (g : Graph) → IsSameShape g g
same_shape g = record { nodes = refl; graph = λ k h. h }

pub shape_trans : (f g h : Graph) → IsSameShape f g → IsSameShape g h → IsSameShape f h
shape_trans f g h s t = record { nodes = t.nodes ∙ s.nodes; graph = λ k i. t.graph k (s.graph k i) }

-- the node that is lost stays one
pub merge_still : (old new : Graph) (merge : Merge) → IsSameShape old new → IsMerge old merge → IsMerge new merge
merge_still old new merge shape m = record { less = m.less; inside = omega (arith, m.inside, shape.nodes) }

none_end : (n m : ℕ) → None ≡ Some m → m < n
none_end n m e = cc

-- an entry is put, and the shape is kept
put_there : (k : ℕ) (g new : Graph) (j a : ℕ) (x : Option ℕ) → IsGraph k g → j < length g → a < k → ((m : ℕ) → x ≡ Some m → m < length g) → new ≡ with_entry g j a x → IsPut g new j a x × IsSameShape g new
put_there k g new j a x is hj ha hx e = subst (λ z. IsPut g z j a x × IsSameShape g z) (sym e) (
  entry_put g j a x hj (omega (arith, is.width j [] hj, ha)),
  record {
    nodes = entry_length g j a x;
    graph = λ l h. graph_put l g j a x h hj (subst (λ z. a < z) (sym (is.width j [] hj) ∙ h.width j [] hj) ha) hx;
  },
)

-- how many edges of the letter lead to the node
abbrev pub bit : Option ℕ → ℕ → ℕ
bit None to = 0
bit (Some m) to = cond (nat_eq m to) 1 0

abbrev pub count_into : Graph → ℕ → ℕ → ℕ
count_into [] a to = 0
count_into (row ∷ g) a to = bit (get_or row a None) to + count_into g a to

count_set : (g : Graph) (j a to : ℕ) (row : List (Option ℕ)) → j < length g → count_into (set g j row) a to + bit (get_or (get_or g j []) a None) to ≡ count_into g a to + bit (get_or row a None) to
count_set [] j a to row h = absurd (omega (arith, h))
count_set (r ∷ g) zero a to row h = omega arith
count_set (r ∷ g) (suc j) a to row h = omega (arith, count_set g j a to row (omega (arith, h)))

bit_same : (m to : ℕ) → m ≡ to → bit (Some m) to ≡ 1
bit_same m to e = grind (arith, e)

bit_other : (m to : ℕ) → m ≢ to → bit (Some m) to ≡ 0
bit_other m to e = grind (arith, e)

count_put : (g : Graph) (j a to : ℕ) (x : Option ℕ) → j < length g → a < length (get_or g j []) → count_into (with_entry g j a x) a to + bit (target g j a) to ≡ count_into g a to + bit x to
count_put g j a to x hj ha =
    let one = count_set g j a to (set (get_or g j []) a x) hj in
    let here : get_or (set (get_or g j []) a x) a None ≡ x = get_or-set_same (get_or g j []) a x None ha in
    subst (λ z. count_into (with_entry g j a x) a to + bit z to ≡ count_into g a to + bit x to) (sym (target_is g j a))
    (subst (λ z. count_into (with_entry g j a x) a to + bit (get_or (get_or g j []) a None) to ≡ count_into g a to + bit z to) here one)

-- the first source is one
pub first_leads : (k : ℕ) (t : Links) (to a n : ℕ) → IsLinked k t → target t.firsts to a ≡ Some n → target t.graph n a ≡ Some to
first_leads k t to a n is e = let l = is.lists to a in go l.0 l.1.chain l.1.only
  where
    go : (list : List ℕ) → IsChain (λ p. target t.nexts p a) (target t.firsts to a) list → ((p : ℕ) → IsAmong p list → target t.graph p a ≡ Some to) → target t.graph n a ≡ Some to
    go [] chain only = let no : None ≡ Some n = sym chain ∙ e in cc
    go (m ∷ list) chain only = only n (inl (some_same n m (sym e ∙ chain.0)))

-- where there is none, no edge leads there
pub none_leads : (k : ℕ) (t : Links) (to a n : ℕ) → IsLinked k t → target t.firsts to a ≡ None → target t.graph n a ≡ Some to → ⊥
none_leads k t to a n is e f = let l = is.lists to a in go l.0 l.1.chain (l.1.all n f)
  where
    go : (list : List ℕ) → IsChain (λ p. target t.nexts p a) (target t.firsts to a) list → IsAmong n list → ⊥
    go [] chain h = h
    go (m ∷ list) chain h = let no : None ≡ Some m = sym e ∙ chain.0 in cc

-- an edge to the lost node has been made again, to the one that is kept
pub record IsRemade (old new : Graph) (merge : Merge) (n a : ℕ) : Type 0 where
  pub put : IsPut old new n a (Some merge.kept)
  pub shape : IsSameShape old new
  pub fewer : count_into new a merge.lost < count_into old a merge.lost

-- it has been taken away, and can be made
pub record IsFreed (bare : Links) (merge : Merge) (n a : ℕ) : Type 0 where
  pub node : n < length bare.graph
  pub letter : (k : ℕ) → IsLinked k bare → a < k
  pub to : merge.kept < length bare.graph
  pub missing : target bare.graph n a ≡ None

module _ (k : ℕ) (t : Links) (merge : Merge) (n a : ℕ) (is : IsLinked k t) (m : IsMerge t.graph merge) (first : target t.firsts merge.lost a ≡ Some n) where
  leads : target t.graph n a ≡ Some merge.lost
  leads = first_leads k t merge.lost a n is first

  inside : (n < length t.graph) × (a < k) × (merge.lost < length t.graph)
  inside = target_in k t.graph is.graph n a merge.lost leads

  pub first_there : target t.graph n a ≢ None
  first_there e = let no : None ≡ Some merge.lost = sym e ∙ leads in let none : ⊥ = cc in none

  module _ (bare : Links) (bare_is : bare.graph ≡ with_entry t.graph n a None) where
    taken : IsPut t.graph bare.graph n a None × IsSameShape t.graph bare.graph
    taken = put_there k t.graph bare.graph n a None is.graph inside.0 inside.1 (none_end (length t.graph)) bare_is

    still : n < length bare.graph
    still = omega (arith, inside.0, taken.1.nodes)

    kept_inside : merge.kept < length bare.graph
    kept_inside = omega (arith, m.less, m.inside, taken.1.nodes)

    wide : length (get_or bare.graph n []) ≡ k
    wide = (taken.1.graph k is.graph).width n [] still

    pub freed : IsFreed bare merge n a
    freed = record {
      node = still;
      letter = λ l h. omega (arith, h.graph.width n [] still, wide, inside.1);
      to = kept_inside;
      missing = taken.0.put;
    }

    pub remade : (made : Graph) → made ≡ with_entry bare.graph n a (Some merge.kept) → IsRemade t.graph made merge n a
    remade made made_is =
        let again = put_there k bare.graph made n a (Some merge.kept) (taken.1.graph k is.graph) still inside.1 (λ p e. let same : merge.kept ≡ p = some_same merge.kept p e in omega (arith, same, kept_inside)) made_is in
        let one = count_put t.graph n a merge.lost None inside.0 (omega (arith, is.graph.width n [] inside.0, inside.1)) in
        let two = count_put bare.graph n a merge.lost (Some merge.kept) still (omega (arith, wide, inside.1)) in
        let was : bit (target t.graph n a) merge.lost ≡ 1 = ap (λ z. bit z merge.lost) leads ∙ bit_same merge.lost merge.lost refl in
        let gone : bit (target bare.graph n a) merge.lost ≡ 0 = ap (λ z. bit z merge.lost) taken.0.put in
        let other = bit_other merge.kept merge.lost (λ e. absurd (omega (arith, e, m.less))) in
        record {
          put = record { put = again.0.put; other = λ p b apart. again.0.other p b apart ∙ taken.0.other p b apart };
          shape = shape_trans t.graph bare.graph made taken.1 again.1;
          fewer = omega (arith, one, two, was, gone, other, ap (λ g. count_into g a merge.lost) bare_is, ap (λ g. count_into g a merge.lost) made_is);
        }

-- edges are redirected one by one
pub redirect_start : (old : Absorbing) (merge : Merge) (a : ℕ) → IsRedirecting old old merge a
redirect_start old merge a = record { shape = same_shape old.graph; pending = λ x h. h; queue = refl; led = λ n e. inl e; other = λ n b _. refl }

pub redirect_step : (old cur new : Absorbing) (merge : Merge) (a n : ℕ) → IsRedirecting old cur merge a → target cur.graph n a ≡ Some merge.lost → IsRemade cur.graph new.graph merge n a
    → Extends (cur.pending ++ NewEdge n a ∷ []) new.pending → new.queue ≡ cur.queue → IsRedirecting old new merge a
redirect_step old cur new merge a n r edge made more queue = record {
  shape = shape_trans old.graph cur.graph new.graph r.shape made.shape;
  pending = λ x h. extended x (NewEdge n a) cur.pending new.pending more (r.pending x h);
  queue = queue ∙ r.queue;
  led = λ p e. elim (cases_eq p n) [
    | inl same ↦ inr (subst (λ z. (target new.graph z a ≡ Some merge.kept) × IsAmong (NewEdge z a) new.pending) (sym same) (made.put.put, extended_last (NewEdge n a) cur.pending new.pending more))
    | inr other ↦
        let still : target new.graph p a ≡ target cur.graph p a = made.put.other p a (λ both. other both.0) in
        elim (r.led p e) [ inl h ↦ inl (still ∙ h) | inr h ↦ inr (still ∙ h.0, extended (NewEdge p a) (NewEdge n a) cur.pending new.pending more h.1) ]
  ];
  other = λ p b apart. made.put.other p b (λ both. apart (both.1, was p b both.0 both.1)) ∙ r.other p b apart;
}
  where
    -- the edge led to the lost node from the first
    first : target old.graph n a ≡ Some merge.lost
    first = elim (is_some (target old.graph n a) merge.lost) [ inl e ↦ e | inr apart ↦ sym (r.other n a (λ both. apart both.1)) ∙ edge ]

    was : (p b : ℕ) → p ≡ n → b ≡ a → target old.graph p b ≡ Some merge.lost
    was p b e d = subst (λ z. target old.graph z b ≡ Some merge.lost) (sym e) (subst (λ z. target old.graph n z ≡ Some merge.lost) (sym d) first)

module _ (k : ℕ) (old new : Absorbing) (bare : Graph) (merge : Merge) (a to : ℕ) (is : IsGraph k old.graph) (m : IsMerge old.graph merge) (edge : target old.graph merge.lost a ≡ Some to) (bare_is : bare ≡ with_entry old.graph merge.lost a None) where
  here : (merge.lost < length old.graph) × (a < k) × (to < length old.graph)
  here = target_in k old.graph is merge.lost a to edge

  gone : IsPut old.graph bare merge.lost a None × IsSameShape old.graph bare
  gone = put_there k old.graph bare merge.lost a None is here.0 here.1 (none_end (length old.graph)) bare_is

  apart : merge.lost ≢ merge.kept
  apart e = absurd (omega (arith, e, m.less))

  one_edge : (p : ℕ) → target old.graph merge.lost a ≡ Some p → to ≡ p
  one_edge p e = some_same to p (sym edge ∙ e)

  kept_same : target bare merge.kept a ≡ target old.graph merge.kept a
  kept_same = gone.0.other merge.kept a (λ both. apart (sym both.0))

  pub moved_on : target bare merge.kept a ≡ None → new.graph ≡ with_entry bare merge.kept a (Some to) → Extends (old.pending ++ NewEdge merge.kept a ∷ []) new.pending → new.queue ≡ old.queue → IsMoved old new merge a
  moved_on missing made more queue =
      let put = put_there k bare new.graph merge.kept a (Some to) (gone.1.graph k is) (omega (arith, m.less, here.0, gone.1.nodes)) here.1 (λ p e. let same : to ≡ p = some_same to p e in omega (arith, same, here.2, gone.1.nodes)) made in
      record {
        shape = shape_trans old.graph bare new.graph gone.1 put.1;
        pending = λ x h. extended x (NewEdge merge.kept a) old.pending new.pending more h;
        other = λ n b off. put.0.other n b (λ both. off (both.1, inr both.0)) ∙ gone.0.other n b (λ both. off (both.1, inl both.0));
        gone = put.0.other merge.lost a (λ both. apart both.0) ∙ gone.0.put;
        none = λ e. absurd (let no : None ≡ Some to = sym e ∙ edge in let none : ⊥ = cc in none);
        moved = λ p e _. (put.0.put ∙ ap (λ z. Some z) (one_edge p e), queue, extended_last (NewEdge merge.kept a) old.pending new.pending more);
        met = λ p end e f. absurd (let no : None ≡ Some end = sym missing ∙ kept_same ∙ f in let none : ⊥ = cc in none);
      }

  pub moved_met : (other : ℕ) → target bare merge.kept a ≡ Some other → new.graph ≡ bare → new.pending ≡ old.pending → new.queue ≡ old.queue ++ (to, other) ∷ [] → IsMoved old new merge a
  moved_met other there made same_pending queue = record {
    shape = subst (IsSameShape old.graph) (sym made) gone.1;
    pending = λ x h. subst (IsAmong x) (sym same_pending) h;
    other = λ n b off. ap (λ (z : Graph). target z n b) made ∙ gone.0.other n b (λ both. off (both.1, inl both.0));
    gone = ap (λ (z : Graph). target z merge.lost a) made ∙ gone.0.put;
    none = λ e. absurd (let no : None ≡ Some to = sym e ∙ edge in let none : ⊥ = cc in none);
    moved = λ p e f. absurd (let no : None ≡ Some other = sym f ∙ sym kept_same ∙ there in let none : ⊥ = cc in none);
    met = λ p end e f.
        let same : other ≡ end = some_same other end (sym there ∙ kept_same ∙ f) in
        let pair : ◌≡◌ {A = ℕ × ℕ} (to, other) (p, end) = rw (one_edge p e, same) refl in
        (ap (λ (z : Graph). target z merge.kept a) made ∙ there ∙ ap (λ z. Some z) same, queue ∙ ap (λ z. old.queue ++ z ∷ []) pair);
  }

pub goes_lost : (merge : Merge) (n : ℕ) → n ≡ merge.lost → goes merge n ≡ merge.kept
goes_lost merge n e = relabel_same merge.lost merge.kept n e

pub goes_other : (merge : Merge) (n : ℕ) → n ≢ merge.lost → goes merge n ≡ n
goes_other merge n d = relabel_other merge.lost merge.kept n d

-- at one letter: redirected, and then moved
module _ (old mid new : Absorbing) (merge : Merge) (a : ℕ) (less : merge.kept < merge.lost) (r : IsRedirected old mid merge a) (m : IsMoved mid new merge a) where
  led : (n : ℕ) → target old.graph n a ≡ Some merge.lost → (target mid.graph n a ≡ Some merge.kept) × IsAmong (NewEdge n a) mid.pending
  led n e = elim (r.0.led n e) [ inl still ↦ absurd (r.1 n still) | inr h ↦ h ]

  mid_edge : (n p : ℕ) → target old.graph n a ≡ Some p → target mid.graph n a ≡ Some (goes merge p)
  mid_edge n p e = elim (cases_eq p merge.lost) [
    | inl same ↦ (led n (e ∙ ap (λ z. Some z) same)).0 ∙ ap (λ z. Some z) (sym (goes_lost merge p same))
    | inr other ↦ r.0.other n a (λ both. other (some_same p merge.lost (sym e ∙ both.1))) ∙ e ∙ ap (λ z. Some z) (sym (goes_other merge p other))
  ]

  mid_back : (n t : ℕ) → target mid.graph n a ≡ Some t → (p : ℕ) × (target old.graph n a ≡ Some p) × (goes merge p ≡ t)
  mid_back n t e = elim (is_there (target old.graph n a)) [
    | inl none ↦ absurd (
        let same : target mid.graph n a ≡ target old.graph n a = r.0.other n a (λ both. let no : None ≡ Some merge.lost = sym none ∙ both.1 in let bot : ⊥ = cc in bot) in
        let no : None ≡ Some t = sym none ∙ sym same ∙ e in let bot : ⊥ = cc in bot)
    | inr some ↦ (some.0, some.1, some_same (goes merge some.0) t (sym (mid_edge n some.0 some.1) ∙ e))
  ]

  mid_fresh : (n t : ℕ) → target mid.graph n a ≡ Some t → IsAmong (NewEdge n a) new.pending ⊎ (target old.graph n a ≡ Some t)
  mid_fresh n t e = elim (is_some (target old.graph n a) merge.lost) [
    | inl goes_there ↦ inl (m.pending (NewEdge n a) (led n goes_there).1)
    | inr not ↦ inr (sym (r.0.other n a (λ both. not both.1)) ∙ e)
  ]

  kept_rel : goes merge merge.kept ≡ merge.kept
  kept_rel = goes_other merge merge.kept (λ e. absurd (omega (arith, e, less)))

  -- a node that is neither
  aside : (n : ℕ) → n ≢ merge.lost → n ≢ merge.kept → target new.graph n a ≡ target mid.graph n a
  aside n d e = m.other n a (λ both. elim both.1 [ inl h ↦ d h | inr h ↦ e h ])

  abbrev To : ℕ → ℕ → Type 0
  To n p = (t : ℕ) × (target new.graph (goes merge n) a ≡ Some t) × ((t ≡ goes merge p) ⊎ IsAmong (goes merge p, t) new.queue)

  to_lost : (n p : ℕ) → target old.graph n a ≡ Some p → n ≡ merge.lost → To n p
  to_lost n p e d =
      let there : target mid.graph merge.lost a ≡ Some (goes merge p) = subst (λ z. target mid.graph z a ≡ Some (goes merge p)) d (mid_edge n p e) in
      elim (is_there (target mid.graph merge.kept a)) [
        | inl none ↦ (goes merge p, ap (λ z. target new.graph z a) (goes_lost merge n d) ∙ (m.moved (goes merge p) there none).0, inl refl)
        | inr some ↦
            let met = m.met (goes merge p) some.0 there some.1 in
            (some.0, ap (λ z. target new.graph z a) (goes_lost merge n d) ∙ met.0, inr (subst (λ z. IsAmong (goes merge p, some.0) z) (sym met.1) (among_last (goes merge p, some.0) mid.queue)))
      ]

  kept_still : (t : ℕ) → target mid.graph merge.kept a ≡ Some t → target new.graph merge.kept a ≡ Some t
  kept_still t e = elim (is_there (target mid.graph merge.lost a)) [
    | inl none ↦ (m.none none).0 ∙ e
    | inr some ↦ (m.met some.0 t some.1 e).0
  ]

  to_other : (n p : ℕ) → target old.graph n a ≡ Some p → n ≢ merge.lost → To n p
  to_other n p e d = (goes merge p, ap (λ z. target new.graph z a) (goes_other merge n d) ∙ go (cases_eq n merge.kept), inl refl)
    where
      go : (n ≡ merge.kept) ⊎ (n ≢ merge.kept) → target new.graph n a ≡ Some (goes merge p)
      go (inl same) = subst (λ z. target new.graph z a ≡ Some (goes merge p)) (sym same) (kept_still (goes merge p) (subst (λ z. target mid.graph z a ≡ Some (goes merge p)) same (mid_edge n p e)))
      go (inr other) = aside n d other ∙ mid_edge n p e

  abbrev From : ℕ → ℕ → Type 0
  From c t = (n p : ℕ) × (goes merge n ≡ c) × (target old.graph n a ≡ Some p) × (goes merge p ≡ t)

  -- an edge of the one that is kept: its own, or the one that was moved
  kept_cases : (t : ℕ) → target new.graph merge.kept a ≡ Some t → (target mid.graph merge.kept a ≡ Some t) ⊎ ((target mid.graph merge.lost a ≡ Some t) × IsAmong (NewEdge merge.kept a) new.pending)
  kept_cases t e = elim (is_there (target mid.graph merge.kept a)) [
    | inr some ↦ inl (some.1 ∙ ap (λ z. Some z) (some_same some.0 t (sym (kept_still some.0 some.1) ∙ e)))
    | inl none ↦ elim (is_there (target mid.graph merge.lost a)) [
      | inl bare ↦ absurd (let no : None ≡ Some t = sym none ∙ sym (m.none bare).0 ∙ e in let bot : ⊥ = cc in bot)
      | inr some ↦
          let moved = m.moved some.0 some.1 none in
          inr (some.1 ∙ ap (λ z. Some z) (some_same some.0 t (sym moved.0 ∙ e)), moved.2)
    ]
  ]

  not_lost : (c t : ℕ) → target new.graph c a ≡ Some t → c ≢ merge.lost
  not_lost c t e d = let no : None ≡ Some t = sym m.gone ∙ subst (λ z. target new.graph z a ≡ Some t) d e in let bot : ⊥ = cc in bot

  from : (c t : ℕ) → target new.graph c a ≡ Some t → From c t
  from c t e = elim (cases_eq c merge.kept) [
    | inl same ↦ elim (kept_cases t (subst (λ z. target new.graph z a ≡ Some t) same e)) [
      | inl own ↦ let b = mid_back merge.kept t own in (merge.kept, b.0, kept_rel ∙ sym same, b.1, b.2)
      | inr moved ↦ let b = mid_back merge.lost t moved.0 in (merge.lost, b.0, goes_lost merge merge.lost refl ∙ sym same, b.1, b.2)
    ]
    | inr other ↦ let d = not_lost c t e in let b = mid_back c t (sym (aside c d other) ∙ e) in (c, b.0, goes_other merge c d, b.1, b.2)
  ]

  fresh : (n t : ℕ) → target new.graph n a ≡ Some t → IsAmong (NewEdge n a) new.pending ⊎ (target old.graph n a ≡ Some t)
  fresh n t e = elim (cases_eq n merge.kept) [
    | inl same ↦ elim (kept_cases t (subst (λ z. target new.graph z a ≡ Some t) same e)) [
      | inl own ↦ mid_fresh n t (subst (λ z. target mid.graph z a ≡ Some t) (sym same) own)
      | inr moved ↦ inl (subst (λ z. IsAmong (NewEdge z a) new.pending) (sym same) moved.1)
    ]
    | inr other ↦ mid_fresh n t (sym (aside n (not_lost n t e) other) ∙ e)
  ]

  pub absorbed_at : IsAbsorbedAt old new merge a
  absorbed_at = record {
    edge = λ n p e. elim (cases_eq n merge.lost) [ inl d ↦ to_lost n p e d | inr d ↦ to_other n p e d ];
    back = from;
    fresh = fresh;
  }

  -- the queue is as it was, or the ends of two edges have been put there
  abbrev Queued : Type 0
  Queued = (new.queue ≡ old.queue) ⊎ ((to end : ℕ) × (target mid.graph merge.lost a ≡ Some to) × (target mid.graph merge.kept a ≡ Some end) × (new.queue ≡ old.queue ++ (to, end) ∷ []))

  queued : Queued
  queued = elim (is_there (target mid.graph merge.lost a)) [
    | inl none ↦ inl ((m.none none).1 ∙ r.0.queue)
    | inr to ↦ elim (is_there (target mid.graph merge.kept a)) [
      | inl none ↦ inl ((m.moved to.0 to.1 none).1 ∙ r.0.queue)
      | inr end ↦ inr (to.0, end.0, to.1, end.1, (m.met to.0 end.0 to.1 end.1).1 ∙ ap (λ z. z ++ (to.0, end.0) ∷ []) r.0.queue)
    ]
  ]

  pub absorbed_meets : (s t : ℕ) → IsAmong (s, t) new.queue → IsAmong (s, t) old.queue ⊎ IsMet old.graph merge a s t
  absorbed_meets s t h = elim queued [
    | inl same ↦ inl (subst (λ z. IsAmong (s, t) z) same h)
    | inr q ↦ elim (among_push (s, t) (q.0, q.1) old.queue (subst (λ z. IsAmong (s, t) z) q.4 h)) [
      | inl k ↦ inl k
      | inr e ↦
          let b = mid_back merge.lost q.0 q.2 in
          let b' = mid_back merge.kept q.1 q.3 in
          inr (record {
            n = merge.lost;
            n' = merge.kept;
            m = b.0;
            m' = b'.0;
            together = goes_lost merge merge.lost refl ∙ sym kept_rel;
            first = b.1;
            second = b'.1;
            s_is = ap (λ (z : ℕ × ℕ). z.0) e ∙ sym b.2;
            t_is = ap (λ (z : ℕ × ℕ). z.1) e ∙ sym b'.2;
          })
    ]
  ]

  pub absorbed_still : Extends old.queue new.queue
  absorbed_still x h = elim queued [
    | inl same ↦ subst (λ z. IsAmong x z) (sym same) h
    | inr q ↦ subst (λ z. IsAmong x z) (sym q.4) (among_before x (q.0, q.1) old.queue h)
  ]

  pub absorbed_aside : (n b : ℕ) → b ≢ a → target new.graph n b ≡ target old.graph n b
  absorbed_aside n b d = m.other n b (λ both. d both.0) ∙ r.0.other n b (λ both. d both.0)

-- the letters before i are done
pub record IsAbsorbedTo (old new : Absorbing) (merge : Merge) (i : ℕ) : Type 0 where
  pub shape : IsSameShape old.graph new.graph
  pub pending : Extends old.pending new.pending
  pub still : Extends old.queue new.queue
  pub done : (a : ℕ) → a < i → IsAbsorbedAt old new merge a
  pub later : (n b : ℕ) → i ≤ b → target new.graph n b ≡ target old.graph n b
  pub meets : (s t : ℕ) → IsAmong (s, t) new.queue → IsAmong (s, t) old.queue ⊎ ((a : ℕ) × IsMet old.graph merge a s t)

pub absorb_start : (old : Absorbing) (merge : Merge) → IsAbsorbedTo old old merge 0
absorb_start old merge = record {
  shape = same_shape old.graph;
  pending = λ x h. h;
  still = λ x h. h;
  done = λ a h. absurd (omega (arith, h));
  later = λ n b h. refl;
  meets = λ s t h. inl h;
}

pub absorb_step : (old cur mid new : Absorbing) (merge : Merge) (a : ℕ) → merge.kept < merge.lost → IsAbsorbedTo old cur merge a → IsRedirected cur mid merge a → IsMoved mid new merge a → IsAbsorbedTo old new merge (a + 1)
absorb_step old cur mid new merge a less to r m = record {
  shape = shape_trans old.graph cur.graph new.graph to.shape (shape_trans cur.graph mid.graph new.graph r.0.shape m.shape);
  pending = λ x h. more x (to.pending x h);
  still = λ x h. grown x (to.still x h);
  done = λ b h. go b (cases_eq b a) h;
  later = λ n b h. aside n b (λ e. absurd (omega (arith, e, h))) ∙ to.later n b (omega (arith, h));
  meets = λ s t h. elim (absorbed_meets cur mid new merge a less r m s t h) [
    | inl k ↦ to.meets s t k
    | inr k ↦ inr (a, record { n = k.n; n' = k.n'; m = k.m; m' = k.m'; together = k.together; first = sym (to.later k.n a (omega arith)) ∙ k.first; second = sym (to.later k.n' a (omega arith)) ∙ k.second; s_is = k.s_is; t_is = k.t_is })
  ];
}
  where
    at : IsAbsorbedAt cur new merge a
    at = absorbed_at cur mid new merge a less r m

    more : Extends cur.pending new.pending
    more x h = m.pending x (r.0.pending x h)

    grown : Extends cur.queue new.queue
    grown = absorbed_still cur mid new merge a less r m

    aside : (n b : ℕ) → b ≢ a → target new.graph n b ≡ target cur.graph n b
    aside = absorbed_aside cur mid new merge a less r m

    go : (b : ℕ) → (b ≡ a) ⊎ (b ≢ a) → b < a + 1 → IsAbsorbedAt old new merge b
    go b (inl e) h = subst (λ z. IsAbsorbedAt old new merge z) (sym e) (record {
      edge = λ n p f. at.edge n p (to.later n a (omega arith) ∙ f);
      back = λ c t f. let q = at.back c t f in (q.0, q.1, q.2, sym (to.later q.0 a (omega arith)) ∙ q.3, q.4);
      fresh = λ n t f. elim (at.fresh n t f) [ inl k ↦ inl k | inr k ↦ inr (sym (to.later n a (omega arith)) ∙ k) ];
    })
    go b (inr d) h =
        let was = to.done b (omega (arith, d, h)) in
        record {
          edge = λ n p f. let q = was.edge n p f in (q.0, aside (goes merge n) b d ∙ q.1, elim q.2 [ inl k ↦ inl k | inr k ↦ inr (grown (goes merge p, q.0) k) ]);
          back = λ c t f. was.back c t (sym (aside c b d) ∙ f);
          fresh = λ n t f. elim (was.fresh n t (sym (aside n b d) ∙ f)) [ inl k ↦ inl (more (NewEdge n b) k) | inr k ↦ inr k ];
        }

pub absorb_end : (k : ℕ) (old new : Absorbing) (merge : Merge) → IsGraph k old.graph → IsAbsorbedTo old new merge k → IsAbsorbed old new merge
absorb_end k old new merge is to = record {
  shape = to.shape;
  pending = to.pending;
  still = to.still;
  at = λ a. record {
    edge = λ n p e. (to.done a (target_in k old.graph is n a p e).1).edge n p e;
    back = λ c t e. (to.done a (target_in k new.graph (to.shape.graph k is) c a t e).1).back c t e;
    fresh = λ n t e. (to.done a (target_in k new.graph (to.shape.graph k is) n a t e).1).fresh n t e;
  };
  meets = to.meets;
}

-- what else there is stays
pub rest_kept : (old cur new : Cosets) → KeepsRest old cur → KeepsRest cur new → KeepsRest old new
rest_kept old cur new r s = s ∙ ap (λ (z : Cosets). record z { edges = new.edges; pending = new.pending; queue = new.queue }) r
