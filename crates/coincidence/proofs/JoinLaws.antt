-- Nodes that become one.
use Rattle.std.proofs.Common.{◌≡◌, ◌≢◌, ℕ, ◌+◌, ◌<◌, ◌≤◌, List, [], ◌∷◌, ◌++◌, refl, sym, ◌∙◌, ap, arith, ◌⊎◌, inl, inr, Option, Some, None, length, subst, subst₂, get_or, set, map, max, min, slice_index, Bool, true, false, ◌&&◌, nat_eq, option_map, length-set}
use Rattle.std.specs.List.{range_with_len}
use Rattle.std.proofs.lemmas.Bool.{cases_eq, cases_lt}
use Rattle.std.proofs.lemmas.List.{get_or-set_same, get_or-set_other, get_or_past}
use Rattle.std.proofs.lemmas.List.FromFn.{get_or-range_with_len, length-range_with_len}
use Rattle.theory.specs.Word.{Word}
use Rattle.theory.specs.Congruence.{Congruence}
use Rattle.theory.specs.Graph.{Graph, target, path}
use Rattle.theory.proofs.PartLaws.{given, symmetric, transitive}
use Rattle.word_graph.proofs.EdgeLaws.{target_in}
use Rattle.coincidence.specs.Merged.{MergedNodes}
use Rattle.coincidence.specs.Merging.{IsReached, EdgesReached, IsClash, IsClassing}
use Rattle.coincidence.specs.Live.{IsOn, count_on}
use Rattle.coincidence.specs.Marks.{AreCarried}
use Rattle.coincidence.specs.Pending.{IsAmong}
use Rattle.coincidence.specs.Absorbing.{Extends, IsSameShape, IsMerge, IsMet, IsAbsorbed, KeepsRest, absorbing_of, goes}
use Rattle.coincidence.specs.Joining.{AreAllOne, HaveClasses, HaveEntries, AreOn, AreOne, AreTaken, IsTaken, IsTaking, IsLost, IsMarkMoved, IsJoined, Joins, KeepsNodes}
use Rattle.coincidence.specs.Replaced.{AreReplaced, IsKnown, StaysInClass}
use Rattle.coincidence.specs.Cosets.{IsWhole}
use Rattle.coincidence.specs.Kept.{IsMended}
use Rattle.coincidence.specs.declared.cosets.Cosets.{Cosets}
use Rattle.coincidence.specs.declared.pending.Pending.TheVariants.{NewEdge}
use Rattle.coincidence.proofs.FollowsLaws.{path_more}
use Rattle.coincidence.proofs.ClassLaws.{relabel_zero, relabel_classing, index_map, apart_classing}
use Rattle.word_graph.proofs.StandardLaws.{path_in}
use Rattle.coincidence.proofs.MergeLaws.{clash_related}
use Rattle.coincidence.proofs.MarkLaws.{on_within}
use Rattle.coincidence.proofs.LiveLaws.{count_fewer}
use Rattle.coincidence.proofs.PendingLaws.{among_push, among_before, among_last}
use Rattle.coincidence.proofs.AbsorbLaws.{goes_lost, goes_other, same_shape, shape_trans}
use Rattle.coincidence.specs.declared.absorb.Merge.{Merge}

-- pairs of one class are taken
abbrev pub AreTaking : Cosets → Cosets → Type 0
AreTaking old now = (was : List Bool) (class : List ℕ) → AreReplaced was old.live.items class old.replaced_by.items → AreOn was old.queue.items → IsTaking was class old now (λ s t. s ≡ t)

pub taking_start : (t : Cosets) → AreTaking t t
taking_start t = λ was class replaced on. record { replaced = replaced; left = λ x h. h; other = λ p q h. inl h }

-- the last pair is taken, and what is kept in place of its nodes is looked up
module _ (old now : Cosets) (rest : List (ℕ × ℕ)) (p q : ℕ) (pop : now.queue.items ≡ rest ++ (p, q) ∷ []) (k : AreTaking old now) where
  there : (was : List Bool) (class : List ℕ) → IsTaking was class old now (λ s t. s ≡ t) → IsAmong (p, q) old.queue.items
  there was class so_far = so_far.left (p, q) (subst (λ z. IsAmong (p, q) z) (sym pop) (among_last (p, q) rest))

  pub first_replaced : HaveClasses old → IsKnown now.live.items now.replaced_by.items p
  first_replaced h = let so_far = k h.0 h.1 h.2 h.3 in (h.0, h.1, so_far.replaced, (h.3 p q (there h.0 h.1 so_far)).0)

  module _ (next : List ℕ) (s : ℕ) (first : StaysInClass now.live.items now.replaced_by.items next p s) where
    pub second_replaced : HaveClasses old → IsKnown now.live.items next q
    second_replaced h = let so_far = k h.0 h.1 h.2 h.3 in let on = h.3 p q (there h.0 h.1 so_far) in (h.0, h.1, (first h.0 h.1 so_far.replaced on.0).0, on.1)

    module _ (new : Cosets) (t : ℕ) (live : new.live ≡ now.live) (queue : new.queue.items ≡ rest) (s_on : IsOn now.live.items s) (t_on : IsOn now.live.items t) (second : StaysInClass now.live.items next new.replaced_by.items q t) where
      record IsLooked (was : List Bool) (class : List ℕ) : Type 0 where
        so_far : IsTaking was class old now (λ s t. s ≡ t)
        replaced : AreReplaced was new.live.items class new.replaced_by.items
        s_is : s ≡ slice_index class p
        t_is : t ≡ slice_index class q

      looked : (was : List Bool) (class : List ℕ) → AreReplaced was old.live.items class old.replaced_by.items → AreOn was old.queue.items → IsLooked was class
      looked was class replaced on =
          let so_far = k was class replaced on in
          let both = on p q (there was class so_far) in
          let one = first was class so_far.replaced both.0 in
          let two = second was class one.0 both.1 in
          record {
            so_far = so_far;
            replaced = subst (λ z. AreReplaced was z.items class new.replaced_by.items) (sym live) two.0;
            s_is = sym (two.0.own s s_on) ∙ one.2;
            t_is = sym (two.0.own t t_on) ∙ two.2;
          }

      taking_on : (was : List Bool) (class : List ℕ) (Such : ℕ → ℕ → Type 0) → ((n m : ℕ) → n ≡ m → Such n m) → IsLooked was class → Such (slice_index class p) (slice_index class q) → IsTaking was class old new Such
      taking_on was class Such own l joined = record {
        replaced = l.replaced;
        left = λ x h. l.so_far.left x (subst (λ z. IsAmong x z) (sym pop) (among_before x (p, q) rest (subst (λ z. IsAmong x z) queue h)));
        other = λ n m h. elim (l.so_far.other n m h) [
          | inr one ↦ inr (own (slice_index class n) (slice_index class m) one)
          | inl here ↦ elim (among_push (n, m) (p, q) rest (subst (λ z. IsAmong (n, m) z) pop here)) [
            | inl left ↦ inl (subst (λ z. IsAmong (n, m) z) (sym queue) left)
            | inr pair ↦ inr (subst (λ (z : ℕ × ℕ). Such (slice_index class z.0) (slice_index class z.1)) (sym pair) joined)
          ]
        ];
      }

      pub taking_step : s ≡ t → AreTaking old new
      taking_step same = λ was class replaced on.
          let l = looked was class replaced on in
          taking_on was class (λ n m. n ≡ m) (λ n m e. e) l (sym l.s_is ∙ same ∙ l.t_is)

      pub taking_found : (merge : Merge) → Joins merge s t → AreTaken old new merge
      taking_found merge joins = λ was class replaced on.
          let l = looked was class replaced on in
          let joined : Joins merge (slice_index class p) (slice_index class q) = subst₂ (Joins merge) l.s_is l.t_is joins in
          record {
            taking = taking_on was class (λ n m. (n ≡ m) ⊎ Joins merge n m) (λ n m e. inl e) l (inr joined);
            there = (p, q, there was class l.so_far, joined);
          }

pub taking_end : (old now : Cosets) → now.queue.items ≡ [] → AreTaking old now → AreAllOne old
taking_end old now e k = λ was class replaced on p q h. elim ((k was class replaced on).other p q h) [ inl there ↦ absurd (subst (λ z. IsAmong (p, q) z) e there) | inr one ↦ one ]

-- classes that the pairs of the queue make one
pub data Joined (class : List ℕ) (queue : List (ℕ × ℕ)) : ℕ → ℕ → Type 0 where
  same : (s t : ℕ) → s ≡ t → Joined class queue s t
  pair : (s t p q : ℕ) → IsAmong (p, q) queue → s ≡ slice_index class p → t ≡ slice_index class q → Joined class queue s t
  flip : (s t : ℕ) → Joined class queue s t → Joined class queue t s
  chain : (s t u : ℕ) → Joined class queue s t → Joined class queue t u → Joined class queue s u

pub joined_map : (class class' : List ℕ) (queue queued : List (ℕ × ℕ)) (f : ℕ → ℕ) → ((p q : ℕ) → IsAmong (p, q) queue → Joined class' queued (f (slice_index class p)) (f (slice_index class q))) → (s t : ℕ) → Joined class queue s t → Joined class' queued (f s) (f t)
joined_map class class' queue queued f h s t (same _ _ e) = same (f s) (f t) (ap f e)
joined_map class class' queue queued f h s t (pair _ _ p q k e d) = subst (λ z. Joined class' queued z (f t)) (ap f (sym e)) (subst (λ z. Joined class' queued (f (slice_index class p)) z) (ap f (sym d)) (h p q k))
joined_map class class' queue queued f h s t (flip _ _ j) = flip (f t) (f s) (joined_map class class' queue queued f h t s j)
joined_map class class' queue queued f h s t (chain _ u _ j k) = chain (f s) (f u) (f t) (joined_map class class' queue queued f h s u j) (joined_map class class' queue queued f h u t k)

pub joined_one : (class : List ℕ) (queue : List (ℕ × ℕ)) → AreOne class queue → (s t : ℕ) → Joined class queue s t → s ≡ t
joined_one class queue one s t (same _ _ e) = e
joined_one class queue one s t (pair _ _ p q k e d) = e ∙ one p q k ∙ sym d
joined_one class queue one s t (flip _ _ j) = sym (joined_one class queue one t s j)
joined_one class queue one s t (chain _ u _ j k) = joined_one class queue one s u j ∙ joined_one class queue one u t k

-- s and t are to be one: they are the classes of x and y, or edges of one letter from one class lead there
abbrev pub IsMeeting : Graph → ℕ → ℕ → List ℕ → ℕ → ℕ → Type 0
IsMeeting g x y class s t = ((s ≡ slice_index class x) × (t ≡ slice_index class y)) ⊎ IsClash g class s t

-- what a meeting gives
pub record IsMeant (g : Graph) (x y : ℕ) (class : List ℕ) (s t : ℕ) : Type 0 where
  pub s_own : slice_index class s ≡ s
  pub t_own : slice_index class t ≡ t
  pub s_reached : IsReached g s
  pub t_reached : IsReached g t
  pub related : (u v : Word) (n m : ℕ) → path g 0 u ≡ Some n → path g 0 v ≡ Some m → slice_index class n ≡ s → slice_index class m ≡ t → MergedNodes g x y u v

pub meeting_means : (g : Graph) (x y : ℕ) (class : List ℕ) (s t : ℕ) → EdgesReached g → IsReached g x → IsReached g y → IsClassing g x y class → IsMeeting g x y class s t → IsMeant g x y class s t
meeting_means g x y class s t edges rx ry c (inl both) = record {
  s_own = ap (slice_index class) both.0 ∙ c.idem x ∙ sym both.0;
  t_own = ap (slice_index class) both.1 ∙ c.idem y ∙ sym both.1;
  s_reached = let r = c.reach x rx in (r.0, r.1 ∙ ap (λ z. Some z) (sym both.0));
  t_reached = let r = c.reach y ry in (r.0, r.1 ∙ ap (λ z. Some z) (sym both.1));
  related = λ u v n m hu hv en em.
      transitive (c.sound u rx.0 n x hu rx.1 (en ∙ both.0)) (transitive (given (inr (rx.1, ry.1))) (c.sound ry.0 v y m ry.1 hv (sym (em ∙ both.1))));
}
meeting_means g x y class s t edges rx ry c (inr k) =
    let w = edges k.n k.a k.m k.first in
    let w' = edges k.n' k.a k.m' k.second in
    let rs = c.reach k.m (w.0 ++ k.a ∷ [], path_more g 0 k.n w.0 k.a w.1 ∙ k.first) in
    let rt = c.reach k.m' (w'.0 ++ k.a ∷ [], path_more g 0 k.n' w'.0 k.a w'.1 ∙ k.second) in
    record {
      s_own = ap (slice_index class) k.s_is ∙ c.idem k.m ∙ sym k.s_is;
      t_own = ap (slice_index class) k.t_is ∙ c.idem k.m' ∙ sym k.t_is;
      s_reached = (rs.0, rs.1 ∙ ap (λ z. Some z) (sym k.s_is));
      t_reached = (rt.0, rt.1 ∙ ap (λ z. Some z) (sym k.t_is));
      related = clash_related g class x y s t edges c.sound k;
    }

meant_back : (g : Graph) (x y : ℕ) (class : List ℕ) (s t : ℕ) → IsMeant g x y class s t → IsMeant g x y class t s
meant_back g x y class s t m = record {
  s_own = m.t_own;
  t_own = m.s_own;
  s_reached = m.t_reached;
  t_reached = m.s_reached;
  related = λ u v n k hu hv en ek. symmetric (m.related v u k n hv hu ek en);
}

-- a merging under way: the graph of the classes, but for the pairs of the queue
pub record IsJoining (old now : Cosets) (x y : ℕ) (at to : Option ℕ) : Type 0 where
  pub class : List ℕ
  pub classing : IsClassing old.edges.graph x y class
  pub alike : IsSameShape old.edges.graph now.edges.graph
  pub edge : (n a m : ℕ) → target old.edges.graph n a ≡ Some m → (t : ℕ) × (target now.edges.graph (slice_index class n) a ≡ Some t) × Joined class now.queue.items (slice_index class m) t
  pub back : (c a t : ℕ) → target now.edges.graph c a ≡ Some t → (n m : ℕ) × (slice_index class n ≡ c) × (target old.edges.graph n a ≡ Some m) × (slice_index class m ≡ t)
  pub on : AreOn old.live.items now.queue.items
  pub meets : (p q : ℕ) → IsAmong (p, q) now.queue.items → IsMeeting old.edges.graph x y class (slice_index class p) (slice_index class q)
  pub one : Joined class now.queue.items (slice_index class x) (slice_index class y)
  pub replaced : AreReplaced old.live.items now.live.items class now.replaced_by.items
  pub live : (n : ℕ) → get_or now.live.items n false ≡ (get_or old.live.items n false && nat_eq (slice_index class n) n)
  pub carried : AreCarried class old.marked.items now.marked.items
  pub gone : to ≡ option_map (slice_index class) at
  pub fresh : (n a t : ℕ) → target now.edges.graph n a ≡ Some t → IsAmong (NewEdge n a) now.pending ⊎ (target old.edges.graph n a ≡ Some t)
  pub pending : Extends old.pending now.pending
  pub order : IsMended old now
  pub seen : now.seen ≡ old.seen

eq_refl : (n : ℕ) → nat_eq n n ≡ true
eq_refl n = grind arith

eq_off : (n m : ℕ) → n ≢ m → nat_eq n m ≡ false
eq_off n m h = grind (arith, h)

and_true : (b : Bool) → (b && true) ≡ b
and_true true = refl
and_true false = refl

and_false : (b : Bool) → (b && false) ≡ false
and_false true = refl
and_false false = refl

pub at_same : (f : ℕ → ℕ) (at : Option ℕ) → ((n : ℕ) → at ≡ Some n → f n ≡ n) → at ≡ option_map f at
at_same f None h = refl
at_same f (Some n) h = ap (λ z. Some z) (sym (h n refl))

-- before the first pair of the queue is taken
module _ (c : Congruence) (old now : Cosets) (x y : ℕ) (at : Option ℕ) (w : IsWhole c old) (is : KeepsNodes old now) (queue : now.queue.items ≡ (x, y) ∷ []) (hx : IsOn old.live.items x) (hy : IsOn old.live.items y)
    (here : (n : ℕ) → at ≡ Some n → IsOn old.live.items n) (room : length old.live.items ≤ length now.replaced_by.items) where
  own_at_first : (n : ℕ) → n < length old.edges.graph → slice_index (range_with_len 0 (length old.edges.graph)) n ≡ n
  own_at_first n h = get_or-range_with_len 0 (length old.edges.graph) n 0 h ∙ (let e : 0 + n ≡ n = omega arith in e)

  inside : (n : ℕ) → IsOn old.live.items n → n < length old.edges.graph
  inside n on = omega (arith, on_within old.live.items n on, w.lives.shape)

  marked_inside : (n : ℕ) → IsOn old.marked.items n → n < length old.edges.graph
  marked_inside n on = omega (arith, on_within old.marked.items n on, w.shape)

  pub joining_start : IsJoining old now x y at at
  joining_start = subst (λ z. IsJoining old z x y at at) (sym is) (record {
    class = class;
    classing = apart_classing c.presentation.letters old.edges.graph x y class w.graph (length-range_with_len 0 (length old.edges.graph)) own_at_first;
    alike = same_shape old.edges.graph;
    edge = λ n a m e. let b = target_in c.presentation.letters old.edges.graph w.graph n a m e in (m, ap (λ z. target old.edges.graph z a) (own_at_first n b.0) ∙ e, same (slice_index class m) m (own_at_first m b.2));
    back = λ k a t e. let b = target_in c.presentation.letters old.edges.graph w.graph k a t e in (k, t, own_at_first k b.0, e, own_at_first t b.2);
    on = λ p q h. elim (first_pair p q h) [
      | inl e ↦ (subst (IsOn old.live.items) (sym (ap (λ (z : ℕ × ℕ). z.0) e)) hx, subst (IsOn old.live.items) (sym (ap (λ (z : ℕ × ℕ). z.1) e)) hy)
      | inr none ↦ absurd none
    ];
    meets = λ p q h. elim (first_pair p q h) [
      | inl e ↦ inl (ap (λ (z : ℕ × ℕ). slice_index class z.0) e, ap (λ (z : ℕ × ℕ). slice_index class z.1) e)
      | inr none ↦ absurd none
    ];
    one = pair (slice_index class x) (slice_index class y) x y (subst (λ z. IsAmong {X = ℕ × ℕ} (x, y) z) (sym queue) (inl refl)) refl refl;
    replaced = record { shape = refl; room = room; own = λ n on. own_at_first n (inside n on); replaced = λ n on. inl on };
    live = λ n. elim (cases_lt n (length old.edges.graph)) [
      | inl h ↦ sym (ap (λ z. get_or old.live.items n false && z) (ap (λ z. nat_eq z n) (own_at_first n h) ∙ eq_refl n) ∙ and_true (get_or old.live.items n false))
      | inr h ↦ let off : get_or old.live.items n false ≡ false = get_or_past old.live.items n false (omega (arith, h, w.lives.shape)) in off ∙ sym (ap (λ z. z && nat_eq (slice_index class n) n) off)
    ];
    carried = record {
      shape = refl;
      kept = λ n on. subst (IsOn old.marked.items) (sym (own_at_first n (marked_inside n on))) on;
      from = λ m on. (m, on, own_at_first m (marked_inside m on));
    };
    gone = at_same (slice_index class) at (λ n e. own_at_first n (inside n (here n e)));
    fresh = λ n a t e. inr e;
    pending = λ p h. h;
    order = record { kept = λ k g marked h. h; lives = λ h. h };
    seen = refl;
  })
    where
      class : List ℕ
      class = range_with_len 0 (length old.edges.graph)

      first_pair : (p q : ℕ) → IsAmong (p, q) now.queue.items → IsAmong {X = ℕ × ℕ} (p, q) ((x, y) ∷ [])
      first_pair p q h = subst (λ z. IsAmong {X = ℕ × ℕ} (p, q) z) queue h

pub option_gone : (class class' : List ℕ) (f : ℕ → ℕ) → ((n : ℕ) → slice_index class' n ≡ f (slice_index class n)) → (at to to' : Option ℕ) → to ≡ option_map (slice_index class) at → to' ≡ option_map f to → to' ≡ option_map (slice_index class') at
option_gone class class' f h None to to' e d = d ∙ ap (option_map f) e
option_gone class class' f h (Some n) to to' e d = d ∙ ap (option_map f) e ∙ ap (λ z. Some z) (sym (h n))

-- one pair of the queue is drawn
module _ (c : Congruence) (old cur taken : Cosets) (x y : ℕ) (at to : Option ℕ) (merge : Merge) (w : IsWhole c old) (hx : IsOn old.live.items x) (hy : IsOn old.live.items y)
    (j : IsJoining old cur x y at to) (less : merge.kept < merge.lost) (takes : AreTaken cur taken merge) (same_nodes : KeepsNodes cur taken) where
  abbrev after : List ℕ
  after = map (goes merge) j.class

  index : (n : ℕ) → slice_index after n ≡ goes merge (slice_index j.class n)
  index n = index_map (goes merge) j.class n (relabel_zero merge.lost merge.kept (omega (arith, less)))

  took : IsTaken old.live.items j.class cur taken merge
  took = takes old.live.items j.class j.replaced j.on

  replaced_now : AreReplaced old.live.items cur.live.items j.class taken.replaced_by.items
  replaced_now = subst (λ (z : Cosets). AreReplaced old.live.items z.live.items j.class z.replaced_by.items) same_nodes took.taking.replaced

  both : IsMeant old.edges.graph x y j.class merge.lost merge.kept
  both = go (slice_index j.class took.there.0) (slice_index j.class took.there.1) took.there.3
      (meeting_means old.edges.graph x y j.class _ _ w.lives.edges (w.lives.reached x hx) (w.lives.reached y hy) j.classing (j.meets took.there.0 took.there.1 took.there.2))
    where
      go : (s t : ℕ) → Joins merge s t → IsMeant old.edges.graph x y j.class s t → IsMeant old.edges.graph x y j.class merge.lost merge.kept
      go s t (inl e) m = subst₂ (IsMeant old.edges.graph x y j.class) e.0 e.1 m
      go s t (inr e) m = subst₂ (IsMeant old.edges.graph x y j.class) e.1 e.0 (meant_back old.edges.graph x y j.class s t m)

  pub merging : IsMerge taken.edges.graph merge
  merging = record {
    less = less;
    inside =
        let alike = subst (λ (z : Cosets). IsSameShape old.edges.graph z.edges.graph) (sym same_nodes) j.alike in
        omega (arith, path_in c.presentation.letters old.edges.graph w.graph 0 merge.lost both.s_reached.0 w.graph.rooted both.s_reached.1, alike.nodes);
  }

  lost_on : IsOn cur.live.items merge.lost
  lost_on = j.live merge.lost ∙ ap (λ z. get_or old.live.items merge.lost false && nat_eq z merge.lost) both.s_own ∙ ap (λ z. get_or old.live.items merge.lost false && z) (eq_refl merge.lost) ∙ and_true (get_or old.live.items merge.lost false) ∙ w.lives.lives merge.lost both.s_reached

  lost_off : IsOn (set cur.live.items merge.lost false) merge.lost → ⊥
  lost_off on = let no : false ≡ true = sym (get_or-set_same cur.live.items merge.lost false false (on_within cur.live.items merge.lost lost_on)) ∙ on in let none : ⊥ = cc in none

  fewer_on : count_on (set cur.live.items merge.lost false) < count_on cur.live.items
  fewer_on = count_fewer (set cur.live.items merge.lost false) cur.live.items merge.lost (length-set cur.live.items merge.lost false) (λ n on. still n on (cases_eq n merge.lost)) lost_on lost_off
    where
      still : (n : ℕ) → IsOn (set cur.live.items merge.lost false) n → (n ≡ merge.lost) ⊎ (n ≢ merge.lost) → IsOn cur.live.items n
      still n on (inl e) = subst (IsOn cur.live.items) (sym e) lost_on
      still n on (inr d) = sym (get_or-set_other cur.live.items merge.lost n false false d) ∙ on

  meeting_on : (p q : ℕ) → IsMeeting old.edges.graph x y j.class p q → IsMeeting old.edges.graph x y after (goes merge p) (goes merge q)
  meeting_on p q (inl e) = inl (ap (goes merge) e.0 ∙ sym (index x), ap (goes merge) e.1 ∙ sym (index y))
  meeting_on p q (inr k) = inr (record {
    n = k.n;
    n' = k.n';
    a = k.a;
    m = k.m;
    m' = k.m';
    together = index k.n ∙ ap (goes merge) k.together ∙ sym (index k.n');
    first = k.first;
    second = k.second;
    s_is = ap (goes merge) k.s_is ∙ sym (index k.m);
    t_is = ap (goes merge) k.t_is ∙ sym (index k.m');
  })

  classing' : IsClassing old.edges.graph x y after
  classing' = relabel_classing old.edges.graph x y j.class merge.lost merge.kept (omega (arith, less)) both.t_own both.t_reached both.related j.classing

  live' : (n : ℕ) → get_or (set cur.live.items merge.lost false) n false ≡ (get_or old.live.items n false && nat_eq (slice_index after n) n)
  live' n = go (cases_eq n merge.lost)
    where
      own_still : n ≢ merge.lost → (slice_index j.class n ≡ merge.lost) ⊎ (slice_index j.class n ≢ merge.lost) → nat_eq (slice_index after n) n ≡ nat_eq (slice_index j.class n) n
      own_still d (inr e) = ap (λ z. nat_eq z n) (index n ∙ goes_other merge (slice_index j.class n) e)
      own_still d (inl e) =
          ap (λ z. nat_eq z n) (index n ∙ goes_lost merge (slice_index j.class n) e)
          ∙ eq_off merge.kept n (λ f. absurd (omega (arith, sym e ∙ ap (slice_index j.class) (sym f) ∙ both.t_own, less)))
          ∙ sym (ap (λ z. nat_eq z n) e ∙ eq_off merge.lost n (λ f. d (sym f)))

      go : (n ≡ merge.lost) ⊎ (n ≢ merge.lost) → get_or (set cur.live.items merge.lost false) n false ≡ (get_or old.live.items n false && nat_eq (slice_index after n) n)
      go (inl e) =
          ap (λ z. get_or (set cur.live.items merge.lost false) z false) e ∙ get_or-set_same cur.live.items merge.lost false false (on_within cur.live.items merge.lost lost_on)
          ∙ sym (ap (λ z. get_or old.live.items n false && z) (ap (λ z. nat_eq z n) (index n ∙ goes_lost merge (slice_index j.class n) (ap (slice_index j.class) e ∙ both.s_own)) ∙ eq_off merge.kept n (λ f. absurd (omega (arith, f, e, less)))) ∙ and_false (get_or old.live.items n false))
      go (inr d) = get_or-set_other cur.live.items merge.lost n false false d ∙ j.live n ∙ ap (λ z. get_or old.live.items n false && z) (sym (own_still d (cases_eq (slice_index j.class n) merge.lost)))

  marks' : (is : List Bool) → IsMarkMoved cur.marked.items is merge → AreCarried after old.marked.items is
  marks' is mark = record {
    shape = mark.shape ∙ j.carried.shape;
    kept = λ n on. kept_to n (j.carried.kept n on) (cases_eq (slice_index j.class n) merge.lost);
    from = λ m on. let f = mark.from m on in elim f.1 [
      | inl h ↦ let b = j.carried.from m h in (b.0, b.1, index b.0 ∙ goes_other merge (slice_index j.class b.0) (λ e. f.0 (sym b.2 ∙ e)) ∙ b.2)
      | inr h ↦ let b = j.carried.from merge.lost h.1 in (b.0, b.1, index b.0 ∙ goes_lost merge (slice_index j.class b.0) b.2 ∙ sym h.0)
    ];
  }
    where
      kept_to : (n : ℕ) → IsOn cur.marked.items (slice_index j.class n) → (slice_index j.class n ≡ merge.lost) ⊎ (slice_index j.class n ≢ merge.lost) → IsOn is (slice_index after n)
      kept_to n on (inl e) = subst (IsOn is) (sym (index n ∙ goes_lost merge (slice_index j.class n) e)) (mark.moved (subst (IsOn cur.marked.items) e on))
      kept_to n on (inr d) = subst (IsOn is) (sym (index n ∙ goes_other merge (slice_index j.class n) d)) (mark.stays (slice_index j.class n) on d)

  -- where an edge leads, once a node is lost, there is a class of a node that is reached
  record IsAtClass (m : ℕ) : Type 0 where
    node : ℕ
    from : IsReached old.edges.graph node
    is_class : m ≡ slice_index after node

  at_class : (n a m : ℕ) → target cur.edges.graph n a ≡ Some m → IsAtClass (goes merge m)
  at_class n a m e =
      let o = j.back n a m e in
      let r = w.lives.edges o.0 a o.1 o.3 in
      record { node = o.1; from = (r.0 ++ a ∷ [], path_more old.edges.graph 0 o.0 r.0 a r.1 ∙ o.3); is_class = ap (goes merge) (sym o.4) ∙ sym (index o.1) }

  own_class : (m : ℕ) → IsAtClass m → slice_index after m ≡ m
  own_class m k = ap (slice_index after) k.is_class ∙ classing'.idem k.node ∙ sym k.is_class

  on_class : (m : ℕ) → IsAtClass m → IsOn old.live.items m
  on_class m k = subst (IsOn old.live.items) (sym k.is_class) (w.lives.lives (slice_index after k.node) (classing'.reach k.node k.from))

  -- the lost node leads to the one that is kept
  replaced' : AreReplaced old.live.items (set cur.live.items merge.lost false) after (set taken.replaced_by.items merge.lost merge.kept)
  replaced' = record {
    shape = length-set cur.live.items merge.lost false ∙ j.replaced.shape;
    room = omega (arith, length-set cur.live.items merge.lost false, length-set taken.replaced_by.items merge.lost merge.kept, replaced_now.room);
    own = λ n on. own n on (cases_eq n merge.lost);
    replaced = λ n h. go n h (cases_eq n merge.lost);
  }
    where
      within : merge.lost < length taken.replaced_by.items
      within = omega (arith, on_within cur.live.items merge.lost lost_on, replaced_now.room)

      kept_is : slice_index after merge.kept ≡ merge.kept
      kept_is = index merge.kept ∙ ap (goes merge) both.t_own ∙ goes_other merge merge.kept (λ d. absurd (omega (arith, d, less)))

      own : (n : ℕ) → IsOn (set cur.live.items merge.lost false) n → (n ≡ merge.lost) ⊎ (n ≢ merge.lost) → slice_index after n ≡ n
      own n on (inl e) = absurd (lost_off (subst (IsOn (set cur.live.items merge.lost false)) e on))
      own n on (inr d) = index n ∙ ap (goes merge) (replaced_now.own n (sym (get_or-set_other cur.live.items merge.lost n false false d) ∙ on)) ∙ goes_other merge n d

      Goes : ℕ → Type 0
      Goes n = IsOn (set cur.live.items merge.lost false) n ⊎ ((slice_index (set taken.replaced_by.items merge.lost merge.kept) n < n) × IsOn old.live.items (slice_index (set taken.replaced_by.items merge.lost merge.kept) n) × (slice_index after (slice_index (set taken.replaced_by.items merge.lost merge.kept) n) ≡ slice_index after n))

      go : (n : ℕ) → IsOn old.live.items n → (n ≡ merge.lost) ⊎ (n ≢ merge.lost) → Goes n
      go n h (inl e) =
          let read : slice_index (set taken.replaced_by.items merge.lost merge.kept) n ≡ merge.kept = ap (slice_index (set taken.replaced_by.items merge.lost merge.kept)) e ∙ get_or-set_same taken.replaced_by.items merge.lost merge.kept 0 within in
          let lost_is : slice_index after n ≡ merge.kept = index n ∙ goes_lost merge (slice_index j.class n) (ap (slice_index j.class) e ∙ both.s_own) in
          inr (omega (arith, read, less, e), subst (IsOn old.live.items) (sym read) (w.lives.lives merge.kept both.t_reached), ap (slice_index after) read ∙ kept_is ∙ sym lost_is)
      go n h (inr d) =
          let read : slice_index (set taken.replaced_by.items merge.lost merge.kept) n ≡ slice_index taken.replaced_by.items n = get_or-set_other taken.replaced_by.items merge.lost n merge.kept 0 d in
          elim (replaced_now.replaced n h) [
            | inl on ↦ inl (get_or-set_other cur.live.items merge.lost n false false d ∙ on)
            | inr k ↦ inr (omega (arith, read, k.0), subst (IsOn old.live.items) (sym read) k.1, ap (slice_index after) read ∙ index (slice_index taken.replaced_by.items n) ∙ ap (goes merge) k.2 ∙ sym (index n))
          ]

  -- edges have been moved
  module _ (mid : Cosets) (ab : IsAbsorbed (absorbing_of taken) (absorbing_of mid) merge) (rest : KeepsRest taken mid) where
    mid_is : mid ≡ record cur { edges = mid.edges; pending = mid.pending; queue = mid.queue; replaced_by = taken.replaced_by }
    mid_is = rest ∙ ap (λ (z : Cosets). record z { edges = mid.edges; pending = mid.pending; queue = mid.queue }) same_nodes

    pub with_entries : HaveEntries mid
    with_entries =
        let nodes : length mid.edges.graph ≡ length old.edges.graph = ab.shape.nodes ∙ ap (λ (z : Cosets). length z.edges.graph) same_nodes ∙ j.alike.nodes in
        let live : length cur.live.items ≡ length mid.edges.graph = j.replaced.shape ∙ w.lives.shape ∙ sym nodes in
        subst HaveEntries (sym mid_is) (record {
          live = live;
          marked = j.carried.shape ∙ w.shape ∙ sym nodes;
          room = omega (arith, live, replaced_now.room);
          order = (c.presentation.letters, old.edges.graph, old.marked.items, j.order.kept c.presentation.letters old.edges.graph old.marked.items w.order);
        })

    -- and the node is lost
    module _ (new : Cosets) (to' : Option ℕ) (loses : IsLost mid new merge) (gone : to' ≡ option_map (goes merge) to) where
      lost : IsLost (record cur { edges = mid.edges; pending = mid.pending; queue = mid.queue; replaced_by = taken.replaced_by }) new merge
      lost = subst (λ (z : Cosets). IsLost z new merge) mid_is loses

      absorbs : IsAbsorbed (record { graph = cur.edges.graph; pending = cur.pending; queue = taken.queue.items }) (absorbing_of new) merge
      absorbs = subst (λ z. IsAbsorbed (record { graph = cur.edges.graph; pending = cur.pending; queue = taken.queue.items }) z merge) (sym (ap (λ (z : Cosets). absorbing_of z) lost.rest))
          (subst (λ (z : Cosets). IsAbsorbed (absorbing_of z) (absorbing_of mid) merge) same_nodes ab)

      pub fewer_live : count_on new.live.items < count_on cur.live.items
      fewer_live = subst (λ z. count_on z < count_on cur.live.items) (sym lost.live) fewer_on

      -- classes of pairs of the queue are one, once the node is lost
      carried_pair : (p q : ℕ) → IsAmong (p, q) cur.queue.items → Joined after new.queue.items (goes merge (slice_index j.class p)) (goes merge (slice_index j.class q))
      carried_pair p q h = elim (took.taking.other p q h) [
        | inl k ↦ pair (goes merge (slice_index j.class p)) (goes merge (slice_index j.class q)) p q (absorbs.still (p, q) k) (sym (index p)) (sym (index q))
        | inr k ↦ same (goes merge (slice_index j.class p)) (goes merge (slice_index j.class q)) (elim k [ inl e ↦ ap (goes merge) e | inr e ↦ one (slice_index j.class p) (slice_index j.class q) e ])
      ]
        where
          kept_at : (s : ℕ) → s ≡ merge.kept → goes merge s ≡ merge.kept
          kept_at s e = goes_other merge s (λ d. absurd (omega (arith, d, e, less))) ∙ e

          one : (s t : ℕ) → Joins merge s t → goes merge s ≡ goes merge t
          one s t (inl e) = goes_lost merge s e.0 ∙ sym (kept_at t e.1)
          one s t (inr e) = kept_at s e.0 ∙ sym (goes_lost merge t e.1)

      moves : (p q : ℕ) → Joined j.class cur.queue.items p q → Joined after new.queue.items (goes merge p) (goes merge q)
      moves p q h = joined_map j.class after cur.queue.items new.queue.items (goes merge) carried_pair p q h

      pub joining_step : IsJoining old new x y at to'
      joining_step = record {
        class = after;
        classing = classing';
        alike = shape_trans old.edges.graph cur.edges.graph new.edges.graph j.alike absorbs.shape;
        edge = λ n a m e.
            let o = j.edge n a m e in
            let k = (absorbs.at a).edge (slice_index j.class n) o.0 o.1 in
            let at = at_class (slice_index j.class n) a o.0 o.1 in
            let near : Joined after new.queue.items (goes merge o.0) k.0 = elim k.2 [
              | inl h ↦ same (goes merge o.0) k.0 (sym h)
              | inr h ↦ pair (goes merge o.0) k.0 (goes merge o.0) k.0 h (sym (own_class (goes merge o.0) at)) (sym (own_target (goes merge (slice_index j.class n)) a k.0 k.1))
            ] in
            (k.0, ap (λ z. target new.edges.graph z a) (index n) ∙ k.1, subst (λ z. Joined after new.queue.items z k.0) (sym (index m)) (chain (goes merge (slice_index j.class m)) (goes merge o.0) k.0 (moves (slice_index j.class m) o.0 o.2) near));
        back = λ n a p e.
            let k = (absorbs.at a).back n p e in
            let o = j.back k.0 a k.1 k.3 in
            (o.0, o.1, index o.0 ∙ ap (goes merge) o.2 ∙ k.2, o.3, index o.1 ∙ ap (goes merge) o.4 ∙ k.4);
        on = λ p q h. on p q (absorbs.meets p q h);
        meets = λ p q h. meets p q (absorbs.meets p q h);
        one = subst (λ z. Joined after new.queue.items z (slice_index after y)) (sym (index x)) (subst (λ z. Joined after new.queue.items (goes merge (slice_index j.class x)) z) (sym (index y)) (moves (slice_index j.class x) (slice_index j.class y) j.one));
        replaced = rw (lost.live, lost.replaced) replaced';
        live = λ n. ap (λ z. get_or z n false) lost.live ∙ live' n;
        carried = marks' new.marked.items lost.marks;
        gone = option_gone j.class after (goes merge) index at to to' j.gone gone;
        fresh = λ n a p e. elim ((absorbs.at a).fresh n p e) [ inl h ↦ inl h | inr h ↦ elim (j.fresh n a p h) [ inl k ↦ inl (absorbs.pending (NewEdge n a) k) | inr k ↦ inr k ] ];
        pending = λ p h. absorbs.pending p (j.pending p h);
        order = record { kept = λ k g marked h. lost.order.kept k g marked (j.order.kept k g marked h); lives = λ h. lost.order.lives (j.order.lives h) };
        seen = ap (λ (z : Cosets). z.seen) lost.rest ∙ j.seen;
      }
        where
          own_target : (n a p : ℕ) → target new.edges.graph n a ≡ Some p → slice_index after p ≡ p
          own_target n a p e =
              let k = (absorbs.at a).back n p e in
              subst (λ z. slice_index after z ≡ z) k.4 (own_class (goes merge k.1) (at_class k.0 a k.1 k.3))

          on : (p q : ℕ) → IsAmong (p, q) taken.queue.items ⊎ ((a : ℕ) × IsMet cur.edges.graph merge a p q) → IsOn old.live.items p × IsOn old.live.items q
          on p q (inl h) = j.on p q (took.taking.left (p, q) h)
          on p q (inr k) = (
            subst (IsOn old.live.items) (sym k.1.s_is) (on_class (goes merge k.1.m) (at_class k.1.n k.0 k.1.m k.1.first)),
            subst (IsOn old.live.items) (sym k.1.t_is) (on_class (goes merge k.1.m') (at_class k.1.n' k.0 k.1.m' k.1.second)),
          )

          meets : (p q : ℕ) → IsAmong (p, q) taken.queue.items ⊎ ((a : ℕ) × IsMet cur.edges.graph merge a p q) → IsMeeting old.edges.graph x y after (slice_index after p) (slice_index after q)
          meets p q (inl h) =
              subst (λ z. IsMeeting old.edges.graph x y after z (slice_index after q)) (sym (index p)) (subst (λ z. IsMeeting old.edges.graph x y after (goes merge (slice_index j.class p)) z) (sym (index q))
              (meeting_on (slice_index j.class p) (slice_index j.class q) (j.meets p q (took.taking.left (p, q) h))))
          meets p q (inr k) =
              let f = j.back k.1.n k.0 k.1.m k.1.first in
              let g = j.back k.1.n' k.0 k.1.m' k.1.second in
              inr (record {
                n = f.0;
                n' = g.0;
                a = k.0;
                m = f.1;
                m' = g.1;
                together = index f.0 ∙ ap (goes merge) f.2 ∙ k.1.together ∙ sym (index g.0 ∙ ap (goes merge) g.2);
                first = f.3;
                second = g.3;
                s_is = ap (slice_index after) (k.1.s_is ∙ sym (index f.1 ∙ ap (goes merge) f.4)) ∙ classing'.idem f.1;
                t_is = ap (slice_index after) (k.1.t_is ∙ sym (index g.1 ∙ ap (goes merge) g.4)) ∙ classing'.idem g.1;
              })

-- nothing is left to draw
pub joining_end : (old now new : Cosets) (x y : ℕ) (at to : Option ℕ) → KeepsNodes now new → AreAllOne now → IsJoining old now x y at to → IsJoined old new x y at to
joining_end old now new x y at to is all j = subst (λ z. IsJoined old z x y at to) (sym is) (record {
  class = j.class;
  merging = record {
    classing = j.classing;
    folded = record {
      edge = λ n a m e. let o = j.edge n a m e in o.1 ∙ ap (λ z. Some z) (sym (joined_one j.class now.queue.items (all old.live.items j.class j.replaced j.on) (slice_index j.class m) o.0 o.2));
      back = λ c a t e. j.back c a t e;
    };
    nodes = j.alike.nodes;
    graph = j.alike.graph;
    one = joined_one j.class now.queue.items (all old.live.items j.class j.replaced j.on) (slice_index j.class x) (slice_index j.class y) j.one;
  };
  shape = j.replaced.shape;
  live = j.live;
  carried = j.carried;
  gone = j.gone;
  fresh = j.fresh;
  pending = j.pending;
  order = record { kept = j.order.kept; lives = j.order.lives };
  seen = j.seen;
})

-- the greater of two nodes is lost, and the lesser kept
pub joins_both : (s t : ℕ) (merge : Merge) → merge.lost ≡ max s t → merge.kept ≡ min s t → Joins merge s t
joins_both s t merge l k = elim (cases_lt s t) [
  | inl h ↦ inr (omega (arith, h, l, k), omega (arith, h, l, k))
  | inr h ↦ inl (omega (arith, h, l, k), omega (arith, h, l, k))
]

pub joins_less : (s t : ℕ) (merge : Merge) → s ≢ t → merge.lost ≡ max s t → merge.kept ≡ min s t → merge.kept < merge.lost
joins_less s t merge d l k = elim (cases_lt s t) [ inl h ↦ omega (arith, h, l, k) | inr h ↦ omega (arith, h, l, k, d) ]

pub none_left : {X : Type 0} (xs : List X) → length xs ≡ 0 → xs ≡ []
none_left [] e = refl
none_left (x ∷ xs) e = absurd (omega (arith, e))

-- the nodes stay
pub nodes_kept : (old cur new : Cosets) → KeepsNodes old cur → KeepsNodes cur new → KeepsNodes old new
nodes_kept old cur new r s = s ∙ ap (λ (z : Cosets). record z { queue = new.queue; replaced_by = new.replaced_by }) r
