-- The node before each node in the list of its target.
use Rattle.std.proofs.Common.{◌≡◌, ◌≢◌, ℕ, ◌+◌, ◌<◌, ◌≤◌, All, List, [], ◌∷◌, ◌++◌, refl, sym, ◌∙◌, ap, arith, ◌⊎◌, inl, inr, Option, Some, None, length, subst, replicate}
use Rattle.std.proofs.lemmas.Bool.{cases_eq}
use Rattle.std.proofs.lemmas.List.{length_push}
use Rattle.std.proofs.lemmas.List.Elements.{All-push}
use Rattle.std.proofs.lemmas.List.{length-replicate}
use Rattle.theory.specs.Graph.{Graph, target}
use Rattle.word_graph.specs.Edges.{with_node}
use Rattle.word_graph.proofs.EdgeLaws.{target_in}
use Rattle.word_graph.proofs.WalkLaws.{some_same}
use Rattle.cells.specs.Rows.{IsPut, with_entry}
use Rattle.coincidence.specs.Pending.{IsAmong}
use Rattle.coincidence.specs.Links.{Links, IsChain, IsSources, IsLinked, IsBehind, IsBack, IsBacked, with_entry_at}
use Rattle.coincidence.proofs.LinkLaws.{among_back}
use Rattle.cells.proofs.EntryLaws.{entry_length, entry_put, entry_width, target_bare, target_node}
use Rattle.coincidence.proofs.TableLaws.{root_graph}

-- where a list goes on behind one of its nodes
split_behind : (next : ℕ → Option ℕ) (start : Option ℕ) (list : List ℕ) (p n : ℕ) → IsChain next start list → IsAmong p list → next p ≡ Some n → (front back : List ℕ) × (list ≡ front ++ p ∷ n ∷ back)
split_behind next start [] p n chain h e = absurd h
split_behind next start (q ∷ []) p n chain (inl same) e = absurd (let no : None ≡ Some n = sym chain.1 ∙ ap next (sym same) ∙ e in let none : ⊥ = cc in none)
split_behind next start (q ∷ r ∷ back) p n chain (inl same) e =
    let r_is : r ≡ n = some_same r n (sym chain.1.0 ∙ ap next (sym same) ∙ e) in
    ([], back, ap (λ z. z ∷ r ∷ back) (sym same) ∙ ap (λ z. p ∷ z ∷ back) r_is)
split_behind next start (q ∷ rest) p n chain (inr h) e =
    let parts = split_behind next (next q) rest p n chain.1 h e in
    (q ∷ parts.0, parts.1, ap (λ z. q ∷ z) parts.2)

-- where a node stands in the list
pub back_behind : (t : Links) (n a m : ℕ) (x : Option ℕ) (list : List ℕ) → IsBack t n a m x → IsSources t m a list → IsBehind list n x
back_behind t n a m None list back s = go list s.chain
  where
    go : (list : List ℕ) → IsChain (λ q. target t.nexts q a) (target t.firsts m a) list → IsBehind list n None
    go [] chain = absurd (let no : None ≡ Some n = sym chain ∙ back in let none : ⊥ = cc in none)
    go (q ∷ rest) chain = (rest, ap (λ z. z ∷ rest) (some_same q n (sym chain.0 ∙ back)))
back_behind t n a m (Some p) list back s = split_behind (λ q. target t.nexts q a) (target t.firsts m a) list p n s.chain (s.all p back.0) back.1

-- the first of a list, and the one behind a node
pub first_source : (k : ℕ) (t : Links) (m a f : ℕ) → IsLinked k t → target t.firsts m a ≡ Some f → target t.graph f a ≡ Some m
first_source k t m a f is e = let l = is.lists m a in go l.0 l.1.chain l.1.only
  where
    go : (list : List ℕ) → IsChain (λ q. target t.nexts q a) (target t.firsts m a) list → ((q : ℕ) → IsAmong q list → target t.graph q a ≡ Some m) → target t.graph f a ≡ Some m
    go [] chain only = absurd (let no : None ≡ Some f = sym chain ∙ e in let none : ⊥ = cc in none)
    go (q ∷ rest) chain only = only f (inl (some_same f q (sym e ∙ chain.0)))

pub next_source : (k : ℕ) (t : Links) (n a m q : ℕ) → IsLinked k t → target t.graph n a ≡ Some m → target t.nexts n a ≡ Some q → target t.graph q a ≡ Some m
next_source k t n a m q is e next =
    let l = is.lists m a in
    let parts = split_behind (λ p. target t.nexts p a) (target t.firsts m a) l.0 n q l.1.chain (l.1.all n e) next in
    l.1.only q (subst (IsAmong q) (sym parts.2) (among_back q parts.0 (n ∷ q ∷ parts.1) (inr (inl refl))))

-- an entry that is put at a node, if there is one
pub record IsPutAt (old new : Graph) (o : Option ℕ) (a : ℕ) (x : Option ℕ) : Type 0 where
  pub put : (q : ℕ) → o ≡ Some q → target new q a ≡ x
  pub other : (q b : ℕ) → ((o ≡ Some q) × (b ≡ a) → ⊥) → target new q b ≡ target old q b

pub put_at : (k : ℕ) (g : Graph) (o : Option ℕ) (a : ℕ) (x : Option ℕ) → All (λ row. length row ≡ k) g → a < k → ((n : ℕ) → o ≡ Some n → n < length g) → IsPutAt g (with_entry_at g o a x) o a x
put_at k g None a x w less within = record { put = λ q e. absurd (let none : ⊥ = cc in none); other = λ q b apart. refl }
put_at k g (Some n) a x w less within =
    let p = entry_put g n a x (within n refl) (omega (arith, less, w n [] (within n refl))) in
    record {
      put = λ q e. subst (λ z. target (with_entry g n a x) z a ≡ x) (some_same n q e) p.put;
      other = λ q b apart. p.other q b (λ both. apart (ap (λ z. Some z) (sym both.0), both.1));
    }

at_width : (k : ℕ) (g : Graph) (o : Option ℕ) (a : ℕ) (x : Option ℕ) → All (λ row. length row ≡ k) g → ((n : ℕ) → o ≡ Some n → n < length g) → All (λ row. length row ≡ k) (with_entry_at g o a x)
at_width k g None a x w within = w
at_width k g (Some n) a x w within = entry_width k g n a x (within n refl) w

at_length : (g : Graph) (o : Option ℕ) (a : ℕ) (x : Option ℕ) → length (with_entry_at g o a x) ≡ length g
at_length g None a x = refl
at_length g (Some n) a x = entry_length g n a x

-- an option that is this number, or not
some_or_not : (o : Option ℕ) (q : ℕ) → (o ≡ Some q) ⊎ (o ≡ Some q → ⊥)
some_or_not None q = inr (λ e. let none : ⊥ = cc in none)
some_or_not (Some n) q = elim (cases_eq n q) [ inl e ↦ inl (ap (λ z. Some z) e) | inr d ↦ inr (λ e. d (some_same n q e)) ]

both_or_not : (o : Option ℕ) (q b a : ℕ) → ((o ≡ Some q) × (b ≡ a)) ⊎ ((o ≡ Some q) × (b ≡ a) → ⊥)
both_or_not o q b a = go (some_or_not o q) (cases_eq b a)
  where
    go : (o ≡ Some q) ⊎ (o ≡ Some q → ⊥) → (b ≡ a) ⊎ (b ≢ a) → ((o ≡ Some q) × (b ≡ a)) ⊎ ((o ≡ Some q) × (b ≡ a) → ⊥)
    go (inl e) (inl d) = inl (e, d)
    go (inr e) y = inr (λ both. e both.0)
    go (inl e) (inr d) = inr (λ both. d both.1)

-- an edge more, whose node comes first
module _ (k : ℕ) (old new : Links) (n a m : ℕ) (was mid is : Graph) (linked : IsLinked k old) (missing : target old.graph n a ≡ None)
    (graph : IsPut old.graph new.graph n a (Some m)) (firsts : IsPut old.firsts new.firsts m a (Some n)) (nexts : IsPut old.nexts new.nexts n a (target old.firsts m a))
    (own : IsPut was mid n a None) (moved : IsPutAt mid is (target old.firsts m a) a (Some n))
    (backs : (q b t : ℕ) → target old.graph q b ≡ Some t → IsBack old q b t (target was q b)) where
  absent : (t : ℕ) → target old.graph n a ≡ Some t → ⊥
  absent t e = let no : None ≡ Some t = sym missing ∙ e in cc

  set_own : (q b t : ℕ) → (q ≡ n) → (b ≡ a) → target new.graph q b ≡ Some t → IsBack new q b t (target is q b)
  set_own q b t q_is b_is e =
      let there : target new.graph n a ≡ Some t = subst (λ z. target new.graph n z ≡ Some t) b_is (subst (λ z. target new.graph z b ≡ Some t) q_is e) in
      let t_is : m ≡ t = some_same m t (sym graph.put ∙ there) in
      let none : target is n a ≡ None = moved.other n a (λ both. absent m (first_source k old m a n linked both.0)) ∙ own.put in
      let here : IsBack new n a t (target is n a) = subst (λ z. IsBack new n a t z) (sym none) (subst (λ z. target new.firsts z a ≡ Some n) t_is firsts.put) in
      subst (λ z. IsBack new z b t (target is z b)) (sym q_is) (subst (λ z. IsBack new n z t (target is n z)) (sym b_is) here)

  set_first : (q b t : ℕ) → target old.firsts m a ≡ Some q → b ≡ a → target old.graph q b ≡ Some t → IsBack new q b t (target is q b)
  set_first q b t first b_is e =
      let t_is : m ≡ t = some_same m t (sym (first_source k old m a q linked first) ∙ subst (λ z. target old.graph q z ≡ Some t) b_is e) in
      let here : IsBack new q a t (target is q a) = subst (λ z. IsBack new q a t z) (sym (moved.put q first)) (graph.put ∙ ap (λ z. Some z) t_is, nexts.put ∙ first) in
      subst (λ z. IsBack new q z t (target is q z)) (sym b_is) here

  set_other : (q b t : ℕ) → ((target old.firsts m a ≡ Some q) × (b ≡ a) → ⊥) → ((q ≡ n) × (b ≡ a) → ⊥) → target old.graph q b ≡ Some t → IsBack new q b t (target is q b)
  set_other q b t off apart e = subst (λ z. IsBack new q b t z) (sym same) (go (target was q b) (backs q b t e))
    where
      same : target is q b ≡ target was q b
      same = moved.other q b off ∙ own.other q b apart

      go : (o : Option ℕ) → IsBack old q b t o → IsBack new q b t o
      go None h = firsts.other t b (λ both. off (subst (λ z. target old.firsts z a ≡ Some q) both.0 (subst (λ z. target old.firsts t z ≡ Some q) both.1 h), both.1)) ∙ h
      go (Some p) h =
          let other : (p ≡ n) × (b ≡ a) → ⊥ = λ both. absent t (subst (λ z. target old.graph z a ≡ Some t) both.0 (subst (λ z. target old.graph p z ≡ Some t) both.1 h.0)) in
          (graph.other p b other ∙ h.0, nexts.other p b other ∙ h.1)

  pub backs_set : (q b t : ℕ) → target new.graph q b ≡ Some t → IsBack new q b t (target is q b)
  backs_set q b t e = go (cases_eq q n) (cases_eq b a)
    where
      elsewhere : ((q ≡ n) × (b ≡ a) → ⊥) → IsBack new q b t (target is q b)
      elsewhere apart =
          let there : target old.graph q b ≡ Some t = sym (graph.other q b apart) ∙ e in
          elim (both_or_not (target old.firsts m a) q b a) [ inl both ↦ set_first q b t both.0 both.1 there | inr off ↦ set_other q b t off apart there ]

      go : (q ≡ n) ⊎ (q ≢ n) → (b ≡ a) ⊎ (b ≢ a) → IsBack new q b t (target is q b)
      go (inl f) (inl d) = set_own q b t f d e
      go (inr f) y = elsewhere (λ both. f both.0)
      go (inl f) (inr d) = elsewhere (λ both. d both.1)

-- what an edge less changes: the first source, or what comes behind the one before
abbrev pub IsPassed : Links → Links → ℕ → ℕ → ℕ → Option ℕ → Type 0
IsPassed old new n a m None = IsPut old.firsts new.firsts m a (target old.nexts n a) × (new.nexts ≡ old.nexts)
IsPassed old new n a m (Some p) = IsPut old.nexts new.nexts p a (target old.nexts n a) × (new.firsts ≡ old.firsts)

-- an edge less
module _ (k : ℕ) (old new : Links) (n a m : ℕ) (before : Option ℕ) (was is : Graph) (linked : IsLinked k old) (edge : target old.graph n a ≡ Some m)
    (graph : IsPut old.graph new.graph n a None) (stood : IsBack old n a m before) (passed : IsPassed old new n a m before)
    (moved : IsPutAt was is (target old.nexts n a) a before)
    (backs : (q b t : ℕ) → target old.graph q b ≡ Some t → IsBack old q b t (target was q b)) where
  gone_next : (q b t : ℕ) → target old.nexts n a ≡ Some q → b ≡ a → ((q ≡ n) × (b ≡ a) → ⊥) → target old.graph q b ≡ Some t → IsBack new q b t (target is q b)
  gone_next q b t next b_is apart e = subst (λ z. IsBack new q z t (target is q z)) (sym b_is) (subst (λ z. IsBack new q a t z) (sym (moved.put q next)) (go before stood passed))
    where
      t_is : m ≡ t
      t_is = some_same m t (sym (next_source k old n a m q linked edge next) ∙ subst (λ z. target old.graph q z ≡ Some t) b_is e)

      go : (before : Option ℕ) → IsBack old n a m before → IsPassed old new n a m before → IsBack new q a t before
      go None stood passed = subst (λ z. target new.firsts z a ≡ Some q) t_is (passed.0.put ∙ next)
      go (Some p) stood passed = (
        graph.other p a (λ both. apart (some_same q n (sym next ∙ subst (λ z. target old.nexts z a ≡ Some n) both.0 stood.1), b_is)) ∙ stood.0 ∙ ap (λ z. Some z) t_is,
        passed.0.put ∙ next,
      )

  gone_other : (q b t : ℕ) → ((target old.nexts n a ≡ Some q) × (b ≡ a) → ⊥) → ((q ≡ n) × (b ≡ a) → ⊥) → target old.graph q b ≡ Some t → IsBack new q b t (target is q b)
  gone_other q b t off apart e = subst (λ z. IsBack new q b t z) (sym (moved.other q b off)) (go before (target was q b) stood passed (backs q b t e))
    where
      first_same : (before : Option ℕ) → IsBack old n a m before → IsPassed old new n a m before → target old.firsts t b ≡ Some q → target new.firsts t b ≡ Some q
      first_same None stood passed h = passed.0.other t b (λ both.
          let here : target old.firsts m a ≡ Some q = subst (λ z. target old.firsts z a ≡ Some q) both.0 (subst (λ z. target old.firsts t z ≡ Some q) both.1 h) in
          apart (some_same q n (sym here ∙ stood), both.1)) ∙ h
      first_same (Some p) stood passed h = ap (λ (g : Graph). target g t b) passed.1 ∙ h

      next_same : (before : Option ℕ) (r : ℕ) → IsBack old n a m before → IsPassed old new n a m before → target old.nexts r b ≡ Some q → target new.nexts r b ≡ Some q
      next_same None r stood passed h = ap (λ (g : Graph). target g r b) passed.1 ∙ h
      next_same (Some p) r stood passed h = passed.0.other r b (λ both.
          let here : target old.nexts p a ≡ Some q = subst (λ z. target old.nexts z a ≡ Some q) both.0 (subst (λ z. target old.nexts r z ≡ Some q) both.1 h) in
          apart (some_same q n (sym here ∙ stood.1), both.1)) ∙ h

      go : (before o : Option ℕ) → IsBack old n a m before → IsPassed old new n a m before → IsBack old q b t o → IsBack new q b t o
      go before None stood passed h = first_same before stood passed h
      go before (Some r) stood passed h = (
        graph.other r b (λ both. off (subst (λ z. target old.nexts z a ≡ Some q) both.0 (subst (λ z. target old.nexts r z ≡ Some q) both.1 h.1), both.1)) ∙ h.0,
        next_same before r stood passed h.1,
      )

  pub backs_gone : (q b t : ℕ) → target new.graph q b ≡ Some t → IsBack new q b t (target is q b)
  backs_gone q b t e =
      let apart : (q ≡ n) × (b ≡ a) → ⊥ = λ both.
      let here : target new.graph n a ≡ Some t = subst (λ z. target new.graph z a ≡ Some t) both.0 (subst (λ z. target new.graph q z ≡ Some t) both.1 e) in
      let no : None ≡ Some t = sym graph.put ∙ here in
      let none : ⊥ = cc in
      none in
      let there : target old.graph q b ≡ Some t = sym (graph.other q b apart) ∙ e in
      elim (both_or_not (target old.nexts n a) q b a) [ inl both ↦ gone_next q b t both.0 both.1 apart there | inr off ↦ gone_other q b t off apart there ]

-- the node before each, where an edge is set
pub backed_set : (k : ℕ) (t : Links) (befores : Graph) (n a m : ℕ) → IsLinked k t → IsBacked k t befores → n < length t.graph → a < k → m < length t.graph → target t.graph n a ≡ None
    → IsBacked k (record { graph = with_entry t.graph n a (Some m); firsts = with_entry t.firsts m a (Some n); nexts = with_entry t.nexts n a (target t.firsts m a) })
    (with_entry_at (with_entry befores n a None) (target t.firsts m a) a (Some n))
backed_set k t befores n a m is b hn ha hm missing =
    let new : Links = record { graph = with_entry t.graph n a (Some m); firsts = with_entry t.firsts m a (Some n); nexts = with_entry t.nexts n a (target t.firsts m a) } in
    let hb : n < length befores = omega (arith, hn, b.rows) in
    let hf : m < length t.firsts = omega (arith, hm, is.first_rows) in
    let hx : n < length t.nexts = omega (arith, hn, is.next_rows) in
    let mid = with_entry befores n a None in
    let wide : All (λ row. length row ≡ k) mid = entry_width k befores n a None hb b.width in
    let within : (f : ℕ) → target t.firsts m a ≡ Some f → f < length mid = λ f e.
    (let less = (target_in k t.graph is.graph f a m (first_source k t m a f is e)).0 in omega (arith, less, b.rows, entry_length befores n a None)) in
    record {
      width = at_width k mid (target t.firsts m a) a (Some n) wide within;
      rows = omega (arith, b.rows, entry_length t.graph n a (Some m), entry_length befores n a None, at_length mid (target t.firsts m a) a (Some n));
      backs = backs_set k t new n a m befores mid (with_entry_at mid (target t.firsts m a) a (Some n)) is missing
          (entry_put t.graph n a (Some m) hn (omega (arith, is.graph.width n [] hn, ha))) (entry_put t.firsts m a (Some n) hf (omega (arith, is.firsts m [] hf, ha))) (entry_put t.nexts n a (target t.firsts m a) hx (omega (arith, is.nexts n [] hx, ha)))
          (entry_put befores n a None hb (omega (arith, b.width n [] hb, ha))) (put_at k mid (target t.firsts m a) a (Some n) wide ha within) b.backs;
    }

-- what stands at the next node then
next_inside : (k : ℕ) (t : Links) (befores : Graph) (n a m : ℕ) → IsLinked k t → IsBacked k t befores → target t.graph n a ≡ Some m → (q : ℕ) → target t.nexts n a ≡ Some q → q < length befores
next_inside k t befores n a m is b edge q e = let less = (target_in k t.graph is.graph q a m (next_source k t n a m q is edge e)).0 in omega (arith, less, b.rows)

-- where the first edge of a list is taken away
pub backed_first : (k : ℕ) (t : Links) (befores : Graph) (n a m : ℕ) (before : Option ℕ) → IsLinked k t → IsBacked k t befores → target t.graph n a ≡ Some m → before ≡ target befores n a → before ≡ None
    → IsBacked k (record { graph = with_entry t.graph n a None; firsts = with_entry t.firsts m a (target t.nexts n a); nexts = t.nexts })
    (with_entry_at befores (target t.nexts n a) a before)
backed_first k t befores n a m before is b edge read none =
    let new : Links = record { graph = with_entry t.graph n a None; firsts = with_entry t.firsts m a (target t.nexts n a); nexts = t.nexts } in
    let at = target_in k t.graph is.graph n a m edge in
    let hf : m < length t.firsts = omega (arith, at.2, is.first_rows) in
    let stood : IsBack t n a m before = subst (IsBack t n a m) (sym read) (b.backs n a m edge) in
    let within = next_inside k t befores n a m is b edge in
    record {
      width = at_width k befores (target t.nexts n a) a before b.width within;
      rows = omega (arith, b.rows, entry_length t.graph n a None, at_length befores (target t.nexts n a) a before);
      backs = backs_gone k t new n a m before befores (with_entry_at befores (target t.nexts n a) a before) is edge
          (entry_put t.graph n a None at.0 (omega (arith, is.graph.width n [] at.0, at.1))) stood
          (subst (IsPassed t new n a m) (sym none) (entry_put t.firsts m a (target t.nexts n a) hf (omega (arith, is.firsts m [] hf, at.1)), refl))
          (put_at k befores (target t.nexts n a) a before b.width at.1 within) b.backs;
    }

-- and another
pub backed_later : (k : ℕ) (t : Links) (befores : Graph) (n a m p : ℕ) (before : Option ℕ) → IsLinked k t → IsBacked k t befores → target t.graph n a ≡ Some m → before ≡ target befores n a → before ≡ Some p
    → IsBacked k (record { graph = with_entry t.graph n a None; firsts = t.firsts; nexts = with_entry t.nexts p a (target t.nexts n a) })
    (with_entry_at befores (target t.nexts n a) a before)
backed_later k t befores n a m p before is b edge read some =
    let new : Links = record { graph = with_entry t.graph n a None; firsts = t.firsts; nexts = with_entry t.nexts p a (target t.nexts n a) } in
    let at = target_in k t.graph is.graph n a m edge in
    let stood : IsBack t n a m before = subst (IsBack t n a m) (sym read) (b.backs n a m edge) in
    let source = (subst (IsBack t n a m) some stood).0 in
    let in_p = target_in k t.graph is.graph p a m source in
    let hx : p < length t.nexts = omega (arith, in_p.0, is.next_rows) in
    let within = next_inside k t befores n a m is b edge in
    record {
      width = at_width k befores (target t.nexts n a) a before b.width within;
      rows = omega (arith, b.rows, entry_length t.graph n a None, at_length befores (target t.nexts n a) a before);
      backs = backs_gone k t new n a m before befores (with_entry_at befores (target t.nexts n a) a before) is edge
          (entry_put t.graph n a None at.0 (omega (arith, is.graph.width n [] at.0, at.1))) stood
          (subst (IsPassed t new n a m) (sym some) (entry_put t.nexts p a (target t.nexts n a) hx (omega (arith, is.nexts p [] hx, at.1)), refl))
          (put_at k befores (target t.nexts n a) a before b.width at.1 within) b.backs;
    }

-- rows more
pub backed_rows : (k : ℕ) (t : Links) (graph firsts nexts was befores : Graph) → IsBacked k t was
    → (graph ≡ t.graph) ⊎ (graph ≡ with_node k t.graph) → (firsts ≡ t.firsts) ⊎ (firsts ≡ with_node k t.firsts) → (nexts ≡ t.nexts) ⊎ (nexts ≡ with_node k t.nexts)
    → befores ≡ with_node k was → IsBacked k (record { graph = graph; firsts = firsts; nexts = nexts }) befores
backed_rows k t graph firsts nexts was befores b g f x e = record {
  width = subst (λ (z : Graph). All (λ row. length row ≡ k) z) (sym e) (All-push (λ row. length row ≡ k) was (replicate k None) b.width (length-replicate k None));
  rows = let long : length befores ≡ length was + 1 = ap length e ∙ length_push {X = List (Option ℕ)} was (replicate k None) in go g long;
  backs = λ n a m h. subst (IsBack new n a m) (sym (ap (λ (z : Graph). target z n a) e ∙ target_node k was n a)) (still n a m (target was n a) (b.backs n a m (sym (same t.graph graph g n a) ∙ h)));
}
  where
    new : Links
    new = record { graph = graph; firsts = firsts; nexts = nexts }

    go : (graph ≡ t.graph) ⊎ (graph ≡ with_node k t.graph) → length befores ≡ length was + 1 → length graph ≤ length befores
    go (inl e) long = omega (arith, ap length e, long, b.rows)
    go (inr e) long = omega (arith, ap length e ∙ length_push {X = List (Option ℕ)} t.graph (replicate k None), long, b.rows)

    same : (old new : Graph) → (new ≡ old) ⊎ (new ≡ with_node k old) → (p a : ℕ) → target new p a ≡ target old p a
    same old new (inl e) p a = ap (λ (z : Graph). target z p a) e
    same old new (inr e) p a = ap (λ (z : Graph). target z p a) e ∙ target_node k old p a

    still : (n a m : ℕ) (o : Option ℕ) → IsBack t n a m o → IsBack new n a m o
    still n a m None h = same t.firsts firsts f m a ∙ h
    still n a m (Some p) h = (same t.graph graph g p a ∙ h.0, same t.nexts nexts x p a ∙ h.1)

-- the root alone
pub backed_root : (k : ℕ) → IsBacked k (record { graph = replicate k None ∷ []; firsts = replicate k None ∷ []; nexts = replicate k None ∷ [] }) (replicate k None ∷ [])
backed_root k = record {
  width = (root_graph k).width;
  rows = omega arith;
  backs = λ n a m e. absurd (let no : None ≡ Some m = sym (target_bare 1 k n a) ∙ e in let none : ⊥ = cc in none);
}
