-- The order of nodes, as the code keeps it, goes on.
use Rattle.std.proofs.Common.{◌≡◌, ◌≢◌, ℕ, zero, suc, ◌+◌, ◌-◌, ◌<◌, ◌≤◌, List, [], ◌∷◌, ◌++◌, length, refl, sym, ◌∙◌, ap, subst, subst₂, arith, inl, inr, Option, Some, None, get_or, set, replicate, length-set, min, Bool, false, cond, nat_eq, nat_lt, true, is_some}
use Rattle.std.proofs.lemmas.List.{get_or_append_left, get_or_push, get_or_read, length_push, get_or-set_same, get_or-set_other, get_or_past}
use Rattle.std.proofs.lemmas.Bool.{cases_lt, cases_eq}
use Rattle.theory.specs.Word.{Word}
use Rattle.theory.specs.Facts.{AllDefined}
use Rattle.theory.specs.Graph.{Graph, target, path, SameEnd, IsGraph}
use Rattle.word_graph.specs.Gaps.{count_none}
use Rattle.word_graph.specs.Walk.{IsWalkTo, IsFound, IsBefore, IsFirstMissing}
use Rattle.word_graph.proofs.WalkLaws.{some_same, before_next, walk_known, walk_found, walk_row, walk_start}
use Rattle.coincidence.specs.Kept.{IsKeptAs, IsKept, IsMended, IsPlaced, LeadsToPlaced, Listing, listing_of, step_at, walked}
use Rattle.coincidence.specs.Live.{IsOn}
use Rattle.coincidence.specs.Marks.{AllMarked, IsFirstUnmarked}
use Rattle.coincidence.specs.Ordering.{IsOrderTo, before_place, cut_walk}
use Rattle.coincidence.specs.declared.cosets.Cosets.{Cosets}
use Rattle.coincidence.specs.declared.order.Step.{Step}
use Rattle.coincidence.specs.declared.order.Order.{Order}
use Rattle.coincidence.proofs.MarkLaws.{on_within}
use Rattle.coincidence.proofs.OrderedLaws.{order_whole, order_first, order_all, order_found, IsAlike, order_as, order_shorter, order_stays, order_lives, place_same}

none_set : {X : Type 0} (xs : List (Option X)) (i : ℕ) (x : X) → i < length xs → get_or xs i None ≡ None → count_none (set xs i (Some x)) + 1 ≡ count_none xs
none_set [] i x h e = absurd (omega arith)
none_set (None ∷ xs) zero x h e = omega arith
none_set (Some y ∷ xs) zero x h e = cc
none_set (None ∷ xs) (suc i) x h e = omega (arith, none_set xs i x (omega arith) e)
none_set (Some y ∷ xs) (suc i) x h e = none_set xs i x (omega arith) e

none_unset : {X : Type 0} (xs : List (Option X)) (i : ℕ) (x : X) → get_or xs i None ≡ Some x → count_none (set xs i None) ≡ count_none xs + 1
none_unset [] i x e = cc
none_unset (None ∷ xs) zero x e = cc
none_unset (Some y ∷ xs) zero x e = omega arith
none_unset (None ∷ xs) (suc i) x e = omega (arith, none_unset xs i x e)
none_unset (Some y ∷ xs) (suc i) x e = none_unset xs i x e

none_push : (xs : List (Option ℕ)) → count_none (xs ++ None ∷ []) ≡ count_none xs + 1
none_push [] = refl
none_push (None ∷ xs) = omega (arith, none_push xs)
none_push (Some x ∷ xs) = none_push xs

-- the words, and one more
word_with : (ℕ → Word) → ℕ → Word → ℕ → Word
word_with word n u j = cond (nat_eq j n) u (word j)

with_same : (word : ℕ → Word) (n : ℕ) (u : Word) (j : ℕ) → j ≡ n → word_with word n u j ≡ u
unfolding word_with
with_same word n u j e = grind (arith, e)

with_other : (word : ℕ → Word) (n : ℕ) (u : Word) (j : ℕ) → j < n → word_with word n u j ≡ word j
unfolding word_with
with_other word n u j h = grind (arith, h)

abbrev blank : Step
blank = record { node = 0; parent = 0; letter = 0 }

-- the root alone
pub kept_root : (k : ℕ) → IsKeptAs k (replicate k None ∷ []) (false ∷ []) (record { steps = blank ∷ []; places = Some 0 ∷ []; row = 0; letter = 0; done = 0 })
kept_root k = record {
  word = λ j. [];
  order = record {
    walk = walk_start k (replicate k None ∷ []) (walked (record { steps = blank ∷ []; places = Some 0 ∷ []; row = 0; letter = 0; done = 0 }) (λ j. [])) refl refl refl refl none;
    whole = λ p b h hb before e. elim before [ inl l ↦ absurd (omega (arith, l)) | inr l ↦ absurd (omega (arith, l.1)) ];
  };
  shape = refl;
  gaps = refl;
  within = omega arith;
  front = omega arith;
  met = λ j h. absurd (omega (arith, h));
}
  where
    none : (m : ℕ) → (m ≡ 0 → ⊥) → get_or {A = Option ℕ} (Some 0 ∷ []) m None ≡ None
    none zero d = absurd (d refl)
    none (suc m) d = refl

-- no place for a node more
place_push : (places : List (Option ℕ)) (m : ℕ) → get_or (places ++ None ∷ []) m None ≡ get_or places m None
place_push [] zero = refl
place_push [] (suc m) = refl
place_push (x ∷ places) zero = refl
place_push (x ∷ places) (suc m) = place_push places m

pub kept_more : (k : ℕ) (g new : Graph) (marked : List Bool) (list : Listing) → length new ≡ length g + 1
    → ((n b t : ℕ) → target new n b ≡ Some t → b < k) → ((n b t : ℕ) → target g n b ≡ Some t → target new n b ≡ Some t)
    → IsKeptAs k g marked list → IsKeptAs k new (marked ++ false ∷ []) (record list { places = list.places ++ None ∷ [] })
kept_more k g new marked list longer letters stays is = record {
  word = is.word;
  order = order_as k new (walked list is.word) (walked (record list { places = list.places ++ None ∷ [] }) is.word) list.row list.letter alike
      (order_stays k g new (walked list is.word) list.row list.letter letters (λ q b m _ _ e. stays ((step_at list.steps q).node) b m e) is.order);
  shape = omega (arith, length_push {X = Option ℕ} list.places None, is.shape, longer);
  gaps = omega (arith, none_push list.places, is.gaps, longer);
  within = is.within;
  front = is.front;
  met = λ j h. let on = is.met j h in get_or_append_left marked (false ∷ []) false ((step_at list.steps j).node) (on_within marked ((step_at list.steps j).node) on) ∙ on;
}
  where
    alike : IsAlike (walked list is.word) (walked (record list { places = list.places ++ None ∷ [] }) is.word)
    alike = record {
      count = refl;
      node_is = λ j h. refl;
      parent_is = λ j h. refl;
      letter_is = λ j h. refl;
      word_is = λ j. refl;
      place_is = λ m. place_push list.places m;
    }

module _ (k : ℕ) (g : Graph) (marked : List Bool) (list : Listing) (is : IsKeptAs k g marked list) where
  -- no edge is missing before the next letter
  whole_next : (next : ℕ) → target g (step_at list.steps list.row).node list.letter ≡ Some next → (p b : ℕ) → p < length list.steps → b < k → IsBefore p b list.row (list.letter + 1) → target g (step_at list.steps p).node b ≢ None
  whole_next next here p b h hb before = elim (before_next p b list.row list.letter before) [
    | inl old ↦ is.order.whole p b h hb old
    | inr last ↦ λ none.
        let there : target g (step_at list.steps p).node b ≡ Some next = ap (λ z. target g (step_at list.steps z).node b) last.0 ∙ ap (target g (step_at list.steps list.row).node) last.1 ∙ here in
        let no : None ≡ Some next = sym none ∙ there in
        let bot : ⊥ = cc in bot
  ]

  walk_on : (row letter : ℕ) → IsOrderTo k g (walked list is.word) row letter → letter ≤ k → IsKeptAs k g marked (record list { row = row; letter = letter })
  walk_on row letter order within = record { word = is.word; order = order; shape = is.shape; gaps = is.gaps; within = within; front = is.front; met = is.met }

  pub kept_known : (next : ℕ) → list.row < length list.steps → list.letter < k → target g (step_at list.steps list.row).node list.letter ≡ Some next → (j : ℕ) → get_or list.places next None ≡ Some j → IsKeptAs k g marked (record list { letter = list.letter + 1 })
  kept_known next hr ha here j known =
      walk_on list.row (list.letter + 1) (record { walk = walk_known k g (walked list is.word) list.row list.letter is.order.walk next j hr here known; whole = whole_next next here }) (omega (arith, ha))

  pub kept_row : k ≤ list.letter → IsGraph k g → IsKeptAs k g marked (record list { row = list.row + 1; letter = 0 })
  kept_row all graph = walk_on (list.row + 1) 0 (record {
    walk = walk_row k g (walked list is.word) list.row graph (subst (λ z. IsWalkTo k g (walked list is.word) list.row z) end is.order.walk);
    whole = λ p b h hb before. is.order.whole p b h hb (elim before [
      | inl less ↦ elim (cases_eq p list.row) [ inl e ↦ inr (e, omega (arith, end, hb)) | inr d ↦ inl (omega (arith, less, d)) ]
      | inr none ↦ absurd (omega (arith, none.1))
    ]);
  }) (omega arith)
    where
      end : list.letter ≡ k
      end = omega (arith, all, is.within)

  pub kept_met : list.done < length list.steps → IsOn marked (step_at list.steps list.done).node → IsKeptAs k g marked (record list { done = list.done + 1 })
  kept_met less on = record {
    word = is.word;
    order = is.order;
    shape = is.shape;
    gaps = is.gaps;
    within = is.within;
    front = omega (arith, less);
    met = λ j h. elim (cases_eq j list.done) [ inl e ↦ subst (λ z. IsOn marked (step_at list.steps z).node) (sym e) on | inr d ↦ is.met j (omega (arith, h, d)) ];
  }

  -- in a graph where its nodes live
  pub kept_lives : (new : Graph) (live marks : List Bool) → length new ≡ length g → ((n b t : ℕ) → target new n b ≡ Some t → b < k)
      → ((n j : ℕ) → get_or list.places n None ≡ Some j → IsOn live n) → ((j b m : ℕ) → IsOn live j → IsOn live m → target g j b ≡ Some m → target new j b ≡ Some m)
      → ((n : ℕ) → IsOn live n → IsOn marked n → IsOn marks n) → IsKeptAs k new marks list
  kept_lives new live marks same letters lives stays marks_stay = record {
    word = is.word;
    order = order_lives k g new live (walked list is.word) list.row list.letter letters here stays is.order;
    shape = is.shape ∙ sym same;
    gaps = is.gaps ∙ sym same;
    within = is.within;
    front = is.front;
    met = λ j h. marks_stay ((step_at list.steps j).node) (here j (omega (arith, h, is.front))) (is.met j h);
  }
    where
      here : (j : ℕ) → j < length list.steps → IsOn live (step_at list.steps j).node
      here j h = lives ((step_at list.steps j).node) j (is.order.walk.back j h)

  -- a node more is found
  pub kept_found : (next : ℕ) → list.row < length list.steps → list.letter < k → IsGraph k g → target g (step_at list.steps list.row).node list.letter ≡ Some next → get_or list.places next None ≡ None
      → IsKeptAs k g marked (record list { steps = list.steps ++ record { node = next; parent = list.row; letter = list.letter } ∷ []; places = set list.places next (Some (length list.steps)); letter = list.letter + 1 })
  kept_found next hr ha graph here none = record {
    word = word';
    order = record {
      walk = walk_found k g (walked list is.word) list.row list.letter is.order.walk (walked list' word') next found hr ha here none;
      whole = λ p b h hb before. subst (λ z. target g z b ≢ None) (sym (ap (λ (s : Step). s.node) (old p (early p b before)))) (whole_next next here p b (early p b before) hb before);
    };
    shape = length-set list.places next (Some (length list.steps)) ∙ is.shape;
    gaps = omega (arith, none_set list.places next (length list.steps) inside none, length_push list.steps new, is.gaps);
    within = omega (arith, ha);
    front = omega (arith, is.front, length_push list.steps new);
    met = λ j h. subst (λ (s : Step). IsOn marked s.node) (sym (old j (omega (arith, h, is.front)))) (is.met j h);
  }
    where
      new : Step
      new = record { node = next; parent = list.row; letter = list.letter }

      list' : Listing
      list' = record list { steps = list.steps ++ record { node = next; parent = list.row; letter = list.letter } ∷ []; places = set list.places next (Some (length list.steps)); letter = list.letter + 1 }

      word' : ℕ → Word
      word' = word_with is.word (length list.steps) (is.word list.row ++ list.letter ∷ [])

      inside : next < length list.places
      inside = omega (arith, graph.nodes (step_at list.steps list.row).node list.letter next here, is.shape)

      early : (p b : ℕ) → IsBefore p b list.row (list.letter + 1) → p < length list.steps
      early p b (inl h) = omega (arith, h, hr)
      early p b (inr h) = omega (arith, h.0, hr)

      old : (j : ℕ) → j < length list.steps → step_at list'.steps j ≡ step_at list.steps j
      old j h = get_or_append_left list.steps (new ∷ []) (record { node = 0; parent = 0; letter = 0 }) j h

      last : step_at list'.steps (length list.steps) ≡ new
      last = get_or_push list.steps new (record { node = 0; parent = 0; letter = 0 }) (length list.steps) refl

      found : IsFound (walked list is.word) (walked list' word') list.row list.letter next
      found = record {
        count = length_push list.steps new;
        node_is = ap (λ (s : Step). s.node) last;
        parent_is = ap (λ (s : Step). s.parent) last;
        letter_is = ap (λ (s : Step). s.letter) last;
        word_is = with_same is.word (length list.steps) (is.word list.row ++ list.letter ∷ []) (length list.steps) refl;
        place_is = get_or-set_same list.places next (Some (length list.steps)) None inside;
        nodes = λ j h. ap (λ (s : Step). s.node) (old j h);
        parents = λ j h. ap (λ (s : Step). s.parent) (old j h);
        letters = λ j h. ap (λ (s : Step). s.letter) (old j h);
        words = λ j h. with_other is.word (length list.steps) (is.word list.row ++ list.letter ∷ []) j h;
        places = λ m d. get_or-set_other list.places next m (Some (length list.steps)) None d;
      }

-- the last node is taken off
pub kept_popped : (k : ℕ) (g : Graph) (marked : List Bool) (list : Listing) (front : List Step) (s : Step) (done' : ℕ) → list.steps ≡ front ++ s ∷ [] → 0 < length front → done' ≤ length front → done' ≤ list.done
    → IsKeptAs k g marked list → IsKeptAs k g marked (record { steps = front; places = set list.places s.node None; row = s.parent; letter = s.letter; done = done' })
kept_popped k g marked list front s done' is_more some within less is = record {
  word = is.word;
  order = subst₂ (λ r l. IsOrderTo k g (walked popped is.word) r l) (ap (λ (x : Step). x.parent) last) (ap (λ (x : Step). x.letter) last)
      (order_as k g (cut_walk (walked list is.word) p) (walked popped is.word) ((step_at list.steps p).parent) ((step_at list.steps p).letter) alike
      (order_shorter k g (walked list is.word) list.row list.letter p some shorter is.order));
  shape = length-set list.places s.node None ∙ is.shape;
  gaps = omega (arith, none_unset list.places s.node p at, is.gaps, count);
  within = let m = is.order.walk.made p some shorter in omega (arith, m.2, ap (λ (x : Step). x.letter) last);
  front = within;
  met = λ j h. subst (λ (x : Step). IsOn marked x.node) (old j (omega (arith, h, within))) (is.met j (omega (arith, h, less)));
}
  where
    popped : Listing
    popped = record { steps = front; places = set list.places s.node None; row = s.parent; letter = s.letter; done = done' }

    p : ℕ
    p = length front

    count : length list.steps ≡ length front + 1
    count = ap length is_more ∙ length_push front s

    shorter : length front < length list.steps
    shorter = omega (arith, count)

    last : step_at list.steps (length front) ≡ s
    last = ap (λ (x : List Step). step_at x (length front)) is_more ∙ get_or_push front s (record { node = 0; parent = 0; letter = 0 }) (length front) refl

    old : (j : ℕ) → j < length front → step_at list.steps j ≡ step_at front j
    old j h = ap (λ (x : List Step). step_at x j) is_more ∙ get_or_append_left front (s ∷ []) (record { node = 0; parent = 0; letter = 0 }) j h

    at : get_or list.places s.node None ≡ Some (length front)
    at = ap (λ (x : Step). get_or list.places x.node None) (sym last) ∙ is.order.walk.back (length front) shorter

    placed : s.node < length list.places
    placed = elim (cases_lt s.node (length list.places)) [
      | inl h ↦ h
      | inr past ↦ absurd (let e : None ≡ Some (length front) = sym (get_or_past list.places s.node None past) ∙ at in let bot : ⊥ = cc in bot)
    ]

    place_here : before_place (length front) (get_or list.places s.node None) ≡ None
    place_here = go (get_or list.places s.node None) at
      where
        go : (x : Option ℕ) → x ≡ Some (length front) → before_place (length front) x ≡ None
        go None e = refl
        go (Some n) e = let same : n ≡ length front = some_same n (length front) e in let no' : nat_lt n (length front) ≡ false = grind (arith, same) in ap (λ b. cond b (Some n) None) no'

    place_there : (m : ℕ) → m ≢ s.node → get_or list.places m None ≡ before_place (length front) (get_or list.places m None)
    place_there m d = go (get_or list.places m None) refl
      where
        go : (x : Option ℕ) → get_or list.places m None ≡ x → x ≡ before_place (length front) x
        go None e = refl
        go (Some n) e =
            let q = is.order.walk.placed m n e in
            let other : n ≢ length front = λ f. d (sym q.1 ∙ ap (λ z. (step_at list.steps z).node) f ∙ ap (λ (x : Step). x.node) last) in
            sym (place_same (length front) (Some n) n refl (omega (arith, q.0, count, other)))

    alike : IsAlike (cut_walk (walked list is.word) (length front)) (walked popped is.word)
    alike = record {
      count = refl;
      node_is = λ j h. ap (λ (x : Step). x.node) (sym (old j h));
      parent_is = λ j h. ap (λ (x : Step). x.parent) (sym (old j h));
      letter_is = λ j h. ap (λ (x : Step). x.letter) (sym (old j h));
      word_is = λ j. refl;
      place_is = λ m. elim (cases_eq m s.node) [
        | inl e ↦ subst (λ z. get_or (set list.places s.node None) z None ≡ before_place (length front) (get_or list.places z None)) (sym e) (get_or-set_same list.places s.node None None placed ∙ sym place_here)
        | inr d ↦ get_or-set_other list.places s.node m None None d ∙ place_there m d
      ];
    }

-- a node is lost
pub mended_cut : (old new : Cosets) (lost : ℕ) → new.live.items ≡ set old.live.items lost false → ((k : ℕ) (g : Graph) (marked : List Bool) → IsKept k g marked old.order → IsKept k g marked new.order)
    → ((n : ℕ) → IsPlaced new.order n → IsPlaced old.order n × (n ≢ lost)) → IsMended old new
mended_cut old new lost live kept places = record {
  kept = kept;
  lives = λ h n p. let q = places n p in ap (λ z. get_or z n false) live ∙ get_or-set_other old.live.items lost n false false q.1 ∙ h n q.0;
}

pub min_both : (m a b : ℕ) → m ≡ min a b → (m ≤ a) × (m ≤ b)
min_both m a b e = (grind (arith, e), grind (arith, e))

-- the root alone is no other node
pub kept_lost : (k : ℕ) (g : Graph) (marked : List Bool) (o : Order) (lost : ℕ) → length o.steps.items ≤ 1 → 0 < lost → IsKept k g marked o → IsPlaced o lost → ⊥
kept_lost k g marked o lost one some is p =
    let q = is.order.walk.placed lost p.0 p.1 in
    let first : p.0 ≡ 0 = omega (arith, q.0, one) in
    let root : 0 ≡ (step_at o.steps.items 0).node = some_same 0 ((step_at o.steps.items 0).node) (sym (ap (path g 0) is.order.walk.root) ∙ is.order.walk.leads 0 is.order.walk.some) in
    let same : 0 ≡ lost = root ∙ ap (λ z. (step_at o.steps.items z).node) (sym first) ∙ q.1 in
    absurd (omega (arith, same, some))

pub kept_whole : (k : ℕ) (g : Graph) (marked : List Bool) (o : Order) → IsKept k g marked o → length o.steps.items ≤ o.row → AllDefined k (SameEnd g)
kept_whole k g marked o is past = order_whole k g (walked (listing_of o) is.word) o.row o.letter is.order past

pub kept_missing : (k : ℕ) (g : Graph) (marked : List Bool) (o : Order) → IsKept k g marked o → o.row < length o.steps.items → o.letter < k → target g (step_at o.steps.items o.row).node o.letter ≡ None → IsFirstMissing k g (step_at o.steps.items o.row).node o.letter
kept_missing k g marked o is less letter none = order_first k g (walked (listing_of o) is.word) o.row o.letter is.order less letter none

pub kept_all_marked : (k : ℕ) (g : Graph) (marked : List Bool) (o : Order) → IsGraph k g → IsKept k g marked o → length o.steps.items ≤ o.row → o.done ≡ length o.steps.items → AllMarked g marked
kept_all_marked k g marked o graph is past all w n e =
    let f = order_all k g (walked (listing_of o) is.word) o.row o.letter is.order graph past w n e in
    subst (IsOn marked) f.2 (is.met f.0 (omega (arith, f.1, all)))

pub kept_unmarked : (k : ℕ) (g : Graph) (marked : List Bool) (o : Order) (n : ℕ) → IsGraph k g → IsKept k g marked o → o.done < length o.steps.items → n ≡ (step_at o.steps.items o.done).node → (IsOn marked n → ⊥) → IsFirstUnmarked g marked n
kept_unmarked k g marked o n graph is less same off = record {
  word = is.word o.done;
  leads = is.order.walk.leads o.done less ∙ ap (λ z. Some z) (sym same);
  unmarked = off;
  least = λ v m before e.
      let f = order_found k g (walked (listing_of o) is.word) o.row o.letter is.order graph o.done less v m before e in
      subst (IsOn marked) f.2 (is.met f.0 f.1);
}

-- the walk goes on from the cell where it stands to the node there
pub kept_step : (k : ℕ) (g : Graph) (marked : List Bool) (o new : Order) (next : ℕ) → IsGraph k g → o.row < length o.steps.items → o.letter < k
    → target g (step_at o.steps.items o.row).node o.letter ≡ Some next → (IsPlaced o next → (new.steps.items ≡ o.steps.items) × (new.places.items ≡ o.places.items))
    → (get_or o.places.items next None ≡ None → (new.steps.items ≡ o.steps.items ++ record { node = next; parent = o.row; letter = o.letter } ∷ []) × (new.places.items ≡ set o.places.items next (Some (length o.steps.items))))
    → new.row ≡ o.row → new.letter ≡ o.letter → new.done ≡ o.done → IsKept k g marked o → IsKept k g marked (record new { letter = new.letter + 1 })
kept_step k g marked o new next graph less letter here known found row_is letter_is done_is is = go (get_or o.places.items next None) refl
  where
    go : (x : Option ℕ) → get_or o.places.items next None ≡ x → IsKept k g marked (record new { letter = new.letter + 1 })
    go None e = let n = found e in rw (n.0, n.1, row_is, letter_is, done_is) (kept_found k g marked (listing_of o) is next less letter graph here e)
    go (Some j) e = let n = known (j, e) in rw (n.0, n.1, row_is, letter_is, done_is) (kept_known k g marked (listing_of o) is next less letter here j e)

-- a place that is read
pub placed_read : (places : List (Option ℕ)) (n : ℕ) (x : Option ℕ) → n < length places → x ≡ get_or places n x → is_some x ≡ true → (j : ℕ) × (get_or places n None ≡ Some j)
placed_read places n None less at some = cc
placed_read places n (Some j) less at some = (j, sym (get_or_read places n (Some j) less at None))

-- the walk passes edges that lead to nodes with a place
kept_passed : (k : ℕ) (g : Graph) (marked : List Bool) (o : Order) (count : ℕ) → o.row < length o.steps.items → o.letter + count ≤ k
    → ((a : ℕ) → o.letter ≤ a → a < o.letter + count → LeadsToPlaced g o (step_at o.steps.items o.row).node a) → IsKept k g marked o → IsKept k g marked (record o { letter = o.letter + count })
kept_passed k g marked o zero less within passed is = let e : o.letter ≡ o.letter + 0 = omega arith in subst (λ z. IsKept k g marked (record o { letter = z })) e is
kept_passed k g marked o (suc count) less within passed is =
    let so_far = kept_passed k g marked o count less (omega (arith, within)) (λ a h h'. passed a h (omega (arith, h'))) is in
    let here = passed (o.letter + count) (omega arith) (omega arith) in
    let e : (o.letter + count) + 1 ≡ o.letter + suc count = omega arith in
    subst (λ z. IsKept k g marked (record o { letter = z })) e
    (kept_known k g marked (listing_of (record o { letter = o.letter + count })) so_far here.0 less (omega (arith, within)) here.1 here.2.0 here.2.1)

pub kept_on : (k : ℕ) (g : Graph) (marked : List Bool) (o : Order) (letter : ℕ) → o.row < length o.steps.items → o.letter ≤ letter → letter ≤ k
    → ((a : ℕ) → o.letter ≤ a → a < letter → LeadsToPlaced g o (step_at o.steps.items o.row).node a) → IsKept k g marked o → IsKept k g marked (record o { letter = letter })
kept_on k g marked o letter less from within passed is =
    let e : o.letter + (letter - o.letter) ≡ letter = omega (arith, from) in
    subst (λ z. IsKept k g marked (record o { letter = z })) e
    (kept_passed k g marked o (letter - o.letter) less (omega (arith, e, within)) (λ a h h'. passed a h (omega (arith, e, h'))) is)

-- nodes in the order are nodes
pub kept_inside : (k : ℕ) (g : Graph) (marked : List Bool) (o : Order) (j : ℕ) → IsKept k g marked o → j < length o.steps.items → (step_at o.steps.items j).node < length o.places.items
kept_inside k g marked o j is h = elim (cases_lt ((step_at o.steps.items j).node) (length o.places.items)) [
  | inl l ↦ l
  | inr past ↦ absurd (let e : None ≡ Some j = sym (get_or_past o.places.items ((step_at o.steps.items j).node) None past) ∙ is.order.walk.back j h in let bot : ⊥ = cc in bot)
]
