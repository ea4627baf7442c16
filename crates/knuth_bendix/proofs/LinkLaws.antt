-- The laws of linked words.
use Rattle.std.proofs.Common.{ℕ, List, [], ◌∷◌, ◌++◌, refl, sym, subst, subst₂, arith, inl, inr}
use Rattle.theory.specs.Word.{Word}
use Rattle.theory.specs.ShortLex.{◌≺◌}
use Rattle.theory.specs.Chain.{Step, Chain}
use Rattle.theory.specs.Completion.{Reduces}
use Rattle.theory.specs.declared.Kind.TheVariants.{TwoSided}
use Rattle.theory.proofs.Words.{before_context, before_no_longer, before_trans}
use Rattle.theory.proofs.Chains.{joined_refl, joined_trans, joined_one, joined_least, joined_map, joined_symm, step_kept, step_more, step_whole}
use Rattle.theory.proofs.Completeness.{reduces_falls, step_falls}
use Rattle.knuth_bendix.specs.Links.{LinkStep, Linked, IsBelow, IsShort, NoLater, IsNoMore, IsCovered}

-- Linked is an equivalence
pub linked_refl : (S : Word → Word → Type 0) (Q : Word → Type 0) (u : Word) → Linked S Q u u
linked_refl S Q = joined_refl (LinkStep S Q)

pub linked_trans : (S : Word → Word → Type 0) (Q : Word → Type 0) (u v w : Word) → Linked S Q u v → Linked S Q v w → Linked S Q u w
linked_trans S Q = joined_trans (LinkStep S Q)

pub linked_symm : (S : Word → Word → Type 0) (Q : Word → Type 0) (u v : Word) → Linked S Q u v → Linked S Q v u
linked_symm S Q = joined_symm (LinkStep S Q) back
  where
    back : (u v : Word) → LinkStep S Q u v → LinkStep S Q v u
    back u v h = record { left = h.right; right = h.left; step = elim (h.step) [ inl a ↦ inr a | inr b ↦ inl b ] }

-- one step links
pub linked_one : (S : Word → Word → Type 0) (Q : Word → Type 0) (u v : Word) → Q u → Q v → Step S TwoSided u v → Linked S Q u v
linked_one S Q u v left right step = joined_one (LinkStep S Q) u v (record { left = left; right = right; step = inl step })

-- and so does a pair
pub linked_pair : (S : Word → Word → Type 0) (Q : Word → Type 0) (u v : Word) → Q u → Q v → S u v → Linked S Q u v
linked_pair S Q u v left right pair = linked_one S Q u v left right (step_whole S TwoSided u v pair)

-- a lesser demand on the words
pub linked_weaker : (S : Word → Word → Type 0) (Q Q' : Word → Type 0) → ((x : Word) → Q x → Q' x) → (u v : Word) → Linked S Q u v
    → Linked S Q' u v
linked_weaker S Q Q' weaker = joined_map (LinkStep S Q) (LinkStep S Q') (λ w. w) one
  where
    one : (u v : Word) → LinkStep S Q u v → LinkStep S Q' u v
    one u v h = record { left = weaker u h.left; right = weaker v h.right; step = h.step }

-- more pairs
pub linked_more : (S S' : Word → Word → Type 0) (Q : Word → Type 0) → ((r s : Word) → S r s → S' r s) → (u v : Word) → Linked S Q u v
    → Linked S' Q u v
linked_more S S' Q more = joined_map (LinkStep S Q) (LinkStep S' Q) (λ w. w) one
  where
    one : (u v : Word) → LinkStep S Q u v → LinkStep S' Q u v
    one u v h = record {
      left = h.left;
      right = h.right;
      step = elim (h.step) [ inl a ↦ inl (step_more S S' TwoSided more u v a) | inr b ↦ inr (step_more S S' TwoSided more v u b) ];
    }

-- in a context
pub linked_context : (S : Word → Word → Type 0) (Q Q' : Word → Type 0) (x y : Word) → ((t : Word) → Q t → Q' (x ++ (t ++ y)))
    → (u v : Word) → Linked S Q u v → Linked S Q' (x ++ (u ++ y)) (x ++ (v ++ y))
linked_context S Q Q' x y keeps = joined_map (LinkStep S Q) (LinkStep S Q') (λ w. x ++ (w ++ y)) one
  where
    one : (u v : Word) → LinkStep S Q u v → LinkStep S Q' (x ++ (u ++ y)) (x ++ (v ++ y))
    one u v h = record {
      left = keeps u h.left;
      right = keeps v h.right;
      step = elim (h.step) [ inl a ↦ inl (step_kept S TwoSided u v x y a tt) | inr b ↦ inr (step_kept S TwoSided v u x y b tt) ];
    }

-- a word no later than another in a context
no_later_kept : (Q : Word → Type 0) → ((x y : Word) → Q x → y ≺ x → Q y) → (x u y t : Word) → Q (x ++ (u ++ y)) → NoLater t u
    → Q (x ++ (t ++ y))
no_later_kept Q down x u y t h (inl less) = down (x ++ (u ++ y)) (x ++ (t ++ y)) h (before_context x t u y less)
no_later_kept Q down x u y t h (inr e) = subst (λ w. Q (x ++ (w ++ y))) (sym e) h

-- links by what is covered
pub linked_covered : (S S' : Word → Word → Type 0) → IsCovered S S' → (Q : Word → Type 0) → ((x y : Word) → Q x → y ≺ x → Q y) → (u v : Word)
    → Linked S Q u v → Linked S' Q u v
linked_covered S S' covered Q down = joined_least (LinkStep S Q) (Linked S' Q) (linked_refl S' Q) (linked_trans S' Q) one
  where
    at : (u v : Word) → Q u → Q v → Step S TwoSided u v → Linked S' Q u v
    at u v left right s =
        let here : Q (s.before ++ (s.from ++ s.after)) = subst Q s.source left in
        let there : Q (s.before ++ (s.to ++ s.after)) = subst Q s.target right in
        let keeps : (t : Word) → IsNoMore s.from s.to t → Q (s.before ++ (t ++ s.after)) = λ t h. elim h [
          | inl a ↦ no_later_kept Q down s.before s.from s.after t here a
          | inr b ↦ no_later_kept Q down s.before s.to s.after t there b
        ] in
        subst₂ (λ a b. Linked S' Q a b) (sym s.source) (sym s.target)
        (linked_context S' (IsNoMore s.from s.to) Q s.before s.after keeps s.from s.to (covered s.from s.to s.base))

    one : (u v : Word) → LinkStep S Q u v → Linked S' Q u v
    one u v h = elim (h.step) [ inl a ↦ at u v h.left h.right a | inr b ↦ linked_symm S' Q v u (at v u h.right h.left b) ]

-- a word no later than one that comes before another
pub no_later_before : (x u v : Word) → NoLater x u → u ≺ v → x ≺ v
no_later_before x u v (inl h) less = before_trans x u v h less
no_later_before x u v (inr e) less = subst (λ w. w ≺ v) (sym e) less

pub no_later_trans : (x u v : Word) → NoLater x u → NoLater u v → NoLater x v
no_later_trans x u v h (inl less) = inl (no_later_before x u v h less)
no_later_trans x u v h (inr e) = subst (λ w. NoLater x w) e h

-- what comes before a word with such a property has it
pub no_later_down : (u x y : Word) → NoLater x u → y ≺ x → NoLater y u
no_later_down u x y h less = no_later_trans y x u (inl less) h

pub no_more_down : (u v x y : Word) → IsNoMore u v x → y ≺ x → IsNoMore u v y
no_more_down u v x y (inl h) less = inl (no_later_down u x y h less)
no_more_down u v x y (inr h) less = inr (no_later_down v x y h less)

pub below_down : (w x y : Word) → IsBelow w x → y ≺ x → IsBelow w y
below_down w x y h less = before_trans y x w less h

pub short_down : (L : ℕ) (x y : Word) → IsShort L x → y ≺ x → IsShort L y
short_down L x y h less = omega (arith, h, before_no_longer y x less)

-- a relation covers each that is a part of it
pub covered_more : (S S' : Word → Word → Type 0) → ((r s : Word) → S r s → S' r s) → IsCovered S S'
covered_more S S' more u v h = linked_pair S' (IsNoMore u v) u v (inl (inr refl)) (inr (inr refl)) (more u v h)

pub covered_trans : (S S' S'' : Word → Word → Type 0) → IsCovered S S' → IsCovered S' S'' → IsCovered S S''
covered_trans S S' S'' first second u v h = linked_covered S' S'' second (IsNoMore u v) (no_more_down u v) u v (first u v h)

-- rules that fall link a word to each that they lead it to
pub reduces_linked : (R : Word → Word → Type 0) → ((l r : Word) → R l r → r ≺ l) → (u w : Word) → Reduces R u w
    → Linked R (λ x. NoLater x u) u w
reduces_linked R falls u w r = go u r.0 r.1
  where
    go : (u : Word) (ws : List Word) → Chain (Step R TwoSided) u ws w → Linked R (λ x. NoLater x u) u w
    go u [] e = subst (λ x. Linked R (λ x. NoLater x u) u x) e (linked_refl R (λ x. NoLater x u) u)
    go u (v ∷ vs) c =
        let less : v ≺ u = step_falls R falls u v c.0 in
        let first = linked_one R (λ x. NoLater x u) u v (inr refl) (inl less) c.0 in
        let rest = linked_weaker R (λ x. NoLater x v) (λ x. NoLater x u) (λ x h. no_later_trans x v u h (inl less)) v w (go v vs c.1) in
        linked_trans R (λ x. NoLater x u) u v w first rest

-- and to no later word
pub reduces_no_later : (R : Word → Word → Type 0) → ((l r : Word) → R l r → r ≺ l) → (u w : Word) → Reduces R u w → NoLater w u
reduces_no_later R falls u w r = elim (reduces_falls R falls u w r) [ inl e ↦ inr (sym e) | inr less ↦ inl less ]
