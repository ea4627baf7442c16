-- Chains and the relation that they make.
use Rattle.std.proofs.Common.{◌≡◌, List, [], ◌∷◌, ◌++◌, refl, sym, subst, append_assoc, append-nil, inl, inr}
use Rattle.theory.specs.Word.{Word}
use Rattle.theory.specs.Congruence.{Congruence, EitherWay}
use Rattle.theory.specs.Chain.{MayStand, Step, StepBy, Chain, Joined, Related, IsCongruenceOf}
use Rattle.theory.specs.declared.Kind.{Kind}
use Rattle.theory.specs.declared.Kind.TheVariants.{TwoSided, Right, Left}

-- a step at one place
pub step_at : (B : Word → Word → Type 0) (x r s y : Word) → B r s → Step B TwoSided (x ++ (r ++ y)) (x ++ (s ++ y))
step_at B x r s y h = record { before = x; from = r; to = s; after = y; base = h; place = tt; source = refl; target = refl }

-- a step of the whole word
pub step_whole : (B : Word → Word → Type 0) (kind : Kind) (r s : Word) → B r s → Step B kind r s
step_whole B kind r s h = record {
  before = [];
  from = r;
  to = s;
  after = [];
  base = h;
  place = alone kind;
  source = sym (append-nil r);
  target = sym (append-nil s);
}
  where
    alone : (kind : Kind) → MayStand kind [] []
    alone TwoSided = tt
    alone Right = refl
    alone Left = refl

-- a step by the same or more
pub step_more : (B C : Word → Word → Type 0) (kind : Kind) → ((r s : Word) → B r s → C r s) → (u v : Word) → Step B kind u v → Step C kind u v
step_more B C kind more u v s = record {
  before = s.before;
  from = s.from;
  to = s.to;
  after = s.after;
  base = more s.from s.to s.base;
  place = s.place;
  source = s.source;
  target = s.target;
}

chain_append : (S : Word → Word → Type 0) (u v w : Word) (us vs : List Word) → Chain S u us v → Chain S v vs w → Chain S u (us ++ vs) w
chain_append S u v w [] vs a b = subst (λ x. Chain S x vs w) (sym a) b
chain_append S u v w (x ∷ us) vs a b = (a.0, chain_append S x v w us vs a.1 b)

pub joined_refl : (S : Word → Word → Type 0) (u : Word) → Joined S u u
joined_refl S u = ([], refl)

pub joined_trans : (S : Word → Word → Type 0) (u v w : Word) → Joined S u v → Joined S v w → Joined S u w
joined_trans S u v w a b = (a.0 ++ b.0, chain_append S u v w a.0 b.0 a.1 b.1)

pub joined_one : (S : Word → Word → Type 0) (u v : Word) → S u v → Joined S u v
joined_one S u v h = (v ∷ [], (h, refl))

-- a chain's relation lies within each reflexive, transitive one that has the steps
pub joined_least : (S R : Word → Word → Type 0) → ((u : Word) → R u u) → ((u v w : Word) → R u v → R v w → R u w)
    → ((u v : Word) → S u v → R u v) → (u v : Word) → Joined S u v → R u v
joined_least S R same trans one u v h = go u h.0 h.1
  where
    go : (u : Word) (ws : List Word) → Chain S u ws v → R u v
    go u [] e = subst (λ x. R u x) e (same u)
    go u (w ∷ ws) c = trans u w v (one u w c.0) (go w ws c.1)

-- a map that keeps steps keeps chains
pub joined_map : (S R : Word → Word → Type 0) (f : Word → Word) → ((u v : Word) → S u v → R (f u) (f v)) → (u v : Word) → Joined S u v
    → Joined R (f u) (f v)
joined_map S R f one =
    joined_least S (λ u v. Joined R (f u) (f v)) (λ u. joined_refl R (f u)) (λ u v w. joined_trans R (f u) (f v) (f w))
    (λ u v h. joined_one R (f u) (f v) (one u v h))

pub joined_symm : (S : Word → Word → Type 0) → ((u v : Word) → S u v → S v u) → (u v : Word) → Joined S u v → Joined S v u
joined_symm S back =
    joined_least S (λ u v. Joined S v u) (λ u. joined_refl S u) (λ u v w a b. joined_trans S w v u b a) (λ u v h. joined_one S v u (back u v h))

pub either_symm : (pairs : List (Word × Word)) (r s : Word) → EitherWay pairs r s → EitherWay pairs s r
either_symm pairs r s h = elim h [ inl a ↦ inr a | inr b ↦ inl b ]

pub step_symm : (B : Word → Word → Type 0) (kind : Kind) → ((r s : Word) → B r s → B s r) → (u v : Word) → Step B kind u v → Step B kind v u
step_symm B kind back u v h =
    record {
      before = h.before;
      from = h.to;
      to = h.from;
      after = h.after;
      base = back h.from h.to h.base;
      place = h.place;
      source = h.target;
      target = h.source;
    }

regroup : (x before from after y u : Word) → u ≡ before ++ (from ++ after) → x ++ (u ++ y) ≡ (x ++ before) ++ (from ++ (after ++ y))
regroup x before from after y u e = rw e (simp append_assoc)

stands_in : (kind : Kind) (x before after y : Word) → MayStand kind before after → MayStand kind x y
    → MayStand kind (x ++ before) (after ++ y)
stands_in TwoSided x before after y h k = tt
stands_in Right x before after y h k = rw (k, h) refl
stands_in Left x before after y h k = rw (h, k) refl

-- a step in a context that its kind allows
pub step_kept : (B : Word → Word → Type 0) (kind : Kind) (u v x y : Word) → Step B kind u v → MayStand kind x y
    → Step B kind (x ++ (u ++ y)) (x ++ (v ++ y))
step_kept B kind u v x y h k =
    record {
      before = x ++ h.before;
      from = h.from;
      to = h.to;
      after = h.after ++ y;
      base = h.base;
      place = stands_in kind x h.before h.after y h.place k;
      source = regroup x h.before h.from h.after y u h.source;
      target = regroup x h.before h.to h.after y v h.target;
    }

-- any base and pairs make a congruence of the pairs' kind
pub joined_congruence : (B : Word → Word → Type 0) (kind : Kind) (pairs : List (Word × Word)) → ((r s : Word) → B r s → B s r)
    → IsCongruenceOf kind (Joined (StepBy B kind pairs))
joined_congruence B kind pairs back =
    record {
      reflexive = joined_refl (StepBy B kind pairs);
      symmetric = joined_symm (StepBy B kind pairs) turn;
      transitive = joined_trans (StepBy B kind pairs);
      kept = λ x y k. joined_map (StepBy B kind pairs) (StepBy B kind pairs) (λ u. x ++ (u ++ y)) (inside x y k);
    }
  where
    turn : (u v : Word) → StepBy B kind pairs u v → StepBy B kind pairs v u
    turn u v h = elim h [ inl a ↦ inl (step_symm B TwoSided back u v a) | inr b ↦ inr (step_symm (EitherWay pairs) kind (either_symm pairs) u v b) ]

    inside : (x y : Word) → MayStand kind x y → (u v : Word) → StepBy B kind pairs u v → StepBy B kind pairs (x ++ (u ++ y)) (x ++ (v ++ y))
    inside x y k u v h = elim h [ inl a ↦ inl (step_kept B TwoSided u v x y a tt) | inr b ↦ inr (step_kept (EitherWay pairs) kind u v x y b k) ]

-- `~` is a congruence of its kind
pub related_congruence : (c : Congruence) → IsCongruenceOf c.kind (Related c)
related_congruence c = joined_congruence (EitherWay c.presentation.relations) c.kind c.pairs (either_symm c.presentation.relations)

-- a relation read at any place
pub related_by_relation : (c : Congruence) (x r s y : Word) → EitherWay c.presentation.relations r s
    → Related c (x ++ (r ++ y)) (x ++ (s ++ y))
related_by_relation c x r s y h =
    joined_one (StepBy (EitherWay c.presentation.relations) c.kind c.pairs) (x ++ (r ++ y)) (x ++ (s ++ y)) (inl (step_at (EitherWay c.presentation.relations) x r s y h))
