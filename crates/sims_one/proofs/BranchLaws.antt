-- Branches of the search.
use Rattle.std.proofs.Common.{◌≡◌, ℕ, zero, suc, ◌⊎◌, ◌<◌, ◌≤◌, List, [], ◌∷◌, ◌++◌, length, take, drop, slice_get, Option, Some, None, MatchOption, option_to_list, refl, sym, ◌∙◌, ap, subst, subst₂, arith, inl, inr}
use Rattle.std.proofs.lemmas.Bool.{cases_lt}
use Rattle.std.proofs.lemmas.List.{length_push, length-append, take_at, length-take-le, take-append-le, drop-append-le}
use Rattle.std.proofs.lemmas.Option.{slice_get_within}
use Rattle.std.proofs.Math.ListN.{drop_of_length-le}
use Rattle.theory.specs.Congruence.{Presentation}
use Rattle.sims_one.specs.declared.trail.Edge.{Edge}
use Rattle.sims_one.specs.declared.known.Mark.{Mark}
use Rattle.sims_one.specs.declared.known.Known.{Known}
use Rattle.sims_one.specs.declared.branch.Levels.{Levels}
use Rattle.sims_one.specs.Edges.{without}
use Rattle.sims_one.specs.Targets.{IsFront, AreAllowed}
use Rattle.sims_one.specs.Known.{HasEdges, Grows, IsKnown, WasKnown, IsBranch}
use Rattle.sims_one.proofs.FrontLaws.{front_none, front_front, allowed_front}
use Rattle.sims_one.proofs.KnownLaws.{known_start}
use Rattle.sims_one.proofs.TrailLaws.{without_more, without_twice}

-- marks in order
mark_before : (ms : List Mark) (new : Mark) (d : ℕ) (a : Mark) → d < length ms → slice_get (ms ++ new ∷ []) d ≡ Some a → slice_get ms d ≡ Some a
mark_before [] new d a h e = absurd (omega arith)
mark_before (x ∷ ms) new zero a h e = e
mark_before (x ∷ ms) new (suc d) a h e = mark_before ms new d a (omega arith) e

mark_last : (ms : List Mark) (new : Mark) (d : ℕ) (a : Mark) → length ms ≤ d → slice_get (ms ++ new ∷ []) d ≡ Some a → (d ≡ length ms) × (new ≡ a)
mark_last [] new zero a h e = (refl, let is : new ≡ a = cc in is)
mark_last [] new (suc d) a h e = cc
mark_last (x ∷ ms) new zero a h e = absurd (omega arith)
mark_last (x ∷ ms) new (suc d) a h e = let is = mark_last ms new d a (omega arith) e in (ap suc is.0, is.1)

mark_there : (ms : List Mark) (new : Mark) (d : ℕ) (a : Mark) → slice_get ms d ≡ Some a → slice_get (ms ++ new ∷ []) d ≡ Some a
mark_there [] new d a e = cc
mark_there (x ∷ ms) new zero a e = e
mark_there (x ∷ ms) new (suc d) a e = mark_there ms new d a e

mark_at_end : (ms : List Mark) (new : Mark) → slice_get (ms ++ new ∷ []) (length ms) ≡ Some new
mark_at_end [] new = refl
mark_at_end (x ∷ ms) new = mark_at_end ms new

no_mark : (ms : List Mark) (d : ℕ) (a : Mark) → ms ≡ [] → slice_get ms d ≡ Some a → ⊥
no_mark [] d a is e = let bad : ⊥ = cc in bad
no_mark (x ∷ ms) d a is e = let bad : ⊥ = cc in bad

pub branch_start : (p : Presentation) (n : ℕ) (levels : Levels) → levels.known.nodes ≡ 1 → ((u : List ℕ) → HasEdges levels.known.targets u) → levels.marks.items ≡ []
    → IsBranch p n [] levels
branch_start p n levels nodes edges none = record {
  front = front_none p.letters;
  allowed = λ i d h. absurd (omega arith);
  long = ap length none;
  last = known_start p n levels.known nodes edges;
  marked = λ d a e. absurd (no_mark levels.marks.items d a none e);
  rising = λ c d a b less e h. absurd (no_mark levels.marks.items c a none e);
}

-- what was known at a mark
module _ (p : Presentation) (n : ℕ) (t : List ℕ) (known : Known) (mark : Mark) where
  was_now : IsKnown p n t known → mark.nodes ≡ known.nodes → mark.edges ≡ length known.trail → WasKnown p n t known mark
  was_now is nodes edges = record {
    nodes = nodes ∙ is.nodes;
    few = omega (arith, edges);
    edges = λ u table w.
        let same : without known.targets (drop mark.edges known.trail) ≡ known.targets = ap (without known.targets) (drop_of_length-le known.trail (omega (arith, edges))) in
        subst (λ (ts : List (Option ℕ)). HasEdges ts u) (sym same) (is.edges u table w);
  }

  was_grown : (new : Known) → WasKnown p n t known mark → Grows known new → WasKnown p n t new mark
  was_grown new was g = record {
    nodes = was.nodes;
    few = omega (arith, was.few, ap length g.trail, length-append known.trail g.since);
    edges = λ u table w.
        let behind = drop mark.edges known.trail in
        let same : without new.targets (drop mark.edges new.trail) ≡ without known.targets behind =
        ap (λ (es : List Edge). without new.targets (drop mark.edges es)) g.trail ∙ ap (without new.targets) (drop-append-le mark.edges known.trail g.since was.few)
        ∙ without_more new.targets behind g.since ∙ ap (λ (ts : List (Option ℕ)). without ts behind) g.targets in
        subst (λ (ts : List (Option ℕ)). HasEdges ts u) (sym same) (was.edges u table w);
  }

  was_back : (new : Known) (to : Mark) → WasKnown p n t known mark → mark.edges ≤ to.edges → to.edges ≤ length known.trail
      → new.targets ≡ without known.targets (drop to.edges known.trail) → new.trail ≡ take to.edges known.trail → WasKnown p n t new mark
  was_back new to was less few targets trail = record {
    nodes = was.nodes;
    few = omega (arith, less, ap length trail, length-take-le to.edges known.trail few);
    edges = λ u table w.
        let same : without new.targets (drop mark.edges new.trail) ≡ without known.targets (drop mark.edges known.trail) =
        ap (λ (ts : List (Option ℕ)). without ts (drop mark.edges new.trail)) targets
        ∙ ap (λ (es : List Edge). without (without known.targets (drop to.edges known.trail)) (drop mark.edges es)) trail
        ∙ without_twice known.targets known.trail mark.edges to.edges less few in
        subst (λ (ts : List (Option ℕ)). HasEdges ts u) (sym same) (was.edges u table w);
  }

  was_same : (new : Known) → WasKnown p n t known mark → new.targets ≡ known.targets → new.trail ≡ known.trail → WasKnown p n t new mark
  was_same new was targets trail = record {
    nodes = was.nodes;
    few = omega (arith, was.few, ap length trail);
    edges = λ u table w. subst₂ (λ (ts : List (Option ℕ)) (es : List Edge). HasEdges (without ts (drop mark.edges es)) u) (sym targets) (sym trail) (was.edges u table w);
  }

module _ (p : Presentation) (n : ℕ) (t : List ℕ) (levels : Levels) (is : IsBranch p n t levels) where
  pub branch_push : (m : ℕ) (mark : Mark) (new : Levels) → IsFront p.letters (t ++ m ∷ []) → AreAllowed p n (t ++ m ∷ []) → IsKnown p n (t ++ m ∷ []) new.known
      → Grows levels.known new.known → mark.nodes ≡ levels.known.nodes → mark.edges ≡ length levels.known.trail → new.marks.items ≡ levels.marks.items ++ mark ∷ []
      → IsBranch p n (t ++ m ∷ []) new
  branch_push m mark new front allowed last g nodes edges pushed = record {
    front = front;
    allowed = allowed;
    long = omega (arith, ap length pushed, length_push levels.marks.items mark, length_push t m, is.long);
    last = last;
    marked = λ d a e. was d a (at d a e) (cases_lt d (length levels.marks.items));
    rising = λ c d a b less e h. low c d a b less (at c a e) (at d b h) (cases_lt c (length levels.marks.items)) (cases_lt d (length levels.marks.items));
  }
    where
      at : (d : ℕ) (a : Mark) → slice_get new.marks.items d ≡ Some a → slice_get (levels.marks.items ++ mark ∷ []) d ≡ Some a
      at d a e = subst (λ (ms : List Mark). slice_get ms d ≡ Some a) pushed e

      was : (d : ℕ) (a : Mark) → slice_get (levels.marks.items ++ mark ∷ []) d ≡ Some a → (d < length levels.marks.items) ⊎ (length levels.marks.items ≤ d)
          → WasKnown p n (take d (t ++ m ∷ [])) new.known a
      was d a e (inl less) =
          let front : take d (t ++ m ∷ []) ≡ take d t = take-append-le d t (m ∷ []) (omega (arith, less, is.long)) in
          subst (λ (xs : List ℕ). WasKnown p n xs new.known a) (sym front)
          (was_grown p n (take d t) levels.known a new.known (is.marked d a (mark_before levels.marks.items mark d a less e)) g)
      was d a e (inr more) =
          let last = mark_last levels.marks.items mark d a more e in
          let front : take d (t ++ m ∷ []) ≡ t = take_at t (m ∷ []) d (omega (arith, last.0, is.long)) in
          subst₂ (λ (xs : List ℕ) (z : Mark). WasKnown p n xs new.known z) (sym front) last.1
          (was_grown p n t levels.known mark new.known (was_now p n t levels.known mark is.last nodes edges) g)

      low : (c d : ℕ) (a b : Mark) → c ≤ d → slice_get (levels.marks.items ++ mark ∷ []) c ≡ Some a → slice_get (levels.marks.items ++ mark ∷ []) d ≡ Some b
          → (c < length levels.marks.items) ⊎ (length levels.marks.items ≤ c) → (d < length levels.marks.items) ⊎ (length levels.marks.items ≤ d) → a.edges ≤ b.edges
      low c d a b less e h (inl first) (inl second) = is.rising c d a b less (mark_before levels.marks.items mark c a first e) (mark_before levels.marks.items mark d b second h)
      low c d a b less e h (inl first) (inr second) =
          let few = (is.marked c a (mark_before levels.marks.items mark c a first e)).few in
          omega (arith, few, edges, ap (λ (z : Mark). z.edges) (mark_last levels.marks.items mark d b second h).1)
      low c d a b less e h (inr first) second =
          let one = mark_last levels.marks.items mark c a first e in
          let two = mark_last levels.marks.items mark d b (omega (arith, first, less)) h in
          omega (arith, ap (λ (z : Mark). z.edges) one.1, ap (λ (z : Mark). z.edges) two.1)

  pub branch_pop : (s : List ℕ) (m : ℕ) (new : Levels) (mark : Mark) → t ≡ s ++ m ∷ [] → levels.marks.items ≡ new.marks.items ++ mark ∷ []
      → new.known.nodes ≡ mark.nodes → new.known.targets ≡ without levels.known.targets (drop mark.edges levels.known.trail)
      → new.known.trail ≡ take mark.edges levels.known.trail → IsBranch p n s new
  branch_pop s m new mark e popped nodes targets trail = record {
    front = front_front p.letters s (m ∷ []) (subst (λ (xs : List ℕ). IsFront p.letters xs) e is.front);
    allowed = allowed_front p n s (m ∷ []) (subst (λ (xs : List ℕ). AreAllowed p n xs) e is.allowed);
    long = long;
    last = record {
      nodes = nodes ∙ there.nodes;
      edges = λ u table w. subst (λ (ts : List (Option ℕ)). HasEdges ts u) (sym targets) (there.edges u table w);
    };
    marked = λ d a h.
        let inside : d < length new.marks.items = slice_get_within new.marks.items d a h in
        let front : take d t ≡ take d s = ap (take d) e ∙ take-append-le d s (m ∷ []) (omega (arith, inside, long)) in
        let low : a.edges ≤ mark.edges = is.rising d (length new.marks.items) a mark (omega (arith, inside)) (at d a h) end in
        was_back p n (take d s) levels.known a new.known mark (subst (λ (xs : List ℕ). WasKnown p n xs levels.known a) front (is.marked d a (at d a h)))
        low there.few targets trail;
    rising = λ c d a b less h i. is.rising c d a b less (at c a h) (at d b i);
  }
    where
      long : length new.marks.items ≡ length s
      long = omega (arith, is.long, ap length e, length_push s m, ap length popped, length_push new.marks.items mark)

      at : (d : ℕ) (a : Mark) → slice_get new.marks.items d ≡ Some a → slice_get levels.marks.items d ≡ Some a
      at d a h = subst (λ (ms : List Mark). slice_get ms d ≡ Some a) (sym popped) (mark_there new.marks.items mark d a h)

      end : slice_get levels.marks.items (length new.marks.items) ≡ Some mark
      end = subst (λ (ms : List Mark). slice_get ms (length new.marks.items) ≡ Some mark) (sym popped) (mark_at_end new.marks.items mark)

      there : WasKnown p n s levels.known mark
      there =
          let front : take (length new.marks.items) t ≡ s = ap (take (length new.marks.items)) e ∙ take_at s (m ∷ []) (length new.marks.items) (sym long) in
          subst (λ (xs : List ℕ). WasKnown p n xs levels.known mark) front (is.marked (length new.marks.items) mark end)

  pub branch_same : (new : Levels) → new.known.nodes ≡ levels.known.nodes → new.known.targets ≡ levels.known.targets → new.known.trail ≡ levels.known.trail
      → new.marks.items ≡ levels.marks.items → IsBranch p n t new
  branch_same new nodes targets trail marks = record {
    front = is.front;
    allowed = is.allowed;
    long = ap length marks ∙ is.long;
    last = record { nodes = nodes ∙ is.last.nodes; edges = λ u table w. subst (λ (ts : List (Option ℕ)). HasEdges ts u) (sym targets) (is.last.edges u table w) };
    marked = λ d a e. was_same p n (take d t) levels.known a new.known (is.marked d a (at d a e)) targets trail;
    rising = λ c d a b less e h. is.rising c d a b less (at c a e) (at d b h);
  }
    where
      at : (d : ℕ) (a : Mark) → slice_get new.marks.items d ≡ Some a → slice_get levels.marks.items d ≡ Some a
      at d a e = subst (λ (ms : List Mark). slice_get ms d ≡ Some a) marks e

-- the last target is taken away again
pub popped : (p : Presentation) (n : ℕ) (s rest t : List ℕ) (levels : Levels) (m : ℕ) (r : Option ℕ) → s ≡ rest ++ option_to_list r → s ≡ t ++ m ∷ []
    → MatchOption r (s ≡ []) (λ _. IsBranch p n rest levels) → (rest ≡ t) × IsBranch p n rest levels
popped p n s rest t levels m None e is h = absurd (omega (arith, ap length h, ap length is, length_push t m))
popped p n s rest t levels m (Some x) e is h =
    let both : rest ++ x ∷ [] ≡ t ++ m ∷ [] = sym e ∙ is in
    let long : length rest ≡ length t = omega (arith, ap length both, length_push rest x, length_push t m) in
    (sym (take_at rest (x ∷ []) (length t) long) ∙ ap (take (length t)) both ∙ take_at t (m ∷ []) (length t) refl, h)
