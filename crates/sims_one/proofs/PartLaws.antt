-- Parts go to groups, run there, and come back in order.
use Rattle.std.proofs.Common.{◌≡◌, ℕ, zero, suc, ◌-◌, ◌<◌, ◌≤◌, Bool, true, false, ◌&&◌, List, [], ◌∷◌, ◌++◌, All, length, map, get_or, set, Vec, vec_capacity, Global, refl, sym, ◌∙◌, ap, subst}
use Rattle.std.specs.List.{AllZip}
use Rattle.std.proofs.lemmas.List.Elements.{All-nil, All-cons, All-map}
use Rattle.workers.specs.Dealt.{Dealt, dealt}
use Rattle.workers.proofs.Zips.{zip_from_each, zip_get, zip_again}
use Rattle.workers.proofs.Moves.{GoIn, none_in, one_in, ComeOut, none_out, one_out, all_out}
use Rattle.sims_one.specs.declared.parts.Part.{Ghosts}
use Rattle.sims_one.specs.declared.groups.Numbered.{Numbered}
use Rattle.sims_one.specs.Parts.{part_of, HasRun, IsFresh, Runs}

module _ {X Y : Type 0} (f : X → Y) where
  -- what f keeps at one place
  pub map_kept : (xs : List X) (i : ℕ) (x y : X) → f y ≡ f (get_or xs i x) → map f (set xs i y) ≡ map f xs
  map_kept [] i x y e = refl
  map_kept (z ∷ xs) zero x y e = ap (λ (v : Y). v ∷ map f xs) e
  map_kept (z ∷ xs) (suc i) x y e = ap (λ (vs : List Y). f z ∷ vs) (map_kept xs i x y e)

module _ {A : Type 0} where
  -- the last parts have gone to groups
  pub record Dealing (first : List A) (capacity : ℕ) (parts : Vec A Global) (groups : Dealt (Numbered A)) : Type 0 where
    pub gone : GoIn part_of first capacity parts groups
    pub fresh : All IsFresh groups.items

  pub dealing_none : (parts : Vec A Global) (groups : Dealt (Numbered A)) → groups ≡ dealt (length parts.items) [] → Dealing parts.items (vec_capacity parts) parts groups
  dealing_none parts groups none = record { gone = none_in part_of parts groups none; fresh = rw none (All-nil IsFresh) }

  pub dealing_more : (first : List A) (capacity : ℕ) (parts left : Vec A Global) (groups : Dealt (Numbered A)) (p : A) (n : ℕ) → Dealing first capacity parts groups → parts.items ≡ left.items ++ p ∷ [] → vec_capacity left ≡ vec_capacity parts
      → Dealing first capacity left (dealt (groups.room - 1) ((record { number = n; part = p; ran = false }) ∷ groups.items))
  dealing_more first capacity parts left groups p n d popped same_room = record {
    gone = one_in part_of first capacity parts left groups (record { number = n; part = p; ran = false }) d.gone popped same_room;
    fresh = All-cons IsFresh (record { number = n; part = p; ran = false }) groups.items refl d.fresh;
  }

  -- the first parts are back
  pub record Gathering (was : List (Numbered A)) (all_ran : Bool) (groups : Dealt (Numbered A)) (parts : Vec A Global) : Type 0 where
    pub back : ComeOut part_of was groups parts
    pub ran : all_ran ≡ true → All HasRun groups.items → All HasRun was

  pub gathering_none : (groups : Dealt (Numbered A)) (parts : Vec A Global) → parts.items ≡ [] → length groups.items ≤ vec_capacity parts → Gathering groups.items true groups parts
  gathering_none groups parts none room = record { back = none_out part_of groups parts none room; ran = λ e all. all }

  pub gathering_more : (was : List (Numbered A)) (all_ran : Bool) (groups left : Dealt (Numbered A)) (parts more : Vec A Global) (n : Numbered A) → Gathering was all_ran groups parts → groups.items ≡ n ∷ left.items → more.items ≡ parts.items ++ n.part ∷ [] → vec_capacity more ≡ vec_capacity parts
      → Gathering was (all_ran && n.ran) left more
  gathering_more was all_ran groups left parts more n s taken pushed same_room = record {
    back = one_out part_of was groups left parts more n s.back taken pushed same_room;
    ran = λ e all. let both = both_true all_ran n.ran e in s.ran both.0 (subst (All HasRun) (sym taken) (All-cons HasRun n left.items both.1 all));
  }
    where
      both_true : (b c : Bool) → (b && c) ≡ true → (b ≡ true) × (c ≡ true)
      both_true true c e = (refl, e)
      both_true false c e = absurd (cc)

  pub gathered : (was : List (Numbered A)) (all_ran : Bool) (groups : Dealt (Numbered A)) (parts : Vec A Global) → Gathering was all_ran groups parts → groups.items ≡ [] → (parts.items ≡ map part_of was) × (all_ran ≡ true → All HasRun was)
  gathered was all_ran groups parts s none = (all_out part_of was groups parts s.back none, λ e. s.ran e (subst (All HasRun) (sym none) (All-nil HasRun)))

module _ {A : Type 0} (kind : Ghosts A) where
  pub none_ran : (ns : List (Numbered A)) → All IsFresh ns → AllZip (Runs kind) ns ns
  none_ran ns fresh = zip_from_each (Runs kind) ns ns refl (λ i d low. record { kept = refl; done = λ e. absurd (let f = fresh i d low in cc) })

  -- one more has run
  pub one_ran : (old now : List (Numbered A)) (i : ℕ) (n m : Numbered A) → AllZip (Runs kind) old now → i < length now → n ≡ get_or now i n → Runs kind n m → AllZip (Runs kind) old (set now i m)
  one_ran old now i n m e low at run = zip_again (Runs kind) old now i n m e low at (λ o r. record { kept = run.kept ∙ r.kept; done = run.done })

  pub tasks_kept : (ns ms : List (Numbered A)) → AllZip (Runs kind) ns ms → map kind.task (map part_of ms) ≡ map kind.task (map part_of ns)
  tasks_kept [] [] e = refl
  tasks_kept [] (m ∷ ms) e = absurd e
  tasks_kept (n ∷ ns) [] e = absurd e
  tasks_kept (n ∷ ns) (m ∷ ms) e = λ i. e.0.kept i ∷ tasks_kept ns ms e.1 i

  pub all_done : (ns ms : List (Numbered A)) → AllZip (Runs kind) ns ms → All HasRun ms → All kind.is_done (map part_of ms)
  all_done ns ms e ran = All-map kind.is_done part_of ms (λ i d low. (zip_get (Runs kind) ns ms i d e low).done (ran i d low))
