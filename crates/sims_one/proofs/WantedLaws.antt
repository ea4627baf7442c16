-- Tables that are asked for.
use Rattle.std.proofs.Common.{◌≡◌, ℕ, zero, suc, ◌+◌, ◌<◌, ◌≤◌, ◌↔◌, IsTrue, take, drop, inl, inr, Bool, true, false, List, [], ◌∷◌, ◌++◌, length, get_or, Some, refl, sym, ◌∙◌, ap, subst, arith, append-nil, append_assoc, length-append}
use Rattle.std.proofs.lemmas.List.{take_at}
use Rattle.theory.specs.Congruence.{Presentation, AreElements}
use Rattle.theory.specs.Graph.{Graph, IsGraph, IsCompleteTable}
use Rattle.theory.specs.LowIndex.{graph_of}
use Rattle.theory.specs.TwoSidedTable.{IsTwoSidedTable}
use Rattle.theory.proofs.LatticeLaws.{standard_table}
use Rattle.sims_one.specs.Targets.{seen, table_of, IsTable, IsWithin, IsFront, AreAllowed}
use Rattle.sims_one.specs.Search.{Before, NoneFrom, IsLeastAfter, IsLeastWithin, NoneWithin}
use Rattle.sims_one.specs.Known.{IsBranch}
use Rattle.sims_one.specs.declared.branch.Levels.{Levels}
use Rattle.sims_one.specs.Asked.{AreFirst, AddsWanted, Asked, IsWanted, IsWantedWithin, IsFirstWithin, AreTablesWithin}
use Rattle.sims_one.specs.Fronts.{IsOpen}
use Rattle.sims_one.proofs.FrontLaws.{before_itself, front_front, allowed_front, times_more}
use Rattle.sims_one.proofs.PlaceLaws.{at_place}
use Rattle.sims_one.proofs.LowIndexLaws.{low_index_of}
use Rattle.sims_one.proofs.CutLaws.{before_trans, before_cases}
use Rattle.sims_one.proofs.FirstLaws.{Goes, goes_none, goes_next, goes_past}

module _ (p : Presentation) (n : ℕ) (some : 0 < p.letters) (elements : AreElements p.is_monoid p.letters p.relations) where
  -- the graph of a table is complete, over its letters alone
  pub table_complete : (t : List ℕ) (g : Graph) → IsTable p n t → g ≡ graph_of (table_of p.letters t) → (k : ℕ) → IsGraph k g → IsCompleteTable k g
  table_complete t g table is k graph =
      let whole : IsCompleteTable p.letters g = subst (IsCompleteTable p.letters) (sym is) (standard_table p.letters (table_of p.letters t) (low_index_of p n some elements t table).standard) in
      subst (λ z. IsCompleteTable z g) (sym (whole.graph.width 0 [] whole.graph.rooted) ∙ graph.width 0 [] graph.rooted) whole

-- the front part of a table behind it
pub kept_front : (front old : List ℕ) (kept : ℕ) → IsWithin front old → kept ≡ length front → take kept old ≡ front
kept_front front old kept w is = ap (take kept) w.is ∙ take_at front w.rest kept (sym is)

module _ (a : Asked) (front : List ℕ) where
  -- the tables so far, of which each is asked for; the next table of the front part is known
  pub record AreListed (us : List (List ℕ)) (last targets : List ℕ) (levels : Levels) : Type 0 where
    pub first : IsFirstWithin a front last targets levels
    pub goes : Goes Before before_trans before_itself (IsWantedWithin a front) (Some a.cursor) us last

  pub listed_none : (targets : List ℕ) (levels : Levels) → IsFirstWithin a front a.cursor targets levels → AreListed [] a.cursor targets levels
  listed_none targets levels first = record { first = first; goes = goes_none Before before_trans before_itself (IsWantedWithin a front) a.cursor }

  module _ (us : List (List ℕ)) (last targets : List ℕ) (levels : Levels) (l : AreListed us last targets levels) where
    -- the table is asked for
    pub listed_wanted : IsWanted a targets → Goes Before before_trans before_itself (IsWantedWithin a front) (Some a.cursor) (us ++ targets ∷ []) targets
    listed_wanted wanted = goes_next Before before_trans before_itself (IsWantedWithin a front) (Some a.cursor) us last targets l.goes (record {
      has = (wanted, l.first.within);
      after = l.first.after;
      least = λ u has after less. l.first.least u has.0.table has.1 after less;
    })

    -- it is not
    pub listed_unwanted : (IsWanted a targets → ⊥) → Goes Before before_trans before_itself (IsWantedWithin a front) (Some a.cursor) us targets
    listed_unwanted not = goes_past Before before_trans before_itself (IsWantedWithin a front) (Some a.cursor) us last targets l.goes l.first.after
        (λ u has after. elim (before_cases targets u) [
          | inl less ↦ less
          | inr (inl same) ↦ absurd (not (subst (IsWanted a) (sym same) has.0))
          | inr (inr more) ↦ absurd (l.first.least u has.0.table has.1 after more)
        ])

    pub listed_on : (vs : List (List ℕ)) → AddsWanted a targets us vs → Goes Before before_trans before_itself (IsWantedWithin a front) (Some a.cursor) vs targets × (length vs ≤ length us + 1)
    listed_on vs (inl added) = (
      subst (λ zs. Goes Before before_trans before_itself (IsWantedWithin a front) (Some a.cursor) zs targets) (sym added.1) (listed_wanted added.0),
      omega (arith, ap length added.1, length-append us (targets ∷ [])),
    )
    listed_on vs (inr not) = (
      subst (λ zs. Goes Before before_trans before_itself (IsWantedWithin a front) (Some a.cursor) zs targets) (sym not.1) (listed_unwanted not.0),
      omega (arith, ap length not.1),
    )

  -- there are no more
  pub tables_end : (us : List (List ℕ)) (last : List ℕ) → Goes Before before_trans before_itself (IsWantedWithin a front) (Some a.cursor) us last → NoneFrom a.presentation a.classes last front → length us ≤ a.count → AreTablesWithin a front us
  tables_end us last goes none few = go (suc a.count) (omega (arith, few))
    where
      go : (n : ℕ) → length us < n → AreFirst (IsWantedWithin a front) Before (Some a.cursor) n us
      go n more =
          let rest : (k : ℕ) × (length us + suc k ≡ n) = (gap (length us) n more) in
          subst (λ m. AreFirst (IsWantedWithin a front) Before (Some a.cursor) m us) rest.1
          (subst (λ zs. AreFirst (IsWantedWithin a front) Before (Some a.cursor) (length us + suc rest.0) zs) (append-nil us)
          (goes (suc rest.0) [] (λ u has after. none u has.0.table has.1 after)))
        where
          gap : (i n : ℕ) → i < n → (k : ℕ) × (i + suc k ≡ n)
          gap i zero h = absurd (omega (arith, h))
          gap zero (suc n) h = (n, omega arith)
          gap (suc i) (suc n) h = let r = gap i n (omega (arith, h)) in (r.0, omega (arith, r.1))

  -- there are enough
  pub tables_enough : (us : List (List ℕ)) (last : List ℕ) → Goes Before before_trans before_itself (IsWantedWithin a front) (Some a.cursor) us last → length us ≡ suc a.count → AreTablesWithin a front us
  tables_enough us last goes enough =
      let all : length us + 0 ≡ suc a.count = omega (arith, enough) in
      subst (λ m. AreFirst (IsWantedWithin a front) Before (Some a.cursor) m us) all
      (subst (λ zs. AreFirst (IsWantedWithin a front) Before (Some a.cursor) (length us + 0) zs) (append-nil us) (goes 0 [] tt))

  -- the table after one of the front part
  pub first_after : (old targets : List ℕ) (levels : Levels) → IsLeastAfter a.presentation a.classes old targets → IsWithin front targets → IsBranch a.presentation a.classes targets levels → IsFirstWithin a front old targets levels
  first_after old targets levels l within branch = record {
    branch = branch;
    table = l.table;
    within = within;
    after = l.after;
    least = λ u table w after less. l.least u table after less;
  }

  -- the least table of a front part behind which all comes after an old one
  pub first_behind : (old targets : List ℕ) (levels : Levels) → 0 < a.presentation.letters → IsLeastWithin a.presentation a.classes front targets
      → ((u : List ℕ) → 0 < length u → IsWithin front u → Before old u) → IsBranch a.presentation a.classes targets levels → IsFirstWithin a front old targets levels
  first_behind old targets levels some l behind branch =
      let long : 0 < length targets = omega (arith, l.table.full, times_more a.presentation.letters 1 (seen targets) (omega arith), some) in
      record {
        branch = branch;
        table = l.table;
        within = l.within;
        after = behind targets long l.within;
        least = λ u table w after less. l.least u table w less;
      }

module _ (a : Asked) (t : List ℕ) (table : IsTable a.presentation a.classes t) where
  pub wanted_any : a.two_sided ≡ false → IsTrue true ↔ IsWanted a t
  wanted_any any = (λ _. record { table = table; two_sided = λ e. let bad : false ≡ true = sym any ∙ e in cc }, λ _. refl)

  pub wanted_two_sided : (g : Graph) (b : Bool) → a.two_sided ≡ true → g ≡ graph_of (table_of a.presentation.letters t) → IsTrue b ↔ IsTwoSidedTable g → IsTrue b ↔ IsWanted a t
  wanted_two_sided g b both is h = (
    λ holds. record { table = table; two_sided = λ e. subst IsTwoSidedTable is (h.0 holds) },
    λ wanted. h.1 (subst IsTwoSidedTable (sym is) (wanted.two_sided both)),
  )

-- front parts of a front part
module _ (a : Asked) (t : List ℕ) (i : ℕ) (less : i < length t) where
  next_taken : t ≡ (take i t ++ get_or t i 0 ∷ []) ++ drop (i + 1) t
  next_taken = at_place t i less ∙ sym (append_assoc (take i t) (get_or t i 0 ∷ []) (drop (i + 1) t))

  pub open_next : IsOpen a t → IsOpen a (take i t ++ get_or t i 0 ∷ [])
  open_next is = record {
    front = front_front a.presentation.letters (take i t ++ get_or t i 0 ∷ []) (drop (i + 1) t) (subst (IsFront a.presentation.letters) next_taken is.front);
    allowed = allowed_front a.presentation a.classes (take i t ++ get_or t i 0 ∷ []) (drop (i + 1) t) (subst (AreAllowed a.presentation a.classes) next_taken is.allowed);
  }

  pub none_next : NoneWithin a.presentation a.classes (take i t ++ get_or t i 0 ∷ []) → NoneWithin a.presentation a.classes t
  none_next none u table w = none u table (record {
    rest = drop (i + 1) t ++ w.rest;
    is = w.is ∙ ap (λ (xs : List ℕ). xs ++ w.rest) next_taken ∙ append_assoc (take i t ++ get_or t i 0 ∷ []) (drop (i + 1) t) w.rest;
  })
