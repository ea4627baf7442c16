use Rattle.std.proofs.Common.{◌≡◌, ◌+◌, ◌*◌, ◌<◌, ℕ, List, All, length, subst, sym, ap, ◌∙◌, arith}
use Rattle.theory.specs.Congruence.{AreElements}
use Rattle.presentation.specs.Presented.{Presented}
use Rattle.theory.specs.Listing.{IsLast}
use Rattle.theory.specs.LowIndex.{IsLowIndex, TableLess, graph_of}
use Rattle.word_graph.specs.Table.{cut}
use Rattle.sims_one.specs.Targets.{seen, table_of}
use Rattle.sims_one.specs.Known.{IsBranch}
use Rattle.sims_one.specs.Search.{Search, IsFound, NoneAfter, IsLeastAfter, IsFoundBranch}
use Rattle.sims_one.proofs.FrontLaws.{times_more}
use Rattle.sims_one.proofs.LowIndexLaws.{next_of, last_of, found_cursor, found_after, found_nodes}
use Rattle.sims_one.proofs.sims.Sims.find.Goals as goal

pub returns-in_default-clause-found : goal.returns-in_default-clause-found
returns-in_default-clause-found c =
    let p = c.self.inside.presentation.presentation in
    let none : NoneAfter p c.self.inside.classes c.as_slice.result.now =
    subst (λ (q : Presented). NoneAfter q.presentation c.self.inside.classes c.as_slice.result.now) c.new-indexed.ensures (rw c.in_default.is at c.in_ok-branch.ensures) in
    let some : 0 < p.letters = omega (arith, c.letters-letters.ensures.letters, c.letters-letters.ensures.some) in
    subst (λ (s : Search). IsLast (IsLowIndex s.presentation s.classes) TableLess s.after) c.self.view_is
    (last_of p c.self.inside.classes some c.relations-relations.ensures.presented.elements c.self.inside.last.items c.self.invariant.cursor
    (subst (λ (xs : List ℕ). NoneAfter p c.self.inside.classes xs) c.as_slice.ensures.value none))

pub of_targets-requires-clause-full : goal.of_targets-requires-clause-full
of_targets-requires-clause-full c =
    let p = c.self.inside.presentation.presentation in
    let found : IsFoundBranch p c.self.inside.classes c.as_slice.result.now c.in-Some.branch.targets.items c.in-Some.branch.levels =
    subst (λ (q : Presented). IsFoundBranch q.presentation c.self.inside.classes c.as_slice.result.now c.in-Some.branch.targets.items c.in-Some.branch.levels) c.new-indexed.ensures (rw c.in-Some.is at c.in_ok-branch.ensures) in
    let same : c.in_ok-targets.targets.items ≡ c.in-Some.branch.targets.items = c.in_ok-targets.ensures.items ∙ c.as_slice-2.ensures.value in
    let nodes : c.greatest-nodes.result + 1 ≡ seen c.in-Some.branch.targets.items = omega (arith, c.greatest-nodes.ensures, ap seen (c.as_slice-3.ensures.value ∙ same)) in
    let long : length c.as_slice-4.result.now ≡ p.letters * seen c.in-Some.branch.targets.items = ap length (c.as_slice-4.ensures.value ∙ same) ∙ found.least.table.full in
    long ∙ ap (λ z. z * seen c.in-Some.branch.targets.items) (sym c.letters-letters.ensures.letters) ∙ ap (λ z. c.letters-letters.result * z) (sym nodes)
    ∙ times_back c.letters-letters.result (c.greatest-nodes.result + 1)
  where
    times_back : (k n : ℕ) → k * n ≡ n * k
    times_back k n = omega arith

pub of_targets-requires-clause-nodes : goal.of_targets-requires-clause-nodes
of_targets-requires-clause-nodes c =
    let p = c.self.inside.presentation.presentation in
    let found : IsFoundBranch p c.self.inside.classes c.as_slice.result.now c.in-Some.branch.targets.items c.in-Some.branch.levels =
    subst (λ (q : Presented). IsFoundBranch q.presentation c.self.inside.classes c.as_slice.result.now c.in-Some.branch.targets.items c.in-Some.branch.levels) c.new-indexed.ensures (rw c.in-Some.is at c.in_ok-branch.ensures) in
    let some : 0 < p.letters = omega (arith, c.letters-letters.ensures.letters, c.letters-letters.ensures.some) in
    let same : c.in_ok-targets.targets.items ≡ c.in-Some.branch.targets.items = c.in_ok-targets.ensures.items ∙ c.as_slice-2.ensures.value in
    let within = found_nodes p c.self.inside.classes some c.relations-relations.ensures.presented.elements c.in-Some.branch.targets.items found.least.table in
    let nodes : seen c.in-Some.branch.targets.items ≡ c.greatest-nodes.result + 1 = omega (arith, c.greatest-nodes.ensures, ap seen (c.as_slice-3.ensures.value ∙ same)) in
    subst (λ (xs : List ℕ). All (λ m. m < c.greatest-nodes.result + 1) xs) (sym (c.as_slice-4.ensures.value ∙ same))
    (subst (λ n. All (λ m. m < n) c.in-Some.branch.targets.items) nodes within)

pub returns-clause-found : goal.returns-clause-found
returns-clause-found c =
    let p = c.self.inside.presentation.presentation in
    let ts : List ℕ = c.in_ok-targets.targets.items in
    let levels = c.in-Some.branch.levels in
    let came : IsFoundBranch p c.self.inside.classes c.as_slice.result.now c.in-Some.branch.targets.items levels =
    subst (λ (q : Presented). IsFoundBranch q.presentation c.self.inside.classes c.as_slice.result.now c.in-Some.branch.targets.items levels) c.new-indexed.ensures (rw c.in-Some.is at c.in_ok-branch.ensures) in
    let same : c.in-Some.branch.targets.items ≡ ts = sym (c.in_ok-targets.ensures.items ∙ c.as_slice-2.ensures.value) in
    let found : IsLeastAfter p c.self.inside.classes c.as_slice.result.now ts = subst (λ (xs : List ℕ). IsLeastAfter p c.self.inside.classes c.as_slice.result.now xs) same came.least in
    let branch : IsBranch p c.self.inside.classes ts levels = subst (λ (xs : List ℕ). IsBranch p c.self.inside.classes xs levels) same came.branch in
    let some : 0 < p.letters = omega (arith, c.letters-letters.ensures.letters, c.letters-letters.ensures.some) in
    let elements : AreElements p.is_monoid p.letters p.relations = c.relations-relations.ensures.presented.elements in
    let nodes : c.greatest-nodes.result + 1 ≡ seen ts = omega (arith, c.greatest-nodes.ensures, ap seen c.as_slice-3.ensures.value) in
    let made : c.in_ok-graph.graph ≡ graph_of (cut c.letters-letters.result (c.greatest-nodes.result + 1) c.as_slice-4.result.now) = c.in_ok-graph.ensures in
    let is : c.in_ok-graph.graph ≡ graph_of (table_of p.letters ts) =
    made ∙ ap (λ k. graph_of (cut k (c.greatest-nodes.result + 1) c.as_slice-4.result.now)) c.letters-letters.ensures.letters
    ∙ ap (λ n. graph_of (cut p.letters n c.as_slice-4.result.now)) nodes ∙ ap (λ (xs : List ℕ). graph_of (cut p.letters (seen ts) xs)) c.as_slice-4.ensures.value in
    let after = subst (λ (xs : List ℕ). IsLeastAfter p c.self.inside.classes xs ts) c.as_slice.ensures.value found in
    let long : 0 < length ts = omega (arith, found.table.full, times_more p.letters 1 (seen ts) (omega arith), some) in
    subst (λ (s : Search). IsFound s ts levels c.in_ok-graph.graph) c.self.view_is
    (record {
      rows = table_of p.letters ts;
      is = is;
      next = next_of p c.self.inside.classes some elements c.self.inside.last.items ts c.self.invariant.cursor after;
      cursor = found_cursor p c.self.inside.classes some elements ts found.table;
      after = found_after p c.self.inside.classes some elements ts found.table;
      branch = branch;
      some = long;
    })
