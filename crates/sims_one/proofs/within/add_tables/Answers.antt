use Rattle.std.proofs.Common.{ℕ, List, length, refl, subst, arith}
use Rattle.std.proofs.lemmas.List.{length-map}
use Rattle.sims_one.specs.Targets.{IsWithin}
use Rattle.sims_one.specs.Search.{NoneFrom}
use Rattle.sims_one.specs.Asked.{asked, AddsWanted}
use Rattle.sims_one.specs.Fronts.{lists_in}
use Rattle.sims_one.proofs.RankLaws.{table_falls}
use Rattle.sims_one.proofs.WantedLaws.{listed_on, tables_end, tables_enough, first_after, kept_front}
use Rattle.sims_one.proofs.within.add_tables.Goals as goal

pub returns-then-len-request : goal.returns-then-len-request
returns-then-len-request c =
    let a = asked c.args.request.now in
    let front : List ℕ = c.args.front.now in
    let i = c.loop-branch.invariant in
    let old = lists_in c.loop-branch.tables.items in
    let new = lists_in c.add_wanted.new.tables.items in
    let adds = subst (λ (t : List ℕ). AddsWanted a t old new) c.deref.ensures.value c.in_ok-add_wanted.ensures in
    let on = listed_on a front old i.last c.loop-branch.branch.targets.items c.loop-branch.branch.levels i.listed new adds in
    tables_enough a front new c.loop-branch.branch.targets.items on.0
    (omega (arith, on.1, i.few, length-map c.loop-branch.tables.items (λ v. v.items), length-map c.add_wanted.new.tables.items (λ v. v.items), c.if-len-request.true, c.len.ensures, c.add_wanted.new.tables.ok.0))

pub returns-then-not-branch : goal.returns-then-not-branch
returns-then-not-branch c =
    let a = asked c.args.request.now in
    let front : List ℕ = c.args.front.now in
    let i = c.loop-branch.invariant in
    let old = lists_in c.loop-branch.tables.items in
    let new = lists_in c.add_wanted.new.tables.items in
    let at : List ℕ = c.loop-branch.branch.targets.items in
    let adds = subst (λ (t : List ℕ). AddsWanted a t old new) c.deref.ensures.value c.in_ok-add_wanted.ensures in
    let on = listed_on a front old i.last at c.loop-branch.branch.levels i.listed new adds in
    let none = subst (λ (t : List ℕ). NoneFrom a.presentation a.classes at t) (kept_front front at (length front) i.listed.first.within refl) (c.in_ok-search_next.ensures.none c.if-not-branch.true) in
    tables_end a front new at on.0 none
    (omega (arith, length-map c.add_wanted.new.tables.items (λ v. v.items), c.if-len-request.false, c.len.ensures, c.add_wanted.new.tables.ok.0))

pub loop-branch-smaller : goal.loop-branch-smaller
loop-branch-smaller c =
    let a = asked c.args.request.now in
    let found = c.in_ok-search_next.ensures.found c.if-not-branch.false in
    table_falls a.presentation a.classes c.requires.asked.few (omega (arith, c.letters-letters.ensures.letters, c.letters-letters.ensures.few)) c.loop-branch.branch.targets.items c.search_next.new.branch.targets.items
    c.loop-branch.invariant.listed.first.table found.table found.after

pub loop-branch-preserved : goal.loop-branch-preserved
loop-branch-preserved c =
    let a = asked c.args.request.now in
    let front : List ℕ = c.args.front.now in
    let i = c.loop-branch.invariant in
    let old = lists_in c.loop-branch.tables.items in
    let new = lists_in c.add_wanted.new.tables.items in
    let at : List ℕ = c.loop-branch.branch.targets.items in
    let next : List ℕ = c.search_next.new.branch.targets.items in
    let adds = subst (λ (t : List ℕ). AddsWanted a t old new) c.deref.ensures.value c.in_ok-add_wanted.ensures in
    let on = listed_on a front old i.last at c.loop-branch.branch.levels i.listed new adds in
    let found = c.in_ok-search_next.ensures.found c.if-not-branch.false in
    let within = subst (λ (t : List ℕ). IsWithin t next) (kept_front front at (length front) i.listed.first.within refl) (c.in_ok-search_next.ensures.within c.if-not-branch.false) in
    record {
      last = at;
      listed = record { first = first_after a front at next c.search_next.new.branch.levels found within (c.in_ok-search_next.ensures.branch c.if-not-branch.false); goes = on.0 };
      few = omega (arith, c.if-len-request.false, c.len.ensures, c.add_wanted.new.tables.ok.0);
    }
