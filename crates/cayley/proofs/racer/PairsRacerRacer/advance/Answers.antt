use Rattle.std.proofs.Common.{◌≡◌, ◌∙◌, ◌<◌, ℕ, Bool, List, ap, sym, subst, refl, Option, Some}
use Rattle.race.specs.declared.engines.Progress.{Progress}
use Rattle.race.specs.declared.engines.Progress.TheVariants.{More}
use Rattle.froidure_pin.specs.declared.tables.CayleyTables.{CayleyTables}
use Rattle.cayley.specs.Run.{PairsTask, PairsRun, IsRun, left_in, left_of}
use Rattle.cayley.proofs.RunLaws.{listed_run, listed_less, listed_undecided, tables_fit, tables_elements, decided_few, spent_many}
use Rattle.cayley.proofs.racer.PairsRacerRacer.advance.Goals as goal

pub returns-in_default : goal.returns-in_default
returns-in_default g c =
    let is : IsRun g.E.Values.shape g.E.Values.product g.E.PartialEq.eq c.args.self.now = subst (λ (r : PairsRun g.row.E.Denot). IsRun g.E.Values.shape g.E.Values.product g.E.PartialEq.eq r) c.self.view_is c.self.invariant in
    let said : c.args.self.now.said ≡ c.self.inside.said = ap (λ (r : PairsRun g.row.E.Denot). r.said) (sym c.self.view_is) in
    record {
      task = refl;
      said = said;
      decided = λ e. decided_few g.E.Values.shape g.E.Values.product g.E.PartialEq.eq g.met.E.Values.products c.args.self.now is (said ∙ e);
      spent = λ e. spent_many g.E.Values.shape g.E.Values.product g.E.PartialEq.eq g.met.E.Values.products c.args.self.now is (said ∙ e);
      more = λ e. absurd (c.in_default.not-More e);
      lists_first = λ e. absurd (c.in_default.not-More (sym said ∙ e));
      stays_decided = λ e. (sym said ∙ e, refl);
      stays_spent = λ e. (sym said ∙ e, refl);
      stays_out_of_memory = λ e. sym said ∙ e;
    }

pub invariant_of-self : goal.invariant_of-self
invariant_of-self g c =
    listed_run g.E.Values.shape g.E.Values.product g.E.PartialEq.eq
    (record { generators = c.self.inside.generators.items; kind = c.self.inside.kind; pairs = c.self.inside.pairs; bound = c.self.inside.bound }) c.self.invariant.task
    c.self.inside.classes c.list_elements-self-inside.new.tables c.list_elements-self-inside.result c.list_elements-self-inside.ensures

pub returns-in_default-tables-clause-decided : goal.returns-in_default-tables-clause-decided
returns-in_default-tables-clause-decided g c = decided_few g.E.Values.shape g.E.Values.product g.E.PartialEq.eq g.met.E.Values.products _ (invariant_of-self g c)

pub returns-in_default-tables-clause-spent : goal.returns-in_default-tables-clause-spent
returns-in_default-tables-clause-spent g c = spent_many g.E.Values.shape g.E.Values.product g.E.PartialEq.eq g.met.E.Values.products _ (invariant_of-self g c)

pub returns-in_default-tables-clause-lists_first : goal.returns-in_default-tables-clause-lists_first
returns-in_default-tables-clause-lists_first g c = λ _ _.
    listed_undecided g.E.Values.shape g.E.Values.product g.E.PartialEq.eq
    (record { generators = c.self.inside.generators.items; kind = c.self.inside.kind; pairs = c.self.inside.pairs; bound = c.self.inside.bound }) c.self.invariant.task
    c.list_elements-self-inside.new.tables c.list_elements-self-inside.result c.list_elements-self-inside.ensures

pub returns-in_default-tables-clause-more : goal.returns-in_default-tables-clause-more
returns-in_default-tables-clause-more g c = λ e.
    let two : left_of c.args.self.now ≡ 2 =
    ap (λ (r : PairsRun g.row.E.Denot). left_of r) (sym c.self.view_is) ∙ ap (λ (p : Progress). left_in p c.self.inside.tables) c.in-More.is ∙ ap (λ (o : Option CayleyTables). left_in More o) c.in_default-tables.is in
    subst (λ n. left_in c.list_elements-self-inside.result c.list_elements-self-inside.new.tables < n) (sym two)
    (listed_less g.E.Values.shape g.E.Values.product g.E.PartialEq.eq
    (record { generators = c.self.inside.generators.items; kind = c.self.inside.kind; pairs = c.self.inside.pairs; bound = c.self.inside.bound }) c.self.invariant.task
    c.list_elements-self-inside.new.tables c.list_elements-self-inside.result c.list_elements-self-inside.ensures e)

-- before the second turn
before : {V : Type 0} (shape : V → ℕ × ℕ) (product : V → V → V) (equal : V → V → Bool) (task : PairsTask V) (tables : Option CayleyTables) (classes : Option (List ℕ)) (said : Progress) (t : CayleyTables)
    → tables ≡ Some t → said ≡ More → IsRun shape product equal (record { task = task; tables = tables; classes = classes; said = said })
    → IsRun shape product equal (record { task = task; tables = Some t; classes = classes; said = More })
before shape product equal task tables classes said t e d h =
    subst (λ p. IsRun shape product equal (record { task = task; tables = Some t; classes = classes; said = p })) d
    (subst (λ o. IsRun shape product equal (record { task = task; tables = o; classes = classes; said = said })) e h)

pub find_classes-self-inside-requires-clause-fit : goal.find_classes-self-inside-requires-clause-fit
find_classes-self-inside-requires-clause-fit g c =
    let task : PairsTask g.row.E.Denot = record { generators = c.self.inside.generators.items; kind = c.self.inside.kind; pairs = c.self.inside.pairs; bound = c.self.inside.bound } in
    tables_fit g.E.Values.shape g.E.Values.product g.E.PartialEq.eq task c.self.invariant.task c.self.inside.classes c.in-Some.tables
    (before g.E.Values.shape g.E.Values.product g.E.PartialEq.eq task c.self.inside.tables c.self.inside.classes c.self.inside.said c.in-Some.tables c.in-Some.is c.in-More.is c.self.invariant)

pub find_classes-self-inside-requires-clause-elements : goal.find_classes-self-inside-requires-clause-elements
find_classes-self-inside-requires-clause-elements g c =
    let task : PairsTask g.row.E.Denot = record { generators = c.self.inside.generators.items; kind = c.self.inside.kind; pairs = c.self.inside.pairs; bound = c.self.inside.bound } in
    tables_elements g.E.Values.shape g.E.Values.product g.E.PartialEq.eq task c.self.invariant.task c.self.inside.classes c.in-Some.tables
    (before g.E.Values.shape g.E.Values.product g.E.PartialEq.eq task c.self.inside.tables c.self.inside.classes c.self.inside.said c.in-Some.tables c.in-Some.is c.in-More.is c.self.invariant)

pub returns-clause-decided : goal.returns-clause-decided
returns-clause-decided g c = λ e. c.self.invariant.few c.in-Some.tables c.in-Some.is
