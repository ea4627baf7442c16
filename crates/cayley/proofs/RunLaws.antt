-- What turns leave is right.
use Rattle.std.proofs.Common.{◌≡◌, ℕ, ◌<◌, Bool, false, List, [], ◌∷◌, refl, sym, ◌∙◌, arith, length, subst, Option, None, Some}
use Rattle.theory.specs.Congruence.{AreElements}
use Rattle.theory.specs.Value.{IsProduct}
use Rattle.theory.proofs.ValueLaws.{values_bound}
use Rattle.elements.specs.Generators.{value_by}
use Rattle.froidure_pin.specs.declared.tables.CayleyTables.{CayleyTables}
use Rattle.race.specs.declared.engines.Progress.{Progress}
use Rattle.race.specs.declared.engines.Progress.TheVariants.{More, Decided, Spent, NoMemory}
use Rattle.cayley.specs.Tables.{AreClasses, FitTogether}
use Rattle.cayley.specs.Whole.{AreTablesOf, AreClassesOf}
use Rattle.cayley.proofs.WholeLaws.{word_classes}
use Rattle.cayley.specs.Run.{PairsTask, PairsRun, IsTask, HasFew, IsRun, AreListed, AreSought, left_in}

pub some_value : {V : Type 0} (xs : List V) → 0 < length xs → V
some_value [] h = absurd (omega (arith, h))
some_value (x ∷ xs) h = x

pub same_some : {X : Type 0} (x y : X) → ◌≡◌ {A = Option X} (Some x) (Some y) → x ≡ y
same_some x y e = cc

pub none_some : {X : Type 0} (x : X) → ◌≡◌ {A = Option X} None (Some x) → ⊥
none_some x e = cc

module _ {V : Type 0} (shape : V → ℕ × ℕ) (product : V → V → V) (equal : V → V → Bool) (task : PairsTask V) (is : IsTask shape task) where
  -- the run before its first turn
  pub fresh_run : (classes : Option (List ℕ)) → IsRun shape product equal (record { task = task; tables = None; classes = classes; said = More })
  fresh_run classes = record {
    task = is;
    tables = λ t e. absurd (none_some t e);
    few = λ t e. absurd (none_some t e);
    decided = λ e. absurd (let bad : ⊥ = cc in bad);
    spent = λ e. absurd (let bad : ⊥ = cc in bad);
  }

  pub listed_run : (classes : Option (List ℕ)) (tables : Option CayleyTables) (said : Progress)
      → ((unused : V) → AreListed product equal task.generators unused task.bound tables said)
      → IsRun shape product equal (record { task = task; tables = tables; classes = classes; said = said })
  listed_run classes tables More h = record {
    task = is;
    tables = λ t e unused. let l = h unused in subst (λ s. AreTablesOf product equal task.generators unused s) (same_some l.0 t (sym l.1 ∙ e)) l.3;
    few = λ t e unused. (h unused).2;
    decided = λ e. absurd (let bad : ⊥ = cc in bad);
    spent = λ e. absurd (let bad : ⊥ = cc in bad);
  }
  listed_run classes tables Decided h = absurd (h (some_value task.generators is.some))
  listed_run classes tables Spent h = record {
    task = is;
    tables = λ t e. absurd (none_some t (sym (h (some_value task.generators is.some)).0 ∙ e));
    few = λ t e. absurd (none_some t (sym (h (some_value task.generators is.some)).0 ∙ e));
    decided = λ e. absurd (let bad : ⊥ = cc in bad);
    spent = λ e unused. (h unused).1;
  }
  listed_run classes tables NoMemory h = record {
    task = is;
    tables = λ t e. absurd (none_some t (sym (h (some_value task.generators is.some)) ∙ e));
    few = λ t e. absurd (none_some t (sym (h (some_value task.generators is.some)) ∙ e));
    decided = λ e. absurd (let bad : ⊥ = cc in bad);
    spent = λ e. absurd (let bad : ⊥ = cc in bad);
  }

  -- the first turn leaves one turn at the most
  pub listed_less : (tables : Option CayleyTables) (said : Progress) → ((unused : V) → AreListed product equal task.generators unused task.bound tables said)
      → said ≡ More → left_in said tables < 2
  listed_less tables said h e = let l = subst (λ p. AreListed product equal task.generators (some_value task.generators is.some) task.bound tables p) e (h (some_value task.generators is.some)) in
      subst (λ p. left_in p tables < 2) (sym e) (subst (λ o. left_in More o < 2) (sym l.1) (omega arith))

  -- and does not decide
  pub listed_undecided : (tables : Option CayleyTables) (said : Progress) → ((unused : V) → AreListed product equal task.generators unused task.bound tables said)
      → said ≡ Decided → ⊥
  listed_undecided tables said h e =
      subst (λ p. AreListed product equal task.generators (some_value task.generators is.some) task.bound tables p) e (h (some_value task.generators is.some))

  module _ (classes : Option (List ℕ)) (t : CayleyTables) (run : IsRun shape product equal (record { task = task; tables = Some t; classes = classes; said = More })) where
    own_tables : AreTablesOf product equal task.generators (some_value task.generators is.some) t
    own_tables = run.tables t refl (some_value task.generators is.some)

    pub tables_fit : FitTogether t
    tables_fit = own_tables.fit

    pub tables_elements : AreElements false (length t.letters) task.pairs
    tables_elements = subst (λ k. AreElements false k task.pairs) (sym own_tables.letters) is.elements

    pub sought_run : (found : Option (List ℕ)) (said : Progress) → AreSought t task.kind task.pairs found said
        → IsRun shape product equal (record { task = task; tables = Some t; classes = found; said = said })
    sought_run found More h = absurd h
    sought_run found Decided h = record {
      task = is;
      tables = run.tables;
      few = run.few;
      decided = λ e. record { t = t; c = h.0; tables_are = refl; classes_are = h.1; found = h.2 };
      spent = λ e. absurd (let bad : ⊥ = cc in bad);
    }
    sought_run found Spent h = absurd h
    sought_run found NoMemory h = record {
      task = is;
      tables = run.tables;
      few = run.few;
      decided = λ e. absurd (let bad : ⊥ = cc in bad);
      spent = λ e. absurd (let bad : ⊥ = cc in bad);
    }

    pub sought_ends : (found : Option (List ℕ)) (said : Progress) → AreSought t task.kind task.pairs found said → said ≡ More → ⊥
    sought_ends found said h e = subst (λ p. AreSought t task.kind task.pairs found p) e h

module _ {V : Type 0} (shape : V → ℕ × ℕ) (product : V → V → V) (equal : V → V → Bool) (products : (one : ℕ × ℕ) → IsProduct (λ x. shape x ≡ one) product equal)
    (run : PairsRun V) (is : IsRun shape product equal run) where
  pub decided_few : run.said ≡ Decided → HasFew product equal run.task
  decided_few e = let d = is.decided e in is.few d.t d.tables_are

  pub spent_many : run.said ≡ Spent → HasFew product equal run.task → ⊥
  spent_many e few =
      let unused : V = some_value run.task.generators is.task.some in
      let k : ℕ = length run.task.generators in
      let less : run.task.bound < run.task.bound =
      values_bound (λ x. shape x ≡ shape unused) product equal (products (shape unused)) (length run.task.generators) (value_by product run.task.generators unused) run.task.bound run.task.bound (few unused) (is.spent e unused) in
      absurd (omega (arith, less))

  pub decided_classes : run.said ≡ Decided → (c : List ℕ) → run.classes ≡ Some c → (t : CayleyTables) → run.tables ≡ Some t → (unused : V)
      → AreClassesOf product equal run.task.generators unused run.task.kind run.task.pairs t c
  decided_classes e c at t there unused =
      let d = is.decided e in
      let one : AreClasses t run.task.kind run.task.pairs d.c =
      subst (λ s. AreClasses s run.task.kind run.task.pairs d.c) (same_some d.t t (sym d.tables_are ∙ there)) d.found in
      let two : AreClasses t run.task.kind run.task.pairs c =
      subst (λ s. AreClasses t run.task.kind run.task.pairs s) (same_some d.c c (sym d.classes_are ∙ at)) one in
      word_classes shape product equal products run.task.generators unused is.task.one_shape t (is.tables t there unused) run.task.kind run.task.pairs is.task.elements c two
