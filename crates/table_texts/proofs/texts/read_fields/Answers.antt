use Rattle.std.proofs.Common.{◌≡◌, ◌+◌, ◌≤◌, ◌++◌, ◌∷◌, [], ℕ, take, get_or, List, length, map, ◌<◌, ap, sym, ◌∙◌, arith, Some, append_assoc, append-nil}
use Rattle.std.specs.Prelude.{Option}
use Rattle.std.specs.Borrow.{Bor}
use Rattle.std.proofs.lemmas.List.{length-append, length-take-le, take_all}
use Rattle.table_texts.specs.TableText.{texts, target_read}
use Rattle.table_texts.proofs.ReadLaws.{cell_at, cells_long, cells_more, good_more, good_all, first_at, first_more, first_less}
use Rattle.table_texts.proofs.texts.read_fields.Goals as goal

abbrev lent : Bor (List ℕ)
lent = record { ref_ptr = (0, 0); now = [] }

-- how many entries there are with the first j of a row
long : (old new cells : List (Option ℕ)) (j : ℕ) → new ≡ old ++ take j cells → j ≤ length cells → length new ≡ length old + j
long old new cells j e h = ap length e ∙ length-append old (take j cells) ∙ ap (λ z. length old + z) (length-take-le j cells h)

pub loop-place-init : goal.loop-place-init
loop-place-init c = record { read = sym (append-nil c.args.entries.now.items); good = λ i h. absurd (omega (arith, h)); few = omega arith }

pub loop-place-preserved : goal.loop-place-preserved
loop-place-preserved c =
    let f = target_read c.args.nodes in
    let cells : List (Option ℕ) = map f (texts c.args.fields.now) in
    let j : ℕ = c.loop-place.place in
    let inv = c.loop-place.invariant in
    let read : Some c.in-Some.node ≡ f (get_or c.args.fields.now j lent).now = c.in-Some.ensures.target in
    let put : c.push.new.self.items ≡ c.loop-place.entries.items ++ Some c.in-Some.node ∷ [] = c.in_ok-push-in-Some.ensures.items ∙ ap (λ (x : Option ℕ). c.loop-place.entries.items ++ x ∷ []) c.new.ensures in
    record {
      read = put ∙ ap (λ t. t ++ Some c.in-Some.node ∷ []) inv.read
          ∙ append_assoc c.args.entries.now.items (take j cells) (Some c.in-Some.node ∷ [])
          ∙ ap (λ z. c.args.entries.now.items ++ z) (ap (λ v. take j cells ++ v ∷ []) read ∙ cells_more f c.args.fields.now j lent c.loop-place-test.true);
      good = good_more cells j c.in-Some.node inv.good (cell_at f c.args.fields.now j lent c.loop-place-test.true ∙ ap (λ v. Some v) (sym read));
      few = omega arith;
    }

pub returns-in-None-clause-bad : goal.returns-in-None-clause-bad
returns-in-None-clause-bad c = λ place e.
    let f = target_read c.args.nodes in
    let cells : List (Option ℕ) = map f (texts c.args.fields.now) in
    let j : ℕ = c.loop-place.place in
    let within : j < length cells = omega (arith, cells_long f c.args.fields.now, c.loop-place-test.true) in
    let at : place ≡ length c.loop-place.entries.items = cc in
    let same : place ≡ length c.args.entries.now.items + j = at ∙ long _ _ cells j c.loop-place.invariant.read (omega (arith, within)) in
    (j, same, first_at cells c.args.letters j c.loop-place.invariant.good within (omega arith) (cell_at f c.args.fields.now j lent c.loop-place-test.true ∙ ap (λ v. Some v) (sym c.in-None.ensures.target)))

pub returns-then-place-letters-clause-bad : goal.returns-then-place-letters-clause-bad
returns-then-place-letters-clause-bad c = λ place e.
    let f = target_read c.args.nodes in
    let cells : List (Option ℕ) = map f (texts c.args.fields.now) in
    let j : ℕ = c.loop-place.place in
    let within : j < length cells = omega (arith, cells_long f c.args.fields.now, c.loop-place-test.true) in
    let at : place ≡ length c.loop-place.entries.items = cc in
    let same : place ≡ length c.args.entries.now.items + j = at ∙ long _ _ cells j c.loop-place.invariant.read (omega (arith, within)) in
    (j, same, first_more cells c.args.letters j c.loop-place.invariant.good within c.if-place-letters.true)

pub returns-then-fields-letters-clause-bad : goal.returns-then-fields-letters-clause-bad
returns-then-fields-letters-clause-bad c = λ place e.
    let f = target_read c.args.nodes in
    let cells : List (Option ℕ) = map f (texts c.args.fields.now) in
    let j : ℕ = c.loop-place.place in
    let last : length cells ≡ j = omega (arith, cells_long f c.args.fields.now, c.loop-place-test.false, c.loop-place.auto.place-end) in
    let at : place ≡ length c.loop-place.entries.items = cc in
    let same : place ≡ length c.args.entries.now.items + j = at ∙ long _ _ cells j c.loop-place.invariant.read (omega (arith, last)) in
    (j, same, first_less cells c.args.letters j c.loop-place.invariant.good last (omega (arith, c.if-fields-letters.true, last, cells_long f c.args.fields.now)))

pub returns-clause-ok : goal.returns-clause-ok
returns-clause-ok c =
    let f = target_read c.args.nodes in
    let cells : List (Option ℕ) = map f (texts c.args.fields.now) in
    c.loop-place.invariant.read ∙ ap (λ z. c.args.entries.now.items ++ z) (take_all c.loop-place.place cells (omega (arith, cells_long f c.args.fields.now, c.loop-place-test.false)))

pub returns-clause-good : goal.returns-clause-good
returns-clause-good c =
    let f = target_read c.args.nodes in
    let cells : List (Option ℕ) = map f (texts c.args.fields.now) in
    good_all cells c.args.letters c.loop-place.place c.loop-place.invariant.good (omega (arith, cells_long f c.args.fields.now)) (omega (arith, cells_long f c.args.fields.now))
