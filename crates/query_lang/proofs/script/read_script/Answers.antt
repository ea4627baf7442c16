use Rattle.std.proofs.iter.Serving.{serving}
use Rattle.std.proofs.Common.{◌≡◌, ℕ, ◌+◌, List, [], ◌∷◌, Bor, refl, sym, ap, ◌∙◌, subst, rules, length, drop, suc, ◌==◌, arith, map}
use Rattle.std.proofs.lemmas.List.{map-append, length-map, length-append}
use Rattle.std.proofs.lemmas.Iterator.Consumers.{YieldsList-at}
use Rattle.std.proofs.lemmas.Iterator.Splits.{YieldsList-from_slice_split}
use Rattle.line_parts.specs.Token.{cut_lines, tokens_of}
use Rattle.line_parts.specs.Texts.{texts}
use Rattle.query_lang.specs.Faults.{IsScriptFault}
use Rattle.query_lang.specs.Grammar.{Nothing, Reads, none}
use Rattle.query_lang.proofs.ReadLemmas.{line_fault, end_fault, whole_script, read_more, items_around, items_all, few_lines}
use Rattle.query_lang.proofs.script.read_script.Goals as goal

pub overflow_add-number : goal.overflow_add-number
overflow_add-number c =
    let bytes : List ℕ = c.args.bytes.now in
    let split = c.split-line-items.ensures in
    let around = items_around _ _ (λ (t : Bor (List ℕ)). t.now) c.loop-line.yielded c.loop-line.yielded_by _ _ c.in-Some.line c.in-Some.is c.next.ensures.steps (cut_lines bytes)
    (YieldsList-at c.into_iter-line-iterator.ensures.into_iter_gives (YieldsList-from_slice_split _ (λ b. b == 10) bytes split.rest split.done split.closure (λ x b q k. search rules))) in
    let before : length (texts c.loop-line.yielded) ≡ length c.loop-line.yielded = length-map c.loop-line.yielded (λ (t : Bor (List ℕ)). t.now) in
    omega (arith, ap length around, length-append (texts c.loop-line.yielded) (c.in-Some.line.now ∷ drop (suc (length c.loop-line.yielded)) (cut_lines bytes)), few_lines bytes, before, c.loop-line.invariant.counted)

pub loop-line-init : goal.loop-line-init
loop-line-init c = record {
  can = grind serving;
  finite = tt;
  counted = refl;
  read = subst (Reads Nothing []) (sym c.new-progress.ensures) none;
}

pub loop-line-preserved : goal.loop-line-preserved
loop-line-preserved c = record {
  can = search rules;
  finite = search rules;
  counted = omega (arith, c.loop-line.invariant.counted, length-append c.loop-line.yielded (c.in-Some.line ∷ []));
  read = subst (λ ls. Reads Nothing (map tokens_of ls) c.in-Ok.next) (sym (map-append (λ (t : Bor (List ℕ)). t.now) c.loop-line.yielded (c.in-Some.line ∷ [])))
      (read_more (texts c.loop-line.yielded) c.in-Some.line.now c.loop-line.progress c.in-Ok.next c.loop-line.invariant.read c.in-Ok.ensures.ok);
}

pub returns-in-Err-clause-err : goal.returns-in-Err-clause-err
returns-in-Err-clause-err c =
    let bytes : List ℕ = c.args.bytes.now in
    let split = c.split-line-items.ensures in
    let around = items_around _ _ (λ (t : Bor (List ℕ)). t.now) c.loop-line.yielded c.loop-line.yielded_by _ _ c.in-Some.line c.in-Some.is c.next.ensures.steps (cut_lines bytes)
    (YieldsList-at c.into_iter-line-iterator.ensures.into_iter_gives (YieldsList-from_slice_split _ (λ b. b == 10) bytes split.rest split.done split.closure (λ x b q k. search rules))) in
    let before : length (texts c.loop-line.yielded) ≡ length c.loop-line.yielded = length-map c.loop-line.yielded (λ (t : Bor (List ℕ)). t.now) in
    subst (IsScriptFault bytes) (sym c.at_line.ensures)
    (line_fault bytes (texts c.loop-line.yielded) _ c.in-Some.line.now c.loop-line.progress c.in-Err.fault (c.loop-line.number + 1) around c.loop-line.invariant.read (ap (λ n. n + 1) (c.loop-line.invariant.counted ∙ sym before)) c.in-Err.ensures.err)

pub returns-in-Ok-whole-clause-ok : goal.returns-in-Ok-whole-clause-ok
returns-in-Ok-whole-clause-ok c =
    let bytes : List ℕ = c.args.bytes.now in
    let split = c.split-line-items.ensures in
    let all = items_all _ _ (λ (t : Bor (List ℕ)). t.now) c.loop-line.yielded c.loop-line.yielded_by _ _ c.in-None.is c.next.ensures.steps (cut_lines bytes)
    (YieldsList-at c.into_iter-line-iterator.ensures.into_iter_gives (YieldsList-from_slice_split _ (λ b. b == 10) bytes split.rest split.done split.closure (λ x b q k. search rules))) in
    whole_script bytes (texts c.loop-line.yielded) c.loop-line.progress c.in-Ok-whole.script all c.loop-line.invariant.read c.in-Ok-whole.ensures.some c.in-Ok-whole.ensures.ok

pub returns-in-Err-whole-clause-err : goal.returns-in-Err-whole-clause-err
returns-in-Err-whole-clause-err c =
    let bytes : List ℕ = c.args.bytes.now in
    let split = c.split-line-items.ensures in
    let all = items_all _ _ (λ (t : Bor (List ℕ)). t.now) c.loop-line.yielded c.loop-line.yielded_by _ _ c.in-None.is c.next.ensures.steps (cut_lines bytes)
    (YieldsList-at c.into_iter-line-iterator.ensures.into_iter_gives (YieldsList-from_slice_split _ (λ b. b == 10) bytes split.rest split.done split.closure (λ x b q k. search rules))) in
    let before : length (texts c.loop-line.yielded) ≡ length c.loop-line.yielded = length-map c.loop-line.yielded (λ (t : Bor (List ℕ)). t.now) in
    subst (IsScriptFault bytes) (sym c.at_line-in-Err-whole.ensures)
    (end_fault bytes (texts c.loop-line.yielded) c.loop-line.progress c.in-Err-whole.fault c.loop-line.number all c.loop-line.invariant.read (c.loop-line.invariant.counted ∙ sym before) c.in-Err-whole.ensures.err)
