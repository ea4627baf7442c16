-- Where rules are applied, step by step.
use Rattle.std.proofs.Common.{◌≡◌, ℕ, ◌+◌, ◌-◌, ◌<◌, ◌≤◌, List, [], ◌∷◌, ◌++◌, map, reverse, take, length, get_or, refl, sym, ◌∙◌, ap, ap₂, subst, arith, append_assoc, length-append}
use Rattle.std.proofs.lemmas.List.{map-append, reverse-append, reverse-reverse, take_at, take-append-le, append-nil}
use Rattle.std.proofs.lemmas.Option.{slice_get-get_or}
use Rattle.theory.specs.Word.{Word}
use Rattle.theory.specs.PlacedStep.{PlacedStep, Gives, LeadTo}
use Rattle.theory.proofs.PlacedChains.{leads_after}
use Rattle.rewriting.specs.States.{EndsAt}
use Rattle.rewriting.specs.Traces.{LeadBy, as_relations, step_of}
use Rattle.rewriting.specs.declared.traces.Applied.{Applied}

module _ (rules : List (Word × Word)) (u : Word) (trace : List Applied) where
  -- nothing is read
  pub traced_start : (done rest : Word) → trace ≡ [] → done ≡ [] → rest ≡ reverse u → LeadBy rules u trace (done ++ reverse rest)
  traced_start done rest none d r =
      subst (λ (t : List Applied). LeadBy rules u t (done ++ reverse rest)) (sym none)
      ([], tt, sym (ap₂ (λ (x y : Word). x ++ reverse y) d r ∙ reverse-reverse u))

  -- all is read
  pub traced_end : (done rest : Word) → rest ≡ [] → LeadBy rules u trace (done ++ reverse rest) → LeadBy rules u trace done
  traced_end done rest none leads =
      subst (LeadBy rules u trace) (ap (λ (r : Word). done ++ reverse r) none ∙ append-nil done) leads

  module _ (done rest : Word) (a : ℕ) (leads : LeadBy rules u trace (done ++ reverse (rest ++ a ∷ []))) where
    behind : reverse (rest ++ a ∷ []) ≡ a ∷ reverse rest
    behind = reverse-append rest (a ∷ [])

    read_is : done ++ reverse (rest ++ a ∷ []) ≡ (done ++ a ∷ []) ++ reverse rest
    read_is = ap (λ (w : Word). done ++ w) behind ∙ sym (append_assoc done (a ∷ []) (reverse rest))

    -- a letter is read
    pub traced_push : (new_done new_rest : Word) → new_done ≡ done ++ a ∷ [] → new_rest ≡ rest → LeadBy rules u trace (new_done ++ reverse new_rest)
    traced_push new_done new_rest d r =
        subst (LeadBy rules u trace) (read_is ∙ sym (ap₂ (λ (x y : Word). x ++ reverse y) d r)) leads

    -- a rule is applied
    pub traced_back : (place : ℕ) (rule : Word × Word) (ends : EndsAt rules (done ++ a ∷ []) place) → rule ≡ get_or rules place ([], []) → 0 < length rule.0
        → (new_done new_rest : Word) (new_trace : List Applied) (count : ℕ)
        → new_done ≡ take (length done - (length rule.0 - 1)) done → new_rest ≡ rest ++ reverse rule.1 → count ≡ length new_done
        → new_trace ≡ trace ++ record { place = count; rule = place } ∷ [] → LeadBy rules u new_trace (new_done ++ reverse new_rest)
    traced_back place rule ends rule_is some new_done new_rest new_trace count d r n t =
        let at : done ++ a ∷ [] ≡ ends.before ++ rule.0 = ends.is ∙ ap (λ (q : Word × Word). ends.before ++ q.0) (sym rule_is) in
        let long : length done + 1 ≡ length ends.before + length rule.0 =
        sym (length-append done (a ∷ [])) ∙ ap length at ∙ length-append ends.before rule.0 in
        let before : new_done ≡ ends.before =
        d ∙ front (length done - (length rule.0 - 1)) ends.before rule.0 at (omega (arith, long, some)) (omega (arith, long, some)) in
        let gives : Gives (as_relations rules) (done ++ reverse (rest ++ a ∷ [])) (step_of (record { place = count; rule = place })) (new_done ++ reverse new_rest) =
        record {
          sides = get_or rules place ([], []);
          known = slice_get-get_or rules place ([], []) ends.within;
          before = ends.before;
          after = reverse rest;
          placed = ap length (sym before) ∙ sym n;
          source =
              read_is ∙ ap (λ (w : Word). w ++ reverse rest) ends.is ∙ append_assoc ends.before (get_or rules place ([], [])).0 (reverse rest);
          target =
              ap₂ (λ (x y : Word). x ++ reverse y) before r
              ∙ ap (λ (w : Word). ends.before ++ w) (reverse-append rest (reverse rule.1) ∙ ap (λ (w : Word). w ++ reverse rest) (reverse-reverse rule.1))
              ∙ ap (λ (q : Word × Word). ends.before ++ (q.1 ++ reverse rest)) rule_is;
        } in
        subst (λ (s : List Applied). LeadBy rules u s (new_done ++ reverse new_rest)) (sym t)
        (subst (λ (s : List PlacedStep). LeadTo (as_relations rules) u s (new_done ++ reverse new_rest)) (sym (map-append step_of trace (record { place = count; rule = place } ∷ [])))
        (leads_after (as_relations rules) u (done ++ reverse (rest ++ a ∷ [])) (new_done ++ reverse new_rest) (map step_of trace)
        (step_of (record { place = count; rule = place }) ∷ []) leads ((new_done ++ reverse new_rest) ∷ [], (gives, tt), refl)))
      where
        front : (k : ℕ) (before left : Word) → done ++ a ∷ [] ≡ before ++ left → k ≡ length before → k ≤ length done → take k done ≡ before
        front k before left e count within =
            sym (take-append-le k done (a ∷ []) within) ∙ ap (take k) e ∙ take_at before left k (sym count)
