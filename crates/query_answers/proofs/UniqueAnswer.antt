-- A query has one answer.
use Rattle.std.proofs.Common.{◌≡◌, ℕ, Bool, true, false, inl, inr, List, [], ◌∷◌, ◌++◌, length, map, None, refl, sym, ap, subst, ◌∙◌, arith}
use Rattle.std.specs.Prelude.{◌≢◌, ◌↔◌}
use Rattle.theory.specs.Word.{Word}
use Rattle.theory.specs.ShortLex.{◌≺◌}
use Rattle.theory.specs.Class.{IsLeast, HasIndex, IsInfinite, IsReducedRule, RuleBefore}
use Rattle.theory.specs.Graph.{Graph, SameEnd}
use Rattle.theory.specs.Lattice as lattice
use Rattle.theory.specs.LowIndex.{graph_of}
use Rattle.theory.specs.Value.{IsProduct, HasAtMostValues, HasMoreValues}
use Rattle.theory.proofs.Listings.{list_unique, start_no_longer}
use Rattle.theory.proofs.Completeness.{normal_unique}
use Rattle.theory.proofs.ClassLaws.{IsPartialEquivalence, shortlex_strict, rule_order}
use Rattle.theory.proofs.StandardLaws.{standard_unique}
use Rattle.theory.proofs.ValueLaws.{values_bound}
use Rattle.elements.specs.Generators.{value_by}
use Rattle.elements.specs.TransfLaws.{composed_products}
use Rattle.elements.specs.PPermLaws.{partial_products}
use Rattle.elements.specs.BMatLaws.{boolean_products}
use Rattle.elements.specs.MaxPlusLaws.{truncated_products}
use Rattle.problem.specs.declared.budgets.Budgets.{Budgets}
use Rattle.problem.specs.declared.kinds.Problem.{Problem}
use Rattle.problem.specs.declared.kinds.Problem.TheVariants as problem
use Rattle.problem.specs.Problem.{SameClassOf, IsDecided, IsUndecided, letters_of, count_of, no_matrix, no_truncated_matrix}
use Rattle.element_tables.specs.CayleyGraphs.{AreCayleyGraphs}
use Rattle.query_lang.specs.declared.script.Query.{Query}
use Rattle.query_lang.specs.declared.script.Query.TheVariants.{Index, Equal, Normal, Classes, RuleList, ElementOf, Cayley, LowIndex, Meet, Join, Chain, Green, Idempotents}
use Rattle.element_tables.proofs.ClassEquivalence.{problem_equivalence}
use Rattle.element_tables.proofs.OneNumber.{one_list}
use Rattle.report_lines.specs.Lines.{index_line, end_line, normal_line, no_chain_line, word_line, rule_line, meet_line, join_line, cayley_lines}
use Rattle.report_lines.proofs.OneGraph.{graphs_same}
use Rattle.report_lines.proofs.OneGreen.{one_green, one_idempotents}
use Rattle.report_lines.proofs.OnePage.{one_page, one_table_page}
use Rattle.query_answers.specs.declared.awaited.Awaited.{Awaited}
use Rattle.query_answers.specs.declared.awaited.Awaited.TheVariants.{Nothing, Decision, Log}
use Rattle.query_answers.specs.Chains.{AreChainLines}
use Rattle.query_answers.specs.Answer.{AreLines, ComesAbout, FailsToCome, IsTableAnswer, IsAnswer, awaited_by}

module _ (R : Word → Word → Type 0) (known : IsPartialEquivalence R) where
  one_index : (m n : ℕ) → HasIndex R m → HasIndex R n → m ≡ n
  one_index m n p q = sym p.2 ∙ ap length (one_list R p.0 q.0 p.1 q.1) ∙ q.2

  -- finitely many classes are not infinitely many
  not_infinite : (n : ℕ) → HasIndex R n → IsInfinite R → ⊥
  not_infinite n h g =
      let more = g n in
      omega (arith, start_no_longer (IsLeast R) ◌≺◌ (shortlex_strict (IsLeast R)) None h.0 more.0 h.1 more.1, h.2, more.2)

module _ {V : Type 0} {product : V → V → V} {equal : V → V → Bool} (generators : List V) (unused : V) where
  values_not_both : {HasShape : V → Type 0} → IsProduct HasShape product equal → (n : ℕ)
      → HasAtMostValues (length generators) equal (value_by product generators unused) n → HasMoreValues (length generators) equal (value_by product generators unused) n → ⊥
  values_not_both {HasShape} laws n few more = let less = values_bound HasShape product equal laws (length generators) (value_by product generators unused) n n few more in omega arith

not_both : (p : Problem) (budgets : Budgets) → IsDecided p budgets → IsUndecided p budgets → ⊥
not_both (problem.Presented p) budgets ends never = never ends
not_both (problem.Transf p) budgets few more = values_not_both p.generators [] (composed_products (0, 0)) budgets.elements few more
not_both (problem.PPerm p) budgets few more = values_not_both p.generators [] (partial_products (0, 0)) budgets.elements few more
not_both (problem.BMat p) budgets few more = values_not_both p.generators no_matrix (boolean_products (0, 0)) budgets.elements few more
not_both (problem.MaxPlus p) budgets few more = values_not_both p.generators no_truncated_matrix (truncated_products (0, 0)) budgets.elements few more

-- a relation has one standard table
one_table_line : (line : Graph → List ℕ) (k : ℕ) (V : Word → Word → Type 0) (lines others : List (List ℕ)) → IsTableAnswer line k V lines → IsTableAnswer line k V others → lines ≡ others
one_table_line line k V lines others h g =
    let a = h.is.standard in
    let b = g.is.standard in
    let rows : a.rows ≡ b.rows = standard_unique k a.rows b.rows a.standard b.standard
    (λ u v. (
      λ e. subst (λ x. SameEnd x u v) b.is ((g.is.paths u v).1 ((h.is.paths u v).0 (subst (λ x. SameEnd x u v) (sym a.is) e))),
      λ e. subst (λ x. SameEnd x u v) a.is ((h.is.paths u v).1 ((g.is.paths u v).0 (subst (λ x. SameEnd x u v) (sym b.is) e))),
    )) in
    h.are_lines ∙ ap (λ x. line x ∷ []) (a.is ∙ ap graph_of rows ∙ sym b.is) ∙ sym g.are_lines

module _ (p : Problem) (bound : ℕ) where
  abbrev R : Word → Word → Type 0
  R = SameClassOf p

  abbrev known : IsPartialEquivalence R
  known = problem_equivalence p

  one_lines : (query : Query) (lines others : List (List ℕ)) → awaited_by query ≢ Log → AreLines p bound query lines → AreLines p bound query others → lines ≡ others
  one_lines Index lines others none (inl h) (inl g) = h.2 ∙ ap (λ n. index_line bound n ∷ []) (one_index R known h.0 g.0 h.1 g.1) ∙ sym g.2
  one_lines Index lines others none (inl h) (inr g) = absurd (not_infinite R known h.0 h.1 g.0)
  one_lines Index lines others none (inr h) (inl g) = absurd (not_infinite R known g.0 g.1 h.0)
  one_lines Index lines others none (inr h) (inr g) = h.1 ∙ sym g.1
  one_lines (Equal u v) lines others none (inl h) (inl g) = h.1 ∙ sym g.1
  one_lines (Equal u v) lines others none (inl h) (inr g) = absurd (g.0 h.0)
  one_lines (Equal u v) lines others none (inr h) (inl g) = absurd (h.0 g.0)
  one_lines (Equal u v) lines others none (inr h) (inr g) = h.1 ∙ sym g.1
  one_lines (Normal u) lines others none h g = h.2 ∙ ap (λ w. normal_line (letters_of p) w ∷ []) (normal_unique R known.symmetric known.transitive u h.0 g.0 h.1 g.1) ∙ sym g.2
  one_lines (Classes count after) lines others none h g =
      one_page (IsLeast R) ◌≺◌ (shortlex_strict (IsLeast R)) (word_line (letters_of p)) after count lines others h g
  one_lines RuleList lines others none h g =
      h.2 ∙ ap (λ rules. map (rule_line (letters_of p)) rules ++ end_line false ∷ []) (list_unique (λ rule. IsReducedRule R rule.0 rule.1) RuleBefore (rule_order R known) None h.0 g.0 h.1 g.1) ∙ sym g.2
  one_lines (ElementOf u) lines others none h g = h ∙ sym g
  one_lines Cayley lines others none h g =
      let words : g.0 ≡ h.0 = one_list R g.0 h.0 g.3.listed h.3.listed in
      let moved : AreCayleyGraphs R (count_of p) h.0 g.1 g.2 = subst (λ ws. AreCayleyGraphs R (count_of p) ws g.1 g.2) words g.3 in
      h.4
      ∙ ap (λ rows. rows ++ end_line false ∷ []) (graphs_same R known (letters_of p) (count_of p) h.0 h.1 h.2 g.1 g.2 h.3 moved ∙ ap (λ ws. cayley_lines (letters_of p) (count_of p) ws g.1 g.2) (sym words))
      ∙ sym g.4
  one_lines (LowIndex two_sided classes count after) lines others none h g = one_table_page p two_sided classes count after lines others h g
  one_lines (Meet s t) lines others none h g = one_table_line meet_line (length (letters_of p)) (lattice.Meet s t) lines others h g
  one_lines (Join s t) lines others none h g = one_table_line join_line (length (letters_of p)) (lattice.Join (length (letters_of p)) s t) lines others h g
  one_lines (Chain u v) lines others none h g = absurd (none refl)
  one_lines (Green relation) lines others none h g = one_green p relation lines others h g
  one_lines Idempotents lines others none h g = one_idempotents p lines others h g

-- a chain has a line for its first word and one for its end besides the first one
longer : (first second one : List ℕ) (lines : List (List ℕ)) → first ∷ second ∷ lines ≡ one ∷ [] → ⊥
longer first second one lines h = let e : length (first ∷ second ∷ lines) ≡ length (one ∷ []) = ap length h in omega arith

comes_or_fails : (p : Problem) (budgets : Budgets) (awaited : Awaited) → ComesAbout p budgets awaited → FailsToCome p budgets awaited → ⊥
comes_or_fails p budgets Nothing comes fails = fails
comes_or_fails p budgets Decision comes fails = not_both p budgets comes fails
comes_or_fails p budgets Log comes fails = fails comes

-- a query is left undecided by each answer, or by none
pub one_status : (p : Problem) (budgets : Budgets) (bound : ℕ) (query : Query) (lines others : List (List ℕ)) (undecided other : Bool)
    → IsAnswer p budgets bound query lines undecided → IsAnswer p budgets bound query others other → undecided ≡ other
one_status p budgets bound query lines others false false h g = refl
one_status p budgets bound query lines others false true h g = absurd (comes_or_fails p budgets (awaited_by query) h.comes g.fails)
one_status p budgets bound query lines others true false h g = absurd (comes_or_fails p budgets (awaited_by query) g.comes h.fails)
one_status p budgets bound query lines others true true h g = refl

-- a query that waits for no completion that logs has one answer
pub one_answer : (p : Problem) (budgets : Budgets) (bound : ℕ) (query : Query) (lines others : List (List ℕ)) (undecided other : Bool)
    → awaited_by query ≢ Log → IsAnswer p budgets bound query lines undecided → IsAnswer p budgets bound query others other → lines ≡ others
one_answer p budgets bound query lines others false false none h g = one_lines p bound query lines others none h.are_lines g.are_lines
one_answer p budgets bound query lines others false true none h g = absurd (comes_or_fails p budgets (awaited_by query) h.comes g.fails)
one_answer p budgets bound query lines others true false none h g = absurd (comes_or_fails p budgets (awaited_by query) g.comes h.fails)
one_answer p budgets bound query lines others true true none h g = h.line ∙ sym g.line

-- where one answer tells that there is no chain, so does each
none_again : (p : Problem) (letters : List ℕ) (u v : Word) (lines others : List (List ℕ)) → AreChainLines p letters u v lines → AreChainLines p letters u v others → lines ≡ no_chain_line ∷ [] → others ≡ no_chain_line ∷ []
none_again p letters u v lines others (inl h) g is = absurd (longer _ _ _ _ (sym h.1.2 ∙ is))
none_again p letters u v lines others (inr h) (inl g) is = absurd (h.0 g.0)
none_again p letters u v lines others (inr h) (inr g) is = g.1

pub one_kind : (p : Problem) (budgets : Budgets) (bound : ℕ) (u v : Word) (lines others : List (List ℕ)) (undecided other : Bool)
    → IsAnswer p budgets bound (Chain u v) lines undecided → IsAnswer p budgets bound (Chain u v) others other → (lines ≡ no_chain_line ∷ []) ↔ (others ≡ no_chain_line ∷ [])
one_kind p budgets bound u v lines others false false h g =
    (none_again p (letters_of p) u v lines others h.are_lines g.are_lines, none_again p (letters_of p) u v others lines g.are_lines h.are_lines)
one_kind p budgets bound u v lines others false true h g = absurd (g.fails h.comes)
one_kind p budgets bound u v lines others true false h g = absurd (h.fails g.comes)
one_kind p budgets bound u v lines others true true h g = let same : lines ≡ others = h.line ∙ sym g.line in (λ is. sym same ∙ is, λ is. same ∙ is)
