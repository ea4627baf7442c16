-- What is written with each answer.
use Rattle.ports.specs.declared.sink.Sink.{Ghosts}
use Rattle.std.proofs.Common.{◌≡◌, ℕ, Bool, true, false, ◌||◌, inl, inr, List, [], ◌∷◌, ◌++◌, Ok, Err, refl, sym, ap, ap₂, ◌∙◌, subst, append-nil}
use Rattle.std.specs.List.{flat_map, list_any}
use Rattle.std.proofs.lemmas.Grind.{flat_map-append}
use Rattle.ports.specs.declared.fault.WriteFault.{WriteFault}
use Rattle.ports.specs.Writes.{Writes}
use Rattle.ports.proofs.WriteLemmas.{no_bytes, answered, faulted, writes_then}
use Rattle.problem.specs.declared.budgets.Budgets.{Budgets}
use Rattle.problem.specs.declared.kinds.Problem.{Problem}
use Rattle.query_lang.specs.declared.script.Query.{Query}
use Rattle.report_lines.specs.LineBytes.{bytes_of}
use Rattle.report.specs.declared.answers.Answered.{Answered}
use Rattle.report.specs.declared.state.State.{State}
use Rattle.report.specs.Kept.{KeepsSettings}
use Rattle.report.specs.Gains as gains
use Rattle.report.specs.Gains.{AreAnswerBytes}
use Rattle.report.specs.declared.bounds.Bounds.{Bounds}
use Rattle.report.specs.Answers.{Answer, AreAnswers, AreFirstAnswers, AreFirstLines, AreAllLines, WritesLines, state_bounds, leaves_undecided, answer_bytes}

or_false : (b : Bool) → (b || false) ≡ b
or_false true = refl
or_false false = refl

or_assoc : (a b c : Bool) → (a || (b || c)) ≡ ((a || b) || c)
or_assoc true b c = refl
or_assoc false b c = refl

any-append : (xs ys : List Answer) → list_any leaves_undecided (xs ++ ys) ≡ (list_any leaves_undecided xs || list_any leaves_undecided ys)
any-append [] ys = refl
any-append (x ∷ xs) ys = ap (λ b. leaves_undecided x || b) (any-append xs ys) ∙ or_assoc (leaves_undecided x) (list_any leaves_undecided xs) (list_any leaves_undecided ys)

module _ (bounds : Bounds) (problem : Problem) where
  answers-append : (qs rs : List Query) (xs ys : List Answer) → AreAnswers bounds problem qs xs → AreAnswers bounds problem rs ys → AreAnswers bounds problem (qs ++ rs) (xs ++ ys)
  answers-append [] rs [] ys p q = q
  answers-append [] rs (x ∷ xs) ys p q = absurd p
  answers-append (r ∷ qs) rs [] ys p q = absurd p
  answers-append (r ∷ qs) rs (x ∷ xs) ys p q = (p.0, answers-append qs rs xs ys p.1 q)

  first-more : (rs more : List Query) (ys : List Answer) → AreFirstAnswers bounds problem rs ys → AreFirstAnswers bounds problem (rs ++ more) ys
  first-more rs more [] q = tt
  first-more [] more (y ∷ ys) q = absurd q
  first-more (r ∷ rs) more (y ∷ ys) q = (q.0, first-more rs more ys q.1)

  first-append : (qs rs more : List Query) (xs ys : List Answer) → AreAnswers bounds problem qs xs → AreFirstAnswers bounds problem rs ys → AreFirstAnswers bounds problem (qs ++ rs ++ more) (xs ++ ys)
  first-append [] rs more [] ys p q = first-more rs more ys q
  first-append [] rs more (x ∷ xs) ys p q = absurd p
  first-append (r ∷ qs) rs more [] ys p q = absurd p
  first-append (r ∷ qs) rs more (x ∷ xs) ys p q = (p.0, first-append qs rs more xs ys p.1 q)

  -- the lines of two lists of queries
  lines-append : (qs rs : List Query) (u v : Bool) (xs ys : List ℕ) → AreAllLines bounds problem qs xs u → AreAllLines bounds problem rs ys v → AreAllLines bounds problem (qs ++ rs) (xs ++ ys) (u || v)
  lines-append qs rs u v xs ys p q = record {
    answers = p.answers ++ q.answers;
    correct = answers-append qs rs p.answers q.answers p.correct q.correct;
    lines = ap (λ t. t ++ ys) p.lines ∙ ap (λ t. flat_map answer_bytes p.answers ++ t) q.lines ∙ sym (flat_map-append answer_bytes p.answers q.answers);
    status = ap (λ b. b || v) p.status ∙ ap (λ b. list_any leaves_undecided p.answers || b) q.status ∙ sym (any-append p.answers q.answers);
  }

  -- the lines of some queries, and the first lines of those that follow
  first_lines-append : (qs rs more : List Query) (u : Bool) (xs ys : List ℕ) → AreAllLines bounds problem qs xs u → AreFirstLines bounds problem rs ys → AreFirstLines bounds problem (qs ++ rs ++ more) (xs ++ ys)
  first_lines-append qs rs more u xs ys p q = record {
    answers = p.answers ++ q.answers;
    correct = first-append qs rs more p.answers q.answers p.correct q.correct;
    lines = ap (λ t. t ++ ys) p.lines ∙ ap (λ t. flat_map answer_bytes p.answers ++ t) q.lines ∙ sym (flat_map-append answer_bytes p.answers q.answers);
  }

  module _ (q : Query) (told : Answered) (bytes : List ℕ) (h : AreAnswerBytes problem bounds.budgets bounds.classes q told bytes) where
    abbrev here : Answer
    here = record { lines = h.lines; undecided = gains.is_undecided told }

    whole : bytes ≡ flat_map answer_bytes (here ∷ [])
    whole = h.are_bytes ∙ sym (append-nil (bytes_of h.lines))

    -- one answer
    answer_lines : AreAllLines bounds problem (q ∷ []) bytes (gains.is_undecided told)
    answer_lines = record { answers = here ∷ []; correct = (h.are_such, tt); lines = whole; status = sym (or_false (gains.is_undecided told)) }

    answer_first : AreFirstLines bounds problem (q ∷ []) bytes
    answer_first = record { answers = here ∷ []; correct = (h.are_such, tt); lines = whole }

  module _ {K : Type 0} (sink : Ghosts K) where
    -- no query, no line
    pub none_written : (old : K) → WritesLines sink bounds problem [] old old (Ok false)
    none_written old = answered sink old old (tt {0}) false (λ bytes e. record { answers = []; correct = tt; lines = e; status = refl }) (no_bytes sink old)

    module _ (q : Query) (old new : K) where
      -- one answer is written
      pub one_written : (told : Answered) (u : Bool) → u ≡ gains.is_undecided told → Writes sink (AreAnswerBytes problem bounds.budgets bounds.classes q) old new (Ok told) → WritesLines sink bounds problem (q ∷ []) old new (Ok u)
      one_written told u e h = answered sink old new told u (λ bytes w. subst (AreAllLines bounds problem (q ∷ []) bytes) (sym e) (answer_lines q told bytes w)) h

      -- a fault while one answer is written
      pub one_begun : (fault : WriteFault) → Writes sink {T = Answered} (AreAnswerBytes problem bounds.budgets bounds.classes q) old new (Err fault) → WritesLines sink bounds problem (q ∷ []) old new (Err fault)
      one_begun fault h =
          faulted sink old new fault (λ bytes c. elim c [
            | inl none ↦ record { answers = []; correct = tt; lines = none }
            | inr some ↦ answer_first q some.0 bytes some.1
          ]) h

    module _ (qs rs : List Query) (u : Bool) (old mid new : K) (before : WritesLines sink bounds problem qs old mid (Ok u)) where
      -- the lines of more queries
      pub more_written : (v : Bool) → WritesLines sink bounds problem rs mid new (Ok v) → WritesLines sink bounds problem (qs ++ rs) old new (Ok (u || v))
      more_written v after =
          answered sink old new v (u || v) (λ bytes w. w)
          (writes_then sink {W = λ value bytes. AreAllLines bounds problem (qs ++ rs) bytes (u || value)} {B = AreFirstLines bounds problem (qs ++ rs ++ [])} old mid new u (Ok v)
          (λ value xs ys. lines-append qs rs u value xs ys) (λ xs ys. first_lines-append qs rs [] u xs ys) before after)

      -- a fault while the lines of more queries are written
      pub more_begun : (more : List Query) (fault : WriteFault) → WritesLines sink bounds problem rs mid new (Err fault) → WritesLines sink bounds problem (qs ++ rs ++ more) old new (Err fault)
      more_begun more fault after =
          faulted sink old new fault (λ bytes w. w)
          (writes_then sink {W = λ value bytes. AreAllLines bounds problem (qs ++ rs) bytes (u || value)} {B = AreFirstLines bounds problem (qs ++ rs ++ more)} old mid new u (Err fault)
          (λ value xs ys. lines-append qs rs u value xs ys) (λ xs ys. first_lines-append qs rs more u xs ys) before after)

-- what a state may use stays
pub same_bounds : (old new : State) → KeepsSettings old new → state_bounds new ≡ state_bounds old
same_bounds old new kept =
    ap (λ (b : Budgets). let x : Bounds = record { budgets = b; classes = new.classes; workers = new.workers } in x) kept.budgets
    ∙ ap₂ (λ (n : ℕ) (w : ℕ). let x : Bounds = record { budgets = old.budgets; classes = n; workers = w } in x) kept.classes kept.workers

pub settings_stay : (old mid new : State) → KeepsSettings old mid → KeepsSettings mid new → KeepsSettings old new
settings_stay old mid new p q = record { budgets = q.budgets ∙ p.budgets; classes = q.classes ∙ p.classes; workers = q.workers ∙ p.workers }

pub settings_same : (state : State) → KeepsSettings state state
settings_same state = record { budgets = refl; classes = refl; workers = refl }
