-- What adding a rule does to the rules that are there.
use Rattle.std.proofs.Common.{◌≡◌, ℕ, ◌+◌, ◌*◌, ◌<◌, ◌≤◌, List, [], ◌∷◌, ◌++◌, length, get_or, set, refl, sym, ◌∙◌, ap, subst, subst₂, arith, ◌⊎◌, inl, inr, Equal, Greater}
use Rattle.std.proofs.lemmas.Bool.{cases_eq, cases_lt}
use Rattle.std.proofs.lemmas.List.{get_or-set_same, get_or-set_other, get_or_default}
use Rattle.std.proofs.lemmas.List.Elements.{All-set, Contains-get_or}
use Rattle.std.proofs.lemmas.Cmp.{tied_itself}
use Rattle.std.proofs.Math.Seq.{get_or-append_seam, map-set_same}
use Rattle.theory.specs.Word.{Word, IsFactor}
use Rattle.theory.specs.ShortLex.{◌≺◌, shortlex}
use Rattle.theory.specs.Congruence.{Presentation}
use Rattle.theory.specs.Chain.{Chain}
use Rattle.theory.specs.Completion.{IsReduced, Listed, Reduces, Within, transitive}
use Rattle.theory.proofs.Words.{order_cases, shortlex_exact, shortlex_total}
use Rattle.theory.proofs.CompletionLaws.{within_left}
use Rattle.rewriting.specs.Rules.{AreFalling}
use Rattle.rewriting.proofs.Standing.{listed_falls, listed_at}
use Rattle.knuth_bendix.specs.Changes.{AddsRule, IsDone, Joins, Rewrites, SetsAside}
use Rattle.knuth_bendix.specs.Held.{lefts, held_of}
use Rattle.knuth_bendix.specs.Links.{LinkStep, Linked, NoLater, IsNoMore, IsCovered}
use Rattle.knuth_bendix.specs.declared.lengths.Lengths.TheVariants.{UpTo}
use Rattle.knuth_bendix.specs.Overlaps.{AreJoined, AreShort, Gains, rule_at}
use Rattle.knuth_bendix.proofs.LinkLaws.{linked_covered, linked_pair, linked_refl, linked_symm, linked_trans, linked_weaker, no_later_down, reduces_linked, no_later_before, no_later_trans, reduces_no_later}
use Rattle.knuth_bendix.proofs.ListedRules.{lefts_length, lefts_at, reduced_by_lefts}
use Rattle.knuth_bendix.proofs.FallingRules.{reduces_below, falling_reduces}

-- the rule at a number falls
pub item_falls : (rules : List (Word × Word)) (number : ℕ) (rule : Word × Word) → AreFalling rules → number < length rules
    → rule ≡ get_or rules number rule → rule.1 ≺ rule.0
item_falls rules number rule falling within e = subst (λ (r : Word × Word). r.1 ≺ r.0) (sym e) (falling number rule within)

-- the right side at a place has been replaced by the reduced word to which the rules lead it
pub record IsRewritten (old new : List (Word × Word)) (place : ℕ) (right : Word) : Type 0 where
  pub within : place < length old
  pub falling : AreFalling old
  pub is : new ≡ set old place ((rule_at old place).0, right)
  pub down : Reduces (Listed old) (rule_at old place).1 right
  pub end : IsReduced (Listed old) right

-- it is less than the left side
pub rewritten_falls : (old : List (Word × Word)) (place : ℕ) (rule : Word × Word) (right : Word) → AreFalling old → place < length old
    → rule ≡ get_or old place rule → Reduces (Listed old) rule.1 right → right ≺ (rule_at old place).0
rewritten_falls old place rule right falling within e down =
    let at : rule ≡ rule_at old place = e ∙ get_or_default old place rule ([], []) within in
    let falls = item_falls old place rule falling within e in
    subst (λ (r : Word × Word). right ≺ r.0) at
    (no_later_before right rule.1 rule.0 (reduces_no_later (Listed old) (listed_falls old falling) rule.1 right down) falls)

module _ (old new : List (Word × Word)) (place : ℕ) (right : Word) (h : IsRewritten old new place right) where
  right_falls : right ≺ (rule_at old place).0
  right_falls = rewritten_falls old place (rule_at old place) right h.falling h.within
      (get_or_default old place ([], []) (rule_at old place) h.within) h.down

  pub rewritten_lefts : lefts new ≡ lefts old
  rewritten_lefts =
      ap lefts h.is ∙ map-set_same (λ (r : Word × Word). r.0) old place ((rule_at old place).0, right) ([], []) refl

  pub rewritten_falling : AreFalling new
  rewritten_falling =
      subst (λ (rs : List (Word × Word)). AreFalling rs) (sym h.is)
      (All-set (λ (r : Word × Word). r.1 ≺ r.0) old place ((rule_at old place).0, right) right_falls h.falling)

  pub rewritten_here : rule_at new place ≡ ((rule_at old place).0, right)
  rewritten_here =
      ap (λ (rs : List (Word × Word)). rule_at rs place) h.is
      ∙ get_or-set_same old place ((rule_at old place).0, right) ([], []) h.within

  pub rewritten_elsewhere : (i : ℕ) → (i ≡ place → ⊥) → rule_at new i ≡ rule_at old i
  rewritten_elsewhere i differ =
      ap (λ (rs : List (Word × Word)). rule_at rs i) h.is
      ∙ get_or-set_other old place i ((rule_at old place).0, right) ([], []) differ

  same_length : length new ≡ length old
  same_length = lefts_length old new rewritten_lefts

  -- each old rule has the left side there, or is a new one
  still_listed : (f g : Word) → Listed old f g → (f ≡ (rule_at old place).0) ⊎ Listed new f g
  still_listed f g listed =
      let at : rule_at old listed.0 ≡ (f, g) = listed_at old f g listed in
      elim (cases_eq listed.0 place) [
        | inl e ↦ inl (ap (λ (r : Word × Word). r.0) (sym at) ∙ ap (λ n. (rule_at old n).0) e)
        | inr differ ↦
            let here = Contains-get_or new listed.0 ([], []) (omega (arith, listed.1, same_length)) in
            inr (subst (λ (r : Word × Word). Listed new r.0 r.1) (rewritten_elsewhere listed.0 differ ∙ at) here)
      ]

  -- each new rule is the one there, or an old one
  was_listed : (f g : Word) → Listed new f g → ◌≡◌ {A = Word × Word} (f, g) ((rule_at old place).0, right) ⊎ Listed old f g
  was_listed f g listed =
      let at : rule_at new listed.0 ≡ (f, g) = listed_at new f g listed in
      elim (cases_eq listed.0 place) [
        | inl e ↦ inl (sym at ∙ ap (λ n. rule_at new n) e ∙ rewritten_here)
        | inr differ ↦
            let here = Contains-get_or old listed.0 ([], []) (omega (arith, listed.1, same_length)) in
            inr (subst (λ (r : Word × Word). Listed old r.0 r.1) (sym (rewritten_elsewhere listed.0 differ) ∙ at) here)
      ]

  linked_here : Linked (Listed new) (λ x. NoLater x (rule_at old place).1) (rule_at old place).1 right
  linked_here =
      reduces_linked (Listed new) (listed_falls new rewritten_falling) (rule_at old place).1 right
      (reduces_below (Listed old) (Listed new) (rule_at old place).0 (listed_falls old h.falling) still_listed (rule_at old place).1 right
      (h.falling place ([], []) h.within) h.down)

  linked_each : (i : ℕ) → Linked (Listed new) (λ x. NoLater x (rule_at old i).1) (rule_at old i).1 (rule_at new i).1
  linked_each i = elim (cases_eq i place) [
    | inl e ↦
        subst (λ n. Linked (Listed new) (λ x. NoLater x (rule_at old n).1) (rule_at old n).1 (rule_at new n).1) (sym e)
        (subst (λ (r : Word × Word). Linked (Listed new) (λ x. NoLater x (rule_at old place).1) (rule_at old place).1 r.1) (sym rewritten_here)
        linked_here)
    | inr differ ↦
        subst (λ (r : Word × Word). Linked (Listed new) (λ x. NoLater x (rule_at old i).1) (rule_at old i).1 r.1) (sym (rewritten_elsewhere i differ))
        (linked_refl (Listed new) (λ x. NoLater x (rule_at old i).1) (rule_at old i).1)
  ]

  within_each : (p : Presentation) (L : ℕ) → ((l r : Word) → Listed old l r → Within p L l r) → (l r : Word) → Listed new l r → Within p L l r
  within_each p L related l r listed = elim (was_listed l r listed) [
    | inr m ↦ related l r m
    | inl e ↦ subst (λ (q : Word × Word). Within p L q.0 q.1) (sym e) here
  ]
    where
      here : Within p L (rule_at old place).0 right
      here =
          let one = related (rule_at old place).0 (rule_at old place).1 (Contains-get_or old place ([], []) h.within) in
          transitive one
          (falling_reduces p L (Listed old) (listed_falls old h.falling) related (rule_at old place).1 right (within_left p L one).1 h.down)

  pub rewrites_one : Rewrites old new
  rewrites_one = record { lefts = rewritten_lefts; falling = rewritten_falling; linked = λ i less. linked_each i; within = within_each }

  pub rewritten_done : (f : Word) → IsDone f old new place
  rewritten_done f =
      inl (subst (λ (r : Word × Word). IsReduced (Listed new) r.1) (sym rewritten_here) (reduced_by_lefts old new rewritten_lefts right h.end))

-- what is linked to a word with the property has it
linked_end : (S : Word → Word → Type 0) (Q : Word → Type 0) (u v : Word) → Q u → Linked S Q u v → Q v
linked_end S Q u v first h = go u h.0 first h.1
  where
    go : (u : Word) (ws : List Word) → Q u → Chain (LinkStep S Q) u ws v → Q v
    go u [] first e = subst Q e first
    go u (w ∷ ws) first c = go w ws (c.0).right c.1

-- the new rules cover the old ones
pub rewrites_cover : (old new : List (Word × Word)) → Rewrites old new → IsCovered (Listed old) (Listed new)
rewrites_cover old new h l r listed =
    subst (λ (q : Word × Word). Linked (Listed new) (IsNoMore q.0 q.1) q.0 q.1) (listed_at old l r listed) (at listed.0 listed.1)
  where
    at : (i : ℕ) → i < length old
        → Linked (Listed new) (IsNoMore (rule_at old i).0 (rule_at old i).1) (rule_at old i).0 (rule_at old i).1
    at i less =
        let more = lefts_length old new h.lefts in
        let there : i < length new = omega (arith, more, less) in
        let left = lefts_at old new h.lefts i there in
        let rule : Listed new (rule_at old i).0 (rule_at new i).1 =
        subst (λ f. Listed new f (rule_at new i).1) left (Contains-get_or new i ([], []) there) in
        let falls : (rule_at new i).1 ≺ (rule_at old i).0 = listed_falls new h.falling (rule_at old i).0 (rule_at new i).1 rule in
        let bound = IsNoMore (rule_at old i).0 (rule_at old i).1 in
        linked_trans (Listed new) bound (rule_at old i).0 (rule_at new i).1 (rule_at old i).1
        (linked_pair (Listed new) bound (rule_at old i).0 (rule_at new i).1 (inl (inr refl)) (inl (inl falls)) rule)
        (linked_symm (Listed new) bound (rule_at old i).1 (rule_at new i).1
        (linked_weaker (Listed new) (λ x. NoLater x (rule_at old i).1) bound (λ x b. inr b) (rule_at old i).1 (rule_at new i).1 (h.linked i less)))

-- one rewriting after another
pub rewrites_trans : (a b c : List (Word × Word)) → Rewrites a b → Rewrites b c → Rewrites a c
rewrites_trans a b c g h =
    record {
      lefts = h.lefts ∙ g.lefts;
      falling = h.falling;
      linked = at;
      within = λ p L related. h.within p L (g.within p L related);
    }
  where
    at : (i : ℕ) → i < length a → Linked (Listed c) (λ x. NoLater x (rule_at a i).1) (rule_at a i).1 (rule_at c i).1
    at i less =
        let bound : Word → Type 0 = λ x. NoLater x (rule_at a i).1 in
        let more = lefts_length a b g.lefts in
        let middle : NoLater (rule_at b i).1 (rule_at a i).1 = linked_end (Listed b) bound (rule_at a i).1 (rule_at b i).1 (inr refl) (g.linked i less) in
        linked_trans (Listed c) bound (rule_at a i).1 (rule_at b i).1 (rule_at c i).1
        (linked_covered (Listed b) (Listed c) (rewrites_cover b c h) bound (no_later_down (rule_at a i).1) (rule_at a i).1 (rule_at b i).1 (g.linked i less))
        (linked_weaker (Listed c) (λ x. NoLater x (rule_at b i).1) bound (λ x later. no_later_trans x (rule_at b i).1 (rule_at a i).1 later middle)
        (rule_at b i).1 (rule_at c i).1 (h.linked i (omega (arith, less, more))))

-- what was done at a place stays so where the rule there is as before
pub done_stays : (f : Word) (old mid new : List (Word × Word)) (i : ℕ) → lefts new ≡ lefts mid → rule_at new i ≡ rule_at mid i
    → IsDone f old mid i → IsDone f old new i
done_stays f old mid new i e kept (inl reduced) =
    inl (subst (λ (r : Word × Word). IsReduced (Listed new) r.1) (sym kept) (reduced_by_lefts mid new e (rule_at mid i).1 reduced))
done_stays f old mid new i e kept (inr (old_one, free)) = inr (kept ∙ old_one, free)

-- and where the rule was as at the beginning, it is done now
pub done_since : (f : Word) (old mid new : List (Word × Word)) (i : ℕ) → rule_at mid i ≡ rule_at old i → IsDone f mid new i → IsDone f old new i
done_since f old mid new i kept (inl reduced) = inl reduced
done_since f old mid new i kept (inr (mid_one, free)) =
    inr (mid_one ∙ kept, subst (λ (r : Word × Word). IsFactor f r.1 → ⊥) kept free)

-- the right sides before a place have been rewritten, for the left side f
pub record AreRewritten (f : Word) (old now : List (Word × Word)) (place : ℕ) : Type 0 where
  pub rewrites : Rewrites old now ⊎ ((place ≡ 0) × (now ≡ old))
  pub lefts : lefts now ≡ lefts old
  pub later : (i : ℕ) → place ≤ i → i < length old → rule_at now i ≡ rule_at old i
  pub done : (i : ℕ) → i < place → IsDone f old now i

pub rewritten_start : (f : Word) (rules : List (Word × Word)) → AreRewritten f rules rules 0
rewritten_start f rules =
    record { rewrites = inr (refl, refl); lefts = refl; later = λ i from less. refl; done = λ i less. absurd (omega arith) }

pub rewritten_length : (f : Word) (old now : List (Word × Word)) (place : ℕ) → AreRewritten f old now place → length now ≡ length old
rewritten_length f old now place h = lefts_length old now h.lefts

pub rewritten_step : (old now new : List (Word × Word)) (newest place : ℕ) → newest < length old → place < length old
    → AreRewritten (rule_at old newest).0 old now place → Rewrites now new
    → ((i : ℕ) → i < length now → (i ≡ place → ⊥) → rule_at new i ≡ rule_at now i)
    → IsDone (rule_at now newest).0 now new place → AreRewritten (rule_at old newest).0 old new (place + 1)
rewritten_step old now new newest place newest_within within h rewrites others done =
    record {
      rewrites = inl (elim h.rewrites [
        | inl before ↦ rewrites_trans old now new before rewrites
        | inr none ↦ subst (λ (rs : List (Word × Word)). Rewrites rs new) none.1 rewrites
      ]);
      lefts = rewrites.lefts ∙ h.lefts;
      later = λ i from less. others i (omega (arith, less, count)) (λ e. omega (arith, e, from)) ∙ h.later i (omega arith) less;
      done = λ i less. elim (cases_lt i place) [
        | inl before ↦
            done_stays (rule_at old newest).0 old now new i rewrites.lefts (others i (omega (arith, before, within, count)) (λ e. omega (arith, e, before)))
            (h.done i before)
        | inr at ↦
            let here : place ≡ i = omega (arith, at, less) in
            subst (λ n. IsDone (rule_at old newest).0 old new n) here
            (done_since (rule_at old newest).0 old now new place (h.later place (omega arith) within)
            (subst (λ f. IsDone f now new place) (lefts_at old now h.lefts newest (omega (arith, newest_within, count))) done))
      ];
    }
  where
    count : length now ≡ length old
    count = rewritten_length (rule_at old newest).0 old now place h

pub rewritten_end : (f : Word) (old now : List (Word × Word)) (place : ℕ) → 0 < length old → place ≡ length old → AreRewritten f old now place
    → Rewrites old now × ((i : ℕ) → i < length now → IsDone f old now i)
rewritten_end f old now place some all h = (
  elim h.rewrites [ inl rewrites ↦ rewrites | inr none ↦ absurd (omega (arith, some, all, none.0)) ],
  λ i less. h.done i (omega (arith, less, all, rewritten_length f old now place h)),
)

-- the parts of a turn that adds a rule
pub adds_rule : (L : ℕ) (left right : Word) (rules kept pushed new_rules equations between new_equations : List (Word × Word)) (newest : ℕ)
    → SetsAside left rules kept equations between → newest ≡ length kept → pushed ≡ kept ++ (left, right) ∷ [] → Rewrites pushed new_rules
    → ((i : ℕ) → i < length new_rules → IsDone (rule_at pushed newest).0 pushed new_rules i)
    → ((most : ℕ) → AreShort most new_rules → Gains (UpTo L) new_rules between new_equations (length new_rules * (most + most)))
    → ((other : ℕ) → other < length new_rules → AreJoined (UpTo L) new_rules new_equations (rule_at new_rules newest) (rule_at new_rules other)
    × AreJoined (UpTo L) new_rules new_equations (rule_at new_rules other) (rule_at new_rules newest))
    → AddsRule L left right (held_of rules equations) (held_of new_rules new_equations)
adds_rule L left right rules kept pushed new_rules equations between new_equations newest aside place is rewrites done gains joined =
    record {
      kept = kept;
      between = between;
      aside = aside;
      rewrites = subst (λ (rs : List (Word × Word)). Rewrites rs new_rules) is rewrites;
      done = λ i less. subst₂ (λ (f : Word) (rs : List (Word × Word)). IsDone f rs new_rules i) at is (done i less);
      gains = gains;
      joined = λ other less.
          subst (λ n. AreJoined (UpTo L) new_rules new_equations (rule_at new_rules n) (rule_at new_rules other)
          × AreJoined (UpTo L) new_rules new_equations (rule_at new_rules other) (rule_at new_rules n)) place (joined other less);
    }
  where
    at : (rule_at pushed newest).0 ≡ left
    at =
        ap (λ (rs : List (Word × Word)). (rule_at rs newest).0) is ∙ ap (λ n. (rule_at (kept ++ (left, right) ∷ []) n).0) place
        ∙ ap (λ (r : Word × Word). r.0) (get_or-append_seam kept (left, right) [] ([], []))

-- a test that finds the first word greater
pub greater_first : (u v : Word) → Greater ≡ shortlex u v → v ≺ u
greater_first u v e = elim (order_cases u v) [
  | inl less ↦ cc
  | inr (inl is) ↦ let same_words : shortlex v v ≡ Equal = tied_itself shortlex_total v in absurd (no (subst (λ w. Greater ≡ shortlex w v) is e ∙ same_words))
  | inr (inr greater) ↦ greater
]
  where
    no : Greater ≡ Equal → ⊥
    no e = cc

-- where two words lead
pub record LeadTo (rules : List (Word × Word)) (u v left right : Word) : Type 0 where
  pub down_left : Reduces (Listed rules) u left
  pub down_right : Reduces (Listed rules) v right
  pub end_left : IsReduced (Listed rules) left
  pub end_right : IsReduced (Listed rules) right

module _ (L : ℕ) (u v left right : Word) (rules equations : List (Word × Word)) (to : LeadTo rules u v left right) where
  pub joins_equal : Equal ≡ shortlex left right → Joins L u v (held_of rules equations) (held_of rules equations)
  joins_equal e =
      record {
        left = left;
        right = right;
        down_left = to.down_left;
        down_right = to.down_right;
        end_left = to.end_left;
        end_right = to.end_right;
        then = inl (shortlex_exact left right (sym e), refl, refl);
      }

  pub joins_greater : (new_rules new_equations : List (Word × Word)) → Greater ≡ shortlex left right
      → AddsRule L left right (held_of rules equations) (held_of new_rules new_equations) → Joins L u v (held_of rules equations) (held_of new_rules new_equations)
  joins_greater new_rules new_equations e adds =
      record {
        left = left;
        right = right;
        down_left = to.down_left;
        down_right = to.down_right;
        end_left = to.end_left;
        end_right = to.end_right;
        then = inr (inl (greater_first left right e, adds));
      }
