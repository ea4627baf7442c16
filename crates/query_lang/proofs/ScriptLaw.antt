-- Bytes are one script of the grammar, or have one first fault.
use Rattle.std.proofs.Common.{◌≡◌, ℕ, suc, ◌⊎◌, inl, inr, List, [], ◌∷◌, ◌++◌, length, Option, Some, None, refl, sym, ap, ◌∙◌, subst}
use Rattle.line_parts.specs.declared.cause.Cause.{Cause}
use Rattle.line_parts.specs.Token.{Line}
use Rattle.query_lang.specs.Asked.{ScriptOf}
use Rattle.query_lang.specs.Grammar.{Partial, Said, Nothing, OfVersion, Begun, Step, Reads, none, more, lines_of, script_in}
use Rattle.query_lang.specs.LineCauses.{AreScript, IsFirstFault, cause_at_end, cause_of_line}
use Rattle.query_lang.proofs.StepLaw.{one_step, step_has_no_cause}
use Rattle.query_lang.proofs.TotalLaw.{total}

-- what lines give: they are all read, or one is the first with a cause
data Outcome (s : Said) (lines : List Line) : Type 0 where
  all : (t : Said) → Reads s lines t → Outcome s lines
  faulty : (before after : List Line) (line : Line) (t : Said) (c : Cause) → lines ≡ before ++ line ∷ after → Reads s before t → cause_of_line t line ≡ Some c → Outcome s lines

behind : (s t : Said) (line : Line) (lines : List Line) → Step s line t → Outcome t lines → Outcome s (line ∷ lines)
behind s t line lines step (all u rest) = all u (more step rest)
behind s t line lines step (faulty before after x u c whole reads h) = faulty (line ∷ before) after x u c (ap (λ ls. line ∷ ls) whole) (more step reads) h

first : (s : Said) (line : Line) (lines : List Line) → ((t : Said) → Outcome t lines) → (o : Option Cause) → cause_of_line s line ≡ o → Outcome s (line ∷ lines)
first s line lines next (Some c) h = faulty [] lines line s c refl none h
first s line lines next None h = let t = total s line h in behind s t.0 line lines t.1 (next t.0)

outcome : (s : Said) (lines : List Line) → Outcome s lines
outcome s [] = all s none
outcome s (line ∷ lines) = first s line lines (λ t. outcome t lines) (cause_of_line s line) refl

-- lines are a script, or have a first fault
abbrev pub Verdict : List Line → Type 0
Verdict lines = ((script : ScriptOf) × AreScript lines script) ⊎ ((n : ℕ) × (c : Cause) × IsFirstFault lines n c)

at_end : (s : Said) (lines : List Line) → Reads Nothing lines s → (o : Option Cause) → cause_at_end s ≡ o → Verdict lines
at_end s lines reads (Some c) h = inr (length lines, c, inr (record { said = s; number = refl; reads = reads; missing = h }))
at_end Nothing lines reads None h = absurd (cc)
at_end (OfVersion version) lines reads None h = absurd (cc)
at_end (Begun p) lines reads None h = inl (script_in p, record { said = p; reads = reads; whole = h; is = refl })

judged : (lines : List Line) → Outcome Nothing lines → Verdict lines
judged lines (all s reads) = at_end s lines reads (cause_at_end s) refl
judged lines (faulty before after line s c whole reads h) =
    inr (suc (length before), c, inl (record { before = before; line = line; after = after; said = s; whole = whole; number = refl; reads = reads; faulty = h }))

pub verdict : (lines : List Line) → Verdict lines
verdict lines = judged lines (outcome Nothing lines)

-- lines are read to one thing
one_reading : (s t u : Said) (lines : List Line) → Reads s lines t → Reads s lines u → t ≡ u
one_reading s t u [] none none = refl
one_reading s t u (line ∷ lines) (more {t = v} step rest) (more {t = w} again others) =
    one_reading w t u lines (subst (λ v. Reads v lines t) (one_step s v w line step again) rest) others

never : {A : Type 0} (s t : Said) (line : Line) (c : Cause) → Step s line t → cause_of_line s line ≡ Some c → A
never s t line c step h = let none : ◌≡◌ {A = Option Cause} None (Some c) = sym (step_has_no_cause s t line step) ∙ h in absurd (cc)

-- lines with a fault are not read
no_reading : {A : Type 0} (s t u : Said) (lines before after : List Line) (line : Line) (c : Cause) → lines ≡ before ++ line ∷ after → Reads s before t → cause_of_line t line ≡ Some c → Reads s lines u → A
no_reading s t u [] [] after line c whole reads h others = absurd (cc)
no_reading s t u [] (x ∷ before) after line c whole reads h others = absurd (cc)
no_reading s t u (y ∷ lines) [] after line c whole none h (more {t = w} step rest) = let same : y ≡ line = cc in never s w y c step (ap (cause_of_line s) same ∙ h)
no_reading s t u (y ∷ lines) (x ∷ before) after line c whole (more {t = v} step reads) h (more {t = w} again rest) =
    let same : y ≡ x = cc in
    let behind : lines ≡ before ++ line ∷ after = cc in
    no_reading w t u lines before after line c behind (subst (λ v. Reads v before t) (one_step s v w x step (subst (λ y. Step s y w) same again)) reads) h rest

-- two faults of lines stand in one place
one_place : (s t u : Said) (lines before after others behind : List Line) (x y : Line) (c d : Cause) → lines ≡ before ++ x ∷ after → Reads s before t → cause_of_line t x ≡ Some c
    → lines ≡ others ++ y ∷ behind → Reads s others u → cause_of_line u y ≡ Some d → (length before ≡ length others) × (c ≡ d)
one_place s t u lines [] after [] behind x y c d whole none h again none k = let same : x ≡ y = cc in let causes : Some c ≡ Some d = sym h ∙ ap (cause_of_line s) same ∙ k in (refl, cc)
one_place s t u lines [] after (z ∷ others) behind x y c d whole none h again (more {t = v} step rest) k = let same : z ≡ x = cc in never s v z c step (ap (cause_of_line s) same ∙ h)
one_place s t u lines (z ∷ before) after [] behind x y c d whole (more {t = v} step rest) h again none k = let same : z ≡ y = cc in never s v z d step (ap (cause_of_line s) same ∙ k)
one_place s t u lines (z ∷ before) after (w ∷ others) behind x y c d whole (more {t = v} step rest) h again (more {t = v2} step2 rest2) k =
    let same : z ≡ w = cc in
    let tails : before ++ x ∷ after ≡ others ++ y ∷ behind = cc in
    let found = one_place v2 t u (before ++ x ∷ after) before after others behind x y c d refl (subst (λ v. Reads v before t) (one_step s v v2 z step (subst (λ w. Step s w v2) (sym same) step2)) rest) h tails rest2 k in
    (ap (λ n. suc n) found.0, found.1)

same_partial : (p q : Partial) → Begun p ≡ Begun q → p ≡ q
same_partial p q e = cc

same_cause : (c d : Cause) → Some c ≡ Some d → c ≡ d
same_cause c d e = cc

pub one_script : (bytes : List ℕ) (p q : ScriptOf) → AreScript (lines_of bytes) p → AreScript (lines_of bytes) q → p ≡ q
one_script bytes p q a b =
    sym a.is ∙ ap script_in (same_partial a.said b.said (one_reading Nothing (Begun a.said) (Begun b.said) (lines_of bytes) a.reads b.reads)) ∙ b.is

pub one_fault : (bytes : List ℕ) (m n : ℕ) (c d : Cause) → IsFirstFault (lines_of bytes) m c → IsFirstFault (lines_of bytes) n d → (m ≡ n) × (c ≡ d)
one_fault bytes m n c d (inl f) (inl g) =
    let found = one_place Nothing f.said g.said (lines_of bytes) f.before f.after g.before g.after f.line g.line c d f.whole f.reads f.faulty g.whole g.reads g.faulty in
    (f.number ∙ ap (λ k. suc k) found.0 ∙ sym g.number, found.1)
one_fault bytes m n c d (inl f) (inr g) = no_reading Nothing f.said g.said (lines_of bytes) f.before f.after f.line c f.whole f.reads f.faulty g.reads
one_fault bytes m n c d (inr f) (inl g) = no_reading Nothing g.said f.said (lines_of bytes) g.before g.after g.line d g.whole g.reads g.faulty f.reads
one_fault bytes m n c d (inr f) (inr g) =
    (f.number ∙ sym g.number, same_cause c d (sym f.missing ∙ ap cause_at_end (one_reading Nothing f.said g.said (lines_of bytes) f.reads g.reads) ∙ g.missing))

pub no_script_with_fault : (bytes : List ℕ) (p : ScriptOf) (n : ℕ) (c : Cause) → AreScript (lines_of bytes) p → IsFirstFault (lines_of bytes) n c → ⊥
no_script_with_fault bytes p n c a (inl f) = no_reading Nothing f.said (Begun a.said) (lines_of bytes) f.before f.after f.line c f.whole f.reads f.faulty a.reads
no_script_with_fault bytes p n c a (inr f) =
    let none : ◌≡◌ {A = Option Cause} None (Some c) = sym a.whole ∙ ap cause_at_end (one_reading Nothing (Begun a.said) f.said (lines_of bytes) a.reads f.reads) ∙ f.missing in
    absurd (cc)
