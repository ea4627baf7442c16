use Rattle.std.proofs.Common.{◌≡◌, ◌==◌, length, refl, sym, ap, ◌∙◌}
use Rattle.problem.specs.Problem.{letters_of}
use Rattle.problem.specs.declared.kinds.Problem.TheVariants.{Transf, PPerm, BMat, MaxPlus}
use Rattle.query_lang.specs.Header.{Start}
use Rattle.query_lang.proofs.PairingLemmas.{unpaired_fits}
use Rattle.query_lang.proofs.DraftLemmas.{seen}
use Rattle.query_lang.proofs.draft.Draft.problem.Goals as goal

pub posed-requires : goal.posed-requires
posed-requires c =
    let is : ◌≡◌ {A = Start} c.args.self (c.in-Transf.draft.sizes, Transf c.in-Transf.draft.posed) = sym c.self.view_is ∙ ap seen c.in-Transf.is in
    ap (λ d. length d.posed.letters == 0) c.in-Transf.draft-is ∙ ap (λ (s : Start). length (letters_of s.1) == 0) (sym is) ∙ c.requires

pub returns-in_ok-posed-in-Transf-clause-problem : goal.returns-in_ok-posed-in-Transf-clause-problem
returns-in_ok-posed-in-Transf-clause-problem c =
    let is : ◌≡◌ {A = Start} c.args.self (c.in-Transf.draft.sizes, Transf c.in-Transf.draft.posed) = sym c.self.view_is ∙ ap seen c.in-Transf.is in
    ap (λ p. Transf p) c.in_ok-posed-in-Transf.ensures.posed ∙ ap (λ d. Transf d.posed) c.in-Transf.draft-is ∙ ap (λ (s : Start). s.1) (sym is)

pub returns-in_ok-posed-in-Transf-clause-pairable : goal.returns-in_ok-posed-in-Transf-clause-pairable
returns-in_ok-posed-in-Transf-clause-pairable c = unpaired_fits _ refl c.in_ok-posed-in-Transf.ensures.unpaired

pub posed-requires-in-PPerm : goal.posed-requires-in-PPerm
posed-requires-in-PPerm c =
    let is : ◌≡◌ {A = Start} c.args.self (c.in-PPerm.draft.sizes, PPerm c.in-PPerm.draft.posed) = sym c.self.view_is ∙ ap seen c.in-PPerm.is in
    ap (λ d. length d.posed.letters == 0) c.in-PPerm.draft-is ∙ ap (λ (s : Start). length (letters_of s.1) == 0) (sym is) ∙ c.requires

pub returns-in_ok-posed-in-PPerm-clause-problem : goal.returns-in_ok-posed-in-PPerm-clause-problem
returns-in_ok-posed-in-PPerm-clause-problem c =
    let is : ◌≡◌ {A = Start} c.args.self (c.in-PPerm.draft.sizes, PPerm c.in-PPerm.draft.posed) = sym c.self.view_is ∙ ap seen c.in-PPerm.is in
    ap (λ p. PPerm p) c.in_ok-posed-in-PPerm.ensures.posed ∙ ap (λ d. PPerm d.posed) c.in-PPerm.draft-is ∙ ap (λ (s : Start). s.1) (sym is)

pub returns-in_ok-posed-in-PPerm-clause-pairable : goal.returns-in_ok-posed-in-PPerm-clause-pairable
returns-in_ok-posed-in-PPerm-clause-pairable c = unpaired_fits _ refl c.in_ok-posed-in-PPerm.ensures.unpaired

pub posed-requires-in-BMat : goal.posed-requires-in-BMat
posed-requires-in-BMat c =
    let is : ◌≡◌ {A = Start} c.args.self (c.in-BMat.draft.sizes, BMat c.in-BMat.draft.posed) = sym c.self.view_is ∙ ap seen c.in-BMat.is in
    ap (λ d. length d.posed.letters == 0) c.in-BMat.draft-is ∙ ap (λ (s : Start). length (letters_of s.1) == 0) (sym is) ∙ c.requires

pub returns-in_ok-posed-in-BMat-clause-problem : goal.returns-in_ok-posed-in-BMat-clause-problem
returns-in_ok-posed-in-BMat-clause-problem c =
    let is : ◌≡◌ {A = Start} c.args.self (c.in-BMat.draft.sizes, BMat c.in-BMat.draft.posed) = sym c.self.view_is ∙ ap seen c.in-BMat.is in
    ap (λ p. BMat p) c.in_ok-posed-in-BMat.ensures.posed ∙ ap (λ d. BMat d.posed) c.in-BMat.draft-is ∙ ap (λ (s : Start). s.1) (sym is)

pub returns-in_ok-posed-in-BMat-clause-pairable : goal.returns-in_ok-posed-in-BMat-clause-pairable
returns-in_ok-posed-in-BMat-clause-pairable c = unpaired_fits _ refl c.in_ok-posed-in-BMat.ensures.unpaired

pub posed-requires-in-MaxPlus : goal.posed-requires-in-MaxPlus
posed-requires-in-MaxPlus c =
    let is : ◌≡◌ {A = Start} c.args.self (c.in-MaxPlus.draft.sizes, MaxPlus c.in-MaxPlus.draft.posed) = sym c.self.view_is ∙ ap seen c.in-MaxPlus.is in
    ap (λ d. length d.posed.letters == 0) c.in-MaxPlus.draft-is ∙ ap (λ (s : Start). length (letters_of s.1) == 0) (sym is) ∙ c.requires

pub returns-in_ok-posed-in-MaxPlus-clause-problem : goal.returns-in_ok-posed-in-MaxPlus-clause-problem
returns-in_ok-posed-in-MaxPlus-clause-problem c =
    let is : ◌≡◌ {A = Start} c.args.self (c.in-MaxPlus.draft.sizes, MaxPlus c.in-MaxPlus.draft.posed) = sym c.self.view_is ∙ ap seen c.in-MaxPlus.is in
    ap (λ p. MaxPlus p) c.in_ok-posed-in-MaxPlus.ensures.posed ∙ ap (λ d. MaxPlus d.posed) c.in-MaxPlus.draft-is ∙ ap (λ (s : Start). s.1) (sym is)

pub returns-in_ok-posed-in-MaxPlus-clause-pairable : goal.returns-in_ok-posed-in-MaxPlus-clause-pairable
returns-in_ok-posed-in-MaxPlus-clause-pairable c = unpaired_fits _ refl c.in_ok-posed-in-MaxPlus.ensures.unpaired
