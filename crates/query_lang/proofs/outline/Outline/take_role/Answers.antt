use Rattle.std.proofs.Common.{◌≡◌, IfErr, OnOk, Ok, subst, sym}
use Rattle.problem.specs.declared.kinds.Problem.TheVariants.{Presented}
use Rattle.line_parts.specs.Faults.{IsLineFault}
use Rattle.line_parts.specs.Texts.{texts}
use Rattle.query_lang.specs.declared.form.Form.TheVariants.{OfRole}
use Rattle.query_lang.specs.Outline.{related}
use Rattle.query_lang.specs.Values.{added_of}
use Rattle.query_lang.proofs.outline.Outline.take_role.Goals as goal

pub returns-in-Identity-clause-ok : goal.returns-in-Identity-clause-ok
returns-in-Identity-clause-ok c = subst (λ role. OnOk c.take_identity.result (related c.args.self.now (added_of c.args.version (Presented c.args.self.now) (OfRole role) (texts c.args.tokens.now)) ≡ Ok c.take_identity.new.self)) (sym c.in-Identity.is) c.take_identity.ensures.ok

pub returns-in-Identity-clause-err : goal.returns-in-Identity-clause-err
returns-in-Identity-clause-err c = subst (λ role. IfErr c.take_identity.result (IsLineFault (related c.args.self.now (added_of c.args.version (Presented c.args.self.now) (OfRole role) (texts c.args.tokens.now))))) (sym c.in-Identity.is) c.take_identity.ensures.err

pub returns-in-Zero-clause-ok : goal.returns-in-Zero-clause-ok
returns-in-Zero-clause-ok c = subst (λ role. OnOk c.take_zero.result (related c.args.self.now (added_of c.args.version (Presented c.args.self.now) (OfRole role) (texts c.args.tokens.now)) ≡ Ok c.take_zero.new.self)) (sym c.in-Zero.is) c.take_zero.ensures.ok

pub returns-in-Zero-clause-err : goal.returns-in-Zero-clause-err
returns-in-Zero-clause-err c = subst (λ role. IfErr c.take_zero.result (IsLineFault (related c.args.self.now (added_of c.args.version (Presented c.args.self.now) (OfRole role) (texts c.args.tokens.now))))) (sym c.in-Zero.is) c.take_zero.ensures.err

pub returns-in-Inverse-clause-ok : goal.returns-in-Inverse-clause-ok
returns-in-Inverse-clause-ok c = subst (λ role. OnOk c.take_inverse.result (related c.args.self.now (added_of c.args.version (Presented c.args.self.now) (OfRole role) (texts c.args.tokens.now)) ≡ Ok c.take_inverse.new.self)) (sym c.in-Inverse.is) c.take_inverse.ensures.ok

pub returns-in-Inverse-clause-err : goal.returns-in-Inverse-clause-err
returns-in-Inverse-clause-err c = subst (λ role. IfErr c.take_inverse.result (IsLineFault (related c.args.self.now (added_of c.args.version (Presented c.args.self.now) (OfRole role) (texts c.args.tokens.now))))) (sym c.in-Inverse.is) c.take_inverse.ensures.err
