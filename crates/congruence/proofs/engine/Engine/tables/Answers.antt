use Rattle.std.proofs.Common.{subst}
use Rattle.congruence.specs.declared.engine.Engine.{Engine}
use Rattle.congruence.specs.Engines.{IsTaskFor, task_of}
use Rattle.congruence.proofs.ElementTasks.{transf_tables, pperm_tables, bmat_tables, mpt_tables}
use Rattle.congruence.proofs.engine.Engine.tables.Goals as goal

pub returns-in-Transf : goal.returns-in-Transf
returns-in-Transf c p generated task =
    transf_tables p c.in-Transf.search.task c.tables.result.now (subst (λ (e : Engine). IsTaskFor p (task_of e)) c.in-Transf.is task) c.tables.ensures.tables

pub returns-in-PPerm : goal.returns-in-PPerm
returns-in-PPerm c p generated task =
    pperm_tables p c.in-PPerm.search.task c.tables-in-PPerm.result.now (subst (λ (e : Engine). IsTaskFor p (task_of e)) c.in-PPerm.is task) c.tables-in-PPerm.ensures.tables

pub returns-in-BMat : goal.returns-in-BMat
returns-in-BMat c p generated task =
    bmat_tables p c.in-BMat.search.task c.tables-in-BMat.result.now (subst (λ (e : Engine). IsTaskFor p (task_of e)) c.in-BMat.is task) c.tables-in-BMat.ensures.tables

pub returns-in-MaxPlus : goal.returns-in-MaxPlus
returns-in-MaxPlus c p generated task =
    mpt_tables p c.in-MaxPlus.search.task c.tables-in-MaxPlus.result.now (subst (λ (e : Engine). IsTaskFor p (task_of e)) c.in-MaxPlus.is task) c.tables-in-MaxPlus.ensures.tables
