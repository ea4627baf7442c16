use Rattle.std.proofs.Common.{subst}
use Rattle.congruence.specs.declared.engine.Engine.{Engine}
use Rattle.congruence.specs.Engines.{IsTaskFor, task_of}
use Rattle.congruence.proofs.ElementTasks.{transf_classes, pperm_classes, bmat_classes, mpt_classes}
use Rattle.congruence.proofs.engine.Engine.element_classes.Goals as goal

pub new-requires : goal.new-requires
new-requires c =
    transf_classes c.args.problem.now c.in-Transf.search.task c.tables.result.now c.classes.result.now c.alphabet-posed.ensures.posed
    (subst (λ (e : Engine). IsTaskFor c.args.problem.now (task_of e)) c.in-Transf.is c.requires.task)
    c.tables.ensures.tables (c.classes.ensures.classes c.tables.result.now c.tables.ensures.found)

pub new-requires-in-PPerm : goal.new-requires-in-PPerm
new-requires-in-PPerm c =
    pperm_classes c.args.problem.now c.in-PPerm.search.task c.tables-in-PPerm.result.now c.classes-in-PPerm.result.now c.alphabet-posed.ensures.posed
    (subst (λ (e : Engine). IsTaskFor c.args.problem.now (task_of e)) c.in-PPerm.is c.requires.task)
    c.tables-in-PPerm.ensures.tables (c.classes-in-PPerm.ensures.classes c.tables-in-PPerm.result.now c.tables-in-PPerm.ensures.found)

pub new-requires-in-BMat : goal.new-requires-in-BMat
new-requires-in-BMat c =
    bmat_classes c.args.problem.now c.in-BMat.search.task c.tables-in-BMat.result.now c.classes-in-BMat.result.now c.alphabet-posed.ensures.posed
    (subst (λ (e : Engine). IsTaskFor c.args.problem.now (task_of e)) c.in-BMat.is c.requires.task)
    c.tables-in-BMat.ensures.tables (c.classes-in-BMat.ensures.classes c.tables-in-BMat.result.now c.tables-in-BMat.ensures.found)

pub new-requires-in-MaxPlus : goal.new-requires-in-MaxPlus
new-requires-in-MaxPlus c =
    mpt_classes c.args.problem.now c.in-MaxPlus.search.task c.tables-in-MaxPlus.result.now c.classes-in-MaxPlus.result.now c.alphabet-posed.ensures.posed
    (subst (λ (e : Engine). IsTaskFor c.args.problem.now (task_of e)) c.in-MaxPlus.is c.requires.task)
    c.tables-in-MaxPlus.ensures.tables (c.classes-in-MaxPlus.ensures.classes c.tables-in-MaxPlus.result.now c.tables-in-MaxPlus.ensures.found)
