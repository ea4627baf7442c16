use Rattle.coincidence.proofs.groups.put_in.Goals as goal

pub returns-in-Some : goal.returns-in-Some
returns-in-Some c = c.put_there.ensures c.args.kind c.in-Some.ensures.1
