use Rattle.green.proofs.ToldLaws.{of_letters, tables_agree, tables_commute}
use Rattle.green.proofs.facts.tables_serve.Goals as goal

pub returns-clause-words : goal.returns-clause-words
returns-clause-words g c = of_letters g.V.Values.product g.V.PartialEq.eq

pub returns-clause-commute : goal.returns-clause-commute
returns-clause-commute g c generators unused one tables are =
    tables_commute g.V.Values.shape g.V.Values.product g.V.PartialEq.eq g.met.V.Values.products generators unused one tables are

pub returns-clause-agree : goal.returns-clause-agree
returns-clause-agree g c generators unused one tables are =
    tables_agree g.V.Values.shape g.V.Values.product g.V.PartialEq.eq g.met.V.Values.products generators unused one tables are
