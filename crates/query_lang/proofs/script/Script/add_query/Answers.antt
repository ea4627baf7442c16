use Rattle.std.proofs.Common.{All, sym, subst}
use Rattle.std.proofs.lemmas.List.Elements.{All-push}
use Rattle.query_lang.specs.Asked.{ScriptOf}
use Rattle.query_lang.specs.Query.{IsQueryOf}
use Rattle.query_lang.proofs.script.Script.add_query.Goals as goal

pub invariant_of-self-2 : goal.invariant_of-self-2
invariant_of-self-2 c =
    let p = c.self.inside.problem in
    let own : IsQueryOf p c.in_ok-query.query = subst (λ (s : ScriptOf). IsQueryOf s.problem c.in_ok-query.query) (sym c.self.view_is) c.in_ok-query.ensures.own in
    (c.self.invariant.0, subst (λ queries. All (IsQueryOf p) queries) (sym c.in_ok-push.ensures.items) (All-push (IsQueryOf p) c.self.inside.queries.items c.in_ok-query.query c.self.invariant.1 own))
