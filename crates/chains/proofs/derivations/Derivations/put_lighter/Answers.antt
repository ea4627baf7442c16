use Rattle.chains.proofs.LighterLaws.{front_more}
use Rattle.chains.proofs.derivations.Derivations.put_lighter.Goals as goal

pub returns : goal.returns
returns c = front_more c.args.number c.args.self.now c.args.light.now c.push.new.self c.in_ok-fact.fact c.requires.front c.in_ok-fact.ensures.words c.in_ok-push.ensures.ok
