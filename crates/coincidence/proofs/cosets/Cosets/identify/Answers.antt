use Rattle.coincidence.proofs.HeldLaws.{joined_gathered, joined_identified, joined_whole}
use Rattle.coincidence.proofs.cosets.Cosets.identify.Goals as goal

pub returns : goal.returns
returns c = record {
  whole = λ k w. joined_whole k c.args.self.now c.merge.new.self c.args.x c.args.y _ _ w c.requires.x c.requires.y c.in_ok-merge.ensures;
  relates = (joined_identified c.requires.whole.0 c.args.self.now c.merge.new.self c.args.x c.args.y _ _ c.requires.whole.1 c.requires.x c.requires.y c.in_ok-merge.ensures).relates;
  gathered = joined_gathered c.requires.whole.0 c.args.self.now c.merge.new.self c.args.x c.args.y _ _ c.requires.whole.1 c.requires.x c.requires.y c.in_ok-merge.ensures;
}
