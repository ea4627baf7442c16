use Rattle.std.proofs.Common.{◌+◌, ◌-◌, ◌*◌, length}
use Rattle.sims_one.proofs.search.+search_after.Given as goal

abbrev pub decreases-search_after : goal.decreases-search_after
decreases-search_after l = 2 * (length l.cursor.now - length l.branch.now.targets.items) + 1

abbrev pub decreases-search_along : goal.decreases-search_along
decreases-search_along l = 2 * (length l.cursor.now - length l.branch.now.targets.items)
