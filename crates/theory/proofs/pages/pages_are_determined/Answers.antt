use Rattle.theory.proofs.Listings.{page_join, page_unique, start_full}
use Rattle.theory.proofs.pages.pages_are_determined.Goals as goal

pub returns-clause-one : goal.returns-clause-one
returns-clause-one g c = page_unique g.O.Ordered.has g.O.Ordered.less

pub returns-clause-join : goal.returns-clause-join
returns-clause-join g c = page_join g.O.Ordered.has g.O.Ordered.less

pub returns-clause-full : goal.returns-clause-full
returns-clause-full g c order cursor count xs more page = start_full g.O.Ordered.has g.O.Ordered.less order cursor xs page.first
