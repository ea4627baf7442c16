-- What answers need of elements.
use Rattle.std.specs.Prelude.{◌≡◌, ◌≢◌}
use Rattle.std.proofs.Common.{sym}
use Rattle.query_lang.specs.declared.script.Query.{Query}
use Rattle.query_lang.specs.declared.script.Query.TheVariants.{Index, Equal, Normal, Classes, RuleList, ElementOf, Cayley, LowIndex, Meet, Join, Chain, Green, Idempotents}
use Rattle.report_lines.specs.declared.known.KnownElements.{KnownElements}
use Rattle.query_answers.specs.Answer.{awaited_by}
use Rattle.report.specs.Kept.{HasElements}
use Rattle.query_answers.specs.declared.awaited.Awaited.{Awaited}
use Rattle.query_answers.specs.declared.awaited.Awaited.TheVariants.{Decision}

-- a query that waits for no decision needs nothing of them
pub needs_none : (query : Query) (awaited : Awaited) → awaited_by query ≡ awaited → awaited ≢ Decision → (known : KnownElements) → HasElements query known
needs_none Index awaited e d known = tt
needs_none (Equal u v) awaited e d known = tt
needs_none (Normal u) awaited e d known = tt
needs_none (Classes count after) awaited e d known = tt
needs_none RuleList awaited e d known = tt
needs_none (ElementOf u) awaited e d known = tt
needs_none Cayley awaited e d known = tt
needs_none (LowIndex two_sided classes count after) awaited e d known = tt
needs_none (Meet s t) awaited e d known = tt
needs_none (Join s t) awaited e d known = tt
needs_none (Chain u v) awaited e d known = tt
needs_none (Green relation) awaited e d known = absurd (d (sym e))
needs_none Idempotents awaited e d known = absurd (d (sym e))
