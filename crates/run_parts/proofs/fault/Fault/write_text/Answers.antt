use Rattle.std.proofs.Common.{ap, sym}
use Rattle.ports.proofs.WriteLemmas.{same_bytes}
use Rattle.run_parts.specs.Status.{text_of}
use Rattle.run_parts.proofs.fault.Fault.write_text.Goals as goal

pub returns-in-TooLong : goal.returns-in-TooLong
returns-in-TooLong g c = record { bytes = same_bytes g.E.Sink _ _ _ _ _ (ap text_of (sym c.in-TooLong.is)) c.write_all.ensures.bytes; refusals = c.write_all.ensures.refusals }

pub returns-in-Script : goal.returns-in-Script
returns-in-Script g c = record { bytes = same_bytes g.E.Sink _ _ _ _ _ (ap text_of (sym c.in-Script.is)) c.write_place.ensures.bytes; refusals = c.write_place.ensures.refusals }

pub returns-in-Arguments : goal.returns-in-Arguments
returns-in-Arguments g c = record { bytes = same_bytes g.E.Sink _ _ _ _ _ (ap text_of (sym c.in-Arguments.is)) c.write_all-in-Arguments.ensures.bytes; refusals = c.write_all-in-Arguments.ensures.refusals }

pub returns-in-Read : goal.returns-in-Read
returns-in-Read g c = record { bytes = same_bytes g.E.Sink _ _ _ _ _ (ap text_of (sym c.in-Read.is)) c.write_all-in-Read.ensures.bytes; refusals = c.write_all-in-Read.ensures.refusals }

pub returns-in-Write : goal.returns-in-Write
returns-in-Write g c = record { bytes = same_bytes g.E.Sink _ _ _ _ _ (ap text_of (sym c.in-Write.is)) c.write_all-in-Write.ensures.bytes; refusals = c.write_all-in-Write.ensures.refusals }

pub returns-in-NoMemory : goal.returns-in-NoMemory
returns-in-NoMemory g c = record { bytes = same_bytes g.E.Sink _ _ _ _ _ (ap text_of (sym c.in-NoMemory.is)) c.write_all-in-NoMemory.ensures.bytes; refusals = c.write_all-in-NoMemory.ensures.refusals }
