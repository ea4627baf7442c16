use Rattle.std.proofs.Common.{ap, Err, ◌*◌}
use Rattle.elements.specs.BMat.{IsBit, field_of_bit}
use Rattle.line_parts.specs.Entries.{bit}
use Rattle.line_parts.proofs.EntryLemmas.{reads_bits}
use Rattle.line_parts.proofs.FaultLemmas.{handed_on, refused_then}
use Rattle.line_parts.proofs.KindLemmas.{entries_refused, boolean_matrix_read}
use Rattle.line_parts.proofs.generator.BMatGenerator.generator.Goals as goal

pub returns-in_err-read-clause-err : goal.returns-in_err-read-clause-err
returns-in_err-read-clause-err c =
    let read = c.in_err-read.ensures in
    handed_on _ _ _ c.from_residual.ensures.1
    (refused_then _ _ _
    (entries_refused IsBit field_of_bit bit reads_bits (c.args.sizes.0 * c.args.sizes.0) c.args.fields.now c.in_err-read.field-0.0
    (record {
      wrong_count = λ e. read.count.0 (ap Err e);
      right_count = λ place e. (read.entry place (ap Err e)).0;
      bad_entry = λ place e. let at = (read.entry place (ap Err e)).1.at in record { field = at.0; at = at.1; bad = at.2 };
    })
    (λ place e. read.injective place (ap Err e))))

pub returns-clause-ok : goal.returns-clause-ok
returns-clause-ok c =
    let read = c.in_ok-read.ensures in
    boolean_matrix_read c.args.sizes c.args.fields.now c.in_ok-read.field-0 read.entries.0 read.entries.1 read.valid
