use Rattle.green.proofs.EdgeLaws.{rows_alone, names_alone}
use Rattle.green.proofs.Results.{if_ok}
use Rattle.green.proofs.naming.component_names.Goals as goal

pub names_in-requires : goal.names_in-requires
names_in-requires c =
    rows_alone c.args.edges c.args.tables.now c.requires c.rows_along.result.now c.rows_along.ensures c.as_slice.result.now c.as_slice.ensures

pub returns : goal.returns
returns c =
    if_ok c.names_in.result _ _ c.names_in.ensures (λ names are.
    names_alone c.args.edges c.args.tables.now c.requires c.rows_along.result.now c.rows_along.ensures c.as_slice.result.now c.as_slice.ensures names.items are)
