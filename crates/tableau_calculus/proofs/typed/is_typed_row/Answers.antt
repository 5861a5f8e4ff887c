use Rattle.std.proofs.Common.{option_map}
use Rattle.stt_core.specs.View.{the_type}
use Rattle.stt_core.specs.ScopeView.{the_scope}
use Rattle.tableau_calculus.proofs.TypedLaws.{row_tells}
use Rattle.tableau_calculus.proofs.typed.is_typed_row.Goals as goal

pub returns : goal.returns
returns c =
    let i = c.row.inside in
    row_tells (the_scope c.args.sig.now c.args.types.now) (record { type = the_type i.ty; predicate = i.predicate }) c.args.row.now (option_map the_type c.in_ok-found.found) c.is_predicate_on.result c.in_ok-found.ensures c.is_predicate_on.ensures c.row.view_is
