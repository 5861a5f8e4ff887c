use Rattle.std.proofs.Common.{option_map}
use Rattle.stt_core.specs.View.{the_type}
use Rattle.stt_core.specs.ScopeView.{the_scope}
use Rattle.tableau_calculus.proofs.TypedLaws.{canonical_tells}
use Rattle.tableau_calculus.proofs.typed.is_typed_at.Goals as goal

pub returns : goal.returns
returns c =
    let t = canonical_tells (the_scope c.args.sig.now c.args.types.now) c.args.nf.now (option_map the_type c.in_ok-found.found) c.in_ok-found.ensures (the_type c.args.ty.now) in
    (λ h. t.0 (c.is_type.ensures.0 h), λ h. c.is_type.ensures.1 (t.1 h))
