use Rattle.std.proofs.Common.{◌∙◌, [], option_map, ap}
use Rattle.stt_core.specs.View.{the_type}
use Rattle.stt_core.specs.Internal.CanonicalType.{canonical_type}
use Rattle.tableau_calculus.proofs.TypedLaws.{canonical_tells}
use Rattle.refute_check.specs.Internal.Shared.{shared_scope}
use Rattle.refute_check.proofs.SharedLaws.{signature_scope}
use Rattle.refute_check.proofs.shared.Shared.type_of.Goals as goal

pub returns : goal.returns
returns c =
    let s = c.args.self.now in
    canonical_tells (shared_scope s) c.args.nf.now (option_map the_type c.in_ok-type_of_closed.field-0)
    (c.in_ok-type_of_closed.ensures ∙ ap (λ x. canonical_type x [] c.args.nf.now) (signature_scope s.bank c.sig.result.now s.types c.sig.ensures.bases c.sig.ensures.consts c.requires.good.types))
