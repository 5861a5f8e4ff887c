use Rattle.std.proofs.Common.{◌≡◌, option_map, is_some, ◌∙◌, Option, None, Some, refl}
use Rattle.stt_core.specs.View.{the_type}
use Rattle.stt_core.specs.ScopeView.{the_scope}
use Rattle.stt_core.specs.declared.ty.Ty.{Ty}
use Rattle.tableau_calculus.proofs.TypedLaws.{some_type_tells}
use Rattle.tableau_calculus.proofs.typed.has_some_type.Goals as goal

is_some-map : (o : Option Ty) → is_some o ≡ is_some (option_map the_type o)
is_some-map None = refl
is_some-map (Some ty) = refl

pub returns : goal.returns
returns c =
    some_type_tells (the_scope c.args.sig.now c.args.types.now) c.args.nf.now (option_map the_type c.in_ok-found.found) c.is_some.result c.in_ok-found.ensures (c.is_some.ensures ∙ is_some-map c.in_ok-found.found)
