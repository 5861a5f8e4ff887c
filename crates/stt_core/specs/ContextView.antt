-- What is in scope: the types of the bound variables, innermost first, and what is declared.
use Rattle.std.specs.Prelude.{List, [], ◌∷◌, reverse}
use Rattle.stt_core.specs.SimpleType.{SimpleType}
use Rattle.stt_core.specs.View.{the_type}
use Rattle.stt_core.specs.Typing.{Scope}
use Rattle.stt_core.specs.ScopeView.{the_scope}
use Rattle.stt_core.specs.declared.typing.Declared.{Declared}
use Rattle.stt_core.specs.declared.typing.Context.{Context}
use Rattle.stt_core.specs.declared.typing.Context.TheVariants.{Empty, Outer, Inner'}

abbrev pub the_context : Context → List SimpleType
the_context Empty = []
the_context (Outer types) = reverse types.now
the_context (Inner' a p outer) = the_type a.now ∷ the_context outer

abbrev pub declared_scope : Declared → Scope
declared_scope d = the_scope d.sig.now d.wits.now
