-- The types that stems of partial terms come with.
use Rattle.std.specs.Prelude.{◌≡◌, List}
use Rattle.stt_core.specs.SimpleType.{SimpleType}
use Rattle.stt_core.specs.Typing.{Scope}
use Rattle.stt_core.specs.View.{the_type}
use Rattle.search_spec.specs.State.{Sketch}
use Rattle.instantiate.specs.Growing.{TakesHead}
use Rattle.prover_state.specs.declared.stem.Stem.{Stem}
use Rattle.prover_state.specs.declared.stem.Stem.TheVariants.{Blank, Grown}
use Rattle.prover_state.specs.Internal.Heads.{the_hole_head}
use Rattle.prover_state.specs.Internal.Names.{sketch_at}

-- the type is that of the stem's head at the first hole, or else the partial term's own
abbrev pub IsStemType : Scope → List Sketch → Stem → SimpleType → Type 0
IsStemType scope earlier (Blank a) b = b ≡ the_type a.value
IsStemType scope earlier (Grown p h) b = (takes : TakesHead scope (sketch_at earlier p).partial (the_hole_head h)) → b ≡ takes.type
