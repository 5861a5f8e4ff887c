-- Heads of holes, and partial terms by what they grew from.
use Rattle.std.specs.Prelude.{◌<◌, List, [], ◌∷◌, ◌++◌, length}
use Rattle.stt_core.specs.SimpleType.{base}
use Rattle.stt_core.specs.Lambda.{Lambda, bound, constant, name, witness, falsity, negation, implication, all, equality, choice}
use Rattle.stt_core.specs.Typing.{Scope}
use Rattle.stt_core.specs.View.{the_type}
use Rattle.search_spec.specs.Partial.{blank_partial}
use Rattle.search_spec.specs.State.{Sketch}
use Rattle.search_spec.specs.Commands.{growth_by}
use Rattle.instantiate.specs.Growing.{TakesHead}
use Rattle.prover_state.specs.Internal.Names.{sketch_at}
use Rattle.prover_state.specs.declared.head.HoleHead.{HoleHead}
use Rattle.prover_state.specs.declared.head.HoleHead.TheVariants.{Bound, Name, Wit, False, Not, Imp, All, Eq, Choice}
use Rattle.prover_state.specs.declared.stem.Stem.{Stem}
use Rattle.prover_state.specs.declared.stem.Stem.TheVariants.{Blank, Grown}

abbrev pub the_hole_head : HoleHead → Lambda
the_hole_head (Bound k) = bound k
the_hole_head (Name k) = constant (name k)
the_hole_head (Wit k) = constant (witness k)
the_hole_head False = constant falsity
the_hole_head Not = constant negation
the_hole_head Imp = constant implication
the_hole_head (All b) = constant (all (base b))
the_hole_head (Eq b) = constant (equality (base b))
the_hole_head (Choice b) = constant (choice (base b))

-- the partial term of a stem, where the earlier ones are known
abbrev pub sketch_of : Scope → List Sketch → Stem → Sketch
sketch_of scope earlier (Blank a) = record { type = the_type a.value; partial = blank_partial (the_type a.value) }
sketch_of scope earlier (Grown p h) = growth_by scope (the_hole_head h) (sketch_at earlier p)

-- partial terms, with those of further stems
abbrev pub sketches_after : Scope → List Sketch → List Stem → List Sketch
sketches_after scope earlier [] = earlier
sketches_after scope earlier (s ∷ stems) = sketches_after scope (earlier ++ sketch_of scope earlier s ∷ []) stems

-- the partial terms of stems
abbrev pub sketches_of : Scope → List Stem → List Sketch
sketches_of scope stems = sketches_after scope [] stems

-- the stem stands on an earlier partial term, and its head has a type at the first hole there
abbrev pub IsStem : Scope → List Sketch → Stem → Type 0
IsStem scope earlier (Blank a) = Unit {0}
IsStem scope earlier (Grown p h) = (p < length earlier) × TakesHead scope (sketch_at earlier p).partial (the_hole_head h)

-- each stem stands on earlier ones
abbrev pub AreStems : Scope → List Sketch → List Stem → Type 0
AreStems scope earlier [] = Unit {0}
AreStems scope earlier (s ∷ stems) = IsStem scope earlier s × AreStems scope (earlier ++ sketch_of scope earlier s ∷ []) stems
