-- The types that texts name.
use Rattle.std.specs.Prelude.{ℕ, Option, Some, None, Result, Ok}
use Rattle.stt_core.specs.SimpleType.{SimpleType, base, arrow, formula}
use Rattle.stt_core.specs.Signature.{symbol_named}
use Rattle.stt_core.specs.declared.signature.Symbol.{Symbol}
use Rattle.stt_core.specs.declared.signature.Symbol.TheVariants.{Base, Const}
use Rattle.stt_core.specs.Declarations.{Declarations}
use Rattle.thf_grammar.specs.Trees.{TypeTree, form, indiv, named, arrow as arrow_tree}
use Rattle.type_check.specs.Outcome.{IllPlace, ill, ◌>>=◌}
use Rattle.type_check.specs.declared.refusal.IllWhy.TheVariants.{Unknown}

-- the type that a name stands for: a declared base type, and no constant
abbrev pub base_named : ℕ → Option Symbol → Result SimpleType IllPlace
base_named at (Some (Base n)) = Ok (base n)
base_named at (Some (Const k)) = ill at Unknown
base_named at None = ill at Unknown

-- A type, with `$i` as base type number 1. The leftmost name that isn't a declared base type is a type error.
abbrev pub read_type : Declarations → TypeTree → Result SimpleType IllPlace
read_type d (form at) = Ok formula
read_type d (indiv at) = Ok (base 1)
read_type d (named at name) = base_named at (symbol_named d.bases d.consts name)
read_type d (arrow_tree at from to) = do
  a ← read_type d from
  b ← read_type d to
  Ok (arrow a b)
