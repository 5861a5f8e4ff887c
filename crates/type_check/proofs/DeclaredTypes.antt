-- The types that texts name are declared.
use Rattle.std.proofs.Common.{◌≡◌, ℕ, ◌+◌, ◌<◌, true, List, length, Option, Some, None, position, Ok, IfOk, refl, arith}
use Rattle.std.proofs.lemmas.Bool.{lt-ltb, and_from}
use Rattle.std.proofs.lemmas.List.Quantifiers.{position-Some}
use Rattle.std.specs.Str.{bytes_eq}
use Rattle.stt_core.specs.SimpleType.{SimpleType, base, arrow, is_declared}
use Rattle.stt_core.specs.TypedName.{TypedName}
use Rattle.stt_core.specs.Signature.{symbol_named, first_symbol}
use Rattle.stt_core.specs.declared.signature.Symbol.{Symbol}
use Rattle.stt_core.specs.declared.signature.Symbol.TheVariants.{Base, Const}
use Rattle.stt_core.specs.Declarations.{Declarations}
use Rattle.thf_grammar.specs.Trees.{TypeTree, form, indiv, named, arrow as arrow_tree}
use Rattle.type_check.specs.Outcome.{◌>>=◌}
use Rattle.type_check.specs.Types.{base_named, read_type}
use Rattle.type_check.proofs.OutcomeLaws.{if_ok-then}

first_symbol-base : (a b : Option ℕ) (n : ℕ) → first_symbol a b ≡ Some (Base n) → (i : ℕ) × (a ≡ Some i) × (i + 2 ≡ n)
first_symbol-base (Some i) b n h = let e : i + 2 ≡ n = cc in (i, refl, e)
first_symbol-base None (Some i) n h = cc
first_symbol-base None None n h = cc

-- a name that stands for a base type stands for a declared one
symbol_named-declared : (bases : List (List ℕ)) (consts : List TypedName) (name : List ℕ) (n : ℕ) → symbol_named bases consts name ≡ Some (Base n) → n < length bases + 2
symbol_named-declared bases consts name n h =
    let at = first_symbol-base (position (λ b. bytes_eq b name) bases) (position (λ c. bytes_eq c.name name) consts) n h in
    let within = (position-Some (λ b. bytes_eq b name) bases at.0 name at.1).0 in
    omega (arith, within, at.2)

base_declared : (bases n : ℕ) → n < bases + 2 → is_declared bases (base n) ≡ true
base_declared bases n l = lt-ltb n (bases + 2) l

pub read_type-declared : (d : Declarations) (ty : TypeTree) → IfOk (read_type d ty) (λ a. is_declared (length d.bases) a ≡ true)
read_type-declared d (form at) = base_declared (length d.bases) 0 (omega arith)
read_type-declared d (indiv at) = base_declared (length d.bases) 1 (omega arith)
read_type-declared d (named at name) = go (symbol_named d.bases d.consts name) refl
  where
    go : (symbol : Option Symbol) → symbol_named d.bases d.consts name ≡ symbol → IfOk (base_named at symbol) (λ a. is_declared (length d.bases) a ≡ true)
    go (Some (Base n)) e = base_declared (length d.bases) n (symbol_named-declared d.bases d.consts name n e)
    go (Some (Const i)) e = tt
    go None e = tt
read_type-declared d (arrow_tree at from to) =
    let IsDeclared : SimpleType → Type 0 = λ a. is_declared (length d.bases) a ≡ true in
    if_ok-then IsDeclared IsDeclared (read_type d from) (λ a. read_type d to >>= λ b. Ok (arrow a b)) (read_type-declared d from)
    (λ a h. if_ok-then IsDeclared IsDeclared (read_type d to) (λ b. Ok (arrow a b)) (read_type-declared d to) (λ b k. and_from _ _ h k))
