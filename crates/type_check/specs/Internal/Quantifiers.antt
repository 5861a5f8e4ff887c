-- Negations, quantifiers and binders over what is read before them.
use Rattle.std.specs.Prelude.{ℕ, Bool, List, Option, Some, None, Ok}
use Rattle.stt_core.specs.SimpleType.{SimpleType, formula}
use Rattle.stt_core.specs.Lambda.{Lambda, bound, app}
use Rattle.stt_core.specs.TypedName.{TypedName}
use Rattle.stt_core.specs.Declarations.{Declarations}
use Rattle.thf_grammar.specs.Trees.{VarTree, FormulaTree}
use Rattle.thf_grammar.specs.declared.connective.Binder.{Binder}
use Rattle.type_check.specs.Outcome.{ill, ◌>>=◌}
use Rattle.type_check.specs.Rows.{for_some}
use Rattle.type_check.specs.Terms.{TermReading, read_term, read_binder, typed_negation, typed_quantifier}
use Rattle.type_check.specs.Typed.{TypedTerm, typed, domain}
use Rattle.type_check.specs.declared.refusal.IllWhy.TheVariants.{Mismatch}

-- that a predicate holds somewhere, where it is read within the binder of the value at which it holds
abbrev pub somewhere : ℕ → Lambda → Option SimpleType → TermReading
somewhere at s (Some a) = Ok (typed (for_some a (app s (bound 0))) formula)
somewhere at s None = ill at Mismatch

abbrev pub typed_somewhere : ℕ → TypedTerm → TermReading
typed_somewhere at x = somewhere at x.term (domain x.type)

abbrev pub read_negation : Declarations → ℕ → FormulaTree → List TypedName → TermReading
read_negation d at s scope = do
  x ← read_term d scope s
  typed_negation at x

abbrev pub read_quantifier : Declarations → ℕ → Bool → FormulaTree → List TypedName → TermReading
read_quantifier d at all s scope = do
  x ← read_term d scope s
  typed_quantifier at all x

abbrev pub read_bound : Declarations → ℕ → Binder → List VarTree → FormulaTree → List TypedName → TermReading
read_bound d at binder vars s scope = read_binder d at binder vars scope (λ inner. read_term d inner s)
