-- Resolution chains, and logs of them.
use Rattle.std.specs.Prelude.{◌≡◌, ℕ, List, [], ◌∷◌, ◌++◌, Option, Some, map, take, slice_get, option_and_then}
use Rattle.sat_base.specs.declared.literal.SatLit.{SatLit}
use Rattle.sat_log.specs.declared.chain.Premise.{Premise}
use Rattle.sat_log.specs.declared.chain.Premise.TheVariants.{Clause, Result}
use Rattle.sat_log.specs.declared.chain.ChainStep.{ChainStep}
use Rattle.sat_log.specs.declared.chain.Chain.{Chain}
use Rattle.sat_log.specs.declared.log.LogEntry.{LogEntry}
use Rattle.sat_log.specs.Resolution.{resolved}

-- the clause that a premise names, among the clauses or the results
abbrev pub premise_clause : List (List SatLit) → List (List SatLit) → Premise → Option (List SatLit)
premise_clause clauses results (Clause n) = slice_get clauses n
premise_clause clauses results (Result n) = slice_get results n

-- what a step makes of a clause: none where its premise is not there, or does not resolve with the clause
abbrev pub after_step : List (List SatLit) → List (List SatLit) → List SatLit → ChainStep → Option (List SatLit)
after_step clauses results clause step =
    option_and_then (resolved step.var clause) (premise_clause clauses results step.premise)

-- what steps make of a clause, one after the other
abbrev pub after_steps : List (List SatLit) → List (List SatLit) → List SatLit → List ChainStep → Option (List SatLit)
after_steps clauses results clause [] = Some clause
after_steps clauses results clause (step ∷ steps) =
    option_and_then (λ next. after_steps clauses results next steps) (after_step clauses results clause step)

-- the result of a chain: what its steps make of its first premise
abbrev pub chain_result : List (List SatLit) → List (List SatLit) → Chain → Option (List SatLit)
chain_result clauses results chain =
    option_and_then (λ first. after_steps clauses results first chain.steps) (premise_clause clauses results chain.first)

-- the results in a log, in order
abbrev pub results : List LogEntry → List (List SatLit)
results log = map (λ entry. entry.result) log

-- each result is its chain's, over the clauses and the results before it
abbrev pub IsLogOver : List (List SatLit) → List LogEntry → Type 0
IsLogOver clauses log =
    (n : ℕ) (entry : LogEntry) → slice_get log n ≡ Some entry → chain_result clauses (results (take n log)) entry.chain ≡ Some entry.result

-- the new log is the old one and then the chain with its result
pub record AppendsChain (clauses : List (List SatLit)) (old new : List LogEntry) (chain : Chain) : Type 0 where
  pub outcome : List SatLit
  pub derived : chain_result clauses (results old) chain ≡ Some outcome
  pub appended : new ≡ old ++ record { chain = chain; result = outcome } ∷ []
