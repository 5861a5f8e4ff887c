-- What a refutation is rebuilt from.
use Rattle.std.specs.Prelude.{List, [], ◌∷◌, map}
use Rattle.stt_core.specs.Lambda.{Lambda}
use Rattle.tableau_calculus.specs.Rules.{PlainRule}
use Rattle.tableau_calculus.specs.Literals.{Literal}
use Rattle.tableau_calculus.specs.Witnesses.{Row}
use Rattle.sat_base.specs.declared.literal.SatLit.{SatLit}
use Rattle.sat_log.specs.declared.log.LogEntry.{LogEntry}
use Rattle.search_spec.specs.Numbered.{literal_at}

-- An instance of a rule: the rule, whose places don't count, its principals and its alternatives.
pub record Instance : Type 0 where
  pub rule : PlainRule
  pub principals : List SatLit
  pub alternatives : List (List SatLit)

-- a clause with where it comes from: the literal of a start unit, or one of the clauses of an instance
pub data Sourced : Type 0 where
  start_unit : SatLit → Sourced
  clause_by : List SatLit → Instance → Sourced

abbrev pub clause_in : Sourced → List SatLit
clause_in (start_unit l) = l ∷ []
clause_in (clause_by c i) = c

-- The atoms of the variables, the witness table, the clauses, and the log of the chains over them.
pub record Input : Type 0 where
  pub atoms : List Lambda
  pub rows : List Row
  pub clauses : List Sourced
  pub log : List LogEntry

-- the literals that numbered ones stand for
abbrev pub literals_of : List Lambda → List SatLit → List Literal
literals_of atoms ls = map (literal_at atoms) ls
