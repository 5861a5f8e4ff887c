-- The tables of a search as what a refutation is rebuilt from.
use Rattle.std.specs.Prelude.{false, ℕ, List, [], ◌∷◌, ◌++◌, map, get_or, slice_get, option_map, unwrap_or}
use Rattle.stt_core.specs.Lambda.{Lambda}
use Rattle.tableau_calculus.specs.Literals.{Literal}
use Rattle.tableau_calculus.specs.Rules.{PlainRule}
use Rattle.tableau_calculus.specs.declared.rule_use.RuleUse.TheVariants.{AtOne}
use Rattle.tableau_calculus.specs.declared.rule_use.OnePlace.TheVariants.{False}
use Rattle.sat_base.specs.declared.literal.SatLit.{SatLit}
use Rattle.sat_log.specs.declared.log.LogEntry.{LogEntry}
use Rattle.term_bank.specs.Content.{Content}
use Rattle.term_bank.specs.Terms.{term_at}
use Rattle.literal_map.specs.declared.instance.Instance.{Instance as BankInstance}
use Rattle.witness_names.specs.Rows.{rows_of}
use Rattle.tableau_clauses.specs.declared.origin.Origin.{Origin}
use Rattle.tableau_clauses.specs.declared.origin.Origin.TheVariants.{Start, Instance as From}
use Rattle.tableau_clauses.specs.Table.{Step, Table}
use Rattle.rebuild_spec.specs.Input.{Instance, Sourced, start_unit, clause_by, Input, literals_of}
use Rattle.tableau_rules.specs.Uses.{use_of}

-- the atoms at these places of the bank
abbrev pub atoms_at : List Lambda → List ℕ → List Lambda
atoms_at terms atoms = map (term_at terms) atoms

abbrev pub the_instance : List Lambda → List ℕ → BankInstance → Instance
the_instance terms atoms i = record { rule = use_of terms atoms i.by; principals = i.principals; alternatives = i.alternatives }

-- a rule where there is none
abbrev pub no_rule : PlainRule
no_rule = AtOne False 0

abbrev pub no_instance : Instance
no_instance = record { rule = no_rule; principals = []; alternatives = [] }

abbrev pub no_literal : SatLit
no_literal = record { var = record { 0 = 0 }; positive = false }

-- a clause of this origin
abbrev pub sourced : List Lambda → List ℕ → List BankInstance → List SatLit → Origin → Sourced
sourced terms atoms instances clause Start = start_unit (get_or clause 0 no_literal)
sourced terms atoms instances clause (From k) =
    clause_by clause (unwrap_or (option_map (the_instance terms atoms) (slice_get instances k)) no_instance)

abbrev pub the_sources : List Lambda → List ℕ → Table → List Sourced
the_sources terms atoms t = map (λ s. sourced terms atoms t.1 s.0 s.1) t.0

abbrev pub the_input : Content → List ℕ → Table → List LogEntry → List ℕ → Input
the_input b atoms t log witnesses =
    record { atoms = atoms_at b.terms atoms; rows = rows_of b.terms witnesses; clauses = the_sources b.terms atoms t; log = log }

-- the literals of a clause of the start, and of another one none
abbrev pub start_literals_in : List Lambda → List SatLit → Origin → List Literal
start_literals_in atoms clause Start = literals_of atoms clause
start_literals_in atoms clause (From k) = []

-- the literals of the start units, in order
abbrev pub unit_literals : List Lambda → List Step → List Literal
unit_literals atoms [] = []
unit_literals atoms (s ∷ steps) = start_literals_in atoms s.0 s.1 ++ unit_literals atoms steps
