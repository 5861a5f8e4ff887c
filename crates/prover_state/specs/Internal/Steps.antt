-- Further steps.
use Rattle.std.specs.Prelude.{◌≡◌, ◌≢◌, false, List, ◌++◌, map}
use Rattle.tableau_calculus.specs.CutFree.{is_cut_use}
use Rattle.tableau_calculus.specs.RuleUses.{principals_of, EachPart}
use Rattle.refute_print.specs.Sizes.{IsSmallTerm}
use Rattle.tableau_calculus.specs.Each.{Each}
use Rattle.term_bank.specs.Terms.{term_at}
use Rattle.literal_map.specs.Atoms.{bank_literal}
use Rattle.literal_map.specs.declared.instance.Instance.{Instance}
use Rattle.tableau_rules.specs.Uses.{IsInstanceBy}
use Rattle.tableau_clauses.specs.declared.origin.Origin.TheVariants.{Start}
use Rattle.tableau_clauses.specs.Table.{Step, Table}
use Rattle.prover_state.specs.declared.tables.Basis.{Basis}
use Rattle.prover_state.specs.Internal.Names.{IsNumberIn, IsPlace}
use Rattle.prover_state.specs.Internal.Standing.{rows_in}

-- an instance of its rule with what that takes, over what has a number; the rule's term is small, and the rule is no cut
pub record IsMadeInstance (g : Basis) (i : Instance) : Type 0 where
  pub principals : i.principals ≡ principals_of i.by
  pub numbered : Each (IsNumberIn g.lits) (principals_of i.by)
  pub parts : EachPart (IsPlace g.bank.terms) (IsNumberIn g.lits) i.by
  pub small : EachPart (λ u. IsSmallTerm (term_at g.bank.terms u)) (λ l. Unit {0}) i.by
  pub uncut : is_cut_use i.by ≡ false
  pub numbers : Each (Each (IsNumberIn g.lits)) i.alternatives
  pub fits : IsInstanceBy g.bank g.lits (rows_in g) i.by (map (map (bank_literal g.bank.terms g.lits)) i.alternatives)

-- further clauses, none of which is a start unit, stand behind the earlier ones, and further instances, each of which is good
pub record StepsGrow (Good : Instance → Type 0) (old new : Table) : Type 0 where
  pub further : List Step
  pub clauses : new.0 ≡ old.0 ++ further
  pub made : Each (λ s. s.1 ≢ Start) further
  pub more : List Instance
  pub instances : new.1 ≡ old.1 ++ more
  pub good : Each Good more
