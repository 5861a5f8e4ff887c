-- What is right of the tables that a refutation is rebuilt from.
use Rattle.std.specs.Prelude.{◌≡◌, ◌+◌, ◌<◌, ℕ, List, [], map, length, Some, slice_get, All}
use Rattle.tableau_calculus.specs.Witnesses.{Row, with_rows}
use Rattle.tableau_calculus.specs.Rules.{Rule}
use Rattle.tableau_calculus.specs.RuleUses.{EachPart}
use Rattle.sat_base.specs.Literal.{IsOver}
use Rattle.sat_log.specs.declared.log.LogEntry.{LogEntry}
use Rattle.term_bank.specs.Content.{Content, content_scope}
use Rattle.literal_map.specs.Numbers.{UseByNumbers}
use Rattle.literal_map.specs.declared.instance.Instance.{Instance}
use Rattle.tableau_clauses.specs.declared.origin.Origin.TheVariants.{Start}
use Rattle.tableau_clauses.specs.Table.{Table}
use Rattle.rebuild_spec.specs.Input.{literals_of}
use Rattle.tableau_rules.specs.Uses.{use_of}
use Rattle.tableau_rebuild.specs.Tables.{atoms_at}

-- the literal of each start unit has a number
abbrev pub AreUnitsNumbered : List ℕ → Table → Type 0
AreUnitsNumbered atoms t = All (λ s. s.1 ≡ Start → IsOver (length atoms) s.0) t.0

-- the rule takes what there is
abbrev pub IsGoodUse : Content → List ℕ → UseByNumbers → Type 0
IsGoodUse b atoms by = EachPart (λ u. u < length b.terms) (λ l. l.var.0 < length atoms) by

-- the instance is one of its rule with what that takes, over the bank, the numbered atoms and the witness table
pub record IsInstanceOver (b : Content) (atoms : List ℕ) (rows : List Row) (i : Instance) : Type 0 where
  pub takes : IsGoodUse b atoms i.by
  pub principals : IsOver (length atoms) i.principals
  pub alternatives : All (IsOver (length atoms)) i.alternatives
  pub fits :
      Rule (with_rows (content_scope b) rows) rows (use_of b.terms atoms i.by) (literals_of (atoms_at b.terms atoms) i.principals)
      (map (literals_of (atoms_at b.terms atoms)) i.alternatives)

-- the last result of the log is the empty clause
pub record EndsEmpty (log : List LogEntry) : Type 0 where
  pub number : ℕ
  pub is_last : length log ≡ number + 1
  pub entry : LogEntry
  pub at : slice_get log number ≡ Some entry
  pub empty : entry.result ≡ []
