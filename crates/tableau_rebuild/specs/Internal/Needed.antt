-- What is needed for how many rows of the witness table a line needs.
use Rattle.std.specs.Prelude.{◌<◌, ℕ, Bool, true, false, List, length}
use Rattle.stt_core.specs.Lambda.{all, Lambda, constant}
use Rattle.term_bank.specs.Content.{Content}
use Rattle.literal_map.specs.declared.instance.Instance.{Instance as BankInstance}
use Rattle.tableau_clauses.specs.Table.{Table}
use Rattle.tableau_rebuild.specs.declared.draft.Draft.{Draft}
use Rattle.tableau_rebuild.specs.declared.draft.Draft.TheVariants.{Clause, Close, Cut}
use Rattle.tableau_rebuild.specs.Internal.LineParts.{IsClauseFrom}

-- whether the head says that something holds everywhere
abbrev pub is_quantifier : Lambda → Bool
is_quantifier (constant (all a)) = true
is_quantifier t = false

-- the clause comes from an instance that takes what there is, or the cut's atom is numbered
abbrev pub HasParts : Content → List ℕ → Table → Draft → Type 0
HasParts b atoms t (Clause n) = (i : BankInstance) × IsClauseFrom b atoms t n i
HasParts b atoms t (Close at l m) = Unit {0}
HasParts b atoms t (Cut at v on off) = v.0 < length atoms
