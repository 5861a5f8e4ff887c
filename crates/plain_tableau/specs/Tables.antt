-- The tables of a search as what is expanded, and what comes of it.
use Rattle.std.specs.Prelude.{◌≡◌, ◌≤◌, ℕ, false, List, [], map, length, Some, slice_get, option_map, unwrap_or}
use Rattle.stt_core.specs.Lambda.{Lambda}
use Rattle.tableau_calculus.specs.Witnesses.{Row}
use Rattle.tableau_calculus.specs.CutFree.{is_cut_use}
use Rattle.tableau_calculus.specs.declared.refutation.Refutation.{Refutation}
use Rattle.sat_base.specs.declared.literal.SatLit.{SatLit}
use Rattle.tableau_calculus.specs.Kinds.{added}
use Rattle.search_spec.specs.Numbered.{numbers}
use Rattle.term_bank.specs.Content.{Content}
use Rattle.literal_map.specs.declared.instance.Instance.{Instance as BankInstance}
use Rattle.tableau_clauses.specs.Table.{Table, the_instances, start_units}
use Rattle.rebuild_spec.specs.Input.{Instance as TermInstance, literals_of}
use Rattle.tableau_rebuild.specs.Tables.{the_instance, no_instance}
use Rattle.tableau_rebuild.specs.Conditions.{IsInstanceOver}
use Rattle.plain_tableau.specs.Trees.{TreeInstance, PlainTree, nodes_in}
use Rattle.plain_tableau.specs.Expansion.{found, open_at, over, Expansion}
use Rattle.plain_tableau.specs.Lines.{IsOfTree}
use Rattle.plain_tableau.specs.declared.stripped.Stripped.{Stripped}
use Rattle.plain_tableau.specs.declared.stripped.Stripped.TheVariants.{Tree as Whole, Open, Over}

abbrev pub expanded : TermInstance → TreeInstance SatLit
expanded i = record { rule = i.rule; principals = i.principals; alternatives = i.alternatives }

-- the instance with this number
abbrev pub used_at : List Lambda → List ℕ → Table → ℕ → TreeInstance SatLit
used_at terms atoms t k = expanded (unwrap_or (option_map (the_instance terms atoms) (slice_get (the_instances t) k)) no_instance)

-- the instances with these numbers
abbrev pub the_used : List Lambda → List ℕ → Table → List ℕ → List (TreeInstance SatLit)
the_used terms atoms t used = map (used_at terms atoms t) used

-- the branch from which the expansion starts: the literals of the start units in order, each once
abbrev pub start_branch : Table → List SatLit
start_branch t = added numbers [] (start_units t.0)

-- the number is that of an instance of its rule, which isn't the cut
pub record IsUsable (b : Content) (atoms : List ℕ) (rows : List Row) (t : Table) (k : ℕ) : Type 0 where
  pub instance : BankInstance
  pub there : slice_get (the_instances t) k ≡ Some instance
  pub over : IsInstanceOver b atoms rows instance
  pub no_cut : is_cut_use instance.by ≡ false

-- The answer is what comes of the expansion: the refutation of its tree with how many nodes it has, its first open branch, or that there
-- would be more nodes than these.
abbrev pub IsStripped : List Lambda → List Row → List (TreeInstance SatLit) → ℕ → List SatLit → Stripped → Type 0
IsStripped atoms rows used limit start (Whole refutation n) =
    (t : PlainTree SatLit) × Expansion numbers used limit start (found t) × (n ≡ nodes_in t) × IsOfTree atoms rows t refutation
IsStripped atoms rows used limit start (Open branch) =
    (b : List SatLit) × Expansion numbers used limit start (open_at b) × (branch ≡ literals_of atoms b)
IsStripped atoms rows used limit start (Over n) = Expansion numbers used limit start over × (n ≡ limit)

-- what holds of the refutation, where the answer is a tree
abbrev pub OfTree : (Refutation → Type 0) → Stripped → Type 0
OfTree P (Whole refutation n) = P refutation
OfTree P (Open branch) = Unit {0}
OfTree P (Over n) = Unit {0}

-- a tree has as many lines as it has nodes, which are at most so many
abbrev pub IsWithinLimit : ℕ → Stripped → Type 0
IsWithinLimit limit (Whole refutation n) = (length refutation.lines ≡ n) × (n ≤ limit)
IsWithinLimit limit (Open branch) = Unit {0}
IsWithinLimit limit (Over n) = Unit {0}
