-- What stands for clauses and results, by numbers of lines.
use Rattle.std.specs.Prelude.{◌≡◌, ◌<◌, ◌⊎◌, ℕ, List, [], ◌∷◌, ◌++◌, length, Option, Some, None, slice_get, slice_index_or, drop, take}
use Rattle.stt_core.specs.Lambda.{Lambda}
use Rattle.sat_base.specs.declared.literal.Var.{Var}
use Rattle.sat_base.specs.declared.literal.SatLit.{SatLit}
use Rattle.sat_log.specs.declared.chain.Premise.{Premise}
use Rattle.sat_log.specs.declared.chain.Premise.TheVariants as premise
use Rattle.sat_log.specs.declared.chain.ChainStep.{ChainStep}
use Rattle.sat_log.specs.declared.log.LogEntry.{LogEntry}
use Rattle.sat_log.specs.Resolution.{each_once}
use Rattle.sat_log.specs.Chains.{after_steps, results}
use Rattle.term_bank.specs.Content.{Content}
use Rattle.tableau_clauses.specs.declared.origin.Origin.TheVariants.{Start as FromStart}
use Rattle.tableau_clauses.specs.Table.{Table, the_clauses}
use Rattle.rebuild_spec.specs.Input.{Sourced, start_unit, clause_by}
use Rattle.rebuild_spec.specs.Trees.{Place, at_clause, at_step, at_result, Tree, leaf, cut}
use Rattle.rebuild_spec.specs.Stands.{Standing as Stand, start, line, instance_line, joined_standing, Stands}
use Rattle.tableau_rebuild.specs.Tables.{no_literal, the_sources, the_input}
use Rattle.tableau_rebuild.specs.declared.draft.At.{At}
use Rattle.tableau_rebuild.specs.declared.draft.Draft.{Draft}
use Rattle.tableau_rebuild.specs.declared.draft.Draft.TheVariants.{Clause, Close, Cut}
use Rattle.tableau_rebuild.specs.declared.arena.Arena.{Arena}
use Rattle.tableau_rebuild.specs.declared.arena.Standing.{Standing}
use Rattle.tableau_rebuild.specs.declared.arena.Standing.TheVariants.{Start, Line}
use Rattle.tableau_rebuild.specs.Internal.Drafts.{place_after_step, tree_at, trees}

-- the line of a clause of an instance, and else this one
abbrev pub clause_line : ℕ → Option Sourced → Tree → Tree
clause_line n (Some (clause_by c i)) t = instance_line n c i
clause_line n (Some (start_unit l)) t = t
clause_line n None t = t

-- the tree with the lines of the clauses
abbrev pub fleshed : List Sourced → Tree → Tree
fleshed sources (leaf (at_clause n) ls rule children) = clause_line n (slice_get sources n) (leaf (at_clause n) ls rule children)
fleshed sources (leaf (at_step n k) ls rule children) = leaf (at_step n k) ls rule children
fleshed sources (leaf (at_result n) ls rule children) = leaf (at_result n) ls rule children
fleshed sources (cut p v t u) = cut p v (fleshed sources t) (fleshed sources u)

abbrev pub unit_of_start : Option Sourced → SatLit
unit_of_start (Some (start_unit l)) = l
unit_of_start (Some (clause_by c i)) = no_literal
unit_of_start None = no_literal

abbrev pub the_standing : List Sourced → List Draft → Standing → Stand
the_standing sources drafts (Start n) = start n (unit_of_start (slice_get sources n))
the_standing sources drafts (Line i) = line (fleshed sources (tree_at (trees drafts) i))

-- the clause with this number is a start unit
abbrev pub IsUnitNumber : Table → ℕ → Type 0
IsUnitNumber t n = (l : SatLit) × (slice_get t.0 n ≡ Some (l ∷ [], FromStart))

abbrev pub IsStandingWithin : Table → List Draft → Standing → Type 0
IsStandingWithin t drafts (Start n) = IsUnitNumber t n
IsStandingWithin t drafts (Line i) = i < length drafts

abbrev pub draft_place : Draft → Place
draft_place (Clause n) = at_clause n
draft_place (Close at l m) = place_after_step at
draft_place (Cut at v a b) = place_after_step at

-- Each line is made at a place of its own, a cut's lines are earlier ones, and the lines of the clauses are known.
pub record IsDrawn (drafts : List Draft) (of_clause : List (Option ℕ)) : Type 0 where
  pub below : (i : ℕ) (at : At) (v : Var) (a b : ℕ) → slice_get drafts i ≡ Some (Cut at v a b) → (a < i) × (b < i)
  pub apart : (i j : ℕ) (d e : Draft) → slice_get drafts i ≡ Some d → slice_get drafts j ≡ Some e → draft_place d ≡ draft_place e → i ≡ j
  pub known : (n i : ℕ) → slice_index_or of_clause n None ≡ Some i → slice_get drafts i ≡ Some (Clause n)
  pub all_known : (i n : ℕ) → slice_get drafts i ≡ Some (Clause n) → slice_index_or of_clause n None ≡ Some i

-- no line was made at this step or a later one
abbrev pub IsEarlierDraft : List Draft → ℕ → ℕ → Type 0
IsEarlierDraft drafts n k =
    (i : ℕ) (d : Draft) (at : At)
    → slice_get drafts i ≡ Some d
    → draft_place d ≡ place_after_step at
    → (at.result < n) ⊎ ((at.result ≡ n) × (at.step < k))

-- the second list is the first one with further ones behind it
pub record ExtendsDrafts (old new : List Draft) : Type 0 where
  pub more : List Draft
  pub is : new ≡ old ++ more

-- at the place there is the clause, and this stands for it, whatever the terms of the atoms are
pub record StandsFor (t : Table) (log : List LogEntry) (drafts : List Draft) (p : Place) (clause : List SatLit) (s : Standing) : Type 0
  where
    pub within : IsStandingWithin t drafts s
    pub stands :
        (b : Content) (atoms witnesses : List ℕ)
        → Stands (the_input b atoms t log witnesses) p clause (the_standing (the_sources b.terms atoms t) drafts s)

-- what stands for the first results
abbrev pub AreResults : Table → List LogEntry → List Draft → List Standing → Type 0
AreResults t log drafts of_result =
    (m : ℕ) (s : Standing) (entry : LogEntry)
    → slice_get of_result m ≡ Some s
    → slice_get log m ≡ Some entry
    → StandsFor t log drafts (at_result m) entry.result s

-- what a step makes of what stands for its two clauses
pub record IsJoined (t : Table) (old new : List Draft) (p : Place) (v : Var) (s u r : Standing) : Type 0 where
  pub within : IsStandingWithin t new r
  pub is :
      (terms : List Lambda) (atoms : List ℕ)
      → the_standing (the_sources terms atoms t) new r
      ≡ joined_standing p v (the_standing (the_sources terms atoms t) old s) (the_standing (the_sources terms atoms t) old u)

-- the premise is a clause, or one of so many results
abbrev pub IsThere : ℕ → ℕ → Premise → Type 0
IsThere clauses results (premise.Clause m) = m < clauses
IsThere clauses results (premise.Result m) = m < results

-- what the chain of a result has so far, of which the further steps make the result
pub record IsChained (t : Table) (log : List LogEntry) (drafts : List Draft) (n k : ℕ) (literals : List SatLit) (s : Standing) : Type 0
  where
    pub clause : List SatLit
    pub same : literals ≡ each_once clause
    pub stands : StandsFor t log drafts (at_step n k) clause s
    pub ahead :
        (entry : LogEntry)
        → slice_get log n ≡ Some entry
        → after_steps (the_clauses t) (results (take n log)) clause (drop k entry.chain.steps) ≡ Some entry.result

-- the chain of a result has this step
pub record HasStep (log : List LogEntry) (n k : ℕ) (step : ChainStep) : Type 0 where
  pub entry : LogEntry
  pub is_entry : slice_get log n ≡ Some entry
  pub is_step : slice_get entry.chain.steps k ≡ Some step

-- a chain after so many of its steps, for which lines were added
pub record IsOnChain (t : Table) (log : List LogEntry) (old now : Arena) (n k : ℕ) (literals : List SatLit) (s : Standing) : Type 0 where
  pub drawn : IsDrawn now.drafts.items now.of_clause.items
  pub before : IsEarlierDraft now.drafts.items n k
  pub extends : ExtendsDrafts old.drafts.items now.drafts.items
  pub clauses : length now.of_clause.items ≡ length old.of_clause.items
  pub results : now.of_result.items ≡ old.of_result.items
  pub chained : IsChained t log now.drafts.items n k literals s

-- the first results have lines
pub record AreDrafted (t : Table) (log : List LogEntry) (a : Arena) (n : ℕ) : Type 0 where
  pub drawn : IsDrawn a.drafts.items a.of_clause.items
  pub before : IsEarlierDraft a.drafts.items n 0
  pub clauses : length a.of_clause.items ≡ length (the_clauses t)
  pub count : length a.of_result.items ≡ n
  pub results : AreResults t log a.drafts.items a.of_result.items
