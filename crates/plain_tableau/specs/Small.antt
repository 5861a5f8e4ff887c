-- Trees whose terms are small enough for a text.
use Rattle.std.specs.Prelude.{ℕ, List}
use Rattle.std.specs.List.{AllByRecursion}
use Rattle.stt_core.specs.Lambda.{Lambda}
use Rattle.tableau_calculus.specs.Witnesses.{Row}
use Rattle.tableau_calculus.specs.declared.refutation.Refutation.{Refutation}
use Rattle.sat_base.specs.declared.literal.SatLit.{SatLit}
use Rattle.tableau_calculus.specs.Each.{Each}
use Rattle.search_spec.specs.Numbered.{numbers, literal_at}
use Rattle.refute_print.specs.Sizes.{IsSmallTerm}
use Rattle.small_rebuilt.specs.Small.{TakesSmall, AreTermsSmall}
use Rattle.plain_tableau.specs.Trees.{TreeInstance, PlainTree}
use Rattle.plain_tableau.specs.Expansion.{found, Expansion}
use Rattle.plain_tableau.specs.Lines.{IsOfTree}

-- a numbered literal's atom is small
abbrev pub HasSmallAtom : List Lambda → SatLit → Type 0
HasSmallAtom atoms l = IsSmallTerm (literal_at atoms l).atom

-- what the instance's rule takes is small, and so are the literals of its alternatives
pub record AddsSmall (atoms : List Lambda) (i : TreeInstance SatLit) : Type 0 where
  pub takes : TakesSmall i.rule
  pub alternatives : Each (Each (HasSmallAtom atoms)) i.alternatives

-- where the literals of the start, what the instances add and the rows' predicates are small, the terms of a tree's refutation are
abbrev pub TreeTermsAreSmall : Type 0
TreeTermsAreSmall =
    (rows : List Row) (atoms : List Lambda) (used : List (TreeInstance SatLit)) (limit : ℕ) (start : List SatLit) (t : PlainTree SatLit)
    (refutation : Refutation)
    → AllByRecursion (λ (row : Row). IsSmallTerm row.predicate) rows → Each (AddsSmall atoms) used → Each (HasSmallAtom atoms) start
    → Expansion numbers used limit start (found t) → IsOfTree atoms rows t refutation
    → AreTermsSmall refutation
