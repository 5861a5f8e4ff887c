-- What holds of expansions and of the refutations of their trees.
use Rattle.std.specs.Prelude.{◌≡◌, ◌≤◌, ℕ, List, length}
use Rattle.stt_core.specs.Lambda.{Lambda}
use Rattle.stt_core.specs.Typing.{Scope}
use Rattle.tableau_calculus.specs.Witnesses.{Row}
use Rattle.tableau_calculus.specs.Accepted.{IsAccepted}
use Rattle.tableau_calculus.specs.Closed.{Closes, tableau_of}
use Rattle.tableau_calculus.specs.CutFree.{HasNoCut}
use Rattle.tableau_calculus.specs.declared.refutation.Refutation.{Refutation}
use Rattle.sat_base.specs.declared.literal.SatLit.{SatLit}
use Rattle.tableau_calculus.specs.Kinds.{Kind}
use Rattle.search_spec.specs.Numbered.{numbers}
use Rattle.rebuild_spec.specs.Input.{literals_of}
use Rattle.rebuild_spec.specs.Trimmed.{IsEachReached}
use Rattle.plain_tableau.specs.Trees.{TreeInstance, PlainTree, nodes_in}
use Rattle.plain_tableau.specs.Expansion.{Expanded, found, Expansion}
use Rattle.plain_tableau.specs.Lines.{IsOfTree}
use Rattle.plain_tableau.specs.Given.{AreInstancesGiven}

-- an expansion comes to one thing at most
abbrev pub OneExpansion : {L : Type 0} → Kind L → Type 0
OneExpansion {L} kind =
    (used : List (TreeInstance L)) (limit : ℕ) (start : List L) (r q : Expanded L (PlainTree L))
    → Expansion kind used limit start r
    → Expansion kind used limit start q
    → r ≡ q

-- the refutation of the tree that an expansion comes to is accepted for the start ..
abbrev pub TreeIsAccepted : Type 0
TreeIsAccepted =
    (scope : Scope) (rows : List Row) (atoms : List Lambda) (used : List (TreeInstance SatLit)) (limit : ℕ) (start : List SatLit)
    (t : PlainTree SatLit) (refutation : Refutation)
    → AreInstancesGiven scope rows atoms used → Expansion numbers used limit start (found t) → IsOfTree atoms rows t refutation
    → IsAccepted scope (literals_of atoms start) refutation

-- .. its tableau closes the start ..
abbrev pub TreeIsClosed : Type 0
TreeIsClosed =
    (scope : Scope) (rows : List Row) (atoms : List Lambda) (used : List (TreeInstance SatLit)) (limit : ℕ) (start : List SatLit)
    (t : PlainTree SatLit) (refutation : Refutation)
    → AreInstancesGiven scope rows atoms used → Expansion numbers used limit start (found t) → IsOfTree atoms rows t refutation
    → Closes scope refutation.witnesses (tableau_of refutation) (literals_of atoms start)

-- .. it has no cut ..
abbrev pub TreeHasNoCut : Type 0
TreeHasNoCut =
    (scope : Scope) (rows : List Row) (atoms : List Lambda) (used : List (TreeInstance SatLit)) (limit : ℕ) (start : List SatLit)
    (t : PlainTree SatLit) (refutation : Refutation)
    → AreInstancesGiven scope rows atoms used → Expansion numbers used limit start (found t) → IsOfTree atoms rows t refutation
    → HasNoCut refutation.lines

-- .. and it has as many lines as the tree has nodes, within the limit
abbrev pub TreeIsWithin : Type 0
TreeIsWithin =
    (rows : List Row) (atoms : List Lambda) (used : List (TreeInstance SatLit)) (limit : ℕ) (start : List SatLit) (t : PlainTree SatLit)
    (refutation : Refutation)
    → Expansion numbers used limit start (found t) → IsOfTree atoms rows t refutation
    → (length refutation.lines ≡ nodes_in t) × (nodes_in t ≤ limit)

-- each line is reached from the last one
abbrev pub TreeIsReached : Type 0
TreeIsReached =
    (atoms : List Lambda) (rows : List Row) (t : PlainTree SatLit) (refutation : Refutation)
    → IsOfTree atoms rows t refutation
    → IsEachReached refutation.lines
