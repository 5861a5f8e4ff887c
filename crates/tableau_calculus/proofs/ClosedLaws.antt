-- No model meets the branch of a right line.
use Rattle.std.proofs.Common.{◌≡◌, ℕ, zero, suc, map, List, [], ◌∷◌, ◌++◌, Some, slice_get, ⊎_elim, Contains, subst, arith}
use Rattle.stt_core.specs.Typing.{Scope}
use Rattle.stt_core.specs.Meaning.{Model, IsModel}
use Rattle.tableau_calculus.specs.Literals.{Literal, opposite, IsLiteral, IsBranch}
use Rattle.tableau_calculus.specs.Meets.{MeetsLiteral, MeetsBranch, MeetsOne}
use Rattle.tableau_calculus.specs.Witnesses.{Row}
use Rattle.tableau_calculus.specs.Along.{GoesAlong}
use Rattle.tableau_calculus.specs.RuleUses.{principals_of}
use Rattle.tableau_calculus.specs.Accepted.{Within, ClosesBy, AreChildren, IsRightLine, AreRightAfter}
use Rattle.tableau_calculus.specs.declared.refutation.Child.{Child}
use Rattle.tableau_calculus.specs.declared.refutation.Child.TheVariants.{Closed, Line as Numbered}
use Rattle.tableau_calculus.specs.declared.refutation.Line.{Line}
use Rattle.tableau_calculus.proofs.ListLaws.{contains_cases}
use Rattle.tableau_calculus.proofs.LiteralLaws.{meets-append, not_both}
use Rattle.tableau_calculus.proofs.AcceptedLaws.{within-at}
use Rattle.tableau_calculus.proofs.RuleLaws.{rule_keeps}

pub literal_in : (scope : Scope) (l : Literal) (branch : List Literal) → Contains branch l → IsBranch scope branch → IsLiteral scope l
literal_in scope l [] c h = absurd (omega (arith, c.1))
literal_in scope l (k ∷ branch) c h =
    contains_cases (IsLiteral scope l) l k branch c (λ e. subst (IsLiteral scope) e h.0) (λ j. literal_in scope l branch j h.1)

pub branch-within : (scope : Scope) (ls branch : List Literal) → Within ls branch → IsBranch scope branch → IsBranch scope ls
branch-within scope [] branch w h = tt
branch-within scope (l ∷ ls) branch w h = (literal_in scope l branch w.0 h, branch-within scope ls branch w.1 h)

pub met_in : (scope : Scope) (m : Model) (l : Literal) (branch : List Literal) → Contains branch l → MeetsBranch scope m branch → MeetsLiteral scope m l
met_in scope m l [] c h = absurd (omega (arith, c.1))
met_in scope m l (k ∷ branch) c h =
    contains_cases (MeetsLiteral scope m l) l k branch c (λ e. subst (MeetsLiteral scope m) e h.0) (λ j. met_in scope m l branch j h.1)

pub meets-within : (scope : Scope) (m : Model) (ls branch : List Literal) → Within ls branch → MeetsBranch scope m branch → MeetsBranch scope m ls
meets-within scope m [] branch w h = tt
meets-within scope m (l ∷ ls) branch w h = (met_in scope m l branch w.0 h, meets-within scope m ls branch w.1 h)

module _ (scope : Scope) (rows : List Row) (types : scope.witnesses ≡ map (λ r. r.type) rows) (m : Model) (good : IsModel scope m) (along : GoesAlong scope m rows) where
  -- the model meets the branch of none of the lines
  abbrev pub MeetsNone : List Line → Type 0
  MeetsNone [] = Unit {0}
  MeetsNone (line ∷ lines) = (MeetsBranch scope m line.branch → ⊥) × MeetsNone lines

  none_at : (lines : List Line) (j : ℕ) (line : Line) → MeetsNone lines → slice_get lines j ≡ Some line → MeetsBranch scope m line.branch → ⊥
  none_at [] j line h e = cc
  none_at (l ∷ lines) zero line h e = let same : l ≡ line = cc in subst (λ k. MeetsBranch scope m k.branch → ⊥) same h.0
  none_at (l ∷ lines) (suc j) line h e = none_at lines j line h.1 e

  none-append : (lines : List Line) (line : Line) → MeetsNone lines → (MeetsBranch scope m line.branch → ⊥) → MeetsNone (lines ++ line ∷ [])
  none-append [] line h k = (k, tt)
  none-append (l ∷ lines) line h k = (h.0, none-append lines line h.1 k)

  child_refutes : (earlier : List Line) → MeetsNone earlier → (branch : List Literal) (child : Child) → ClosesBy earlier branch child → MeetsBranch scope m branch → ⊥
  child_refutes earlier none branch Closed c met =
      not_both scope m c.literal (met_in scope m c.literal branch c.holds met) (met_in scope m (opposite c.literal) branch c.holds_opposite met)
  child_refutes earlier none branch (Numbered j) c met = none_at earlier j c.0 none c.1 (meets-within scope m c.0.branch branch c.2 met)

  children_refute : (earlier : List Line) → MeetsNone earlier → (branch : List Literal) → MeetsBranch scope m branch → (alternatives : List (List Literal)) (children : List Child) → AreChildren earlier branch alternatives children → MeetsOne scope m alternatives → ⊥
  children_refute earlier none branch met [] children c one = one
  children_refute earlier none branch met (a ∷ as') [] c one = c
  children_refute earlier none branch met (a ∷ as') (child ∷ cs) c one =
      ⊎_elim
      (λ k. child_refutes earlier none (a ++ branch) child c.0 (meets-append scope m a branch k met))
      (λ k. children_refute earlier none branch met as' cs c.1 k)
      one

  -- the branch of a right line isn't met where those of the earlier lines aren't
  line_refutes : (earlier : List Line) → MeetsNone earlier → (line : Line) → IsRightLine scope rows earlier line → MeetsBranch scope m line.branch → ⊥
  line_refutes earlier none line right met =
      let principals = right.instance.principals in
      let there = within-at line.branch (principals_of line.rule) principals right.instance.at_places in
      children_refute earlier none line.branch met right.alternatives line.children right.children
      (rule_keeps scope m good rows types along line.rule principals right.alternatives right.instance.fits (branch-within scope principals line.branch there right.typed.0) (meets-within scope m principals line.branch there met))

  -- nor is that of the last of right lines
  pub last_refutes : (front : List Line) (last : Line) (lines earlier : List Line) → lines ≡ front ++ last ∷ [] → MeetsNone earlier → AreRightAfter scope rows earlier lines → MeetsBranch scope m last.branch → ⊥
  last_refutes [] last [] earlier e none right = cc
  last_refutes (f ∷ front) last [] earlier e none right = cc
  last_refutes [] last (line ∷ lines) earlier e none right =
      let same : line ≡ last = cc in
      subst (λ l. MeetsBranch scope m l.branch → ⊥) same (line_refutes earlier none line right.0)
  last_refutes (f ∷ front) last (line ∷ lines) earlier e none right =
      let rest : lines ≡ front ++ last ∷ [] = cc in
      last_refutes front last lines (earlier ++ line ∷ []) rest (none-append earlier line none (line_refutes earlier none line right.0)) right.1
