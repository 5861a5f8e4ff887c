-- Small terms in a refutation that is rebuilt.
use Rattle.std.specs.Prelude.{◌≡◌, ◌<◌, ◌≤◌, ◌^◌, ℕ, List, length, Some, slice_get}
use Rattle.std.specs.List.{AllByRecursion}
use Rattle.stt_core.specs.Lambda.{Lambda}
use Rattle.tableau_calculus.specs.Witnesses.{Row}
use Rattle.tableau_calculus.specs.RuleUses.{EachPart}
use Rattle.tableau_calculus.specs.Rules.{PlainRule}
use Rattle.tableau_calculus.specs.declared.rule_use.RuleUse.TheVariants.{AtOne, AtTwo, AllPos, WithPredicate, Cut}
use Rattle.tableau_calculus.specs.declared.refutation.Line.{Line}
use Rattle.tableau_calculus.specs.declared.refutation.Refutation.{Refutation}
use Rattle.sat_base.specs.declared.literal.SatLit.{SatLit}
use Rattle.tableau_calculus.specs.Each.{Each}
use Rattle.search_spec.specs.Numbered.{literal_at}
use Rattle.rebuild_spec.specs.Input.{Sourced, start_unit, clause_by, Input}
use Rattle.rebuild_spec.specs.Rebuilt.{IsRebuilt}
use Rattle.term_bank.specs.Terms.{term_at}
use Rattle.literal_map.specs.Atoms.{bank_literal as literal_of}
use Rattle.literal_map.specs.Numbers.{UseByNumbers}
use Rattle.tableau_rules.specs.Uses.{use_of}
use Rattle.refute_print.specs.Limits.{IsChild}
use Rattle.refute_print.specs.Sizes.{IsSmallTerm, AreSmallLiterals, IsSmall}

-- the term or the literal that a rule takes is small
abbrev pub TakesSmall : PlainRule → Type 0
TakesSmall rule = EachPart IsSmallTerm (λ l. IsSmallTerm l.atom) rule

-- a numbered literal's atom is small
abbrev pub IsSmallNumber : Input → SatLit → Type 0
IsSmallNumber input l = IsSmallTerm (literal_at input.atoms l).atom

abbrev pub IsSmallSource : Input → Sourced → Type 0
IsSmallSource input (start_unit l) = IsSmallNumber input l
IsSmallSource input (clause_by c i) = Each (IsSmallNumber input) c × TakesSmall i.rule

pub record InputHasSmallTerms (input : Input) : Type 0 where
  pub clauses : (n : ℕ) (c : Sourced) → slice_get input.clauses n ≡ Some c → IsSmallSource input c
  pub rows : AllByRecursion (λ (row : Row). IsSmallTerm row.predicate) input.rows

-- the literals and the terms of a line are small
pub record HasSmallParts (line : Line) : Type 0 where
  pub branch : AreSmallLiterals line.branch
  pub takes : TakesSmall line.rule

-- all terms in the refutation are small
pub record AreTermsSmall (r : Refutation) : Type 0 where
  pub rows : AllByRecursion (λ (row : Row). IsSmallTerm row.predicate) r.witnesses
  pub lines : AllByRecursion HasSmallParts r.lines

abbrev pub RebuiltTermsAreSmall : Type 0
RebuiltTermsAreSmall =
    (input : Input) (refutation : Refutation) → InputHasSmallTerms input → IsRebuilt input refutation → AreTermsSmall refutation

-- the places that a rule is used at are numbers of the machine
abbrev pub HasPlaces : PlainRule → Type 0
HasPlaces (AtOne kind i) = i < 2 ^ 64
HasPlaces (AtTwo kind i j) = (i < 2 ^ 64) × (j < 2 ^ 64)
HasPlaces (AllPos i u) = i < 2 ^ 64
HasPlaces (WithPredicate kind f) = Unit {0}
HasPlaces (Cut l) = Unit {0}

-- the numbers in a line are numbers of the machine
pub record HasNumbers (line : Line) : Type 0 where
  pub places : HasPlaces line.rule
  pub children : AllByRecursion IsChild line.children

-- so are those of a refutation's lines, and its rows have numbers
pub record AreNumbersInRange (r : Refutation) : Type 0 where
  pub rows : length r.witnesses ≤ 2 ^ 32
  pub lines : length r.lines ≤ 2 ^ 64
  pub each : AllByRecursion HasNumbers r.lines

abbrev pub SmallInRange : Type 0
SmallInRange = (refutation : Refutation) → AreNumbersInRange refutation → AreTermsSmall refutation → IsSmall refutation

-- a rule takes a small term or literal where it takes by number what stands for a small one
abbrev pub UsesTakeSmall : Type 0
UsesTakeSmall =
    (terms : List Lambda) (atoms : List ℕ) (by : UseByNumbers)
    → EachPart (λ u. IsSmallTerm (term_at terms u)) (λ l. IsSmallTerm (literal_of terms atoms l).atom) by
    → TakesSmall (use_of terms atoms by)
