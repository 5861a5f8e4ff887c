-- What is typed has names.
use Rattle.std.proofs.Common.{◌≡◌, ◌<◌, true, List, [], ◌∷◌, ◌++◌, length, Some, IsTrue, subst}
use Rattle.std.proofs.lemmas.Option.{slice_get_within}
use Rattle.stt_core.specs.SimpleType.{SimpleType, base, arrow, predicate, formula, is_declared}
use Rattle.stt_core.specs.Lambda.{Constant, name, witness, falsity, negation, implication, all, equality, choice, description, Lambda, bound, constant, lam, app}
use Rattle.stt_core.specs.Typing.{Scope, constant_type}
use Rattle.stt_core.specs.Canonical.{IsCanonical, IsNeutral}
use Rattle.stt_core.proofs.TypeLaws.{given}
use Rattle.tableau_calculus.specs.Literals.{Literal, IsBranch}
use Rattle.tableau_calculus.specs.Witnesses.{Row, with_rows, IsTableAfter}
use Rattle.tableau_calculus.specs.Accepted.{IsTypedUse, AreRightAfter, IsAccepted}
use Rattle.tableau_calculus.specs.Rules.{PlainRule}
use Rattle.tableau_calculus.specs.declared.rule_use.RuleUse.TheVariants.{AtOne, AtTwo, AllPos, WithPredicate, Cut}
use Rattle.tableau_calculus.specs.declared.refutation.Line.{Line}
use Rattle.tableau_calculus.specs.declared.refutation.Refutation.{Refutation}
use Rattle.refute_print.specs.Named.{Names, HasTypeNames, HasConstantNames, HasNames, HaveNames, HasRuleNames, RowsHaveNames, LinesHaveNames, IsNamed}

-- names for all that is declared
pub record NamesAll (names : Names) (scope : Scope) : Type 0 where
  pub bases : scope.bases ≡ length names.bases
  pub constants : length scope.names ≡ length names.constants

module _ (names : Names) (scope : Scope) (n : NamesAll names scope) where
  pub type_named : (a : SimpleType) → is_declared scope.bases a ≡ true → HasTypeNames names a
  type_named a h = subst (λ k. IsTrue (is_declared k a)) n.bases h

  pub constant_named : (c : Constant) (a : SimpleType) → constant_type scope c ≡ Some a → HasConstantNames names c
  constant_named (name k) a h = subst (λ m. k < m) n.constants (slice_get_within scope.names k a h)
  constant_named (witness k) a h = tt
  constant_named falsity a h = tt
  constant_named negation a h = tt
  constant_named implication a h = tt
  constant_named (all b) a h = type_named b (given scope b (arrow (predicate b) formula) a h).declared
  constant_named (equality b) a h = type_named b (given scope b (arrow b (predicate b)) a h).declared
  constant_named (choice b) a h = type_named b (given scope b (arrow (predicate b) b) a h).declared
  constant_named (description b) a h = type_named b (given scope b (arrow (predicate b) b) a h).declared

  mutual
    canonical_named : (ctx : List SimpleType) (a : SimpleType) (t : Lambda) → IsCanonical scope ctx a t → HasNames names t
    canonical_named ctx a (bound k) h = tt
    canonical_named ctx a (constant c) h = constant_named c a h.1
    canonical_named ctx (base k) (lam c s) h = absurd h.1
    canonical_named ctx (arrow d b) (lam c s) h = (subst (λ k. IsTrue (is_declared k c)) n.bases h.0, canonical_named (c ∷ ctx) b s h.1.1)
    canonical_named ctx a (app s u) h = (neutral_named ctx (arrow h.1.0 a) s h.1.1, canonical_named ctx h.1.0 u h.1.2)

    neutral_named : (ctx : List SimpleType) (a : SimpleType) (t : Lambda) → IsNeutral scope ctx a t → HasNames names t
    neutral_named ctx a (bound k) h = tt
    neutral_named ctx a (constant c) h = constant_named c a h
    neutral_named ctx a (lam c s) h = absurd h
    neutral_named ctx a (app s u) h = (neutral_named ctx (arrow h.0 a) s h.1, canonical_named ctx h.0 u h.2)

  branch_named : (ls : List Literal) → IsBranch scope ls → HaveNames names ls
  branch_named [] h = tt
  branch_named (l ∷ ls) h = (canonical_named [] formula l.atom h.0.formula, branch_named ls h.1)

  use_named : (r : PlainRule) → IsTypedUse scope r → HasRuleNames names r
  use_named (AtOne k i) h = tt
  use_named (AtTwo k i j) h = tt
  use_named (AllPos i u) h = canonical_named [] h.0 u h.1
  use_named (WithPredicate k f) h = canonical_named [] (predicate h.0) f h.1
  use_named (Cut l) h = canonical_named [] formula l.atom h.formula

  lines_named : (rows : List Row) (earlier lines : List Line) → AreRightAfter scope rows earlier lines → LinesHaveNames names lines
  lines_named rows earlier [] h = tt
  lines_named rows earlier (l ∷ lines) h =
      (record { branch_named = branch_named l.branch h.0.typed.0; rule_named = use_named l.rule h.0.typed.1 }, lines_named rows (earlier ++ l ∷ []) lines h.1)

rows_named : (names : Names) (scope : Scope) (n : NamesAll names scope) (earlier rows : List Row) → IsTableAfter scope earlier rows → RowsHaveNames names rows
rows_named names scope n earlier [] h = tt
rows_named names scope n earlier (r ∷ rows) h = (
  canonical_named names (with_rows scope earlier) (record { bases = n.bases; constants = n.constants }) [] (predicate r.type) r.predicate h.0,
  rows_named names scope n (earlier ++ r ∷ []) rows h.2,
)

-- every name of an accepted refutation is declared
pub accepted_named : (names : Names) (scope : Scope) → NamesAll names scope → (start : List Literal) (r : Refutation) → IsAccepted scope start r → IsNamed names r
accepted_named names scope n start r h = record {
  rows_named = rows_named names scope n [] r.witnesses h.table;
  lines_named = lines_named names (with_rows scope r.witnesses) (record { bases = n.bases; constants = n.constants }) r.witnesses [] r.lines h.lines;
}
