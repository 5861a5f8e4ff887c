-- The check of a whole text.
use Rattle.std.proofs.Common.{◌≡◌, ℕ, List, Option, Result, Ok, Err, OnOk, IfErr, subst}
use Rattle.stt_core.specs.Typing.{Scope}
use Rattle.tableau_calculus.specs.Witnesses.{Row, with_rows}
use Rattle.tableau_calculus.specs.Internal.Answers.{LineAnswer}
use Rattle.tableau_calculus.specs.declared.refutation.Line.{Line}
use Rattle.tableau_calculus.specs.declared.refutation.Why.{Why}
use Rattle.tableau_calculus.specs.declared.refused.PlainRefused.{PlainRefused}
use Rattle.tableau_calculus.specs.declared.refused.PlainRefused.TheVariants.{Refused, Memory}
use Rattle.tableau_calculus.specs.Refused.{IfRefused}
use Rattle.refute_check.specs.declared.shared.Shared.{Shared}
use Rattle.refute_check.specs.Internal.Shared.{shared_scope, declared_in, the_rows, IsGoodShared}
use Rattle.refute_check.proofs.SharedLaws.{scope_rows}

-- a line's answer over the witnesses of the table
pub answer_over : (s : Shared) → IsGoodShared s → (scope : Scope) → declared_in s ≡ scope → (rows : List Row) → the_rows s ≡ rows → (earlier : List Line) (line : Line) (why : Option Why) → LineAnswer (shared_scope s) (the_rows s) earlier line why → LineAnswer (with_rows scope rows) rows earlier line why
answer_over s good scope declared rows are earlier line why h =
    subst (λ x. LineAnswer (with_rows x rows) rows earlier line why) declared
    (subst (λ rs. LineAnswer (with_rows (declared_in s) rs) rs earlier line why) are
    (subst (λ x. LineAnswer x (the_rows s) earlier line why) (scope_rows s good) h))

-- what is said of a refusal's place and its word
pub at_place : (e : PlainRefused) (P Q : ℕ → Why → Type 0) → ((place : ℕ) (why : Why) → P place why → Q place why) → IfRefused e P → IfRefused e Q
at_place (Refused place why) P Q f h = f place why h
at_place Memory P Q f h = tt

pub if_place : (r : Result (Unit {0}) PlainRefused) (P Q : ℕ → Why → Type 0) → ((place : ℕ) (why : Why) → P place why → Q place why) → IfErr r (λ e. IfRefused e P) → IfErr r (λ e. IfRefused e Q)
if_place (Ok u) P Q f h = tt
if_place (Err e) P Q f h = at_place e P Q f h

pub if_ok : {P Q : Type 0} (r : Result (Unit {0}) PlainRefused) → (P → Q) → OnOk r P → OnOk r Q
if_ok (Ok u) f h = f h
if_ok (Err e) f h = tt

pub at_both : (e : PlainRefused) (P Q R : ℕ → Why → Type 0) → ((place : ℕ) (why : Why) → P place why → Q place why → R place why) → IfRefused e P → IfRefused e Q → IfRefused e R
at_both (Refused place why) P Q R f h k = f place why h k
at_both Memory P Q R f h k = tt
