-- The premise that a conflict has for its name.
use Rattle.std.proofs.Common.{◌≡◌, ℕ, List, Some, refl, sym, ◌∙◌, subst}
use Rattle.std.specs.Prelude.{◌≢◌, IsSome, Option, None}
use Rattle.std.specs.List.{slice_get}
use Rattle.std.proofs.lemmas.Option.{same_Some}
use Rattle.sat_base.specs.declared.literal.SatLit.{SatLit}
use Rattle.sat_log.specs.declared.chain.Premise.{Premise}
use Rattle.sat_log.specs.Chains.{premise_clause}
use Rattle.sat_log.specs.Propagation.{IsFalseIn}
use Rattle.sat_propagate.specs.Internal.Trail.{TrailState, literals}
use Rattle.sat_propagate.specs.Internal.Propagator.{IsConflict}
use Rattle.sat_propagate.specs.Internal.ClauseTable.{Watched}
use Rattle.sat_core.specs.Internal.Learned.{AreNamedPremises}

-- the premise is the conflict's clause
conflict_named : (store results : List (List SatLit)) (names : List Premise) (clauses : List Watched) (trail : TrailState) (n : ℕ) (premise : Premise) → AreNamedPremises store results names clauses
    → (conflict : IsConflict trail clauses n) → slice_get names n ≡ Some premise → premise_clause store results premise ≡ Some conflict.watched.clause
conflict_named store results names clauses trail n premise named conflict at =
    let found = named n conflict.watched conflict.there in
    subst (λ (p : Premise). premise_clause store results p ≡ Some conflict.watched.clause) (same_Some found.0 premise (sym found.1 ∙ at)) found.2

pub conflict_there : (store results : List (List SatLit)) (names : List Premise) (clauses : List Watched) (trail : TrailState) (n : ℕ) (premise : Premise) → AreNamedPremises store results names clauses
    → IsConflict trail clauses n → slice_get names n ≡ Some premise → IsSome (premise_clause store results premise)
conflict_there store results names clauses trail n premise named conflict at =
    subst (λ (o : Option (List SatLit)). IsSome o) (sym (conflict_named store results names clauses trail n premise named conflict at)) refl

pub conflict_false : (store results : List (List SatLit)) (names : List Premise) (clauses : List Watched) (trail : TrailState) (n : ℕ) (premise : Premise) (clause : List SatLit)
    → AreNamedPremises store results names clauses → IsConflict trail clauses n → slice_get names n ≡ Some premise → premise_clause store results premise ≡ Some clause → IsFalseIn (literals trail.steps) clause
conflict_false store results names clauses trail n premise clause named conflict at is =
    subst (IsFalseIn (literals trail.steps)) (same_Some conflict.watched.clause clause (sym (conflict_named store results names clauses trail n premise named conflict at) ∙ is)) conflict.falsified

pub Some≢None : {X : Type 0} (x : X) → Some x ≢ None
Some≢None x e = cc
