-- The clause that made a variable's literal true.
use Rattle.std.proofs.Common.{◌≡◌, inl, inr, ◌<◌, ℕ, false, List, Option, Some, None, length, sym, ap, ◌∙◌, arith}
use Rattle.std.specs.List.{slice_get}
use Rattle.std.specs.Option.{is_some, IfNone}
use Rattle.std.proofs.lemmas.Bool.{false≢true, true≢false}
use Rattle.std.proofs.lemmas.Option.{same_Some, slice_get_cases}
use Rattle.sat_base.specs.declared.literal.Var.{Var}
use Rattle.sat_base.specs.declared.literal.SatLit.{SatLit}
use Rattle.sat_base.specs.Literal.{mentions_variable, HoldsNoVariableTwice}
use Rattle.sat_log.specs.declared.chain.Premise.{Premise}
use Rattle.sat_log.specs.declared.chain.Premise.TheVariants.{Clause}
use Rattle.sat_propagate.specs.Internal.ClauseTable.{Watched}
use Rattle.sat_propagate.specs.Internal.Trail.{TrailState, literals}
use Rattle.sat_propagate.specs.declared.trail.Step.{Step}
use Rattle.sat_propagate.proofs.PlaceLaws.{literal_at, mentioned_at, once_place}
use Rattle.sat_core.specs.Internal.Reasons.{IsReasonOf, IsReasonClause, IsAddedPair}

-- a variable that is not on the trail has no reason
pub no_reason : (trail : TrailState) (v : Var) (n : ℕ) → mentions_variable (literals trail.steps) v ≡ false → IsReasonOf trail v n → ⊥
no_reason trail v n absent r = false≢true (sym absent ∙ ap (mentions_variable (literals trail.steps)) (sym r.on) ∙ mentioned_at trail.steps r.at r.step r.there)

-- a step on a variable has its reason
pub one_reason : (trail : TrailState) (i : ℕ) (step : Step) (v : Var) (n : ℕ) → HoldsNoVariableTwice (literals trail.steps) → slice_get trail.steps i ≡ Some step → step.literal.var ≡ v
    → IsReasonOf trail v n → step.reason ≡ Some n
one_reason trail i step v n once at on r =
    let same : i ≡ r.at =
    once_place (literals trail.steps) i r.at step.literal r.step.literal once (literal_at trail.steps i step at) (literal_at trail.steps r.at r.step r.there) (on ∙ sym r.on) in
    ap (λ (s : Step). s.reason) (same_Some step r.step (sym at ∙ ap (slice_get trail.steps) same ∙ r.there)) ∙ r.reason

clause_at : (clauses : List Watched) (n : ℕ) → n < length clauses → (watched : Watched) × (slice_get clauses n ≡ Some watched)
clause_at clauses n inside = elim ((slice_get_cases clauses n).1) [
  | inl found ↦ (found.0, found.2)
  | inr past ↦ let long = past.0 in absurd (omega (arith, inside, long))
]

-- the literals of the clause with a reason's number
pub reason_clause : (trail : TrailState) (clauses : List Watched) (v : Var) (n : ℕ) (text : List SatLit) → n < length clauses → IsReasonOf trail v n
    → ((watched : Watched) → slice_get clauses n ≡ Some watched → text ≡ watched.clause) → IsReasonClause trail clauses v text
reason_clause trail clauses v n text inside is read =
    let at = clause_at clauses n inside in
    record { number = n; reason = is; watched = at.0; there = at.1; text = read at.0 at.1 }

-- a clause of two literals with the name of one that was added
pub added_pair : (clauses : List Watched) (names : List Premise) (n number : ℕ) (text : List SatLit) → n < length clauses
    → ((watched : Watched) → slice_get clauses n ≡ Some watched → text ≡ watched.clause) → length text ≡ 2 → slice_get names n ≡ Some (Clause number) → IsAddedPair clauses names n
added_pair clauses names n number text inside read two name =
    let at = clause_at clauses n inside in
    record { watched = at.0; there = at.1; two = ap (λ (list : List SatLit). length list) (sym (read at.0 at.1)) ∙ two; number = number; name = name }

-- what holds where there is no number
pub none_gives : (r : Option ℕ) (P : Type 0) → is_some r ≡ false → IfNone r P → P
none_gives None P e holds = holds
none_gives (Some n) P e holds = absurd (true≢false e)
