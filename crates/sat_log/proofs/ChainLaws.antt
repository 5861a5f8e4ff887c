-- Facts about chains, their results and logs of them.
use Rattle.std.proofs.Common.{◌≡◌, ◌⊎◌, inl, inr, ◌<◌, ◌+◌, ℕ, zero, suc, ◌&&◌, Bool, true, false, List, [], ◌∷◌, ◌++◌, Option, Some, None, length, take, drop, get_or, refl, sym, ap, ◌∙◌, subst, arith, length-append}
use Rattle.std.specs.Option.{option_and_then}
use Rattle.std.specs.List.{slice_get}
use Rattle.std.proofs.Math.Seq.{drop-cons, take-append_seam}
use Rattle.std.proofs.lemmas.List.{take-append-le}
use Rattle.std.proofs.lemmas.Bool.{and_parts, cases_order}
use Rattle.std.proofs.lemmas.Option.{slice_get_past}
use Rattle.sat_base.specs.declared.literal.Var.{Var}
use Rattle.sat_base.specs.declared.literal.SatLit.{SatLit}
use Rattle.sat_base.specs.Literal.{positive, negative, holds}
use Rattle.sat_log.specs.declared.chain.Premise.{Premise}
use Rattle.sat_log.specs.declared.chain.Premise.TheVariants.{Clause, Result}
use Rattle.sat_log.specs.declared.chain.ChainStep.{ChainStep}
use Rattle.sat_log.specs.declared.chain.Chain.{Chain}
use Rattle.sat_log.specs.declared.log.LogEntry.{LogEntry}
use Rattle.sat_log.specs.Resolution.{without_literal, each_once, HasNoRepeats, resolvent, resolved}
use Rattle.sat_log.specs.Chains.{premise_clause, after_step, after_steps, chain_result, results, IsLogOver}
use Rattle.sat_log.proofs.ResolutionLaws.{HasNoRepeats-made, resolved-without_repeats}

pub Some-same : {X : Type 0} (x y : X) → Some x ≡ Some y → x ≡ y
Some-same x y e = cc

-- what a value that comes by two steps came from
pub and_then-Some : {X Y : Type 0} (f : X → Option Y) (o : Option X) (y : Y) → option_and_then f o ≡ Some y → (x : X) × (o ≡ Some x) × (f x ≡ Some y)
and_then-Some f None y e = absurd (cc)
and_then-Some f (Some x) y e = (x, refl, e)

-- a step makes one of the two resolvents
pub resolved_cases : (v : Var) (a b outcome : List SatLit) → resolved v a b ≡ Some outcome
    → ((holds a (positive v) ≡ true) × (holds b (negative v) ≡ true) × (outcome ≡ resolvent v a b))
    ⊎ ((holds b (positive v) ≡ true) × (holds a (negative v) ≡ true) × (outcome ≡ resolvent v b a))
resolved_cases v a b outcome e =
    go (holds a (positive v) && holds b (negative v)) (holds a (negative v) && holds b (positive v)) refl refl
  where
    go : (s t : Bool) → (holds a (positive v) && holds b (negative v)) ≡ s → (holds a (negative v) && holds b (positive v)) ≡ t
        → ((holds a (positive v) ≡ true) × (holds b (negative v) ≡ true) × (outcome ≡ resolvent v a b))
        ⊎ ((holds b (positive v) ≡ true) × (holds a (negative v) ≡ true) × (outcome ≡ resolvent v b a))
    go true t s_is t_is =
        let held = and_parts (holds a (positive v)) (holds b (negative v)) s_is in
        let made : resolved v a b ≡ Some (resolvent v a b) = simp s_is in
        inl (held.0, held.1, Some-same outcome (resolvent v a b) (sym e ∙ made))
    go false true s_is t_is =
        let held = and_parts (holds a (negative v)) (holds b (positive v)) t_is in
        let made : resolved v a b ≡ Some (resolvent v b a) = simp (s_is, t_is) in
        inr (held.1, held.0, Some-same outcome (resolvent v b a) (sym e ∙ made))
    go false false s_is t_is =
        let none : resolved v a b ≡ None = simp (s_is, t_is) in
        let clash : Some outcome ≡ None = sym e ∙ none in
        absurd (cc)

-- the outcome of a step has no repeats
pub HasNoRepeats-resolved : (v : Var) (a b outcome : List SatLit) → resolved v a b ≡ Some outcome → HasNoRepeats outcome
HasNoRepeats-resolved v a b outcome e =
    elim (resolved_cases v a b outcome e) [
      | inl own ↦ HasNoRepeats-made outcome (without_literal (positive v) a ++ without_literal (negative v) b) own.2
      | inr other ↦ HasNoRepeats-made outcome (without_literal (positive v) b ++ without_literal (negative v) a) other.2
    ]

-- one step more
pub after_steps_more : (clauses outcomes : List (List SatLit)) (so_far next : List SatLit) (steps : List ChainStep) (i : ℕ) (d : ChainStep) → i < length steps
    → after_step clauses outcomes so_far (get_or steps i d) ≡ Some next → after_steps clauses outcomes so_far (drop i steps) ≡ after_steps clauses outcomes next (drop (i + 1) steps)
after_steps_more clauses outcomes so_far next steps i d h e =
    let rest = drop (suc i) steps in
    let next_place : suc i ≡ i + 1 = omega arith in
    ap (after_steps clauses outcomes so_far) (drop-cons steps i d h)
    ∙ ap (λ (o : Option (List SatLit)). option_and_then (λ c. after_steps clauses outcomes c rest) o) e
    ∙ ap (λ (k : ℕ). after_steps clauses outcomes next (drop k steps)) next_place

-- repeats in the first clause do not change what some steps make of it
pub after_steps-without_repeats : (clauses outcomes : List (List SatLit)) (clause : List SatLit) (steps : List ChainStep) → 0 < length steps
    → after_steps clauses outcomes (each_once clause) steps ≡ after_steps clauses outcomes clause steps
after_steps-without_repeats clauses outcomes clause [] h = absurd (omega arith)
after_steps-without_repeats clauses outcomes clause (step ∷ steps) h =
    ap (λ (o : Option (List SatLit)). option_and_then (λ c. after_steps clauses outcomes c steps) o) (go (premise_clause clauses outcomes step.premise))
  where
    go : (o : Option (List SatLit)) → option_and_then (resolved step.var (each_once clause)) o ≡ option_and_then (resolved step.var clause) o
    go None = refl
    go (Some premise) = resolved-without_repeats step.var clause premise

-- an element of a list stands there in a longer one
pub slice_get-append : {X : Type 0} (xs ys : List X) (n : ℕ) (x : X) → slice_get xs n ≡ Some x → slice_get (xs ++ ys) n ≡ Some x
slice_get-append [] ys n x e = absurd (cc)
slice_get-append (y ∷ xs) ys zero x e = e
slice_get-append (y ∷ xs) ys (suc n) x e = slice_get-append xs ys n x e

pub slice_get-before : {X : Type 0} (xs ys : List X) (n : ℕ) → n < length xs → slice_get (xs ++ ys) n ≡ slice_get xs n
slice_get-before [] ys n h = absurd (omega arith)
slice_get-before (y ∷ xs) ys zero h = refl
slice_get-before (y ∷ xs) ys (suc n) h = slice_get-before xs ys n (omega arith)

pub slice_get-seam : {X : Type 0} (xs : List X) (y : X) → slice_get (xs ++ y ∷ []) (length xs) ≡ Some y
slice_get-seam [] y = refl
slice_get-seam (x ∷ xs) y = slice_get-seam xs y

-- a log stays right with a chain and its result
pub IsLogOver-push : (clauses : List (List SatLit)) (log : List LogEntry) (last : LogEntry) → IsLogOver clauses log → chain_result clauses (results log) last.chain ≡ Some last.result
    → IsLogOver clauses (log ++ last ∷ [])
IsLogOver-push clauses log last right derived n entry at =
    elim (cases_order n (length log)) [
      | inl here ↦
          let same : last ≡ entry = Some-same last entry (sym (slice_get-seam log last) ∙ ap (λ (k : ℕ). slice_get (log ++ last ∷ []) k) (sym here) ∙ at) in
          let before : take n (log ++ last ∷ []) ≡ log = ap (λ (k : ℕ). take k (log ++ last ∷ [])) here ∙ take-append_seam log (last ∷ []) in
          rw before (subst (λ (x : LogEntry). chain_result clauses (results log) x.chain ≡ Some x.result) same derived)
      | inr other ↦ elim other [
        | inl before ↦
            let same : take n (log ++ last ∷ []) ≡ take n log = take-append-le n log (last ∷ []) (omega arith) in
            rw same (right n entry (sym (slice_get-before log (last ∷ []) n before) ∙ at))
        | inr after ↦
            let none : slice_get (log ++ last ∷ []) n ≡ None = slice_get_past (log ++ last ∷ []) n (omega (arith, length-append log (last ∷ []))) in
            let clash : Some entry ≡ None = sym at ∙ none in
            absurd (cc)
      ]
    ]

-- a step with a premise that is there makes what resolution with it makes
pub after_step_is : (clauses outcomes : List (List SatLit)) (so_far next premise literals : List SatLit) (step : ChainStep) → premise_clause clauses outcomes step.premise ≡ Some premise
    → literals ≡ premise → resolved step.var so_far literals ≡ Some next → after_step clauses outcomes so_far step ≡ Some next
after_step_is clauses outcomes so_far next premise literals step there same resolves =
    ap (λ (o : Option (List SatLit)). option_and_then (resolved step.var so_far) o) there
    ∙ ap (resolved step.var so_far) (sym same)
    ∙ resolves

-- the same from a copy of the first clause
pub after_steps-started : (clauses outcomes : List (List SatLit)) (clause literals started : List SatLit) (steps : List ChainStep) → 0 < length steps → literals ≡ clause
    → started ≡ each_once literals → after_steps clauses outcomes started steps ≡ after_steps clauses outcomes clause steps
after_steps-started clauses outcomes clause literals started steps some same starts =
    ap (λ (c : List SatLit). after_steps clauses outcomes c steps) (starts ∙ ap each_once same)
    ∙ after_steps-without_repeats clauses outcomes clause steps some

-- a premise names the same clause where clauses are appended
premise_clause-append : (clauses more outcomes : List (List SatLit)) (premise : Premise) (clause : List SatLit) → premise_clause clauses outcomes premise ≡ Some clause
    → premise_clause (clauses ++ more) outcomes premise ≡ Some clause
premise_clause-append clauses more outcomes (Clause n) clause at = slice_get-append clauses more n clause at
premise_clause-append clauses more outcomes (Result n) clause at = at

and_then-is : {X Y : Type 0} (f : X → Option Y) (o : Option X) (x : X) (y : Y) → o ≡ Some x → f x ≡ Some y → option_and_then f o ≡ Some y
and_then-is f o x y e s = ap (option_and_then f) e ∙ s

after_steps-append : (clauses more outcomes : List (List SatLit)) (clause : List SatLit) (steps : List ChainStep) (outcome : List SatLit)
    → after_steps clauses outcomes clause steps ≡ Some outcome → after_steps (clauses ++ more) outcomes clause steps ≡ Some outcome
after_steps-append clauses more outcomes clause [] outcome e = e
after_steps-append clauses more outcomes clause (step ∷ steps) outcome e =
    let next = and_then-Some (λ c. after_steps clauses outcomes c steps) (after_step clauses outcomes clause step) outcome e in
    let premise = and_then-Some (resolved step.var clause) (premise_clause clauses outcomes step.premise) next.0 next.1 in
    and_then-is (λ c. after_steps (clauses ++ more) outcomes c steps) (after_step (clauses ++ more) outcomes clause step) next.0 outcome
    (and_then-is (resolved step.var clause) (premise_clause (clauses ++ more) outcomes step.premise) premise.0 next.0
    (premise_clause-append clauses more outcomes step.premise premise.0 premise.1) premise.2)
    (after_steps-append clauses more outcomes next.0 steps outcome next.2)

-- a chain keeps its result where clauses are appended
pub chain_result-append : (clauses more outcomes : List (List SatLit)) (chain : Chain) (outcome : List SatLit) → chain_result clauses outcomes chain ≡ Some outcome
    → chain_result (clauses ++ more) outcomes chain ≡ Some outcome
chain_result-append clauses more outcomes chain outcome e =
    let first = and_then-Some (λ c. after_steps clauses outcomes c chain.steps) (premise_clause clauses outcomes chain.first) outcome e in
    and_then-is (λ c. after_steps (clauses ++ more) outcomes c chain.steps) (premise_clause (clauses ++ more) outcomes chain.first) first.0 outcome
    (premise_clause-append clauses more outcomes chain.first first.0 first.1)
    (after_steps-append clauses more outcomes first.0 chain.steps outcome first.2)

-- so a log stays right
pub IsLogOver-append : (clauses more : List (List SatLit)) (log : List LogEntry) → IsLogOver clauses log → IsLogOver (clauses ++ more) log
IsLogOver-append clauses more log right n entry at =
    chain_result-append clauses more (results (take n log)) entry.chain entry.result (right n entry at)
