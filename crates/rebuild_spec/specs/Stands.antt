-- What stands for the clauses, for what the chains give after each step, and for the results: a start unit or a line.
use Rattle.std.specs.Prelude.{◌≡◌, ℕ, zero, suc, nat_lt, ◌&&◌, if◌then◌else◌, List, [], ◌∷◌, length, map, Some, slice_get}
use Rattle.std.specs.List.{position_or_len}
use Rattle.tableau_calculus.specs.Rules.{PlainRule}
use Rattle.tableau_calculus.specs.declared.rule_use.RuleUse.TheVariants.{AtOne, AtTwo, AllPos}
use Rattle.tableau_calculus.specs.declared.rule_use.TwoPlaces.TheVariants.{Close}
use Rattle.tableau_calculus.specs.declared.refutation.Child.TheVariants.{Closed}
use Rattle.sat_base.specs.declared.literal.Var.{Var}
use Rattle.sat_base.specs.declared.literal.SatLit.{SatLit}
use Rattle.sat_base.specs.Literal.{positive, negative, negated, same_literal, holds}
use Rattle.sat_log.specs.declared.chain.Premise.{Premise}
use Rattle.sat_log.specs.declared.chain.Premise.TheVariants.{Clause, Result}
use Rattle.sat_log.specs.declared.chain.ChainStep.{ChainStep}
use Rattle.sat_log.specs.declared.log.LogEntry.{LogEntry}
use Rattle.sat_log.specs.Resolution.{resolved}
use Rattle.rebuild_spec.specs.Input.{Instance, start_unit, clause_by, Input}
use Rattle.rebuild_spec.specs.Trees.{Place, at_clause, at_step, at_result, Tree, leaf, cut}

-- a start unit, by its number among the clauses and with its literal, or a line
pub data Standing : Type 0 where
  start : ℕ → SatLit → Standing
  line : Tree → Standing

-- a rule at these places of its principals
abbrev pub rule_at_places : PlainRule → List ℕ → PlainRule
rule_at_places (AtOne kind k) (i ∷ is) = AtOne kind i
rule_at_places (AtTwo kind k m) (i ∷ j ∷ is) = AtTwo kind i j
rule_at_places (AllPos k u) (i ∷ is) = AllPos i u
rule_at_places rule is = rule

-- the place of a literal in a branch
abbrev pub place_in : List SatLit → SatLit → ℕ
place_in branch l = position_or_len (same_literal l) branch

-- The line of a clause of an instance. Its branch is the negations of the clause's literals: the principals, and then the negations of the
-- literals that were picked. All its children are closed.
abbrev pub instance_line : ℕ → List SatLit → Instance → Tree
instance_line n clause i =
    let branch = map negated clause in
    leaf (at_clause n) branch (rule_at_places i.rule (map (place_in branch) i.principals)) (map (λ _. Closed) i.alternatives)

-- two start units in the order of their numbers
abbrev pub literals_in_order : ℕ → SatLit → ℕ → SatLit → List SatLit
literals_in_order m l n k = if nat_lt m n then l ∷ k ∷ [] else k ∷ l ∷ []

-- What a step gives at its place, on a variable, of what stands for the clause with the variable and for the one with its negation: two
-- start units close each other, one start unit leaves the other line as it is, and two lines give a cut.
abbrev pub joined_standing : Place → Var → Standing → Standing → Standing
joined_standing p v (start m l) (start n k) = line (leaf p (literals_in_order m l n k) (AtTwo Close 0 1) [])
joined_standing p v (start m l) (line t) = line t
joined_standing p v (line t) (start n k) = line t
joined_standing p v (line t) (line u) = line (cut p v u t)

-- what a step gives of what a chain has so far and of its premise
abbrev pub standing_after_step : Place → Var → List SatLit → Standing → List SatLit → Standing → Standing
standing_after_step p v a s b t = if holds a (positive v) && holds b (negative v) then joined_standing p v s t else joined_standing p v t s

abbrev pub premise_place : Premise → Place
premise_place (Clause n) = at_clause n
premise_place (Result n) = at_result n

-- At a place there is this clause, and this stands for it.
pub data Stands (input : Input) : Place → List SatLit → Standing → Type 0 where
  of_start : (n : ℕ) (l : SatLit) → slice_get input.clauses n ≡ Some (start_unit l) → Stands input (at_clause n) (l ∷ []) (start n l)
  of_instance :
      (n : ℕ) (c : List SatLit) (i : Instance)
      → slice_get input.clauses n ≡ Some (clause_by c i)
      → Stands input (at_clause n) c (line (instance_line n c i))
  of_first :
      (n : ℕ) (entry : LogEntry) (c : List SatLit) (s : Standing)
      → slice_get input.log n ≡ Some entry
      → Stands input (premise_place entry.chain.first) c s
      → Stands input (at_step n zero) c s
  of_next :
      (n k : ℕ) (entry : LogEntry) (step : ChainStep) (a b c : List SatLit) (s t : Standing)
      → slice_get input.log n ≡ Some entry
      → slice_get entry.chain.steps k ≡ Some step
      → Stands input (at_step n k) a s
      → Stands input (premise_place step.premise) b t
      → resolved step.var a b ≡ Some c
      → Stands input (at_step n (suc k)) c (standing_after_step (at_step n (suc k)) step.var a s b t)
  of_result :
      (n : ℕ) (entry : LogEntry) (c : List SatLit) (s : Standing)
      → slice_get input.log n ≡ Some entry
      → Stands input (at_step n (length entry.chain.steps)) c s
      → Stands input (at_result n) c s
