-- Modest and flat states have terms that are small enough for a text.
use Rattle.std.proofs.Common.{◌≡◌, ◌≤◌, ℕ, suc, max, List, [], ◌∷◌, refl, ap₂, arith}
use Rattle.stt_core.specs.SimpleType.{SimpleType, base, arrow}
use Rattle.stt_core.specs.Lambda.{Constant, name, witness, falsity, negation, implication, all, equality, choice, description, Lambda, bound, constant, lam, app}
use Rattle.stt_core.specs.Depth.{depth}
use Rattle.tableau_calculus.specs.Literals.{Literal}
use Rattle.tableau_calculus.specs.Witnesses.{Row}
use Rattle.tableau_calculus.specs.Each.{Each}
use Rattle.command_queue.specs.declared.entry.Entry.{Entry}
use Rattle.search_spec.specs.State.{State, Command, process, mate, confront, inst, choose, describe, grow}
use Rattle.refute_print.specs.Sizes.{IsSmallTerm, type_depth, nesting_in, nesting}
use Rattle.refute_print.specs.Sizes as sizes
use Rattle.type_bound.specs.Modest.{IsModestConstant, IsModest, IsModestLiteral, IsModestRow, IsModestCommand, IsModestState}
use Rattle.type_bound.specs.Deep.{IsFlat, IsFlatCommand, IsFlatState}
use Rattle.type_bound.proofs.ModestRun.{after-modest}
use Rattle.type_bound.proofs.FlatRun.{after-flat}
use Rattle.type_bound.specs.Small.{IsSmallLiteral, IsSmallCommand, StateHasSmallTerms, RunsStaySmall}

same_nesting : (a : SimpleType) → sizes.nesting a ≡ nesting a
same_nesting (base n) = refl
same_nesting (arrow a b) = ap₂ (λ (x y : ℕ). suc (max x y)) (same_nesting a) (same_nesting b)

constant_within : (limit : ℕ) (c : Constant) → IsModestConstant limit c → nesting_in c ≤ suc limit
constant_within limit (name k) h = omega arith
constant_within limit (witness k) h = omega arith
constant_within limit falsity h = omega arith
constant_within limit negation h = omega arith
constant_within limit implication h = omega arith
constant_within limit (all a) h = omega (arith, h, same_nesting a)
constant_within limit (equality a) h = omega (arith, h, same_nesting a)
constant_within limit (choice a) h = omega (arith, h, same_nesting a)
constant_within limit (description a) h = omega (arith, h, same_nesting a)

types_within : (limit : ℕ) (t : Lambda) → IsModest limit t → type_depth t ≤ suc limit
types_within limit (bound k) h = omega arith
types_within limit (constant c) h = constant_within limit c h
types_within limit (lam a s) h = omega (arith, h.0, same_nesting a, types_within limit s h.1)
types_within limit (app s u) h = omega (arith, types_within limit s h.0, types_within limit u h.1)

types_small : (t : Lambda) → IsModest 1024 t → type_depth t ≤ 2000
types_small t h = omega (arith, types_within 1024 t h)

small : (t : Lambda) → IsModest 1024 t → depth t ≤ 4096 → IsSmallTerm t
small t h k = record { terms = k; types = types_small t h }

each_both : {X : Type 0} (P Q R : X → Type 0) → ((x : X) → P x → Q x → R x) → (xs : List X) → Each P xs → Each Q xs → Each R xs
each_both P Q R f [] h k = tt
each_both P Q R f (x ∷ xs) h k = (f x h.0 k.0, each_both P Q R f xs h.1 k.1)

literal_small : (l : Literal) → IsModestLiteral 1024 l → IsFlat l → IsSmallLiteral l
literal_small l h k = small l.atom h k

command_small : (c : Command) → IsModestCommand 1024 c → IsFlatCommand c → IsSmallCommand c
command_small (process l) h k = literal_small l h k
command_small (mate l m) h k = (literal_small l h.1.0 k.0, literal_small m h.1.1 k.1)
command_small (confront l m) h k = (literal_small l h.0 k.0, literal_small m h.1 k.1)
command_small (inst l u) h k = (literal_small l h.0 k, types_small u h.1)
command_small (choose a f) h k = small f h.1 k
command_small (describe a f) h k = small f h.1 k
command_small (grow p t) h k = tt

pub state_small : (s : State) → IsModestState 1024 s → IsFlatState s → StateHasSmallTerms s
state_small s h k = record {
  clauses = each_both (Each (IsModestLiteral 1024)) (Each IsFlat) (Each IsSmallLiteral) (each_both (IsModestLiteral 1024) IsFlat IsSmallLiteral literal_small) s.clauses h.clauses k.clauses;
  rows = each_both (IsModestRow 1024) (λ (r : Row). depth r.predicate ≤ 4096) (λ (r : Row). IsSmallTerm r.predicate) (λ r x y. small r.predicate x.1 y) s.rows h.rows k.rows;
  queue = each_both (λ (q : Entry Command). IsModestCommand 1024 q.command) (λ (q : Entry Command). IsFlatCommand q.command) (λ (q : Entry Command). IsSmallCommand q.command) (λ q x y. command_small q.command x y) s.queue h.queue k.queue;
}

pub stay_small : RunsStaySmall
stay_small setting start good h n s e = state_small s (after-modest 1024 setting good start h n s e) (after-flat setting start n s e)
