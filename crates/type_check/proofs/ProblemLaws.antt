-- What each statement keeps holds of the whole problem.
use Rattle.std.proofs.Common.{◌≡◌, ℕ, Bool, true, false, List, [], ◌∷◌, Option, Some, None, Result, Ok, Err, IfOk, All, is_some, ◌&&◌, if◌then◌else◌, refl}
use Rattle.std.proofs.lemmas.List.Elements.{All-head, All-tail}
use Rattle.stt_core.specs.Lambda.{Lambda}
use Rattle.stt_core.specs.Signature.{symbol_named}
use Rattle.stt_core.specs.PlainProblem.{PlainProblem}
use Rattle.thf_grammar.specs.Trees.{TypeTree, FormulaTree, BodyTree, base, typing, formula, AnnotatedTree}
use Rattle.thf_include.specs.View.{PlacedTree}
use Rattle.type_check.specs.Outcome.{IllPlace, ◌>>=◌}
use Rattle.type_check.specs.declared.refusal.IllWhy.TheVariants.{Twice, SecondConjecture, RoleUnknown}
use Rattle.type_check.specs.Types.{read_type}
use Rattle.type_check.specs.Statements.{read_formula, with_base, with_const, with_assumed, with_conjecture, with_formula, where_new, read_body, read_known, read_statement, is_role, is_conjecture, is_definition, in_file, read_statements, empty_problem, problem_of}
use Rattle.type_check.proofs.OutcomeLaws.{if_ok-then, if_ok-unless, if_ok-where}

none-is : {A : Type 0} (o : Option A) → is_some o ≡ false → o ≡ None
none-is None h = refl
none-is (Some x) h = cc

if_ok-in_file : {A : Type 0} (P : A → Type 0) (file : ℕ) (r : Result A IllPlace) → IfOk r P → IfOk (in_file file r) P
if_ok-in_file P file (Ok a) h = h
if_ok-in_file P file (Err e) h = tt

-- a formula is the conjecture or is assumed
pub with_formula-cases : (P : PlainProblem → Type 0) (role : List ℕ) (t : Lambda) (p : PlainProblem) → P (with_conjecture t p) → P (with_assumed (is_definition role) t p) → P (with_formula role t p)
with_formula-cases P role t p h k = go (is_conjecture role)
  where
    go : (b : Bool) → P (if b then with_conjecture t p else with_assumed (is_definition role) t p)
    go true = h
    go false = k

-- what is kept, where the bodies of the statements are of this kind
pub record Keeps (IsKind : BodyTree → Type 0) (Kept : PlainProblem → Type 0) : Type 0 where
  pub at_nothing : Kept empty_problem
  pub at_base : (p : PlainProblem) (at : ℕ) (name : List ℕ) → Kept p → IsKind (base at name) → symbol_named p.declared.bases p.declared.consts name ≡ None → Kept (with_base name p)
  pub at_const : (p : PlainProblem) (at : ℕ) (name : List ℕ) (ty : TypeTree) → Kept p → IsKind (typing at name ty) → symbol_named p.declared.bases p.declared.consts name ≡ None
      → IfOk (read_type p.declared ty) (λ a. Kept (with_const name a p))
  pub at_formula : (p : PlainProblem) (role : List ℕ) (tree : FormulaTree) → Kept p → IsKind (formula tree) → IfOk (read_formula p.declared tree) (λ t. Kept (with_formula role t p))

module _ (IsKind : BodyTree → Type 0) (Kept : PlainProblem → Type 0) (keeps : Keeps IsKind Kept) where
  where_new-keeps : (p : PlainProblem) (at : ℕ) (name : List ℕ) (next : Result PlainProblem IllPlace) → (symbol_named p.declared.bases p.declared.consts name ≡ None → IfOk next Kept) → IfOk (where_new at name p next) Kept
  where_new-keeps p at name next h =
      let symbol = symbol_named p.declared.bases p.declared.consts name in
      if_ok-unless Kept (is_some symbol) at Twice next (λ e. h (none-is symbol e))

  read_body-keeps : (p : PlainProblem) (role : List ℕ) (body : BodyTree) → Kept p → IsKind body → IfOk (read_body p role body) Kept
  read_body-keeps p role (base at name) h k = where_new-keeps p at name (Ok (with_base name p)) (λ new. keeps.at_base p at name h k new)
  read_body-keeps p role (typing at name ty) h k =
      where_new-keeps p at name (read_type p.declared ty >>= λ a. Ok (with_const name a p))
      (λ new. if_ok-then (λ a. Kept (with_const name a p)) Kept (read_type p.declared ty) (λ a. Ok (with_const name a p)) (keeps.at_const p at name ty h k new) (λ a g. g))
  read_body-keeps p role (formula tree) h k =
      if_ok-then (λ t. Kept (with_formula role t p)) Kept (read_formula p.declared tree) (λ t. Ok (with_formula role t p)) (keeps.at_formula p role tree h k) (λ t g. g)

  read_statement-keeps : (p : PlainProblem) (s : AnnotatedTree) → Kept p → IsKind s.body → IfOk (read_statement p s) Kept
  read_statement-keeps p s h k =
      if_ok-where Kept (is_role s.role) s.role_at RoleUnknown (read_known p s)
      (λ known. if_ok-unless Kept (is_conjecture s.role && is_some p.conjecture) s.role_at SecondConjecture (read_body p s.role s.body)
      (λ first. read_body-keeps p s.role s.body h k))

  read_statements-keeps : (p : PlainProblem) (statements : List PlacedTree) → Kept p → All (λ s. IsKind s.statement.body) statements → IfOk (read_statements p statements) Kept
  read_statements-keeps p [] h k = h
  read_statements-keeps p (s ∷ statements) h k =
      let Fits : PlacedTree → Type 0 = λ r. IsKind r.statement.body in
      if_ok-then Kept Kept (in_file s.file (read_statement p s.statement)) (λ q. read_statements q statements)
      (if_ok-in_file Kept s.file (read_statement p s.statement) (read_statement-keeps p s.statement h (All-head Fits s statements k)))
      (λ q g. read_statements-keeps q statements g (All-tail Fits s statements k))

  pub problem_of-keeps : (statements : List PlacedTree) → All (λ s. IsKind s.statement.body) statements → IfOk (problem_of statements) Kept
  problem_of-keeps statements k = read_statements-keeps empty_problem statements keeps.at_nothing k
