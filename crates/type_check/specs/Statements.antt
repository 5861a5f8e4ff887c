-- What the statements of a problem say, one after the other.
use Rattle.std.specs.Prelude.{ℕ, Bool, ◌&&◌, List, [], ◌∷◌, ◌++◌, codes, Some, None, Result, Ok, Err, is_some, if◌then◌else◌}
use Rattle.std.specs.Str.{bytes_eq}
use Rattle.std.specs.List.{list_any}
use Rattle.stt_core.specs.SimpleType.{SimpleType, formula as formula_type, same_type}
use Rattle.stt_core.specs.Lambda.{Lambda}
use Rattle.stt_core.specs.Signature.{symbol_named}
use Rattle.stt_core.specs.Declarations.{Declarations}
use Rattle.stt_core.specs.PlainProblem.{PlainProblem}
use Rattle.thf_grammar.specs.Trees.{TypeTree, FormulaTree, constant, variable, truth, operator, negation, binary, equation, application, quantified, binding, BodyTree, base, typing, formula, AnnotatedTree}
use Rattle.thf_include.specs.View.{PlacedTree}
use Rattle.type_check.specs.Outcome.{IllPlace, ill, ◌>>=◌}
use Rattle.type_check.specs.Types.{read_type}
use Rattle.type_check.specs.Typed.{TypedTerm}
use Rattle.type_check.specs.Terms.{read_term}
use Rattle.type_check.specs.declared.refusal.IllWhy.{IllWhy}
use Rattle.type_check.specs.declared.refusal.IllWhy.TheVariants.{Twice, NotFormula, SecondConjecture, RoleUnknown}

-- the roles (TPTP)
abbrev pub roles : List (List ℕ)
roles =
    codes "type" ∷ codes "conjecture" ∷ codes "axiom" ∷ codes "hypothesis" ∷ codes "definition" ∷ codes "assumption" ∷ codes "lemma"
    ∷ codes "theorem" ∷ codes "corollary" ∷ codes "plain" ∷ codes "negated_conjecture" ∷ []

abbrev pub is_role : List ℕ → Bool
is_role role = list_any (bytes_eq role) roles

abbrev pub is_conjecture : List ℕ → Bool
is_conjecture role = bytes_eq role (codes "conjecture")

abbrev pub is_definition : List ℕ → Bool
is_definition role = bytes_eq role (codes "definition")

-- the byte place of a node's own token
abbrev pub own_place : FormulaTree → ℕ
own_place (constant at name) = at
own_place (variable at name) = at
own_place (truth at value) = at
own_place (operator at conn) = at
own_place (negation at s) = at
own_place (binary at conn s t) = at
own_place (equation at positive s t) = at
own_place (application at s t) = at
own_place (quantified at all s) = at
own_place (binding at binder vars s) = at

-- the term, where it is a formula
abbrev pub where_formula : ℕ → TypedTerm → Result Lambda IllPlace
where_formula at x = if same_type x.type formula_type then Ok x.term else ill at NotFormula

abbrev pub read_formula : Declarations → FormulaTree → Result Lambda IllPlace
read_formula d tree = do
  x ← read_term d [] tree
  where_formula (own_place tree) x

-- one more base type, constant or formula
abbrev pub with_base : List ℕ → PlainProblem → PlainProblem
with_base name p =
    record {
      declared = record { bases = p.declared.bases ++ name ∷ []; consts = p.declared.consts };
      assumed = p.assumed;
      marked = p.marked;
      conjecture = p.conjecture;
    }

abbrev pub with_const : List ℕ → SimpleType → PlainProblem → PlainProblem
with_const name a p =
    record {
      declared = record { bases = p.declared.bases; consts = p.declared.consts ++ record { name = name; type = a } ∷ [] };
      assumed = p.assumed;
      marked = p.marked;
      conjecture = p.conjecture;
    }

abbrev pub with_assumed : Bool → Lambda → PlainProblem → PlainProblem
with_assumed mark t p =
    record { declared = p.declared; assumed = p.assumed ++ t ∷ []; marked = p.marked ++ mark ∷ []; conjecture = p.conjecture }

abbrev pub with_conjecture : Lambda → PlainProblem → PlainProblem
with_conjecture t p = record { declared = p.declared; assumed = p.assumed; marked = p.marked; conjecture = Some t }

-- a formula with its role: the conjecture, or one that is assumed
abbrev pub with_formula : List ℕ → Lambda → PlainProblem → PlainProblem
with_formula role t p = if is_conjecture role then with_conjecture t p else with_assumed (is_definition role) t p

-- what follows for a name that isn't declared yet
abbrev pub where_new : ℕ → List ℕ → PlainProblem → Result PlainProblem IllPlace → Result PlainProblem IllPlace
where_new at name p next = if is_some (symbol_named p.declared.bases p.declared.consts name) then ill at Twice else next

abbrev pub read_base : PlainProblem → ℕ → List ℕ → Result PlainProblem IllPlace
read_base p at name = where_new at name p (Ok (with_base name p))

abbrev pub read_const : PlainProblem → ℕ → List ℕ → TypeTree → Result PlainProblem IllPlace
read_const p at name ty = where_new at name p (do
  a ← read_type p.declared ty
  Ok (with_const name a p))

-- what a statement of this role declares or states
abbrev pub read_body : PlainProblem → List ℕ → BodyTree → Result PlainProblem IllPlace
read_body p role (base at name) = read_base p at name
read_body p role (typing at name ty) = read_const p at name ty
read_body p role (formula tree) = do
  t ← read_formula p.declared tree
  Ok (with_formula role t p)

-- a statement whose role is known
abbrev pub read_known : PlainProblem → AnnotatedTree → Result PlainProblem IllPlace
read_known p s =
    if is_conjecture s.role && is_some p.conjecture then ill s.role_at SecondConjecture
    else read_body p s.role s.body

abbrev pub read_statement : PlainProblem → AnnotatedTree → Result PlainProblem IllPlace
read_statement p s = if is_role s.role then read_known p s else ill s.role_at RoleUnknown

-- a type error in a problem's files
pub record IllInFile : Type 0 where
  pub file : ℕ
  pub at : ℕ
  pub why : IllWhy

abbrev pub in_file : {A : Type 0} → ℕ → Result A IllPlace → Result A IllInFile
in_file file (Ok a) = Ok a
in_file file (Err e) = Err (record { file = file; at = e.at; why = e.why })

abbrev pub read_statements : PlainProblem → List PlacedTree → Result PlainProblem IllInFile
read_statements p [] = Ok p
read_statements p (s ∷ statements) = in_file s.file (read_statement p s.statement) >>= λ q. read_statements q statements

-- nothing is declared or stated
abbrev pub empty_problem : PlainProblem
empty_problem = record { declared = record { bases = []; consts = [] }; assumed = []; marked = []; conjecture = None }

-- What the statements of a problem say together, or the first type error.
abbrev pub problem_of : List PlacedTree → Result PlainProblem IllInFile
problem_of statements = read_statements empty_problem statements
