-- What the statements of a problem state is typed, and each formula that is assumed has a mark.
use Rattle.std.proofs.Common.{◌≡◌, ℕ, ◌≤◌, true, List, [], ◌∷◌, ◌++◌, map, length, length-append, Some, Ok, IfOk, slice_get, refl, sym, ap, subst, ◌∙◌, arith}
use Rattle.std.proofs.lemmas.Result.{IfOk-weaker, IfOk-at_ok}
use Rattle.stt_core.specs.SimpleType.{SimpleType, formula as formula_type, is_declared, same_type}
use Rattle.stt_core.specs.Lambda.{Lambda}
use Rattle.stt_core.specs.TypedName.{TypedName}
use Rattle.stt_core.specs.Typing.{Scope, AreDeclared, IsScope}
use Rattle.stt_core.proofs.TypeLaws.{same_type-true}
use Rattle.stt_core.proofs.ListLaws.{slice_get-append, map-append}
use Rattle.stt_core.specs.Declarations.{Declarations, scope_of}
use Rattle.stt_core.specs.PlainProblem.{PlainProblem}
use Rattle.stt_core.specs.TypedProblem.{IsFormula, AreFormulas, IsTyped}
use Rattle.thf_grammar.specs.Trees.{FormulaTree}
use Rattle.thf_include.specs.View.{PlacedTree}
use Rattle.type_check.specs.declared.refusal.IllWhy.TheVariants.{NotFormula}
use Rattle.type_check.specs.Types.{read_type}
use Rattle.type_check.specs.Terms.{read_term}
use Rattle.type_check.specs.Statements.{own_place, where_formula, read_formula, with_base, is_definition, with_const, with_formula, problem_of}
use Rattle.type_check.proofs.OutcomeLaws.{if_ok-then, if_ok-where, if_ok-always}
use Rattle.type_check.proofs.MoreDeclared.{Extends, AreDeclared-more, AreFormulas-more, IsFormulaIfThere-more}
use Rattle.type_check.proofs.DeclaredTypes.{read_type-declared}
use Rattle.type_check.proofs.TypedTerms.{HasItsType, read_term-typed}
use Rattle.type_check.proofs.ProblemLaws.{with_formula-cases, Keeps, problem_of-keeps}

AreDeclared-push : (bases : ℕ) (types : List SimpleType) (a : SimpleType) → AreDeclared bases types → is_declared bases a ≡ true → AreDeclared bases (types ++ a ∷ [])
AreDeclared-push bases [] a h d = (d, tt)
AreDeclared-push bases (b ∷ types) a h d = (h.0, AreDeclared-push bases types a h.1 d)

AreFormulas-push : (scope : Scope) (ts : List Lambda) (t : Lambda) → AreFormulas scope ts → IsFormula scope t → AreFormulas scope (ts ++ t ∷ [])
AreFormulas-push scope [] t h f = (f, tt)
AreFormulas-push scope (s ∷ ts) t h f = (h.0, AreFormulas-push scope ts t h.1 f)

-- a formula that is read is one
read_formula-typed : (d : Declarations) → IsScope (scope_of d) → (tree : FormulaTree) → IfOk (read_formula d tree) (IsFormula (scope_of d))
read_formula-typed d over tree =
    if_ok-then (HasItsType (scope_of d) []) (IsFormula (scope_of d)) (read_term d [] tree) (where_formula (own_place tree)) (read_term-typed d over [] tt tree)
    (λ x h. if_ok-where (IsFormula (scope_of d)) (same_type x.type formula_type) (own_place tree) NotFormula (Ok x.term) (λ e. h ∙ ap Some (same_type-true x.type formula_type e)))

-- what is typed stays typed where more is declared
IsTyped-more : (p : PlainProblem) (d : Declarations) → Extends (scope_of p.declared) (scope_of d) → IsScope (scope_of d) → IsTyped p
    → IsTyped (record { declared = d; assumed = p.assumed; marked = p.marked; conjecture = p.conjecture })
IsTyped-more p d more over h = record {
  scope = over;
  assumed = AreFormulas-more (scope_of p.declared) (scope_of d) more p.assumed h.assumed;
  conjecture = IsFormulaIfThere-more (scope_of p.declared) (scope_of d) more p.conjecture h.conjecture;
}

length-more : (names : List (List ℕ)) (name : List ℕ) → length names ≤ length (names ++ name ∷ [])
length-more names name = omega (arith, length-append names (name ∷ []))

with_base-typed : (name : List ℕ) (p : PlainProblem) → IsTyped p → IsTyped (with_base name p)
with_base-typed name p h =
    let more = length-more p.declared.bases name in
    IsTyped-more p (with_base name p).declared
    (record { bases = more; names = λ k a e. e; witnesses = λ k a e. e })
    (record { names_declared = AreDeclared-more (length p.declared.bases) (length (p.declared.bases ++ name ∷ [])) more (map (λ c. c.type) p.declared.consts) h.scope.names_declared; witnesses_declared = tt })
    h

with_const-typed : (name : List ℕ) (a : SimpleType) (p : PlainProblem) → is_declared (length p.declared.bases) a ≡ true → IsTyped p → IsTyped (with_const name a p)
with_const-typed name a p d h =
    let type_in : TypedName → SimpleType = λ c. c.type in
    let types = map type_in p.declared.consts in
    let all = sym (map-append type_in p.declared.consts (record { name = name; type = a } ∷ [])) in
    IsTyped-more p (with_const name a p).declared
    (record { bases = omega arith; names = λ k b e. ap (λ l. slice_get l k) (sym all) ∙ slice_get-append types (a ∷ []) k b e; witnesses = λ k b e. e })
    (record { names_declared = subst (AreDeclared (length p.declared.bases)) all (AreDeclared-push (length p.declared.bases) types a h.scope.names_declared d); witnesses_declared = tt })
    h

with_formula-typed : (role : List ℕ) (t : Lambda) (p : PlainProblem) → IsFormula (scope_of p.declared) t → IsTyped p → IsTyped (with_formula role t p)
with_formula-typed role t p f h =
    with_formula-cases IsTyped role t p
    (record { scope = h.scope; assumed = h.assumed; conjecture = f })
    (record { scope = h.scope; assumed = AreFormulas-push (scope_of p.declared) p.assumed t h.assumed f; conjecture = h.conjecture })

keeps_typed : Keeps (λ body. Unit {0}) IsTyped
keeps_typed = record {
  at_nothing = record { scope = record { names_declared = tt; witnesses_declared = tt }; assumed = tt; conjecture = tt };
  at_base = λ p at name h kind new. with_base-typed name p h;
  at_const = λ p at name ty h kind new. IfOk-weaker (read_type p.declared ty) (λ a. is_declared (length p.declared.bases) a ≡ true) (λ a. IsTyped (with_const name a p)) (λ a d. with_const-typed name a p d h) (read_type-declared p.declared ty);
  at_formula = λ p role tree h kind. IfOk-weaker (read_formula p.declared tree) (IsFormula (scope_of p.declared)) (λ t. IsTyped (with_formula role t p)) (λ t f. with_formula-typed role t p f h) (read_formula-typed p.declared h.scope tree);
}

pub problem_of-typed : (ss : List PlacedTree) (p : PlainProblem) → problem_of ss ≡ Ok p → IsTyped p
problem_of-typed ss p h = IfOk-at_ok IsTyped h (problem_of-keeps (λ body. Unit {0}) IsTyped keeps_typed ss (λ k d l. tt))

-- each assumed formula has a mark
abbrev AreMarked : PlainProblem → Type 0
AreMarked p = length p.marked ≡ length p.assumed

keeps_marked : Keeps (λ body. Unit {0}) AreMarked
keeps_marked = record {
  at_nothing = refl;
  at_base = λ p at name h kind new. h;
  at_const = λ p at name ty h kind new. if_ok-always (λ a. AreMarked (with_const name a p)) (read_type p.declared ty) (λ a. h);
  at_formula = λ p role tree h kind. if_ok-always (λ t. AreMarked (with_formula role t p)) (read_formula p.declared tree) (λ t. with_formula-cases AreMarked role t p h
      (omega (arith, h, length-append p.marked (is_definition role ∷ []), length-append p.assumed (t ∷ []))));
}

pub problem_of-marked : (ss : List PlacedTree) (p : PlainProblem) → problem_of ss ≡ Ok p → length p.marked ≡ length p.assumed
problem_of-marked ss p h = IfOk-at_ok AreMarked h (problem_of-keeps (λ body. Unit {0}) AreMarked keeps_marked ss (λ k d l. tt))
