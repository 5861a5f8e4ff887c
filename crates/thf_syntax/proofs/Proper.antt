-- The trees that the grammar has.
use Rattle.std.proofs.Common.{◌≡◌, ◌≢◌, ℕ, ◌⊎◌, true, List, [], ◌∷◌, Option, Some, None, codes}
use Rattle.std.specs.Prelude.{IsTrue}
use Rattle.thf_grammar.specs.Texts.{IsUpperWord, IsLowerWord}
use Rattle.thf_grammar.specs.Trees.{TypeTree, form, indiv, named, arrow, VarTree, FormulaTree, constant, variable, truth, operator, negation, binary, equation, application, quantified, binding, BodyTree, base, typing, formula, SelectedTree, StatementTree, annotated, include}
use Rattle.thf_grammar.specs.declared.connective.Conn.{Conn}
use Rattle.thf_grammar.specs.declared.connective.Binder.{Binder}
use Rattle.thf_grammar.specs.Formulas.{is_chained, is_nonassoc, binds_many}
use Rattle.thf_syntax.proofs.Spelling.{is_nameable}

abbrev pub IsProperType : TypeTree → Type 0
IsProperType (form at) = Unit {0}
IsProperType (indiv at) = Unit {0}
IsProperType (named at name) = IsTrue (is_nameable name)
IsProperType (arrow at from to) = IsProperType from × IsProperType to

pub record IsProperVar (v : VarTree) : Type 0 where
  pub name : IsUpperWord v.name
  pub ty : IsProperType v.ty

-- one variable, or more where the binder takes any number
abbrev pub AreProperVars : Binder → List VarTree → Type 0
AreProperVars b [] = ⊥
AreProperVars b (v ∷ []) = IsProperVar v
AreProperVars b (v ∷ u ∷ vs) = IsProperVar v × (binds_many b ≡ true) × AreProperVars b (u ∷ vs)

-- a connective that stands between operands
abbrev pub IsInfix : Conn → Type 0
IsInfix c = (is_chained c ≡ true) ⊎ (is_nonassoc c ≡ true)

abbrev pub IsProper : FormulaTree → Type 0
IsProper (constant at name) = IsTrue (is_nameable name)
IsProper (variable at name) = IsUpperWord name
IsProper (truth at value) = Unit {0}
IsProper (operator at conn) = Unit {0}
IsProper (negation at body) = IsProper body
IsProper (binary at conn left right) = IsInfix conn × IsProper left × IsProper right
IsProper (equation at positive left right) = IsProper left × IsProper right
IsProper (application at fun arg) = IsProper fun × IsProper arg
IsProper (quantified at all arg) = IsProper arg
IsProper (binding at binder vars body) = AreProperVars binder vars × IsProper body

abbrev pub IsProperBody : List ℕ → BodyTree → Type 0
IsProperBody role (base at name) = (role ≡ codes "type") × IsTrue (is_nameable name)
IsProperBody role (typing at name ty) = (role ≡ codes "type") × IsTrue (is_nameable name) × IsProperType ty
IsProperBody role (formula tree) = (role ≢ codes "type") × IsProper tree

abbrev pub AreProperLabels : List SelectedTree → Type 0
AreProperLabels [] = ⊥
AreProperLabels (s ∷ []) = IsTrue (is_nameable s.name)
AreProperLabels (s ∷ u ∷ us) = IsTrue (is_nameable s.name) × AreProperLabels (u ∷ us)

abbrev pub IsProperSelection : Option (List SelectedTree) → Type 0
IsProperSelection None = Unit {0}
IsProperSelection (Some only) = AreProperLabels only

abbrev pub IsProperStatement : StatementTree → Type 0
IsProperStatement (annotated a) = IsTrue (is_nameable a.name) × IsLowerWord a.role × IsProperBody a.role a.body
IsProperStatement (include at file only) = IsTrue (is_nameable file) × IsProperSelection only

abbrev pub AreProperStatements : List StatementTree → Type 0
AreProperStatements [] = Unit {0}
AreProperStatements (s ∷ ss) = IsProperStatement s × AreProperStatements ss
