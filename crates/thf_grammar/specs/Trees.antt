-- The trees of THF as plain data: types, formulas and statements with the byte places of their tokens.
use Rattle.std.specs.Prelude.{ℕ, Bool, List, Option}
use Rattle.thf_grammar.specs.declared.connective.Conn.{Conn}
use Rattle.thf_grammar.specs.declared.connective.Binder.{Binder}

-- a type: `$o`, `$i`, a declared name, or an arrow
pub data TypeTree : Type 0 where
  form : (at : ℕ) → TypeTree
  indiv : (at : ℕ) → TypeTree
  named : (at : ℕ) (name : List ℕ) → TypeTree
  arrow : (at : ℕ) (from to : TypeTree) → TypeTree

-- a variable of a binder
pub record VarTree : Type 0 where
  pub at : ℕ
  pub name : List ℕ
  pub ty : TypeTree

-- a formula or another term
pub data FormulaTree : Type 0 where
  constant : (at : ℕ) (name : List ℕ) → FormulaTree
  variable : (at : ℕ) (name : List ℕ) → FormulaTree
  truth : (at : ℕ) (value : Bool) → FormulaTree
  operator : (at : ℕ) (conn : Conn) → FormulaTree
  negation : (at : ℕ) (body : FormulaTree) → FormulaTree
  binary : (at : ℕ) (conn : Conn) (left right : FormulaTree) → FormulaTree
  equation : (at : ℕ) (positive : Bool) (left right : FormulaTree) → FormulaTree
  application : (at : ℕ) (fun arg : FormulaTree) → FormulaTree
  quantified : (at : ℕ) (all : Bool) (arg : FormulaTree) → FormulaTree
  binding : (at : ℕ) (binder : Binder) (vars : List VarTree) (body : FormulaTree) → FormulaTree

-- what an annotated formula says
pub data BodyTree : Type 0 where
  base : (at : ℕ) (name : List ℕ) → BodyTree
  typing : (at : ℕ) (name : List ℕ) (ty : TypeTree) → BodyTree
  formula : (tree : FormulaTree) → BodyTree

pub record AnnotatedTree : Type 0 where
  pub name : List ℕ
  pub role : List ℕ
  pub role_at : ℕ
  pub body : BodyTree

-- a selected name
pub record SelectedTree : Type 0 where
  pub at : ℕ
  pub name : List ℕ

pub data StatementTree : Type 0 where
  annotated : (statement : AnnotatedTree) → StatementTree
  include : (at : ℕ) (file : List ℕ) (only : Option (List SelectedTree)) → StatementTree
