-- Formulas, after the syntax of the TPTP, with the depth of each token.
--
--     formula  = unit | unit nonassoc unit | unit "|" unit {"|" unit} | unit "&" unit {"&" unit} | apply
--     apply    = (unitary | "!!" | "??") "@" operand {"@" operand}
--     operand  = unitary | neg
--     unit     = unitary | neg | primary ("=" | "!=") unitary
--     neg      = "~" (unitary | neg)
--     unitary  = primary | binder
--     primary  = name | Upper | "$true" | "$false" | "(" formula ")" | "(" conn ")"
--     conn     = "~" | "&" | "|" | nonassoc
--     nonassoc = "=>" | "<=" | "<=>" | "<~>" | "~|" | "~&"
--     binder   = ("!" | "?" | "^") "[" var {"," var} "]" ":" unit | ("@+" | "@-") "[" var "]" ":" unit
--
-- Each relation has the number of things that are open before, the tokens, the tree that they begin with, and the tokens behind it.
-- What is open: a `(` or `[` until its close, a `~` until its operand ends, a variable of a binder until the binder's body ends, and
-- each `@`, `&` and `|` of a chain until the chain ends.
use Rattle.std.specs.Prelude.{◌≡◌, ℕ, suc, Bool, true, false, List, [], ◌∷◌}
use Rattle.thf_grammar.specs.Trees.{VarTree, FormulaTree, constant, variable, truth, operator, negation, binary, equation, application, quantified, binding}
use Rattle.thf_grammar.specs.declared.connective.Conn.{Conn}
use Rattle.thf_grammar.specs.declared.connective.Conn.TheVariants.{Not, And, Or}
use Rattle.thf_grammar.specs.declared.connective.Binder.{Binder}
use Rattle.thf_grammar.specs.declared.connective.Binder.TheVariants.{All, Exists, Lam, Choice, Desc}
use Rattle.thf_grammar.specs.declared.terminal.Mark.TheVariants.{Open, Close, OpenList, CloseList, Comma, Colon, At}
use Rattle.thf_grammar.specs.declared.terminal.Terminal.TheVariants as terminal
use Rattle.thf_grammar.specs.Words.{Word, place, name, Is, IsName}
use Rattle.thf_grammar.specs.Types.{IsVar}

-- a connective whose chains have any number of operands
abbrev pub is_chained : Conn → Bool
is_chained And = true
is_chained Or = true
is_chained _ = false

-- a connective that stands between two operands and no more
abbrev pub is_nonassoc : Conn → Bool
is_nonassoc Not = false
is_nonassoc And = false
is_nonassoc Or = false
is_nonassoc _ = true

-- a binder that takes any number of variables
abbrev pub binds_many : Binder → Bool
binds_many All = true
binds_many Exists = true
binds_many Lam = true
binds_many Choice = false
binds_many Desc = false

-- the depth of a connective alone in parentheses, by the depth of its parentheses: a `~` is open at its own token
abbrev pub lone_depth : Conn → ℕ → ℕ
lone_depth Not d = suc d
lone_depth _ d = d

-- The variables of a binder, inside their brackets; more than one only where the binder takes any number. Each is open from then on: the
-- second number is how many things are open behind them.
pub data AreVars (b : Binder) : ℕ → List Word → List VarTree → ℕ → List Word → Type 0 where
  last_var : (d : ℕ) (ws rest : List Word) (v : VarTree) → IsVar (suc (suc d)) ws v rest → AreVars b d ws (v ∷ []) (suc d) rest
  more_vars :
      (d e : ℕ) (ws behind rest : List Word) (w : Word) (v : VarTree) (vs : List VarTree)
      → IsVar (suc (suc d)) ws v (w ∷ behind)
      → binds_many b ≡ true
      → Is (terminal.Mark Comma) (suc (suc d)) w
      → AreVars b (suc d) behind vs e rest
      → AreVars b d ws (v ∷ vs) e rest

mutual
  pub data IsFormulaText : ℕ → List Word → FormulaTree → List Word → Type 0 where
    unit_formula : (d : ℕ) (ws rest : List Word) (t : FormulaTree) → IsUnit d ws t rest → IsFormulaText d ws t rest
    pair_formula :
        (d : ℕ) (ws right rest : List Word) (w : Word) (c : Conn) (t u : FormulaTree)
        → IsUnit d ws t (w ∷ right)
        → Is (terminal.Conn c) d w
        → is_nonassoc c ≡ true
        → IsUnit d right u rest
        → IsFormulaText d ws (binary (place w) c t u) rest
    chain_formula :
        (d : ℕ) (ws right behind rest : List Word) (w : Word) (c : Conn) (t u v : FormulaTree)
        → IsUnit d ws t (w ∷ right)
        → Is (terminal.Conn c) (suc d) w
        → is_chained c ≡ true
        → IsUnit (suc d) right u behind
        → AreLinks c (suc d) (binary (place w) c t u) behind v rest
        → IsFormulaText d ws v rest
    apply_formula :
        (d : ℕ) (ws right behind rest : List Word) (w : Word) (t u v : FormulaTree)
        → IsUnitary d ws t (w ∷ right)
        → Is (terminal.Mark At) (suc d) w
        → IsOperand (suc d) right u behind
        → AreArguments (suc d) (application (place w) t u) behind v rest
        → IsFormulaText d ws v rest
    quantified_formula :
        (d : ℕ) (q w : Word) (right behind rest : List Word) (all : Bool) (u v : FormulaTree)
        → Is (terminal.Quant all) d q
        → Is (terminal.Mark At) (suc d) w
        → IsOperand (suc d) right u behind
        → AreArguments (suc d) (quantified (place w) all u) behind v rest
        → IsFormulaText d (q ∷ w ∷ right) v rest

  -- any number of further operands of a chain, behind the tree of those before
  pub data AreLinks : Conn → ℕ → FormulaTree → List Word → FormulaTree → List Word → Type 0 where
    no_links : (c : Conn) (d : ℕ) (t : FormulaTree) (rest : List Word) → AreLinks c d t rest t rest
    more_links :
        (c : Conn) (d : ℕ) (t u v : FormulaTree) (w : Word) (right behind rest : List Word)
        → Is (terminal.Conn c) (suc d) w
        → IsUnit (suc d) right u behind
        → AreLinks c (suc d) (binary (place w) c t u) behind v rest
        → AreLinks c d t (w ∷ right) v rest

  -- any number of further arguments, behind the tree of what is applied
  pub data AreArguments : ℕ → FormulaTree → List Word → FormulaTree → List Word → Type 0 where
    no_arguments : (d : ℕ) (t : FormulaTree) (rest : List Word) → AreArguments d t rest t rest
    more_arguments :
        (d : ℕ) (t u v : FormulaTree) (w : Word) (right behind rest : List Word)
        → Is (terminal.Mark At) (suc d) w
        → IsOperand (suc d) right u behind
        → AreArguments (suc d) (application (place w) t u) behind v rest
        → AreArguments d t (w ∷ right) v rest

  pub data IsUnit : ℕ → List Word → FormulaTree → List Word → Type 0 where
    unitary_unit : (d : ℕ) (ws rest : List Word) (t : FormulaTree) → IsUnitary d ws t rest → IsUnit d ws t rest
    negation_unit : (d : ℕ) (ws rest : List Word) (t : FormulaTree) → IsNegation d ws t rest → IsUnit d ws t rest
    equation_unit :
        (d : ℕ) (ws right rest : List Word) (w : Word) (positive : Bool) (t u : FormulaTree)
        → IsPrimary d ws t (w ∷ right)
        → Is (terminal.Equality positive) d w
        → IsUnitary d right u rest
        → IsUnit d ws (equation (place w) positive t u) rest

  pub data IsOperand : ℕ → List Word → FormulaTree → List Word → Type 0 where
    unitary_operand : (d : ℕ) (ws rest : List Word) (t : FormulaTree) → IsUnitary d ws t rest → IsOperand d ws t rest
    negation_operand : (d : ℕ) (ws rest : List Word) (t : FormulaTree) → IsNegation d ws t rest → IsOperand d ws t rest

  pub data IsNegation : ℕ → List Word → FormulaTree → List Word → Type 0 where
    negated :
        (d : ℕ) (w : Word) (inside rest : List Word) (t : FormulaTree)
        → Is (terminal.Conn Not) (suc d) w
        → IsOperand (suc d) inside t rest
        → IsNegation d (w ∷ inside) (negation (place w) t) rest

  pub data IsUnitary : ℕ → List Word → FormulaTree → List Word → Type 0 where
    primary_unitary : (d : ℕ) (ws rest : List Word) (t : FormulaTree) → IsPrimary d ws t rest → IsUnitary d ws t rest
    binder_unitary : (d : ℕ) (ws rest : List Word) (t : FormulaTree) → IsBinder d ws t rest → IsUnitary d ws t rest

  pub data IsPrimary : ℕ → List Word → FormulaTree → List Word → Type 0 where
    constant_primary : (d : ℕ) (w : Word) (rest : List Word) → IsName d w → IsPrimary d (w ∷ rest) (constant (place w) (name w)) rest
    variable_primary :
        (d : ℕ) (w : Word) (rest : List Word) → Is terminal.Upper d w → IsPrimary d (w ∷ rest) (variable (place w) (name w)) rest
    truth_primary :
        (d : ℕ) (w : Word) (rest : List Word) (value : Bool)
        → Is (terminal.Truth value) d w
        → IsPrimary d (w ∷ rest) (truth (place w) value) rest
    group_primary :
        (d : ℕ) (w v : Word) (inside rest : List Word) (t : FormulaTree)
        → Is (terminal.Mark Open) (suc d) w
        → IsFormulaText (suc d) inside t (v ∷ rest)
        → Is (terminal.Mark Close) (suc d) v
        → IsPrimary d (w ∷ inside) t rest
    operator_primary :
        (d : ℕ) (w o v : Word) (rest : List Word) (c : Conn)
        → Is (terminal.Mark Open) (suc d) w
        → Is (terminal.Conn c) (lone_depth c (suc d)) o
        → Is (terminal.Mark Close) (suc d) v
        → IsPrimary d (w ∷ o ∷ v ∷ rest) (operator (place o) c) rest

  pub data IsBinder : ℕ → List Word → FormulaTree → List Word → Type 0 where
    bound :
        (d e : ℕ) (w opening closing colon : Word) (ws body rest : List Word) (b : Binder) (vs : List VarTree) (t : FormulaTree)
        → Is (terminal.Binder b) d w
        → Is (terminal.Mark OpenList) (suc d) opening
        → AreVars b d ws vs e (closing ∷ colon ∷ body)
        → Is (terminal.Mark CloseList) (suc e) closing
        → Is (terminal.Mark Colon) e colon
        → IsUnit e body t rest
        → IsBinder d (w ∷ opening ∷ ws) (binding (place w) b vs t) rest
