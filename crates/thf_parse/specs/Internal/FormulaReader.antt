-- How the reader goes through a formula.
use Rattle.std.specs.Prelude.{ℕ, zero, suc, Bool, true, false, List, [], ◌∷◌, ◌++◌, Option, Some, None, if◌then◌else◌}
use Rattle.thf_grammar.specs.Trees.{TypeTree, indiv, VarTree, FormulaTree, constant, variable, truth, operator, negation, binary, equation, application, quantified, binding}
use Rattle.thf_grammar.specs.declared.connective.Conn.{Conn}
use Rattle.thf_grammar.specs.declared.connective.Conn.TheVariants.{Not, And, Or}
use Rattle.thf_grammar.specs.declared.connective.Binder.{Binder}
use Rattle.thf_grammar.specs.declared.terminal.Mark.TheVariants.{Open, Close, OpenList, CloseList, Comma, Colon, At}
use Rattle.thf_grammar.specs.declared.terminal.Terminal.{Terminal}
use Rattle.thf_grammar.specs.declared.terminal.Terminal.TheVariants as terminal
use Rattle.thf_grammar.specs.Formulas.{binds_many}
use Rattle.thf_parse.specs.Internal.Outcome.{found, wrong, Reader, ◌>>=◌, first_terminal, place_of_first, first_name, lexemes_behind, expect, enter}
use Rattle.thf_parse.specs.Internal.Reader.{type_with, inner_type}

-- the readers of one level: of types; of units, of operands, and of what stands behind a `(`; of the further operands of a chain, and of
-- the further arguments; of the rest of a binder from a variable on, where its variables before are given
pub record Readers : Type 0 where
  pub type : Reader TypeTree
  pub unit : Reader FormulaTree
  pub operand : Reader FormulaTree
  pub grouped : Reader FormulaTree
  pub links : Conn → FormulaTree → Reader FormulaTree
  pub arguments : FormulaTree → Reader FormulaTree
  pub bound : Binder → ℕ → List VarTree → Reader FormulaTree

abbrev pub Inside : Type 0
Inside = Option Readers

abbrev pub var : ℕ → List ℕ → TypeTree → VarTree
var at name ty = record { at = at; name = name; ty = ty }

-- a variable that begins with its name
abbrev pub typed_by : Reader TypeTree → ℕ → List ℕ → Terminal → Reader VarTree
typed_by type at name (terminal.Mark Colon) ts = type (lexemes_behind ts) >>= λ t rest. found (var at name t) rest
typed_by type at name _ ts = found (var at name (indiv at)) ts

unfoldable pub variable_at : Reader TypeTree → Reader VarTree
variable_at type ts = typed_by type (place_of_first ts) (first_name ts) (first_terminal (lexemes_behind ts)) (lexemes_behind ts)

abbrev pub negation_at : Inside → Reader FormulaTree
negation_at inside ts = enter inside ts (λ r. r.operand (lexemes_behind ts) >>= λ t rest. found (negation (place_of_first ts) t) rest)

abbrev pub group_at : Inside → Reader FormulaTree
group_at inside ts = enter inside ts (λ r. r.grouped (lexemes_behind ts))

abbrev pub constant_reader : Reader FormulaTree
constant_reader ts = found (constant (place_of_first ts) (first_name ts)) (lexemes_behind ts)

abbrev pub variable_term_at : Reader FormulaTree
variable_term_at ts = found (variable (place_of_first ts) (first_name ts)) (lexemes_behind ts)

abbrev pub truth_at : Bool → Reader FormulaTree
truth_at value ts = found (truth (place_of_first ts) value) (lexemes_behind ts)

abbrev pub primary_by : Inside → Terminal → Reader FormulaTree
primary_by inside terminal.Lower ts = constant_reader ts
primary_by inside terminal.Quoted ts = constant_reader ts
primary_by inside terminal.Upper ts = variable_term_at ts
primary_by inside (terminal.Truth value) ts = truth_at value ts
primary_by inside (terminal.Mark Open) ts = group_at inside ts
primary_by inside _ ts = wrong ts

unfoldable pub primary : Inside → Reader FormulaTree
primary inside ts = primary_by inside (first_terminal ts) ts

-- the next variable of a binder and what follows it
abbrev pub next_variable_by : Inside → Binder → ℕ → List VarTree → Terminal → Reader FormulaTree
next_variable_by inside b at vs terminal.Upper ts = enter inside ts (λ r. r.bound b at vs ts)
next_variable_by inside b at vs _ ts = wrong ts

unfoldable pub next_variable : Inside → Binder → ℕ → List VarTree → Reader FormulaTree
next_variable inside b at vs ts = next_variable_by inside b at vs (first_terminal ts) ts

abbrev pub bracket_by : Inside → Binder → ℕ → Terminal → Reader FormulaTree
bracket_by inside b at (terminal.Mark OpenList) ts = enter inside ts (λ r. next_variable inside b at [] (lexemes_behind ts))
bracket_by inside b at _ ts = wrong ts

unfoldable pub binder_at : Inside → Binder → Reader FormulaTree
binder_at inside b ts = bracket_by inside b (place_of_first ts) (first_terminal (lexemes_behind ts)) (lexemes_behind ts)

abbrev pub unitary_by : Inside → Terminal → Reader FormulaTree
unitary_by inside (terminal.Binder b) ts = binder_at inside b ts
unitary_by inside _ ts = primary inside ts

unfoldable pub unitary : Inside → Reader FormulaTree
unitary inside ts = unitary_by inside (first_terminal ts) ts

abbrev pub operand_by : Inside → Terminal → Reader FormulaTree
operand_by inside (terminal.Conn Not) ts = negation_at inside ts
operand_by inside _ ts = unitary inside ts

unfoldable pub operand : Inside → Reader FormulaTree
operand inside ts = operand_by inside (first_terminal ts) ts

-- the right side of an equation
unfoldable pub right_side : Inside → Bool → FormulaTree → Reader FormulaTree
right_side inside positive t ts = unitary inside (lexemes_behind ts) >>= λ u rest. found (equation (place_of_first ts) positive t u) rest

abbrev pub equated_by : Inside → FormulaTree → Terminal → Reader FormulaTree
equated_by inside t (terminal.Equality positive) ts = right_side inside positive t ts
equated_by inside t _ ts = found t ts

abbrev pub unit_by : Inside → Terminal → Reader FormulaTree
unit_by inside (terminal.Conn Not) ts = negation_at inside ts
unit_by inside (terminal.Binder b) ts = binder_at inside b ts
unit_by inside _ ts = primary inside ts >>= λ t rest. equated_by inside t (first_terminal rest) rest

unfoldable pub unit : Inside → Reader FormulaTree
unit inside ts = unit_by inside (first_terminal ts) ts

-- the next operand of a chain, and those behind it
abbrev pub next_link : Inside → Conn → FormulaTree → Reader FormulaTree
next_link inside c t ts = enter inside ts (λ r. r.unit (lexemes_behind ts) >>= λ u rest. r.links c (binary (place_of_first ts) c t u) rest)

abbrev pub is_link : Conn → Terminal → Bool
is_link And (terminal.Conn And) = true
is_link Or (terminal.Conn Or) = true
is_link _ _ = false

abbrev pub links_by : Inside → Conn → FormulaTree → Terminal → Reader FormulaTree
links_by inside c t x ts = if is_link c x then next_link inside c t ts else found t ts

unfoldable pub links : Inside → Conn → FormulaTree → Reader FormulaTree
links inside c t ts = links_by inside c t (first_terminal ts) ts

-- the next argument, and those behind it
abbrev pub next_argument : Inside → FormulaTree → Reader FormulaTree
next_argument inside t ts =
    enter inside ts (λ r. r.operand (lexemes_behind ts) >>= λ u rest. r.arguments (application (place_of_first ts) t u) rest)

abbrev pub arguments_by : Inside → FormulaTree → Terminal → Reader FormulaTree
arguments_by inside t (terminal.Mark At) ts = next_argument inside t ts
arguments_by inside t _ ts = found t ts

unfoldable pub arguments_behind : Inside → FormulaTree → Reader FormulaTree
arguments_behind inside t ts = arguments_by inside t (first_terminal ts) ts

-- the argument of `!!` or `??`, from its `@` on
abbrev pub quantified_reader : Inside → Bool → Terminal → Reader FormulaTree
quantified_reader inside all (terminal.Mark At) ts =
    enter inside ts (λ r. r.operand (lexemes_behind ts) >>= λ u rest. r.arguments (quantified (place_of_first ts) all u) rest)
quantified_reader inside all _ ts = wrong ts

unfoldable pub quantified_at : Inside → Bool → Reader FormulaTree
quantified_at inside all ts = quantified_reader inside all (first_terminal ts) ts

-- the second operand of a connective that has two
unfoldable pub second : Inside → Conn → FormulaTree → Reader FormulaTree
second inside c t ts = unit inside (lexemes_behind ts) >>= λ u rest. found (binary (place_of_first ts) c t u) rest

-- what follows the first unit of a formula
abbrev pub tail_by : Inside → FormulaTree → Terminal → Reader FormulaTree
tail_by inside t (terminal.Conn Not) ts = found t ts
tail_by inside t (terminal.Conn And) ts = links inside And t ts
tail_by inside t (terminal.Conn Or) ts = links inside Or t ts
tail_by inside t (terminal.Conn c) ts = second inside c t ts
tail_by inside t _ ts = found t ts

unfoldable pub tail : Inside → FormulaTree → Reader FormulaTree
tail inside t ts = tail_by inside t (first_terminal ts) ts

-- what follows a unitary formula at the beginning of a formula
abbrev pub applied_by : Inside → FormulaTree → Terminal → Reader FormulaTree
applied_by inside t (terminal.Mark At) ts = arguments_behind inside t ts
applied_by inside t _ ts = tail inside t ts

unfoldable pub applied_behind : Inside → FormulaTree → Reader FormulaTree
applied_behind inside t ts = applied_by inside t (first_terminal ts) ts

abbrev pub behind_primary_by : Inside → FormulaTree → Terminal → Reader FormulaTree
behind_primary_by inside t (terminal.Equality positive) ts = right_side inside positive t ts >>= λ u rest. tail inside u rest
behind_primary_by inside t _ ts = applied_behind inside t ts

unfoldable pub behind_primary : Inside → FormulaTree → Reader FormulaTree
behind_primary inside t ts = behind_primary_by inside t (first_terminal ts) ts

abbrev pub formula_by : Inside → Terminal → Reader FormulaTree
formula_by inside (terminal.Conn Not) ts = negation_at inside ts >>= λ t rest. tail inside t rest
formula_by inside (terminal.Quant all) ts = quantified_at inside all (lexemes_behind ts)
formula_by inside (terminal.Binder b) ts = binder_at inside b ts >>= λ t rest. applied_behind inside t rest
formula_by inside _ ts = primary inside ts >>= λ t rest. behind_primary inside t rest

unfoldable pub formula_reader : Inside → Reader FormulaTree
formula_reader inside ts = formula_by inside (first_terminal ts) ts

-- a formula, where a `)` stands behind it
abbrev pub closed : FormulaTree → Reader FormulaTree
closed t ts = expect Close ts >>= λ _ after. found t after

-- a connective alone, up to the `)` behind it
unfoldable pub lone : Conn → Reader FormulaTree
lone c ts = expect Close (lexemes_behind ts) >>= λ _ after. found (operator (place_of_first ts) c) after

-- what is negated behind `(` `~` and what follows it, up to the `)`
abbrev pub negated_operand : Inside → ℕ → Reader FormulaTree
negated_operand inside at ts = enter inside ts (λ r. r.operand ts >>= λ t mid. tail inside (negation at t) mid >>= λ u rest. closed u rest)

abbrev pub negated_by : Inside → ℕ → Terminal → Reader FormulaTree
negated_by inside at (terminal.Mark Close) ts = found (operator at Not) (lexemes_behind ts)
negated_by inside at _ ts = negated_operand inside at ts

-- what stands behind a `(` and begins with a `~`, up to the `)`
abbrev pub negated_at : Inside → Reader FormulaTree
negated_at inside ts = enter inside ts (λ r. negated_by inside (place_of_first ts) (first_terminal (lexemes_behind ts)) (lexemes_behind ts))

-- what stands behind a `(`, up to its `)`
abbrev pub grouped_by : Inside → Terminal → Reader FormulaTree
grouped_by inside (terminal.Conn Not) ts = negated_at inside ts
grouped_by inside (terminal.Conn c) ts = lone c ts
grouped_by inside _ ts = formula_reader inside ts >>= λ t rest. closed t rest

unfoldable pub grouped : Inside → Reader FormulaTree
grouped inside ts = grouped_by inside (first_terminal ts) ts

-- what follows a variable of a binder: a further one, or the body
unfoldable pub body : Inside → Binder → ℕ → List VarTree → Reader FormulaTree
body inside b at vs ts = expect Colon ts >>= λ _ mid. unit inside mid >>= λ t rest. found (binding at b vs t) rest

abbrev pub bound_by : Inside → Binder → ℕ → List VarTree → Terminal → Reader FormulaTree
bound_by inside b at vs (terminal.Mark Comma) ts = if binds_many b then next_variable inside b at vs (lexemes_behind ts) else wrong ts
bound_by inside b at vs (terminal.Mark CloseList) ts = body inside b at vs (lexemes_behind ts)
bound_by inside b at vs _ ts = wrong ts

unfoldable pub behind_variable : Inside → Binder → ℕ → List VarTree → Reader FormulaTree
behind_variable inside b at vs ts = bound_by inside b at vs (first_terminal ts) ts

-- the rest of a binder from a variable on that is counted
unfoldable pub bound : Inside → Binder → ℕ → List VarTree → Reader FormulaTree
bound inside b at vs ts = enter inside ts (λ r. variable_at r.type ts >>= λ v rest. behind_variable inside b at (vs ++ v ∷ []) rest)

abbrev pub readers : Reader TypeTree → Inside → Readers
readers type inside = record {
  type = type;
  unit = unit inside;
  operand = operand inside;
  grouped = grouped inside;
  links = links inside;
  arguments = arguments_behind inside;
  bound = bound inside;
}

-- the readers with room for one level less
unfoldable pub inner : ℕ → Inside
inner zero = None
inner (suc room) = Some (readers (type_with (inner_type room)) (inner room))
