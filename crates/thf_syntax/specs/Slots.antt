-- Where a formula stands inside another, and which formulas stand there without parentheses.
use Rattle.std.specs.Prelude.{Bool, true, false}
use Rattle.thf_grammar.specs.Trees.{TypeTree, form, indiv, named, arrow, FormulaTree, constant, variable, truth, operator, negation, binary, equation, application, quantified, binding}
use Rattle.thf_grammar.specs.declared.connective.Conn.{Conn}
use Rattle.thf_grammar.specs.declared.connective.Conn.TheVariants.{And, Or}
use Rattle.thf_syntax.specs.declared.slot.Slot.{Slot}
use Rattle.thf_syntax.specs.declared.slot.Slot.TheVariants.{Primary, Unitary, Head, Member, Conjunction, Disjunction}

-- where the left operand of a connective stands
abbrev pub left_slot : Conn → Slot
left_slot And = Conjunction
left_slot Or = Disjunction
left_slot _ = Member

abbrev pub takes_binding : Slot → Bool
takes_binding Primary = false
takes_binding _ = true

abbrev pub takes_negation : Slot → Bool
takes_negation Primary = false
takes_negation Unitary = false
takes_negation Head = false
takes_negation _ = true

abbrev pub takes_equation : Slot → Bool
takes_equation Member = true
takes_equation Conjunction = true
takes_equation Disjunction = true
takes_equation _ = false

abbrev pub takes_application : Slot → Bool
takes_application Head = true
takes_application _ = false

abbrev pub takes_conjunction : Slot → Bool
takes_conjunction Conjunction = true
takes_conjunction _ = false

abbrev pub takes_disjunction : Slot → Bool
takes_disjunction Disjunction = true
takes_disjunction _ = false

abbrev pub takes_binary : Conn → Slot → Bool
takes_binary And slot = takes_conjunction slot
takes_binary Or slot = takes_disjunction slot
takes_binary _ slot = false

-- the formula stands there without parentheses
abbrev pub takes : Slot → FormulaTree → Bool
takes slot (constant at name) = true
takes slot (variable at name) = true
takes slot (truth at value) = true
takes slot (operator at conn) = true
takes slot (negation at body) = takes_negation slot
takes slot (binary at conn left right) = takes_binary conn slot
takes slot (equation at positive left right) = takes_equation slot
takes slot (application at fun arg) = takes_application slot
takes slot (quantified at all arg) = takes_application slot
takes slot (binding at binder vars body) = takes_binding slot

-- a type that stands to the left of `>` without parentheses
abbrev pub is_simple : TypeTree → Bool
is_simple (form at) = true
is_simple (indiv at) = true
is_simple (named at name) = true
is_simple (arrow at from to) = false
