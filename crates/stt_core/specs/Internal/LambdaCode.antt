-- A term as a list of nodes, by which contracts may compare values that hold terms: the parts before the whole. A node is its kind,
-- a number and a type.
use Rattle.std.specs.Prelude.{◌≡◌, ℕ, zero, suc, List, [], ◌∷◌, refl}
use Rattle.std.proofs.Common.{ap, ◌∙◌}
use Rattle.std.specs.Coded.{Coded, code_by, coded_ℕ, coded_list, coded×}
use Rattle.stt_core.specs.SimpleType.{SimpleType, formula}
use Rattle.stt_core.specs.Internal.TypeCode.{type_code}
use Rattle.stt_core.specs.Lambda.{Constant, name, witness, falsity, negation, implication, all, equality, choice, description, Lambda, bound, constant, lam, app}

abbrev pub LambdaLabel : Type 0
LambdaLabel = ℕ × (ℕ × SimpleType)

abbrev pub constant_label : Constant → LambdaLabel
constant_label (name k) = (0, (k, formula))
constant_label (witness k) = (1, (k, formula))
constant_label falsity = (2, (0, formula))
constant_label negation = (3, (0, formula))
constant_label implication = (4, (0, formula))
constant_label (all a) = (5, (0, a))
constant_label (equality a) = (6, (0, a))
constant_label (choice a) = (7, (0, a))
constant_label (description a) = (8, (0, a))

abbrev pub lambda_labels : Lambda → List LambdaLabel → List LambdaLabel
lambda_labels (constant c) rest = constant_label c ∷ rest
lambda_labels (bound k) rest = (9, (k, formula)) ∷ rest
lambda_labels (lam a s) rest = lambda_labels s ((10, (0, a)) ∷ rest)
lambda_labels (app s u) rest = lambda_labels s (lambda_labels u ((11, (0, formula)) ∷ rest))

abbrev pub bind_lambda : SimpleType → List Lambda → List Lambda
bind_lambda a [] = []
bind_lambda a (s ∷ stack) = lam a s ∷ stack

abbrev pub join_lambdas : List Lambda → List Lambda
join_lambdas [] = []
join_lambdas (u ∷ []) = []
join_lambdas (u ∷ s ∷ stack) = app s u ∷ stack

abbrev pub read_lambda_label : ℕ → ℕ → SimpleType → List Lambda → List Lambda
read_lambda_label zero k a stack = constant (name k) ∷ stack
read_lambda_label (suc zero) k a stack = constant (witness k) ∷ stack
read_lambda_label (suc (suc zero)) k a stack = constant falsity ∷ stack
read_lambda_label (suc (suc (suc zero))) k a stack = constant negation ∷ stack
read_lambda_label (suc (suc (suc (suc zero)))) k a stack = constant implication ∷ stack
read_lambda_label (suc (suc (suc (suc (suc zero))))) k a stack = constant (all a) ∷ stack
read_lambda_label (suc (suc (suc (suc (suc (suc zero)))))) k a stack = constant (equality a) ∷ stack
read_lambda_label (suc (suc (suc (suc (suc (suc (suc zero))))))) k a stack = constant (choice a) ∷ stack
read_lambda_label (suc (suc (suc (suc (suc (suc (suc (suc zero)))))))) k a stack = constant (description a) ∷ stack
read_lambda_label (suc (suc (suc (suc (suc (suc (suc (suc (suc zero))))))))) k a stack = bound k ∷ stack
read_lambda_label (suc (suc (suc (suc (suc (suc (suc (suc (suc (suc zero)))))))))) k a stack = bind_lambda a stack
read_lambda_label (suc (suc (suc (suc (suc (suc (suc (suc (suc (suc (suc n))))))))))) k a stack = join_lambdas stack

abbrev pub read_lambda_labels : List LambdaLabel → List Lambda → List Lambda
read_lambda_labels [] stack = stack
read_lambda_labels (n ∷ ns) stack = read_lambda_labels ns (read_lambda_label n.0 n.1.0 n.1.1 stack)

abbrev pub top_lambda : List Lambda → Lambda
top_lambda [] = bound 0
top_lambda (t ∷ stack) = t

read_constant_node :
    (c : Constant) (rest : List LambdaLabel) (stack : List Lambda)
    → read_lambda_labels (constant_label c ∷ rest) stack ≡ read_lambda_labels rest (constant c ∷ stack)
read_constant_node (name k) rest stack = refl
read_constant_node (witness k) rest stack = refl
read_constant_node falsity rest stack = refl
read_constant_node negation rest stack = refl
read_constant_node implication rest stack = refl
read_constant_node (all a) rest stack = refl
read_constant_node (equality a) rest stack = refl
read_constant_node (choice a) rest stack = refl
read_constant_node (description a) rest stack = refl

pub read-lambda_labels :
    (t : Lambda) (rest : List LambdaLabel) (stack : List Lambda)
    → read_lambda_labels (lambda_labels t rest) stack ≡ read_lambda_labels rest (t ∷ stack)
read-lambda_labels (constant c) rest stack = read_constant_node c rest stack
read-lambda_labels (bound k) rest stack = refl
read-lambda_labels (lam a s) rest stack = read-lambda_labels s ((10, (0, a)) ∷ rest) stack
read-lambda_labels (app s u) rest stack =
    read-lambda_labels s (lambda_labels u ((11, (0, formula)) ∷ rest)) stack ∙ read-lambda_labels u ((11, (0, formula)) ∷ rest) (s ∷ stack)

abbrev pub lambda_code : Coded Lambda
lambda_code =
    code_by (List LambdaLabel) (coded_list (coded× coded_ℕ (coded× coded_ℕ type_code))) (λ t. lambda_labels t [])
    (λ ns. top_lambda (read_lambda_labels ns [])) (λ t. ap top_lambda (read-lambda_labels t [] []))
