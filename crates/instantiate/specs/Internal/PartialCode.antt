-- A partial term as a list of nodes, by which contracts may compare values that hold partial terms: the parts before the whole. A node is
-- its kind, a number, a type and a term.
use Rattle.std.specs.Prelude.{◌≡◌, ℕ, zero, suc, List, [], ◌∷◌, refl}
use Rattle.std.proofs.Common.{ap, ◌∙◌}
use Rattle.std.specs.Coded.{Coded, code_by, coded_ℕ, coded_list, coded×}
use Rattle.stt_core.specs.SimpleType.{SimpleType, formula}
use Rattle.stt_core.specs.Internal.TypeCode.{type_code}
use Rattle.stt_core.specs.Lambda.{Lambda, bound}
use Rattle.stt_core.specs.Internal.LambdaCode.{lambda_code}
use Rattle.search_spec.specs.Partial.{Partial, hole, head, function, application}

abbrev pub PartialLabel : Type 0
PartialLabel = ℕ × (ℕ × (SimpleType × Lambda))

abbrev pub partial_labels : Partial → List PartialLabel → List PartialLabel
partial_labels (hole n) rest = (0, (n, (formula, bound 0))) ∷ rest
partial_labels (head h) rest = (1, (0, (formula, h))) ∷ rest
partial_labels (function a p) rest = partial_labels p ((2, (0, (a, bound 0))) ∷ rest)
partial_labels (application p q) rest = partial_labels p (partial_labels q ((3, (0, (formula, bound 0))) ∷ rest))

abbrev pub bind_partial : SimpleType → List Partial → List Partial
bind_partial a [] = []
bind_partial a (p ∷ stack) = function a p ∷ stack

abbrev pub join_partials : List Partial → List Partial
join_partials [] = []
join_partials (q ∷ []) = []
join_partials (q ∷ p ∷ stack) = application p q ∷ stack

abbrev pub read_partial_label : ℕ → ℕ → SimpleType → Lambda → List Partial → List Partial
read_partial_label zero n a h stack = hole n ∷ stack
read_partial_label (suc zero) n a h stack = head h ∷ stack
read_partial_label (suc (suc zero)) n a h stack = bind_partial a stack
read_partial_label (suc (suc (suc k))) n a h stack = join_partials stack

abbrev pub read_partial_labels : List PartialLabel → List Partial → List Partial
read_partial_labels [] stack = stack
read_partial_labels (n ∷ ns) stack = read_partial_labels ns (read_partial_label n.0 n.1.0 n.1.1.0 n.1.1.1 stack)

abbrev pub top_partial : List Partial → Partial
top_partial [] = hole 0
top_partial (p ∷ stack) = p

pub read-partial_labels :
    (p : Partial) (rest : List PartialLabel) (stack : List Partial)
    → read_partial_labels (partial_labels p rest) stack ≡ read_partial_labels rest (p ∷ stack)
read-partial_labels (hole n) rest stack = refl
read-partial_labels (head h) rest stack = refl
read-partial_labels (function a p) rest stack = read-partial_labels p ((2, (0, (a, bound 0))) ∷ rest) stack
read-partial_labels (application p q) rest stack =
    read-partial_labels p (partial_labels q ((3, (0, (formula, bound 0))) ∷ rest)) stack
    ∙ read-partial_labels q ((3, (0, (formula, bound 0))) ∷ rest) (p ∷ stack)

abbrev pub partial_code : Coded Partial
partial_code =
    code_by (List PartialLabel) (coded_list (coded× coded_ℕ (coded× coded_ℕ (coded× type_code lambda_code)))) (λ p. partial_labels p [])
    (λ ns. top_partial (read_partial_labels ns [])) (λ p. ap top_partial (read-partial_labels p [] []))
