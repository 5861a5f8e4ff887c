-- A type as a list of numbers, by which contracts may compare values that hold types: the nodes, the parts before the whole.
use Rattle.std.specs.Prelude.{◌≡◌, ℕ, suc, zero, List, [], ◌∷◌, refl}
use Rattle.std.proofs.Common.{ap, ◌∙◌}
use Rattle.std.specs.Coded.{Coded, code_by, coded_ℕ, coded_list}
use Rattle.stt_core.specs.SimpleType.{SimpleType, base, arrow}

abbrev pub type_labels : SimpleType → List ℕ → List ℕ
type_labels (base n) rest = suc n ∷ rest
type_labels (arrow a b) rest = type_labels a (type_labels b (0 ∷ rest))

abbrev pub join_type_stack : List SimpleType → List SimpleType
join_type_stack (b ∷ a ∷ stack) = arrow a b ∷ stack
join_type_stack (b ∷ []) = []
join_type_stack [] = []

abbrev pub read_type_labels : List ℕ → List SimpleType → List SimpleType
read_type_labels [] stack = stack
read_type_labels (zero ∷ ns) stack = read_type_labels ns (join_type_stack stack)
read_type_labels (suc n ∷ ns) stack = read_type_labels ns (base n ∷ stack)

abbrev pub top_of_types : List SimpleType → SimpleType
top_of_types [] = base 0
top_of_types (a ∷ stack) = a

pub read-type_labels :
    (a : SimpleType) (rest : List ℕ) (stack : List SimpleType)
    → read_type_labels (type_labels a rest) stack ≡ read_type_labels rest (a ∷ stack)
read-type_labels (base n) rest stack = refl
read-type_labels (arrow a b) rest stack = read-type_labels a (type_labels b (0 ∷ rest)) stack ∙ read-type_labels b (0 ∷ rest) (a ∷ stack)

abbrev pub type_code : Coded SimpleType
type_code =
    code_by (List ℕ) (coded_list coded_ℕ) (λ a. type_labels a []) (λ ns. top_of_types (read_type_labels ns []))
    (λ a. ap top_of_types (read-type_labels a [] []))
