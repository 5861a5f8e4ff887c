-- A literal as a sign and a term, by which contracts may compare values that hold literals.
use Rattle.std.specs.Prelude.{Bool, refl}
use Rattle.std.specs.Coded.{Coded, code_by, coded_bool, coded×}
use Rattle.refute_print.specs.Trees.{TermTree, LiteralTree}
use Rattle.refute_print.specs.Internal.TreeCode.{term_tree_code}

abbrev pub literal_tree_code : Coded LiteralTree
literal_tree_code =
    code_by (Bool × TermTree) (coded× coded_bool term_tree_code) (λ l. (l.positive, l.atom)) (λ p. record { positive = p.0; atom = p.1 })
    (λ _. refl)
