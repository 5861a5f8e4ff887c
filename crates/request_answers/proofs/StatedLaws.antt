-- What statements with printable names and modest types state has texts.
use Rattle.std.proofs.Common.{◌≡◌, List, Ok}
use Rattle.std.proofs.lemmas.List.Elements.{All-map, recursion_from_All}
use Rattle.stt_core.specs.PlainProblem.{PlainProblem}
use Rattle.thf_grammar.specs.Printable.{IsPrintable}
use Rattle.thf_include.specs.View.{PlacedTree}
use Rattle.type_check.specs.Statements.{problem_of}
use Rattle.type_check.specs.Internal.ProblemNames.{AllDeclared, AllNames}
use Rattle.type_check.proofs.TypedProblems.{problem_of-typed}
use Rattle.type_check.proofs.DeclaredNames.{problem_of-declares, problem_of-names_differ}
use Rattle.type_bound.specs.Modest.{IsModestProblem}
use Rattle.request_answers.specs.Names.{ArePrintable, names_in}
use Rattle.request_answers.specs.Internal.Texts.{HasTexts}

names_printable : (p : PlainProblem) → AllNames IsPrintable p.declared → ArePrintable (names_in p)
names_printable p h = record {
  bases = recursion_from_All IsPrintable p.declared.bases h.bases;
  constants = recursion_from_All IsPrintable (names_in p).constants (All-map IsPrintable (λ c. c.name) p.declared.consts h.consts);
}

pub stated_has_texts : (ss : List PlacedTree) (p : PlainProblem) → problem_of ss ≡ Ok p → IsModestProblem 1024 p → AllDeclared IsPrintable ss → HasTexts p
stated_has_texts ss p read modest printable =
    record { typed = problem_of-typed ss p read; modest = modest; printable = names_printable p (problem_of-declares IsPrintable ss p read printable); apart = problem_of-names_differ ss p read }
