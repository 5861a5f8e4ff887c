-- The names that a problem declares.
use Rattle.std.specs.List.{AllByRecursion}
use Rattle.stt_core.specs.PlainProblem.{PlainProblem}
use Rattle.thf_grammar.specs.Printable.{IsPrintable}
use Rattle.refute_print.specs.Named.{Names, names_of}

-- the names that a problem declares, as the texts of refutations have them
abbrev pub names_in : PlainProblem → Names
names_in p = names_of p.declared.bases p.declared.consts

pub record ArePrintable (names : Names) : Type 0 where
  pub bases : AllByRecursion IsPrintable names.bases
  pub constants : AllByRecursion IsPrintable names.constants
