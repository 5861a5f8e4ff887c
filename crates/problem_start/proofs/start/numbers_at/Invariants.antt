use Rattle.std.proofs.Common.{map, take}
use Rattle.std.specs.Prelude.{All}
use Rattle.term_bank.specs.Content.{Grows, content_scope}
use Rattle.bank_normal.specs.Forms.{forms_in}
use Rattle.bank_normal.specs.Right.{IsRightNormaliser}
use Rattle.literal_map.specs.Atoms.{IsAtom, Begins}
use Rattle.problem_start.specs.Unfolds.{normal_literal_by, formulas_at, AreStartNumbers}
use Rattle.problem_start.proofs.start.numbers_at.Given as goal

abbrev pub invariant-loop-j : goal.invariant-loop-j
invariant-loop-j l = record {
  grows : Grows l.fn.bank l.bank;
  right : IsRightNormaliser l.normal l.bank;
  begins : Begins l.fn.lits l.lits;
  atoms : All (IsAtom l.bank) l.lits;
  numbers : AreStartNumbers l.bank l.lits (map (normal_literal_by (content_scope l.fn.bank) (forms_in l.fn.bank.terms l.forms)) (formulas_at l.formulas (take l.j l.places))) l.numbers.items;
}
