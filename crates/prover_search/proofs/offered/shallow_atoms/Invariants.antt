use Rattle.std.proofs.Common.{◌≡◌, ◌<◌, length, map, take}
use Rattle.std.specs.Prelude.{filter}
use Rattle.std.specs.List.{All}
use Rattle.literal_map.specs.Atoms.{bank_literal}
use Rattle.term_bank.specs.Terms.{term_at}
use Rattle.search_spec.specs.Shallow.{is_shallow_literal}
use Rattle.prover_search.proofs.offered.shallow_atoms.Given as goal

-- the atoms are those of the first literals
abbrev pub invariant-loop-i : goal.invariant-loop-i
invariant-loop-i l = record {
  within : All (λ id. id < length l.basis.bank.terms) l.atoms.items;
  atoms : map (term_at l.basis.bank.terms) l.atoms.items ≡ map (λ x. x.atom) (filter is_shallow_literal (map (bank_literal l.basis.bank.terms l.basis.lits) (take l.i l.start)));
}
