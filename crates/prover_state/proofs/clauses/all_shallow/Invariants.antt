use Rattle.std.proofs.Common.{◌≡◌, map, drop}
use Rattle.std.specs.List.{list_all}
use Rattle.search_spec.specs.Shallow.{is_shallow_literal}
use Rattle.literal_map.specs.Atoms.{bank_literal}
use Rattle.prover_state.proofs.clauses.all_shallow.Given as goal

-- what is left to test tells
abbrev pub invariant-loop-i : goal.invariant-loop-i
invariant-loop-i l = list_all (list_all is_shallow_literal) (map (map (bank_literal l.bank.terms l.lits)) (drop l.i l.lists)) ≡ list_all (list_all is_shallow_literal) (map (map (bank_literal l.bank.terms l.lits)) l.lists)
