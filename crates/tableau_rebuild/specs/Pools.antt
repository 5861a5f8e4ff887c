-- Terms and literals that were made of their numbers.
use Rattle.std.specs.Prelude.{◌≡◌, ℕ, List, map}
use Rattle.stt_core.specs.Lambda.{Lambda}
use Rattle.search_spec.specs.Numbered.{literal_at}
use Rattle.refute_share.specs.KnownTerms.{KnowsTerms}
use Rattle.tableau_rebuild.specs.Tables.{atoms_at}
use Rattle.tableau_rebuild.specs.declared.pool.Pool.{Pool}

-- The literals of the pool are those of its numbers, in their order, and its terms those of theirs.
pub record IsMadePool (terms : List Lambda) (atoms : List ℕ) (p : Pool) : Type 0 where
  pub lits : p.lits ≡ map (literal_at (atoms_at terms atoms)) p.numbers.keys
  pub known : KnowsTerms terms p.terms
