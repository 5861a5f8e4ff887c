-- The files that are open.
use Rattle.std.specs.Prelude.{ℕ, List, [], ◌∷◌}
use Rattle.thf_include.specs.declared.chain.Chain.{Chain}
use Rattle.thf_include.specs.declared.chain.Chain.TheVariants.{Empty, File'}

-- their names, the innermost first
abbrev pub the_chain : Chain → List (List ℕ)
the_chain Empty = []
the_chain (File' name p outer) = name.now ∷ the_chain outer
