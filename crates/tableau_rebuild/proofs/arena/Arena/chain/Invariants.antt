use Rattle.tableau_rebuild.specs.Internal.Arenas.{IsOnChain}
use Rattle.tableau_rebuild.proofs.arena.Arena.chain.Given as goal

abbrev pub invariant-loop-k : goal.invariant-loop-k
invariant-loop-k l = IsOnChain l.steps l.log l.fn.self l.self l.n l.k l.resolver l.standing
