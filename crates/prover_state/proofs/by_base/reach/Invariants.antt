use Rattle.std.proofs.Common.{◌≡◌, ◌+◌, map, length}
use Rattle.prover_state.specs.Internal.ByBase.{listings}
use Rattle.prover_state.proofs.by_base.reach.Given as goal

-- the lists that were appended are empty
abbrev pub invariant-loop : goal.invariant-loop
invariant-loop l = record {
  same : listings 0 (map (λ v. v.items) l.lists.items) ≡ listings 0 (map (λ v. v.items) l.fn.lists.items);
  reached : length l.lists.items ≡ l.counter;
  number : l.n ≡ l.fn.n;
  end : l.end ≡ l.n + 1;
}
