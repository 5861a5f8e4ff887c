use Rattle.std.proofs.Common.{◌≡◌, ◌+◌, ◌≤◌, length, take}
use Rattle.plain_tableau.specs.Internal.Due.{IsPath}
use Rattle.plain_tableau.proofs.path.Path.truncate.Given as goal

abbrev pub invariant-loop-i : goal.invariant-loop-i
invariant-loop-i l = record {
  path : IsPath l.count l.steps l.used l.self;
  keys : l.self.literals.keys ≡ take (length l.self.literals.keys) l.fn.self.literals.keys;
  left : length l.self.literals.keys + l._i ≡ length l.fn.self.literals.keys + l.fn.len;
}
