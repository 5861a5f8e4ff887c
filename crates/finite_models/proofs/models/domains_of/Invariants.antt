use Rattle.std.proofs.Common.{◌≡◌, ℕ, [], List, Bool, length, slice_get, Some}
use Rattle.stt_core.specs.ScopeView.{the_scope}
use Rattle.finite_models.specs.Symbols.{symbols_with}
use Rattle.finite_models.specs.Internal.Looking.{At, IsDomain}
use Rattle.finite_models.proofs.models.domains_of.Given as goal

abbrev pub invariant-loop-i : goal.invariant-loop-i
invariant-loop-i l = record {
  count : length l.domains ≡ l.i;
  each : (j : ℕ) (d : List Bool) → slice_get l.domains j ≡ Some d → At (symbols_with (the_scope l.sig []) l.choosers) j (λ x. IsDomain l.s x d);
}
