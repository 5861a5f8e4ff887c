use Rattle.std.proofs.Common.{◌≡◌, ◌<◌, ℕ, [], length, slice_index}
use Rattle.stt_core.specs.ScopeView.{the_scope}
use Rattle.finite_models.specs.Symbols.{symbols_with}
use Rattle.finite_models.specs.Internal.Looking.{At, IsSizeOf}
use Rattle.finite_models.proofs.models.sizes_of.Given as goal

abbrev pub invariant-loop-i : goal.invariant-loop-i
invariant-loop-i l = record {
  count : length l.sizes.items ≡ l.i;
  each : (j : ℕ) → j < l.i → At (symbols_with (the_scope l.sig []) l.choosers) j (λ x. IsSizeOf l.s x.type (slice_index l.sizes.items j));
}
