use Rattle.std.proofs.Common.{◌≡◌, ◌<◌, ◌↔◌, ℕ, length}
use Rattle.finite_models.specs.Candidates.{IsLawful}
use Rattle.finite_models.specs.ChooserView.{the_chooser}
use Rattle.finite_models.specs.Internal.Search.{IsAllowed}
use Rattle.finite_models.proofs.models.lawful_values.Given as goal

abbrev pub invariant-loop-v : goal.invariant-loop-v
invariant-loop-v l = record {
  count : length l.allowed.items ≡ l.v;
  each : (w : ℕ) → w < l.v → IsAllowed l.allowed.items w ↔ IsLawful l.s (the_chooser l.chooser).constant w;
}
