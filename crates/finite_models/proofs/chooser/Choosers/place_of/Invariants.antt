use Rattle.std.proofs.Common.{◌≡◌, ◌<◌, ℕ, slice_get, Some}
use Rattle.finite_models.specs.Symbols.{Symbol}
use Rattle.finite_models.specs.ChooserView.{the_chooser}
use Rattle.finite_models.proofs.chooser.Choosers.place_of.Given as goal

abbrev pub invariant-loop-i : goal.invariant-loop-i
invariant-loop-i l = (j : ℕ) (x : Symbol) → j < l.i → slice_get l.self j ≡ Some x → (the_chooser l.chooser).constant ≡ x.constant → ⊥
