use Rattle.std.proofs.Common.{◌≡◌, drop}
use Rattle.normal_forms.specs.Normal.{apply_each}
use Rattle.normal_forms.specs.Ready.{ArgumentsApply}
use Rattle.stt_normal.proofs.normal.apply_in_turn.Given as goal

abbrev pub invariant-loop-i : goal.invariant-loop-i
invariant-loop-i l = ArgumentsApply l.f (drop l.i l.args) × (apply_each l.f (drop l.i l.args) ≡ apply_each l.initial.f l.args)
