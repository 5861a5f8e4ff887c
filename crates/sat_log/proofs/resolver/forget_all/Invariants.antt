use Rattle.std.proofs.Common.{◌≡◌, None, take}
use Rattle.std.specs.Prelude.{if◌then◌else◌}
use Rattle.std.specs.List.{list_any}
use Rattle.sat_base.specs.declared.literal.SatLit.{SatLit}
use Rattle.sat_base.specs.Literal.{same_literal}
use Rattle.sat_log.specs.Internal.Stamps.{stamp_of}
use Rattle.sat_log.proofs.resolver.forget_all.Given as goal

abbrev pub invariant-loop-p : goal.invariant-loop-p
invariant-loop-p l = (m : SatLit) → stamp_of l.table m ≡ (if list_any (λ p. same_literal p.literal m) (take l.p-index l.placed) then None else stamp_of l.fn.table m)
