use Rattle.std.proofs.Common.{◌≡◌, ◌<◌, ℕ, List, Bool, set, length, sym, subst, ap, arith}
use Rattle.sat_laws.specs.Internal.Packing.{packed}
use Rattle.sat_propagate.specs.Internal.Trail.{SetsValue}
use Rattle.sat_propagate.proofs.TableLaws.{byte_written, number_below}
use Rattle.sat_propagate.proofs.values.Values.set.Goals as goal

pub number_of-at-requires : goal.number_of-at-requires
number_of-at-requires c =
    let same : length c.self.inside.bytes.items ≡ length c.args.self.now = ap (λ (list : List Bool). length list) c.self.view_is in
    omega (arith, same, c.requires, c.len-made.ensures)

pub index_mut-requires : goal.index_mut-requires
index_mut-requires c =
    let same : length c.self.inside.bytes.items ≡ length c.args.self.now = ap (λ (list : List Bool). length list) c.self.view_is in
    let below = number_below c.args.literal in
    omega (arith, same, below, c.requires, c.number_of-at.ensures)

pub returns : goal.returns
returns c =
    let bytes = c.self.inside.bytes.items in
    let same : length bytes ≡ length c.args.self.now = ap (λ (list : List Bool). length list) c.self.view_is in
    let below = number_below c.args.literal in
    let within : packed c.args.literal < length bytes = omega (arith, same, below, c.requires) in
    subst (λ (n : ℕ). SetsValue c.args.self.now (set bytes n c.args.value) c.args.literal c.args.value) (sym c.number_of-at.ensures)
    (subst (λ (list : List Bool). SetsValue list (set bytes (packed c.args.literal) c.args.value) c.args.literal c.args.value) c.self.view_is (byte_written bytes c.args.literal c.args.value within))
