use Rattle.sat_propagate.proofs.RecentLaws.{has_bits_written}
use Rattle.sat_propagate.proofs.recent.Recent.keep.Goals as goal

pub returns-clause-kept : goal.returns-clause-kept
returns-clause-kept c =
    has_bits_written c.make_blocks.new.self.blocks.items c.store.new.numbers.items c.min-place.result c.args.bits c.args.clause c.index_mut-block.result.now
    c.in_ok-make_blocks.ensures.made c.ranges.bits.fits c.in_ok-store.ensures
