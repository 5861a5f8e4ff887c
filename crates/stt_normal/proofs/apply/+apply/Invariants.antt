use Rattle.std.proofs.Common.{◌≡◌, ◌+◌, map, take, drop}
use Rattle.stt_core.specs.View.{the_type, the_head}
use Rattle.normal_forms.specs.Normal.{ways, ways_of, replace}
use Rattle.normal_forms.specs.Internal.Applying.{body_under}
use Rattle.normal_forms.proofs.Prices.{price, price_all, prices}
use Rattle.stt_normal.proofs.apply.+apply.Given as goal

abbrev pub decreases-replace_nf : goal.decreases-replace_nf
decreases-replace_nf l =
    2 + price (ways (the_type l.ty.now)) (prices (the_type l.ty.now)) l.k l.r.now (body_under l.skip l.nf.now)

abbrev pub decreases-replace_head : goal.decreases-replace_head
decreases-replace_head l =
    let a = the_type l.ty.now in
    let h = the_head l.head.now in
    1 + price_all (ways_of (ways a) l.k h) (ways_of (prices a) l.k h) (replace (ways a) l.k l.r.now h) l.args

abbrev pub decreases-apply_all : goal.decreases-apply_all
decreases-apply_all l = price_all (ways (the_type l.ty.now)) (prices (the_type l.ty.now)) l.f (drop l.i l.args.now)

abbrev pub invariant-replace_nf-loop-i : goal.invariant-replace_nf-loop-i
invariant-replace_nf-loop-i l = l.args ≡ map (replace (ways (the_type l.ty)) l.inner l.r) (take l.i l.nf-inside.args)
