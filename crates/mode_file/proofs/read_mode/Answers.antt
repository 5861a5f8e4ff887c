use Rattle.std.proofs.Common.{◌∙◌, inl, inr, refl, sym}
use Rattle.mode_file.proofs.FileLaws.{one_more_read, all_in_range}
use Rattle.mode_file.proofs.read_mode.Goals as goal

pub loop-split-preserved-in-Ok : goal.loop-split-preserved-in-Ok
loop-split-preserved-in-Ok c =
    let set = c.in-Ok.ensures in
    one_more_read _ _ c.in-Some.split.front.now _ _ _ _ c.loop-split.invariant c.in-Some.ensures.line c.in-Some.ensures.shorter
    (inr (record { key = c.in-Ok.setting.key; n = c.in-Ok.setting.number; sets = set.0; is_new = set.1; in_range = set.2; after_is = c.set.ensures }))

pub loop-split-preserved : goal.loop-split-preserved
loop-split-preserved c =
    one_more_read _ _ c.in-Some.split.front.now _ _ _ _ c.loop-split.invariant c.in-Some.ensures.line c.in-Some.ensures.shorter
    (inl (sym c.says_nothing.ensures ∙ c.if-not-says_nothing.false, refl))

pub returns-clause-in_range : goal.returns-clause-in_range
returns-clause-in_range c = all_in_range _ _ _ _ _ c.loop-split.invariant c.mode.ensures
