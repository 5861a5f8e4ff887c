use Rattle.std.proofs.Common.{◌∙◌}
use Rattle.term_bank.specs.declared.bank.Bank.TheInside.{Inside}
use Rattle.term_bank.proofs.CopyLaws.{same_content, sound_copy}
use Rattle.term_bank.proofs.bank.Bank.try_clone.Goals as goal

pub invariant_of-result : goal.invariant_of-result
invariant_of-result c =
    let new : Inside = record { sig = c.in_ok-try_clone.field-0; wits = c.in_ok-try_clone-2.field-0; nodes = c.in_ok-copy_nodes.field-0; alloc = c.args.alloc } in
    sound_copy c.self.inside new c.in_ok-try_clone.ensures.bases c.in_ok-try_clone.ensures.consts c.in_ok-try_clone-2.ensures c.in_ok-copy_nodes.ensures c.self.invariant

pub returns : goal.returns
returns c =
    let new : Inside = record { sig = c.in_ok-try_clone.field-0; wits = c.in_ok-try_clone-2.field-0; nodes = c.in_ok-copy_nodes.field-0; alloc = c.args.alloc } in
    same_content c.self.inside new c.in_ok-try_clone.ensures.bases c.in_ok-try_clone.ensures.consts c.in_ok-try_clone-2.ensures c.in_ok-copy_nodes.ensures ∙ c.self.view_is
