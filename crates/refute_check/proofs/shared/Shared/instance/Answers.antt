use Rattle.std.proofs.Common.{◌∙◌, Err, refl, ap, sym, arith}
use Rattle.refute_check.specs.declared.shared.Shared.{Shared}
use Rattle.refute_check.proofs.SharedLaws.{extends_good}
use Rattle.refute_check.proofs.InstanceLaws.{witnesses_same, widened_extends, instance_found, instance_none, instance_made}
use Rattle.refute_check.proofs.shared.Shared.instance.Goals as goal

pub returns-then-len-count-clause-extends : goal.returns-then-len-count-clause-extends
returns-then-len-count-clause-extends c =
    let old = c.args.self.now in
    let e = c.in-Ok.ensures in
    let new : Shared = record { bank = c.make-made.new.bank; normal = c.make-made.new.normal; lits = c.make-made.new.lits; witnesses = c.make-made.new.witnesses; types = old.types } in
    let same = witnesses_same new.bank new.lits c.args.by.now old.witnesses new.witnesses e.witnesses (sym c.len.ensures ∙ c.if-len-count.true ∙ c.len-count.ensures) in
    widened_extends old new c.requires.good e.widens e.begins e.types same

pub returns-then-len-count-clause-good : goal.returns-then-len-count-clause-good
returns-then-len-count-clause-good c =
    let old = c.args.self.now in
    let e = c.in-Ok.ensures in
    let new : Shared = record { bank = c.make-made.new.bank; normal = c.make-made.new.normal; lits = c.make-made.new.lits; witnesses = c.make-made.new.witnesses; types = old.types } in
    extends_good old new (returns-then-len-count-clause-extends c) c.requires.good e.right e.atoms refl

pub returns-then-len-count-clause-finds : goal.returns-then-len-count-clause-finds
returns-then-len-count-clause-finds c = λ ls r taken.
    let old = c.args.self.now in
    let e = c.in-Ok.ensures in
    let new : Shared = record { bank = c.make-made.new.bank; normal = c.make-made.new.normal; lits = c.make-made.new.lits; witnesses = c.make-made.new.witnesses; types = old.types } in
    (instance_found old new c.requires.good (returns-then-len-count-clause-extends c) ls r c.args.by.now taken _ e.instance, e.numbers)

pub returns-else-len-count-clause-finds : goal.returns-else-len-count-clause-finds
returns-else-len-count-clause-finds c = λ ls r taken.
    let old = c.args.self.now in
    let e = c.in-Ok.ensures in
    let new : Shared = record { bank = c.make-made.new.bank; normal = c.make-made.new.normal; lits = c.make-made.new.lits; witnesses = c.make-made.new.witnesses; types = old.types } in
    instance_made old new c.requires.good e.widens e.begins c.equal_ids_for_equal_terms.ensures ls r c.args.by.now taken e.witnesses
    (λ h. omega (arith, h, c.len.ensures, c.len-count.ensures, c.if-len-count.false))

pub returns-in-NotThisRule-clause-finds : goal.returns-in-NotThisRule-clause-finds
returns-in-NotThisRule-clause-finds c = λ ls r taken.
    instance_none c.args.self.now ls r c.args.by.now taken (c.make-made.ensures.not_this_rule (c.in-Err.is ∙ ap (λ e. Err e) c.in-NotThisRule.is))
