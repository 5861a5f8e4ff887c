use Rattle.std.proofs.Common.{refl}
use Rattle.refute_check.specs.declared.shared.Shared.{Shared}
use Rattle.refute_check.proofs.SharedLaws.{extends_good}
use Rattle.refute_check.proofs.StartLaws.{are_numbers}
use Rattle.problem_start.specs.Unfolds.{unfolded_if, start_literals}
use Rattle.refute_check.proofs.shared.Shared.start_list.Goals as goal

pub returns-clause-numbers : goal.returns-clause-numbers
returns-clause-numbers c =
    let old = c.args.self.now in
    let f = c.start_numbers in
    let new : Shared = record { bank = f.new.bank; normal = f.new.normal; lits = f.new.lits; witnesses = old.witnesses; types = old.types } in
    are_numbers new (start_literals (unfolded_if c.args.unfolds c.args.problem.now)) _ c.in_ok-start_numbers.ensures.numbers

pub returns-clause-good : goal.returns-clause-good
returns-clause-good c =
    let old = c.args.self.now in
    let f = c.start_numbers in
    let new : Shared = record { bank = f.new.bank; normal = f.new.normal; lits = f.new.lits; witnesses = old.witnesses; types = old.types } in
    extends_good old new (record { bank = f.ensures.grows; lits = f.ensures.begins; witnesses = refl }) c.requires.good f.ensures.right f.ensures.atoms refl
