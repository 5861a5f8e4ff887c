use Rattle.std.proofs.Common.{map, sym, subst}
use Rattle.tableau_calculus.specs.Each.{Each}
use Rattle.refute_check.specs.Internal.Branches.{Represents, AreNumberedBranch}
use Rattle.refute_check.specs.Internal.Shared.{shared_atoms, literal_in, IsSharedNumber}
use Rattle.refute_check.proofs.shared.Shared.set_of.Goals as goal

pub set_by-requires-clause-numbers : goal.set_by-requires-clause-numbers
set_by-requires-clause-numbers c = subst (Each (IsSharedNumber c.args.self.now)) (sym c.as_slice.ensures) c.requires.numbers

pub returns-clause-set : goal.returns-clause-set
returns-clause-set c =
    let s = c.args.self.now in
    subst (λ ls. Represents (shared_atoms s) (map (literal_in s) ls) c.in_ok-set_by.field-0) c.as_slice.ensures c.in_ok-set_by.ensures.set

pub returns-clause-numbered : goal.returns-clause-numbered
returns-clause-numbered c =
    let s = c.args.self.now in
    subst (λ ls. AreNumberedBranch (shared_atoms s) (map (literal_in s) ls)) c.as_slice.ensures c.in_ok-set_by.ensures.numbered
