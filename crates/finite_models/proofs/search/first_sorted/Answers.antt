use Rattle.std.proofs.Common.{ℕ, List, sym, subst}
use Rattle.finite_models.specs.Internal.Search.{AreAllowed, AreReady, PassesAll, IsFirstPassing}
use Rattle.finite_models.proofs.SortLaws.{ready_sorted, none_sorted, first_of_sorted}
use Rattle.finite_models.proofs.search.first_sorted.Goals as goal

pub first_passing-requires-clause-ready : goal.first_passing-requires-clause-ready
first_passing-requires-clause-ready c = λ vs a.
    subst (λ l. AreReady l vs) (sym c.deref.ensures.value)
    (ready_sorted c.args.checks.items c.sort_unstable_by_key.new.self.items vs c.sort_unstable_by_key.ensures.permutation (c.requires.ready vs a))

pub returns-in-None : goal.returns-in-None
returns-in-None c =
    let h = rw c.in-None.is at c.in_ok-found.ensures in
    none_sorted c.args.checks.items c.sort_unstable_by_key.new.self.items c.sort_unstable_by_key.ensures.permutation (λ (ws : List ℕ). AreAllowed c.args.domains.now ws)
    (subst (λ l. (ws : List ℕ) → AreAllowed c.args.domains.now ws → PassesAll l ws → ⊥) c.deref.ensures.value h)

pub returns : goal.returns
returns c =
    let h = rw c.in-Some.is at c.in_ok-found.ensures in
    first_of_sorted c.args.checks.items c.sort_unstable_by_key.new.self.items c.args.domains.now c.in-Some.values.items c.sort_unstable_by_key.ensures.permutation
    (subst (λ l. IsFirstPassing c.args.domains.now l c.in-Some.values.items) c.deref.ensures.value h)
