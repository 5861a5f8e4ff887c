use Rattle.std.proofs.Common.{◌≡◌, true, List, ℕ, length, sym, subst}
use Rattle.stt_core.specs.SimpleType.{base, is_declared}
use Rattle.prover_growth.proofs.BasisLaws.{basis-grows-on}
use Rattle.prover_growth.proofs.BaseTermLaws.{chosen_by_none, first-values, value-places}
use Rattle.prover_growth.proofs.base_terms.first_values.Goals as goal

pub empty_predicate-requires-clause-declared : goal.empty_predicate-requires-clause-declared
empty_predicate-requires-clause-declared c =
    subst (λ (bases : List (List ℕ)). is_declared (length bases) (base c.args.n) ≡ true) (sym c.in_ok-bottom.ensures.grows.bank.bases) c.requires.declared

pub chosen_by_empty-requires-clause-declared : goal.chosen_by_empty-requires-clause-declared
chosen_by_empty-requires-clause-declared c =
    let all = basis-grows-on c.args.basis.now c.falsity_in.new.basis c.empty_predicate.new.basis c.in_ok-bottom.ensures.grows c.in_ok-empty.ensures.grows in
    subst (λ (bases : List (List ℕ)). is_declared (length bases) (base c.args.n) ≡ true) (sym all.bank.bases) c.requires.declared

pub returns-clause-terms : goal.returns-clause-terms
returns-clause-terms c = first-values c.chosen_by_empty.new.basis.bank c.args.n c.in_ok-chosen.chosen c.in_ok-ids.ids c.requires.other c.in_ok-chosen.ensures.term c.in_ok-ids.ensures

pub returns-clause-places : goal.returns-clause-places
returns-clause-places c = value-places c.chosen_by_empty.new.basis.bank c.in_ok-chosen.chosen c.in_ok-ids.ids (chosen_by_none (base c.args.n)) c.in_ok-chosen.ensures.term c.in_ok-ids.ensures

pub returns-clause-grows : goal.returns-clause-grows
returns-clause-grows c =
    let all = basis-grows-on c.args.basis.now c.falsity_in.new.basis c.empty_predicate.new.basis c.in_ok-bottom.ensures.grows c.in_ok-empty.ensures.grows in
    basis-grows-on c.args.basis.now c.empty_predicate.new.basis c.chosen_by_empty.new.basis all c.in_ok-chosen.ensures.grows
