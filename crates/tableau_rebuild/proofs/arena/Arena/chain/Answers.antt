use Rattle.std.proofs.Common.{◌≡◌, ◌+◌, suc, length, slice_get, sym, ap, subst, ◌∙◌, arith}
use Rattle.std.proofs.lemmas.Option.{slice_get-get_or}
use Rattle.sat_log.specs.declared.chain.Chain.{Chain}
use Rattle.sat_log.specs.declared.log.LogEntry.{LogEntry}
use Rattle.sat_log.specs.Resolution.{each_once}
use Rattle.tableau_clauses.specs.Table.{the_clauses}
use Rattle.tableau_rebuild.specs.Internal.Arenas.{AreResults, IsEarlierDraft, IsThere, IsChained}
use Rattle.tableau_rebuild.proofs.ArenaLaws.{before_next, extends-more, results_later}
use Rattle.tableau_rebuild.proofs.ChainLaws.{there_later, first_facts, chain_entry, chained_first, chained_last}
use Rattle.tableau_rebuild.proofs.arena.Arena.chain.Goals as goal

pub premise-requires-clause-there : goal.premise-requires-clause-there
premise-requires-clause-there c =
    let t = c.args.steps.now in
    let log = c.args.log.now in
    let facts = first_facts t log c.requires.right c.args.n c.chain-chain.result.now c.chain-chain.ensures in
    subst (λ n. IsThere (length (the_clauses t)) n c.chain-chain.result.now.first) (sym c.requires.next) facts.there

pub copied-requires : goal.copied-requires
copied-requires c =
    let facts = first_facts c.args.steps.now c.args.log.now c.requires.right c.args.n c.chain-chain.result.now c.chain-chain.ensures in
    (c.args.n, facts.there)

pub literals_of-requires-clause-there : goal.literals_of-requires-clause-there
literals_of-requires-clause-there c =
    let t = c.args.steps.now in
    let log = c.args.log.now in
    let facts = first_facts t log c.requires.right c.args.n c.chain-chain.result.now c.chain-chain.ensures in
    let within = c.requires.within in
    there_later t log c.args.n (length log) c.chain-chain.result.now.first (omega (arith, within)) facts.there

pub loop-k-init : goal.loop-k-init
loop-k-init c =
    let t = c.args.steps.now in
    let log = c.args.log.now in
    let chain = c.chain-chain.result.now in
    let first = c.literals_of.result.now in
    record {
      drawn = c.in_ok-standing.ensures.drawn;
      before = c.in_ok-standing.ensures.before c.args.n 0 c.requires.before;
      extends = c.in_ok-standing.ensures.extends;
      clauses = c.in_ok-standing.ensures.clauses;
      results = c.in_ok-standing.ensures.results;
      chained =
          chained_first t log c.requires.right c.premise.new.self.drafts.items c.args.n chain first c.start.new.self c.in_ok-standing.standing c.chain-chain.ensures c.literals_of.ensures c.in_ok-start.ensures.ok (c.in_ok-standing.ensures.stands first c.literals_of.ensures);
    }

pub step-requires-clause-drawn : goal.step-requires-clause-drawn
step-requires-clause-drawn c = c.loop-k.invariant.drawn

pub step-requires-clause-clauses : goal.step-requires-clause-clauses
step-requires-clause-clauses c = c.loop-k.invariant.clauses ∙ c.requires.clauses

pub step-requires-clause-results : goal.step-requires-clause-results
step-requires-clause-results c =
    let t = c.args.steps.now in
    let log = c.args.log.now in
    subst (AreResults t log c.loop-k.self.drafts.items) (sym c.loop-k.invariant.results)
    (results_later t log c.args.self.now.drafts.items c.loop-k.self.drafts.items c.args.self.now.of_result.items c.loop-k.invariant.extends c.requires.results)

pub step-requires-clause-next : goal.step-requires-clause-next
step-requires-clause-next c = ap length c.loop-k.invariant.results ∙ c.requires.next

pub step-requires-clause-before : goal.step-requires-clause-before
step-requires-clause-before c = c.loop-k.invariant.before

pub step-requires-clause-has : goal.step-requires-clause-has
step-requires-clause-has c =
    let log = c.args.log.now in
    let found = chain_entry c.args.steps.now log c.requires.right c.args.n c.chain-chain.result.now c.chain-chain.ensures in
    let within = c.loop-k-test.true in
    record {
      entry = found.0;
      is_entry = found.1;
      is_step =
          ap (λ x. slice_get x.steps c.loop-k.k) found.2
          ∙ ap (λ xs. slice_get xs c.loop-k.k) (sym c.as_slice-chain_steps.ensures)
          ∙ slice_get-get_or c.as_slice-chain_steps.result.now c.loop-k.k _ (omega (arith, within));
    }

pub step-requires-clause-chained : goal.step-requires-clause-chained
step-requires-clause-chained c = c.loop-k.invariant.chained

pub loop-k-preserved : goal.loop-k-preserved
loop-k-preserved c =
    let k = c.loop-k.k in
    let e : suc k ≡ k + 1 = omega arith in
    let t = c.args.steps.now in
    let log = c.args.log.now in
    let new = c.step.new.self in
    let made = c.in_ok-standing-2.ensures in
    record {
      drawn = made.drawn;
      before = subst (IsEarlierDraft new.drafts.items c.args.n) e made.before;
      extends = extends-more c.args.self.now.drafts.items c.loop-k.self.drafts.items new.drafts.items c.loop-k.invariant.extends made.extends;
      clauses = made.clauses ∙ c.loop-k.invariant.clauses;
      results = made.results ∙ c.loop-k.invariant.results;
      chained = subst (λ j. IsChained t log new.drafts.items c.args.n j c.step.new.resolver c.in_ok-standing-2.standing) e made.chained;
    }

pub returns-clause-drawn : goal.returns-clause-drawn
returns-clause-drawn c = c.loop-k.invariant.drawn

pub returns-clause-before : goal.returns-clause-before
returns-clause-before c = before_next c.loop-k.self.drafts.items c.args.n c.loop-k.k c.loop-k.invariant.before

pub returns-clause-extends : goal.returns-clause-extends
returns-clause-extends c = c.loop-k.invariant.extends

pub returns-clause-clauses : goal.returns-clause-clauses
returns-clause-clauses c = c.loop-k.invariant.clauses

pub returns-clause-results : goal.returns-clause-results
returns-clause-results c = c.loop-k.invariant.results

pub returns-clause-stands : goal.returns-clause-stands
returns-clause-stands c = λ entry at.
    let log = c.args.log.now in
    let found = chain_entry c.args.steps.now log c.requires.right c.args.n c.chain-chain.result.now c.chain-chain.ensures in
    let same : found.0 ≡ entry = cc in
    let steps_are = c.as_slice-chain_steps.ensures ∙ ap (λ (x : Chain). x.steps) (sym found.2 ∙ ap (λ (e : LogEntry). e.chain) same) in
    let count = ap length steps_are in
    let below = c.loop-k-test.false in
    let above = c.loop-k.auto.k-end in
    chained_last c.args.steps.now log c.requires.right c.loop-k.self.drafts.items c.args.n c.loop-k.k c.loop-k.resolver c.loop-k.standing c.loop-k.invariant.chained entry at (omega (arith, count, below, above))
