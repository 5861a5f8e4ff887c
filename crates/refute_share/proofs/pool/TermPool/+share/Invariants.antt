use Rattle.std.proofs.Common.{◌≡◌, ◌+◌, ◌*◌, map, take}
use Rattle.term_bank.specs.Terms.{term_at}
use Rattle.refute_share.specs.KnownTerms.{KnowsTerms}
use Rattle.refute_share.proofs.pool.TermPool.+share.Given as goal

abbrev pub decreases-share : goal.decreases-share
decreases-share l = l.id * 2 + 1

abbrev pub decreases-share_under : goal.decreases-share_under
decreases-share_under l = l.id * 2

abbrev pub invariant-share_under-loop-i : goal.invariant-share_under-loop-i
invariant-share_under-loop-i l = record {
  terms : l.terms ≡ map (term_at l.bank.terms) (take l.i l.args);
  known : KnowsTerms l.bank.terms l.self;
}
