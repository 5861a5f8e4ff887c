use Rattle.std.proofs.Common.{◌<◌, length, map}
use Rattle.stt_core.specs.Lambda.{Lambda}
use Rattle.term_bank.specs.Content.{Grows}
use Rattle.term_bank.specs.Terms.{term_at}
use Rattle.bank_normal.specs.Right.{IsRightNormaliser}
use Rattle.bank_normal.specs.Internal.Expanded.{IsFormOf}
use Rattle.bank_normal.proofs.normaliser.Normaliser.is_form_of.Given as goal

abbrev pub invariant-loop-at : goal.invariant-loop-at
invariant-loop-at l =
    let terms = l.fn.bank.terms in
    let us = map (term_at terms) l.args in
    (l.id < length terms) × Grows l.fn.bank l.bank × IsRightNormaliser l.self l.bank
    × ((h : Lambda) → IsFormOf (term_at terms l.id) h us l.at → IsFormOf (term_at terms l.f) h us l.given)
