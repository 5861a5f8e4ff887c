use Rattle.std.proofs.Common.{◌∙◌, sym, subst}
use Rattle.refute_check.specs.Numbered.{numbered_term}
use Rattle.refute_check.specs.Internal.Shared.{HasPlace}
use Rattle.refute_check.proofs.SharedLaws.{extends_numbers}
use Rattle.refute_check.proofs.TakingLaws.{term_taken, term_missing, number_at, no_number_at}
use Rattle.refute_check.proofs.shared.Shared.at_term.Goals as goal

pub returns-in-Some-literal_at-clause-takes : goal.returns-in-Some-literal_at-clause-takes
returns-in-Some-literal_at-clause-takes c = λ ls h.
    let new = c.term.new.self in
    let t = numbered_term c.args.numbering.now c.args.term.now in
    let place = subst (HasPlace new t) c.in-Some.is c.in_ok-id.ensures.place in
    let n = c.in-Some-literal_at.lit in
    let numbers = extends_numbers c.args.self.now new c.in_ok-id.ensures.extends c.requires.good ls c.args.branch.now h in
    let at = number_at new ls c.args.branch.now c.args.i n numbers (sym c.literal_at.ensures ∙ c.in-Some-literal_at.is) in
    (place.0, term_taken new ls c.args.i n at.0 at.1 c.in-Some.id t place.1)

pub returns-in-None-clause-takes : goal.returns-in-None-clause-takes
returns-in-None-clause-takes c = λ ls h.
    let new = c.term.new.self in
    let t = numbered_term c.args.numbering.now c.args.term.now in
    let place = subst (HasPlace new t) c.in-Some.is c.in_ok-id.ensures.place in
    (place.0, term_missing new ls c.args.i t (no_number_at c.args.self.now ls c.args.branch.now c.args.i h (sym c.literal_at.ensures ∙ c.in-None.is)))
