use Rattle.std.proofs.Common.{[], refl}
use Rattle.stt_core.specs.View.{the_term}
use Rattle.normal_forms.specs.Normal.{normal_form}
use Rattle.term_bank.specs.Content.{content_scope}
use Rattle.term_bank.proofs.GrowLaws.{has_within}
use Rattle.conv_laws.proofs.SharedForms.{still_within, compared_in_bank}
use Rattle.conv_laws.proofs.conversion.compare.Goals as goal

pub same-requires-clause-a_within : goal.same-requires-clause-a_within
same-requires-clause-a_within c =
    still_within c.normalise.new.bank c.normalise-2.new.bank c.in_ok-first.first (normal_form (content_scope c.args.bank.now) [] (the_term c.args.s.now)) c.in_ok-second.ensures.grows c.in_ok-first.ensures.term

pub same-requires-clause-b_within : goal.same-requires-clause-b_within
same-requires-clause-b_within c =
    has_within c.normalise-2.new.bank c.in_ok-second.second (normal_form (content_scope c.normalise.new.bank) [] (the_term c.args.t.now)) c.in_ok-second.ensures.term

pub returns : goal.returns
returns c =
    compared_in_bank (content_scope c.args.bank.now) c.requires.declared (the_term c.args.s.now) (the_term c.args.t.now) c.args.bank.now c.normalise.new.bank c.normalise-2.new.bank c.in_ok-first.first c.in_ok-second.second c.same.result
    c.requires.typed refl c.in_ok-first.ensures.grows c.in_ok-second.ensures.grows c.in_ok-first.ensures.term c.in_ok-second.ensures.term c.same.ensures
