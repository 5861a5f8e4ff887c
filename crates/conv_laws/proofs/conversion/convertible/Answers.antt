use Rattle.std.proofs.Common.{◌≡◌, ◌↔◌, [], sym, subst, IfOk, IsTrue}
use Rattle.stt_core.specs.ScopeView.{the_scope}
use Rattle.stt_core.specs.View.{the_term}
use Rattle.stt_core.specs.Typing.{IsScope}
use Rattle.term_bank.specs.Content.{content_scope}
use Rattle.conv_laws.specs.Steps.{HaveOneType, AreConvertible}
use Rattle.conv_laws.proofs.SharedForms.{start_scope}
use Rattle.conv_laws.proofs.conversion.convertible.Goals as goal

pub compare-requires-clause-declared : goal.compare-requires-clause-declared
compare-requires-clause-declared c =
    let sig = c.in_ok-sig.sig in
    subst IsScope (sym (start_scope c.new-bank.result sig.bases sig.consts c.args.sig.now c.new-bank.ensures c.in_ok-sig.ensures.bases c.in_ok-sig.ensures.consts)) c.requires.declared

pub compare-requires-clause-typed : goal.compare-requires-clause-typed
compare-requires-clause-typed c =
    let sig = c.in_ok-sig.sig in
    subst (λ x. HaveOneType x [] (the_term c.args.s.now) (the_term c.args.t.now)) (sym (start_scope c.new-bank.result sig.bases sig.consts c.args.sig.now c.new-bank.ensures c.in_ok-sig.ensures.bases c.in_ok-sig.ensures.consts)) c.requires.typed

pub compare-requires-clause-right : goal.compare-requires-clause-right
compare-requires-clause-right c = c.new-normaliser.ensures c.new-bank.result

pub returns : goal.returns
returns c =
    let sig = c.in_ok-sig.sig in
    let scope_is = start_scope c.new-bank.result sig.bases sig.consts c.args.sig.now c.new-bank.ensures c.in_ok-sig.ensures.bases c.in_ok-sig.ensures.consts in
    subst (λ x. IfOk c.compare.result (λ same. IsTrue same ↔ AreConvertible x [] (the_term c.args.s.now) (the_term c.args.t.now))) scope_is c.compare.ensures
