use Rattle.std.proofs.Common.{[], length, map, refl, sym, subst, ◌∙◌}
use Rattle.std.proofs.lemmas.List.{length-map}
use Rattle.refute_print.specs.Named.{names_of, IsNamed}
use Rattle.request_answers.proofs.NameLaws.{accepted_named}
use Rattle.test_search.proofs.run.write.Goals as goal

pub write_shared_text-requires-clause-named : goal.write_shared_text-requires-clause-named
write_shared_text-requires-clause-named c =
    let bases = c.args.sig.now.bases in
    let consts = c.args.sig.now.consts in
    subst (IsNamed (names_of bases consts)) c.in_ok-plain.ensures
    (accepted_named (names_of bases consts)
    (record { bases = length bases; names = map (λ k. k.type) consts; witnesses = [] })
    (record { bases = refl; constants = length-map consts (λ k. k.type) ∙ sym (length-map consts (λ k. k.name)) })
    c.args.start.now c.in_ok-plain.plain c.in-Ok.ensures.accepted)
