use Rattle.std.proofs.Common.{ap, ◌∙◌}
use Rattle.stt_core.specs.View.{the_head}
use Rattle.search_spec.specs.Partial.{blank_partial}
use Rattle.term_bank.specs.Content.{content_scope}
use Rattle.instantiate.proofs.CaseLaws.{hole_typed, hole_takes}
use Rattle.test_tables.proofs.growth.grown_with.Goals as goal

pub grow-requires-clause-typed : goal.grow-requires-clause-typed
grow-requires-clause-typed c = hole_typed (content_scope c.in_ok-bank.bank) c.in_ok-partial.partial c.in_ok-bank.ensures (c.in_ok-partial.ensures ∙ ap blank_partial c.in_ok-predicate_type.ensures)

pub grow-requires-clause-takes : goal.grow-requires-clause-takes
grow-requires-clause-takes c = hole_takes (content_scope c.in_ok-bank.bank) c.in_ok-partial.partial (the_head c.args.head.now) c.in_ok-bank.ensures (c.in_ok-partial.ensures ∙ ap blank_partial c.in_ok-predicate_type.ensures) c.requires
