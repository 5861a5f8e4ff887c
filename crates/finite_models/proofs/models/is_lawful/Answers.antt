use Rattle.std.proofs.Common.{◌↔◌, ap, sym, subst}
use Rattle.std.specs.Prelude.{IsTrue}
use Rattle.stt_core.specs.View.{the_type}
use Rattle.finite_models.specs.Sizes.{IsSmallType}
use Rattle.finite_models.specs.Candidates.{IsLawful}
use Rattle.stt_core.specs.Meaning.{IsChoice, IsDescription}
use Rattle.finite_models.specs.ChooserView.{the_chooser}
use Rattle.finite_models.proofs.LookLaws.{few_chosen}
use Rattle.finite_models.proofs.models.is_lawful.Goals as goal

pub size_of-n-requires-clause-small : goal.size_of-n-requires-clause-small
size_of-n-requires-clause-small c = (subst (λ y. IsSmallType c.args.s y.type) (ap the_chooser c.in-Choice.is) c.requires.small).1.1

pub is_choice-requires-clause-small : goal.is_choice-requires-clause-small
is_choice-requires-clause-small c =
    few_chosen c.args.s (the_type c.in-Choice.a) c.size_of-n.result c.size_of-n.ensures.size (subst (λ y. IsSmallType c.args.s y.type) (ap the_chooser c.in-Choice.is) c.requires.small)

pub returns-in-Choice : goal.returns-in-Choice
returns-in-Choice c =
    subst (λ y. IsTrue c.is_choice.result ↔ IsLawful c.args.s y.constant c.args.v) (sym (ap the_chooser c.in-Choice.is))
    (subst (λ n. IsTrue c.is_choice.result ↔ IsChoice n c.args.v) c.size_of-n.ensures.size c.is_choice.ensures)

pub size_of-n-requires-in-Description-clause-small : goal.size_of-n-requires-in-Description-clause-small
size_of-n-requires-in-Description-clause-small c = (subst (λ y. IsSmallType c.args.s y.type) (ap the_chooser c.in-Description.is) c.requires.small).1.1

pub is_description-requires-clause-small : goal.is_description-requires-clause-small
is_description-requires-clause-small c =
    few_chosen c.args.s (the_type c.in-Description.a) c.size_of-n-in-Description.result c.size_of-n-in-Description.ensures.size (subst (λ y. IsSmallType c.args.s y.type) (ap the_chooser c.in-Description.is) c.requires.small)

pub returns-in-Description : goal.returns-in-Description
returns-in-Description c =
    subst (λ y. IsTrue c.is_description.result ↔ IsLawful c.args.s y.constant c.args.v) (sym (ap the_chooser c.in-Description.is))
    (subst (λ n. IsTrue c.is_description.result ↔ IsDescription n c.args.v) c.size_of-n-in-Description.ensures.size c.is_description.ensures)
