use Rattle.std.proofs.Common.{ap, ◌∙◌, ◌++◌, codes}
use Rattle.refute_print.specs.Text.{term_text, literal_text}
use Rattle.refute_print.specs.Named.{names_of, named_term, named_literal}
use Rattle.refute_share.proofs.Writes.{took_same, stopped_same}
use Rattle.refute_share.proofs.LineTexts.{cut_text}
use Rattle.refute_share.proofs.write_rule.write_cut.Goals as goal

pub returns-clause-took : goal.returns-clause-took
returns-clause-took g c =
    let names = names_of c.args.sig.now.bases c.args.sig.now.consts in
    let atom = c.lit.inside.atom.value in
    took_same _ _ _ _ _ c.write_term_between.result _ _ (ap (λ t. c.cut_sign.result.now ++ (term_text (named_term names t) ++ codes ")")) c.deref.ensures ∙ ap (λ x. x ++ (term_text (named_term names atom) ++ codes ")")) c.cut_sign.ensures ∙ cut_text names c.lit.inside.positive atom ∙ ap (λ l. codes "Cut(" ++ (literal_text (named_literal names l) ++ codes ")")) c.lit.view_is) c.write_term_between.ensures.took

pub returns-clause-stopped : goal.returns-clause-stopped
returns-clause-stopped g c =
    let names = names_of c.args.sig.now.bases c.args.sig.now.consts in
    let atom = c.lit.inside.atom.value in
    stopped_same _ _ _ _ _ c.write_term_between.result _ _ (ap (λ t. c.cut_sign.result.now ++ (term_text (named_term names t) ++ codes ")")) c.deref.ensures ∙ ap (λ x. x ++ (term_text (named_term names atom) ++ codes ")")) c.cut_sign.ensures ∙ cut_text names c.lit.inside.positive atom ∙ ap (λ l. codes "Cut(" ++ (literal_text (named_literal names l) ++ codes ")")) c.lit.view_is) c.write_term_between.ensures.stopped
