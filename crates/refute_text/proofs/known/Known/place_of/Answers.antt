use Rattle.std.proofs.Common.{◌∙◌, ◌∷◌, ◌++◌, [], sym, subst}
use Rattle.refute_text.specs.Internal.Known.{AreTexts}
use Rattle.refute_text.proofs.KnownLaws.{texts-more, text_added, text_kept, stored_literal}
use Rattle.refute_text.proofs.known.Known.place_of.Goals as goal

pub returns-in_default : goal.returns-in_default
returns-in_default c =
    let ls = c.self.inside.literals in
    let ts = c.self.inside.texts.keys in
    let new = texts-more ls ts c.args.lit c.args.text c.self.invariant c.requires.text c.requires.literal in
    let keys = c.in_ok-place.ensures.keys ∙ text_added ts c.args.text c.in_ok-place.is_new c.in_ok-place.ensures.added c.if-is_new.true in
    let are = subst (λ ks. AreTexts c.push.new.self ks) (sym keys) (subst (λ ks. AreTexts ks (ts ++ c.args.text ∷ [])) (sym c.in_default.ensures.ok) new) in
    stored_literal c.push.new.self c.insert_full.new.self.keys c.args.text c.args.lit c.in_ok-place.place are c.requires.text c.requires.literal c.in_ok-place.ensures.stored

pub returns-else-is_new : goal.returns-else-is_new
returns-else-is_new c =
    let ls = c.self.inside.literals in
    let ts = c.self.inside.texts.keys in
    let keys = c.in_ok-place.ensures.keys ∙ text_kept ts c.args.text c.in_ok-place.is_new c.in_ok-place.ensures.added c.if-is_new.false in
    stored_literal ls c.insert_full.new.self.keys c.args.text c.args.lit c.in_ok-place.place (subst (λ ks. AreTexts ls ks) (sym keys) c.self.invariant) c.requires.text c.requires.literal c.in_ok-place.ensures.stored
