use Rattle.std.proofs.Common.{◌≡◌, ◌||◌, Bool, true, false, refl, sym, ap, ◌∙◌}
use Rattle.head_offers.specs.Internal.Marks.{is_flagged}
use Rattle.head_offers.proofs.bases.mark_at.Goals as goal

pub returns-in-None-clause-flags : goal.returns-in-None-clause-flags
returns-in-None-clause-flags c = λ n h. sym (ap (λ (b : Bool). is_flagged c.args.flags.now.items n || b) (c.in-None.ensures n) ∙ none (is_flagged c.args.flags.now.items n))
  where
    none : (b : Bool) → (b || false) ≡ b
    none true = refl
    none false = refl
