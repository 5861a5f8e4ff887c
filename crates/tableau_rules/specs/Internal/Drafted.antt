-- What drafts of alternatives say.
use Rattle.std.specs.Prelude.{◌≡◌, ℕ, ◌<◌, false, List, [], ◌∷◌, map, length, Option, Some, None, if◌then◌else◌}
use Rattle.stt_core.specs.SimpleType.{SimpleType}
use Rattle.stt_core.specs.Lambda.{eq}
use Rattle.tableau_calculus.specs.Literals.{Literal, opposite, as_literal, IsLiteral}
use Rattle.tableau_calculus.specs.Witnesses.{Row}
use Rattle.tableau_calculus.specs.Rules.{PlainRule, IsInstance}
use Rattle.term_bank.specs.Content.{Content, content_scope, HasTerm}
use Rattle.term_bank.specs.Terms.{term_at}
use Rattle.tableau_rules.specs.declared.draft.Principal.{Principal}
use Rattle.tableau_rules.specs.declared.draft.Signed.{Signed}

-- the literal that a principal is
abbrev pub principal_at : Content → Principal → Literal
principal_at b p = record { positive = p.positive; atom = term_at b.terms p.atom }

-- the literal that a signed formula stands for
abbrev pub signed_at : Content → Signed → Literal
signed_at b s = if s.positive then as_literal (term_at b.terms s.formula) else opposite (as_literal (term_at b.terms s.formula))

abbrev pub alternatives_at : Content → List (List Signed) → List (List Literal)
alternatives_at b ds = map (map (signed_at b)) ds

-- a literal of the bank
pub record IsPrincipal (b : Content) (p : Principal) : Type 0 where
  pub within : p.atom < length b.terms
  pub typed : IsLiteral (content_scope b) (principal_at b p)

-- the formulas are terms of the bank
abbrev pub IsDraftedWithin : Content → List Signed → Type 0
IsDraftedWithin b [] = Unit {0}
IsDraftedWithin b (s ∷ draft) = (s.formula < length b.terms) × IsDraftedWithin b draft

abbrev pub AreDraftedWithin : Content → List (List Signed) → Type 0
AreDraftedWithin b [] = Unit {0}
AreDraftedWithin b (draft ∷ drafts) = IsDraftedWithin b draft × AreDraftedWithin b drafts

-- the drafts are the alternatives of the rule's instance with these principals, or it has none
abbrev pub Drafted : Content → List Row → List Principal → PlainRule → Option (List (List Signed)) → Type 0
Drafted b rows ps rule (Some ds) =
    AreDraftedWithin b ds × IsInstance (content_scope b) rows (map (principal_at b) ps) rule (alternatives_at b ds)
Drafted b rows ps rule None = (as' : List (List Literal)) → IsInstance (content_scope b) rows (map (principal_at b) ps) rule as' → ⊥

-- the signed formula denies that the terms at two places of an earlier bank are equal
pub record IsDifference (old new : Content) (a : SimpleType) (s t : ℕ) (d : Signed) : Type 0 where
  pub has : HasTerm new d.formula (eq a (term_at old.terms s) (term_at old.terms t))
  pub denied : d.positive ≡ false

-- the signed formulas deny that the term equals either side
abbrev pub DifferFromBoth : Content → Content → SimpleType → ℕ → ℕ → ℕ → Signed → Signed → Type 0
DifferFromBoth old new a l r t d e = IsDifference old new a l t d × IsDifference old new a r t e
