-- Drafts whose formulas have numbers.
use Rattle.std.specs.Prelude.{◌≡◌, ℕ, ◌<◌, List, [], ◌∷◌, length}
use Rattle.sat_base.specs.declared.literal.SatLit.{SatLit}
use Rattle.stt_core.specs.SimpleType.{formula}
use Rattle.stt_core.specs.Canonical.{IsCanonical}
use Rattle.term_bank.specs.Content.{Content, content_scope}
use Rattle.term_bank.specs.Terms.{term_at}
use Rattle.literal_map.specs.Atoms.{bank_literal}
use Rattle.tableau_rules.specs.Internal.Drafted.{signed_at}
use Rattle.tableau_rules.specs.declared.draft.Signed.{Signed}

-- a closed formula of the bank
pub record IsSignedFormula (b : Content) (s : Signed) : Type 0 where
  pub within : s.formula < length b.terms
  pub typed : IsCanonical (content_scope b) [] formula (term_at b.terms s.formula)

abbrev pub AreFormulasIn : Content → List Signed → Type 0
AreFormulasIn b [] = Unit {0}
AreFormulasIn b (s ∷ draft) = IsSignedFormula b s × AreFormulasIn b draft

abbrev pub AllFormulas : Content → List (List Signed) → Type 0
AllFormulas b [] = Unit {0}
AllFormulas b (draft ∷ drafts) = AreFormulasIn b draft × AllFormulas b drafts

-- the numbered literal is the signed formula's
pub record IsNumbered (b : Content) (atoms : List ℕ) (s : Signed) (l : SatLit) : Type 0 where
  pub number : l.var.0 < length atoms
  pub is : bank_literal b.terms atoms l ≡ signed_at b s

abbrev pub AreNumberedLiterals : Content → List ℕ → List Signed → List SatLit → Type 0
AreNumberedLiterals b atoms [] [] = Unit {0}
AreNumberedLiterals b atoms [] (l ∷ ls) = ⊥
AreNumberedLiterals b atoms (s ∷ draft) [] = ⊥
AreNumberedLiterals b atoms (s ∷ draft) (l ∷ ls) = IsNumbered b atoms s l × AreNumberedLiterals b atoms draft ls

abbrev pub AllNumbered : Content → List ℕ → List (List Signed) → List (List SatLit) → Type 0
AllNumbered b atoms [] [] = Unit {0}
AllNumbered b atoms [] (ls ∷ lists) = ⊥
AllNumbered b atoms (draft ∷ drafts) [] = ⊥
AllNumbered b atoms (draft ∷ drafts) (ls ∷ lists) = AreNumberedLiterals b atoms draft ls × AllNumbered b atoms drafts lists
