-- What the making of an instance changes.
use Rattle.std.specs.Prelude.{◌≡◌, ℕ, ◌<◌, Bool, true, false, List, ◌++◌, length, Option, Some, None, ◌⊎◌, if◌then◌else◌}
use Rattle.sat_base.specs.declared.literal.SatLit.{SatLit}
use Rattle.stt_core.specs.SimpleType.{SimpleType}
use Rattle.stt_core.specs.Lambda.{Lambda, every}
use Rattle.tableau_calculus.specs.Literals.{minus}
use Rattle.tableau_calculus.specs.declared.rule_use.OnePlace.{OnePlace}
use Rattle.tableau_calculus.specs.declared.rule_use.OnePlace.TheVariants.{AllNeg}
use Rattle.tableau_calculus.specs.declared.rule_use.RuleUse.TheVariants.{AtOne}
use Rattle.term_bank.specs.Content.{Content}
use Rattle.term_bank.specs.Terms.{term_at}
use Rattle.literal_map.specs.Atoms.{bank_literal}
use Rattle.literal_map.specs.Numbers.{UseByNumbers}
use Rattle.witness_names.specs.Rows.{with_predicate}
use Rattle.tableau_rules.specs.declared.refusal.RuleRefused.{RuleRefused}
use Rattle.tableau_rules.specs.declared.refusal.RuleRefused.TheVariants.{NotThisRule, Memory}

-- The declarations stay, and further types of witnesses and further terms stand behind the earlier ones.
pub record Widens (old new : Content) : Type 0 where
  pub bases : new.bases ≡ old.bases
  pub consts : new.consts ≡ old.consts
  pub types : List SimpleType
  pub witnesses : new.witnesses ≡ old.witnesses ++ types
  pub further : List Lambda
  pub terms : new.terms ≡ old.terms ++ further

-- whether the rule makes a witness
abbrev pub makes_witness : OnePlace → Bool
makes_witness AllNeg = true
makes_witness rule = false

-- the principal that the rule makes a witness for, where it makes one
abbrev pub denial_of : UseByNumbers → Option SatLit
denial_of (AtOne rule l) = if makes_witness rule then Some l else None
denial_of by = None

-- the literal says that the predicate doesn't hold everywhere, and the witnesses are those before with one for it
pub record HasWitness (b : Content) (atoms : List ℕ) (literal : SatLit) (old new : List ℕ) : Type 0 where
  pub type : SimpleType
  pub predicate : ℕ
  pub within : predicate < length b.terms
  pub denies : bank_literal b.terms atoms literal ≡ minus (every type (term_at b.terms predicate))
  pub added : new ≡ with_predicate old predicate

-- the witnesses after a rule: those before, and for a predicate that doesn't hold everywhere its own
abbrev pub AreWitnessesAfter : Content → List ℕ → Option SatLit → List ℕ → List ℕ → Type 0
AreWitnessesAfter b atoms (Some literal) old new = HasWitness b atoms literal old new
AreWitnessesAfter b atoms None old new = new ≡ old

abbrev pub AreWitnessesBy : Content → List ℕ → UseByNumbers → List ℕ → List ℕ → Type 0
AreWitnessesBy b atoms by old new = AreWitnessesAfter b atoms (denial_of by) old new

-- The witnesses after a refusal: those before, or where memory ran out those after the rule.
abbrev pub LeavesWitnesses : Content → List ℕ → UseByNumbers → List ℕ → List ℕ → RuleRefused → Type 0
LeavesWitnesses b atoms by old new NotThisRule = new ≡ old
LeavesWitnesses b atoms by old new Memory = (new ≡ old) ⊎ AreWitnessesBy b atoms by old new
