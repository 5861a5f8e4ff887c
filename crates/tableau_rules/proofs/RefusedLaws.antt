-- Why no instance is made.
use Rattle.std.proofs.Common.{◌≡◌, ℕ, List, subst, sym, ◌⊎◌}
use Rattle.std.specs.Prelude.{Result, Ok, Err, IsErrAnd, IfErr, OnErr}
use Rattle.term_bank.specs.Content.{Content}
use Rattle.literal_map.specs.Numbers.{UseByNumbers}
use Rattle.tableau_rules.specs.Changes.{AreWitnessesBy, LeavesWitnesses}
use Rattle.tableau_rules.specs.declared.refusal.RuleRefused.{RuleRefused}
use Rattle.tableau_rules.specs.declared.refusal.RuleRefused.TheVariants.{NotThisRule, Memory}

abbrev is_rule : RuleRefused → Type 0
is_rule NotThisRule = Unit {0}
is_rule Memory = ⊥

module _ {T : Type 0} where
  pub memory_not_rule : (r : Result T RuleRefused) → IsErrAnd r (λ e. e ≡ Memory) → r ≡ Err NotThisRule → ⊥
  memory_not_rule r h e = subst is_rule (subst (λ x. IsErrAnd x (λ y. y ≡ Memory)) e h) tt

  pub memory_leaves : (b : Content) (atoms : List ℕ) (by : UseByNumbers) (old new : List ℕ) (r : Result T RuleRefused) → IsErrAnd r (λ e. e ≡ Memory) → (new ≡ old) ⊎ AreWitnessesBy b atoms by old new → IfErr r (LeavesWitnesses b atoms by old new)
  memory_leaves b atoms by old new (Ok x) h k = tt
  memory_leaves b atoms by old new (Err e) h k = subst (LeavesWitnesses b atoms by old new) (sym h) k

  pub ok_not_rule : (x : T) (y : RuleRefused) → Ok x ≡ Err y → ⊥
  ok_not_rule x y e = subst (λ r. OnErr r ⊥) e tt
