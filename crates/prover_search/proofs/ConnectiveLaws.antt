-- The rules of connectives.
use Rattle.std.proofs.Common.{◌≡◌, Bool, false, Option, Some, None, option_map, refl}
use Rattle.stt_core.specs.Lambda.{falsity, implication, Lambda, constant, app, imp}
use Rattle.tableau_calculus.specs.Literals.{Literal}
use Rattle.tableau_calculus.specs.Rules.{Alone, Alternatives}
use Rattle.tableau_calculus.specs.declared.rule_use.OnePlace.{OnePlace}
use Rattle.tableau_calculus.specs.declared.rule_use.OnePlace.TheVariants.{AllNeg}
use Rattle.tableau_calculus.proofs.AloneLaws.{AloneBy, alone_by}
use Rattle.search_spec.specs.Processing.{LiteralRule, connective_rule}
use Rattle.tableau_rules.specs.Changes.{makes_witness}

-- the rule alone, without its alternatives
abbrev pub named : {l : Literal} → Option (LiteralRule l) → Option OnePlace
named o = option_map (λ rule. rule.kind) o

-- a rule that is named, with its alternatives
pub record IsNamed (l : Literal) (kind : OnePlace) (o : Option (LiteralRule l)) : Type 0 where
  pub rule : LiteralRule l
  pub is : o ≡ Some rule
  pub kind_is : kind ≡ rule.kind

pub rule_named : (l : Literal) (kind : OnePlace) (o : Option (LiteralRule l)) → Some kind ≡ named o → IsNamed l kind o
rule_named l kind None e = cc
rule_named l kind (Some rule) e = let same : kind ≡ rule.kind = cc in record { rule = rule; is = refl; kind_is = same }

pub none_named : (l : Literal) (o : Option (LiteralRule l)) → None ≡ named o → o ≡ None
none_named l None e = refl
none_named l (Some rule) e = cc

pub without_connective : (sign : Bool) (t : Lambda) → (t ≡ constant falsity → ⊥) → ((s u : Lambda) → t ≡ imp s u → ⊥) → None ≡ named (connective_rule t sign)
without_connective sign (constant falsity) n m = absurd (n refl)
without_connective sign (app (app (constant implication) s) u) n m = absurd (m s u refl)
without_connective sign t n m = refl

-- a rule that looks at its principal alone makes no witness
by-makes_none : (kind : OnePlace) (l : Literal) (as' : Alternatives) → AloneBy kind l as' → makes_witness kind ≡ false
by-makes_none AllNeg l as' h = absurd h
by-makes_none kind l as' h = refl

pub alone-makes_none : (kind : OnePlace) (l : Literal) (as' : Alternatives) → Alone kind l as' → makes_witness kind ≡ false
alone-makes_none kind l as' h = by-makes_none kind l as' (alone_by kind l as' h)
