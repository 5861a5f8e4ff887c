-- Small terms and numbers in range make a small refutation; what rules take is small.
use Rattle.std.proofs.Common.{List, [], ◌∷◌}
use Rattle.std.specs.List.{AllByRecursion}
use Rattle.tableau_calculus.specs.Rules.{PlainRule}
use Rattle.tableau_calculus.specs.declared.rule_use.RuleUse.TheVariants.{AtOne, AtTwo, AllPos, WithPredicate, Cut}
use Rattle.tableau_calculus.specs.declared.refutation.Line.{Line}
use Rattle.refute_print.specs.Sizes.{IsSmallRule, IsSmallLine}
use Rattle.small_rebuilt.specs.Small.{TakesSmall, HasSmallParts, HasPlaces, HasNumbers, SmallInRange, UsesTakeSmall}

rule_small : (r : PlainRule) → HasPlaces r → TakesSmall r → IsSmallRule r
rule_small (AtOne kind i) p t = p
rule_small (AtTwo kind i j) p t = p
rule_small (AllPos i u) p t = (p, t)
rule_small (WithPredicate kind f) p t = t
rule_small (Cut l) p t = t

lines_small : (lines : List Line) → AllByRecursion HasNumbers lines → AllByRecursion HasSmallParts lines → AllByRecursion IsSmallLine lines
lines_small [] n t = tt
lines_small (l ∷ lines) n t = (record { branch = t.0.branch; rule = rule_small l.rule n.0.places t.0.takes; children = n.0.children }, lines_small lines n.1 t.1)

pub in_range_small : SmallInRange
in_range_small r n t = record { rows = t.rows; row_numbers = n.rows; lines = record { each = lines_small r.lines n.each t.lines; numbers = n.lines } }

pub uses_small : UsesTakeSmall
uses_small terms atoms (AtOne kind p) h = tt
uses_small terms atoms (AtTwo kind p q) h = tt
uses_small terms atoms (AllPos p u) h = h
uses_small terms atoms (WithPredicate kind f) h = h
uses_small terms atoms (Cut l) h = h
