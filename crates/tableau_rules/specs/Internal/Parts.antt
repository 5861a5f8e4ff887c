-- The parts of formulas of a bank.
use Rattle.std.specs.Prelude.{◌≡◌, ◌<◌, List, map, length, Option, Some, None, All}
use Rattle.stt_core.specs.SimpleType.{SimpleType}
use Rattle.stt_core.specs.Lambda.{Constant, Lambda, constant, imp, eq, every, applied}
use Rattle.stt_core.specs.View.{the_head, the_type}
use Rattle.term_bank.specs.Content.{Content}
use Rattle.term_bank.specs.Terms.{term_at}
use Rattle.tableau_rules.specs.declared.part.Spine.{Spine}
use Rattle.tableau_rules.specs.declared.part.Sides.{Sides}
use Rattle.tableau_rules.specs.declared.part.Equation.{Equation}
use Rattle.tableau_rules.specs.declared.part.Quantified.{Quantified}

-- the term is this head with arguments at these places, or a function
abbrev pub IsSpineOf : Content → Lambda → Option Spine → Type 0
IsSpineOf b t (Some p) = (t ≡ applied (the_head p.head.now) (map (term_at b.terms) p.args.now)) × All (λ i. i < length b.terms) p.args.now
IsSpineOf b t None = (c : Constant) (us : List Lambda) → t ≡ applied (constant c) us → ⊥

-- the term is an implication with sides at these places, or none
abbrev pub IsImplicationOf : Content → Lambda → Option Sides → Type 0
IsImplicationOf b t (Some p) =
    (t ≡ imp (term_at b.terms p.left) (term_at b.terms p.right)) × (p.left < length b.terms) × (p.right < length b.terms)
IsImplicationOf b t None = (s u : Lambda) → t ≡ imp s u → ⊥

-- the term is an equation with sides at these places, or none
abbrev pub IsEquationOf : Content → Lambda → Option Equation → Type 0
IsEquationOf b t (Some e) =
    (t ≡ eq (the_type e.ty.now) (term_at b.terms e.left) (term_at b.terms e.right)) × (e.left < length b.terms) × (e.right < length b.terms)
IsEquationOf b t None = (a : SimpleType) (s u : Lambda) → t ≡ eq a s u → ⊥

-- the term says that the predicate at this place holds everywhere, or says no such thing
abbrev pub IsQuantifiedOf : Content → Lambda → Option Quantified → Type 0
IsQuantifiedOf b t (Some q) = (t ≡ every (the_type q.ty.now) (term_at b.terms q.predicate)) × (q.predicate < length b.terms)
IsQuantifiedOf b t None = (a : SimpleType) (f : Lambda) → t ≡ every a f → ⊥
