use Rattle.std.proofs.Common.{inl, inr, List, Option, Some, None, IsTrue, drop, sym, subst}
use Rattle.std.specs.Prelude.{IfSome, IfNone}
use Rattle.sat_base.specs.declared.literal.SatLit.{SatLit}
use Rattle.sat_base.specs.Literal.{holds}
use Rattle.sat_propagate.proofs.ListLaws.{held_take, held_drop, held_parts, from_on}
use Rattle.sat_propagate.proofs.propagator.Propagator.replacement_in.Goals as goal

pub returns-in-Some-clause-member : goal.returns-in-Some-clause-member
returns-in-Some-clause-member c = λ watched at.
    held_take 6 watched.clause c.in-Some.literal (subst (λ (some : List SatLit). IsTrue (holds some c.in-Some.literal)) (c.near.ensures watched at) c.in-Some.ensures.some.0)

some_weaker : (r : Option SatLit) (P Q : SatLit → Type 0) → ((l : SatLit) → P l → Q l) → IfSome r P → IfSome r Q
some_weaker (Some l) P Q weaker p = weaker l p
some_weaker None P Q weaker p = tt

pub returns-clause-member : goal.returns-clause-member
returns-clause-member c =
    some_weaker c.replacement-2.result _ _
    (λ l found watched at. held_drop 6 watched.clause l
    (subst (λ (some : List SatLit). IsTrue (holds (drop 6 some) l)) (c.literals-literals.ensures watched at)
    (subst (λ (some : List SatLit). IsTrue (holds some l)) (from_on 6 c.literals-literals.result.now) found.0)))
    c.replacement-2.ensures.some

none_weaker : (r : Option SatLit) (P Q : Type 0) → (P → Q) → IfNone r P → IfNone r Q
none_weaker (Some l) P Q weaker p = tt
none_weaker None P Q weaker p = weaker p

pub returns-clause-none : goal.returns-clause-none
returns-clause-none c =
    none_weaker c.replacement-2.result _ _
    (λ far watched at l h apart. elim (held_parts 6 watched.clause l h) [
      | inl near ↦ c.in_default.ensures.none l (subst (λ (some : List SatLit). IsTrue (holds some l)) (sym (c.near.ensures watched at)) near) apart
      | inr late ↦ far l
          (subst (λ (some : List SatLit). IsTrue (holds some l)) (sym (from_on 6 c.literals-literals.result.now))
          (subst (λ (some : List SatLit). IsTrue (holds (drop 6 some) l)) (sym (c.literals-literals.ensures watched at)) late)) apart
    ])
    c.replacement-2.ensures.none
