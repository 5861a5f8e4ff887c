use Rattle.std.proofs.Common.{◌≡◌, inl, inr, List, subst, sym, ap, ◌∙◌, ◌-◌, arith}
use Rattle.std.proofs.lemmas.Option.{slice_get_cases}
use Rattle.sat_base.specs.declared.literal.SatLit.{SatLit}
use Rattle.sat_base.specs.Literal.{holds}
use Rattle.sat_laws.specs.Internal.Complete.{IsClausePart}
use Rattle.sat_propagate.proofs.DetachLaws.{right_detached}
use Rattle.sat_propagate.proofs.propagator.Propagator.detach_covered.Goals as goal

pub returns-then-is_proper_part-clause-right : goal.returns-then-is_proper_part-clause-right
returns-then-is_proper_part-clause-right c =
    let self = c.args.self.now in
    let changed = c.detach.ensures in
    let last = c.len-count.result - 1 in
    let clause_is : c.literals-clause.result.now ≡ changed.old.clause = c.literals-clause.ensures changed.old changed.was in
    let among : IsClausePart c.literals-part.result.now c.literals-clause.result.now = c.is_proper_part.ensures.among c.if-is_proper_part.true in
    let more = c.is_proper_part.ensures.more c.if-is_proper_part.true in
    elim ((slice_get_cases self.clauses.items last).1) [
      | inl found ↦
          let part_is : c.literals-part.result.now ≡ found.0.clause = c.literals-part.ensures found.0 found.2 in
          right_detached self.trail self.processed self.clauses.items c.detach.new.self.items self.lists c.args.n last found.0 more.0 changed found.2
          (subst (λ (some : List SatLit). IsClausePart some changed.old.clause) part_is (subst (λ (some : List SatLit). IsClausePart c.literals-part.result.now some) clause_is among))
          (ap (λ (some : List SatLit). holds some more.0) (sym clause_is) ∙ more.1) (ap (λ (some : List SatLit). holds some more.0) (sym part_is) ∙ more.2) c.requires.right
      | inr past ↦ let outside = past.0 in absurd (omega (arith, c.len-count.ensures))
    ]

pub returns-then-is_proper_part-clause-texts : goal.returns-then-is_proper_part-clause-texts
returns-then-is_proper_part-clause-texts c = c.detach.ensures.texts_same
