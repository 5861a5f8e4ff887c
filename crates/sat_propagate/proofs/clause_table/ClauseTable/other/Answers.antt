use Rattle.std.proofs.Common.{◌≡◌, ◌≢◌, true, false, sym, ap, subst, ◌∙◌}
use Rattle.std.proofs.lemmas.Bool.{false≢true}
use Rattle.std.proofs.lemmas.Option.{same_Some}
use Rattle.sat_base.specs.declared.literal.SatLit.{SatLit}
use Rattle.sat_base.specs.Literal.{same_literal}
use Rattle.sat_base.proofs.LiteralLaws.{same_literal-true, same_literal-refl}
use Rattle.sat_propagate.specs.Internal.ClauseTable.{Watched, with_head}
use Rattle.sat_propagate.proofs.ClauseTableLaws.{headed-found}
use Rattle.sat_propagate.proofs.clause_table.ClauseTable.other.Goals as goal

apart : (l m : SatLit) → same_literal l m ≡ false → l ≢ m
apart l m differs e = false≢true (sym differs ∙ subst (λ (n : SatLit). same_literal l n ≡ true) e (same_literal-refl l))

pub returns-then-is_detached-clause-none : goal.returns-then-is_detached-clause-none
returns-then-is_detached-clause-none c = λ watched at.
    let head = c.in_ok-head.head.now in
    let same : with_head c.self.inside.literals.items head ≡ watched = same_Some _ _ (sym (headed-found c.args.self.now c.self.inside.literals.items c.self.inside.heads.items c.deref.result.now c.args.n c.in_ok-head.head.now c.self.view_is c.deref.ensures.value c.in_ok-head.ensures.lookup.0 c.in_ok-head.ensures.lookup.1) ∙ at) in
    ap (λ (w : Watched). w.first) (sym same) ∙ same_literal-true head.first head.second (sym c.is-is_detached.ensures ∙ c.if-is_detached.true) ∙ ap (λ (w : Watched). w.second) same

pub returns-clause-some : goal.returns-clause-some
returns-clause-some c = (
  with_head c.self.inside.literals.items c.in_ok-head.head.now,
  headed-found c.args.self.now c.self.inside.literals.items c.self.inside.heads.items c.deref.result.now c.args.n c.in_ok-head.head.now c.self.view_is c.deref.ensures.value c.in_ok-head.ensures.lookup.0 c.in_ok-head.ensures.lookup.1,
  apart c.in_ok-head.head.now.first c.in_ok-head.head.now.second (sym c.is-is_detached.ensures ∙ c.if-is_detached.false),
  c.beside.ensures c.self.inside.literals.items,
)
