use Rattle.std.proofs.Common.{◌≡◌, ◌≢◌, true, false, sym, ap, subst, ◌∙◌}
use Rattle.std.proofs.lemmas.Bool.{false≢true}
use Rattle.std.proofs.lemmas.Option.{same_Some}
use Rattle.sat_base.specs.declared.literal.SatLit.{SatLit}
use Rattle.sat_base.specs.Literal.{same_literal}
use Rattle.sat_base.proofs.LiteralLaws.{same_literal-true, same_literal-refl}
use Rattle.sat_propagate.specs.Internal.ClauseTable.{Watched, with_head}
use Rattle.sat_propagate.proofs.ClauseTableLaws.{headed-found, headed-none}
use Rattle.sat_propagate.proofs.clause_table.ClauseTable.is_detached.Goals as goal

apart : (l m : SatLit) → same_literal l m ≡ false → l ≢ m
apart l m differs e = false≢true (sym differs ∙ subst (λ (n : SatLit). same_literal l n ≡ true) e (same_literal-refl l))

pub returns-in-Some-clause-yes : goal.returns-in-Some-clause-yes
returns-in-Some-clause-yes c = λ named. (
  with_head c.self.inside.literals.items c.in-Some.head.now,
  headed-found c.args.self.now c.self.inside.literals.items c.self.inside.heads.items c.deref.result.now c.args.n c.in-Some.head.now c.self.view_is c.deref.ensures.value c.in-Some.ensures.lookup.0 c.in-Some.ensures.lookup.1,
  same_literal-true c.in-Some.head.now.first c.in-Some.head.now.second (sym c.is.ensures ∙ named),
)

pub returns-in-Some-clause-no : goal.returns-in-Some-clause-no
returns-in-Some-clause-no c = λ differs watched at e.
    let head = c.in-Some.head.now in
    let same : with_head c.self.inside.literals.items head ≡ watched = same_Some _ _ (sym (headed-found c.args.self.now c.self.inside.literals.items c.self.inside.heads.items c.deref.result.now c.args.n c.in-Some.head.now c.self.view_is c.deref.ensures.value c.in-Some.ensures.lookup.0 c.in-Some.ensures.lookup.1) ∙ at) in
    apart head.first head.second (sym c.is.ensures ∙ differs) (ap (λ (w : Watched). w.first) same ∙ e ∙ sym (ap (λ (w : Watched). w.second) same))

pub returns-in-None-clause-no : goal.returns-in-None-clause-no
returns-in-None-clause-no c = λ differs watched at e.
    headed-none c.args.self.now c.self.inside.literals.items c.self.inside.heads.items c.deref.result.now c.args.n watched c.self.view_is c.deref.ensures.value c.in-None.ensures.lookup.0 at
