use Rattle.std.proofs.Common.{◌≡◌, ◌<◌, ◌++◌, [], ◌∷◌, List, length, sym, ap, subst, ◌∙◌, arith}
use Rattle.std.proofs.lemmas.Grind.{common_steps}
use Rattle.std.proofs.lemmas.List.Elements.{All-append, All-cons, All-nil}
use Rattle.sat_base.specs.declared.literal.SatLit.{SatLit}
use Rattle.sat_base.specs.Literal.{IsOver}
use Rattle.plain_tableau.specs.Internal.Due.{AreDue}
use Rattle.plain_tableau.proofs.DueLaws.{IsRefreshed, due_with}
use Rattle.plain_tableau.proofs.NotedLaws.{places_in, listed_in}
use Rattle.plain_tableau.proofs.path.Path.push.Goals as goal

pub refresh-requires-clause-places : goal.refresh-requires-clause-places
refresh-requires-clause-places c =
    let p = c.requires.path in
    let v = c.args.lit.var.0 in
    places_in c.args.used.now c.args.self.now.noted.items v c.index.result.now c.as_slice-places.result.now p.places (subst (λ n. v < n) (sym p.counted) c.requires.over) c.index.ensures c.as_slice-places.ensures

pub returns-in_ok-refresh-clause-path : goal.returns-in_ok-refresh-clause-path
returns-in_ok-refresh-clause-path c =
    let p = c.requires.path in
    let l = c.args.lit in
    let t = c.args.steps.now in
    let used = c.args.used.now in
    let old = c.args.self.now.literals.keys in
    let noted = c.args.self.now.noted.items in
    let inside = subst (λ n. l.var.0 < n) (sym p.counted) c.requires.over in
    let pushed : c.insert.new.self.keys ≡ old ++ l ∷ [] = grind (arith, common_steps, c.in_ok-insert.ensures.keys, c.in_ok-insert.ensures.added, c.if-branch.true) in
    let Small = λ (k : SatLit). k.var.0 < c.args.count in
    let places = c.as_slice-places.result.now in
    let listed = listed_in noted l.var.0 c.index.result.now places inside c.index.ensures c.as_slice-places.ensures in
    let right = subst (λ ks. IsRefreshed t used noted p.noted places l listed ks c.args.self.now.due c.refresh.new.due) pushed c.in_ok-refresh.ensures.right in
    record {
      over = subst (IsOver c.args.count) (sym pushed) (All-append Small old (l ∷ []) p.over (All-cons Small l [] c.requires.over (All-nil Small)));
      counted = p.counted;
      noted = p.noted;
      places = p.places;
      due = subst (λ ks. AreDue t used ks c.refresh.new.due) (sym pushed) (due_with t used noted p.noted places l listed old c.args.self.now.due c.refresh.new.due p.due right);
      inside = c.in_ok-refresh.ensures.inside p.inside;
    }
