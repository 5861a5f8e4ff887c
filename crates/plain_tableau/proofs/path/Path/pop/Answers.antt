use Rattle.std.proofs.Common.{◌≡◌, ◌<◌, ◌+◌, ◌++◌, [], ◌∷◌, ℕ, List, length, get_or, length-append, sym, ap, subst, ◌∙◌, arith}
use Rattle.std.proofs.Math.ListN.{get_or-append}
use Rattle.std.proofs.Math.Seq.{get_or-append_seam}
use Rattle.sat_base.specs.declared.literal.SatLit.{SatLit}
use Rattle.sat_base.specs.Literal.{IsOver}
use Rattle.plain_tableau.specs.Internal.Due.{AreDue}
use Rattle.plain_tableau.proofs.DueLaws.{IsRefreshed, due_without}
use Rattle.plain_tableau.proofs.NotedLaws.{places_in, listed_in}
use Rattle.plain_tableau.proofs.path.Path.pop.Goals as goal

front_over : (n : ℕ) (xs : List SatLit) (l : SatLit) → IsOver n (xs ++ l ∷ []) → IsOver n xs
front_over n xs l h k d below =
    let more : k < length (xs ++ l ∷ []) = omega (arith, length-append xs (l ∷ []), below) in
    subst (λ (x : SatLit). x.var.0 < n) (get_or-append xs (l ∷ []) d k below) (h k d more)

last_over : (n : ℕ) (xs : List SatLit) (l : SatLit) → IsOver n (xs ++ l ∷ []) → l.var.0 < n
last_over n xs l h =
    let more : length xs < length (xs ++ l ∷ []) = omega (arith, length-append xs (l ∷ [])) in
    subst (λ (x : SatLit). x.var.0 < n) (get_or-append_seam xs l [] l) (h (length xs) l more)

pub refresh-requires-clause-places : goal.refresh-requires-clause-places
refresh-requires-clause-places c =
    let p = c.requires.path in
    let l = c.in-Some.lit in
    let small = last_over c.args.count c.pop.new.self.keys l (subst (IsOver c.args.count) c.in-Some.ensures.keys p.over) in
    places_in c.args.used.now c.args.self.now.noted.items l.var.0 c.index.result.now c.as_slice-places.result.now p.places (subst (λ n. l.var.0 < n) (sym p.counted) small) c.index.ensures c.as_slice-places.ensures

pub returns-clause-path : goal.returns-clause-path
returns-clause-path c =
    let p = c.requires.path in
    let l = c.in-Some.lit in
    let t = c.args.steps.now in
    let used = c.args.used.now in
    let now = c.pop.new.self.keys in
    let noted = c.args.self.now.noted.items in
    let was : c.args.self.now.literals.keys ≡ now ++ l ∷ [] = c.in-Some.ensures.keys in
    let over = subst (IsOver c.args.count) was p.over in
    let small = last_over c.args.count now l over in
    let places = c.as_slice-places.result.now in
    let listed = listed_in noted l.var.0 c.index.result.now places (subst (λ n. l.var.0 < n) (sym p.counted) small) c.index.ensures c.as_slice-places.ensures in
    let ensures = c.in_ok-refresh-in-Some.ensures in
    record {
      over = front_over c.args.count now l over;
      counted = p.counted;
      noted = p.noted;
      places = p.places;
      due = due_without t used noted p.noted places l listed now c.args.self.now.due c.refresh.new.due (subst (λ ks. AreDue t used ks c.args.self.now.due) was p.due) ensures.right;
      inside = ensures.inside p.inside;
    }
