use Rattle.std.proofs.Common.{◌≡◌, ◌↔◌, Bool, false, IsTrue, sym, ap, ap₂, ◌∙◌}
use Rattle.stt_core.specs.SimpleType.{SimpleType, same_type}
use Rattle.stt_core.specs.Lambda.{Lambda}
use Rattle.stt_core.specs.View.{the_type}
use Rattle.stt_core.proofs.TypeLaws.{same_type-true, differ_type}
use Rattle.tableau_calculus.specs.Witnesses.{Row}
use Rattle.stt_tableau.proofs.quantifier.is_row_of.Goals as goal

of_same_type : (q r : Row) (a : SimpleType) (f : Lambda) (b : Bool) → q ≡ r → q.type ≡ a → (IsTrue b ↔ q.predicate ≡ f) → IsTrue b ↔ r ≡ record { type = a; predicate = f }
of_same_type q r a f b same is t =
    (λ h. sym same ∙ ap₂ (λ x y. record { type = x; predicate = y }) is (t.0 h), λ k. t.1 (ap (λ x. x.predicate) (same ∙ k)))

of_other_type : (q r : Row) (a : SimpleType) (f : Lambda) → q ≡ r → same_type q.type a ≡ false → IsTrue false ↔ r ≡ record { type = a; predicate = f }
of_other_type q r a f same n = (λ h. cc, λ k. absurd (differ_type q.type a n (ap (λ x. x.type) (same ∙ k))))

pub returns-then-same : goal.returns-then-same
returns-then-same c =
    let q : Row = record { type = the_type c.row.inside.ty; predicate = c.row.inside.predicate } in
    let i = c.args.quantified.now in
    of_same_type q c.args.row.now (the_type i.ty.now) i.predicate.now c.same_nf.result c.row.view_is (same_type-true (the_type c.row.inside.ty) (the_type i.ty.now) (sym c.same.ensures ∙ c.if-same.true)) c.same_nf.ensures

pub returns-else-same : goal.returns-else-same
returns-else-same c =
    let q : Row = record { type = the_type c.row.inside.ty; predicate = c.row.inside.predicate } in
    let i = c.args.quantified.now in
    of_other_type q c.args.row.now (the_type i.ty.now) i.predicate.now c.row.view_is (sym c.same.ensures ∙ c.if-same.false)
