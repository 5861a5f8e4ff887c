use Rattle.std.proofs.Common.{◌≡◌, false, Bool, List, [], ◌∷◌, ◌++◌, ap, sym, subst, ◌∙◌, append_assoc}
use Rattle.sat_propagate.specs.Internal.Trail.{AreDenials}
use Rattle.sat_propagate.proofs.TableLaws.{denied_longer}
use Rattle.sat_propagate.proofs.values.Values.add_variable.Goals as goal

pub invariant_of-self-2 : goal.invariant_of-self-2
invariant_of-self-2 c =
    let denials = c.self.inside.denials.items in
    let values = c.self.inside.bytes.items in
    let more : c.push_reserved-2.new.self.items ≡ denials ++ false ∷ false ∷ [] =
    c.push_reserved-2.ensures.items
    ∙ ap (λ (list : List Bool). list ++ false ∷ []) (c.push_reserved.ensures.items ∙ ap (λ (list : List Bool). list ++ false ∷ []) c.reserve-2.ensures.items)
    ∙ append_assoc denials (false ∷ []) (false ∷ []) in
    let longer : c.push_reserved-4.new.self.items ≡ values ++ false ∷ false ∷ [] =
    c.push_reserved-4.ensures.items
    ∙ ap (λ (list : List Bool). list ++ false ∷ []) (c.push_reserved-3.ensures.items ∙ ap (λ (list : List Bool). list ++ false ∷ []) c.reserve.ensures.items)
    ∙ append_assoc values (false ∷ []) (false ∷ []) in
    subst (λ (list : List Bool). AreDenials c.push_reserved-2.new.self.items list) (sym longer)
    (subst (λ (list : List Bool). AreDenials list (values ++ false ∷ false ∷ [])) (sym more) (denied_longer denials values c.self.invariant))
