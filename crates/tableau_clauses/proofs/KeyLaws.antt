-- Clauses as lists of numbers.
use Rattle.std.proofs.Common.{◌≡◌, ℕ, List, [], ◌∷◌, ◌++◌, map, ap, ◌∙◌}
use Rattle.std.proofs.lemmas.List.{map-append}
use Rattle.sat_base.specs.declared.literal.SatLit.{SatLit}
use Rattle.sat_laws.specs.Internal.Packing.{packed, unpacked}
use Rattle.sat_laws.proofs.PackingLaws.{unpacked-packed}

pub decoded_more : (ns : List ℕ) (n : ℕ) → map unpacked (ns ++ n ∷ []) ≡ map unpacked ns ++ unpacked n ∷ []
decoded_more ns n = map-append unpacked ns (n ∷ [])

pub coded_more : (ns : List ℕ) (l : SatLit) → map unpacked (ns ++ packed l ∷ []) ≡ map unpacked ns ++ l ∷ []
coded_more ns l = map-append unpacked ns (packed l ∷ []) ∙ ap (λ k. map unpacked ns ++ k ∷ []) (unpacked-packed l)
