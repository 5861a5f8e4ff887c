-- What is accepted has names.
use Rattle.std.proofs.Common.{◌≡◌, suc, List, [], ◌∷◌, ℕ, map, length, refl, ap}
use Rattle.stt_core.specs.TypedName.{TypedName}
use Rattle.tableau_calculus.specs.Literals.{Literal}
use Rattle.tableau_calculus.specs.Accepted.{IsAccepted}
use Rattle.tableau_calculus.specs.declared.refutation.Refutation.{Refutation}
use Rattle.refute_print.specs.Named.{names_of, IsNamed}
use Rattle.request_answers.proofs.NameLaws.{accepted_named}

same_length : (cs : List TypedName) → length (map (λ c. c.type) cs) ≡ length (map (λ c. c.name) cs)
same_length [] = refl
same_length (c ∷ cs) = ap suc (same_length cs)

pub declared_named : (bases : List (List ℕ)) (consts : List TypedName) (start : List Literal) (r : Refutation) → IsAccepted (record { bases = length bases; names = map (λ c. c.type) consts; witnesses = [] }) start r → IsNamed (names_of bases consts) r
declared_named bases consts start r h =
    accepted_named (names_of bases consts) (record { bases = length bases; names = map (λ c. c.type) consts; witnesses = [] }) (record { bases = refl; constants = same_length consts }) start r h
