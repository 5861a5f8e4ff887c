-- Lines as they are written, piece by piece.
use Rattle.std.proofs.Common.{◌≡◌, ◌∙◌, ℕ, ◌+◌, List, [], ◌++◌, codes, decimal, ap}
use Rattle.problem_gen.specs.Chain.{predicate_letter, implication}

pub predicate_pieces : (k : ℕ) (digits : List ℕ) → digits ≡ decimal k → codes "thf(p" ++ (digits ++ (codes "_type,type,p" ++ (digits ++ (codes ": $i > $o).\n" ++ [])))) ≡ predicate_letter k
predicate_pieces k digits h = ap (λ (d : List ℕ). codes "thf(p" ++ (d ++ (codes "_type,type,p" ++ (d ++ codes ": $i > $o).\n")))) h

pub implication_pieces : (j : ℕ) (from to : List ℕ) → from ≡ decimal j → to ≡ decimal (j + 1) → codes "thf(a" ++ (to ++ (codes ",axiom,( ( p" ++ (from ++ (codes " @ c ) => ( ( ^ [X:$i] : ( p" ++ (to ++ (codes " @ X ) ) @ c ) )).\n" ++ [])))))) ≡ implication j
implication_pieces j from to h k =
    ap (λ (d : List ℕ). codes "thf(a" ++ (to ++ (codes ",axiom,( ( p" ++ (d ++ (codes " @ c ) => ( ( ^ [X:$i] : ( p" ++ (to ++ codes " @ X ) ) @ c ) )).\n")))))) h
    ∙ ap (λ (d : List ℕ). codes "thf(a" ++ (d ++ (codes ",axiom,( ( p" ++ (decimal j ++ (codes " @ c ) => ( ( ^ [X:$i] : ( p" ++ (d ++ codes " @ X ) ) @ c ) )).\n")))))) k
