-- Texts with a separator between them.
use Rattle.std.proofs.Common.{◌≡◌, ℕ, ◌-◌, ◌≤◌, List, [], ◌∷◌, ◌++◌, length, map, take, drop, get_or, sym, ap₂, arith}
use Rattle.std.specs.List.{flat_map}
use Rattle.std.proofs.lemmas.List.{take_all}
use Rattle.thf_syntax.specs.Texts.{separated}

-- texts with a separator between them are the first one and the others, each behind a separator
pub separated-first : {X Y : Type 0} (separator : List ℕ) (v : Y → List ℕ) (w : X → Y) (xs : List X) (x : X) → 1 ≤ length xs → x ≡ get_or xs 0 x
    → separated separator (map v (map w xs)) ≡ v (w x) ++ flat_map (λ t. separator ++ t) (map v (map w (take (length xs - 1) (drop 1 xs))))
separated-first separator v w [] x some is = absurd (omega arith)
separated-first separator v w (y ∷ ys) x some is =
    let all : take (length (y ∷ ys) - 1) ys ≡ ys = take_all (length (y ∷ ys) - 1) ys (omega arith) in
    ap₂ (λ z zs. v (w z) ++ flat_map (λ t. separator ++ t) (map v (map w zs))) (sym is) (sym all)
