-- Facts about the order in which variables are proposed.
use Rattle.std.proofs.Common.{◌≡◌, ◌<◌, ◌≤◌, ◌+◌, ◌-◌, ◌/◌, ◌^◌, ℕ, zero, suc, Bool, List, [], ◌∷◌, length, take, get_or, set, refl, sym, ap, ◌∙◌, arith, min}
use Rattle.std.proofs.lemmas.List.{map-set, length-map, get_or-map}
use Rattle.sat_propagate.specs.declared.decider.Standing.{Standing}
use Rattle.sat_base.specs.declared.literal.Var.{Var}
use Rattle.sat_propagate.specs.Internal.Decider.{wished, scores, with_gain, with_gains, scaled_down}

-- a write of a standing whose score has gained
pub gain-set : (xs : List Standing) (v : Var) (g : ℕ) (d old y : Standing) → v.0 < length xs → old ≡ get_or xs v.0 d → y.score ≡ min (old.score + g) (2 ^ 64 - 1) → scores (set xs v.0 y) ≡ with_gain (scores xs) v g
gain-set xs v g d old y h there e =
    map-set (λ (s : Standing). s.score) xs v.0 y
    ∙ ap (λ k. set (scores xs) v.0 k) (e ∙ ap (λ k. min (k + g) (2 ^ 64 - 1)) (ap (λ (s : Standing). s.score) there ∙ sym (get_or-map (λ (s : Standing). s.score) xs v.0 d 0 h)))

gains-next : (ns : List ℕ) (vs : List Var) (k g : ℕ) (d : Var) → k < length vs → with_gain (with_gains ns (take k vs) g) (get_or vs k d) g ≡ with_gains ns (take (suc k) vs) g
gains-next ns [] k g d h = absurd (omega arith)
gains-next ns (w ∷ vs) zero g d h = refl
gains-next ns (w ∷ vs) (suc k) g d h = gains-next (with_gain ns w g) vs k g d (omega arith)

-- one variable more gains
pub gains_on : (ns now : List ℕ) (vs : List Var) (k g gain : ℕ) (d : Var) → k < length vs → gain ≡ g → now ≡ with_gains ns (take k vs) g → with_gain now (get_or vs k d) gain ≡ with_gains ns (take (k + 1) vs) g
gains_on ns now vs k g gain d h same so =
    let long : suc k ≡ k + 1 = omega arith in
    ap (λ n. with_gain now (get_or vs k d) n) same ∙ ap (λ (ms : List ℕ). with_gain ms (get_or vs k d) g) so ∙ gains-next ns vs k g d h
    ∙ ap (λ n. with_gains ns (take n vs) g) long

-- so many of the first scores divided
abbrev pub scaled_first : ℕ → List ℕ → List ℕ
scaled_first zero ns = ns
scaled_first (suc k) [] = []
scaled_first (suc k) (n ∷ ns) = n / 1099511627776 ∷ scaled_first k ns

scaled_first-all : (ns : List ℕ) (k : ℕ) → length ns ≤ k → scaled_first k ns ≡ scaled_down ns
scaled_first-all [] zero h = refl
scaled_first-all [] (suc k) h = refl
scaled_first-all (n ∷ ns) zero h = absurd (omega arith)
scaled_first-all (n ∷ ns) (suc k) h = ap (λ (rest : List ℕ). n / 1099511627776 ∷ rest) (scaled_first-all ns k (omega arith))

scaled_first-next : (ns : List ℕ) (k d : ℕ) → k < length ns → set (scaled_first k ns) k (get_or (scaled_first k ns) k d / 1099511627776) ≡ scaled_first (suc k) ns
scaled_first-next [] k d h = absurd (omega arith)
scaled_first-next (n ∷ ns) zero d h = refl
scaled_first-next (n ∷ ns) (suc k) d h = ap (λ (rest : List ℕ). n / 1099511627776 ∷ rest) (scaled_first-next ns k d (omega arith))

scaled_first-length : (ns : List ℕ) (k : ℕ) → length (scaled_first k ns) ≡ length ns
scaled_first-length ns zero = refl
scaled_first-length [] (suc k) = refl
scaled_first-length (n ∷ ns) (suc k) = ap suc (scaled_first-length ns k)

-- one score more is divided
pub scaled-set : (zs xs : List Standing) (k : ℕ) (d old y : Standing) → k < length zs → scores xs ≡ scaled_first k (scores zs) → old ≡ get_or xs k d → y.score ≡ old.score / 1099511627776 → scores (set xs k y) ≡ scaled_first (k + 1) (scores zs)
scaled-set zs xs k d old y within so there e =
    let long : suc k ≡ k + 1 = omega arith in
    let same : length xs ≡ length zs = sym (length-map xs (λ (s : Standing). s.score)) ∙ ap length so ∙ scaled_first-length (scores zs) k ∙ length-map zs (λ (s : Standing). s.score) in
    let h : k < length xs = omega (arith, within, same) in
    let in_scores : k < length (scores zs) = omega (arith, within, length-map zs (λ (s : Standing). s.score)) in
    map-set (λ (s : Standing). s.score) xs k y
    ∙ ap (λ n. set (scores xs) k n) (e ∙ ap (λ n. n / 1099511627776) (ap (λ (s : Standing). s.score) there ∙ sym (get_or-map (λ (s : Standing). s.score) xs k d 0 h)))
    ∙ ap (λ ms. set ms k (get_or ms k 0 / 1099511627776)) so
    ∙ scaled_first-next (scores zs) k 0 in_scores
    ∙ ap (λ n. scaled_first n (scores zs)) long

-- all scores are divided
pub scaled-all : (zs xs : List Standing) (k : ℕ) → scores xs ≡ scaled_first k (scores zs) → length zs ≤ k → scores xs ≡ scaled_down (scores zs)
scaled-all zs xs k so h = so ∙ scaled_first-all (scores zs) k (omega (arith, h, length-map zs (λ (s : Standing). s.score)))

pub wished-none : (ss : List Bool) → wished ss [] ≡ ss
wished-none [] = refl
wished-none (s ∷ ss) = refl

-- one value more
pub wished-next : (ss vs : List Bool) (i : ℕ) (d : Bool) → i < length vs → set (wished ss (take i vs)) i (get_or vs i d) ≡ wished ss (take (suc i) vs)
wished-next [] vs i d h = refl
wished-next (s ∷ ss) [] i d h = absurd (omega arith)
wished-next (s ∷ ss) (v ∷ vs) zero d h = ap (λ (rest : List Bool). v ∷ rest) (sym (wished-none ss))
wished-next (s ∷ ss) (v ∷ vs) (suc i) d h = ap (λ (rest : List Bool). v ∷ rest) (wished-next ss vs i d (omega arith))

-- the same of a list that has the values so far
pub wished_on : (ss vs now new : List Bool) (i : ℕ) (d : Bool) → i < length vs → now ≡ wished ss (take i vs) → new ≡ set now i (get_or vs i d) → new ≡ wished ss (take (i + 1) vs)
wished_on ss vs now new i d h so e =
    let long : suc i ≡ i + 1 = omega arith in
    e ∙ ap (λ (list : List Bool). set list i (get_or vs i d)) so ∙ wished-next ss vs i d h ∙ ap (λ (n : ℕ). wished ss (take n vs)) long
