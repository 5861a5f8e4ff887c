-- What one more declared name changes.
use Rattle.std.proofs.Common.{◌≡◌, ℕ, ◌+◌, Bool, not, true, false, cond, List, [], ◌∷◌, ◌++◌, length, Option, Some, None, position, refl, ap, ap₂, arith}
use Rattle.std.proofs.lemmas.Grind.{common_steps}
use Rattle.std.proofs.lemmas.List.Folds.{position_or_len_push}
use Rattle.std.proofs.lemmas.List.Sums.{prefix_len-le-length}
use Rattle.std.specs.Str.{bytes_eq}
use Rattle.std.specs.Cmp.Lexicographic.{nat_list_eq_equiv}
use Rattle.stt_core.specs.TypedName.{TypedName}
use Rattle.stt_core.specs.Signature.{symbol_named, first_symbol}
use Rattle.stt_core.specs.declared.signature.Symbol.TheVariants.{Base, Const}
use Rattle.stt_core.proofs.Maps.{by_bytes}

position_push-here : {X : Type 0} (p : X → Bool) (xs : List X) (y : X) → position p xs ≡ None → p y ≡ true → position p (xs ++ y ∷ []) ≡ Some (length xs)
position_push-here p xs y h e = grind (arith, common_steps, position_or_len_push p xs y, prefix_len-le-length (λ x. not (p x)) xs)

position_push-other : {X : Type 0} (p : X → Bool) (xs : List X) (y : X) → p y ≡ false → position p (xs ++ y ∷ []) ≡ position p xs
position_push-other p xs y e = grind (arith, common_steps, position_or_len_push p xs y, prefix_len-le-length (λ x. not (p x)) xs)

-- a name that stands for nothing stands in neither list
pub fresh : (a b : Option ℕ) → first_symbol a b ≡ None → (a ≡ None) × (b ≡ None)
fresh None None h = (refl, refl)
fresh None (Some i) h = cc
fresh (Some i) b h = cc

pub symbol_named-base : (bases : List (List ℕ)) (consts : List TypedName) (name : List ℕ) → symbol_named bases consts name ≡ None
    → (q : List ℕ) → symbol_named (bases ++ name ∷ []) consts q ≡ cond (bytes_eq name q) (Some (Base (length bases + 2))) (symbol_named bases consts q)
symbol_named-base bases consts name h =
    let at = position (λ b. bytes_eq b name) bases in
    let c = position (λ c. bytes_eq c.name name) consts in
    by_bytes (symbol_named bases consts) (symbol_named (bases ++ name ∷ []) consts) name (Some (Base (length bases + 2)))
    (ap (λ o. first_symbol o c) (position_push-here (λ b. bytes_eq b name) bases name (fresh at c h).0 (nat_list_eq_equiv.refl name)))
    (λ cs e. ap (λ o. first_symbol o (position (λ c. bytes_eq c.name cs) consts)) (position_push-other (λ b. bytes_eq b cs) bases name e))

pub symbol_named-const : (bases : List (List ℕ)) (consts : List TypedName) (d : TypedName) → symbol_named bases consts d.name ≡ None
    → (q : List ℕ) → symbol_named bases (consts ++ d ∷ []) q ≡ cond (bytes_eq d.name q) (Some (Const (length consts))) (symbol_named bases consts q)
symbol_named-const bases consts d h =
    let at = position (λ b. bytes_eq b d.name) bases in
    let c = position (λ c. bytes_eq c.name d.name) consts in
    by_bytes (symbol_named bases consts) (symbol_named bases (consts ++ d ∷ [])) d.name (Some (Const (length consts)))
    (ap₂ first_symbol (fresh at c h).0 (position_push-here (λ c. bytes_eq c.name d.name) consts d (fresh at c h).1 (nat_list_eq_equiv.refl d.name)))
    (λ cs e. ap (first_symbol (position (λ b. bytes_eq b cs) bases)) (position_push-other (λ c. bytes_eq c.name cs) consts d e))
