-- No clause of an instance holds a variable twice.
use Rattle.std.specs.Prelude.{◌≡◌, ◌&&◌, ◌||◌, Bool, true, false, not, List, [], ◌∷◌, ◌++◌, map, filter, refl, if◌then◌else◌}
use Rattle.std.specs.Bool.{beq}
use Rattle.std.specs.List.{list_any}
use Rattle.std.proofs.Common.{ap₂, ◌∙◌, true≢false}
use Rattle.std.proofs.lemmas.List.Folds.{list_any-append}
use Rattle.sat_base.specs.declared.literal.SatLit.{SatLit}
use Rattle.sat_base.specs.Literal.{negated, same_literal, same_var, holds, mentions_variable, HoldsNoVariableTwice}
use Rattle.sat_base.proofs.LiteralLaws.{same_literal-comm}
use Rattle.search_spec.specs.Clauses.{choices, is_tautology, clause_of, instance_clauses}
use Rattle.tableau_calculus.specs.Kinds.{added}
use Rattle.search_spec.specs.Numbered.{numbers}
use Rattle.tableau_calculus.specs.Each.{Each}

-- no literal of the list is there twice
abbrev HasNoRepeat : List SatLit → Type 0
HasNoRepeat [] = Unit {0}
HasNoRepeat (l ∷ ls) = (holds ls l ≡ false) × HasNoRepeat ls

or-left : (a b : Bool) → (a || b) ≡ false → a ≡ false
or-left false b h = refl
or-left true b h = h

or-right : (a b : Bool) → (a || b) ≡ false → b ≡ false
or-right false b h = h
or-right true b h = absurd (true≢false h)

or-none : (a b : Bool) → a ≡ false → b ≡ false → (a || b) ≡ false
or-none a b h g = ap₂ (λ x y. x || y) h g

-- A literal is added where it isn't there.
end_new : (ls : List SatLit) (k : SatLit) → HasNoRepeat ls → holds ls k ≡ false → HasNoRepeat (ls ++ k ∷ [])
end_new [] k h e = (refl, tt)
end_new (l ∷ ls) k h e = (
  list_any-append (same_literal l) ls (k ∷ [])
      ∙ or-none (holds ls l) (same_literal l k || false) h.0 (or-none (same_literal l k) false (same_literal-comm l k ∙ or-left (same_literal k l) (holds ls k) e) refl),
  end_new ls k h.1 (or-right (same_literal k l) (holds ls k) e),
)

added_once : (ls ks : List SatLit) → HasNoRepeat ls → HasNoRepeat (added numbers ls ks)
added_once ls [] h = h
added_once ls (k ∷ ks) h = added_once (if holds ls k then ls else ls ++ k ∷ []) ks (go (holds ls k) refl)
  where
    go : (b : Bool) → holds ls k ≡ b → HasNoRepeat (if b then ls else ls ++ k ∷ [])
    go true e = h
    go false e = end_new ls k h e

-- A variable is there where a literal on it is.
either_sign : (l k : SatLit) → same_var l.var k.var ≡ (same_literal l k || same_literal (negated l) k)
either_sign l k = go (same_var l.var k.var) l.positive k.positive
  where
    go : (b s t : Bool) → b ≡ ((b && beq s t) || (b && beq (not s) t))
    go true true true = refl
    go true true false = refl
    go true false true = refl
    go true false false = refl
    go false s t = refl

mentions-either : (ls : List SatLit) (l : SatLit) → mentions_variable ls l.var ≡ (holds ls l || holds ls (negated l))
mentions-either [] l = refl
mentions-either (k ∷ ls) l = ap₂ (λ x y. x || y) (either_sign l k) (mentions-either ls l) ∙ shuffle (same_literal l k) (same_literal (negated l) k) (holds ls l) (holds ls (negated l))
  where
    shuffle : (a b x y : Bool) → ((a || b) || (x || y)) ≡ ((a || x) || (b || y))
    shuffle true b x y = refl
    shuffle false true true y = refl
    shuffle false true false y = refl
    shuffle false false x y = refl

any-less : (q p : SatLit → Bool) (xs : List SatLit) → list_any (λ k. q k || p k) xs ≡ false → list_any p xs ≡ false
any-less q p [] h = refl
any-less q p (x ∷ xs) h =
    or-none (p x) (list_any p xs) (or-right (q x) (p x) (or-left (q x || p x) (list_any (λ k. q k || p k) xs) h)) (any-less q p xs (or-right (q x || p x) (list_any (λ k. q k || p k) xs) h))

no_variable_twice : (ls : List SatLit) → HasNoRepeat ls → is_tautology numbers ls ≡ false → HoldsNoVariableTwice ls
no_variable_twice [] h e = tt
no_variable_twice (l ∷ ls) h e =
    let opposite : holds ls (negated l) ≡ false = or-right (same_literal (negated l) l) (holds ls (negated l)) (or-left (holds (l ∷ ls) (negated l)) (list_any (λ k. holds (l ∷ ls) (negated k)) ls) e) in
    let rest : list_any (λ k. holds ls (negated k)) ls ≡ false = any-less (λ k. same_literal (negated k) l) (λ k. holds ls (negated k)) ls (or-right (holds (l ∷ ls) (negated l)) (list_any (λ k. holds (l ∷ ls) (negated k)) ls) e) in
    (mentions-either ls l ∙ or-none (holds ls l) (holds ls (negated l)) h.0 opposite, no_variable_twice ls h.1 rest)

kept_once : (ps : List SatLit) (cs : List (List SatLit)) → Each HoldsNoVariableTwice (filter (λ c. not (is_tautology numbers c)) (map (clause_of numbers ps) cs))
kept_once ps [] = tt
kept_once ps (c ∷ cs) = go (is_tautology numbers (clause_of numbers ps c)) refl (kept_once ps cs)
  where
    go : (b : Bool) → is_tautology numbers (clause_of numbers ps c) ≡ b → Each HoldsNoVariableTwice (filter (λ d. not (is_tautology numbers d)) (map (clause_of numbers ps) cs)) → Each HoldsNoVariableTwice (if not b then clause_of numbers ps c ∷ filter (λ d. not (is_tautology numbers d)) (map (clause_of numbers ps) cs) else filter (λ d. not (is_tautology numbers d)) (map (clause_of numbers ps) cs))
    go true e rest = rest
    go false e rest = (no_variable_twice (clause_of numbers ps c) (added_once [] (map negated ps ++ c) tt) e, rest)

-- No clause of an instance holds a variable twice.
pub instance_variables : (ps : List SatLit) (as' : List (List SatLit)) → Each HoldsNoVariableTwice (instance_clauses numbers ps as')
instance_variables ps as' = kept_once ps (choices as')
