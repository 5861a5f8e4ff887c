-- Literals under heads.
use Rattle.std.specs.Prelude.{◌≡◌, ◌≤◌, ◌+◌, ◌&&◌, ◌++◌, ℕ, zero, suc, Bool, true, false, not, List, [], ◌∷◌, length, map, Option, Some, None, slice_get, position, nat_lt, cond, refl, if◌then◌else◌, IfSome, IfNone, Result, Ok, Err, OnErr}
use Rattle.std.specs.List.{position_or_len}
use Rattle.std.proofs.Common.{sym, ap, ap₂, ◌∙◌, subst, true≢false, arith}
use Rattle.std.proofs.lemmas.Option.{same_Some}
use Rattle.std.proofs.lemmas.List.{length-map}
use Rattle.std.proofs.lemmas.Bool.{ltb-false}
use Rattle.stt_core.specs.Lambda.{Lambda}
use Rattle.stt_core.specs.SameTerm.{same_term}
use Rattle.stt_core.proofs.SameTerms.{same_term-true, same_term-of}
use Rattle.tableau_calculus.specs.Kinds.{same_sign}
use Rattle.sat_base.specs.declared.literal.SatLit.{SatLit}
use Rattle.indexmap.specs.IndexMap.{insert_entry, set_value_at}
use Rattle.mating_rules.specs.Noted.{Signed, of_sign, kept_under}
use Rattle.mating_rules.specs.Internal.Groups.{with_signed, lone_literal, notes_place, IsNewGroup, Keeps}

abbrev Group : Type 0
Group = Lambda × Signed

pub set_value_at-same : (gs : List Group) (i : ℕ) (h : Lambda) (s : Signed) → slice_get gs i ≡ Some (h, s) → set_value_at gs i s ≡ gs
set_value_at-same [] i h s at = refl
set_value_at-same (g ∷ gs) zero h s at = ap (λ (k : Group). (g.0, k.1) ∷ gs) (sym (same_Some g (h, s) at))
set_value_at-same (g ∷ gs) (suc i) h s at = ap (λ ks. g ∷ ks) (set_value_at-same gs i h s at)

-- THE PLACE OF A HEAD

place-position : (h : Lambda) (gs : List Group) → position_or_len (same_term h) (map (λ (g : Group). g.0) gs) ≡ notes_place h gs
place-position h [] = refl
place-position h (g ∷ gs) = go (same_term h g.0) (place-position h gs)
  where
    go : (b : Bool) → position_or_len (same_term h) (map (λ (g : Group). g.0) gs) ≡ notes_place h gs → cond (not b) (1 + position_or_len (same_term h) (map (λ (g : Group). g.0) gs)) 0 ≡ (if b then 0 else suc (notes_place h gs))
    go true rest = refl
    go false rest = omega (arith, rest)

place_found : (h : Lambda) (n : ℕ) (gs : List Group) → Some n ≡ position (same_term h) (map (λ (g : Group). g.0) gs) → n ≡ notes_place h gs
place_found h n gs at = go (nat_lt (position_or_len (same_term h) keys) (length keys)) at ∙ place-position h gs
  where
    keys : List Lambda
    keys = map (λ (g : Group). g.0) gs

    go : (b : Bool) → Some n ≡ cond b (Some (position_or_len (same_term h) (map (λ (g : Group). g.0) gs))) None → n ≡ position_or_len (same_term h) (map (λ (g : Group). g.0) gs)
    go true e = same_Some n _ e
    go false e = cc

new_where : (h : Lambda) (gs : List Group) → length gs ≤ notes_place h gs → IsNewGroup h gs
new_where h [] past = tt
new_where h (g ∷ gs) past = go (same_term h g.0) refl (new_where h gs) past
  where
    go : (b : Bool) → same_term h g.0 ≡ b → (length gs ≤ notes_place h gs → IsNewGroup h gs) → suc (length gs) ≤ (if b then 0 else suc (notes_place h gs)) → (same_term h g.0 ≡ false) × IsNewGroup h gs
    go true e rest p = absurd (omega (arith, p))
    go false e rest p = (e, rest (omega (arith, p)))

not_found : (h : Lambda) (gs : List Group) → None ≡ position (same_term h) (map (λ (g : Group). g.0) gs) → IsNewGroup h gs
not_found h gs none = new_where h gs (go (nat_lt (position_or_len (same_term h) keys) (length keys)) refl none)
  where
    keys : List Lambda
    keys = map (λ (g : Group). g.0) gs

    go : (b : Bool) → nat_lt (position_or_len (same_term h) (map (λ (g : Group). g.0) gs)) (length (map (λ (g : Group). g.0) gs)) ≡ b → None ≡ cond b (Some (position_or_len (same_term h) (map (λ (g : Group). g.0) gs))) None → length gs ≤ notes_place h gs
    go true e f = cc
    go false e f = omega (arith, ltb-false _ _ e, place-position h gs, length-map gs (λ (g : Group). g.0))

-- what a map answers on the place of a head
pub place_told : (h : Lambda) (gs all : List Group) (r : Option ℕ) → gs ≡ all → r ≡ position (same_term h) (map (λ (g : Group). g.0) gs) → IfSome r (λ n. n ≡ notes_place h all)
place_told h gs all None view e = tt
place_told h gs all (Some n) view e = place_found h n gs e ∙ ap (notes_place h) view

pub none_told : (h : Lambda) (gs all : List Group) (r : Option ℕ) → gs ≡ all → r ≡ position (same_term h) (map (λ (g : Group). g.0) gs) → IfNone r (IsNewGroup h all)
none_told h gs all None view e = let Wanted : List Group → Type 0 = λ es. IsNewGroup h es in subst Wanted view (not_found h gs e)
none_told h gs all (Some n) view e = tt

pub on_err : {T E Q : Type 0} (r : Result T E) → Q → OnErr r Q
on_err (Ok x) q = tt
on_err (Err e) q = q

-- WHAT IS KEPT

kept-at : (h : Lambda) (sign : Bool) (gs : List Group) (g : Group) → slice_get gs (notes_place h gs) ≡ Some g → kept_under h sign gs ≡ of_sign sign g.1
kept-at h sign [] g at = cc
kept-at h sign (x ∷ gs) g at = go (same_term h x.0) (kept-at h sign gs g) at
  where
    go : (b : Bool) → (slice_get gs (notes_place h gs) ≡ Some g → kept_under h sign gs ≡ of_sign sign g.1) → slice_get (x ∷ gs) (if b then 0 else suc (notes_place h gs)) ≡ Some g → (if b then of_sign sign x.1 else kept_under h sign gs) ≡ of_sign sign g.1
    go true rest e = ap (λ (k : Group). of_sign sign k.1) (same_Some x g e)
    go false rest e = rest e

pub kept-place : (h : Lambda) (sign : Bool) (gs all : List Group) (n : ℕ) (g : Group) → gs ≡ all → n ≡ notes_place h all → slice_get gs n ≡ Some g → of_sign sign g.1 ≡ kept_under h sign all
kept-place h sign gs all n g view at there = sym (kept-at h sign all g (ap₂ slice_get (sym view) (sym at) ∙ there))

pub kept-new : (h : Lambda) (sign : Bool) (gs : List Group) → IsNewGroup h gs → kept_under h sign gs ≡ []
kept-new h sign [] n = refl
kept-new h sign (g ∷ gs) n = ap (λ (b : Bool). if b then of_sign sign g.1 else kept_under h sign gs) n.0 ∙ kept-new h sign gs n.1

of_sign-with_literal : (sign : Bool) (l : SatLit) (s : Signed) → of_sign sign (with_signed l s) ≡ (if same_sign sign l.positive then of_sign sign s ++ l ∷ [] else of_sign sign s)
of_sign-with_literal sign l s = go sign l.positive
  where
    go : (p q : Bool) → of_sign p (if q then record s { positive = s.positive ++ l ∷ [] } else record s { negative = s.negative ++ l ∷ [] }) ≡ (if same_sign p q then of_sign p s ++ l ∷ [] else of_sign p s)
    go true true = refl
    go true false = refl
    go false true = refl
    go false false = refl

not_both : (k h g : Lambda) → same_term h g ≡ false → same_term k g ≡ true → same_term k h ≡ true → ⊥
not_both k h g none same other = true≢false (sym (same_term-of h g (sym (same_term-true k h other) ∙ same_term-true k g same)) ∙ none)

there : (c s : Bool) (l : SatLit) (X Y K : List SatLit) → Y ≡ (if s then X ++ l ∷ [] else X) → (if c then Y else K) ≡ (if c && s then (if c then X else K) ++ l ∷ [] else (if c then X else K))
there true s l X Y K e = e
there false s l X Y K e = refl

later : (b c s : Bool) (l : SatLit) (X K K' : List SatLit) → (b ≡ true → c ≡ true → ⊥) → K' ≡ (if c && s then K ++ l ∷ [] else K) → (if b then X else K') ≡ (if c && s then (if b then X else K) ++ l ∷ [] else (if b then X else K))
later b c s l X K K' both e = go b c both e
  where
    go : (p q : Bool) → (p ≡ true → q ≡ true → ⊥) → K' ≡ (if q && s then K ++ l ∷ [] else K) → (if p then X else K') ≡ (if q && s then (if p then X else K) ++ l ∷ [] else (if p then X else K))
    go true true never f = absurd (never refl refl)
    go true false never f = refl
    go false q never f = f

-- the literal comes into the first group of the head
set-keeps : (h : Lambda) (l : SatLit) (gs : List Group) (g : Group) → slice_get gs (notes_place h gs) ≡ Some g → Keeps h l gs (set_value_at gs (notes_place h gs) (with_signed l g.1))
set-keeps h l [] g at k sign = cc
set-keeps h l (x ∷ gs) g at k sign = go (same_term h x.0) refl (λ e. set-keeps h l gs g e k sign) at
  where
    go : (b : Bool) → same_term h x.0 ≡ b
        → (slice_get gs (notes_place h gs) ≡ Some g → kept_under k sign (set_value_at gs (notes_place h gs) (with_signed l g.1)) ≡ (if same_term k h && same_sign sign l.positive then kept_under k sign gs ++ l ∷ [] else kept_under k sign gs))
        → slice_get (x ∷ gs) (if b then 0 else suc (notes_place h gs)) ≡ Some g
        → kept_under k sign (set_value_at (x ∷ gs) (if b then 0 else suc (notes_place h gs)) (with_signed l g.1)) ≡ (if same_term k h && same_sign sign l.positive then kept_under k sign (x ∷ gs) ++ l ∷ [] else kept_under k sign (x ∷ gs))
    go true e rest f =
        let same : h ≡ x.0 = same_term-true h x.0 e in
        let into : of_sign sign (with_signed l g.1) ≡ (if same_sign sign l.positive then of_sign sign x.1 ++ l ∷ [] else of_sign sign x.1) =
        ap (λ (y : Group). of_sign sign (with_signed l y.1)) (sym (same_Some x g f)) ∙ of_sign-with_literal sign l x.1 in
        there (same_term k x.0) (same_sign sign l.positive) l (of_sign sign x.1) (of_sign sign (with_signed l g.1)) (kept_under k sign gs) into
        ∙ ap (λ y. if same_term k y && same_sign sign l.positive then kept_under k sign (x ∷ gs) ++ l ∷ [] else kept_under k sign (x ∷ gs)) (sym same)
    go false e rest f = later (same_term k x.0) (same_term k h) (same_sign sign l.positive) l (of_sign sign x.1) (kept_under k sign gs) _ (not_both k h x.0 e) (rest f)

pub place-keeps : (h : Lambda) (l : SatLit) (gs all : List Group) (n : ℕ) (g : Group) (s : Signed) → gs ≡ all → n ≡ notes_place h all → slice_get gs n ≡ Some g → s ≡ with_signed l g.1 → Keeps h l all (set_value_at gs n s)
place-keeps h l gs all n g s view at there is k sign =
    ap (kept_under k sign) (ap₂ (λ i w. set_value_at gs i w) at is ∙ ap (λ es. set_value_at es (notes_place h all) (with_signed l g.1)) view)
    ∙ set-keeps h l all g (ap₂ slice_get (sym view) (sym at) ∙ there) k sign

-- the literal comes into a new group
pub insert-keeps : (h : Lambda) (l : SatLit) (gs : List Group) → IsNewGroup h gs → Keeps h l gs (insert_entry same_term gs h (lone_literal l))
insert-keeps h l [] new k sign = go (same_term k h) (same_sign sign l.positive) (of_sign sign (lone_literal l)) (of_sign-with_literal sign l (record { positive = []; negative = [] }) ∙ none sign (same_sign sign l.positive))
  where
    none : (p s : Bool) → (if s then of_sign p (record { positive = []; negative = [] }) ++ l ∷ [] else of_sign p (record { positive = []; negative = [] })) ≡ (if s then l ∷ [] else [])
    none true s = refl
    none false s = refl

    go : (c s : Bool) (xs : List SatLit) → xs ≡ (if s then l ∷ [] else []) → (if c then xs else []) ≡ (if c && s then [] ++ l ∷ [] else [])
    go true s xs e = e
    go false s xs e = refl
insert-keeps h l (x ∷ gs) new k sign =
    ap (λ (b : Bool). kept_under k sign (if b then (x.0, lone_literal l) ∷ gs else x ∷ insert_entry same_term gs h (lone_literal l))) new.0
    ∙ later (same_term k x.0) (same_term k h) (same_sign sign l.positive) l (of_sign sign x.1) (kept_under k sign gs) _ (not_both k h x.0 new.0) (insert-keeps h l gs new.1 k sign)
