-- Choices and descriptions gone through one after the other.
use Rattle.std.proofs.Common.{◌≡◌, ℕ, zero, suc, ◌+◌, ◌<◌, ◌≤◌, List, [], ◌∷◌, ◌++◌, take, Some, Bool, true, false, ◌||◌, slice_get, refl, ap, sym, subst, ◌∙◌, ⊎_elim, arith, append_assoc, append-nil, if◌then◌else◌}
use Rattle.std.proofs.Math.Nat.{eq-or-lt_of_le}
use Rattle.stt_core.specs.SimpleType.{SimpleType}
use Rattle.stt_core.specs.Lambda.{Constant, Lambda, constant, app, lambdas, applied}
use Rattle.stt_core.specs.SameTerm.{same_constant}
use Rattle.stt_core.proofs.SameTerms.{same_term-true, same_term-of}
use Rattle.stt_core.proofs.ListLaws.{take_got}
use Rattle.finite_models.specs.Symbols.{Symbol, choosing_symbols, choosing_symbols_of, has_symbol, with_symbols}
use Rattle.finite_models.specs.Internal.Choosers.{IsNoPlace, IsFirstPlace}

pub same_is : (c d : Constant) → same_constant c d ≡ true → c ≡ d
same_is c d h = let e : constant c ≡ constant d = same_term-true (constant c) (constant d) h in cc

pub is_same : (c d : Constant) → c ≡ d → same_constant c d ≡ true
is_same c d e = same_term-of (constant c) (constant d) (ap constant e)

pub with_append : (xs ys zs : List Symbol) → with_symbols xs (ys ++ zs) ≡ with_symbols (with_symbols xs ys) zs
with_append xs [] zs = refl
with_append xs (y ∷ ys) zs = with_append (if has_symbol xs y then xs else xs ++ y ∷ []) ys zs

under_binders : (bs : List SimpleType) (t : Lambda) → choosing_symbols (lambdas bs t) ≡ choosing_symbols t
under_binders [] t = refl
under_binders (b ∷ bs) t = under_binders bs t

with_arguments : (t : Lambda) (us : List Lambda) → choosing_symbols (applied t us) ≡ choosing_symbols t ++ choosing_symbols_of us
with_arguments t [] = sym (append-nil (choosing_symbols t))
with_arguments t (u ∷ us) = with_arguments (app t u) us ∙ append_assoc (choosing_symbols t) (choosing_symbols u) (choosing_symbols_of us)

of_append : (ts us : List Lambda) → choosing_symbols_of (ts ++ us) ≡ choosing_symbols_of ts ++ choosing_symbols_of us
of_append [] us = refl
of_append (t ∷ ts) us = ap (λ l. choosing_symbols t ++ l) (of_append ts us) ∙ sym (append_assoc (choosing_symbols t) (choosing_symbols_of ts) (choosing_symbols_of us))

of_more : (ts : List Lambda) (i : ℕ) (t : Lambda) → slice_get ts i ≡ Some t → choosing_symbols_of (take (i + 1) ts) ≡ choosing_symbols_of (take i ts) ++ choosing_symbols t
of_more ts i t g =
    ap choosing_symbols_of (take_got ts i t g)
    ∙ of_append (take i ts) (t ∷ [])
    ∙ ap (λ l. choosing_symbols_of (take i ts) ++ l) (append-nil (choosing_symbols t))

-- one term more is gone through, behind some symbols
pub term_more : (xs front : List Symbol) (ts : List Lambda) (i : ℕ) (t : Lambda) (before after : List Symbol) → slice_get ts i ≡ Some t → before ≡ with_symbols xs (front ++ choosing_symbols_of (take i ts)) → after ≡ with_symbols before (choosing_symbols t) → after ≡ with_symbols xs (front ++ choosing_symbols_of (take (i + 1) ts))
term_more xs front ts i t before after g h k =
    k
    ∙ ap (λ l. with_symbols l (choosing_symbols t)) h
    ∙ sym (with_append xs (front ++ choosing_symbols_of (take i ts)) (choosing_symbols t))
    ∙ ap (with_symbols xs) (append_assoc front (choosing_symbols_of (take i ts)) (choosing_symbols t) ∙ ap (λ l. front ++ l) (sym (of_more ts i t g)))

pub term_whole : (xs : List Symbol) (bs : List SimpleType) (h : Lambda) (us taken : List Lambda) (whole : Lambda) (after : List Symbol) → taken ≡ us → after ≡ with_symbols xs (choosing_symbols h ++ choosing_symbols_of taken) → lambdas bs (applied h us) ≡ whole → after ≡ with_symbols xs (choosing_symbols whole)
term_whole xs bs h us taken whole after e k w =
    k
    ∙ ap (λ l. with_symbols xs (choosing_symbols h ++ choosing_symbols_of l)) e
    ∙ ap (with_symbols xs) (sym (with_arguments h us) ∙ sym (under_binders bs (applied h us)) ∙ ap choosing_symbols w)

-- PLACES

pub found_first : (y : Symbol) (xs : List Symbol) (i : ℕ) (x : Symbol) → slice_get xs i ≡ Some x → true ≡ same_constant y.constant x.constant → ((j : ℕ) (z : Symbol) → j < i → slice_get xs j ≡ Some z → y.constant ≡ z.constant → ⊥) → IsFirstPlace y xs i
found_first y xs i x g e before = record { symbol = x; there = g; same = same_is y.constant x.constant (sym e); first = before }

pub not_more : (y : Symbol) (xs : List Symbol) (i : ℕ) (x : Symbol) → slice_get xs i ≡ Some x → false ≡ same_constant y.constant x.constant → ((j : ℕ) (z : Symbol) → j < i → slice_get xs j ≡ Some z → y.constant ≡ z.constant → ⊥) → (j : ℕ) (z : Symbol) → j < i + 1 → slice_get xs j ≡ Some z → y.constant ≡ z.constant → ⊥
not_more y xs i x g e before j z l h k =
    ⊎_elim
    (λ q.
    let s : slice_get xs i ≡ Some z = subst (λ n. slice_get xs n ≡ Some z) q h in
    let p : x ≡ z = cc in
    let t = is_same y.constant x.constant (k ∙ ap (λ w. w.constant) (sym p)) in
    differ t e)
    (λ m. before j z m h k)
    (eq-or-lt_of_le (below j i l))
  where
    below : (j i : ℕ) → j < i + 1 → j ≤ i
    below j i l = omega arith

    differ : same_constant y.constant x.constant ≡ true → false ≡ same_constant y.constant x.constant → ⊥
    differ t e = cc

-- the test whether a symbol is one of the list
has_of : (y : Symbol) (xs : List Symbol) (i : ℕ) (x : Symbol) → slice_get xs i ≡ Some x → y.constant ≡ x.constant → has_symbol xs y ≡ true
has_of y [] i x g e = cc
has_of y (z ∷ xs) zero x g e =
    let q : z ≡ x = cc in
    ap (λ b. b || has_symbol xs y) (is_same y.constant z.constant (e ∙ ap (λ w. w.constant) (sym q)))
has_of y (z ∷ xs) (suc i) x g e = go (same_constant y.constant z.constant) (has_of y xs i x g e)
  where
    go : (b : Bool) → has_symbol xs y ≡ true → b || has_symbol xs y ≡ true
    go true h = refl
    go false h = h

pub kept : (y : Symbol) (xs : List Symbol) (i : ℕ) → IsFirstPlace y xs i → xs ≡ with_symbols xs (y ∷ [])
kept y xs i p = sym (ap (λ b. if b then xs else xs ++ y ∷ []) (has_of y xs i p.symbol p.there p.same))

pub added : (y : Symbol) (xs : List Symbol) → IsNoPlace y xs → xs ++ y ∷ [] ≡ with_symbols xs (y ∷ [])
added y xs n = sym (ap (λ b. if b then xs else xs ++ y ∷ []) (none y xs n))
  where
    none : (y : Symbol) (xs : List Symbol) → IsNoPlace y xs → has_symbol xs y ≡ false
    none y [] n = refl
    none y (x ∷ xs) n = go (same_constant y.constant x.constant) refl (none y xs (λ j z g e. n (suc j) z g e))
      where
        go : (b : Bool) → same_constant y.constant x.constant ≡ b → has_symbol xs y ≡ false → b || has_symbol xs y ≡ false
        go true e h = absurd (n 0 x refl (same_is y.constant x.constant e))
        go false e h = h
