-- Sets of names.
use Rattle.std.proofs.Common.{◌≡◌, ℕ, ◌+◌, ◌<◌, List, [], ◌∷◌, length, take, get_or, Bool, true, false, cond, ◌||◌, refl, sym, ap, ap₂, ◌∙◌}
use Rattle.std.specs.Borrow.{Bor}
use Rattle.std.specs.BTreeSet.{BTreeSet, Updates}
use Rattle.std.specs.Cmp.Lexicographic.{slice_cmp}
use Rattle.std.specs.List.{list_any}
use Rattle.std.specs.Ordering.{nat_cmp}
use Rattle.std.specs.Str.{bytes_eq}
use Rattle.std.proofs.lemmas.List.{take_more}
use Rattle.std.proofs.lemmas.List.Folds.{list_any-append}
use Rattle.std.proofs.lemmas.Map.Text.{is_eq-slice_cmp}
use Rattle.std.proofs.lemmas.Slice.Eq.{bytes_eq-Decides}
use Rattle.thf_include.specs.Internal.Selection.{has_name}

pub bytes_eq-comm : (xs ys : List ℕ) → bytes_eq xs ys ≡ bytes_eq ys xs
bytes_eq-comm xs ys = go (bytes_eq xs ys) (bytes_eq ys xs) refl refl
  where
    go : (a b : Bool) → bytes_eq xs ys ≡ a → bytes_eq ys xs ≡ b → a ≡ b
    go true true p q = refl
    go false false p q = refl
    go true false p q = sym ((bytes_eq-Decides ys xs).1 (sym ((bytes_eq-Decides xs ys).0 p))) ∙ q
    go false true p q = sym p ∙ (bytes_eq-Decides xs ys).1 (sym ((bytes_eq-Decides ys xs).0 q))

cond-or : (a b : Bool) → cond a true b ≡ (b || a)
cond-or true true = refl
cond-or true false = refl
cond-or false true = refl
cond-or false false = refl

or-false : (b : Bool) → (b || false) ≡ b
or-false true = refl
or-false false = refl

-- one more name in a set
has_name-insert : (old new : BTreeSet (Bor (List ℕ))) (key : Bor (List ℕ)) → Updates (λ x y. slice_cmp nat_cmp x.now y.now) old new key true → (name : List ℕ) → has_name new name ≡ (has_name old name || bytes_eq name key.now)
has_name-insert old new key u name =
    let q : Bor (List ℕ) = record { ref_ptr = (0, 0); now = name } in
    u.0 q
    ∙ ap (λ b. cond b true (has_name old name)) (is_eq-slice_cmp key.now name ∙ bytes_eq-comm key.now name)
    ∙ cond-or (bytes_eq name key.now) (has_name old name)

-- the names of one more element
pub has_name-more : {X : Type 0} (f : X → List ℕ) (old new : BTreeSet (Bor (List ℕ))) (key : Bor (List ℕ)) (xs : List X) (i : ℕ) (d : X) → i < length xs → key.now ≡ f (get_or xs i d) → Updates (λ x y. slice_cmp nat_cmp x.now y.now) old new key true
    → ((name : List ℕ) → has_name old name ≡ list_any (λ x. bytes_eq name (f x)) (take i xs)) → (name : List ℕ) → has_name new name ≡ list_any (λ x. bytes_eq name (f x)) (take (i + 1) xs)
has_name-more {X} f old new key xs i d short e u before name =
    let p : X → Bool = λ x. bytes_eq name (f x) in
    has_name-insert old new key u name
    ∙ ap₂ (λ a b. a || b) (before name) (ap (bytes_eq name) e ∙ sym (or-false (p (get_or xs i d))))
    ∙ sym (list_any-append p (take i xs) (get_or xs i d ∷ []))
    ∙ ap (list_any p) (sym (take_more xs i d short))
