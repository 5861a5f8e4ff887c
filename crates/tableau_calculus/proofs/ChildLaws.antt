-- The children of a line, one after the other.
use Rattle.std.proofs.Common.{◌≡◌, ◌+◌, ℕ, zero, suc, List, [], ◌∷◌, ◌++◌, Some, length, take, slice_get, refl, sym, ap, ap₂, subst₂, ◌∙◌, append_assoc}
use Rattle.stt_core.proofs.ListLaws.{take_got}
use Rattle.tableau_calculus.specs.Literals.{Literal}
use Rattle.tableau_calculus.specs.Accepted.{ClosesBy, AreChildren}
use Rattle.tableau_calculus.specs.declared.refutation.Child.{Child}
use Rattle.tableau_calculus.specs.declared.refutation.Line.{Line}

-- one element more behind others
pub append_more : {A : Type 0} (front xs : List A) (i : ℕ) (x : A) (done all : List A) (y : A) → slice_get xs i ≡ Some x → done ≡ front ++ take i xs → y ≡ x → all ≡ done ++ y ∷ [] → all ≡ front ++ take (i + 1) xs
append_more front xs i x done all y h e k g =
    g ∙ ap₂ (λ l z. l ++ z ∷ []) e k ∙ append_assoc front (take i xs) (x ∷ []) ∙ ap (λ l. front ++ l) (sym (take_got xs i x h))

module _ (earlier : List Line) (branch : List Literal) where
  pub children_length : (as' : List (List Literal)) (cs : List Child) → AreChildren earlier branch as' cs → length as' ≡ length cs
  children_length [] [] h = refl
  children_length [] (c ∷ cs) h = absurd h
  children_length (a ∷ as') [] h = absurd h
  children_length (a ∷ as') (c ∷ cs) h = ap (λ n. suc n) (children_length as' cs h.1)

  pub children_at : (as' : List (List Literal)) (cs : List Child) (i : ℕ) (a : List Literal) (c : Child) → AreChildren earlier branch as' cs → slice_get as' i ≡ Some a → slice_get cs i ≡ Some c → ClosesBy earlier (a ++ branch) c
  children_at [] cs i a c h e f = cc
  children_at (b ∷ as') [] i a c h e f = absurd h
  children_at (b ∷ as') (d ∷ cs) zero a c h e f =
      let p : b ≡ a = cc in
      let q : d ≡ c = cc in
      subst₂ (λ x y. ClosesBy earlier (x ++ branch) y) p q h.0
  children_at (b ∷ as') (d ∷ cs) (suc i) a c h e f = children_at as' cs i a c h.1 e f

  children-append : (as' : List (List Literal)) (cs : List Child) (a : List Literal) (c : Child) → AreChildren earlier branch as' cs → ClosesBy earlier (a ++ branch) c → AreChildren earlier branch (as' ++ a ∷ []) (cs ++ c ∷ [])
  children-append [] [] a c h k = (k, tt)
  children-append [] (d ∷ cs) a c h k = absurd h
  children-append (b ∷ as') [] a c h k = absurd h
  children-append (b ∷ as') (d ∷ cs) a c h k = (h.0, children-append as' cs a c h.1 k)

  -- one child more
  pub children-more : (as' : List (List Literal)) (cs : List Child) (i : ℕ) (a : List Literal) (c : Child) → slice_get as' i ≡ Some a → slice_get cs i ≡ Some c → AreChildren earlier branch (take i as') (take i cs) → ClosesBy earlier (a ++ branch) c → AreChildren earlier branch (take (i + 1) as') (take (i + 1) cs)
  children-more as' cs i a c e f h k =
      subst₂ (AreChildren earlier branch) (sym (take_got as' i a e)) (sym (take_got cs i c f)) (children-append (take i as') (take i cs) a c h k)
