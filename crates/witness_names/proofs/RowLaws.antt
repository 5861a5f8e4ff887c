-- Rows of a witness table, when a predicate is added and when the bank grows.
use Rattle.std.proofs.Common.{◌≡◌, ℕ, zero, suc, ◌<◌, List, [], ◌∷◌, ◌++◌, map, length, get_or, Bool, true, false, nat_eq, refl, sym, ap, subst, ◌∙◌, arith, true≢false, eq-eqb, append_assoc, if◌then◌else◌}
use Rattle.std.specs.Prelude.{All}
use Rattle.std.specs.List.{list_any}
use Rattle.std.proofs.lemmas.List.{map-append}
use Rattle.std.proofs.lemmas.List.Elements.{All-append}
use Rattle.std.proofs.lemmas.List.Folds.{list_any_at}
use Rattle.tableau_calculus.specs.Witnesses.{Row, IsTypedRow, IsTwice, IsTable}
use Rattle.tableau_calculus.proofs.FailureLaws.{table-append, contains_map}
use Rattle.term_bank.specs.Content.{Content, content_scope}
use Rattle.term_bank.specs.Terms.{term_at}
use Rattle.witness_names.specs.Rows.{row_of, rows_of, AreRows, with_predicate}

any_true : (x : ℕ) (xs : List ℕ) (k : ℕ) → k < length xs → get_or xs k x ≡ x → list_any (nat_eq x) xs ≡ true
any_true x xs k l e = list_any_at (nat_eq x) xs k x l (eq-eqb x (get_or xs k x) (sym e))

module _ (b : Content) (ids : List ℕ) (id : ℕ) (differ : (i j : ℕ) → i < length b.terms → j < length b.terms → term_at b.terms i ≡ term_at b.terms j → i ≡ j) (within : id < length b.terms) (rows : AreRows b ids) where
  once : list_any (nat_eq id) ids ≡ false → IsTwice (rows_of b.terms ids) (row_of (term_at b.terms id)) → ⊥
  once none h =
      let q = contains_map (λ r. r.predicate) (rows_of b.terms ids) (term_at b.terms id) h in
      let p = contains_map (λ i. row_of (term_at b.terms i)) ids q.0 q.1 in
      let j = p.0 in
      let same : term_at b.terms j ≡ term_at b.terms id = ap (λ r. r.predicate) p.2 ∙ q.2 in
      let inside : j < length b.terms = subst (λ x. x < length b.terms) p.1.2 (rows.within p.1.0 j p.1.1) in
      let e : j ≡ id = differ j id inside within same in
      true≢false (sym (any_true id ids p.1.0 p.1.1 (subst (λ x. get_or ids p.1.0 x ≡ x) e p.1.2)) ∙ none)

  pub added_rows : IsTypedRow (content_scope b) (rows_of b.terms ids) (row_of (term_at b.terms id)) → AreRows b (with_predicate ids id)
  added_rows typed = go (list_any (nat_eq id) ids) refl
    where
      alone : All (λ i. i < length b.terms) (id ∷ [])
      alone = λ k d h. first k d h
        where
          first : (k d : ℕ) → k < 1 → get_or (id ∷ []) k d < length b.terms
          first zero d h = within
          first (suc k) d h = absurd (omega (arith, h))

      end : rows_of b.terms (ids ++ id ∷ []) ≡ rows_of b.terms ids ++ row_of (term_at b.terms id) ∷ []
      end = map-append (λ i. row_of (term_at b.terms i)) ids (id ∷ [])

      go : (t : Bool) → list_any (nat_eq id) ids ≡ t → AreRows b (if t then ids else ids ++ id ∷ [])
      go true h = rows
      go false h = record {
        within = All-append (λ i. i < length b.terms) ids (id ∷ []) rows.within alone;
        table = subst (IsTable (content_scope b)) (sym end) (table-append (content_scope b) [] (rows_of b.terms ids) (row_of (term_at b.terms id)) rows.table typed (once h));
        further = rows.further ++ (row_of (term_at b.terms id)).type ∷ [];
        types =
            ap (map (λ (r : Row). r.type)) end
            ∙ map-append (λ (r : Row). r.type) (rows_of b.terms ids) (row_of (term_at b.terms id) ∷ [])
            ∙ ap (λ l. l ++ (row_of (term_at b.terms id)).type ∷ []) rows.types
            ∙ append_assoc b.witnesses rows.further ((row_of (term_at b.terms id)).type ∷ []);
      }
