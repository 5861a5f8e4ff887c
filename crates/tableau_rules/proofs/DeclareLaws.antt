-- The types of witnesses in a bank.
use Rattle.std.proofs.Common.{◌≡◌, ◌≤◌, ℕ, zero, suc, true, List, [], ◌∷◌, ◌++◌, map, length, Some, slice_get, refl, sym, ap, subst, ◌∙◌, append-nil, append_assoc, length-append, arith}
use Rattle.std.proofs.lemmas.Option.{same_Some, slice_get_within}
use Rattle.std.proofs.lemmas.List.{length-map}
use Rattle.stt_core.specs.SimpleType.{SimpleType, predicate, is_declared}
use Rattle.stt_core.specs.Lambda.{Lambda, bound, constant, lam, app, applied}
use Rattle.stt_core.specs.Typing.{Scope}
use Rattle.stt_core.specs.Canonical.{IsCanonical}
use Rattle.stt_core.proofs.SpineLaws.{IsAtom, binders_of, binders-spine}
use Rattle.stt_core.proofs.ListLaws.{mapped_get}
use Rattle.tableau_calculus.specs.Witnesses.{Row, with_rows, IsTypedRow, IsTableAfter}
use Rattle.tableau_calculus.proofs.FunctionLaws.{predicate_declared}
use Rattle.term_bank.specs.Content.{Content, content_scope, Grows}
use Rattle.witness_names.proofs.StayLaws.{rows_same}
use Rattle.term_bank.specs.Terms.{term_at}
use Rattle.witness_names.specs.Rows.{binder_of, row_of, rows_of, AreRows}
use Rattle.tableau_rules.specs.Internal.Declaring.{Declares, AreDeclaredIn}
use Rattle.tableau_rules.proofs.WideLaws.{widens_itself}

typed_at : (scope : Scope) (earlier rows : List Row) (k : ℕ) (r : Row) → IsTableAfter scope earlier rows → slice_get rows k ≡ Some r → (es : List Row) × IsTypedRow scope es r
typed_at scope earlier [] k r h e = cc
typed_at scope earlier (q ∷ rows) zero r h e = (earlier, subst (IsTypedRow scope earlier) (same_Some q r e) h.0)
typed_at scope earlier (q ∷ rows) (suc k) r h e = typed_at scope (earlier ++ q ∷ []) rows k r h.2 e

-- a table doesn't look at the witnesses of what is declared
pub table_by : (s t : Scope) → s.bases ≡ t.bases → s.names ≡ t.names → (earlier rows : List Row) → IsTableAfter s earlier rows → IsTableAfter t earlier rows
table_by s t b n earlier [] h = tt
table_by s t b n earlier (r ∷ rows) h = (
  subst (λ x. IsCanonical x [] (predicate r.type) r.predicate) (λ i. record { bases = b i; names = n i; witnesses = map (λ q. q.type) earlier }) h.0,
  h.1,
  table_by s t b n (earlier ++ r ∷ []) rows h.2,
)

at_end : {A : Type 0} (xs : List A) (y : A) (ys : List A) → slice_get (xs ++ y ∷ ys) (length xs) ≡ Some y
at_end [] y ys = refl
at_end (x ∷ xs) y ys = at_end xs y ys

-- the next of the types behind those that are there
next_type : (ts ws further : List SimpleType) (a : SimpleType) → ts ≡ ws ++ further → slice_get ts (length ws) ≡ Some a → (rest : List SimpleType) × (ts ≡ (ws ++ a ∷ []) ++ rest)
next_type ts ws [] a e h = absurd (omega (arith, slice_get_within ts (length ws) a h, ap length (e ∙ append-nil ws)))
next_type ts ws (c ∷ rest) a e h =
    let same : c ≡ a = same_Some c a (sym (ap (λ l. slice_get l (length ws)) e ∙ at_end ws c rest) ∙ h) in
    (rest, e ∙ ap (λ x. ws ++ x ∷ rest) same ∙ sym (append_assoc ws (a ∷ []) rest))

module _ (b : Content) (ids : List ℕ) (rows : AreRows b ids) (w id : ℕ) (at : slice_get ids w ≡ Some id) where
  row_at : slice_get (rows_of b.terms ids) w ≡ Some (row_of (term_at b.terms id))
  row_at = mapped_get (λ i. row_of (term_at b.terms i)) ids w id at

  row_typed : (es : List Row) × IsTypedRow (content_scope b) es (row_of (term_at b.terms id))
  row_typed = typed_at (content_scope b) [] (rows_of b.terms ids) w (row_of (term_at b.terms id)) rows.table row_at

  pub no_spine : (h : Lambda) (us : List Lambda) → IsAtom h → term_at b.terms id ≡ applied h us → ⊥
  no_spine h us o e = go (term_at b.terms id) refl row_typed.1
    where
      go : (t : Lambda) → t ≡ term_at b.terms id → IsTypedRow (content_scope b) row_typed.0 (row_of t) → ⊥
      go (bound k) s i = i.0
      go (constant c) s i = i.0
      go (app u v) s i = i.0
      go (lam a s) q i = let p : a ∷ binders_of s ≡ [] = ap binders_of (q ∙ e) ∙ binders-spine [] h us o in cc

  module _ (a : SimpleType) (s : Lambda) (is : term_at b.terms id ≡ lam a s) where
    pub type_declared : is_declared (content_scope b).bases a ≡ true
    type_declared =
        predicate_declared (with_rows (content_scope b) row_typed.0) a (lam a s) (subst (λ t. IsTypedRow (content_scope b) row_typed.0 (row_of t)) is row_typed.1)

    type_at : slice_get (map (λ (r : Row). r.type) (rows_of b.terms ids)) w ≡ Some a
    type_at = mapped_get (λ (r : Row). r.type) (rows_of b.terms ids) w (row_of (term_at b.terms id)) row_at ∙ ap (λ t. Some (binder_of t)) is

    pub declares_next : length b.witnesses ≡ w → (x : SimpleType) → x ≡ a → (c : Content) → c ≡ record { bases = b.bases; consts = b.consts; witnesses = b.witnesses ++ x ∷ []; terms = b.terms } → Declares b c ids
    declares_next n x same c e =
        let next = next_type (map (λ (r : Row). r.type) (rows_of b.terms ids)) b.witnesses rows.further a rows.types (subst (λ k. slice_get (map (λ (r : Row). r.type) (rows_of b.terms ids)) k ≡ Some a) (sym n) type_at) in
        subst (λ k. Declares b k ids) (sym (e ∙ ap (λ y. record { bases = b.bases; consts = b.consts; witnesses = b.witnesses ++ y ∷ []; terms = b.terms }) same))
        (record {
          widens = record { bases = refl; consts = refl; types = a ∷ []; witnesses = refl; further = []; terms = sym (append-nil b.terms) };
          terms = refl;
          rows = record {
            within = rows.within;
            table = table_by (content_scope b) (content_scope (record { bases = b.bases; consts = b.consts; witnesses = b.witnesses ++ a ∷ []; terms = b.terms })) refl refl [] (rows_of b.terms ids) rows.table;
            further = next.0;
            types = next.1;
          };
        })

pub declares_itself : (b c : Content) (ids : List ℕ) → AreRows b ids → c ≡ b → Declares b c ids
declares_itself b c ids rows e = subst (λ k. Declares b k ids) (sym e) (record { widens = widens_itself b; terms = refl; rows = rows })

-- where as many witnesses have a type as there are, all have theirs
pub all_declared : (b : Content) (ids : List ℕ) → AreRows b ids → length ids ≤ length b.witnesses → AreDeclaredIn b ids
all_declared b ids rows l = go rows.further rows.types
  where
    count : length (map (λ (r : Row). r.type) (rows_of b.terms ids)) ≡ length ids
    count = length-map (rows_of b.terms ids) (λ (r : Row). r.type) ∙ length-map ids (λ i. row_of (term_at b.terms i))

    go : (further : List SimpleType) → map (λ (r : Row). r.type) (rows_of b.terms ids) ≡ b.witnesses ++ further → AreDeclaredIn b ids
    go [] e = e ∙ append-nil b.witnesses
    go (a ∷ further) e = absurd (omega (arith, sym count ∙ ap length e, length-append b.witnesses (a ∷ further), l))

-- how far the witnesses have their types
pub record DeclaresTo (old new : Content) (ids : List ℕ) (w : ℕ) : Type 0 where
  pub declares : Declares old new ids
  pub next : length new.witnesses ≡ w

pub declared_grown_rows : (b c : Content) → Grows b c → (ids : List ℕ) → AreRows b ids → AreDeclaredIn b ids → AreDeclaredIn c ids
declared_grown_rows b c g ids rows all = ap (map (λ (r : Row). r.type)) (rows_same b c g ids rows) ∙ all ∙ sym g.witnesses
