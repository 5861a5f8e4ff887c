-- Models along a witness table: where a witness's predicate is 0 somewhere, it is 0 at the witness.
use Rattle.std.specs.Prelude.{◌≡◌, ◌<◌, ℕ, zero, suc, List, [], ◌∷◌, ◌++◌, Some, slice_get, slice_index, nat_eq, if◌then◌else◌}
use Rattle.stt_core.specs.Typing.{Scope}
use Rattle.stt_core.specs.Digits.{entry}
use Rattle.stt_core.specs.Meaning.{Model, size, value, IsModel}
use Rattle.tableau_calculus.specs.Witnesses.{Row, with_rows}

-- the least of the n numbers from x on at which p has the entry 0, or 0 where there is none
abbrev pub least_zero : ℕ → ℕ → ℕ → ℕ
least_zero p zero x = 0
least_zero p (suc n) x = if nat_eq (entry 2 p x) 0 then x else least_zero p n (suc x)

-- the model with these values for the witnesses
abbrev pub with_witnesses : Model → List ℕ → Model
with_witnesses m values =
    record {
      sizes = m.sizes;
      name_values = m.name_values;
      witness_values = slice_index values;
      choices = m.choices;
      descriptions = m.descriptions;
    }

-- The values of the witnesses of further rows behind those that are there: each is the least one at which the row's predicate is 0, or
-- 0. The scope has the witnesses of all rows.
abbrev pub witness_list : Scope → Model → List ℕ → List Row → List ℕ
witness_list scope m values [] = values
witness_list scope m values (r ∷ rows) =
    witness_list scope m (values ++ least_zero (value scope (with_witnesses m values) [] [] r.predicate) (size m r.type) 0 ∷ []) rows

-- a model of a scope extended along a witness table
abbrev pub extended : Scope → Model → List Row → Model
extended scope m rows = with_witnesses m (witness_list (with_rows scope rows) m [] rows)

-- at each witness its row's predicate is 0, where it is 0 somewhere
pub record GoesAlong (scope : Scope) (m : Model) (rows : List Row) : Type 0 where
  pub at_witness :
      (k : ℕ) (r : Row)
      → slice_get rows k ≡ Some r
      → (x : ℕ)
      → x < size m r.type
      → entry 2 (value scope m [] [] r.predicate) x ≡ 0
      → entry 2 (value scope m [] [] r.predicate) (m.witness_values k) ≡ 0

-- a model of the scope with the witnesses, which goes along the table
pub record IsModelAlong (scope : Scope) (rows : List Row) (m : Model) : Type 0 where
  pub model : IsModel (with_rows scope rows) m
  pub along : GoesAlong (with_rows scope rows) m rows
