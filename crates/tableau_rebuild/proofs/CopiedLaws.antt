-- A copy of the instance from which a clause comes.
use Rattle.std.proofs.Common.{◌≡◌, ℕ, List, Some, Bool, true, false, slice_get, sym, ap, ◌∙◌, true≢false}
use Rattle.std.proofs.lemmas.Option.{slice_get-map, same_Some}
use Rattle.std.specs.Option.{option_map}
use Rattle.term_bank.specs.Content.{Content}
use Rattle.literal_map.specs.declared.instance.Instance.{Instance as BankInstance}
use Rattle.tableau_clauses.specs.declared.origin.Origin.{Origin}
use Rattle.tableau_clauses.specs.declared.origin.Origin.TheVariants.{Start, Instance as From}
use Rattle.tableau_clauses.specs.Table.{Step, Table, the_origins, the_instances}
use Rattle.tableau_rebuild.specs.Internal.LineParts.{IsClauseFrom}

-- where a clause comes from
its_origin : (b : Content) (atoms : List ℕ) (t : Table) (n : ℕ) (i : BankInstance) (from : IsClauseFrom b atoms t n i) → slice_get (the_origins t) n ≡ Some (From from.number)
its_origin b atoms t n i from = slice_get-map (λ (s : Step). s.1) t.0 n ∙ ap (option_map (λ (s : Step). s.1)) from.step

abbrev number_of_origin : Origin → ℕ
number_of_origin Start = 0
number_of_origin (From k) = k

abbrev is_of_start : Origin → Bool
is_of_start Start = true
is_of_start (From k) = false

pub copied_instance : (b : Content) (atoms : List ℕ) (t : Table) (n : ℕ) (i : BankInstance) (k : ℕ) (copy : BankInstance) → IsClauseFrom b atoms t n i
    → slice_get (the_origins t) n ≡ Some (From k) → slice_get (the_instances t) k ≡ Some copy → copy ≡ i
copied_instance b atoms t n i k copy from origin found =
    same_Some _ _ (sym found ∙ ap (λ m. slice_get (the_instances t) m) same ∙ from.instance)
  where
    same : k ≡ from.number
    same = ap number_of_origin (same_Some (From k) (From from.number) (sym origin ∙ its_origin b atoms t n i from))

pub comes_from_no_start : (b : Content) (atoms : List ℕ) (t : Table) (n : ℕ) (i : BankInstance) → IsClauseFrom b atoms t n i → slice_get (the_origins t) n ≡ Some Start → ⊥
comes_from_no_start b atoms t n i from origin = true≢false (ap is_of_start (same_Some Start (From from.number) (sym origin ∙ its_origin b atoms t n i from)))
