-- Lines by their drafts, their branches and the numbers of the lines before.
use Rattle.std.specs.Prelude.{◌≡◌, ◌<◌, ℕ, List, [], ◌∷◌, map, length, Some, slice_get, slice_index_or}
use Rattle.stt_core.specs.Lambda.{Lambda}
use Rattle.tableau_calculus.specs.declared.rule_use.RuleUse.TheVariants.{AtTwo, Cut as CutRule}
use Rattle.tableau_calculus.specs.declared.rule_use.TwoPlaces.TheVariants.{Close as CloseRule}
use Rattle.tableau_calculus.specs.declared.refutation.Child.TheVariants.{Closed, Line as Numbered}
use Rattle.tableau_calculus.specs.declared.refutation.Line.{Line}
use Rattle.sat_base.specs.declared.literal.Var.{Var}
use Rattle.sat_base.specs.declared.literal.SatLit.{SatLit}
use Rattle.sat_base.specs.Literal.{positive}
use Rattle.search_spec.specs.Numbered.{literal_at}
use Rattle.term_bank.specs.Content.{Content}
use Rattle.literal_map.specs.declared.instance.Instance.{Instance as BankInstance}
use Rattle.tableau_clauses.specs.declared.origin.Origin.TheVariants.{Instance as From}
use Rattle.tableau_clauses.specs.Table.{Table}
use Rattle.rebuild_spec.specs.Input.{Instance, literals_of}
use Rattle.rebuild_spec.specs.Stands.{rule_at_places, place_in}
use Rattle.tableau_rebuild.specs.Tables.{atoms_at, the_instance}
use Rattle.tableau_rebuild.specs.Conditions.{IsGoodUse}
use Rattle.tableau_rebuild.specs.declared.draft.Draft.{Draft}
use Rattle.tableau_rebuild.specs.declared.draft.Draft.TheVariants.{Clause, Close, Cut}

-- the first of the places, and the two of two of them
abbrev pub first_in : List ℕ → ℕ
first_in [] = 0
first_in (i ∷ is) = i

abbrev pub left_in : List ℕ → ℕ
left_in [] = 0
left_in (i ∷ []) = 0
left_in (i ∷ j ∷ is) = i

abbrev pub right_in : List ℕ → ℕ
right_in [] = 1
right_in (i ∷ []) = 1
right_in (i ∷ j ∷ is) = j

-- the line of an instance, with the places of its principals in the branch
abbrev pub instance_by : List Lambda → List SatLit → Instance → Line
instance_by atoms branch i =
    record {
      branch = literals_of atoms branch;
      rule = rule_at_places i.rule (map (place_in branch) i.principals);
      children = map (λ _. Closed) i.alternatives;
    }

abbrev pub close_by : List Lambda → List SatLit → Line
close_by atoms branch = record { branch = literals_of atoms branch; rule = AtTwo CloseRule 0 1; children = [] }

abbrev pub cut_by : List Lambda → List SatLit → Var → ℕ → ℕ → Line
cut_by atoms branch v m n =
    record { branch = literals_of atoms branch; rule = CutRule (literal_at atoms (positive v)); children = Numbered m ∷ Numbered n ∷ [] }

-- the clause with this number comes from the instance
pub record IsClauseFrom (b : Content) (atoms : List ℕ) (t : Table) (n : ℕ) (i : BankInstance) : Type 0 where
  pub clause : List SatLit
  pub number : ℕ
  pub step : slice_get t.0 n ≡ Some (clause, From number)
  pub instance : slice_get t.1 number ≡ Some i
  pub good : IsGoodUse b atoms i.by

-- what a line is made of is there
abbrev pub IsMakeable : Content → List ℕ → Table → List ℕ → Draft → Type 0
IsMakeable b atoms t numbers (Clause n) = (i : BankInstance) × IsClauseFrom b atoms t n i
IsMakeable b atoms t numbers (Close at l m) = Unit {0}
IsMakeable b atoms t numbers (Cut at v on off) = (v.0 < length atoms) × (on < length numbers) × (off < length numbers)

-- the line is that of the draft
abbrev pub IsLineBy : Content → List ℕ → Table → List ℕ → List SatLit → Draft → Line → Type 0
IsLineBy b atoms t numbers branch (Clause n) line =
    (i : BankInstance) → IsClauseFrom b atoms t n i → line ≡ instance_by (atoms_at b.terms atoms) branch (the_instance b.terms atoms i)
IsLineBy b atoms t numbers branch (Close at l m) line = line ≡ close_by (atoms_at b.terms atoms) branch
IsLineBy b atoms t numbers branch (Cut at v on off) line =
    line ≡ cut_by (atoms_at b.terms atoms) branch v (slice_index_or numbers on 0) (slice_index_or numbers off 0)
