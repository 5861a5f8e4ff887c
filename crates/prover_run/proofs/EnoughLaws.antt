-- Conflicts that are enough are never spent.
use Rattle.std.specs.Prelude.{◌≡◌, ◌≤◌, ◌<◌, ◌^◌, ℕ, List, [], ◌∷◌, map, length, Contains, refl}
use Rattle.std.specs.List.{All, position_or_len}
use Rattle.std.proofs.Common.{sym, subst, ◌∙◌, arith}
use Rattle.std.proofs.lemmas.Bool.{ne_eqb, eq-eqb}
use Rattle.std.proofs.lemmas.List.{length-map}
use Rattle.std.proofs.lemmas.List.Sums.{position_or_len_is}
use Rattle.stt_core.specs.Lambda.{Lambda, constant, falsity}
use Rattle.stt_core.specs.SameTerm.{same_term}
use Rattle.tableau_calculus.specs.Literals.{Literal}
use Rattle.sat_base.specs.declared.literal.Var.{Var}
use Rattle.sat_base.specs.declared.literal.SatLit.{SatLit}
use Rattle.sat_core.specs.Solver.{AreAmong}
use Rattle.tableau_calculus.specs.Each.{Each}
use Rattle.search_spec.specs.Numbered.{atom_at, literal_at, IsNumber, AreApart}
use Rattle.search_spec.proofs.UnsatLaws.{same_atom}
use Rattle.search_spec.specs.State.{Setting}
use Rattle.search_spec.specs.Unsatisfiable.{Clause}
use Rattle.prover_state.proofs.EachLaws.{each-weaker, All-from_each}
use Rattle.prover_run.specs.Learning.{AreSpent, HaveAtomsIn, AreEnough}
use Rattle.prover_run.specs.Ended.{IsSpent, HasEnoughConflicts}
use Rattle.prover_run.proofs.ContainsLaws.{contains-mapped}

module _ (atoms : List Lambda) (apart : AreApart atoms) where
  -- the number of an atom
  abbrev number_of : Lambda → Var
  number_of atom = record { 0 = position_or_len (same_term atom) atoms }

  number_is : (n : ℕ) → n < length atoms → position_or_len (same_term (atom_at atoms n)) atoms ≡ n
  number_is n h =
      position_or_len_is (same_term (atom_at atoms n)) atoms n (constant falsity) (omega (arith, h))
      (λ k less. same_atom atoms apart n k h (omega (arith, h, less)) ∙ ne_eqb n k (λ e. omega (arith, e, less)))
      (λ inside. same_atom atoms apart n n h h ∙ eq-eqb n n refl)

  -- a list with an atom has its number, where atoms are replaced by their numbers
  numbered_there : (others : List Lambda) (l : SatLit) → IsNumber atoms l → Contains others (literal_at atoms l).atom → Contains (map number_of others) l.var
  numbered_there others l h there =
      subst (λ (v : Var). Contains (map number_of others) v) (λ i. record { 0 = number_is l.var.0 h i }) (contains-mapped number_of others (atom_at atoms l.var.0) there)

  clause_among : (others : List Lambda) (clause : List SatLit) → Each (IsNumber atoms) clause → Each (λ (l : Literal). Contains others l.atom) (map (literal_at atoms) clause)
      → Each (λ (l : SatLit). Contains (map number_of others) l.var) clause
  clause_among others [] h all = tt
  clause_among others (l ∷ clause) h all = (numbered_there others l h.0 all.0, clause_among others clause h.1 all.1)

  clauses_among : (others : List Lambda) (clauses : List (List SatLit)) → Each (Each (IsNumber atoms)) clauses → HaveAtomsIn others (map (map (literal_at atoms)) clauses)
      → Each (Each (λ (l : SatLit). Contains (map number_of others) l.var)) clauses
  clauses_among others [] h all = tt
  clauses_among others (clause ∷ clauses) h all = (clause_among others clause h.0 all.0, clauses_among others clauses h.1 all.1)

all_each : {X : Type 0} (P : X → Type 0) (xss : List (List X)) → Each (Each P) xss → All (All P) xss
all_each P xss h = All-from_each (All P) xss (each-weaker (Each P) (All P) (All-from_each P) xss h)

pub never-spent : (clauses : List Clause) (conflicts : ℕ) → AreEnough conflicts clauses → AreSpent clauses conflicts → ⊥
never-spent clauses conflicts are spent =
    let l = spent.learning in
    let variables : List Var = map (number_of l.atoms l.apart) are.atoms in
    let among : AreAmong variables l.numbered =
    all_each (λ (k : SatLit). Contains variables k.var) l.numbered (clauses_among l.atoms l.apart are.atoms l.numbered l.numbers (subst (HaveAtomsIn are.atoms) (sym l.stand) are.there))
    in
    spent.few variables among (subst (λ (n : ℕ). 3 ^ n ≤ conflicts) (sym (length-map are.atoms (number_of l.atoms l.apart))) are.enough)

pub never-ends : (setting : Setting) (literals : List Literal) (conflicts : ℕ) → HasEnoughConflicts setting literals → IsSpent setting literals conflicts → ⊥
never-ends setting literals conflicts has h =
    let E : ℕ → Type 0 = λ n. AreEnough n h.state.clauses in
    never-spent h.state.clauses conflicts (subst E (sym h.is_budget) (has h.commands h.state h.comes_to)) h.spent
