-- The tables of a search are right for an expansion.
use Rattle.std.proofs.Common.{◌≡◌, ℕ, List, [], ◌∷◌, map, get_or, option_map, unwrap_or, Contains, refl, sym, ap, ◌∙◌, subst, arith}
use Rattle.std.specs.List.{All}
use Rattle.std.proofs.lemmas.List.{append-nil}
use Rattle.std.proofs.lemmas.List.Elements.{All-contains, All-map}
use Rattle.stt_core.specs.Lambda.{Lambda}
use Rattle.stt_core.specs.Typing.{Scope}
use Rattle.tableau_calculus.specs.Literals.{Literal, plus, IsLiteral}
use Rattle.tableau_calculus.specs.Witnesses.{with_rows}
use Rattle.tableau_calculus.specs.Accepted.{Within, IsAccepted}
use Rattle.tableau_calculus.specs.declared.rule_use.RuleUse.TheVariants.{Cut}
use Rattle.tableau_calculus.specs.declared.refutation.Refutation.{Refutation}
use Rattle.tableau_calculus.proofs.ListLaws.{contains_cases, contains-later, contains-first, within-trans}
use Rattle.term_bank.specs.Content.{Content, content_scope}
use Rattle.term_bank.specs.Terms.{term_at}
use Rattle.literal_map.specs.Atoms.{IsAtom}
use Rattle.literal_map.specs.Numbers.{UseByNumbers}
use Rattle.witness_names.specs.Rows.{rows_of, AreRows}
use Rattle.tableau_clauses.specs.Table.{Table, start_units}
use Rattle.tableau_rules.specs.Uses.{use_of}
use Rattle.rebuild_spec.specs.Input.{literals_of}
use Rattle.tableau_rebuild.specs.Tables.{atoms_at, the_instance, no_instance, unit_literals}
use Rattle.tableau_rebuild.proofs.GivenLaws.{formula_wider}
use Rattle.plain_tableau.specs.Given.{IsGivenInstance, AreInstancesGiven}
use Rattle.tableau_calculus.specs.CutFree.{is_cut_use}
use Rattle.plain_tableau.specs.Tables.{expanded, used_at, the_used, start_branch, IsUsable}
use Rattle.plain_tableau.proofs.BranchLaws.{added_within}
use Rattle.plain_tableau.proofs.ExpandLaws.{units_literals}

-- a rule over a bank is a cut where its use by numbers is
named_cut : (terms : List Lambda) (atoms : List ℕ) (by : UseByNumbers) → is_cut_use (use_of terms atoms by) ≡ is_cut_use by
named_cut terms atoms (Cut l) = refl
named_cut terms atoms by = refl

contains-map : {A B : Type 0} (f : A → B) (xs : List A) (y : B) → Contains (map f xs) y → (x : A) × Contains xs x × (f x ≡ y)
contains-map f [] y h = absurd (omega (arith, h.1))
contains-map f (x ∷ xs) y h =
    contains_cases ((z : _) × Contains (x ∷ xs) z × (f z ≡ y)) y (f x) (map f xs) h (λ same. (x, contains-first x xs, same))
    (λ later. let r = contains-map f xs y later in (r.0, contains-later r.0 x xs r.1, r.2))

module _ (b : Content) (atoms witnesses : List ℕ) (t : Table) (rows : AreRows b witnesses) (are_atoms : All (IsAtom b) atoms) where
  atom_literal : (x : Lambda) → Contains (atoms_at b.terms atoms) x → IsLiteral (with_rows (content_scope b) (rows_of b.terms witnesses)) (plus x)
  atom_literal x h =
      let found = contains-map (term_at b.terms) atoms x h in
      let atom = All-contains (IsAtom b) atoms found.0 are_atoms found.1 in
      subst (λ y. IsLiteral (with_rows (content_scope b) (rows_of b.terms witnesses)) (plus y)) found.2
      (record { formula = formula_wider b witnesses rows (term_at b.terms found.0) atom.is_formula; unsigned = atom.unsigned })

  used_right : (k : ℕ) → IsUsable b atoms (rows_of b.terms witnesses) t k → IsGivenInstance (with_rows (content_scope b) (rows_of b.terms witnesses)) (rows_of b.terms witnesses) (atoms_at b.terms atoms) (used_at b.terms atoms t k)
  used_right k u =
      let R = rows_of b.terms witnesses in
      let S = with_rows (content_scope b) R in
      let A = atoms_at b.terms atoms in
      let i = u.instance in
      let is : used_at b.terms atoms t k ≡ expanded (the_instance b.terms atoms i) = ap (λ o. expanded (unwrap_or (option_map (the_instance b.terms atoms) o) no_instance)) u.there in
      subst (IsGivenInstance S R A) (sym is) (record { fits = u.over.fits; no_cut = named_cut b.terms atoms i.by ∙ u.no_cut })

  pub tables_given : (used : List ℕ) → All (IsUsable b atoms (rows_of b.terms witnesses) t) used → AreInstancesGiven (content_scope b) (rows_of b.terms witnesses) (atoms_at b.terms atoms) (the_used b.terms atoms t used)
  tables_given used h = record {
    table = rows.table;
    formulas = atom_literal;
    instances = All-map (IsGivenInstance (with_rows (content_scope b) (rows_of b.terms witnesses)) (rows_of b.terms witnesses) (atoms_at b.terms atoms)) (used_at b.terms atoms t) used (λ k d l. used_right (get_or used k d) (h k d l));
  }

-- the literals of the branch from which an expansion starts are those of the start units
pub start_within : (atoms : List Lambda) (t : Table) → Within (literals_of atoms (start_branch t)) (unit_literals atoms t.0)
start_within atoms t =
    subst (Within (literals_of atoms (start_branch t))) (append-nil (literals_of atoms (start_units t.0)) ∙ units_literals atoms t.0) (added_within atoms [] (start_units t.0))

pub accepted_wider : (scope : Scope) (start wider : List Literal) (refutation : Refutation) → Within start wider → IsAccepted scope start refutation → IsAccepted scope wider refutation
accepted_wider scope start wider refutation within h = record {
  table = h.table;
  lines = h.lines;
  last = record { front = h.last.front; last = h.last.last; are = h.last.are; within = within-trans h.last.last.branch start wider h.last.within within };
}
