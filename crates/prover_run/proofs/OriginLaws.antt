-- Where the lines of a refutation come from, said of the clauses that numbered ones stand for.
use Rattle.std.specs.Prelude.{◌≡◌, true, ℕ, List, [], ◌∷◌, map, Some, slice_get, Contains, refl}
use Rattle.std.proofs.Common.{sym, ap, subst, ◌∙◌, inl, inr}
use Rattle.std.proofs.lemmas.Bool.{or_cases}
use Rattle.stt_core.specs.Lambda.{Lambda}
use Rattle.tableau_calculus.specs.Literals.{Literal, opposite}
use Rattle.tableau_calculus.specs.Rules.{PlainRule}
use Rattle.tableau_calculus.specs.declared.rule_use.RuleUse.TheVariants.{Cut}
use Rattle.tableau_calculus.specs.declared.refutation.Line.{Line}
use Rattle.tableau_calculus.proofs.ListLaws.{contains-first, contains-later, contains-get}
use Rattle.sat_base.specs.declared.literal.Var.{Var}
use Rattle.sat_base.specs.declared.literal.SatLit.{SatLit}
use Rattle.sat_base.specs.Literal.{negated, same_var, mentions_variable}
use Rattle.sat_base.proofs.LiteralLaws.{same_var-true, negated-negated}
use Rattle.search_spec.specs.Numbered.{atom_at, literal_at}
use Rattle.search_spec.specs.Unsatisfiable.{Clause}
use Rattle.rebuild_spec.specs.Input.{clause_by, clause_in, Sourced, Input, literals_of}
use Rattle.rebuild_spec.specs.Trimmed.{IsAtomOfInput, IsFromClause, IsFromSearchBy, IsFromSearch}
use Rattle.prover_run.specs.Origin.{HasAtom, ComesFromBy, ComesFrom}
use Rattle.prover_run.proofs.ContainsLaws.{contains-mapped}

-- LITERALS

-- the negations of the negations of numbered literals
unnegated : (atoms : List Lambda) (c : List SatLit) → map opposite (literals_of atoms (map negated c)) ≡ literals_of atoms c
unnegated atoms [] = refl
unnegated atoms (l ∷ c) = λ i. literal_at atoms (negated-negated l i) ∷ unnegated atoms c i

mentioned-in : (c : List SatLit) (v : Var) → mentions_variable c v ≡ true → (l : SatLit) × Contains c l × (v ≡ l.var)
mentioned-in [] v h = cc
mentioned-in (l ∷ c) v h =
    elim (or_cases (same_var v l.var) (mentions_variable c v) h) [
      | inl e ↦ (l, contains-first l c, same_var-true v l.var e)
      | inr later ↦ (let m = mentioned-in c v later in (m.0, contains-later m.0 l c m.1, m.2))
    ]

-- LINES

module _ (input : Input) where
  abbrev numbered : List (List SatLit)
  numbered = map clause_in input.clauses

  abbrev pub named : List Clause
  named = map (literals_of input.atoms) numbered

  clause_there : (n : ℕ) (x : Sourced) → slice_get input.clauses n ≡ Some x → Contains numbered (clause_in x)
  clause_there n x h = contains-mapped clause_in input.clauses x (contains-get input.clauses n x h)

  pub named_there : (n : ℕ) (x : Sourced) → slice_get input.clauses n ≡ Some x → Contains named (literals_of input.atoms (clause_in x))
  named_there n x h = contains-mapped (literals_of input.atoms) numbered (clause_in x) (clause_there n x h)

  atom_there : (atom : Lambda) → IsAtomOfInput input atom → HasAtom named atom
  atom_there atom h =
      let m = mentioned-in (clause_in h.occurs.clause) h.variable h.occurs.mentioned in
      record {
        clause = literals_of input.atoms (clause_in h.occurs.clause);
        there = named_there h.occurs.number h.occurs.clause h.occurs.there;
        literal = literal_at input.atoms m.0;
        held = contains-mapped (literal_at input.atoms) (clause_in h.occurs.clause) m.0 m.1;
        same = sym (ap (λ (v : Var). atom_at input.atoms v.0) m.2) ∙ sym h.same;
      }

  from_clause : (l : Line) → IsFromClause input l → Contains named (map opposite l.branch)
  from_clause l h = subst (Contains named) (sym (ap (map opposite) h.branch ∙ unnegated input.atoms h.clause)) (named_there h.number (clause_by h.clause h.instance) h.there)

  comes-by : (rule : PlainRule) (start : List Literal) (l : Line) → IsFromSearchBy rule start input l → ComesFromBy rule start named l
  comes-by (Cut literal) start l h = atom_there literal.atom h
  comes-by rule start l (inl closed) = inl closed
  comes-by rule start l (inr from) = inr (from_clause l from)

  -- where a line comes from
  pub comes-from : (start : List Literal) (l : Line) → IsFromSearch start input l → ComesFrom start named l
  comes-from start l h = comes-by l.rule start l h
