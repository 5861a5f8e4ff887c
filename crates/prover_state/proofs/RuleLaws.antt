-- Instances of rules where the bank and the table of atoms grow.
use Rattle.std.specs.Prelude.{◌≡◌, ℕ, List, [], map, length, Option, None, refl}
use Rattle.std.proofs.Common.{sym, ap, ◌∙◌, subst, arith, length-append}
use Rattle.stt_core.specs.Typing.{Scope}
use Rattle.tableau_calculus.specs.Literals.{Literal}
use Rattle.tableau_calculus.specs.Witnesses.{Row}
use Rattle.tableau_calculus.specs.RuleUses.{principals_of, EachPart}
use Rattle.tableau_calculus.specs.Rules.{PlainRule, IsInstance}
use Rattle.tableau_calculus.proofs.InstanceLaws.{one_instance}
use Rattle.sat_base.specs.declared.literal.SatLit.{SatLit}
use Rattle.term_bank.specs.Content.{Content, content_scope, Grows}
use Rattle.term_bank.specs.Terms.{term_at}
use Rattle.term_bank.proofs.GrowLaws.{grown_scope}
use Rattle.literal_map.specs.Atoms.{bank_literal}
use Rattle.literal_map.specs.Numbers.{UseByNumbers}
use Rattle.tableau_rules.specs.Uses.{use_of, IsInstanceBy}
use Rattle.tableau_rules.specs.Changes.{Widens, denial_of, AreWitnessesAfter, AreWitnessesBy}
use Rattle.tableau_rules.proofs.MadeLaws.{use_same}
use Rattle.tableau_calculus.specs.Each.{Each}
use Rattle.prover_state.specs.declared.tables.Basis.{Basis}
use Rattle.prover_state.specs.Internal.Growing.{Continues, BasisGrows}
use Rattle.prover_state.specs.Internal.Names.{Naming, IsNumberIn, IsPlace}
use Rattle.prover_state.specs.Internal.Standing.{rows_in, IsBasis}
use Rattle.prover_state.proofs.EachLaws.{map-same, each-from_All, each-weaker}
use Rattle.prover_state.proofs.NamesLaws.{term-stays, literal-stays}
use Rattle.prover_state.proofs.RowLaws.{table-distinct}
use Rattle.witness_names.specs.Rows.{row_of, rows_of}
use Rattle.witness_names.proofs.StayLaws.{rows_same}

-- names without partial terms
abbrev plain : Basis → Naming
plain g = record { terms = g.bank.terms; atoms = g.lits; sketches = [] }

module _ (old new : Basis) (grows : BasisGrows old new) (good : IsBasis old) where
  continues : Continues (plain old) (plain new)
  continues = record {
    within = λ k d h. (good.atoms k d h).within;
    terms = (grows.bank.further, grows.bank.terms);
    atoms = (grows.lits.further, grows.lits.is);
    sketches = ([], refl);
  }

  term_same : (u : ℕ) → IsPlace old.bank.terms u → term_at new.bank.terms u ≡ term_at old.bank.terms u
  term_same u h = term-stays old.bank.terms new.bank.terms continues.terms u h

  literal_same : (l : SatLit) → IsNumberIn old.lits l → bank_literal new.bank.terms new.lits l ≡ bank_literal old.bank.terms old.lits l
  literal_same l h = literal-stays (plain old) (plain new) continues l h

  module _ (by : UseByNumbers) (principals : Each (IsNumberIn old.lits) (principals_of by)) (parts : EachPart (IsPlace old.bank.terms) (IsNumberIn old.lits) by) where
    pub principals_same : map (bank_literal new.bank.terms new.lits) (principals_of by) ≡ map (bank_literal old.bank.terms old.lits) (principals_of by)
    principals_same = map-same (bank_literal new.bank.terms new.lits) (bank_literal old.bank.terms old.lits) (IsNumberIn old.lits) literal_same (principals_of by) principals

    rows_stay : rows_in new ≡ rows_in old
    rows_stay = ap (rows_of new.bank.terms) grows.witnesses ∙ rows_same old.bank new.bank grows.bank old.witnesses good.rows

    -- an instance over what has grown has the alternatives that it had
    pub same-alternatives : (as' bs : List (List Literal)) → IsInstanceBy old.bank old.lits (rows_in old) by as' → IsInstanceBy new.bank new.lits (rows_in new) by bs → bs ≡ as'
    same-alternatives as' bs h k =
        let scope = grown_scope old.bank new.bank grows.bank in
        let S : Scope → Type 0 = λ s. IsInstance s (rows_in new) (map (bank_literal new.bank.terms new.lits) (principals_of by)) (use_of new.bank.terms new.lits by) bs in
        let R : List Row → Type 0 = λ r. IsInstance (content_scope old.bank) r (map (bank_literal new.bank.terms new.lits) (principals_of by)) (use_of new.bank.terms new.lits by) bs in
        let P : List Literal → Type 0 = λ ps. IsInstance (content_scope old.bank) (rows_in old) ps (use_of new.bank.terms new.lits by) bs in
        let U : PlainRule → Type 0 = λ u. IsInstance (content_scope old.bank) (rows_in old) (map (bank_literal old.bank.terms old.lits) (principals_of by)) u bs in
        sym (one_instance (content_scope old.bank) (rows_in old) (table-distinct (content_scope old.bank) (rows_in old) good.rows.table) (map (bank_literal old.bank.terms old.lits) (principals_of by)) (use_of old.bank.terms old.lits by) as' bs h
        (subst U (use_same old.bank new.bank old.lits new.lits literal_same term_same by parts) (subst P principals_same (subst R rows_stay (subst S scope k)))))

-- a bank that has become wider by no witness has grown
pub widened-grows : (old new : Basis) → IsBasis old → Widens old.bank new.bank → new.witnesses ≡ old.witnesses → map (λ (r : Row). r.type) (rows_in new) ≡ new.bank.witnesses → Grows old.bank new.bank
widened-grows old new good w same types = record {
  bases = w.bases;
  consts = w.consts;
  further = w.further;
  terms = w.terms;
  witnesses = sym types ∙ ap (map (λ (r : Row). r.type)) (rows_are) ∙ good.typed;
}
  where
    rows_are : rows_in new ≡ rows_in old
    rows_are = ap (rows_of new.bank.terms) same ∙ map-same _ _ (IsPlace old.bank.terms) (λ i h. ap row_of (term-stays old.bank.terms new.bank.terms (w.further, w.terms) i h)) old.witnesses (each-from_All (IsPlace old.bank.terms) old.witnesses good.rows.within)

-- a rule that makes no witness leaves the witnesses
pub no-witness : (b : Content) (atoms : List ℕ) (by : UseByNumbers) (old new : List ℕ) → denial_of by ≡ None → AreWitnessesBy b atoms by old new → new ≡ old
no-witness b atoms by old new none w = let P : Option SatLit → Type 0 = λ d. AreWitnessesAfter b atoms d old new in subst P none w

-- numbers of the principals are numbers in what has grown
pub more-numbers : (old new : Basis) → BasisGrows old new → (ls : List SatLit) → Each (IsNumberIn old.lits) ls → Each (IsNumberIn new.lits) ls
more-numbers old new grows ls h = each-weaker (IsNumberIn old.lits) (IsNumberIn new.lits) (λ l k. omega (arith, k, ap length grows.lits.is, length-append old.lits grows.lits.further)) ls h
