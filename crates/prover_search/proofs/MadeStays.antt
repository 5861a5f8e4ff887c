-- What is made stays so where the tables become wider.
use Rattle.std.specs.Prelude.{◌≡◌, ℕ, List, [], ◌++◌, map, refl}
use Rattle.std.proofs.Common.{sym, ap, ◌∙◌, subst}
use Rattle.stt_core.specs.Typing.{Scope}
use Rattle.stt_core.proofs.ListLaws.{map-append, slice_get-append}
use Rattle.tableau_calculus.specs.Literals.{Literal}
use Rattle.tableau_calculus.specs.Witnesses.{Row}
use Rattle.tableau_calculus.specs.Rules.{PlainRule, Rule, alone_rule, close_rule, all_pos_rule, all_neg_rule, mat_rule, dec_rule, con_rule, cho_rule, des_rule, cut_rule}
use Rattle.tableau_calculus.specs.RuleUses.{principals_of, EachPart}
use Rattle.tableau_calculus.specs.declared.rule_use.RuleUse.TheVariants.{AtOne, AtTwo, AllPos, WithPredicate, Cut}
use Rattle.tableau_calculus.proofs.UseLaws.{each_part-more}
use Rattle.sat_base.specs.declared.literal.SatLit.{SatLit}
use Rattle.refute_print.specs.Sizes.{IsSmallTerm}
use Rattle.tableau_calculus.specs.Each.{Each}
use Rattle.term_bank.specs.Content.{Content}
use Rattle.term_bank.specs.Terms.{term_at}
use Rattle.literal_map.specs.Atoms.{bank_literal}
use Rattle.literal_map.specs.Numbers.{UseByNumbers}
use Rattle.literal_map.specs.declared.instance.Instance.{Instance}
use Rattle.witness_names.specs.Rows.{row_of, rows_of}
use Rattle.tableau_rules.specs.Uses.{IsInstanceBy}
use Rattle.tableau_rules.proofs.MadeLaws.{parts_wider, instance_on, instance_wider}
use Rattle.tableau_rules.proofs.WideLaws.{wide_within}
use Rattle.prover_state.specs.declared.tables.Basis.{Basis}
use Rattle.prover_state.specs.Internal.Names.{Naming, IsNumberIn, IsPlace}
use Rattle.prover_state.specs.Internal.Growing.{Continues}
use Rattle.prover_state.specs.Internal.Standing.{rows_in, IsBasis}
use Rattle.prover_state.proofs.EachLaws.{each-weaker, map-same, each-from_All}
use Rattle.prover_state.proofs.NamesLaws.{number-stays, literal-stays, term-stays}
use Rattle.prover_state.specs.Internal.Steps.{IsMadeInstance}
use Rattle.prover_search.specs.Internal.Developing.{IsWider}

-- with further rows a rule has the instances that it had
rule_rows : (scope : Scope) (rows more : List Row) (rule : PlainRule) (ps : List Literal) (as' : List (List Literal)) → Rule scope rows rule ps as' → Rule scope (rows ++ more) rule ps as'
rule_rows scope rows more _ _ _ (alone_rule i kind l as' h) = alone_rule i kind l as' h
rule_rows scope rows more _ _ _ (close_rule i j l) = close_rule i j l
rule_rows scope rows more _ _ _ (all_pos_rule i a f u c) = all_pos_rule i a f u c
rule_rows scope rows more _ _ _ (all_neg_rule i k a f g) = all_neg_rule i k a f (slice_get-append rows more k (record { type = a; predicate = f }) g)
rule_rows scope rows more _ _ _ (mat_rule i j c a u t us ts d e) = mat_rule i j c a u t us ts d e
rule_rows scope rows more _ _ _ (dec_rule i n c a u t us ts d e) = dec_rule i n c a u t us ts d e
rule_rows scope rows more _ _ _ (con_rule i j n u t v w) = con_rule i j n u t v w
rule_rows scope rows more _ _ _ (cho_rule a f c) = cho_rule a f c
rule_rows scope rows more _ _ _ (des_rule a f c) = des_rule a f c
rule_rows scope rows more _ _ _ (cut_rule l h) = cut_rule l h

instance_rows : (b : Content) (atoms : List ℕ) (rows more : List Row) (by : UseByNumbers) (as' : List (List Literal)) → IsInstanceBy b atoms rows by as' → IsInstanceBy b atoms (rows ++ more) by as'
instance_rows b atoms rows more by as' h = record { principals = h.principals; at_places = h.at_places; fits = rule_rows _ rows more _ h.principals as' h.fits }

-- names without partial terms
abbrev plain : Basis → Naming
plain g = record { terms = g.bank.terms; atoms = g.lits; sketches = [] }

module _ (g h : Basis) (good : IsBasis g) (w : IsWider g h) where
  continues : Continues (plain g) (plain h)
  continues = record {
    within = λ k d p. (good.atoms k d p).within;
    terms = (w.bank.further, w.bank.terms);
    atoms = (w.lits.further, w.lits.is);
    sketches = ([], refl);
  }

  pub number-wider : (l : SatLit) → IsNumberIn g.lits l → IsNumberIn h.lits l
  number-wider l k = number-stays (plain g) (plain h) continues l k

  pub literal-wider : (l : SatLit) → IsNumberIn g.lits l → bank_literal h.bank.terms h.lits l ≡ bank_literal g.bank.terms g.lits l
  literal-wider l k = literal-stays (plain g) (plain h) continues l k

  pub literals-wider : (ls : List SatLit) → Each (IsNumberIn g.lits) ls → map (bank_literal h.bank.terms h.lits) ls ≡ map (bank_literal g.bank.terms g.lits) ls
  literals-wider ls k = map-same (bank_literal h.bank.terms h.lits) (bank_literal g.bank.terms g.lits) (IsNumberIn g.lits) literal-wider ls k

  pub term-wider : (u : ℕ) → IsPlace g.bank.terms u → term_at h.bank.terms u ≡ term_at g.bank.terms u
  term-wider u k = term-stays g.bank.terms h.bank.terms continues.terms u k

  -- the rows are the first ones
  pub rows-wider : rows_in h ≡ rows_in g ++ rows_of h.bank.terms w.witnesses.0
  rows-wider =
      ap (rows_of h.bank.terms) w.witnesses.1
      ∙ map-append (λ id. row_of (term_at h.bank.terms id)) g.witnesses w.witnesses.0
      ∙ ap (λ (rs : List Row). rs ++ rows_of h.bank.terms w.witnesses.0)
      (map-same (λ id. row_of (term_at h.bank.terms id)) (λ id. row_of (term_at g.bank.terms id)) (IsPlace g.bank.terms) (λ id k. ap row_of (term-wider id k)) g.witnesses (each-from_All (IsPlace g.bank.terms) g.witnesses good.rows.within))

  small-wider : (by : UseByNumbers) → EachPart (IsPlace g.bank.terms) (IsNumberIn g.lits) by → EachPart (λ u. IsSmallTerm (term_at g.bank.terms u)) (λ l. Unit {0}) by → EachPart (λ u. IsSmallTerm (term_at h.bank.terms u)) (λ l. Unit {0}) by
  small-wider (AtOne rule l) p k = k
  small-wider (AtTwo rule l m) p k = k
  small-wider (AllPos l u) p k = subst IsSmallTerm (sym (term-wider u p)) k
  small-wider (WithPredicate rule u) p k = subst IsSmallTerm (sym (term-wider u p)) k
  small-wider (Cut l) p k = k

  pub made-wider : (i : Instance) → IsMadeInstance g i → IsMadeInstance h i
  made-wider i m =
      let d : SatLit → Literal = bank_literal g.bank.terms g.lits in
      let e : SatLit → Literal = bank_literal h.bank.terms h.lits in
      let same : map (map e) i.alternatives ≡ map (map d) i.alternatives = map-same (map e) (map d) (Each (IsNumberIn g.lits)) literals-wider i.alternatives m.numbers in
      let F : List (List Literal) → Type 0 = λ as'. IsInstanceBy h.bank h.lits (rows_in h) i.by as' in
      let R : List Row → Type 0 = λ rs. IsInstanceBy h.bank h.lits rs i.by (map (map d) i.alternatives) in
      record {
        principals = m.principals;
        numbered = each-weaker (IsNumberIn g.lits) (IsNumberIn h.lits) number-wider (principals_of i.by) m.numbered;
        parts = each_part-more (IsPlace g.bank.terms) (IsPlace h.bank.terms) (IsNumberIn g.lits) (IsNumberIn h.lits) (wide_within g.bank h.bank w.bank) number-wider i.by m.parts;
        small = small-wider i.by m.parts m.small;
        uncut = m.uncut;
        numbers = each-weaker (Each (IsNumberIn g.lits)) (Each (IsNumberIn h.lits)) (λ ls k. each-weaker (IsNumberIn g.lits) (IsNumberIn h.lits) number-wider ls k) i.alternatives m.numbers;
        fits =
            subst F (sym same)
            (subst R (sym rows-wider)
            (instance_rows h.bank h.lits (rows_in g) (rows_of h.bank.terms w.witnesses.0) i.by (map (map d) i.alternatives)
            (instance_on i.by (rows_in g) (map (map d) i.alternatives) h.bank g.lits h.lits w.lits m.numbered (parts_wider g.bank h.bank g.lits i.by w.bank m.parts)
            (instance_wider i.by (rows_in g) (map (map d) i.alternatives) g.bank h.bank g.lits w.bank good.atoms m.numbered m.parts m.fits))));
      }
