use Rattle.std.proofs.Common.{map, sym, subst, inl, inr, refl}
use Rattle.std.proofs.lemmas.Result.{IfOk-from_err}
use Rattle.literal_map.specs.Atoms.{bank_literal}
use Rattle.witness_names.specs.Rows.{rows_of}
use Rattle.tableau_rules.specs.Uses.{IsInstanceBy}
use Rattle.tableau_rules.specs.Internal.Drafted.{alternatives_at}
use Rattle.tableau_rules.specs.Internal.Used.{DraftedBy, WitnessesWhere}
use Rattle.tableau_rules.proofs.NumberLaws.{begins_itself}
use Rattle.tableau_rules.proofs.WideLaws.{widens_on, wide_atoms, right_by}
use Rattle.tableau_rules.proofs.WitnessLaws.{on_err}
use Rattle.tableau_rules.proofs.UseLaws.{witnesses_on}
use Rattle.tableau_rules.proofs.MadeLaws.{parts_wider, instance_on, instance_wider}
use Rattle.tableau_rules.proofs.RefusedLaws.{memory_not_rule, memory_leaves, ok_not_rule}
use Rattle.tableau_rules.proofs.maker.make.Goals as goal

pub declare-requires : goal.declare-requires
declare-requires c = record { rows = c.requires.rows }

pub returns-in_err-declare : goal.returns-in_err-declare
returns-in_err-declare c =
    let b = c.args.bank.now in
    let d = c.declare.new.bank in
    let w = c.declare.ensures.declares in
    let refused = c.from_residual.ensures.0 in
    record {
      by = IfOk-from_err _ _ refused;
      principals = IfOk-from_err _ _ refused;
      numbers = IfOk-from_err _ _ refused;
      instance = IfOk-from_err _ (λ i. IsInstanceBy d c.args.lits.now (rows_of d.terms c.args.witnesses.now) c.args.by.now (map (map (bank_literal d.terms c.args.lits.now)) i.alternatives)) refused;
      not_this_rule = λ e. absurd (memory_not_rule _ c.from_residual.ensures.1 e);
      widens = w.widens;
      right = right_by c.args.normal.now b d w.widens.consts w.terms c.requires.right;
      begins = begins_itself c.args.lits.now;
      atoms = wide_atoms b d w.widens c.args.lits.now c.requires.atoms;
      rows = w.rows;
      types = IfOk-from_err _ _ refused;
      witnesses = IfOk-from_err _ _ refused;
      refused_lits = on_err _ refl;
      refused_witnesses = memory_leaves d c.args.lits.now c.args.by.now c.args.witnesses.now c.args.witnesses.now _ c.from_residual.ensures.1 (inl refl);
    }

pub drafts_of-requires-clause-principals : goal.drafts_of-requires-clause-principals
drafts_of-requires-clause-principals c = c.requires.principals

pub drafts_of-requires-clause-parts : goal.drafts_of-requires-clause-parts
drafts_of-requires-clause-parts c = parts_wider c.args.bank.now c.declare.new.bank c.args.lits.now c.args.by.now c.declare.ensures.declares.widens c.requires.parts

pub drafts_of-requires-clause-atoms : goal.drafts_of-requires-clause-atoms
drafts_of-requires-clause-atoms c = wide_atoms c.args.bank.now c.declare.new.bank c.declare.ensures.declares.widens c.args.lits.now c.requires.atoms

pub drafts_of-requires-clause-right : goal.drafts_of-requires-clause-right
drafts_of-requires-clause-right c = right_by c.args.normal.now c.args.bank.now c.declare.new.bank c.declare.ensures.declares.widens.consts c.declare.ensures.declares.terms c.requires.right

pub drafts_of-requires-clause-few : goal.drafts_of-requires-clause-few
drafts_of-requires-clause-few c = c.requires.few

pub drafts_of-requires-clause-rows : goal.drafts_of-requires-clause-rows
drafts_of-requires-clause-rows c = c.declare.ensures.declares.rows

pub returns-in_err-drafts : goal.returns-in_err-drafts
returns-in_err-drafts c =
    let b = c.args.bank.now in
    let d = c.drafts_of.new.bank in
    let w = widens_on b c.declare.new.bank d c.declare.ensures.declares.widens c.drafts_of.ensures.widens in
    let refused = c.from_residual-in_err-drafts.ensures.0 in
    record {
      by = IfOk-from_err _ _ refused;
      principals = IfOk-from_err _ _ refused;
      numbers = IfOk-from_err _ _ refused;
      instance = IfOk-from_err _ (λ i. IsInstanceBy d c.args.lits.now (rows_of d.terms c.drafts_of.new.witnesses) c.args.by.now (map (map (bank_literal d.terms c.args.lits.now)) i.alternatives)) refused;
      not_this_rule = λ e. absurd (memory_not_rule _ c.from_residual-in_err-drafts.ensures.1 e);
      widens = w;
      right = c.drafts_of.ensures.right;
      begins = begins_itself c.args.lits.now;
      atoms = wide_atoms b d w c.args.lits.now c.requires.atoms;
      rows = c.drafts_of.ensures.rows;
      types = IfOk-from_err _ _ refused;
      witnesses = IfOk-from_err _ _ refused;
      refused_lits = on_err _ refl;
      refused_witnesses = memory_leaves d c.args.lits.now c.args.by.now c.args.witnesses.now c.drafts_of.new.witnesses _ c.from_residual-in_err-drafts.ensures.1 c.in_err-drafts.ensures.err;
    }

pub instance_of-requires-clause-principals : goal.instance_of-requires-clause-principals
instance_of-requires-clause-principals c = c.requires.principals

pub instance_of-requires-clause-atoms : goal.instance_of-requires-clause-atoms
instance_of-requires-clause-atoms c = wide_atoms c.args.bank.now c.drafts_of.new.bank (widens_on c.args.bank.now c.declare.new.bank c.drafts_of.new.bank c.declare.ensures.declares.widens c.drafts_of.ensures.widens) c.args.lits.now c.requires.atoms

pub instance_of-requires-clause-drafts : goal.instance_of-requires-clause-drafts
instance_of-requires-clause-drafts c =
    let b = c.drafts_of.new.bank in
    let rows = rows_of b.terms c.drafts_of.new.witnesses in
    let drafted = subst (DraftedBy b c.args.lits.now rows c.args.by.now) c.in-Some.is c.in_ok-drafts.ensures.drafted in
    record { rows = rows; types = sym c.in_ok-drafts.ensures.all; within = drafted.0; instance = drafted.1 }

pub returns-in_err-instance_of-in-Some : goal.returns-in_err-instance_of-in-Some
returns-in_err-instance_of-in-Some c =
    let b = c.drafts_of.new.bank in
    let more = c.instance_of.new.lits in
    let by = c.args.by.now in
    let refused = c.from_residual-in_err-instance_of-in-Some.ensures.0 in
    let made = witnesses_on b c.args.lits.now more by c.args.witnesses.now c.drafts_of.new.witnesses c.instance_of.ensures.begins c.requires.principals
    (subst (WitnessesWhere b c.args.lits.now by c.args.witnesses.now c.drafts_of.new.witnesses) c.in-Some.is c.in_ok-drafts.ensures.witnesses) in
    record {
      by = IfOk-from_err _ _ refused;
      principals = IfOk-from_err _ _ refused;
      numbers = IfOk-from_err _ _ refused;
      instance = IfOk-from_err _ (λ i. IsInstanceBy b more (rows_of b.terms c.drafts_of.new.witnesses) c.args.by.now (map (map (bank_literal b.terms more)) i.alternatives)) refused;
      not_this_rule = λ e. absurd (memory_not_rule _ c.from_residual-in_err-instance_of-in-Some.ensures.1 e);
      widens = widens_on c.args.bank.now c.declare.new.bank b c.declare.ensures.declares.widens c.drafts_of.ensures.widens;
      right = c.drafts_of.ensures.right;
      begins = c.instance_of.ensures.begins;
      atoms = c.instance_of.ensures.atoms;
      rows = c.drafts_of.ensures.rows;
      types = IfOk-from_err _ _ refused;
      witnesses = IfOk-from_err _ _ refused;
      refused_lits = on_err _ c.in_err-instance_of-in-Some.ensures.err;
      refused_witnesses = memory_leaves b more by c.args.witnesses.now c.drafts_of.new.witnesses _ c.from_residual-in_err-instance_of-in-Some.ensures.1 (inr made);
    }

pub returns-in_ok-instance_of-in-Some : goal.returns-in_ok-instance_of-in-Some
returns-in_ok-instance_of-in-Some c =
    let b = c.drafts_of.new.bank in
    let rows = rows_of b.terms c.drafts_of.new.witnesses in
    let by = c.args.by.now in
    let lits = c.args.lits.now in
    let more = c.instance_of.new.lits in
    let made = c.in_ok-instance_of-in-Some.ensures in
    let w = widens_on c.args.bank.now c.declare.new.bank b c.declare.ensures.declares.widens c.drafts_of.ensures.widens in
    let drafted = subst (DraftedBy b lits rows by) c.in-Some.is c.in_ok-drafts.ensures.drafted in
    let parts = parts_wider c.args.bank.now b lits by w c.requires.parts in
    record {
      by = made.by;
      principals = made.principals;
      numbers = made.numbers;
      instance = subst (IsInstanceBy b more rows by) (sym made.alternatives)
          (instance_on by rows (alternatives_at b c.in-Some.drafts) b lits more c.instance_of.ensures.begins c.requires.principals parts drafted.1);
      not_this_rule = λ e. absurd (ok_not_rule _ _ e);
      widens = w;
      right = c.drafts_of.ensures.right;
      begins = c.instance_of.ensures.begins;
      atoms = c.instance_of.ensures.atoms;
      rows = c.drafts_of.ensures.rows;
      types = c.in_ok-drafts.ensures.all;
      witnesses = witnesses_on b lits more by c.args.witnesses.now c.drafts_of.new.witnesses c.instance_of.ensures.begins c.requires.principals
          (subst (WitnessesWhere b lits by c.args.witnesses.now c.drafts_of.new.witnesses) c.in-Some.is c.in_ok-drafts.ensures.witnesses);
      refused_lits = tt;
      refused_witnesses = tt;
    }

pub returns-in-None : goal.returns-in-None
returns-in-None c =
    let b = c.drafts_of.new.bank in
    let rows = rows_of b.terms c.drafts_of.new.witnesses in
    let by = c.args.by.now in
    let lits = c.args.lits.now in
    let w = widens_on c.args.bank.now c.declare.new.bank b c.declare.ensures.declares.widens c.drafts_of.ensures.widens in
    let none = subst (DraftedBy b lits rows by) c.in-None.is c.in_ok-drafts.ensures.drafted in
    record {
      by = tt;
      principals = tt;
      numbers = tt;
      instance = tt;
      not_this_rule = λ _ others as' h. none others as' (instance_wider by others as' c.args.bank.now b lits w c.requires.atoms c.requires.principals c.requires.parts h);
      widens = w;
      right = c.drafts_of.ensures.right;
      begins = begins_itself lits;
      atoms = wide_atoms c.args.bank.now b w lits c.requires.atoms;
      rows = c.drafts_of.ensures.rows;
      types = tt;
      witnesses = tt;
      refused_lits = refl;
      refused_witnesses = subst (WitnessesWhere b lits by c.args.witnesses.now c.drafts_of.new.witnesses) c.in-None.is c.in_ok-drafts.ensures.witnesses;
    }
