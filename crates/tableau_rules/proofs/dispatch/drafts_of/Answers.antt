use Rattle.std.proofs.Common.{inl, refl}
use Rattle.std.proofs.lemmas.Result.{IfOk-from_err}
use Rattle.witness_names.specs.Rows.{rows_of}
use Rattle.witness_names.proofs.StayLaws.{rows_grown}
use Rattle.tableau_rules.proofs.WideLaws.{grown_wide}
use Rattle.tableau_rules.proofs.DeclareLaws.{declared_grown_rows}
use Rattle.tableau_rules.proofs.UseLaws.{no_witness_by}
use Rattle.tableau_rules.proofs.WitnessLaws.{on_err}
use Rattle.tableau_rules.proofs.dispatch.drafts_of.Goals as goal

pub returns-in_err-unwitnessed_drafts-in-None : goal.returns-in_err-unwitnessed_drafts-in-None
returns-in_err-unwitnessed_drafts-in-None c =
    let b = c.args.bank.now in
    let d = c.unwitnessed_drafts.new.bank in
    let g = c.unwitnessed_drafts.ensures.grows in
    let refused = c.from_residual-in_err-unwitnessed_drafts-in-None.ensures.0 in
    record {
      drafted = IfOk-from_err _ _ refused;
      witnesses = IfOk-from_err _ _ refused;
      err = on_err _ (inl refl);
      widens = grown_wide b d g;
      right = c.unwitnessed_drafts.ensures.right;
      rows = rows_grown b d g c.args.witnesses.now c.requires.rows;
      all = IfOk-from_err _ _ refused;
    }

pub returns-in_ok-unwitnessed_drafts-in-None : goal.returns-in_ok-unwitnessed_drafts-in-None
returns-in_ok-unwitnessed_drafts-in-None c =
    let b = c.args.bank.now in
    let d = c.unwitnessed_drafts.new.bank in
    let g = c.unwitnessed_drafts.ensures.grows in
    let o = c.in_ok-unwitnessed_drafts-in-None.field-0 in
    let none = c.in-None.ensures in
    record {
      drafted = c.in_ok-unwitnessed_drafts-in-None.ensures.drafted (rows_of d.terms c.args.witnesses.now);
      witnesses = no_witness_by d c.args.lits.now c.args.by.now c.args.witnesses.now o none;
      err = tt;
      widens = grown_wide b d g;
      right = c.unwitnessed_drafts.ensures.right;
      rows = rows_grown b d g c.args.witnesses.now c.requires.rows;
      all = declared_grown_rows b d g c.args.witnesses.now c.requires.rows c.requires.all;
    }
