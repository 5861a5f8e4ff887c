-- Tables that develop.
use Rattle.std.specs.Prelude.{◌≡◌, ◌≢◌, [], ◌++◌}
use Rattle.std.proofs.Common.{sym, ap, ◌∙◌, subst, append_assoc, append-nil}
use Rattle.search_spec.proofs.NamingLaws.{each-joined}
use Rattle.literal_map.specs.declared.instance.Instance.{Instance}
use Rattle.tableau_rules.proofs.WideLaws.{widens_itself, widens_on, grown_wide}
use Rattle.tableau_clauses.specs.declared.origin.Origin.TheVariants.{Start}
use Rattle.tableau_clauses.specs.Table.{Table}
use Rattle.prover_state.specs.declared.tables.Basis.{Basis}
use Rattle.prover_state.specs.declared.tables.Tables.{Tables}
use Rattle.prover_state.specs.Internal.Growing.{BasisGrows}
use Rattle.prover_state.specs.Internal.Standing.{IsBasis}
use Rattle.prover_state.proofs.EachLaws.{each-weaker}
use Rattle.prover_state.specs.Internal.Steps.{IsMadeInstance, StepsGrow}
use Rattle.prover_search.specs.Internal.Developing.{IsWider, Develops}
use Rattle.prover_search.proofs.MadeStays.{made-wider}

pub wider-itself : (g : Basis) → IsWider g g
wider-itself g = record { bank = widens_itself g.bank; lits = record { further = []; is = sym (append-nil g.lits) }; witnesses = ([], sym (append-nil g.witnesses)) }

pub grows-wider : (g h : Basis) → BasisGrows g h → IsWider g h
grows-wider g h k = record { bank = grown_wide g.bank h.bank k.bank; lits = k.lits; witnesses = ([], k.witnesses ∙ sym (append-nil g.witnesses)) }

pub wider-then : (a b c : Basis) → IsWider a b → IsWider b c → IsWider a c
wider-then a b c h k = record {
  bank = widens_on a.bank b.bank c.bank h.bank k.bank;
  lits = record { further = h.lits.further ++ k.lits.further; is = k.lits.is ∙ ap (λ l. l ++ k.lits.further) h.lits.is ∙ append_assoc a.lits h.lits.further k.lits.further };
  witnesses = (h.witnesses.0 ++ k.witnesses.0, k.witnesses.1 ∙ ap (λ l. l ++ k.witnesses.0) h.witnesses.1 ∙ append_assoc a.witnesses h.witnesses.0 k.witnesses.0);
}

pub steps-same : (Good : Instance → Type 0) (old new : Table) → new ≡ old → StepsGrow Good old new
steps-same Good old new e = record {
  further = [];
  clauses = ap (λ (t : Table). t.0) e ∙ sym (append-nil old.0);
  made = tt;
  more = [];
  instances = ap (λ (t : Table). t.1) e ∙ sym (append-nil old.1);
  good = tt;
}

pub steps-then : (P Q : Instance → Type 0) → ((i : Instance) → P i → Q i) → (a b c : Table) → StepsGrow P a b → StepsGrow Q b c → StepsGrow Q a c
steps-then P Q f a b c h k = record {
  further = h.further ++ k.further;
  clauses = k.clauses ∙ ap (λ l. l ++ k.further) h.clauses ∙ append_assoc a.0 h.further k.further;
  made = each-joined (λ s. s.1 ≢ Start) h.further k.further h.made k.made;
  more = h.more ++ k.more;
  instances = k.instances ∙ ap (λ l. l ++ k.more) h.instances ∙ append_assoc a.1 h.more k.more;
  good = each-joined Q h.more k.more (each-weaker P Q f h.more h.good) k.good;
}

-- tables with the same basis, steps and number of commands
pub develops-same : (t u : Tables) → u.basis ≡ t.basis → u.steps ≡ t.steps → u.done ≡ t.done → Develops t u
develops-same t u b s d =
    let W : Basis → Type 0 = λ g. IsWider t.basis g in
    record { basis = subst W (sym b) (wider-itself t.basis); steps = steps-same (IsMadeInstance u.basis) t.steps u.steps s; done = d }

pub develops-then : (a b c : Tables) → IsBasis b.basis → Develops a b → Develops b c → Develops a c
develops-then a b c good h k = record {
  basis = wider-then a.basis b.basis c.basis h.basis k.basis;
  steps = steps-then (IsMadeInstance b.basis) (IsMadeInstance c.basis) (made-wider b.basis c.basis good k.basis) a.steps b.steps c.steps h.steps k.steps;
  done = k.done ∙ h.done;
}
