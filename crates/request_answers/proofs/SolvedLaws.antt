-- A run that ended with a proof has its text.
use Rattle.std.proofs.Common.{◌≡◌, ◌+◌, ℕ, suc, true, List, [], ◌∷◌, map, filter, length, Option, Some, None, refl, sym, ap, subst, arith}
use Rattle.std.specs.List.{AllByRecursion}
use Rattle.std.proofs.lemmas.List.Sums.{list_all-from_AllPass}
use Rattle.stt_core.specs.TypedName.{TypedName}
use Rattle.stt_core.specs.PlainProblem.{PlainProblem}
use Rattle.stt_core.specs.Declarations.{scope_of}
use Rattle.tableau_calculus.specs.Start.{start}
use Rattle.tableau_calculus.specs.Accepted.{IsAccepted}
use Rattle.tableau_calculus.specs.declared.refutation.Refutation.{Refutation}
use Rattle.refute_print.specs.Text.{text_lines, as_bytes}
use Rattle.refute_print.specs.Named.{named_refutation, IsNamed}
use Rattle.mode_file.specs.declared.Mode.{Mode}
use Rattle.delta_defs.specs.Unfolding.{taken_names, unfolded_problem}
use Rattle.delta_defs.specs.Laws.{AreDeclaredNames}
use Rattle.refute_check.specs.Acceptance.{IsAcceptedFor}
use Rattle.refute_check.proofs.AcceptanceLaws.{named_accepted, places_named}
use Rattle.prover_run.specs.Ended.{IsRefuted}
use Rattle.mode_schedule.specs.declared.Block.{Block}
use Rattle.mode_schedule.specs.Turns.{closed, ScheduleEnds}
use Rattle.mode_schedule.specs.Scheduled.{slots_for, IsRefutedIn}
use Rattle.request_answers.specs.Names.{ArePrintable, names_in}
use Rattle.request_answers.specs.Internal.Texts.{HasTexts}
use Rattle.search_spec.specs.Shallow.{is_shallow_literal}
use Rattle.refute_print.specs.Sizes.{IsSmall}
use Rattle.plain_tableau.specs.declared.stripped.Stripped.{Stripped}
use Rattle.plain_tableau.specs.declared.stripped.Stripped.TheVariants as stripped
use Rattle.prover_run.specs.Tree.{IsTreeAsked}
use Rattle.szs_report.specs.declared.answer.TreeReport.{TreeReport}
use Rattle.request_answers.specs.Solved.{reported_refutation, tree_told, IsProofOf, IsProofInTurns}
use Rattle.thf_grammar.specs.Printable.{is_printable, IsPrintable}
use Rattle.refute_print.specs.Letters.{is_printable_name}
use Rattle.request_answers.proofs.NameLaws.{NamesAll, accepted_named}
use Rattle.request_answers.proofs.Numbering.{declared_placed, refutation-same}
use Rattle.request_answers.proofs.Written.{AreWords, has_text}

same_length : (cs : List TypedName) → length (map (λ c. c.type) cs) ≡ length (map (λ c. c.name) cs)
same_length [] = refl
same_length (c ∷ cs) = ap suc (same_length cs)

word : (w : List ℕ) → IsPrintable w → is_printable_name w ≡ true
word [] h = absurd (omega (arith, h.0))
word (c ∷ cs) h = list_all-from_AllPass is_printable (c ∷ cs) h.1

words : (ws : List (List ℕ)) → AllByRecursion IsPrintable ws → AllByRecursion (λ w. is_printable_name w ≡ true) ws
words [] h = tt
words (w ∷ ws) h = (word w h.0, words ws h.1)

are_words : (p : PlainProblem) → ArePrintable (names_in p) → AreWords (names_in p)
are_words p h = record { bases = words (names_in p).bases h.bases; constants = words (names_in p).constants h.constants }

named_all : (p : PlainProblem) → NamesAll (names_in p) (scope_of p.declared)
named_all p = record { bases = refl; constants = same_length p.declared.consts }

-- what is written is accepted for the start, and small enough for a text
module _ (nodes : Option ℕ) (m : Mode) (p : PlainProblem) (n : ℕ) (rebuilt : Refutation) (r : IsRefuted (unfolded_problem p) m n rebuilt) where
  abbrev pub Asked : Option Stripped → Type 0
  Asked s = IsTreeAsked (scope_of p.declared) (start (unfolded_problem p)) (filter is_shallow_literal (start (unfolded_problem p))) r.shortly.input nodes s

pub written_accepted : (nodes : Option ℕ) (m : Mode) (p : PlainProblem) (n : ℕ) (rebuilt : Refutation) (r : IsRefuted (unfolded_problem p) m n rebuilt) (s : Option Stripped) → Asked nodes m p n rebuilt r s → IsAccepted (scope_of p.declared) (start (unfolded_problem p)) (reported_refutation rebuilt s)
written_accepted None m p n rebuilt r None a = r.accepted
written_accepted None m p n rebuilt r (Some s) a = absurd a
written_accepted (Some k) m p n rebuilt r None a = absurd a
written_accepted (Some k) m p n rebuilt r (Some (stripped.Tree tree i)) a = a.accepted
written_accepted (Some k) m p n rebuilt r (Some (stripped.Open branch)) a = r.accepted
written_accepted (Some k) m p n rebuilt r (Some (stripped.Over i)) a = r.accepted

written_small : (nodes : Option ℕ) (m : Mode) (p : PlainProblem) (n : ℕ) (rebuilt : Refutation) (r : IsRefuted (unfolded_problem p) m n rebuilt) (s : Option Stripped) → Asked nodes m p n rebuilt r s → IsSmall (reported_refutation rebuilt s)
written_small None m p n rebuilt r None a = r.small
written_small None m p n rebuilt r (Some s) a = absurd a
written_small (Some k) m p n rebuilt r None a = absurd a
written_small (Some k) m p n rebuilt r (Some (stripped.Tree tree i)) a = a.small
written_small (Some k) m p n rebuilt r (Some (stripped.Open branch)) a = r.small
written_small (Some k) m p n rebuilt r (Some (stripped.Over i)) a = r.small

module _ (nodes : Option ℕ) (m : Mode) (p : PlainProblem) (n : ℕ) (rebuilt : Refutation) (texts : HasTexts p) (r : IsRefuted (unfolded_problem p) m n rebuilt) (s : Option Stripped) (a : Asked nodes m p n rebuilt r s) where
  accepted : IsAccepted (scope_of p.declared) (start (unfolded_problem p)) (reported_refutation rebuilt s)
  accepted = written_accepted nodes m p n rebuilt r s a

  pub run_named : IsNamed (names_in p) (reported_refutation rebuilt s)
  run_named = accepted_named (names_in p) (scope_of p.declared) (named_all p) (start (unfolded_problem p)) (reported_refutation rebuilt s) accepted

  pub proof_of_run : AreDeclaredNames p (taken_names p) → (text : List ℕ) → text ≡ as_bytes (text_lines (named_refutation (names_in p) (taken_names p) (reported_refutation rebuilt s))) → IsProofOf nodes m p n (tree_told s) text
  proof_of_run declared text t = record {
    rebuilt = rebuilt;
    refuted = r;
    stripped = s;
    asked = a;
    is_told = refl;
    refutation = reported_refutation rebuilt s;
    is_written = refl;
    is_text = t;
    has_text =
        has_text (names_in p) (scope_of p.declared) (named_all p) (are_words p texts.printable) (taken_names p) (places_named p (taken_names p) declared)
        (start (unfolded_problem p)) (reported_refutation rebuilt s) accepted (written_small nodes m p n rebuilt r s a);
    numbered = refutation-same (names_in p) (declared_placed p.declared texts.apart) (scope_of p.declared) (taken_names p) (reported_refutation rebuilt s) accepted.table run_named;
  }

-- the run of a block that closes a schedule has the text of its refutation
module _ (blocks : List Block) (p : PlainProblem) (number total : ℕ) (refutation : Refutation) (texts : HasTexts p) (r : IsRefutedIn (unfolded_problem p) blocks number refutation) where
  pub block_named : IsNamed (names_in p) refutation
  block_named = run_named None r.block.mode p r.commands refutation texts r.refuted None tt

  pub proof_of_block : ScheduleEnds (slots_for p blocks) (start (unfolded_problem p)) (closed number total) → AreDeclaredNames p (taken_names p) → (text : List ℕ) → text ≡ as_bytes (text_lines (named_refutation (names_in p) (taken_names p) refutation)) → IsProofInTurns blocks p total (Some (number + 1)) text
  proof_of_block ends declared text t = record {
    number = number;
    is_told = refl;
    closes = ends;
    block = r.block;
    its_block = r.its_block;
    commands = r.commands;
    proof = proof_of_run None r.block.mode p r.commands refutation texts r.refuted None tt declared text t;
  }

-- what a proof writes is accepted for the start
pub proof_of_start : (nodes : Option ℕ) (m : Mode) (p : PlainProblem) (n : ℕ) (tree : TreeReport) (text : List ℕ) (proof : IsProofOf nodes m p n tree text) → IsAccepted (scope_of p.declared) (start (unfolded_problem p)) proof.refutation
proof_of_start nodes m p n tree text proof =
    subst (IsAccepted (scope_of p.declared) (start (unfolded_problem p))) (sym proof.is_written)
    (written_accepted nodes m p n proof.rebuilt proof.refuted proof.stripped proof.asked)

-- the text of a run's proof is accepted for the problem
pub proof_accepted : (nodes : Option ℕ) (m : Mode) (p : PlainProblem) (n : ℕ) (tree : TreeReport) (text : List ℕ) (proof : IsProofOf nodes m p n tree text) → IsAcceptedFor p (named_refutation (names_in p) (taken_names p) proof.refutation)
proof_accepted nodes m p n tree text proof = named_accepted p proof.refutation proof.numbered (proof_of_start nodes m p n tree text proof)
