-- Literals of the start that are too deep don't count.
use Rattle.std.specs.Prelude.{◌≡◌, ◌+◌, ◌∷◌, ℕ, zero, suc, List, [], filter, slice_get, Some, None, refl}
use Rattle.std.proofs.lemmas.Option.{same_Some}
use Rattle.std.proofs.Common.{sym, subst, ◌∙◌}
use Rattle.stt_core.specs.PlainProblem.{PlainProblem}
use Rattle.tableau_calculus.specs.Literals.{Literal}
use Rattle.tableau_calculus.specs.Start.{start}
use Rattle.tableau_calculus.specs.declared.refutation.Refutation.{Refutation}
use Rattle.search_spec.specs.Shallow.{is_shallow_literal}
use Rattle.search_spec.specs.State.{Setting}
use Rattle.search_spec.specs.Result.{IsProved}
use Rattle.prover_run.specs.Ended.{setting_for, IsProvedBy}
use Rattle.prover_run.specs.declared.ended.Ended.TheVariants.{Proved}
use Rattle.prover_run.proofs.RunLaws.{after_shallow, until_whole, exhausted-whole, stopped-whole, ends-as}
use Rattle.mode_schedule.specs.declared.Block.{Block}
use Rattle.mode_schedule.specs.Turns.{Slot, Course, opened, done_by, End, LeadsTo, has_none_left, is_at_limit, goes_on, ScheduleEnds, ScheduleEndsFrom, closes, ends_after, no_turn_left}
use Rattle.mode_schedule.specs.Ends.{IsSpentAt, SpendsFrom, spends_here, spends_later, Spends}
use Rattle.mode_schedule.specs.Scheduled.{slot_for, slots_for, IsRefutedIn}

proved-whole : (setting : Setting) (ls : List Literal) (n : ℕ) → IsProved setting (filter is_shallow_literal ls) n → IsProved setting ls n
proved-whole setting ls n p = record { until = until_whole setting ls n p.until; state = p.state; comes_to = sym (after_shallow setting ls n) ∙ p.comes_to; unsatisfiable = p.unsatisfiable }

spent-whole : (setting : Setting) (ls : List Literal) (n conflicts : ℕ) → IsSpentAt setting (filter is_shallow_literal ls) n conflicts → IsSpentAt setting ls n conflicts
spent-whole setting ls n conflicts s =
    let here = s.spent in
    record {
      spent = record {
        is_budget = here.is_budget;
        commands = here.commands;
        until = until_whole setting ls here.commands here.until;
        state = here.state;
        comes_to = sym (after_shallow setting ls here.commands) ∙ here.comes_to;
        spent = here.spent;
      };
      after = s.after;
    }

-- a schedule from the literals that aren't too deep goes as one from all
module _ (slots : List Slot) (ls : List Literal) where
  leads-whole : (c next : Course) → LeadsTo slots (filter is_shallow_literal ls) c next → LeadsTo slots ls c next
  leads-whole _ _ (has_none_left c turn slot k h l p) = has_none_left c turn slot k h l (exhausted-whole slot.setting ls (done_by c turn + k) p)
  leads-whole _ _ (is_at_limit c turn slot k h l p) = is_at_limit c turn slot k h l (stopped-whole slot.setting ls (done_by c turn + k) p)
  leads-whole _ _ (goes_on c turn slot h until) = goes_on c turn slot h (until_whole slot.setting ls (done_by c turn + slot.slice) until)

  ends-whole : (c : Course) (e : End) → ScheduleEndsFrom slots (filter is_shallow_literal ls) c e → ScheduleEndsFrom slots ls c e
  ends-whole _ _ (closes c turn slot k h l p) = closes c turn slot k h l (proved-whole slot.setting ls (done_by c turn + k) p)
  ends-whole _ _ (ends_after c next e t d) = ends_after c next e (leads-whole c next t) (ends-whole next e d)
  ends-whole _ _ (no_turn_left c none) = no_turn_left c none

  spends-whole : (c : Course) (conflicts : ℕ) → SpendsFrom slots (filter is_shallow_literal ls) c conflicts → SpendsFrom slots ls c conflicts
  spends-whole _ _ (spends_here c turn slot k conflicts h l s) = spends_here c turn slot k conflicts h l (spent-whole slot.setting ls (done_by c turn + k) conflicts s)
  spends-whole _ _ (spends_later c next conflicts t d) = spends_later c next conflicts (leads-whole c next t) (spends-whole next conflicts d)

-- the block of a slot
record BlockOf (p : PlainProblem) (blocks : List Block) (k : ℕ) (slot : Slot) : Type 0 where
  pub block : Block
  pub its_block : slice_get blocks k ≡ Some block
  pub slot_is : slot_for p block ≡ slot

block-of : (p : PlainProblem) (blocks : List Block) (k : ℕ) (slot : Slot) → slice_get (slots_for p blocks) k ≡ Some slot → BlockOf p blocks k slot
block-of p [] k slot e = absurd (cc)
block-of p (b ∷ bs) zero slot e = record { block = b; its_block = refl; slot_is = same_Some (slot_for p b) slot e }
block-of p (b ∷ bs) (suc k) slot e = let later = block-of p bs k slot e in record { block = later.block; its_block = later.its_block; slot_is = later.slot_is }

module _ (p : PlainProblem) (blocks : List Block) where
  abbrev few : List Literal
  few = filter is_shallow_literal (start p)

  pub ends-so : (e : End) → ScheduleEnds (slots_for p blocks) few e → ScheduleEnds (slots_for p blocks) (start p) e
  ends-so e h = ends-whole (slots_for p blocks) (start p) (opened (slots_for p blocks)) e h

  pub spent-so : (conflicts : ℕ) → Spends (slots_for p blocks) few conflicts → Spends (slots_for p blocks) (start p) conflicts
  spent-so conflicts h = spends-whole (slots_for p blocks) (start p) (opened (slots_for p blocks)) conflicts h

  -- a refutation of a slot's run is that of its block
  pub refuted-so : (number n : ℕ) (slot : Slot) (refutation : Refutation) → slice_get (slots_for p blocks) number ≡ Some slot → IsProvedBy slot.setting few n refutation → IsRefutedIn p blocks number refutation
  refuted-so number n slot refutation e h =
      let b = block-of p blocks number slot e in
      let here : IsProvedBy (setting_for p b.block.mode) few n refutation = subst (λ (s : Slot). IsProvedBy s.setting few n refutation) (sym b.slot_is) h in
      record {
        block = b.block;
        its_block = b.its_block;
        commands = n;
        refuted = (ends-as p b.block.mode (setting_for p b.block.mode) few refl refl None (Proved n refutation None) (here, tt)).0;
      }
