-- Searches that are made for blocks.
use Rattle.std.specs.Prelude.{◌≡◌, ◌<◌, ◌≤◌, IfSome, ℕ, zero, suc, Bool, false, List, [], ◌∷◌, map, filter, length, slice_get, Option, Some, Result, Ok, Err, IfOk, refl}
use Rattle.std.proofs.Common.{sym, ap, subst, ◌∙◌, arith}
use Rattle.std.specs.List.{All}
use Rattle.std.proofs.lemmas.List.{length-map}
use Rattle.std.proofs.lemmas.Option.{same_Some}
use Rattle.tableau_calculus.specs.Each.{Each}
use Rattle.prover_state.proofs.EachLaws.{each-from_All, each-weaker, each-at}
use Rattle.mode_file.specs.Given.{IsInRange}
use Rattle.mode_schedule.specs.Grammar.{most_blocks}
use Rattle.mode_schedule.specs.Internal.Standing.{AreSlots, most_commands}
use Rattle.stt_core.specs.PlainProblem.{PlainProblem}
use Rattle.stt_core.specs.TypedProblem.{IsTyped}
use Rattle.tableau_calculus.specs.Start.{start}
use Rattle.search_spec.specs.Shallow.{is_shallow_literal}
use Rattle.mode_file.specs.declared.Mode.{Mode}
use Rattle.command_queue.specs.Queue.{Queue}
use Rattle.prover_state.specs.declared.command.Planned.{Planned}
use Rattle.prover_state.specs.declared.command.Delays.{Delays}
use Rattle.prover_state.specs.declared.tables.Tables.{Tables}
use Rattle.prover_state.specs.Internal.Standing.{setting_by}
use Rattle.prover_search.specs.Internal.Running.{start_in, IsUnderWay}
use Rattle.prover_search.proofs.SearchLaws.{scope-same}
use Rattle.prover_run.specs.Ended.{setting_for}
use Rattle.prover_run.proofs.RunLaws.{until-nothing}
use Rattle.mode_schedule.specs.declared.Block.{Block}
use Rattle.mode_schedule.specs.Turns.{Slot}
use Rattle.mode_schedule.specs.Scheduled.{slot_for}
use Rattle.mode_schedule.specs.Internal.Searching.{IsReadyAt}

-- the slot of a block
pub slot-is : (p : PlainProblem) (blocks : List Block) (k : ℕ) (block : Block) (slot : Slot) → slice_get blocks k ≡ Some block → slice_get (map (slot_for p) blocks) k ≡ Some slot → slot_for p block ≡ slot
slot-is p [] k block slot e f = absurd (cc)
slot-is p (b ∷ bs) zero block slot e f = ap (slot_for p) (sym (same_Some b block e)) ∙ same_Some (slot_for p b) slot f
slot-is p (b ∷ bs) (suc k) block slot e f = slot-is p bs k block slot e f

-- a search at its start
pub ready-new : (p : PlainProblem) (typed : IsTyped p) (mode : Mode) (slot : Slot) (slice : ℕ) → slot_for p (record { slice = slice; mode = mode }) ≡ slot
    → (t : Tables) (q : Queue Planned Delays) (m : Mode) (refused : Bool) → IsUnderWay t q m → m ≡ mode → t.basis.bank.bases ≡ p.declared.bases → t.basis.bank.consts ≡ p.declared.consts
    → start_in t ≡ filter is_shallow_literal (start p) → t.done ≡ 0 → refused ≡ false → IsReadyAt slot.setting (filter is_shallow_literal (start p)) 0 t q m refused
ready-new p typed mode slot slice is t q m refused under_way same bases consts literals done ready =
    let scope = scope-same p typed t.basis.bank bases consts in
    let by = under_way.mode ∙ same in
    let setting : setting_by t q ≡ setting_for p mode = λ i. record { scope = scope i; mode = by i } in
    record {
      at = record {
        under_way = under_way;
        setting_is = setting ∙ ap (λ (s : Slot). s.setting) is;
        start_is = literals;
        done_is = done;
        until = until-nothing slot.setting (filter is_shallow_literal (start p));
      };
      ready = ready;
    }

-- what seven facts of a result together say of it
pub ok_seven : {S E : Type 0} (r : Result S E) (A B C D F G H Q : S → Type 0) → IfOk r A → IfOk r B → IfOk r C → IfOk r D → IfOk r F → IfOk r G → IfOk r H → ((s : S) → A s → B s → C s → D s → F s → G s → H s → Q s) → IfOk r Q
ok_seven (Ok s) A B C D F G H Q a b c d e f g h = h s a b c d e f g
ok_seven (Err e) A B C D F G H Q a b c d e' f g h = tt

-- THE SLOTS OF BLOCKS

pub slices-are : (p : PlainProblem) (blocks : List Block) → map (λ (s : Slot). s.slice) (map (slot_for p) blocks) ≡ map (λ (b : Block). b.slice) blocks
slices-are p [] = refl
slices-are p (b ∷ bs) = ap (λ ns. b.slice ∷ ns) (slices-are p bs)

each-slot : (p : PlainProblem) (P : Slot → Type 0) (blocks : List Block) → Each (λ (b : Block). P (slot_for p b)) blocks → Each P (map (slot_for p) blocks)
each-slot p P [] h = tt
each-slot p P (b ∷ bs) h = (h.0, each-slot p P bs h.1)

pub are-slots : (p : PlainProblem) (blocks : List Block) → length blocks ≤ most_blocks → All (λ (b : Block). 0 < b.slice) blocks → All (λ (b : Block). IsInRange b.mode) blocks → AreSlots (map (slot_for p) blocks)
are-slots p blocks few slices in_range = record {
  few = omega (arith, few, length-map blocks (slot_for p));
  slices = each-slot p (λ (s : Slot). 0 < s.slice) blocks (each-from_All (λ (b : Block). 0 < b.slice) blocks slices);
  limits = each-slot p (λ (s : Slot). s.setting.mode.commands ≤ most_commands) blocks (each-weaker (λ (b : Block). IsInRange b.mode) (λ (b : Block). b.mode.commands ≤ most_commands) (λ b h. h.commands) blocks (each-from_All (λ (b : Block). IsInRange b.mode) blocks in_range));
}

-- what holds of an element where there is one
pub some-holds : (X : Type 0) (P : X → Type 0) (o : Option X) (x : X) → IfSome o P → o ≡ Some x → P x
some-holds X P o x h e = let k : IfSome (Some x) P = subst (λ (p : Option X). IfSome p P) e h in k

-- what holds of all elements holds of that of a number
pub all-at : {X : Type 0} (P : X → Type 0) (xs : List X) (k : ℕ) (x : X) → All P xs → slice_get xs k ≡ Some x → P x
all-at P xs k x h e = each-at P xs k x (each-from_All P xs h) e
