-- Going back to a decision keeps a propagator right.
use Rattle.std.proofs.Common.{◌≡◌, inl, inr, ◌<◌, ◌≤◌, ℕ, Bool, List, Some, length, take, get_or, sym, ap, ◌∙◌, subst, arith}
use Rattle.std.specs.List.{slice_get, Contains}
use Rattle.std.proofs.lemmas.Bool.{cases_order}
use Rattle.std.proofs.lemmas.List.{take-take, get_or-take, length-take-le}
use Rattle.std.proofs.lemmas.Option.{slice_get_within, get_or_from_slice_get}
use Rattle.sat_base.specs.declared.literal.SatLit.{SatLit}
use Rattle.sat_log.specs.Propagation.{IsUnitClause}
use Rattle.sat_laws.specs.Internal.Watching.{IsKept}
use Rattle.sat_laws.proofs.WatchLaws.{AreWithin, kept_back}
use Rattle.sat_propagate.specs.Internal.Trail.{TrailState, literals, IsTrail}
use Rattle.sat_propagate.specs.Internal.WatchLists.{WatchTable}
use Rattle.sat_propagate.specs.Internal.Propagator.{IsPropagator}
use Rattle.sat_propagate.specs.declared.trail.Step.{Step}
use Rattle.sat_propagate.specs.Internal.ClauseTable.{Watched}
use Rattle.sat_propagate.proofs.ListLaws.{get-take}
use Rattle.sat_propagate.proofs.TableLaws.{take_literals_is, get_or-any}

pub right_back : (trail : TrailState) (processed : ℕ) (clauses : List Watched) (lists : WatchTable) (levels s : ℕ) → IsTrail trail → levels < length trail.starts → s ≡ get_or trail.starts levels 0
    → IsPropagator trail processed clauses lists → IsPropagator (record { steps = take s trail.steps; starts = take levels trail.starts; phases = trail.phases }) s clauses lists
right_back trail processed clauses lists levels s whole inside s_is right = record {
  reasoned = λ i step at.
      let early : i < s = within_take i step at in
      let r = right.reasoned i step (sym (get-take s trail.steps i early) ∙ at) in
      record {
        decided = λ e. still_start i early (r.decided e);
        forced = λ n e.
            let u = r.forced n e in
            (u.0, u.1, subst (λ (earlier : List SatLit). IsUnitClause earlier u.0.clause step.literal) (sym (part_same i early)) u.2);
      };
  started = λ k d h.
      let k_in : k < levels = omega (arith, length-take-le levels trail.starts (omega arith)) in
      let same : get_or (take levels trail.starts) k d ≡ get_or trail.starts k d = get_or-take levels trail.starts k d k_in in
      let default : get_or trail.starts k d ≡ get_or trail.starts k 0 = get_or-any trail.starts k d 0 (omega arith) in
      let less = whole.ascending k levels k_in inside in
      omega arith;
  processed_within = omega (arith, length-take-le s trail.steps short);
  covered = λ n watched at.
      let cover = right.covered n watched at in
      let part = cover.part in
      record {
        at = cover.at;
        part = part;
        there = cover.there;
        among = cover.among;
        kept = subst (λ (some : List SatLit). IsKept (take levels trail.starts) some s part.clause part.first part.second) (take_literals_is trail.steps s)
            (kept_back trail.starts (take levels trail.starts) (literals trail.steps) processed s part.clause part.first part.second at_start fewer before cover.kept);
      };
  members = right.members;
  listed = right.listed;
  over = right.over;
  lists_made = right.lists_made;
}
  where
    short : s ≤ length trail.steps
    short = let below = whole.within levels 0 inside in omega arith

    within_take : (i : ℕ) (step : Step) → slice_get (take s trail.steps) i ≡ Some step → i < s
    within_take i step at =
        let inside_it = slice_get_within (take s trail.steps) i step at in
        omega (arith, length-take-le s trail.steps short)

    part_same : (i : ℕ) → i < s → take i (literals (take s trail.steps)) ≡ take i (literals trail.steps)
    part_same i early = ap (take i) (sym (take_literals_is trail.steps s)) ∙ take-take i s (literals trail.steps) (omega arith)

    at_start : Contains trail.starts s
    at_start = (levels, inside, get_or-any trail.starts levels s 0 inside ∙ sym s_is)

    fewer : (k : ℕ) → Contains (take levels trail.starts) k → Contains trail.starts k
    fewer k there =
        let at = there.0 in
        let within = there.1 in
        let at_in : at < levels = omega (arith, length-take-le levels trail.starts (omega arith)) in
        (at, omega arith, sym (get_or-take levels trail.starts at k at_in) ∙ there.2)

    before : AreWithin (take levels trail.starts) s
    before k there =
        let at = there.0 in
        let within = there.1 in
        let at_in : at < levels = omega (arith, length-take-le levels trail.starts (omega arith)) in
        let value : get_or trail.starts at k ≡ k = sym (get_or-take levels trail.starts at k at_in) ∙ there.2 in
        let default : get_or trail.starts at k ≡ get_or trail.starts at 0 = get_or-any trail.starts at k 0 (omega arith) in
        let less = whole.ascending at levels at_in inside in
        omega arith

    still_start : (i : ℕ) → i < s → Contains trail.starts i → Contains (take levels trail.starts) i
    still_start i early there =
        let at = there.0 in
        let within : at < length trail.starts = there.1 in
        let value : get_or trail.starts at i ≡ i = there.2 in
        let default : get_or trail.starts at i ≡ get_or trail.starts at 0 = get_or-any trail.starts at i 0 within in
        elim (cases_order at levels) [
          | inl same ↦ let e : get_or trail.starts at 0 ≡ get_or trail.starts levels 0 = ap (λ (n : ℕ). get_or trail.starts n 0) same in absurd (omega arith)
          | inr other ↦ elim other [
            | inl less ↦ (at, omega (arith, length-take-le levels trail.starts (omega arith)), get_or-take levels trail.starts at i less ∙ value)
            | inr more ↦ let later = whole.ascending levels at more within in absurd (omega arith)
          ]
        ]

pub right_went_back : (trail after : TrailState) (processed : ℕ) (clauses : List Watched) (lists : WatchTable) (levels s : ℕ) → IsTrail trail → levels < length trail.starts → slice_get trail.starts levels ≡ Some s
    → after.steps ≡ take (get_or trail.starts levels 0) trail.steps → after.starts ≡ take levels trail.starts → after.phases ≡ trail.phases
    → IsPropagator trail processed clauses lists → IsPropagator after s clauses lists
right_went_back trail after processed clauses lists levels s whole inside at steps starts phases right =
    subst (λ (list : List Bool). IsPropagator (record { steps = after.steps; starts = after.starts; phases = list }) s clauses lists) (sym phases)
    (subst (λ (list : List ℕ). IsPropagator (record { steps = after.steps; starts = list; phases = trail.phases }) s clauses lists) (sym starts)
    (subst (λ (list : List Step). IsPropagator (record { steps = list; starts = take levels trail.starts; phases = trail.phases }) s clauses lists) (sym (steps ∙ ap (λ (n : ℕ). take n trail.steps) (sym s_is)))
    (right_back trail processed clauses lists levels s whole inside s_is right)))
  where
    s_is : s ≡ get_or trail.starts levels 0
    s_is = sym (get_or_from_slice_get trail.starts levels s 0 at)
