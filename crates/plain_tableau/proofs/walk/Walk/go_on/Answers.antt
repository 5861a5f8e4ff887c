use Rattle.std.proofs.lemmas.Option.{slice_get_within}
use Rattle.std.proofs.Common.{◌≡◌, ◌<◌, ◌≤◌, ◌+◌, ◌++◌, ℕ, true, false, List, [], ◌∷◌, length, reverse, get_or, Some, slice_get, slice_index_or, refl, sym, ap, ◌∙◌, subst, length-append, arith}
use Rattle.sat_base.specs.declared.literal.SatLit.{SatLit}
use Rattle.sat_base.specs.Literal.{IsOver}
use Rattle.stt_core.specs.Lambda.{Lambda}
use Rattle.tableau_calculus.specs.declared.refutation.Child.{Child}
use Rattle.tableau_calculus.specs.declared.refutation.Child.TheVariants.{Closed}
use Rattle.literal_map.specs.declared.instance.Instance.{Instance as BankInstance}
use Rattle.tableau_calculus.specs.Kinds.{added}
use Rattle.search_spec.specs.Numbered.{numbers}
use Rattle.tableau_clauses.specs.Table.{Table, the_instances}
use Rattle.tableau_rebuild.specs.Tables.{atoms_at}
use Rattle.witness_names.specs.Rows.{rows_of}
use Rattle.plain_tableau.specs.Trees.{TreeInstance}
use Rattle.plain_tableau.specs.Tables.{the_used}
use Rattle.plain_tableau.specs.declared.walk.Frame.{Frame}
use Rattle.plain_tableau.specs.Internal.Due.{clashes}
use Rattle.plain_tableau.specs.Internal.Writing.{IsWriting}
use Rattle.plain_tableau.specs.Internal.Walking.{IsAhead}
use Rattle.plain_tableau.proofs.MachineLaws.{frame_inside, frame_instance, closed_back, open_ahead}
use Rattle.plain_tableau.proofs.ExpandLaws.{usable_over, alternative_over, reverse_push, used_within}
use Rattle.plain_tableau.proofs.walk.Walk.go_on.Goals as goal

-- an alternative of the instance at a place
alternative_at : (terms : List Lambda) (atoms : List ℕ) (t : Table) (used : List ℕ) (place first : ℕ) (i : TreeInstance SatLit) (kept : BankInstance) (k n : ℕ) (a : List SatLit) → place ≡ first → slice_get (the_used terms atoms t used) place ≡ Some i → slice_get (the_instances t) (get_or used first 0) ≡ Some kept → slice_get kept.alternatives k ≡ Some a → n ≡ k → slice_get i.alternatives n ≡ Some a
alternative_at terms atoms t used place first i kept k n a same there e at is =
    ap (λ (x : TreeInstance SatLit). slice_get x.alternatives n) (frame_instance terms atoms t used place i kept there (ap (λ p. slice_get (the_instances t) (get_or used p 0)) same ∙ e)) ∙ ap (slice_get kept.alternatives) is ∙ at

pub enter-requires-clause-path : goal.enter-requires-clause-path
enter-requires-clause-path c = c.loop-k.invariant.path

pub enter-requires-clause-over : goal.enter-requires-clause-over
enter-requires-clause-over c =
    let b = c.args.bank.now in
    let atoms = c.args.atoms.now in
    let t = c.args.steps.now in
    let used = c.args.used.now in
    let rows = rows_of b.terms c.args.witnesses.now in
    let place = c.args.frame.place in
    let inside = frame_inside b.terms atoms t used place c.requires.back.top.instance c.requires.back.is_frame.instance in
    let over = usable_over b atoms rows t (get_or used place 0) c.in_ok-instance.instance (c.requires.used place 0 inside) c.in_ok-instance.ensures in
    subst (IsOver (length atoms)) (sym c.as_slice-lits.ensures) (alternative_over (length atoms) c.in_ok-instance.instance.alternatives c.loop-k.k c.at.result.now over.alternatives c.at.ensures)

pub returns-then-not-clashes-clause-writing : goal.returns-then-not-clashes-clause-writing
returns-then-not-clashes-clause-writing c = subst (IsWriting c.args.bank.now c.args.atoms.now c.args.witnesses.now) (sym c.in_ok-enter.ensures.writing) c.loop-k.invariant.writing

pub returns-then-not-clashes-clause-ahead : goal.returns-then-not-clashes-clause-ahead
returns-then-not-clashes-clause-ahead c = λ _.
    let b = c.args.bank.now in
    let atoms = c.args.atoms.now in
    let t = c.args.steps.now in
    let used = c.args.used.now in
    let U = the_used b.terms atoms t used in
    let A = atoms_at b.terms atoms in
    let f = c.loop-k.frame in
    let h = c.loop-k.invariant.back in
    let keys = c.loop-k.self.path.literals.keys in
    let lines = c.loop-k.self.writing.lines in
    let fs = reverse c.loop-k.self.frames.items in
    let a = c.at.result.now in
    let there = alternative_at b.terms atoms t used f.place c.args.frame.place h.top.instance c.in_ok-instance.instance c.loop-k.k (length f.children) a c.loop-k.invariant.place h.is_frame.instance c.in_ok-instance.ensures c.at.ensures c.loop-k.invariant.count in
    let open' : clashes keys a ≡ false = ap (clashes keys) (sym c.as_slice-lits.ensures) ∙ sym c.clashes.ensures ∙ c.if-not-clashes.true in
    let ahead = open_ahead U c.args.nodes c.args.start.now A c.args.made fs f keys lines h h.top.instance h.is_frame.instance a there open' in
    let frames : reverse c.enter.new.self.frames.items ≡ f ∷ fs = ap (λ v. reverse v.items) c.in_ok-enter.ensures.frames ∙ reverse_push c.loop-k.self.frames.items c.push.new.self.items f c.in_ok-push.ensures.items in
    let branch : c.enter.new.self.path.literals.keys ≡ added numbers keys a = c.in_ok-enter.ensures.keys ∙ ap (added numbers keys) c.as_slice-lits.ensures in
    let written : c.enter.new.self.writing.lines ≡ lines = ap (λ w. w.lines) c.in_ok-enter.ensures.writing in
    subst (λ ls. IsAhead U c.args.nodes c.args.start.now A c.args.made (reverse c.enter.new.self.frames.items) c.enter.new.self.path.literals.keys ls) (sym written)
    (subst (λ ks. IsAhead U c.args.nodes c.args.start.now A c.args.made (reverse c.enter.new.self.frames.items) ks lines) (sym branch) (subst (λ gs. IsAhead U c.args.nodes c.args.start.now A c.args.made gs (added numbers keys a) lines) (sym frames) ahead))

pub loop-k-preserved : goal.loop-k-preserved
loop-k-preserved c =
    let b = c.args.bank.now in
    let atoms = c.args.atoms.now in
    let t = c.args.steps.now in
    let used = c.args.used.now in
    let U = the_used b.terms atoms t used in
    let A = atoms_at b.terms atoms in
    let f = c.loop-k.frame in
    let h = c.loop-k.invariant.back in
    let keys = c.loop-k.self.path.literals.keys in
    let a = c.at.result.now in
    let there = alternative_at b.terms atoms t used f.place c.args.frame.place h.top.instance c.in_ok-instance.instance c.loop-k.k (length f.children) a c.loop-k.invariant.place h.is_frame.instance c.in_ok-instance.ensures c.at.ensures c.loop-k.invariant.count in
    let shut : clashes keys a ≡ true = ap (clashes keys) (sym c.as_slice-lits.ensures) ∙ sym c.clashes.ensures ∙ c.if-not-clashes.false in
    let k : Frame = record { place = f.place; len = f.len; children = c.push-in-loop-k.new.self } in
    let counted = ap (λ (cs : List Child). length cs) c.in_ok-push-2.ensures.ok ∙ length-append f.children (Closed ∷ []) in
    record {
      path = c.loop-k.invariant.path;
      writing = c.loop-k.invariant.writing;
      back = closed_back U c.args.nodes c.args.start.now A c.args.made (reverse c.loop-k.self.frames.items) f keys c.loop-k.self.writing.lines h h.top.instance h.is_frame.instance a there shut k refl refl c.in_ok-push-2.ensures.ok;
      count = omega (arith, counted, c.loop-k.invariant.count);
      place = c.loop-k.invariant.place;
    }

pub finish-requires-clause-path : goal.finish-requires-clause-path
finish-requires-clause-path c = c.loop-k.invariant.path

pub finish-requires-clause-writing : goal.finish-requires-clause-writing
finish-requires-clause-writing c = c.loop-k.invariant.writing

pub finish-requires-clause-full : goal.finish-requires-clause-full
finish-requires-clause-full c = λ i there.
    let is = frame_instance c.args.bank.now.terms c.args.atoms.now c.args.steps.now c.args.used.now c.loop-k.frame.place i c.in_ok-instance.instance there (ap (λ p. slice_get (the_instances c.args.steps.now) (get_or c.args.used.now p 0)) c.loop-k.invariant.place ∙ c.in_ok-instance.ensures) in
    let count : length i.alternatives ≡ length c.in_ok-instance.instance.alternatives = ap (λ (x : TreeInstance SatLit). length x.alternatives) is in
    omega (arith, count, c.loop-k.invariant.count, c.loop-k-test.false, c.len-k-end.ensures)

pub enter-requires-clause-within : goal.enter-requires-clause-within
enter-requires-clause-within c = λ k d h.
    let usable = c.requires.used k d h in
    slice_get_within (the_instances c.args.steps.now) (slice_index_or c.args.used.now k d) usable.instance usable.there
