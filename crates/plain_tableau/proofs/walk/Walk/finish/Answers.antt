use Rattle.std.proofs.Common.{◌≡◌, ◌<◌, ◌≤◌, ◌+◌, ◌++◌, ℕ, List, [], ◌∷◌, length, reverse, get_or, Some, slice_get, refl, sym, ap, ap₂, ◌∙◌, subst, arith}
use Rattle.std.proofs.lemmas.List.{append-nil}
use Rattle.sat_base.specs.declared.literal.SatLit.{SatLit}
use Rattle.tableau_calculus.specs.declared.refutation.Line.{Line}
use Rattle.tableau_calculus.specs.declared.refutation.Child.{Child}
use Rattle.tableau_calculus.specs.declared.refutation.Child.TheVariants.{Line as Numbered}
use Rattle.witness_names.specs.Rows.{rows_of}
use Rattle.tableau_rebuild.specs.Tables.{atoms_at, the_instance}
use Rattle.plain_tableau.specs.Lines.{node_line}
use Rattle.plain_tableau.specs.Tables.{expanded, the_used}
use Rattle.plain_tableau.specs.declared.walk.Frame.{Frame}
use Rattle.plain_tableau.specs.Internal.Walking.{IsBack, WalkStands}
use Rattle.plain_tableau.proofs.MachineLaws.{frame_inside, frame_instance, finish_done, finish_back, parent_len}
use Rattle.plain_tableau.proofs.ExpandLaws.{used_within, good_use, nothing_there, reverse_push}
use Rattle.plain_tableau.proofs.walk.Walk.finish.Goals as goal

pub write-requires-clause-good : goal.write-requires-clause-good
write-requires-clause-good c =
    let b = c.args.bank.now in
    let atoms = c.args.atoms.now in
    let t = c.args.steps.now in
    let used = c.args.used.now in
    let place = c.args.frame.place in
    let inside = frame_inside b.terms atoms t used place c.requires.back.top.instance c.requires.back.is_frame.instance in
    good_use b atoms (rows_of b.terms c.args.witnesses.now) t (get_or used place 0) c.in_ok-instance.instance (c.requires.used place 0 inside) c.in_ok-instance.ensures

pub truncate-requires-clause-within : goal.truncate-requires-clause-within
truncate-requires-clause-within c = used_within c.args.bank.now c.args.atoms.now (rows_of c.args.bank.now.terms c.args.witnesses.now) c.args.steps.now c.args.used.now c.requires.used

pub truncate-requires-clause-len : goal.truncate-requires-clause-len
truncate-requires-clause-len c =
    let U = the_used c.args.bank.now.terms c.args.atoms.now c.args.steps.now c.args.used.now in
    let A = atoms_at c.args.bank.now.terms c.args.atoms.now in
    let keys = c.args.self.now.path.literals.keys in
    let lines = c.args.self.now.writing.lines in
    let ps = reverse c.pop.new.self.items in
    let frames = reverse_push c.pop.new.self.items c.args.self.now.frames.items c.in-Some.parent c.in-Some.ensures.items in
    let back = subst (λ fs. IsBack U c.args.nodes c.args.start.now A c.args.made fs c.args.frame keys lines) frames c.requires.back in
    parent_len U c.args.nodes c.args.start.now A c.args.made c.in-Some.parent ps c.args.frame keys lines back

pub returns-in-None-clause-stands : goal.returns-in-None-clause-stands
returns-in-None-clause-stands c =
    let b = c.args.bank.now in
    let atoms = c.args.atoms.now in
    let t = c.args.steps.now in
    let used = c.args.used.now in
    let U = the_used b.terms atoms t used in
    let A = atoms_at b.terms atoms in
    let keys = c.args.self.now.path.literals.keys in
    let lines = c.args.self.now.writing.lines in
    let h = c.requires.back in
    let place = c.args.frame.place in
    let i = expanded (the_instance b.terms atoms c.in_ok-instance.instance) in
    let there : slice_get U place ≡ Some i = h.is_frame.instance ∙ ap Some (frame_instance b.terms atoms t used place h.top.instance c.in_ok-instance.instance h.is_frame.instance c.in_ok-instance.ensures) in
    let count : length c.pop.new.self.items ≡ 0 = omega (arith, c.in-None.ensures.cases.1, c.pop.new.self.ok.0) in
    let none = nothing_there c.pop.new.self.items count in
    let old : c.args.self.now.frames.items ≡ [] = c.in-None.ensures.items ∙ append-nil c.pop.new.self.items ∙ none in
    let back = subst (λ fs. IsBack U c.args.nodes c.args.start.now A c.args.made (reverse fs) c.args.frame keys lines) old h in
    let is : c.write.new.self.lines ≡ lines ++ node_line A i keys c.args.frame.children ∷ [] = c.in_ok-number.ensures.lines ∙ ap (λ (ks : List SatLit). lines ++ node_line A i ks c.args.frame.children ∷ []) c.as_slice.ensures in
    subst (λ fs. WalkStands U c.args.nodes c.args.start.now A c.args.made (reverse fs) keys c.write.new.self.lines) (sym none) (finish_done U c.args.nodes c.args.start.now A c.args.made c.args.frame keys lines c.write.new.self.lines back c.requires.full i there is)

pub returns-in_ok-push-in-Some-2-clause-stands : goal.returns-in_ok-push-in-Some-2-clause-stands
returns-in_ok-push-in-Some-2-clause-stands c =
    let b = c.args.bank.now in
    let atoms = c.args.atoms.now in
    let t = c.args.steps.now in
    let used = c.args.used.now in
    let U = the_used b.terms atoms t used in
    let A = atoms_at b.terms atoms in
    let keys = c.args.self.now.path.literals.keys in
    let lines = c.args.self.now.writing.lines in
    let h = c.requires.back in
    let place = c.args.frame.place in
    let p = c.in-Some.parent in
    let ps = reverse c.pop.new.self.items in
    let k : Frame = record { place = p.place; len = p.len; children = c.push.new.self } in
    let i = expanded (the_instance b.terms atoms c.in_ok-instance.instance) in
    let there : slice_get U place ≡ Some i = h.is_frame.instance ∙ ap Some (frame_instance b.terms atoms t used place h.top.instance c.in_ok-instance.instance h.is_frame.instance c.in_ok-instance.ensures) in
    let frames = reverse_push c.pop.new.self.items c.args.self.now.frames.items p c.in-Some.ensures.items in
    let back = subst (λ fs. IsBack U c.args.nodes c.args.start.now A c.args.made fs c.args.frame keys lines) frames h in
    let is : c.write.new.self.lines ≡ lines ++ node_line A i keys c.args.frame.children ∷ [] = c.in_ok-number.ensures.lines ∙ ap (λ (ks : List SatLit). lines ++ node_line A i ks c.args.frame.children ∷ []) c.as_slice.ensures in
    let children : c.push.new.self ≡ p.children ++ Numbered (length lines) ∷ [] = c.in_ok-push-in-Some.ensures.ok ∙ ap (λ n. p.children ++ Numbered n ∷ []) c.in_ok-number.ensures.number in
    let new = reverse_push c.pop.new.self.items c.push-in-Some.new.self.items k c.in_ok-push-in-Some-2.ensures.items in
    subst (λ fs. WalkStands U c.args.nodes c.args.start.now A c.args.made fs c.truncate.new.self.literals.keys c.write.new.self.lines) (sym new)
    (finish_back U c.args.nodes c.args.start.now A c.args.made c.args.frame keys lines c.write.new.self.lines p ps back c.requires.full i there is k refl refl children c.truncate.new.self.literals.keys c.in_ok-truncate-in-Some.ensures.keys)
