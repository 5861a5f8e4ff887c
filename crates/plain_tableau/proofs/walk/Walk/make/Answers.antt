use Rattle.std.proofs.Common.{◌≡◌, ◌+◌, reverse, get_or, refl, sym, subst}
use Rattle.tableau_rebuild.specs.Tables.{atoms_at}
use Rattle.plain_tableau.specs.Tables.{used_at, the_used}
use Rattle.plain_tableau.specs.declared.walk.Frame.{Frame}
use Rattle.plain_tableau.specs.Internal.Walking.{WalkStands}
use Rattle.plain_tableau.proofs.MachineLaws.{used_there, next_some, make_back}
use Rattle.plain_tableau.proofs.ExpandLaws.{reverse_push}
use Rattle.plain_tableau.proofs.walk.Walk.make.Goals as goal

pub advance-requires-clause-stands : goal.advance-requires-clause-stands
advance-requires-clause-stands c =
    let b = c.args.bank.now in
    let atoms = c.args.atoms.now in
    let t = c.args.steps.now in
    let used = c.args.used.now in
    let U = the_used b.terms atoms t used in
    let A = atoms_at b.terms atoms in
    let keys = c.args.self.now.path.literals.keys in
    let lines = c.args.self.now.writing.lines in
    let place = c.args.place in
    let i = used_at b.terms atoms t (get_or used place 0) in
    let f : Frame = record { place = place; len = c.len.result; children = c.new.result } in
    let fs = reverse c.args.self.now.frames.items in
    let frames = reverse_push c.args.self.now.frames.items c.push.new.self.items f c.in_ok-push.ensures.items in
    subst (λ gs. WalkStands U c.args.nodes c.args.start.now A (c.args.made + 1) gs keys lines) (sym frames)
    (make_back U c.args.nodes c.args.start.now A c.args.made fs keys lines f i c.requires.ahead c.len.ensures c.new.ensures (used_there b.terms atoms t keys used place c.requires.within) (next_some b.terms atoms t keys used place c.requires.within c.requires.next) c.requires.fewer)
