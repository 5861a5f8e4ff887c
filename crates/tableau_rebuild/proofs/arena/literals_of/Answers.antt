use Rattle.std.proofs.Common.{◌≡◌, ◌<◌, [], None, length, sym, subst, ◌∙◌}
use Rattle.std.specs.List.{slice_get}
use Rattle.std.proofs.lemmas.Option.{slice_get-get_or}
use Rattle.tableau_clauses.specs.Table.{the_clauses}
use Rattle.tableau_rebuild.specs.Internal.Arenas.{IsThere}
use Rattle.tableau_rebuild.proofs.arena.literals_of.Goals as goal

pub unreachable-requires : goal.unreachable-requires
unreachable-requires c =
    let clauses = the_clauses c.args.steps.now in
    let n = c.in-Clause.field-0 in
    let inside : n < length clauses = subst (IsThere (length clauses) (length c.args.log.now)) c.in-Clause.is c.requires.there in
    let none : slice_get clauses n ≡ None = sym (c.requires.copied n c.in-Clause.is) ∙ c.in-None.is in
    let some = slice_get-get_or clauses n [] inside in
    cc
