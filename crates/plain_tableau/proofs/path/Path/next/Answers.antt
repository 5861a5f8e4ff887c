use Rattle.std.specs.Prelude.{IfSome, IfNone}
use Rattle.std.proofs.Common.{◌≡◌, ◌<◌, ℕ, Bool, true, false, List, length, Option, Some, None}
use Rattle.std.specs.List.{position_or_len}
use Rattle.sat_base.specs.declared.literal.SatLit.{SatLit}
use Rattle.tableau_clauses.specs.Table.{Table}
use Rattle.plain_tableau.specs.Internal.Due.{is_due_at, is_due_place, IsPath}
use Rattle.plain_tableau.specs.declared.path.Path.{Path}
use Rattle.plain_tableau.proofs.DueLaws.{first_due, none_due}
use Rattle.plain_tableau.proofs.path.Path.next.Goals as goal

some_first : (count : ℕ) (t : Table) (used : List ℕ) (p : Path) → IsPath count t used p → (o : Option ℕ) → IfSome o (λ u. is_due_place p.due u ≡ true) → IfSome o (λ u. (v : ℕ) → v < u → is_due_place p.due v ≡ false) → IfSome o (λ u. (u < length used) × (position_or_len (is_due_at t p.literals.keys) used ≡ u))
some_first count t used p is None there least = tt
some_first count t used p is (Some u) there least = first_due t used p.literals.keys p.due is.due is.inside u there least

none_first : (count : ℕ) (t : Table) (used : List ℕ) (p : Path) → IsPath count t used p → (o : Option ℕ) → IfNone o ((v : ℕ) → is_due_place p.due v ≡ false) → IfNone o (position_or_len (is_due_at t p.literals.keys) used ≡ length used)
none_first count t used p is (Some u) none = tt
none_first count t used p is None none = none_due t used p.literals.keys p.due is.due none

pub returns-clause-some : goal.returns-clause-some
returns-clause-some c = some_first c.args.count c.args.steps.now c.args.used.now c.args.self.now c.requires.path c.first.result c.first.ensures.there c.first.ensures.least

pub returns-clause-none : goal.returns-clause-none
returns-clause-none c = none_first c.args.count c.args.steps.now c.args.used.now c.args.self.now c.requires.path c.first.result c.first.ensures.none
