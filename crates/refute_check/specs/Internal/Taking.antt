-- What a rule of a text takes, by numbers.
use Rattle.std.specs.Prelude.{◌<◌, List, map, length, Option, Some, None}
use Rattle.stt_core.specs.Typing.{Scope}
use Rattle.tableau_calculus.specs.Literals.{Literal}
use Rattle.tableau_calculus.specs.Witnesses.{Row}
use Rattle.tableau_calculus.specs.RuleUses.{principals_of, EachPart}
use Rattle.tableau_calculus.specs.Rules.{PlainRule, IsInstance}
use Rattle.tableau_calculus.specs.Accepted.{IsTypedUse}
use Rattle.tableau_calculus.specs.Checks.{FindsInstance}
use Rattle.literal_map.specs.Numbers.{UseByNumbers}
use Rattle.literal_map.specs.declared.instance.Instance.{Instance}
use Rattle.tableau_calculus.specs.Each.{Each}
use Rattle.tableau_rules.specs.Uses.{use_of}
use Rattle.refute_check.specs.declared.shared.Shared.{Shared}
use Rattle.refute_check.specs.declared.taking.Taking.{Taking}
use Rattle.refute_check.specs.declared.taking.Taking.TheVariants.{Untyped, Missing, By}
use Rattle.refute_check.specs.Internal.Shared.{shared_scope, the_rows, literal_in, IsSharedNumber}

-- the rule has no instance in the branch, whatever is declared
abbrev pub HasNoInstance : List Literal → PlainRule → Type 0
HasNoInstance branch rule =
    (scope : Scope) (rows : List Row) (alternatives : List (List Literal)) → IsInstance scope rows branch rule alternatives → ⊥

-- The rule has the same instances in the branch as with its principals alone, which these numbers are.
pub record IsTaken (s : Shared) (branch : List Literal) (rule : PlainRule) (by : UseByNumbers) : Type 0 where
  pub principals : Each (IsSharedNumber s) (principals_of by)
  pub parts : EachPart (λ id. id < length s.bank.terms) (IsSharedNumber s) by
  pub to :
      (scope : Scope) (rows : List Row) (alternatives : List (List Literal))
      → IsInstance scope rows (map (literal_in s) (principals_of by)) (use_of s.bank.terms s.lits by) alternatives
      → IsInstance scope rows branch rule alternatives
  pub back :
      (scope : Scope) (rows : List Row) (alternatives : List (List Literal))
      → IsInstance scope rows branch rule alternatives
      → IsInstance scope rows (map (literal_in s) (principals_of by)) (use_of s.bank.terms s.lits by) alternatives

-- what the rule takes is not what is wanted, or its principals aren't there, or it takes this
abbrev pub Takes : Shared → List Literal → PlainRule → Taking → Type 0
Takes s branch rule Untyped = IsTypedUse (shared_scope s) rule → ⊥
Takes s branch rule Missing = IsTypedUse (shared_scope s) rule × HasNoInstance branch rule
Takes s branch rule (By by) = IsTypedUse (shared_scope s) rule × IsTaken s branch rule by

-- the literals of an instance's alternatives
abbrev pub alternatives_in : Shared → Instance → List (List Literal)
alternatives_in s i = map (map (literal_in s)) i.alternatives

-- the instance of a rule in a branch, or that it has none
abbrev pub FindsUse : Shared → Shared → List Literal → PlainRule → Option Instance → Type 0
FindsUse old new branch rule (Some i) =
    FindsInstance (shared_scope old) (the_rows old) branch rule (Some (alternatives_in new i))
    × Each (Each (IsSharedNumber new)) i.alternatives
FindsUse old new branch rule None = FindsInstance (shared_scope old) (the_rows old) branch rule None
