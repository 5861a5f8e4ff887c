-- The terms that stand for the connectives and the quantifiers of THF.
use Rattle.std.specs.Prelude.{Bool, true, false}
use Rattle.stt_core.specs.SimpleType.{SimpleType, arrow, formula}
use Rattle.stt_core.specs.Lambda.{Lambda, bound, constant, falsity, lam, app, neg, imp, eq, every}
use Rattle.thf_grammar.specs.declared.connective.Conn.{Conn}
use Rattle.thf_grammar.specs.declared.connective.Conn.TheVariants as conn
use Rattle.stt_core.specs.Lift.{lift}
use Rattle.type_check.specs.Typed.{TypedTerm, typed}

-- a formula, or its negation
abbrev pub signed : Bool → Lambda → Lambda
signed true s = s
signed false s = neg s

-- `$true` and `$false`
abbrev pub truth_value : Bool → Lambda
truth_value true = neg (constant falsity)
truth_value false = constant falsity

-- two formulas that are joined by a connective; no text joins two by `~`
abbrev pub join : Conn → Lambda → Lambda → Lambda
join conn.Not s t = neg t
join conn.And s t = neg (imp s (neg t))
join conn.Or s t = imp (neg s) t
join conn.Imp s t = imp s t
join conn.If s t = imp t s
join conn.Iff s t = eq formula s t
join conn.Xor s t = neg (eq formula s t)
join conn.Nor s t = neg (imp (neg s) t)
join conn.Nand s t = imp s (neg t)

-- a connective in parentheses: the function that joins formulas by it
abbrev pub joining : Conn → TypedTerm
joining c = typed (lam formula (lam formula (join c (bound 1) (bound 0)))) (arrow formula (arrow formula formula))

abbrev pub operator_term : Conn → TypedTerm
operator_term conn.Not = typed (lam formula (neg (bound 0))) (arrow formula formula)
operator_term conn.And = joining conn.And
operator_term conn.Or = joining conn.Or
operator_term conn.Imp = joining conn.Imp
operator_term conn.If = joining conn.If
operator_term conn.Iff = joining conn.Iff
operator_term conn.Xor = joining conn.Xor
operator_term conn.Nor = joining conn.Nor
operator_term conn.Nand = joining conn.Nand

-- that a formula holds for all values of a variable of this type, or for some
abbrev pub for_all : SimpleType → Lambda → Lambda
for_all a s = every a (lam a s)

abbrev pub for_some : SimpleType → Lambda → Lambda
for_some a s = neg (every a (lam a (neg s)))

-- that a predicate on this type holds everywhere, where all are meant, or else somewhere
abbrev pub quantify : Bool → SimpleType → Lambda → Lambda
quantify true a s = every a s
quantify false a s = neg (every a (lam a (neg (app (lift 0 s) (bound 0)))))
