-- The types, terms and heads of the code as plain trees.
use Rattle.stt_core.specs.SimpleType.{SimpleType, base, arrow}
use Rattle.stt_core.specs.Lambda.{Lambda, bound, constant, lam, app, name, witness, falsity, negation, implication, all, equality, choice, description}
use Rattle.stt_core.specs.declared.ty.Ty.{Ty}
use Rattle.stt_core.specs.declared.ty.Ty.TheVariants.{Base, Arrow'}
use Rattle.stt_core.specs.declared.nf.Head.{Head}
use Rattle.stt_core.specs.declared.nf.Head.TheVariants as head
use Rattle.stt_core.specs.declared.term.Term.{Term}
use Rattle.stt_core.specs.declared.term.Term.TheVariants.{Bound, Name, Wit, False, Not, Imp, All, Eq, Choice, Desc, Lam', App'}

abbrev pub the_type : Ty → SimpleType
the_type (Base n) = base n
the_type (Arrow' p a q b) = arrow (the_type a) (the_type b)

abbrev pub the_term : Term → Lambda
the_term (Bound k) = bound k
the_term (Name k) = constant (name k)
the_term (Wit k) = constant (witness k)
the_term False = constant falsity
the_term Not = constant negation
the_term Imp = constant implication
the_term (All a) = constant (all (the_type a))
the_term (Eq a) = constant (equality (the_type a))
the_term (Choice a) = constant (choice (the_type a))
the_term (Desc a) = constant (description (the_type a))
the_term (Lam' a p s) = lam (the_type a) (the_term s)
the_term (App' p s q u) = app (the_term s) (the_term u)

abbrev pub the_head : Head → Lambda
the_head (head.Bound k) = bound k
the_head (head.Name k) = constant (name k)
the_head (head.Wit k) = constant (witness k)
the_head head.False = constant falsity
the_head head.Not = constant negation
the_head head.Imp = constant implication
the_head (head.All a) = constant (all (the_type a))
the_head (head.Eq a) = constant (equality (the_type a))
the_head (head.Choice a) = constant (choice (the_type a))
the_head (head.Desc a) = constant (description (the_type a))
