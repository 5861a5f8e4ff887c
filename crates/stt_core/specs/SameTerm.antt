-- Whether two terms are the same.
use Rattle.std.specs.Prelude.{Bool, true, false, ◌&&◌, nat_eq}
use Rattle.stt_core.specs.SimpleType.{same_type}
use Rattle.stt_core.specs.Lambda.{Constant, name, witness, falsity, negation, implication, all, equality, choice, description, Lambda, bound, constant, lam, app}

abbrev pub same_constant : Constant → Constant → Bool
same_constant (name j) (name k) = nat_eq j k
same_constant (witness j) (witness k) = nat_eq j k
same_constant falsity falsity = true
same_constant negation negation = true
same_constant implication implication = true
same_constant (all a) (all b) = same_type a b
same_constant (equality a) (equality b) = same_type a b
same_constant (choice a) (choice b) = same_type a b
same_constant (description a) (description b) = same_type a b
same_constant c d = false

abbrev pub same_term : Lambda → Lambda → Bool
same_term (bound j) (bound k) = nat_eq j k
same_term (constant c) (constant d) = same_constant c d
same_term (lam a s) (lam b t) = same_type a b && same_term s t
same_term (app s u) (app t v) = same_term s t && same_term u v
same_term s t = false
