-- Heads that pass a test.
use Rattle.std.specs.Prelude.{◌≡◌, ◌<◌, ◌+◌, ◌||◌, ℕ, zero, suc, Bool, true, false, List, [], ◌∷◌, ◌++◌, map, take, get_or, length, option_map, Option, Some, None, is_some, IsSome, slice_get, slice_index_or, refl}
use Rattle.std.specs.List.{list_any}
use Rattle.std.proofs.Common.{sym, ap, ◌∙◌}
use Rattle.std.proofs.lemmas.List.{take_more}
use Rattle.stt_core.specs.SimpleType.{SimpleType, base}
use Rattle.stt_core.specs.Lambda.{Constant, name, witness, falsity, negation, implication, all, equality, choice, description, Lambda, bound, constant, lam, app, applied}
use Rattle.stt_core.specs.Typing.{Scope, type_of}
use Rattle.stt_core.specs.TypedName.{TypedName}
use Rattle.stt_core.proofs.SpineLaws.{IsAtom}
use Rattle.stt_core.proofs.HeadLaws.{atom_head}
use Rattle.term_bank.specs.NodeView.{the_shape}
use Rattle.term_bank.specs.declared.node.Node.{Node}
use Rattle.term_bank.specs.declared.node.Node.TheVariants.{Lam, App}
use Rattle.term_bank.specs.Terms.{term_at, shape_term, IsBelow}
use Rattle.term_bank.specs.Shape.{Shape, abstraction, spine}
use Rattle.tableau_calculus.specs.Each.{Each}
use Rattle.search_spec.specs.Offers.{has_constant, is_name, is_over, has_base}
use Rattle.head_offers.specs.Internal.Marks.{parts_of}
use Rattle.head_offers.specs.Internal.Passing.{head_passes, name_number, ranged_in, is_number, has_base_if_any}
use Rattle.head_offers.proofs.MarkLaws.{each-of-All}

or_assoc : (a b c : Bool) → (a || (b || c)) ≡ ((a || b) || c)
or_assoc true b c = refl
or_assoc false b c = refl

or_false : (b : Bool) → (b || false) ≡ b
or_false true = refl
or_false false = refl

pub passes-applied : (test : Constant → Bool) (h : Lambda) (ts : List Lambda) → head_passes test (applied h ts) ≡ head_passes test h
passes-applied test h [] = refl
passes-applied test h (t ∷ ts) = passes-applied test (app h t) ts

has_applied : (test : Constant → Bool) (h : Lambda) (f : ℕ → Lambda) (is : List ℕ) → has_constant test (applied h (map f is)) ≡ (has_constant test h || list_any (λ i. has_constant test (f i)) is)
has_applied test h f [] = sym (or_false (has_constant test h))
has_applied test h f (i ∷ is) = has_applied test (app h (f i)) f is ∙ sym (or_assoc (has_constant test h) (has_constant test (f i)) (list_any (λ k. has_constant test (f k)) is))

has_atom : (test : Constant → Bool) (h : Lambda) → IsAtom h → has_constant test h ≡ head_passes test h
has_atom test (bound k) a = refl
has_atom test (constant c) a = refl
has_atom test (lam b s) a = absurd a
has_atom test (app s u) a = absurd a

abbrev pub HasAtom : Shape → Type 0
HasAtom (abstraction a i) = Unit {0}
HasAtom (spine h is) = IsAtom h

-- a constant occurs in a term where it is the term's head or occurs in a part
pub has-parts : (test : Constant → Bool) (terms : List Lambda) (n : Shape) → HasAtom n
    → has_constant test (shape_term terms n) ≡ (head_passes test (shape_term terms n) || list_any (λ i. has_constant test (term_at terms i)) (parts_of n))
has-parts test terms (abstraction a i) h = sym (or_false (has_constant test (term_at terms i)))
has-parts test terms (spine h is) k =
    has_applied test h (term_at terms) is
    ∙ ap (λ (b : Bool). b || list_any (λ i. has_constant test (term_at terms i)) is) (has_atom test h k ∙ sym (passes-applied test h (map (term_at terms) is)))

-- NAMES AND TYPES

pub name-passes : (k : ℕ) (h : Lambda) → IsAtom h → head_passes (is_name k) h ≡ is_number k (name_number h)
name-passes k (bound j) a = refl
name-passes k (constant (name j)) a = refl
name-passes k (constant (witness j)) a = refl
name-passes k (constant falsity) a = refl
name-passes k (constant negation) a = refl
name-passes k (constant implication) a = refl
name-passes k (constant (all b)) a = refl
name-passes k (constant (equality b)) a = refl
name-passes k (constant (choice b)) a = refl
name-passes k (constant (description b)) a = refl
name-passes k (lam b s) a = absurd a
name-passes k (app s u) a = absurd a

pub no-name-passes : (names : List SimpleType) (n : ℕ) (h : Lambda) → IsAtom h → None ≡ name_number h → head_passes (is_over names n) h ≡ has_base_if_any n (ranged_in h)
no-name-passes names n (bound j) a e = refl
no-name-passes names n (constant (name j)) a e = cc
no-name-passes names n (constant (witness j)) a e = refl
no-name-passes names n (constant falsity) a e = refl
no-name-passes names n (constant negation) a e = refl
no-name-passes names n (constant implication) a e = refl
no-name-passes names n (constant (all b)) a e = refl
no-name-passes names n (constant (equality b)) a e = refl
no-name-passes names n (constant (choice b)) a e = refl
no-name-passes names n (constant (description b)) a e = refl
no-name-passes names n (lam b s) a e = absurd a
no-name-passes names n (app s u) a e = absurd a

got : (xs : List SimpleType) (k : ℕ) (a : SimpleType) → slice_get xs k ≡ Some a → slice_index_or xs k (base 0) ≡ a
got [] k a e = cc
got (x ∷ xs) zero a e = cc
got (x ∷ xs) (suc k) a e = got xs k a e

over_name : (names : List SimpleType) (n k : ℕ) (o : Option SimpleType) → o ≡ slice_get names k → (p : Option SimpleType) → slice_get names k ≡ p → is_some p ≡ true → has_base n (slice_index_or names k (base 0)) ≡ has_base_if_any n o
over_name names n k o e (Some a) at h = ap (has_base n) (got names k a at) ∙ sym (ap (has_base_if_any n) (e ∙ at))
over_name names n k o e None at h = cc

-- a name's type is the one that it is declared with
pub some-name-passes : (scope : Scope) (ctx : List SimpleType) (n k : ℕ) (h : Lambda) → Some k ≡ name_number h → (o : Option SimpleType) → o ≡ slice_get scope.names k → IsSome (type_of scope ctx h) → head_passes (is_over scope.names n) h ≡ has_base_if_any n o
some-name-passes scope ctx n k (bound j) e o g t = cc
some-name-passes scope ctx n k (constant (name j)) e o g t =
    let same : k ≡ j = some_is k j e in
    over_name scope.names n j o (g ∙ ap (slice_get scope.names) same) (slice_get scope.names j) refl t
  where
    some_is : (x y : ℕ) → Some x ≡ Some y → x ≡ y
    some_is x y f = cc
some-name-passes scope ctx n k (constant (witness j)) e o g t = cc
some-name-passes scope ctx n k (constant falsity) e o g t = cc
some-name-passes scope ctx n k (constant negation) e o g t = cc
some-name-passes scope ctx n k (constant implication) e o g t = cc
some-name-passes scope ctx n k (constant (all b)) e o g t = cc
some-name-passes scope ctx n k (constant (equality b)) e o g t = cc
some-name-passes scope ctx n k (constant (choice b)) e o g t = cc
some-name-passes scope ctx n k (constant (description b)) e o g t = cc
some-name-passes scope ctx n k (lam b s) e o g t = cc
some-name-passes scope ctx n k (app s u) e o g t = cc

-- ONE AFTER THE OTHER

any-next : (P : ℕ → Bool) (xs : List ℕ) (i d : ℕ) → i < length xs → list_any P (take (i + 1) xs) ≡ (list_any P (take i xs) || P (get_or xs i d))
any-next P xs i d l = ap (list_any P) (take_more xs i d l) ∙ any_last (take i xs)
  where
    any_last : (ys : List ℕ) → list_any P (ys ++ get_or xs i d ∷ []) ≡ (list_any P ys || P (get_or xs i d))
    any_last [] = or_false (P (get_or xs i d))
    any_last (y ∷ ys) = ap (λ (b : Bool). P y || b) (any_last ys) ∙ or_assoc (P y) (list_any P ys) (P (get_or xs i d))

pub any-more : (P : ℕ → Bool) (xs : List ℕ) (i d : ℕ) (old new : Bool) → i < length xs → old ≡ list_any P (take i xs) → new ≡ (old || P (get_or xs i d)) → new ≡ list_any P (take (i + 1) xs)
any-more P xs i d old new l inv is = is ∙ ap (λ (b : Bool). b || P (get_or xs i d)) inv ∙ sym (any-next P xs i d l)

pub mapped-type : (cs : List TypedName) (k : ℕ) → option_map (λ (c : TypedName). c.type) (slice_get cs k) ≡ slice_get (map (λ (c : TypedName). c.type) cs) k
mapped-type [] k = refl
mapped-type (c ∷ cs) zero = refl
mapped-type (c ∷ cs) (suc k) = mapped-type cs k

pub node-atom : (n : Node) → HasAtom (the_shape n)
node-atom (Lam a i) = tt
node-atom (App h is) = atom_head h

pub parts-below : (k : ℕ) (n : Shape) → IsBelow k n → Each (λ i. i < k) (parts_of n)
parts-below k (abstraction a i) h = (h, tt)
parts-below k (spine g is) h = each-of-All (λ i. i < k) 0 is h
