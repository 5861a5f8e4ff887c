-- The shape of a term from its binders, its head and its arguments.
use Rattle.std.proofs.Common.{◌≡◌, ◌≤◌, ◌<◌, ℕ, List, [], ◌∷◌, Some, None, length, slice_get, refl, sym, ap, ap₂, ◌∙◌, arith}
use Rattle.stt_core.specs.SimpleType.{SimpleType}
use Rattle.stt_core.specs.Lambda.{Constant, name, witness, falsity, negation, implication, all, equality, choice, description, Lambda, bound, constant, lam, app, lambdas, applied}
use Rattle.stt_core.proofs.SpineLaws.{IsAtom, parts}
use Rattle.tableau_calculus.specs.Shape.{IsOther}
use Rattle.tableau_calculus.specs.Internal.Heads.{connective_of}
use Rattle.tableau_calculus.specs.declared.shape.Connective.{Connective}
use Rattle.tableau_calculus.specs.declared.shape.Connective.TheVariants.{False, Not, Imp}

-- the constant that a connective is, and how many arguments it takes
abbrev pub connective_constant : Connective → Constant
connective_constant False = falsity
connective_constant Not = negation
connective_constant Imp = implication

abbrev pub arity : Connective → ℕ
arity False = 0
arity Not = 1
arity Imp = 2

pub connective_head : (h : Lambda) (k : Connective) → connective_of h ≡ Some k → h ≡ constant (connective_constant k)
connective_head (bound j) k e = cc
connective_head (lam a s) k e = cc
connective_head (app s u) k e = cc
connective_head (constant (name j)) k e = cc
connective_head (constant (witness j)) k e = cc
connective_head (constant falsity) k e = let same : False ≡ k = cc in ap (λ c. constant (connective_constant c)) same
connective_head (constant negation) k e = let same : Not ≡ k = cc in ap (λ c. constant (connective_constant c)) same
connective_head (constant implication) k e = let same : Imp ≡ k = cc in ap (λ c. constant (connective_constant c)) same
connective_head (constant (all a)) k e = cc
connective_head (constant (equality a)) k e = cc
connective_head (constant (choice a)) k e = cc
connective_head (constant (description a)) k e = cc

module _ (bs : List SimpleType) (h : Lambda) (us : List Lambda) (whole : Lambda) (atom : IsAtom h) (view : lambdas bs (applied h us) ≡ whole) where
  -- a term has none of the shapes where no connective stands at its head, without binders and with all its arguments
  other_by : ((k : Connective) → bs ≡ [] → h ≡ constant (connective_constant k) → length us ≡ arity k → ⊥) → IsOther whole
  other_by none = record {
    not_falsity = λ e.
        let p = parts bs [] h (constant falsity) us [] atom tt (view ∙ e) in
        none False p.binders p.head (ap length p.arguments);
    not_negation = λ s e.
        let p = parts bs [] h (constant negation) us (s ∷ []) atom tt (view ∙ e) in
        none Not p.binders p.head (ap length p.arguments);
    not_implication = λ s u e.
        let p = parts bs [] h (constant implication) us (s ∷ u ∷ []) atom tt (view ∙ e) in
        none Imp p.binders p.head (ap length p.arguments);
  }

  pub other-binders : 0 < length bs → IsOther whole
  other-binders some = other_by (λ k e f g. absurd (omega (arith, some, ap length e)))

  pub other-head : connective_of h ≡ None → IsOther whole
  other-head none = other_by (λ k e f g. no_connective k (sym none ∙ ap connective_of f))
    where
      no_connective : (k : Connective) → None ≡ connective_of (constant (connective_constant k)) → ⊥
      no_connective False e = cc
      no_connective Not e = cc
      no_connective Imp e = cc

  pub other-count : (k : Connective) → connective_of h ≡ Some k → (length us ≡ arity k → ⊥) → IsOther whole
  other-count k is count = other_by (λ j e f g. count (g ∙ same j k (sym is ∙ ap connective_of f)))
    where
      same : (j k : Connective) → Some k ≡ connective_of (constant (connective_constant j)) → arity j ≡ arity k
      same False k e = let s : k ≡ False = cc in ap arity (sym s)
      same Not k e = let s : k ≡ Not = cc in ap arity (sym s)
      same Imp k e = let s : k ≡ Imp = cc in ap arity (sym s)

  module _ (unbound : length bs ≤ 0) (k : Connective) (is : connective_of h ≡ Some k) where
    whole_is : (vs : List Lambda) → us ≡ vs → whole ≡ applied (constant (connective_constant k)) vs
    whole_is vs e = sym view ∙ ap₂ lambdas (no_binders bs unbound) (ap₂ applied (connective_head h k is) e)
      where
        no_binders : (cs : List SimpleType) → length cs ≤ 0 → cs ≡ []
        no_binders [] l = refl
        no_binders (c ∷ cs) l = absurd (omega (arith, l))

    pub is-0 : length us ≡ 0 → whole ≡ constant (connective_constant k)
    is-0 n = whole_is [] (go us n)
      where
        go : (vs : List Lambda) → length vs ≡ 0 → vs ≡ []
        go [] n = refl
        go (v ∷ vs) n = absurd (omega (arith, n))

    pub is-1 : (s : Lambda) → length us ≡ 1 → slice_get us 0 ≡ Some s → whole ≡ app (constant (connective_constant k)) s
    is-1 s n e = whole_is (s ∷ []) (go us n e)
      where
        go : (vs : List Lambda) → length vs ≡ 1 → slice_get vs 0 ≡ Some s → vs ≡ s ∷ []
        go [] n e = absurd (omega (arith, n))
        go (v ∷ []) n e = let same : v ≡ s = cc in ap (λ x. x ∷ []) same
        go (v ∷ w ∷ vs) n e = absurd (omega (arith, n))

    pub is-2 : (s u : Lambda) → length us ≡ 2 → slice_get us 0 ≡ Some s → slice_get us 1 ≡ Some u → whole ≡ app (app (constant (connective_constant k)) s) u
    is-2 s u n e f = whole_is (s ∷ u ∷ []) (go us n e f)
      where
        go : (vs : List Lambda) → length vs ≡ 2 → slice_get vs 0 ≡ Some s → slice_get vs 1 ≡ Some u → vs ≡ s ∷ u ∷ []
        go [] n e f = absurd (omega (arith, n))
        go (v ∷ []) n e f = absurd (omega (arith, n))
        go (v ∷ w ∷ []) n e f = let p : v ≡ s = cc in let q : w ≡ u = cc in ap₂ (λ x y. x ∷ y ∷ []) p q
        go (v ∷ w ∷ x ∷ vs) n e f = absurd (omega (arith, n))
