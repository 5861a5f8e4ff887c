-- A canonical term's parts are determined by the term.
use Rattle.std.proofs.Common.{◌≡◌, List, [], ◌∷◌, ◌++◌, refl, sym, ap, ap₂, ◌∙◌, append-nil}
use Rattle.stt_core.specs.SimpleType.{SimpleType}
use Rattle.stt_core.specs.Lambda.{Lambda, bound, constant, lam, app, lambdas, applied}

-- the binders, what stands under them, the head and the arguments of a term
abbrev pub binders_of : Lambda → List SimpleType
binders_of (bound k) = []
binders_of (constant c) = []
binders_of (lam a s) = a ∷ binders_of s
binders_of (app s u) = []

abbrev pub inside_of : Lambda → Lambda
inside_of (bound k) = bound k
inside_of (constant c) = constant c
inside_of (lam a s) = inside_of s
inside_of (app s u) = app s u

abbrev pub head_of : Lambda → Lambda
head_of (bound k) = bound k
head_of (constant c) = constant c
head_of (lam a s) = lam a s
head_of (app s u) = head_of s

-- the arguments, before those given
abbrev pub arguments_before : Lambda → List Lambda → List Lambda
arguments_before (bound k) us = us
arguments_before (constant c) us = us
arguments_before (lam a s) us = us
arguments_before (app s u) us = arguments_before s (u ∷ us)

-- a variable or a constant
abbrev pub IsAtom : Lambda → Type 0
IsAtom (bound k) = Unit {0}
IsAtom (constant c) = Unit {0}
IsAtom (lam a s) = ⊥
IsAtom (app s u) = ⊥

abbrev NotLam : Lambda → Type 0
NotLam (bound k) = Unit {0}
NotLam (constant c) = Unit {0}
NotLam (lam a s) = ⊥
NotLam (app s u) = Unit {0}

atom_not_lam : (t : Lambda) → IsAtom t → NotLam t
atom_not_lam (bound k) h = tt
atom_not_lam (constant c) h = tt
atom_not_lam (lam a s) h = h
atom_not_lam (app s u) h = tt

applied_not_lam : (t : Lambda) (us : List Lambda) → NotLam t → NotLam (applied t us)
applied_not_lam t [] h = h
applied_not_lam t (u ∷ us) h = applied_not_lam (app t u) us tt

binders_none : (t : Lambda) → NotLam t → binders_of t ≡ []
binders_none (bound k) h = refl
binders_none (constant c) h = refl
binders_none (lam a s) h = absurd h
binders_none (app s u) h = refl

inside_same : (t : Lambda) → NotLam t → inside_of t ≡ t
inside_same (bound k) h = refl
inside_same (constant c) h = refl
inside_same (lam a s) h = absurd h
inside_same (app s u) h = refl

binders-lambdas : (bs : List SimpleType) (t : Lambda) → NotLam t → binders_of (lambdas bs t) ≡ bs
binders-lambdas [] t h = binders_none t h
binders-lambdas (b ∷ bs) t h = ap (λ l. b ∷ l) (binders-lambdas bs t h)

inside-lambdas : (bs : List SimpleType) (t : Lambda) → NotLam t → inside_of (lambdas bs t) ≡ t
inside-lambdas [] t h = inside_same t h
inside-lambdas (b ∷ bs) t h = inside-lambdas bs t h

head-applied : (t : Lambda) (us : List Lambda) → head_of (applied t us) ≡ head_of t
head-applied t [] = refl
head-applied t (u ∷ us) = head-applied (app t u) us

arguments-applied : (t : Lambda) (us vs : List Lambda) → arguments_before (applied t us) vs ≡ arguments_before t (us ++ vs)
arguments-applied t [] vs = refl
arguments-applied t (u ∷ us) vs = arguments-applied (app t u) us vs

head_atom : (t : Lambda) → IsAtom t → head_of t ≡ t
head_atom (bound k) h = refl
head_atom (constant c) h = refl
head_atom (lam a s) h = refl
head_atom (app s u) h = absurd h

arguments_atom : (t : Lambda) (us : List Lambda) → IsAtom t → arguments_before t us ≡ us
arguments_atom (bound k) us h = refl
arguments_atom (constant c) us h = refl
arguments_atom (lam a s) us h = refl
arguments_atom (app s u) us h = absurd h

pub binders-spine : (bs : List SimpleType) (h : Lambda) (us : List Lambda) → IsAtom h → binders_of (lambdas bs (applied h us)) ≡ bs
binders-spine bs h us o = binders-lambdas bs (applied h us) (applied_not_lam h us (atom_not_lam h o))

pub head-spine : (bs : List SimpleType) (h : Lambda) (us : List Lambda) → IsAtom h → head_of (inside_of (lambdas bs (applied h us))) ≡ h
head-spine bs h us o = ap head_of (inside-lambdas bs (applied h us) (applied_not_lam h us (atom_not_lam h o))) ∙ head-applied h us ∙ head_atom h o

pub arguments-spine : (bs : List SimpleType) (h : Lambda) (us : List Lambda) → IsAtom h → arguments_before (inside_of (lambdas bs (applied h us))) [] ≡ us
arguments-spine bs h us o =
    ap (λ t. arguments_before t []) (inside-lambdas bs (applied h us) (applied_not_lam h us (atom_not_lam h o)))
    ∙ arguments-applied h us []
    ∙ arguments_atom h (us ++ []) o
    ∙ append-nil us

-- equal terms have equal parts
pub record SameParts (bs cs : List SimpleType) (h k : Lambda) (us vs : List Lambda) : Type 0 where
  pub binders : bs ≡ cs
  pub head : h ≡ k
  pub arguments : us ≡ vs

pub parts : (bs cs : List SimpleType) (h k : Lambda) (us vs : List Lambda) → IsAtom h → IsAtom k → lambdas bs (applied h us) ≡ lambdas cs (applied k vs) → SameParts bs cs h k us vs
parts bs cs h k us vs o p e = record {
  binders = sym (binders-spine bs h us o) ∙ ap binders_of e ∙ binders-spine cs k vs p;
  head = sym (head-spine bs h us o) ∙ ap (λ t. head_of (inside_of t)) e ∙ head-spine cs k vs p;
  arguments = sym (arguments-spine bs h us o) ∙ ap (λ t. arguments_before (inside_of t) []) e ∙ arguments-spine cs k vs p;
}

-- a term with the same parts is the same
pub same_whole : (bs cs : List SimpleType) (h k : Lambda) (us vs : List Lambda) (whole : Lambda) → bs ≡ cs → h ≡ k → us ≡ vs → lambdas cs (applied k vs) ≡ whole → lambdas bs (applied h us) ≡ whole
same_whole bs cs h k us vs whole p q r e = ap₂ lambdas p (ap₂ applied q r) ∙ e
