-- What is in the grammar is found, or a token of it is too deep.
use Rattle.std.proofs.Common.{◌≡◌, ℕ, suc, ◌<◌, ◌≤◌, List, ◌∷◌, Option, Some, None, ◌⊎◌, inl, inr, refl, ap, ◌∙◌, arith}
use Rattle.thf_grammar.specs.Words.{Word, plain}
use Rattle.thf_parse.specs.Internal.Outcome.{Outcome, found, deep, ◌>>=◌, Reader, enter}

-- no token up to the tokens behind is deeper than the limit
pub data IsShallow (limit : ℕ) : List Word → List Word → Type 0 where
  here : (ws : List Word) → IsShallow limit ws ws
  there : (w : Word) (ws rest : List Word) → w.depth ≤ limit → IsShallow limit ws rest → IsShallow limit (w ∷ ws) rest

pub shallow-more : (limit : ℕ) (ws mid rest : List Word) → IsShallow limit ws mid → IsShallow limit mid rest → IsShallow limit ws rest
shallow-more limit ws mid rest (here _) h = h
shallow-more limit _ mid rest (there w ws _ d s) h = there w ws rest d (shallow-more limit ws mid rest s h)

-- the outcome is at the first token that is deeper than the limit
pub record Sinks {A : Type 0} (limit : ℕ) (ws : List Word) (o : Outcome A) : Type 0 where
  pub first : Word
  pub back : List Word
  pub before : IsShallow limit ws (first ∷ back)
  pub sunk : limit < first.depth
  pub is : o ≡ deep (plain (first ∷ back))

pub record Arrives {A : Type 0} (limit : ℕ) (ws rest : List Word) (x : A) (o : Outcome A) : Type 0 where
  pub passed : IsShallow limit ws rest
  pub is : o ≡ found x (plain rest)

abbrev pub Goes : {A : Type 0} → ℕ → List Word → List Word → A → Outcome A → Type 0
Goes limit ws rest x o = Arrives limit ws rest x o ⊎ Sinks limit ws o

module _ (limit : ℕ) where
  pub sinks-bind : {A B : Type 0} (ws : List Word) (o : Outcome A) (f : A → Reader B) → Sinks limit ws o → Sinks limit ws (o >>= f)
  sinks-bind ws o f s = record { first = s.first; back = s.back; before = s.before; sunk = s.sunk; is = ap (λ p. p >>= f) s.is }

  pub goes-bind : {A B : Type 0} (ws mid rest : List Word) (x : A) (y : B) (o : Outcome A) (f : A → Reader B) → Goes limit ws mid x o → Goes limit mid rest y (f x (plain mid)) → Goes limit ws rest y (o >>= f)
  goes-bind ws mid rest x y o f (inr s) k = inr (sinks-bind ws o f s)
  goes-bind ws mid rest x y o f (inl a) (inl b) = inl (record { passed = shallow-more limit ws mid rest a.passed b.passed; is = ap (λ p. p >>= f) a.is ∙ b.is })
  goes-bind ws mid rest x y o f (inl a) (inr s) = inr (record { first = s.first; back = s.back; before = shallow-more limit ws mid (s.first ∷ s.back) a.passed s.before; sunk = s.sunk; is = ap (λ p. p >>= f) a.is ∙ s.is })

  pub goes-token : {A : Type 0} (w : Word) (ws rest : List Word) (x : A) (o : Outcome A) → w.depth ≤ limit → Goes limit ws rest x o → Goes limit (w ∷ ws) rest x o
  goes-token w ws rest x o d (inl a) = inl (record { passed = there w ws rest d a.passed; is = a.is })
  goes-token w ws rest x o d (inr s) = inr (record { first = s.first; back = s.back; before = there w ws (s.first ∷ s.back) d s.before; sunk = s.sunk; is = s.is })

  pub goes-found : {A : Type 0} (rest : List Word) (x : A) → Goes limit rest rest x (found x (plain rest))
  goes-found rest x = inl (record { passed = here rest; is = refl })

  -- what is one level deeper has room, or there is none
  abbrev pub GoIn : {R : Type 0} → (R → Type 0) → ℕ → Option R → Type 0
  GoIn G d None = limit ≡ d
  GoIn G d (Some r) = (suc d ≤ limit) × G r

  pub goes-enter : {A R : Type 0} (G : R → Type 0) (d : ℕ) (inside : Option R) (w : Word) (ws rest : List Word) (x : A) (f : R → Outcome A) → GoIn G d inside → w.depth ≡ suc d → ((r : R) → G r → suc d ≤ limit → Goes limit ws rest x (f r)) → Goes limit (w ∷ ws) rest x (enter inside (plain (w ∷ ws)) f)
  goes-enter G d None w ws rest x f h e k = inr (record { first = w; back = ws; before = here (w ∷ ws); sunk = omega arith; is = refl })
  goes-enter G d (Some r) w ws rest x f h e k = goes-token w ws rest x (f r) (omega (arith, h.0)) (k r h.1 h.0)

  -- the same, where the reader one level deeper begins at the token itself
  pub goes-into : {A R : Type 0} (G : R → Type 0) (d : ℕ) (inside : Option R) (w : Word) (ws rest : List Word) (x : A) (f : R → Outcome A) → GoIn G d inside → suc d ≤ w.depth → ((r : R) → G r → suc d ≤ limit → Goes limit (w ∷ ws) rest x (f r)) → Goes limit (w ∷ ws) rest x (enter inside (plain (w ∷ ws)) f)
  goes-into G d None w ws rest x f h e k = inr (record { first = w; back = ws; before = here (w ∷ ws); sunk = omega arith; is = refl })
  goes-into G d (Some r) w ws rest x f h e k = k r h.1 h.0
