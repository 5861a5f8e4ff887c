-- How a reader answers.
use Rattle.std.proofs.Common.{◌≡◌, ℕ, ◌&&◌, nat_eq, true, false, List, [], ◌∷◌, ◌++◌, Option, Some, None, length, drop, refl, ap, ap₂, ◌∙◌, if◌then◌else◌}
use Rattle.std.specs.List.{starts_with}
use Rattle.std.proofs.lemmas.Bool.{eq-eqb}
use Rattle.std.proofs.lemmas.List.{drop_at}
use Rattle.refute_text.specs.Internal.Reader.{◌>>=◌, behind_text, by_front}

pub bind_gives : {A B : Type 0} (o : Option A) (f : A → Option B) (x : A) (y : B) → o ≡ Some x → f x ≡ Some y → (o >>= f) ≡ Some y
bind_gives o f x y e k = ap (λ p. p >>= f) e ∙ k

pub front_gives : {A : Type 0} (o : Option (List ℕ)) (f : List ℕ → Option A) (other : Option A) (rest : List ℕ) (y : A) → o ≡ Some rest → f rest ≡ Some y → by_front o f other ≡ Some y
front_gives o f other rest y e k = ap (λ p. by_front p f other) e ∙ k

pub front_skips : {A : Type 0} (o : Option (List ℕ)) (f : List ℕ → Option A) (other : Option A) (y : A) → o ≡ None → other ≡ Some y → by_front o f other ≡ Some y
front_skips o f other y e k = ap (λ p. by_front p f other) e ∙ k

-- another first byte
pub behind_other : (x : ℕ) (t : List ℕ) (c : ℕ) (cs : List ℕ) → nat_eq x c ≡ false → behind_text (x ∷ t) (c ∷ cs) ≡ None
behind_other x t c cs h = ap (λ b. if b && starts_with nat_eq cs t then Some (drop (length t) cs) else None) h

starts_with-append : (t rest : List ℕ) → starts_with nat_eq (t ++ rest) t ≡ true
starts_with-append [] rest = refl
starts_with-append (c ∷ t) rest = ap₂ (λ a b. a && b) (eq-eqb c c refl) (starts_with-append t rest)

pub behind-append : (t rest : List ℕ) → behind_text t (t ++ rest) ≡ Some rest
behind-append t rest =
    ap (λ b. if b then Some (drop (length t) (t ++ rest)) else None) (starts_with-append t rest) ∙ ap (λ r. Some r) (drop_at t rest (length t) refl)
