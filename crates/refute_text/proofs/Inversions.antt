-- What a reader that answered has met.
use Rattle.std.proofs.Common.{◌≡◌, ℕ, nat_eq, Bool, true, false, List, [], ◌∷◌, ◌++◌, Option, Some, None, length, drop, refl, sym, ap, ap₂, ◌∙◌, if◌then◌else◌}
use Rattle.std.specs.List.{starts_with}
use Rattle.std.proofs.lemmas.Bool.{and_parts, eqb-true}
use Rattle.refute_text.specs.Internal.Reader.{◌>>=◌, behind_text, by_front}
use Rattle.outside.specs.Fronts.{front, behind_front}

-- a value and what follows it
abbrev pub found : {A B : Type 0} → A → B → Option (A × B)
found a b = Some (a, b)

abbrev first_or : {A B : Type 0} → A → Option (A × B) → A
first_or d None = d
first_or d (Some p) = p.0

abbrev second_or : {A B : Type 0} → B → Option (A × B) → B
second_or d None = d
second_or d (Some p) = p.1

pub found_first : {A B : Type 0} (a c : A) (b d : B) → found a b ≡ found c d → a ≡ c
found_first a c b d h = ap (first_or a) h

pub found_second : {A B : Type 0} (a c : A) (b d : B) → found a b ≡ found c d → b ≡ d
found_second a c b d h = ap (second_or b) h

pub bind_sound : {A B : Type 0} {P : Type 0} (o : Option A) (f : A → Option B) (y : B) → (o >>= f) ≡ Some y → ((x : A) → o ≡ Some x → f x ≡ Some y → P) → P
bind_sound (Some x) f y h k = k x refl h
bind_sound None f y h k = cc

pub front_sound : {A X : Type 0} {P : Type 0} (o : Option X) (f : X → Option A) (other : Option A) (y : A) → by_front o f other ≡ Some y → ((rest : X) → o ≡ Some rest → f rest ≡ Some y → P) → (other ≡ Some y → P) → P
front_sound (Some rest) f other y h k m = k rest refl h
front_sound None f other y h k m = m h

matches : (t bs : List ℕ) → starts_with nat_eq bs t ≡ true → bs ≡ t ++ drop (length t) bs
matches [] bs h = refl
matches (x ∷ t) [] h = cc
matches (x ∷ t) (c ∷ cs) h =
    let p = and_parts (nat_eq x c) (starts_with nat_eq cs t) h in
    ap₂ (λ a l. a ∷ l) (sym (eqb-true x c p.0)) (matches t cs p.1)

pub behind_some : (t bs r : List ℕ) → behind_text t bs ≡ Some r → bs ≡ t ++ r
behind_some t bs r h = go (starts_with nat_eq bs t) refl h
  where
    go : (b : Bool) → starts_with nat_eq bs t ≡ b → (if b then Some (drop (length t) bs) else None) ≡ Some r → bs ≡ t ++ r
    go true e k = let q : drop (length t) bs ≡ r = cc in matches t bs e ∙ ap (λ x. t ++ x) q
    go false e k = cc

pub front-after : (p : ℕ → Bool) (cs : List ℕ) → front p cs ++ behind_front p cs ≡ cs
front-after p [] = refl
front-after p (c ∷ cs) = go (p c) (front-after p cs)
  where
    go : (b : Bool) → front p cs ++ behind_front p cs ≡ cs → (if b then c ∷ front p cs else []) ++ (if b then behind_front p cs else c ∷ cs) ≡ c ∷ cs
    go true e = ap (λ l. c ∷ l) e
    go false e = refl
