-- What readers find is in the grammar, and what stands before a token that they refuse begins something that is.
use Rattle.std.proofs.Common.{◌≡◌, ℕ, List, [], ◌∷◌, ◌++◌, Option, Some, None, refl, sym, ap, subst, ◌∙◌, append_assoc}
use Rattle.thf_grammar.specs.Words.{Lexeme, Word, plain}
use Rattle.thf_parse.specs.Internal.Outcome.{Outcome, found, wrong, deep, ◌>>=◌, Reader, lexemes_behind, enter}

abbrev pub word : Lexeme → ℕ → Word
word t depth = record { lexeme = t; depth = depth }

-- the tokens up to those that are left have depths with which they are this tree, whatever stands behind
pub record Reading {A : Type 0} (N : A → List Word → List Word → Type 0) (x : A) (ts rest : List Lexeme) : Type 0 where
  pub front : List Word
  pub whole : ts ≡ plain front ++ rest
  pub read : (after : List Word) → N x (front ++ after) after

-- words that are something of this kind
pub record Ending {A : Type 0} (N : A → List Word → List Word → Type 0) : Type 0 where
  pub value : A
  pub words : List Word
  pub read : (after : List Word) → N value (words ++ after) after

-- the tokens up to those that are left have depths with which they begin something of this kind, and it ends
pub record Stopped {A : Type 0} (N : A → List Word → List Word → Type 0) (ts left : List Lexeme) : Type 0 where
  pub front : List Word
  pub whole : ts ≡ plain front ++ left
  pub ending : Ending (λ x ws rest. N x (front ++ ws) rest)

-- a token that is wrong stands behind what begins something, and one that is too deep belongs to that
abbrev pub Finds : {A : Type 0} → (A → List Word → List Word → Type 0) → List Lexeme → Outcome A → Type 0
Finds N ts (found x rest) = Reading N x ts rest
Finds N ts (wrong rest) = Stopped N ts rest
Finds N ts (deep rest) = Stopped N ts (lexemes_behind rest)

pub plain-append : (xs ys : List Word) → plain (xs ++ ys) ≡ plain xs ++ plain ys
plain-append [] ys = refl
plain-append (x ∷ xs) ys = ap (λ us. x.lexeme ∷ us) (plain-append xs ys)

joined : (ts mid left : List Lexeme) (front more : List Word) → ts ≡ plain front ++ mid → mid ≡ plain more ++ left → ts ≡ plain (front ++ more) ++ left
joined ts mid left front more e f =
    e ∙ ap (λ us. plain front ++ us) f ∙ sym (append_assoc (plain front) (plain more) left) ∙ ap (λ us. us ++ left) (sym (plain-append front more))

-- before the first token of something
pub stopped-here : {A : Type 0} (N : A → List Word → List Word → Type 0) (ts : List Lexeme) → Ending N → Stopped N ts ts
stopped-here N ts e = record { front = []; whole = refl; ending = e }

-- behind a token
pub stopped-token : {A : Type 0} (N : A → List Word → List Word → Type 0) (t : Lexeme) (depth : ℕ) (ts left : List Lexeme) → Stopped (λ x ws rest. N x (word t depth ∷ ws) rest) ts left → Stopped N (t ∷ ts) left
stopped-token N t depth ts left s = record { front = word t depth ∷ s.front; whole = ap (λ us. t ∷ us) s.whole; ending = s.ending }

-- behind one token, which is the first
pub stopped-behind : {A : Type 0} (N : A → List Word → List Word → Type 0) (t : Lexeme) (depth : ℕ) (ts : List Lexeme) → Ending (λ x ws rest. N x (word t depth ∷ ws) rest) → Stopped N (t ∷ ts) ts
stopped-behind N t depth ts e = stopped-token N t depth ts ts (stopped-here (λ x ws rest. N x (word t depth ∷ ws) rest) ts e)

module _ {A B : Type 0} (N : A → List Word → List Word → Type 0) (K : A → B → List Word → List Word → Type 0) (M : B → List Word → List Word → Type 0) (join : (x : A) (y : B) (ws mid rest : List Word) → N x ws mid → K x y mid rest → M y ws rest) where
  -- the words of two things
  pub ending-then : Ending N → ((x : A) → Ending (K x)) → Ending M
  ending-then first close =
      let second = close first.value in
      record {
        value = second.value;
        words = first.words ++ second.words;
        read = λ after.
            subst (λ us. M second.value us after) (sym (append_assoc first.words second.words after))
            (join first.value second.value (first.words ++ (second.words ++ after)) (second.words ++ after) after (first.read (second.words ++ after)) (second.read after));
      }

  -- the second of two things stops
  second-stops : (ts mid left : List Lexeme) (x : A) → Reading N x ts mid → Stopped (K x) mid left → Stopped M ts left
  second-stops ts mid left x h s = record {
    front = h.front ++ s.front;
    whole = joined ts mid left h.front s.front h.whole s.whole;
    ending = record {
      value = s.ending.value;
      words = s.ending.words;
      read = λ after.
          let more = s.ending.words ++ after in
          subst (λ us. M s.ending.value us after) (sym (append_assoc h.front s.front more))
          (join x s.ending.value (h.front ++ (s.front ++ more)) (s.front ++ more) after (h.read (s.front ++ more)) (s.ending.read after));
    };
  }

  both-found : (ts mid rest : List Lexeme) (x : A) (y : B) → Reading N x ts mid → Reading (K x) y mid rest → Reading M y ts rest
  both-found ts mid rest x y h s = record {
    front = h.front ++ s.front;
    whole = joined ts mid rest h.front s.front h.whole s.whole;
    read = λ after.
        subst (λ us. M y us after) (sym (append_assoc h.front s.front after))
        (join x y (h.front ++ (s.front ++ after)) (s.front ++ after) after (h.read (s.front ++ after)) (s.read after));
  }

-- the first of two things stops, and the second ends what it begins
first-stops : {A B : Type 0} (N : A → List Word → List Word → Type 0) (K : A → B → List Word → List Word → Type 0) (M : B → List Word → List Word → Type 0) → ((x : A) (y : B) (ws mid rest : List Word) → N x ws mid → K x y mid rest → M y ws rest) → (ts left : List Lexeme) → Stopped N ts left → ((x : A) → Ending (K x)) → Stopped M ts left
first-stops N K M join ts left h close = record {
  front = h.front;
  whole = h.whole;
  ending = ending-then (λ x ws rest. N x (h.front ++ ws) rest) K (λ y ws rest. M y (h.front ++ ws) rest) (λ x y ws mid rest p q. join x y (h.front ++ ws) mid rest p q) h.ending close;
}

-- something, and then something else, which ends with some words
pub finds-bind : {A B : Type 0} (N : A → List Word → List Word → Type 0) (K : A → B → List Word → List Word → Type 0) (M : B → List Word → List Word → Type 0) (ts : List Lexeme) (o : Outcome A) (f : A → Reader B) → Finds N ts o → ((x : A) → Ending (K x)) → ((x : A) (mid : List Lexeme) → Finds (K x) mid (f x mid)) → ((x : A) (y : B) (ws mid rest : List Word) → N x ws mid → K x y mid rest → M y ws rest) → Finds M ts (o >>= f)
finds-bind N K M ts (wrong rest) f h close k join = first-stops N K M join ts rest h close
finds-bind N K M ts (deep rest) f h close k join = first-stops N K M join ts (lexemes_behind rest) h close
finds-bind {A} {B} N K M ts (found x mid) f h close k join = go (f x mid) (k x mid)
  where
    go : (o : Outcome B) → Finds (K x) mid o → Finds M ts o
    go (wrong rest) s = second-stops N K M join ts mid rest x h s
    go (deep rest) s = second-stops N K M join ts mid (lexemes_behind rest) x h s
    go (found y rest) s = both-found N K M join ts mid rest x y h s

-- the words of one thing are those of another
pub ending-map : {A B : Type 0} (N : A → List Word → List Word → Type 0) (M : B → List Word → List Word → Type 0) (g : A → B) → Ending N → ((x : A) (ws rest : List Word) → N x ws rest → M (g x) ws rest) → Ending M
ending-map N M g e join = record { value = g e.value; words = e.words; read = λ after. join e.value (e.words ++ after) after (e.read after) }

pub ending-as : {A : Type 0} (N M : A → List Word → List Word → Type 0) → Ending N → ((x : A) (ws rest : List Word) → N x ws rest → M x ws rest) → Ending M
ending-as N M e join = ending-map N M (λ x. x) e join

-- what is found is in another relation, too
module _ {A B : Type 0} (N : A → List Word → List Word → Type 0) (M : B → List Word → List Word → Type 0) (g : A → B) (join : (x : A) (ws rest : List Word) → N x ws rest → M (g x) ws rest) where
  stopped-map : (ts left : List Lexeme) → Stopped N ts left → Stopped M ts left
  stopped-map ts left h = record {
    front = h.front;
    whole = h.whole;
    ending = ending-map (λ x ws rest. N x (h.front ++ ws) rest) (λ x ws rest. M x (h.front ++ ws) rest) g h.ending (λ x ws rest p. join x (h.front ++ ws) rest p);
  }

  reading-map : (x : A) (ts rest : List Lexeme) → Reading N x ts rest → Reading M (g x) ts rest
  reading-map x ts rest h = record { front = h.front; whole = h.whole; read = λ after. join x (h.front ++ after) after (h.read after) }

-- what is made of something that is found
pub finds-map : {A B : Type 0} (N : A → List Word → List Word → Type 0) (M : B → List Word → List Word → Type 0) (g : A → B) (ts : List Lexeme) (o : Outcome A) → Finds N ts o → ((x : A) (ws rest : List Word) → N x ws rest → M (g x) ws rest) → Finds M ts (o >>= λ x rest. found (g x) rest)
finds-map N M g ts (wrong rest) h join = stopped-map N M g join ts rest h
finds-map N M g ts (deep rest) h join = stopped-map N M g join ts (lexemes_behind rest) h
finds-map N M g ts (found x rest) h join = reading-map N M g join x ts rest h

-- the same thing, in another relation
pub finds-as : {A : Type 0} (N M : A → List Word → List Word → Type 0) (ts : List Lexeme) (o : Outcome A) → Finds N ts o → ((x : A) (ws rest : List Word) → N x ws rest → M x ws rest) → Finds M ts o
finds-as N M ts (wrong rest) h join = stopped-map N M (λ x. x) join ts rest h
finds-as N M ts (deep rest) h join = stopped-map N M (λ x. x) join ts (lexemes_behind rest) h
finds-as N M ts (found x rest) h join = reading-map N M (λ x. x) join x ts rest h

-- a token, and then something, where the token stands in the relation
pub finds-behind : {A : Type 0} (M : A → List Word → List Word → Type 0) (t : Lexeme) (depth : ℕ) (ts : List Lexeme) (o : Outcome A) → Finds (λ x ws rest. M x (word t depth ∷ ws) rest) ts o → Finds M (t ∷ ts) o
finds-behind M t depth ts (wrong rest) h = stopped-token M t depth ts rest h
finds-behind M t depth ts (deep rest) h = stopped-token M t depth ts (lexemes_behind rest) h
finds-behind M t depth ts (found x rest) h = record { front = word t depth ∷ h.front; whole = ap (λ us. t ∷ us) h.whole; read = h.read }

-- a token, and then something
pub finds-token : {A : Type 0} (K M : A → List Word → List Word → Type 0) (t : Lexeme) (depth : ℕ) (ts : List Lexeme) (o : Outcome A) → Finds K ts o → ((x : A) (ws rest : List Word) → K x ws rest → M x (word t depth ∷ ws) rest) → Finds M (t ∷ ts) o
finds-token K M t depth ts o h join = finds-behind M t depth ts o (finds-as K (λ x ws rest. M x (word t depth ∷ ws) rest) ts o h join)

-- nothing, before the tokens that are left
abbrev pub Nothing : {A : Type 0} → A → A → List Word → List Word → Type 0
Nothing x y ws rest = (y ≡ x) × (ws ≡ rest)

pub nothing-ends : {A : Type 0} (x : A) → Ending (Nothing x)
nothing-ends x = record { value = x; words = []; read = λ after. (refl, refl) }

abbrev pub FindIn : {R : Type 0} → (R → Type 0) → Option R → Type 0
FindIn F None = Unit {0}
FindIn F (Some r) = F r

-- what stands one level deeper, from a token on that begins something, whether there is room or not
pub finds-enter : {A R : Type 0} (N : A → List Word → List Word → Type 0) (F : R → Type 0) (inside : Option R) (ts us : List Lexeme) (f : R → Outcome A) → FindIn F inside → Stopped N ts (lexemes_behind us) → ((r : R) → F r → Finds N ts (f r)) → Finds N ts (enter inside us f)
finds-enter N F None ts us f h s k = s
finds-enter N F (Some r) ts us f h s k = k r h

-- the same, where what is read needs to know that there is room
pub finds-entered : {A R : Type 0} (N : A → List Word → List Word → Type 0) (F : R → Type 0) (inside : Option R) (ts us : List Lexeme) (f : R → Outcome A) → FindIn F inside → Stopped N ts (lexemes_behind us) → ((r : R) → F r → inside ≡ Some r → Finds N ts (f r)) → Finds N ts (enter inside us f)
finds-entered N F None ts us f h s k = s
finds-entered N F (Some r) ts us f h s k = k r h refl

-- one token
pub finds-one : {A : Type 0} (M : A → List Word → List Word → Type 0) (t : Lexeme) (depth : ℕ) (ts : List Lexeme) (x : A) → ((after : List Word) → M x (word t depth ∷ after) after) → Finds M (t ∷ ts) (found x ts)
finds-one M t depth ts x h = record { front = word t depth ∷ []; whole = refl; read = h }

-- no token
pub finds-none : {A : Type 0} (M : A → List Word → List Word → Type 0) (ts : List Lexeme) (x : A) → ((after : List Word) → M x after after) → Finds M ts (found x ts)
finds-none M ts x h = record { front = []; whole = refl; read = h }

pub finds-nothing : {A : Type 0} (x : A) (ts : List Lexeme) → Finds (Nothing x) ts (found x ts)
finds-nothing x ts = finds-none (Nothing x) ts x (λ after. (refl, refl))
