-- Types are read as the grammar says.
use Rattle.std.proofs.Common.{◌≡◌, ℕ, zero, suc, ◌+◌, ◌≤◌, List, [], ◌∷◌, true, false, Option, refl, sym, ap, subst, ◌∙◌, arith}
use Rattle.thf_grammar.specs.Trees.{TypeTree, form, indiv, named, arrow}
use Rattle.thf_grammar.specs.declared.terminal.Mark.TheVariants as mark
use Rattle.thf_grammar.specs.declared.terminal.Terminal.{Terminal}
use Rattle.thf_grammar.specs.declared.terminal.Terminal.TheVariants as terminal
use Rattle.thf_grammar.specs.Words.{Lexeme, Word, plain, terminal_of, name_of, Is, lower, quoted}
use Rattle.thf_grammar.specs.Types.{IsType, simple_type as simple_is, arrow_type as arrow_is, IsSimpleType, indiv_type as indiv_is, form_type as form_is, named_type as named_is, group_type as group_is}
use Rattle.thf_parse.specs.Internal.Outcome.{found, wrong, Reader, ◌>>=◌, first_terminal, place_of_first, first_name, lexemes_behind, expect}
use Rattle.thf_grammar.specs.Internal.Marks.{is_mark}
use Rattle.thf_parse.specs.Internal.Reader.{group_type, named_type_reader, simple_type_by, simple_type, right_type, arrow_by, type_with, inner_type}
use Rattle.thf_parse.proofs.Locals.{IsLocal, IsLocalAt, AreLocal, is_proper, at, local-found, local-wrong, local-behind, local-bind, local-terminal, place-at, name-at, enter-at}
use Rattle.thf_parse.proofs.Finds.{word, Ending, Finds, stopped-here, stopped-behind, ending-as, ending-map, finds-bind, finds-token, finds-behind, finds-map, finds-one, finds-none, FindIn, finds-enter}
use Rattle.thf_parse.proofs.Endings.{indiv_word, indiv-is}
use Rattle.thf_parse.proofs.Goes.{Goes, GoIn, goes-bind, goes-token, goes-found, goes-enter}
use Rattle.thf_parse.proofs.MarkLaws.{local-closed, Closed, closed-ends, finds-closed, goes-closed}

-- what is read is decided by the tokens up to the first that is left

named-at : (x : Terminal) → is_proper x ≡ true → IsLocalAt x named_type_reader
named-at x p =
    place-at x (λ q ts. found (named q (first_name ts)) (lexemes_behind ts))
    (λ q. name-at x (λ n ts. found (named q n) (lexemes_behind ts))
    (λ n. local-behind x (λ ts. found (named q n) ts) p (local-found (named q n))))

module _ (inside : Option (Reader TypeTree)) (l : AreLocal IsLocal inside) where
  group-at : IsLocalAt (terminal.Mark mark.Open) (group_type inside)
  group-at =
      enter-at (terminal.Mark mark.Open) IsLocal inside (λ type ts. type (lexemes_behind ts) >>= λ t rest. expect mark.Close rest >>= λ _ after. found t after) l
      (λ type k. local-behind (terminal.Mark mark.Open) (λ ts. type ts >>= λ t rest. expect mark.Close rest >>= λ _ after. found t after) refl (local-closed mark.Close type k))

  one-at : (x : Terminal) (f : ℕ → TypeTree) → is_proper x ≡ true → IsLocalAt x (λ ts. found (f (place_of_first ts)) (lexemes_behind ts))
  one-at x f p = place-at x (λ q ts. found (f q) (lexemes_behind ts)) (λ q. local-behind x (λ ts. found (f q) ts) p (local-found (f q)))

  simple_by-at : (x : Terminal) → IsLocalAt x (simple_type_by inside x)
  simple_by-at terminal.Indiv = one-at terminal.Indiv indiv refl
  simple_by-at terminal.Form = one-at terminal.Form form refl
  simple_by-at terminal.Lower = named-at terminal.Lower refl
  simple_by-at terminal.Quoted = named-at terminal.Quoted refl
  simple_by-at (terminal.Mark mark.Open) = group-at
  simple_by-at _ = at _ (λ ts. wrong ts) local-wrong

  local-simple : IsLocal (simple_type inside)
  unfolding simple_type
  local-simple = local-terminal (simple_type_by inside) simple_by-at

  right-at : (t : TypeTree) → IsLocalAt (terminal.Mark mark.Arrow) (right_type inside t)
  right-at t =
      enter-at (terminal.Mark mark.Arrow) IsLocal inside (λ type ts. type (lexemes_behind ts) >>= λ u rest. found (arrow (place_of_first ts) t u) rest) l
      (λ type k. place-at (terminal.Mark mark.Arrow) (λ p ts. type (lexemes_behind ts) >>= λ u rest. found (arrow p t u) rest)
      (λ p. local-behind (terminal.Mark mark.Arrow) (λ ts. type ts >>= λ u rest. found (arrow p t u) rest) refl (local-bind type (λ u rest. found (arrow p t u) rest) k (λ u. local-found (arrow p t u)))))

  arrow_by-at : (t : TypeTree) (x : Terminal) → IsLocalAt x (arrow_by inside t x)
  arrow_by-at t (terminal.Mark mark.Arrow) = right-at t
  arrow_by-at t _ = at _ (λ ts. found t ts) (local-found t)

  pub local-type_with : IsLocal (type_with inside)
  unfolding type_with
  local-type_with = local-bind (simple_type inside) (λ t rest. arrow_by inside t (first_terminal rest) rest) local-simple (λ t. local-terminal (arrow_by inside t) (arrow_by-at t))

pub local-inner_type : (room : ℕ) → AreLocal IsLocal (inner_type room)
unfolding inner_type
local-inner_type zero = tt
local-inner_type (suc room) = local-type_with (inner_type room) (local-inner_type room)

-- what is found is a type

abbrev pub TypeIs : ℕ → TypeTree → List Word → List Word → Type 0
TypeIs d t ws rest = IsType d ws t rest

abbrev FindsTypes : ℕ → Reader TypeTree → Type 0
FindsTypes d r = (ts : List Lexeme) → Finds (TypeIs d) ts (r ts)

abbrev SimpleIs : ℕ → TypeTree → List Word → List Word → Type 0
SimpleIs d t ws rest = IsSimpleType d ws t rest

-- a type ends with `$i`
simple-ends : (d : ℕ) → Ending (SimpleIs d)
simple-ends d = record { value = indiv 0; words = indiv_word d ∷ []; read = λ after. indiv_is d (indiv_word d) after (indiv-is d) }

pub type-ends : (d : ℕ) → Ending (TypeIs d)
type-ends d = record { value = indiv 0; words = indiv_word d ∷ []; read = λ after. simple_is d (indiv_word d ∷ after) after (indiv 0) (indiv_is d (indiv_word d) after (indiv-is d)) }

module _ (d : ℕ) (inside : Option (Reader TypeTree)) (h : FindIn (FindsTypes (suc d)) inside) where
  group-of : (t : Lexeme) → terminal_of t ≡ terminal.Mark mark.Open → (u : TypeTree) (ws rest : List Word) → Closed (TypeIs (suc d)) mark.Close (suc d) u ws rest → IsSimpleType d (word t (suc d) ∷ ws) u rest
  group-of t e u ws rest c = group_is d (word t (suc d)) c.closing ws rest u (record { terminal = e; deep = refl }) c.read c.closes

  finds-group : (t : Lexeme) (ts : List Lexeme) → terminal_of t ≡ terminal.Mark mark.Open → Finds (SimpleIs d) (t ∷ ts) (group_type inside (t ∷ ts))
  unfolding lexemes_behind
  finds-group t ts e =
      finds-enter (SimpleIs d) (FindsTypes (suc d)) inside (t ∷ ts) (t ∷ ts) _ h
      (stopped-behind (SimpleIs d) t (suc d) ts (ending-as (Closed (TypeIs (suc d)) mark.Close (suc d)) (λ u ws rest. IsSimpleType d (word t (suc d) ∷ ws) u rest) (closed-ends (TypeIs (suc d)) mark.Close (suc d) (type-ends (suc d))) (group-of t e)))
      (λ type k. finds-token (Closed (TypeIs (suc d)) mark.Close (suc d)) (SimpleIs d) t (suc d) ts _
      (finds-closed (TypeIs (suc d)) mark.Close (suc d) ts (type ts) (k ts))
      (group-of t e))

  finds-simple : (ts : List Lexeme) → Finds (SimpleIs d) ts (simple_type inside ts)
  unfolding simple_type first_terminal place_of_first first_name lexemes_behind
  finds-simple [] = stopped-here (SimpleIs d) [] (simple-ends d)
  finds-simple (t ∷ ts) = go (terminal_of t) refl
    where
      one : (u : TypeTree) → ((after : List Word) → IsSimpleType d (word t d ∷ after) u after) → Finds (SimpleIs d) (t ∷ ts) (found u ts)
      one u k = finds-one (SimpleIs d) t d ts u k

      is : (x : Terminal) → terminal_of t ≡ x → Is x d (word t d)
      is x e = record { terminal = e; deep = refl }

      go : (x : Terminal) → terminal_of t ≡ x → Finds (SimpleIs d) (t ∷ ts) (simple_type_by inside x (t ∷ ts))
      go terminal.Indiv e = one (indiv t.at) (λ after. indiv_is d (word t d) after (is terminal.Indiv e))
      go terminal.Form e = one (form t.at) (λ after. form_is d (word t d) after (is terminal.Form e))
      go terminal.Lower e = one (named t.at (name_of t)) (λ after. named_is d (word t d) after (lower (is terminal.Lower e)))
      go terminal.Quoted e = one (named t.at (name_of t)) (λ after. named_is d (word t d) after (quoted (is terminal.Quoted e)))
      go (terminal.Mark mark.Open) e = finds-group t ts e
      go _ e = stopped-here (SimpleIs d) (t ∷ ts) (simple-ends d)

  -- what follows a type
  abbrev RightOf : TypeTree → TypeTree → List Word → List Word → Type 0
  RightOf t u ws rest = (ws' : List Word) → IsSimpleType d ws' t ws → IsType d ws' u rest

  behind-arrow : (t : TypeTree) (s : Lexeme) → terminal_of s ≡ terminal.Mark mark.Arrow → (v : TypeTree) (ws rest : List Word) → IsType (suc d) ws v rest → RightOf t (arrow s.at t v) (word s (suc d) ∷ ws) rest
  behind-arrow t s e v ws rest p ws' q = arrow_is d ws' ws rest (word s (suc d)) t v q (record { terminal = e; deep = refl }) p

  right-ends : (t : TypeTree) → Ending (RightOf t)
  right-ends t = record { value = t; words = []; read = λ after ws k. simple_is d ws after t k }

  finds-arrow : (t : TypeTree) (ts : List Lexeme) → Finds (RightOf t) ts (arrow_by inside t (first_terminal ts) ts)
  unfolding first_terminal place_of_first lexemes_behind
  finds-arrow t [] = finds-none (RightOf t) [] t (λ after ws k. simple_is d ws after t k)
  finds-arrow t (s ∷ ts) = go (terminal_of s) refl
    where
      none : Finds (RightOf t) (s ∷ ts) (found t (s ∷ ts))
      none = finds-none (RightOf t) (s ∷ ts) t (λ after ws k. simple_is d ws after t k)

      go : (x : Terminal) → terminal_of s ≡ x → Finds (RightOf t) (s ∷ ts) (arrow_by inside t x (s ∷ ts))
      go (terminal.Mark mark.Arrow) e =
          finds-enter (RightOf t) (FindsTypes (suc d)) inside (s ∷ ts) (s ∷ ts) _ h
          (stopped-behind (RightOf t) s (suc d) ts (ending-map (TypeIs (suc d)) (λ u ws rest. RightOf t u (word s (suc d) ∷ ws) rest) (arrow s.at t) (type-ends (suc d)) (behind-arrow t s e)))
          (λ type k. finds-behind (RightOf t) s (suc d) ts _
          (finds-map (TypeIs (suc d)) (λ u ws rest. RightOf t u (word s (suc d) ∷ ws) rest) (arrow s.at t) ts (type ts) (k ts) (behind-arrow t s e)))
      go _ e = none

  pub finds-type_with : FindsTypes d (type_with inside)
  unfolding type_with
  finds-type_with ts = finds-bind (SimpleIs d) RightOf (TypeIs d) ts (simple_type inside ts) _ (finds-simple ts) right-ends (λ t mid. finds-arrow t mid) (λ t u ws mid rest p q. q ws p)

pub finds-inner_type : (d room : ℕ) → FindIn (FindsTypes (suc d)) (inner_type room)
unfolding inner_type
finds-inner_type d zero = tt
finds-inner_type d (suc room) = finds-type_with (suc d) (inner_type room) (finds-inner_type (suc d) room)

-- a type is found, or a token of it is too deep

abbrev pub NoArrow : List Word → Type 0
NoArrow rest = is_mark mark.Arrow (first_terminal (plain rest)) ≡ false

module _ (limit : ℕ) where
  abbrev pub GoesTypes : ℕ → Reader TypeTree → Type 0
  GoesTypes d r = (ws rest : List Word) (t : TypeTree) → IsType d ws t rest → NoArrow rest → Goes limit ws rest t (r (plain ws))

  module _ (d : ℕ) (within : d ≤ limit) (inside : Option (Reader TypeTree)) (h : GoIn limit (GoesTypes (suc d)) d inside) where
    one : (w : Word) (rest : List Word) (x : Terminal) (t : TypeTree) → Is x d w → simple_type_by inside x (plain (w ∷ rest)) ≡ found t (plain rest) → Goes limit (w ∷ rest) rest t (simple_type inside (plain (w ∷ rest)))
    unfolding simple_type first_terminal
    one w rest x t is e =
        subst (λ o. Goes limit (w ∷ rest) rest t o) (sym (ap (λ y. simple_type_by inside y (plain (w ∷ rest))) is.terminal ∙ e))
        (goes-token limit w rest rest t (found t (plain rest)) (let q = is.deep in omega arith) (goes-found limit rest t))

    goes-simple : (ws rest : List Word) (t : TypeTree) → IsSimpleType d ws t rest → Goes limit ws rest t (simple_type inside (plain ws))
    unfolding simple_type first_terminal place_of_first first_name lexemes_behind
    goes-simple ws rest t (indiv_is _ w _ is) = one w rest terminal.Indiv t is refl
    goes-simple ws rest t (form_is _ w _ is) = one w rest terminal.Form t is refl
    goes-simple ws rest t (named_is _ w _ (lower is)) = one w rest terminal.Lower t is refl
    goes-simple ws rest t (named_is _ w _ (quoted is)) = one w rest terminal.Quoted t is refl
    goes-simple ws rest t (group_is _ w v ins _ _ is inner closes) =
        subst (λ y. Goes limit (w ∷ ins) rest t (simple_type_by inside y (plain (w ∷ ins)))) (sym is.terminal)
        (goes-enter limit (GoesTypes (suc d)) d inside w ins rest t _ h is.deep
        (λ type k deeper. goes-closed limit mark.Close (suc d) ins v rest t (type (plain ins)) deeper closes (k ins (v ∷ rest) t inner (ap (is_mark mark.Arrow) closes.terminal))))

    no_arrow : (t : TypeTree) (x : Terminal) (ts : List Lexeme) → is_mark mark.Arrow x ≡ false → arrow_by inside t x ts ≡ found t ts
    no_arrow t (terminal.Mark mark.Arrow) ts e = cc
    no_arrow t _ ts e = refl

    pub goes-type_with : GoesTypes d (type_with inside)
    unfolding type_with first_terminal place_of_first lexemes_behind
    goes-type_with ws rest t (simple_is _ _ _ _ is) stop =
        goes-bind limit ws rest rest t t (simple_type inside (plain ws)) _ (goes-simple ws rest t is)
        (subst (λ o. Goes limit rest rest t o) (sym (no_arrow t (first_terminal (plain rest)) (plain rest) stop)) (goes-found limit rest t))
    goes-type_with ws rest _ (arrow_is _ _ right _ w t u left is inner) stop =
        goes-bind limit ws (w ∷ right) rest t (arrow w.lexeme.at t u) (simple_type inside (plain ws)) _ (goes-simple ws (w ∷ right) t left)
        (subst (λ y. Goes limit (w ∷ right) rest (arrow w.lexeme.at t u) (arrow_by inside t y (plain (w ∷ right)))) (sym is.terminal)
        (goes-enter limit (GoesTypes (suc d)) d inside w right rest (arrow w.lexeme.at t u) _ h is.deep
        (λ type k deeper. goes-bind limit right rest rest u (arrow w.lexeme.at t u) (type (plain right)) _ (k right rest u inner stop) (goes-found limit rest (arrow w.lexeme.at t u)))))

  pub goes-inner_type : (d room : ℕ) → d + room ≡ limit → GoIn limit (GoesTypes (suc d)) d (inner_type room)
  unfolding inner_type
  goes-inner_type d zero e = omega arith
  goes-inner_type d (suc room) e = (omega arith, goes-type_with (suc d) (omega arith) (inner_type room) (goes-inner_type (suc d) room (omega arith)))
