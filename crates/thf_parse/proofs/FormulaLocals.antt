-- Formulas are read by the tokens up to the first that is left.
use Rattle.std.proofs.Common.{◌≡◌, ℕ, zero, suc, List, [], ◌∷◌, ◌++◌, Bool, true, false, if◌then◌else◌, refl}
use Rattle.thf_grammar.specs.Trees.{TypeTree, indiv, VarTree, FormulaTree, constant, variable, truth, operator, negation, binary, equation, application, quantified, binding}
use Rattle.thf_grammar.specs.declared.connective.Conn.{Conn}
use Rattle.thf_grammar.specs.declared.connective.Conn.TheVariants.{Not, And, Or}
use Rattle.thf_grammar.specs.declared.connective.Binder.{Binder}
use Rattle.thf_grammar.specs.declared.terminal.Mark.TheVariants.{Open, Close, OpenList, CloseList, Comma, Colon, At}
use Rattle.thf_grammar.specs.declared.terminal.Terminal.{Terminal}
use Rattle.thf_grammar.specs.declared.terminal.Terminal.TheVariants as terminal
use Rattle.thf_grammar.specs.Formulas.{binds_many}
use Rattle.thf_parse.specs.Internal.Outcome.{found, wrong, Reader, ◌>>=◌, first_terminal, place_of_first, first_name, lexemes_behind, expect}
use Rattle.thf_parse.specs.Internal.Reader.{type_with, inner_type}
use Rattle.thf_parse.specs.Internal.FormulaReader.{Readers, Inside, var, typed_by, variable_at, negation_at, primary_by, primary, next_variable_by, next_variable, bracket_by, binder_at, unitary_by, unitary, operand_by, operand, right_side, equated_by, unit_by, unit, next_link, is_link, links_by, links, arguments_by, arguments_behind, quantified_reader, quantified_at, second, tail_by, tail, applied_by, applied_behind, behind_primary_by, behind_primary, formula_by, formula_reader, closed, lone, negated_by, negated_at, grouped_by, grouped, body, bound_by, behind_variable, bound, readers, inner}
use Rattle.thf_parse.proofs.Locals.{IsLocal, IsLocalAt, AreLocal, is_proper, at, local-found, local-wrong, local-behind, local-bind, bind-at, local-terminal, place-at, name-at, enter-at}
use Rattle.thf_parse.proofs.MarkLaws.{local-past, local-expect}
use Rattle.thf_parse.proofs.TypeLaws.{local-type_with, local-inner_type}

pub record LocalReaders (r : Readers) : Type 0 where
  pub type : IsLocal r.type
  pub unit : IsLocal r.unit
  pub operand : IsLocal r.operand
  pub grouped : IsLocal r.grouped
  pub links : (c : Conn) (t : FormulaTree) → IsLocal (r.links c t)
  pub arguments : (t : FormulaTree) → IsLocal (r.arguments t)
  pub bound : (b : Binder) (n : ℕ) (vs : List VarTree) → IsLocalAt terminal.Upper (r.bound b n vs)

-- a tree that is made of the first token's place and of what is read behind it
place-bind : {A B : Type 0} (x : Terminal) (r : Reader A) (f : ℕ → A → Reader B) → is_proper x ≡ true → IsLocal r → ((p : ℕ) (y : A) → IsLocal (f p y)) → IsLocalAt x (λ ts. r (lexemes_behind ts) >>= λ y rest. f (place_of_first ts) y rest)
place-bind x r f p l m = place-at x (λ q ts. r (lexemes_behind ts) >>= λ y rest. f q y rest) (λ q. local-behind x (λ ts. r ts >>= λ y rest. f q y rest) p (local-bind r (f q) l (m q)))

one-at : (x : Terminal) (f : ℕ → List ℕ → FormulaTree) → is_proper x ≡ true → IsLocalAt x (λ ts. found (f (place_of_first ts) (first_name ts)) (lexemes_behind ts))
one-at x f p =
    place-at x (λ q ts. found (f q (first_name ts)) (lexemes_behind ts))
    (λ q. name-at x (λ n ts. found (f q n) (lexemes_behind ts)) (λ n. local-behind x (λ ts. found (f q n) ts) p (local-found (f q n))))

local-closed_formula : (t : FormulaTree) → IsLocal (closed t)
local-closed_formula t = local-past Close (λ after. found t after) (local-found t)

typed_by-at : (type : Reader TypeTree) → IsLocal type → (p : ℕ) (n : List ℕ) (x : Terminal) → IsLocalAt x (typed_by type p n x)
typed_by-at type l p n (terminal.Mark Colon) = local-behind (terminal.Mark Colon) (λ ts. type ts >>= λ t rest. found (var p n t) rest) refl (local-bind type (λ t rest. found (var p n t) rest) l (λ t. local-found (var p n t)))
typed_by-at type l p n _ = at _ (λ ts. found (var p n (indiv p)) ts) (local-found (var p n (indiv p)))

variable-at : (type : Reader TypeTree) → IsLocal type → IsLocalAt terminal.Upper (variable_at type)
unfolding variable_at
variable-at type l =
    place-at terminal.Upper (λ p ts. typed_by type p (first_name ts) (first_terminal (lexemes_behind ts)) (lexemes_behind ts))
    (λ p. name-at terminal.Upper (λ n ts. typed_by type p n (first_terminal (lexemes_behind ts)) (lexemes_behind ts))
    (λ n. local-behind terminal.Upper (λ ts. typed_by type p n (first_terminal ts) ts) refl (local-terminal (typed_by type p n) (typed_by-at type l p n))))

module _ (inside : Inside) (l : AreLocal LocalReaders inside) where
  negation_is-at : IsLocalAt (terminal.Conn Not) (negation_at inside)
  negation_is-at =
      enter-at (terminal.Conn Not) LocalReaders inside (λ r ts. r.operand (lexemes_behind ts) >>= λ t rest. found (negation (place_of_first ts) t) rest) l
      (λ r k. place-bind (terminal.Conn Not) r.operand (λ p t rest. found (negation p t) rest) refl k.operand (λ p t. local-found (negation p t)))

  primary_by-at : (x : Terminal) → IsLocalAt x (primary_by inside x)
  primary_by-at terminal.Lower = one-at terminal.Lower constant refl
  primary_by-at terminal.Quoted = one-at terminal.Quoted constant refl
  primary_by-at terminal.Upper = one-at terminal.Upper variable refl
  primary_by-at (terminal.Truth value) = one-at (terminal.Truth value) (λ p n. truth p value) refl
  primary_by-at (terminal.Mark Open) =
      enter-at (terminal.Mark Open) LocalReaders inside (λ r ts. r.grouped (lexemes_behind ts)) l
      (λ r k. local-behind (terminal.Mark Open) r.grouped refl k.grouped)
  primary_by-at _ = at _ (λ ts. wrong ts) local-wrong

  pub local-primary : IsLocal (primary inside)
  unfolding primary
  local-primary = local-terminal (primary_by inside) primary_by-at

  next_variable_by-at : (b : Binder) (n : ℕ) (vs : List VarTree) (x : Terminal) → IsLocalAt x (next_variable_by inside b n vs x)
  next_variable_by-at b n vs terminal.Upper = enter-at terminal.Upper LocalReaders inside (λ r ts. r.bound b n vs ts) l (λ r k. k.bound b n vs)
  next_variable_by-at b n vs _ = at _ (λ ts. wrong ts) local-wrong

  local-next_variable : (b : Binder) (n : ℕ) (vs : List VarTree) → IsLocal (next_variable inside b n vs)
  unfolding next_variable
  local-next_variable b n vs = local-terminal (next_variable_by inside b n vs) (next_variable_by-at b n vs)

  bracket_by-at : (b : Binder) (n : ℕ) (x : Terminal) → IsLocalAt x (bracket_by inside b n x)
  bracket_by-at b n (terminal.Mark OpenList) =
      enter-at (terminal.Mark OpenList) LocalReaders inside (λ r ts. next_variable inside b n [] (lexemes_behind ts)) l
      (λ r k. local-behind (terminal.Mark OpenList) (next_variable inside b n []) refl (local-next_variable b n []))
  bracket_by-at b n _ = at _ (λ ts. wrong ts) local-wrong

  binder-at : (b : Binder) → IsLocalAt (terminal.Binder b) (binder_at inside b)
  unfolding binder_at
  binder-at b =
      place-at (terminal.Binder b) (λ p ts. bracket_by inside b p (first_terminal (lexemes_behind ts)) (lexemes_behind ts))
      (λ p. local-behind (terminal.Binder b) (λ ts. bracket_by inside b p (first_terminal ts) ts) refl (local-terminal (bracket_by inside b p) (bracket_by-at b p)))

  unitary_by-at : (x : Terminal) → IsLocalAt x (unitary_by inside x)
  unitary_by-at (terminal.Binder b) = binder-at b
  unitary_by-at _ = at _ (primary inside) local-primary

  pub local-unitary : IsLocal (unitary inside)
  unfolding unitary
  local-unitary = local-terminal (unitary_by inside) unitary_by-at

  operand_by-at : (x : Terminal) → IsLocalAt x (operand_by inside x)
  operand_by-at (terminal.Conn Not) = negation_is-at
  operand_by-at _ = at _ (unitary inside) local-unitary

  pub local-operand : IsLocal (operand inside)
  unfolding operand
  local-operand = local-terminal (operand_by inside) operand_by-at

  right_side-at : (b : Bool) (t : FormulaTree) → IsLocalAt (terminal.Equality b) (right_side inside b t)
  unfolding right_side
  right_side-at b t = place-bind (terminal.Equality b) (unitary inside) (λ p u rest. found (equation p b t u) rest) refl local-unitary (λ p u. local-found (equation p b t u))

  equated_by-at : (t : FormulaTree) (x : Terminal) → IsLocalAt x (equated_by inside t x)
  equated_by-at t (terminal.Equality b) = right_side-at b t
  equated_by-at t _ = at _ (λ ts. found t ts) (local-found t)

  unit_by-at : (x : Terminal) → IsLocalAt x (unit_by inside x)
  unit_by-at (terminal.Conn Not) = negation_is-at
  unit_by-at (terminal.Binder b) = binder-at b
  unit_by-at _ = at _ (λ ts. primary inside ts >>= λ t rest. equated_by inside t (first_terminal rest) rest) (local-bind (primary inside) (λ t rest. equated_by inside t (first_terminal rest) rest) local-primary (λ t. local-terminal (equated_by inside t) (equated_by-at t)))

  pub local-unit : IsLocal (unit inside)
  unfolding unit
  local-unit = local-terminal (unit_by inside) unit_by-at

  links_by-at : (c : Conn) (t : FormulaTree) (x : Terminal) (b : Bool) → is_link c x ≡ b → is_proper x ≡ true → IsLocalAt x (λ ts. if b then next_link inside c t ts else found t ts)
  links_by-at c t x true e p =
      enter-at x LocalReaders inside (λ r ts. r.unit (lexemes_behind ts) >>= λ u rest. r.links c (binary (place_of_first ts) c t u) rest) l
      (λ r k. place-bind x r.unit (λ q u rest. r.links c (binary q c t u) rest) p k.unit (λ q u. k.links c (binary q c t u)))
  links_by-at c t x false e p = at x (λ ts. found t ts) (local-found t)

  is_link-proper : (c : Conn) (x : Terminal) → is_link c x ≡ true → is_proper x ≡ true
  is_link-proper And (terminal.Conn And) e = refl
  is_link-proper Or (terminal.Conn Or) e = refl
  is_link-proper _ _ e = cc

  links_case-at : (c : Conn) (t : FormulaTree) (x : Terminal) (b : Bool) → is_link c x ≡ b → IsLocalAt x (λ ts. if b then next_link inside c t ts else found t ts)
  links_case-at c t x true e = links_by-at c t x true e (is_link-proper c x e)
  links_case-at c t x false e = at x (λ ts. found t ts) (local-found t)

  pub local-links : (c : Conn) (t : FormulaTree) → IsLocal (links inside c t)
  unfolding links
  local-links c t = local-terminal (links_by inside c t) (λ x. links_case-at c t x (is_link c x) refl)

  arguments_by-at : (t : FormulaTree) (x : Terminal) → IsLocalAt x (arguments_by inside t x)
  arguments_by-at t (terminal.Mark At) =
      enter-at (terminal.Mark At) LocalReaders inside (λ r ts. r.operand (lexemes_behind ts) >>= λ u rest. r.arguments (application (place_of_first ts) t u) rest) l
      (λ r k. place-bind (terminal.Mark At) r.operand (λ q u rest. r.arguments (application q t u) rest) refl k.operand (λ q u. k.arguments (application q t u)))
  arguments_by-at t _ = at _ (λ ts. found t ts) (local-found t)

  pub local-arguments : (t : FormulaTree) → IsLocal (arguments_behind inside t)
  unfolding arguments_behind
  local-arguments t = local-terminal (arguments_by inside t) (arguments_by-at t)

  quantified_by-at : (all : Bool) (x : Terminal) → IsLocalAt x (quantified_reader inside all x)
  quantified_by-at all (terminal.Mark At) =
      enter-at (terminal.Mark At) LocalReaders inside (λ r ts. r.operand (lexemes_behind ts) >>= λ u rest. r.arguments (quantified (place_of_first ts) all u) rest) l
      (λ r k. place-bind (terminal.Mark At) r.operand (λ q u rest. r.arguments (quantified q all u) rest) refl k.operand (λ q u. k.arguments (quantified q all u)))
  quantified_by-at all _ = at _ (λ ts. wrong ts) local-wrong

  local-quantified : (all : Bool) → IsLocal (quantified_at inside all)
  unfolding quantified_at
  local-quantified all = local-terminal (quantified_reader inside all) (quantified_by-at all)

  second-at : (c : Conn) (t : FormulaTree) → IsLocalAt (terminal.Conn c) (second inside c t)
  unfolding second
  second-at c t = place-bind (terminal.Conn c) (unit inside) (λ p u rest. found (binary p c t u) rest) refl local-unit (λ p u. local-found (binary p c t u))

  tail_by-at : (t : FormulaTree) (x : Terminal) → IsLocalAt x (tail_by inside t x)
  tail_by-at t (terminal.Conn Not) = at (terminal.Conn Not) (λ ts. found t ts) (local-found t)
  tail_by-at t (terminal.Conn And) = at (terminal.Conn And) (links inside And t) (local-links And t)
  tail_by-at t (terminal.Conn Or) = at (terminal.Conn Or) (links inside Or t) (local-links Or t)
  tail_by-at t (terminal.Conn c) = second-at c t
  tail_by-at t _ = at _ (λ ts. found t ts) (local-found t)

  pub local-tail : (t : FormulaTree) → IsLocal (tail inside t)
  unfolding tail
  local-tail t = local-terminal (tail_by inside t) (tail_by-at t)

  applied_by-at : (t : FormulaTree) (x : Terminal) → IsLocalAt x (applied_by inside t x)
  applied_by-at t (terminal.Mark At) = at (terminal.Mark At) (arguments_behind inside t) (local-arguments t)
  applied_by-at t _ = at _ (tail inside t) (local-tail t)

  local-applied : (t : FormulaTree) → IsLocal (applied_behind inside t)
  unfolding applied_behind
  local-applied t = local-terminal (applied_by inside t) (applied_by-at t)

  behind_primary_by-at : (t : FormulaTree) (x : Terminal) → IsLocalAt x (behind_primary_by inside t x)
  behind_primary_by-at t (terminal.Equality b) = bind-at (terminal.Equality b) (right_side inside b t) (λ u rest. tail inside u rest) (right_side-at b t) local-tail
  behind_primary_by-at t _ = at _ (applied_behind inside t) (local-applied t)

  local-behind_primary : (t : FormulaTree) → IsLocal (behind_primary inside t)
  unfolding behind_primary
  local-behind_primary t = local-terminal (behind_primary_by inside t) (behind_primary_by-at t)

  formula_by-at : (x : Terminal) → IsLocalAt x (formula_by inside x)
  formula_by-at (terminal.Conn Not) = bind-at (terminal.Conn Not) (negation_at inside) (λ t rest. tail inside t rest) negation_is-at local-tail
  formula_by-at (terminal.Quant all) = local-behind (terminal.Quant all) (quantified_at inside all) refl (local-quantified all)
  formula_by-at (terminal.Binder b) = bind-at (terminal.Binder b) (binder_at inside b) (λ t rest. applied_behind inside t rest) (binder-at b) local-applied
  formula_by-at _ = at _ (λ ts. primary inside ts >>= λ t rest. behind_primary inside t rest) (local-bind (primary inside) (λ t rest. behind_primary inside t rest) local-primary local-behind_primary)

  pub local-formula : IsLocal (formula_reader inside)
  unfolding formula_reader
  local-formula = local-terminal (formula_by inside) formula_by-at

  lone-at : (c : Conn) → IsLocalAt (terminal.Conn c) (lone c)
  unfolding lone
  lone-at c = place-bind (terminal.Conn c) (expect Close) (λ p _ after. found (operator p c) after) refl (local-expect Close) (λ p _. local-found (operator p c))

  negated_by-at : (p : ℕ) (x : Terminal) → IsLocalAt x (negated_by inside p x)
  negated_by-at p (terminal.Mark Close) = local-behind (terminal.Mark Close) (λ ts. found (operator p Not) ts) refl (local-found (operator p Not))
  negated_by-at p _ =
      enter-at _ LocalReaders inside (λ r ts. r.operand ts >>= λ t mid. tail inside (negation p t) mid >>= λ u rest. closed u rest) l
      (λ r k. at _ (λ ts. r.operand ts >>= λ t mid. tail inside (negation p t) mid >>= λ u rest. closed u rest)
      (local-bind r.operand (λ t mid. tail inside (negation p t) mid >>= λ u rest. closed u rest) k.operand
      (λ t. local-bind (tail inside (negation p t)) (λ u rest. closed u rest) (local-tail (negation p t)) local-closed_formula)))

  negated-at : IsLocalAt (terminal.Conn Not) (negated_at inside)
  negated-at =
      enter-at (terminal.Conn Not) LocalReaders inside (λ r ts. negated_by inside (place_of_first ts) (first_terminal (lexemes_behind ts)) (lexemes_behind ts)) l
      (λ r k. place-at (terminal.Conn Not) (λ p ts. negated_by inside p (first_terminal (lexemes_behind ts)) (lexemes_behind ts))
      (λ p. local-behind (terminal.Conn Not) (λ ts. negated_by inside p (first_terminal ts) ts) refl (local-terminal (negated_by inside p) (negated_by-at p))))

  grouped_by-at : (x : Terminal) → IsLocalAt x (grouped_by inside x)
  grouped_by-at (terminal.Conn Not) = negated-at
  grouped_by-at (terminal.Conn c) = lone-at c
  grouped_by-at _ = at _ (λ ts. formula_reader inside ts >>= λ t rest. closed t rest) (local-bind (formula_reader inside) (λ t rest. closed t rest) local-formula local-closed_formula)

  pub local-grouped : IsLocal (grouped inside)
  unfolding grouped
  local-grouped = local-terminal (grouped_by inside) grouped_by-at

  local-body : (b : Binder) (n : ℕ) (vs : List VarTree) → IsLocal (body inside b n vs)
  unfolding body
  local-body b n vs =
      local-past Colon (λ mid. unit inside mid >>= λ t rest. found (binding n b vs t) rest)
      (local-bind (unit inside) (λ t rest. found (binding n b vs t) rest) local-unit (λ t. local-found (binding n b vs t)))

  comma-at : (b : Binder) (n : ℕ) (vs : List VarTree) (many : Bool) → IsLocalAt (terminal.Mark Comma) (λ ts. if many then next_variable inside b n vs (lexemes_behind ts) else wrong ts)
  comma-at b n vs true = local-behind (terminal.Mark Comma) (next_variable inside b n vs) refl (local-next_variable b n vs)
  comma-at b n vs false = at (terminal.Mark Comma) (λ ts. wrong ts) local-wrong

  bound_by-at : (b : Binder) (n : ℕ) (vs : List VarTree) (x : Terminal) → IsLocalAt x (bound_by inside b n vs x)
  bound_by-at b n vs (terminal.Mark Comma) = comma-at b n vs (binds_many b)
  bound_by-at b n vs (terminal.Mark CloseList) = local-behind (terminal.Mark CloseList) (body inside b n vs) refl (local-body b n vs)
  bound_by-at b n vs _ = at _ (λ ts. wrong ts) local-wrong

  local-behind_variable : (b : Binder) (n : ℕ) (vs : List VarTree) → IsLocal (behind_variable inside b n vs)
  unfolding behind_variable
  local-behind_variable b n vs = local-terminal (bound_by inside b n vs) (bound_by-at b n vs)

  bound-at : (b : Binder) (n : ℕ) (vs : List VarTree) → IsLocalAt terminal.Upper (bound inside b n vs)
  unfolding bound
  bound-at b n vs =
      enter-at terminal.Upper LocalReaders inside (λ r ts. variable_at r.type ts >>= λ v rest. behind_variable inside b n (vs ++ v ∷ []) rest) l
      (λ r k. bind-at terminal.Upper (variable_at r.type) (λ v rest. behind_variable inside b n (vs ++ v ∷ []) rest) (variable-at r.type k.type) (λ v. local-behind_variable b n (vs ++ v ∷ [])))

  pub local-readers : (type : Reader TypeTree) → IsLocal type → LocalReaders (readers type inside)
  local-readers type k = record {
    type = k;
    unit = local-unit;
    operand = local-operand;
    grouped = local-grouped;
    links = local-links;
    arguments = local-arguments;
    bound = bound-at;
  }

pub local-inner : (room : ℕ) → AreLocal LocalReaders (inner room)
unfolding inner
local-inner zero = tt
local-inner (suc room) = local-readers (inner room) (local-inner room) (type_with (inner_type room)) (local-type_with (inner_type room) (local-inner_type room))
