-- What is found is a formula.
use Rattle.std.proofs.Common.{◌≡◌, ℕ, zero, suc, List, [], ◌∷◌, ◌++◌, Bool, true, false, if◌then◌else◌, Some, refl, sym, ap, subst, ◌∙◌, append_assoc}
use Rattle.thf_grammar.specs.Trees.{TypeTree, indiv, VarTree, FormulaTree, constant, variable, truth, operator, negation, binary, equation, application, quantified, binding}
use Rattle.thf_grammar.specs.declared.connective.Conn.{Conn}
use Rattle.thf_grammar.specs.declared.connective.Conn.TheVariants.{Not, And, Or}
use Rattle.thf_grammar.specs.declared.connective.Binder.{Binder}
use Rattle.thf_grammar.specs.declared.terminal.Mark.TheVariants.{Open, Close, OpenList, CloseList, Comma, Colon, At}
use Rattle.thf_grammar.specs.declared.terminal.Terminal.{Terminal}
use Rattle.thf_grammar.specs.declared.terminal.Terminal.TheVariants as terminal
use Rattle.thf_grammar.specs.Words.{Lexeme, Word, terminal_of, name_of, name, Is, lower, quoted}
use Rattle.thf_grammar.specs.Types.{IsVar, plain_var, typed_var}
use Rattle.thf_grammar.specs.Formulas as is
use Rattle.thf_grammar.specs.Formulas.{binds_many, is_chained, is_nonassoc, lone_depth, AreVars, IsFormulaText, AreLinks, AreArguments, IsUnit, IsOperand, IsNegation, IsUnitary, IsPrimary, IsBinder}
use Rattle.thf_parse.specs.Internal.Outcome.{found, wrong, Reader, ◌>>=◌, first_terminal, place_of_first, first_name, lexemes_behind, enter}
use Rattle.thf_parse.specs.Internal.Reader.{type_with, inner_type}
use Rattle.thf_parse.specs.Internal.FormulaReader.{Readers, Inside, var, typed_by, variable_at, negation_at, primary_by, primary, next_variable_by, next_variable, bracket_by, binder_at, unitary_by, unitary, operand_by, operand, right_side, equated_by, unit_by, unit, next_link, is_link, links_by, links, arguments_by, arguments_behind, quantified_reader, quantified_at, second, tail_by, tail, applied_by, applied_behind, behind_primary_by, behind_primary, formula_by, formula_reader, closed, lone, negated_operand, negated_by, negated_at, grouped_by, grouped, body, bound_by, behind_variable, bound, readers, inner}
use Rattle.thf_parse.proofs.Finds.{word, Ending, Stopped, Finds, stopped-here, stopped-token, stopped-behind, ending-map, ending-as, finds-bind, finds-token, finds-as, finds-behind, finds-map, finds-one, finds-none, FindIn, finds-enter, finds-entered}
use Rattle.thf_parse.proofs.Endings.{mark_word, mark-is, truth_word, truth-is, upper_word, upper-is}
use Rattle.thf_parse.proofs.MarkLaws.{Closed, closed-ends, finds-closed, finds-past}
use Rattle.thf_parse.proofs.TypeLaws.{TypeIs, finds-type_with, finds-inner_type}

abbrev pub UnitIs : ℕ → FormulaTree → List Word → List Word → Type 0
UnitIs d t ws rest = IsUnit d ws t rest

abbrev pub OperandIs : ℕ → FormulaTree → List Word → List Word → Type 0
OperandIs d t ws rest = IsOperand d ws t rest

abbrev pub UnitaryIs : ℕ → FormulaTree → List Word → List Word → Type 0
UnitaryIs d t ws rest = IsUnitary d ws t rest

abbrev pub PrimaryIs : ℕ → FormulaTree → List Word → List Word → Type 0
PrimaryIs d t ws rest = IsPrimary d ws t rest

abbrev pub NegationIs : ℕ → FormulaTree → List Word → List Word → Type 0
NegationIs d t ws rest = IsNegation d ws t rest

abbrev pub BinderIs : ℕ → FormulaTree → List Word → List Word → Type 0
BinderIs d t ws rest = IsBinder d ws t rest

abbrev pub FormulaIs : ℕ → FormulaTree → List Word → List Word → Type 0
FormulaIs d t ws rest = IsFormulaText d ws t rest

abbrev pub VarIs : ℕ → VarTree → List Word → List Word → Type 0
VarIs d v ws rest = IsVar d ws v rest

abbrev pub LinksAre : Conn → ℕ → FormulaTree → FormulaTree → List Word → List Word → Type 0
LinksAre c d t u ws rest = AreLinks c d t ws u rest

abbrev pub ArgumentsAre : ℕ → FormulaTree → FormulaTree → List Word → List Word → Type 0
ArgumentsAre d t u ws rest = AreArguments d t ws u rest

-- what stands behind a `(`
abbrev pub GroupedIs : ℕ → FormulaTree → List Word → List Word → Type 0
GroupedIs d t ws rest = (w : Word) → Is (terminal.Mark Open) (suc d) w → IsPrimary d (w ∷ ws) t rest

-- the rest of a binder from a variable on, where d things are open before that variable
pub record BoundIs (d : ℕ) (b : Binder) (n : ℕ) (vs : List VarTree) (u : FormulaTree) (ws rest : List Word) : Type 0 where
  pub more : List VarTree
  pub open_behind : ℕ
  pub closing : Word
  pub colon : Word
  pub inside : List Word
  pub tree : FormulaTree
  pub vars : AreVars b d ws more open_behind (closing ∷ colon ∷ inside)
  pub closes : Is (terminal.Mark CloseList) (suc open_behind) closing
  pub colons : Is (terminal.Mark Colon) open_behind colon
  pub unit : IsUnit open_behind inside tree rest
  pub whole : u ≡ binding n b (vs ++ more) tree

-- what the readers of one level deeper find, where d things are open before it
pub record FindReaders (d : ℕ) (r : Readers) : Type 0 where
  pub type : (ts : List Lexeme) → Finds (TypeIs (suc d)) ts (r.type ts)
  pub unit : (ts : List Lexeme) → Finds (UnitIs (suc d)) ts (r.unit ts)
  pub operand : (ts : List Lexeme) → Finds (OperandIs (suc d)) ts (r.operand ts)
  pub grouped : (ts : List Lexeme) → Finds (GroupedIs d) ts (r.grouped ts)
  pub links : (c : Conn) (t : FormulaTree) (ts : List Lexeme) → Finds (LinksAre c (suc d) t) ts (r.links c t ts)
  pub arguments : (t : FormulaTree) (ts : List Lexeme) → Finds (ArgumentsAre (suc d) t) ts (r.arguments t ts)
  pub bound : (b : Binder) (n : ℕ) (vs : List VarTree) (t : Lexeme) (ts : List Lexeme) → terminal_of t ≡ terminal.Upper → Finds (BoundIs d b n vs) (t ∷ ts) (r.bound b n vs (t ∷ ts))

-- the token is the terminal, at the depth that it is given
pub here : (t : Lexeme) (x : Terminal) (depth : ℕ) → terminal_of t ≡ x → Is x depth (word t depth)
here t x depth e = record { terminal = e; deep = refl }

finds-variable : (d : ℕ) (type : Reader TypeTree) → ((ts : List Lexeme) → Finds (TypeIs d) ts (type ts)) → (t : Lexeme) (ts : List Lexeme) → terminal_of t ≡ terminal.Upper → Finds (VarIs d) (t ∷ ts) (variable_at type (t ∷ ts))
unfolding variable_at place_of_first first_name lexemes_behind first_terminal
finds-variable d type h t [] e = finds-one (VarIs d) t d [] (var t.at (name_of t) (indiv t.at)) (λ after. plain_var d (word t d) after (here t terminal.Upper d e))
finds-variable d type h t (s ∷ ts) e = go (terminal_of s) refl
  where
    none : Finds (VarIs d) (t ∷ s ∷ ts) (found (var t.at (name_of t) (indiv t.at)) (s ∷ ts))
    none = finds-one (VarIs d) t d (s ∷ ts) (var t.at (name_of t) (indiv t.at)) (λ after. plain_var d (word t d) after (here t terminal.Upper d e))

    go : (x : Terminal) → terminal_of s ≡ x → Finds (VarIs d) (t ∷ s ∷ ts) (typed_by type t.at (name_of t) x (s ∷ ts))
    go (terminal.Mark Colon) f =
        finds-behind (VarIs d) t d (s ∷ ts) _
        (finds-behind (λ v ws rest. IsVar d (word t d ∷ ws) v rest) s d ts _
        (finds-map (TypeIs d) (λ v ws rest. IsVar d (word t d ∷ word s d ∷ ws) v rest) (var t.at (name_of t)) ts (type ts) (h ts)
        (λ u ws rest p. typed_var d (word t d) (word s d) ws rest u (here t terminal.Upper d e) (here s (terminal.Mark Colon) d f) p)))
    go _ f = none

links-formula : (c : Conn) (d : ℕ) (t u : FormulaTree) (front ws rest : List Word) → is_chained c ≡ true → IsUnit d front t ws → AreLinks c d t ws u rest → IsFormulaText d front u rest
links-formula c d t u front ws rest e p (is.no_links _ _ _ _) = is.unit_formula d front rest t p
links-formula c d t u front ws rest e p (is.more_links _ _ _ v _ w right lexemes_behind _ q k m) = is.chain_formula d front right lexemes_behind rest w c t v u p q e k m

arguments-formula : (d : ℕ) (t u : FormulaTree) (front ws rest : List Word) → IsUnitary d front t ws → AreArguments d t ws u rest → IsFormulaText d front u rest
arguments-formula d t u front ws rest p (is.no_arguments _ _ _) = is.unit_formula d front rest t (is.unitary_unit d front rest t p)
arguments-formula d t u front ws rest p (is.more_arguments _ _ v _ w right lexemes_behind _ q k m) = is.apply_formula d front right lexemes_behind rest w t v u p q k m

is_link-is : (c : Conn) (x : Terminal) → is_link c x ≡ true → x ≡ terminal.Conn c
is_link-is And (terminal.Conn And) e = refl
is_link-is Or (terminal.Conn Or) e = refl
is_link-is _ _ e = cc

-- a formula of each kind ends with `$true`
primary-ends : (d : ℕ) → Ending (PrimaryIs d)
primary-ends d = record { value = truth 0 true; words = truth_word d ∷ []; read = λ after. is.truth_primary d (truth_word d) after true (truth-is d) }

unitary-ends : (d : ℕ) → Ending (UnitaryIs d)
unitary-ends d = ending-as (PrimaryIs d) (UnitaryIs d) (primary-ends d) (λ u ws rest p. is.primary_unitary d ws rest u p)

operand-ends : (d : ℕ) → Ending (OperandIs d)
operand-ends d = ending-as (UnitaryIs d) (OperandIs d) (unitary-ends d) (λ u ws rest p. is.unitary_operand d ws rest u p)

unit-ends : (d : ℕ) → Ending (UnitIs d)
unit-ends d = ending-as (UnitaryIs d) (UnitIs d) (unitary-ends d) (λ u ws rest p. is.unitary_unit d ws rest u p)

pub formula-ends : (d : ℕ) → Ending (FormulaIs d)
formula-ends d = ending-as (UnitIs d) (FormulaIs d) (unit-ends d) (λ u ws rest p. is.unit_formula d ws rest u p)

-- a chain and arguments end where they are
links-end : (c : Conn) (d : ℕ) (t : FormulaTree) → Ending (LinksAre c d t)
links-end c d t = record { value = t; words = []; read = λ after. is.no_links c d t after }

arguments-end : (d : ℕ) (t : FormulaTree) → Ending (ArgumentsAre d t)
arguments-end d t = record { value = t; words = []; read = λ after. is.no_arguments d t after }

group-closed : (d : ℕ) (u : FormulaTree) (ws rest : List Word) → Closed (FormulaIs (suc d)) Close (suc d) u ws rest → GroupedIs d u ws rest
group-closed d u ws rest p w o = is.group_primary d w p.closing ws rest u o p.read p.closes

-- what stands behind a `(` ends with `$true` and `)`
grouped-ends : (d : ℕ) → Ending (GroupedIs d)
grouped-ends d = ending-as (Closed (FormulaIs (suc d)) Close (suc d)) (GroupedIs d) (closed-ends (FormulaIs (suc d)) Close (suc d) (formula-ends (suc d))) (group-closed d)

-- what follows a variable
abbrev BehindIs : ℕ → Binder → ℕ → List VarTree → VarTree → FormulaTree → List Word → List Word → Type 0
BehindIs d b n vs v u ws rest = (front : List Word) → IsVar (suc (suc d)) front v ws → BoundIs d b n vs u front rest

-- a binder ends behind a variable with `]`, `:` and `$true`
behind-ends : (d : ℕ) (b : Binder) (n : ℕ) (vs : List VarTree) (v : VarTree) → Ending (BehindIs d b n vs v)
behind-ends d b n vs v = record {
  value = binding n b (vs ++ v ∷ []) (unit-ends (suc d)).value;
  words = mark_word CloseList (suc (suc d)) ∷ mark_word Colon (suc d) ∷ (unit-ends (suc d)).words;
  read = λ after front k. record {
    more = v ∷ [];
    open_behind = suc d;
    closing = mark_word CloseList (suc (suc d));
    colon = mark_word Colon (suc d);
    inside = (unit-ends (suc d)).words ++ after;
    tree = (unit-ends (suc d)).value;
    vars = is.last_var d front (mark_word CloseList (suc (suc d)) ∷ mark_word Colon (suc d) ∷ ((unit-ends (suc d)).words ++ after)) v k;
    closes = mark-is CloseList (suc (suc d));
    colons = mark-is Colon (suc d);
    unit = (unit-ends (suc d)).read after;
    whole = refl;
  };
}

variable-behind : (d : ℕ) (b : Binder) (n : ℕ) (vs : List VarTree) (w : Word) → Is terminal.Upper (suc (suc d)) w → Ending (λ u ws rest. BoundIs d b n vs u (w ∷ ws) rest)
variable-behind d b n vs w k =
    let v : VarTree = record { at = w.lexeme.at; name = name w; ty = indiv w.lexeme.at } in
    ending-as (BehindIs d b n vs v) (λ u ws rest. BoundIs d b n vs u (w ∷ ws) rest) (behind-ends d b n vs v) (λ u ws rest p. p (w ∷ ws) (plain_var (suc (suc d)) w ws k))

-- a binder ends before a variable with that and a variable
bound-ends : (d : ℕ) (b : Binder) (n : ℕ) (vs : List VarTree) → Ending (BoundIs d b n vs)
bound-ends d b n vs =
    let e = variable-behind d b n vs (upper_word (suc (suc d))) (upper-is (suc (suc d))) in
    record { value = e.value; words = upper_word (suc (suc d)) ∷ e.words; read = e.read }

variable-stops : (d : ℕ) (b : Binder) (n : ℕ) (vs : List VarTree) (t : Lexeme) (ts : List Lexeme) → terminal_of t ≡ terminal.Upper → Stopped (BoundIs d b n vs) (t ∷ ts) ts
variable-stops d b n vs t ts e = stopped-behind (BoundIs d b n vs) t (suc (suc d)) ts (variable-behind d b n vs (word t (suc (suc d))) (here t terminal.Upper (suc (suc d)) e))

module _ (d : ℕ) (inside : Inside) (h : FindIn (FindReaders d) inside) where
  negate : (t : Lexeme) → terminal_of t ≡ terminal.Conn Not → (u : FormulaTree) (ws rest : List Word) → IsOperand (suc d) ws u rest → IsNegation d (word t (suc d) ∷ ws) (negation t.at u) rest
  negate t e u ws rest p = is.negated d (word t (suc d)) ws rest u (here t (terminal.Conn Not) (suc d) e) p

  finds-negation : (t : Lexeme) (ts : List Lexeme) → terminal_of t ≡ terminal.Conn Not → Finds (NegationIs d) (t ∷ ts) (negation_at inside (t ∷ ts))
  unfolding lexemes_behind place_of_first
  finds-negation t ts e =
      finds-enter (NegationIs d) (FindReaders d) inside (t ∷ ts) (t ∷ ts) _ h
      (stopped-behind (NegationIs d) t (suc d) ts (ending-map (OperandIs (suc d)) (λ u ws rest. IsNegation d (word t (suc d) ∷ ws) u rest) (negation t.at) (operand-ends (suc d)) (negate t e)))
      (λ r k. finds-behind (NegationIs d) t (suc d) ts _
      (finds-map (OperandIs (suc d)) (λ u ws rest. IsNegation d (word t (suc d) ∷ ws) u rest) (negation t.at) ts (r.operand ts) (k.operand ts)
      (negate t e)))

  finds-primary : (ts : List Lexeme) → Finds (PrimaryIs d) ts (primary inside ts)
  unfolding primary first_terminal place_of_first first_name lexemes_behind
  finds-primary [] = stopped-here (PrimaryIs d) [] (primary-ends d)
  finds-primary (t ∷ ts) = go (terminal_of t) refl
    where
      go : (x : Terminal) → terminal_of t ≡ x → Finds (PrimaryIs d) (t ∷ ts) (primary_by inside x (t ∷ ts))
      go terminal.Lower e = finds-one (PrimaryIs d) t d ts (constant t.at (name_of t)) (λ after. is.constant_primary d (word t d) after (lower (here t terminal.Lower d e)))
      go terminal.Quoted e = finds-one (PrimaryIs d) t d ts (constant t.at (name_of t)) (λ after. is.constant_primary d (word t d) after (quoted (here t terminal.Quoted d e)))
      go terminal.Upper e = finds-one (PrimaryIs d) t d ts (variable t.at (name_of t)) (λ after. is.variable_primary d (word t d) after (here t terminal.Upper d e))
      go (terminal.Truth v) e = finds-one (PrimaryIs d) t d ts (truth t.at v) (λ after. is.truth_primary d (word t d) after v (here t (terminal.Truth v) d e))
      go (terminal.Mark Open) e =
          finds-enter (PrimaryIs d) (FindReaders d) inside (t ∷ ts) (t ∷ ts) _ h
          (stopped-behind (PrimaryIs d) t (suc d) ts (ending-as (GroupedIs d) (λ u ws rest. IsPrimary d (word t (suc d) ∷ ws) u rest) (grouped-ends d) (λ u ws rest p. p (word t (suc d)) (here t (terminal.Mark Open) (suc d) e))))
          (λ r k. finds-token (GroupedIs d) (PrimaryIs d) t (suc d) ts (r.grouped ts) (k.grouped ts) (λ u ws rest p. p (word t (suc d)) (here t (terminal.Mark Open) (suc d) e)))
      go _ e = stopped-here (PrimaryIs d) (t ∷ ts) (primary-ends d)

  finds-next_variable : (b : Binder) (n : ℕ) (vs : List VarTree) (ts : List Lexeme) → Finds (BoundIs d b n vs) ts (next_variable inside b n vs ts)
  unfolding next_variable first_terminal lexemes_behind
  finds-next_variable b n vs [] = stopped-here (BoundIs d b n vs) [] (bound-ends d b n vs)
  finds-next_variable b n vs (t ∷ ts) = go (terminal_of t) refl
    where
      go : (x : Terminal) → terminal_of t ≡ x → Finds (BoundIs d b n vs) (t ∷ ts) (next_variable_by inside b n vs x (t ∷ ts))
      go terminal.Upper e = finds-enter (BoundIs d b n vs) (FindReaders d) inside (t ∷ ts) (t ∷ ts) _ h (variable-stops d b n vs t ts e) (λ r k. k.bound b n vs t ts e)
      go _ e = stopped-here (BoundIs d b n vs) (t ∷ ts) (bound-ends d b n vs)

  bind-from : (b : Binder) (t : Lexeme) → terminal_of t ≡ terminal.Binder b → (o : Word) → Is (terminal.Mark OpenList) (suc d) o → (u : FormulaTree) (ws rest : List Word) → BoundIs d b t.at [] u ws rest → IsBinder d (word t d ∷ o ∷ ws) u rest
  bind-from b t e o k u ws rest p =
      subst (λ v. IsBinder d (word t d ∷ o ∷ ws) v rest) (sym p.whole)
      (is.bound d p.open_behind (word t d) o p.closing p.colon ws p.inside rest b p.more p.tree (here t (terminal.Binder b) d e) k p.vars p.closes p.colons p.unit)

  bracket-behind : (b : Binder) (t : Lexeme) → terminal_of t ≡ terminal.Binder b → (o : Word) → Is (terminal.Mark OpenList) (suc d) o → Ending (λ u ws rest. IsBinder d (word t d ∷ o ∷ ws) u rest)
  bracket-behind b t e o k = ending-as (BoundIs d b t.at []) (λ u ws rest. IsBinder d (word t d ∷ o ∷ ws) u rest) (bound-ends d b t.at []) (bind-from b t e o k)

  -- a binder's formula ends behind the binder with `[`, a variable, `]`, `:` and `$true`
  binder-behind : (b : Binder) (t : Lexeme) → terminal_of t ≡ terminal.Binder b → Ending (λ u ws rest. IsBinder d (word t d ∷ ws) u rest)
  binder-behind b t e =
      let more = bracket-behind b t e (mark_word OpenList (suc d)) (mark-is OpenList (suc d)) in
      record { value = more.value; words = mark_word OpenList (suc d) ∷ more.words; read = more.read }

  finds-binder : (b : Binder) (t : Lexeme) (ts : List Lexeme) → terminal_of t ≡ terminal.Binder b → Finds (BinderIs d) (t ∷ ts) (binder_at inside b (t ∷ ts))
  unfolding binder_at first_terminal place_of_first lexemes_behind
  finds-binder b t [] e = stopped-behind (BinderIs d) t d [] (binder-behind b t e)
  finds-binder b t (s ∷ ts) e = go (terminal_of s) refl
    where
      go : (x : Terminal) → terminal_of s ≡ x → Finds (BinderIs d) (t ∷ s ∷ ts) (bracket_by inside b t.at x (s ∷ ts))
      go (terminal.Mark OpenList) f =
          finds-enter (BinderIs d) (FindReaders d) inside (t ∷ s ∷ ts) (s ∷ ts) _ h
          (stopped-token (BinderIs d) t d (s ∷ ts) ts (stopped-behind (λ u ws rest. IsBinder d (word t d ∷ ws) u rest) s (suc d) ts (bracket-behind b t e (word s (suc d)) (here s (terminal.Mark OpenList) (suc d) f))))
          (λ r k. finds-behind (BinderIs d) t d (s ∷ ts) _
          (finds-token (BoundIs d b t.at []) (λ u ws rest. IsBinder d (word t d ∷ ws) u rest) s (suc d) ts _ (finds-next_variable b t.at [] ts)
          (bind-from b t e (word s (suc d)) (here s (terminal.Mark OpenList) (suc d) f))))
      go _ f = stopped-behind (BinderIs d) t d (s ∷ ts) (binder-behind b t e)

  finds-unitary : (ts : List Lexeme) → Finds (UnitaryIs d) ts (unitary inside ts)
  unfolding unitary first_terminal
  finds-unitary ts = cases ts
    where
      plainly : (us : List Lexeme) → Finds (UnitaryIs d) us (primary inside us)
      plainly us = finds-as (PrimaryIs d) (UnitaryIs d) us (primary inside us) (finds-primary us) (λ u ws rest p. is.primary_unitary d ws rest u p)

      go : (t : Lexeme) (us : List Lexeme) (x : Terminal) → terminal_of t ≡ x → Finds (UnitaryIs d) (t ∷ us) (unitary_by inside x (t ∷ us))
      go t us (terminal.Binder b) e = finds-as (BinderIs d) (UnitaryIs d) (t ∷ us) (binder_at inside b (t ∷ us)) (finds-binder b t us e) (λ u ws rest p. is.binder_unitary d ws rest u p)
      go t us _ e = plainly (t ∷ us)

      cases : (us : List Lexeme) → Finds (UnitaryIs d) us (unitary_by inside (first_terminal us) us)
      cases [] = plainly []
      cases (t ∷ us) = go t us (terminal_of t) refl

  finds-operand : (ts : List Lexeme) → Finds (OperandIs d) ts (operand inside ts)
  unfolding operand first_terminal
  finds-operand ts = cases ts
    where
      plainly : (us : List Lexeme) → Finds (OperandIs d) us (unitary inside us)
      plainly us = finds-as (UnitaryIs d) (OperandIs d) us (unitary inside us) (finds-unitary us) (λ u ws rest p. is.unitary_operand d ws rest u p)

      go : (t : Lexeme) (us : List Lexeme) (x : Terminal) → terminal_of t ≡ x → Finds (OperandIs d) (t ∷ us) (operand_by inside x (t ∷ us))
      go t us (terminal.Conn Not) e = finds-as (NegationIs d) (OperandIs d) (t ∷ us) (negation_at inside (t ∷ us)) (finds-negation t us e) (λ u ws rest p. is.negation_operand d ws rest u p)
      go t us _ e = plainly (t ∷ us)

      cases : (us : List Lexeme) → Finds (OperandIs d) us (operand_by inside (first_terminal us) us)
      cases [] = plainly []
      cases (t ∷ us) = go t us (terminal_of t) refl

  -- the rest of an equation behind its left side
  abbrev RightIs : FormulaTree → FormulaTree → List Word → List Word → Type 0
  RightIs t u ws rest = (front : List Word) → IsPrimary d front t ws → IsUnit d front u rest

  finds-right_side : (b : Bool) (t : FormulaTree) (s : Lexeme) (ts : List Lexeme) → terminal_of s ≡ terminal.Equality b → Finds (RightIs t) (s ∷ ts) (right_side inside b t (s ∷ ts))
  unfolding right_side place_of_first lexemes_behind
  finds-right_side b t s ts e =
      finds-behind (RightIs t) s d ts _
      (finds-map (UnitaryIs d) (λ u ws rest. RightIs t u (word s d ∷ ws) rest) (equation s.at b t) ts (unitary inside ts) (finds-unitary ts)
      (λ u ws rest p front q. is.equation_unit d front ws rest (word s d) b t u q (here s (terminal.Equality b) d e) p))

  finds-equated : (t : FormulaTree) (ts : List Lexeme) → Finds (RightIs t) ts (equated_by inside t (first_terminal ts) ts)
  unfolding first_terminal
  finds-equated t ts = cases ts
    where
      none : (us : List Lexeme) → Finds (RightIs t) us (found t us)
      none us = finds-none (RightIs t) us t (λ after front p. is.unitary_unit d front after t (is.primary_unitary d front after t p))

      go : (s : Lexeme) (us : List Lexeme) (x : Terminal) → terminal_of s ≡ x → Finds (RightIs t) (s ∷ us) (equated_by inside t x (s ∷ us))
      go s us (terminal.Equality b) e = finds-right_side b t s us e
      go s us _ e = none (s ∷ us)

      cases : (us : List Lexeme) → Finds (RightIs t) us (equated_by inside t (first_terminal us) us)
      cases [] = none []
      cases (s ∷ us) = go s us (terminal_of s) refl

  finds-unit : (ts : List Lexeme) → Finds (UnitIs d) ts (unit inside ts)
  unfolding unit first_terminal
  finds-unit ts = cases ts
    where
      plainly : (us : List Lexeme) → Finds (UnitIs d) us (primary inside us >>= λ t rest. equated_by inside t (first_terminal rest) rest)
      plainly us = finds-bind (PrimaryIs d) RightIs (UnitIs d) us (primary inside us) _ (finds-primary us)
          (λ t. record { value = t; words = []; read = λ after front p. is.unitary_unit d front after t (is.primary_unitary d front after t p) })
          (λ t mid. finds-equated t mid) (λ t u ws mid rest p q. q ws p)

      go : (t : Lexeme) (us : List Lexeme) (x : Terminal) → terminal_of t ≡ x → Finds (UnitIs d) (t ∷ us) (unit_by inside x (t ∷ us))
      go t us (terminal.Conn Not) e = finds-as (NegationIs d) (UnitIs d) (t ∷ us) (negation_at inside (t ∷ us)) (finds-negation t us e) (λ u ws rest p. is.negation_unit d ws rest u p)
      go t us (terminal.Binder b) e = finds-as (BinderIs d) (UnitIs d) (t ∷ us) (binder_at inside b (t ∷ us)) (finds-binder b t us e) (λ u ws rest p. is.unitary_unit d ws rest u (is.binder_unitary d ws rest u p))
      go t us _ e = plainly (t ∷ us)

      cases : (us : List Lexeme) → Finds (UnitIs d) us (unit_by inside (first_terminal us) us)
      cases [] = plainly []
      cases (t ∷ us) = go t us (terminal_of t) refl

  finds-links : (c : Conn) (t : FormulaTree) (ts : List Lexeme) → Finds (LinksAre c d t) ts (links inside c t ts)
  unfolding links first_terminal place_of_first lexemes_behind
  finds-links c t ts = cases ts
    where
      none : (us : List Lexeme) → Finds (LinksAre c d t) us (found t us)
      none us = finds-none (LinksAre c d t) us t (λ after. is.no_links c d t after)

      go : (s : Lexeme) (us : List Lexeme) (b : Bool) → is_link c (terminal_of s) ≡ b → Finds (LinksAre c d t) (s ∷ us) (if b then next_link inside c t (s ∷ us) else found t (s ∷ us))
      go s us true e =
          finds-enter (LinksAre c d t) (FindReaders d) inside (s ∷ us) (s ∷ us) _ h
          (stopped-behind (LinksAre c d t) s (suc d) us (ending-map (UnitIs (suc d)) (λ v ws rest. AreLinks c d t (word s (suc d) ∷ ws) v rest) (binary s.at c t) (unit-ends (suc d))
          (λ u ws rest p. is.more_links c d t u (binary s.at c t u) (word s (suc d)) ws rest rest (here s (terminal.Conn c) (suc d) (is_link-is c (terminal_of s) e)) p (is.no_links c (suc d) (binary s.at c t u) rest))))
          (λ r k. finds-behind (LinksAre c d t) s (suc d) us _
          (finds-bind (UnitIs (suc d)) (λ u. LinksAre c (suc d) (binary s.at c t u)) (λ v ws rest. AreLinks c d t (word s (suc d) ∷ ws) v rest) us (r.unit us) _ (k.unit us) (λ u. links-end c (suc d) (binary s.at c t u)) (λ u mid. k.links c (binary s.at c t u) mid)
          (λ u v ws mid rest p q. is.more_links c d t u v (word s (suc d)) ws mid rest (here s (terminal.Conn c) (suc d) (is_link-is c (terminal_of s) e)) p q)))
      go s us false e = none (s ∷ us)

      empty : (b : Bool) → is_link c terminal.Other ≡ b → Finds (LinksAre c d t) [] (if b then next_link inside c t [] else found t [])
      empty true e = let q = is_link-is c terminal.Other e in cc
      empty false e = none []

      cases : (us : List Lexeme) → Finds (LinksAre c d t) us (links_by inside c t (first_terminal us) us)
      cases [] = empty (is_link c terminal.Other) refl
      cases (s ∷ us) = go s us (is_link c (terminal_of s)) refl

  finds-arguments : (t : FormulaTree) (ts : List Lexeme) → Finds (ArgumentsAre d t) ts (arguments_behind inside t ts)
  unfolding arguments_behind first_terminal place_of_first lexemes_behind
  finds-arguments t ts = cases ts
    where
      none : (us : List Lexeme) → Finds (ArgumentsAre d t) us (found t us)
      none us = finds-none (ArgumentsAre d t) us t (λ after. is.no_arguments d t after)

      go : (s : Lexeme) (us : List Lexeme) (x : Terminal) → terminal_of s ≡ x → Finds (ArgumentsAre d t) (s ∷ us) (arguments_by inside t x (s ∷ us))
      go s us (terminal.Mark At) e =
          finds-enter (ArgumentsAre d t) (FindReaders d) inside (s ∷ us) (s ∷ us) _ h
          (stopped-behind (ArgumentsAre d t) s (suc d) us (ending-map (OperandIs (suc d)) (λ v ws rest. AreArguments d t (word s (suc d) ∷ ws) v rest) (application s.at t) (operand-ends (suc d))
          (λ u ws rest p. is.more_arguments d t u (application s.at t u) (word s (suc d)) ws rest rest (here s (terminal.Mark At) (suc d) e) p (is.no_arguments (suc d) (application s.at t u) rest))))
          (λ r k. finds-behind (ArgumentsAre d t) s (suc d) us _
          (finds-bind (OperandIs (suc d)) (λ u. ArgumentsAre (suc d) (application s.at t u)) (λ v ws rest. AreArguments d t (word s (suc d) ∷ ws) v rest) us (r.operand us) _ (k.operand us) (λ u. arguments-end (suc d) (application s.at t u)) (λ u mid. k.arguments (application s.at t u) mid)
          (λ u v ws mid rest p q. is.more_arguments d t u v (word s (suc d)) ws mid rest (here s (terminal.Mark At) (suc d) e) p q)))
      go s us _ e = none (s ∷ us)

      cases : (us : List Lexeme) → Finds (ArgumentsAre d t) us (arguments_by inside t (first_terminal us) us)
      cases [] = none []
      cases (s ∷ us) = go s us (terminal_of s) refl

  quantify : (all : Bool) (t : Lexeme) → terminal_of t ≡ terminal.Quant all → (w : Word) → Is (terminal.Mark At) (suc d) w → (u : FormulaTree) (ws rest : List Word) → IsOperand (suc d) ws u rest → IsFormulaText d (word t d ∷ w ∷ ws) (quantified w.lexeme.at all u) rest
  quantify all t e w k u ws rest p = is.quantified_formula d (word t d) w ws rest rest all u (quantified w.lexeme.at all u) (here t (terminal.Quant all) d e) k p (is.no_arguments (suc d) (quantified w.lexeme.at all u) rest)

  at-behind : (all : Bool) (t : Lexeme) → terminal_of t ≡ terminal.Quant all → (w : Word) → Is (terminal.Mark At) (suc d) w → Ending (λ u ws rest. IsFormulaText d (word t d ∷ w ∷ ws) u rest)
  at-behind all t e w k = ending-map (OperandIs (suc d)) (λ u ws rest. IsFormulaText d (word t d ∷ w ∷ ws) u rest) (quantified w.lexeme.at all) (operand-ends (suc d)) (quantify all t e w k)

  -- a formula ends behind `!!` or `??` with `@` and `$true`
  quantified-behind : (all : Bool) (t : Lexeme) → terminal_of t ≡ terminal.Quant all → Ending (λ u ws rest. IsFormulaText d (word t d ∷ ws) u rest)
  quantified-behind all t e =
      let more = at-behind all t e (mark_word At (suc d)) (mark-is At (suc d)) in
      record { value = more.value; words = mark_word At (suc d) ∷ more.words; read = more.read }

  finds-quantified : (all : Bool) (t : Lexeme) (ts : List Lexeme) → terminal_of t ≡ terminal.Quant all → Finds (FormulaIs d) (t ∷ ts) (quantified_at inside all ts)
  unfolding quantified_at first_terminal place_of_first lexemes_behind
  finds-quantified all t [] e = stopped-behind (FormulaIs d) t d [] (quantified-behind all t e)
  finds-quantified all t (s ∷ ts) e = go (terminal_of s) refl
    where
      go : (x : Terminal) → terminal_of s ≡ x → Finds (FormulaIs d) (t ∷ s ∷ ts) (quantified_reader inside all x (s ∷ ts))
      go (terminal.Mark At) f =
          finds-enter (FormulaIs d) (FindReaders d) inside (t ∷ s ∷ ts) (s ∷ ts) _ h
          (stopped-token (FormulaIs d) t d (s ∷ ts) ts (stopped-behind (λ u ws rest. IsFormulaText d (word t d ∷ ws) u rest) s (suc d) ts (at-behind all t e (word s (suc d)) (here s (terminal.Mark At) (suc d) f))))
          (λ r k. finds-behind (FormulaIs d) t d (s ∷ ts) _
          (finds-behind (λ u ws rest. IsFormulaText d (word t d ∷ ws) u rest) s (suc d) ts _
          (finds-bind (OperandIs (suc d)) (λ u. ArgumentsAre (suc d) (quantified s.at all u)) (λ v ws rest. IsFormulaText d (word t d ∷ word s (suc d) ∷ ws) v rest) ts (r.operand ts) _ (k.operand ts) (λ u. arguments-end (suc d) (quantified s.at all u)) (λ u mid. k.arguments (quantified s.at all u) mid)
          (λ u v ws mid rest p q. is.quantified_formula d (word t d) (word s (suc d)) ws mid rest all u v (here t (terminal.Quant all) d e) (here s (terminal.Mark At) (suc d) f) p q))))
      go _ f = stopped-behind (FormulaIs d) t d (s ∷ ts) (quantified-behind all t e)

  -- the rest of a formula behind its first unit
  abbrev TailIs : FormulaTree → FormulaTree → List Word → List Word → Type 0
  TailIs t u ws rest = (front : List Word) → IsUnit d front t ws → IsFormulaText d front u rest

  tail-ends : (t : FormulaTree) → Ending (TailIs t)
  tail-ends t = record { value = t; words = []; read = λ after front p. is.unit_formula d front after t p }

  finds-second : (c : Conn) (t : FormulaTree) (s : Lexeme) (ts : List Lexeme) → is_nonassoc c ≡ true → terminal_of s ≡ terminal.Conn c → Finds (TailIs t) (s ∷ ts) (second inside c t (s ∷ ts))
  unfolding second place_of_first lexemes_behind
  finds-second c t s ts n e =
      finds-behind (TailIs t) s d ts _
      (finds-map (UnitIs d) (λ u ws rest. TailIs t u (word s d ∷ ws) rest) (binary s.at c t) ts (unit inside ts) (finds-unit ts)
      (λ u ws rest p front q. is.pair_formula d front ws rest (word s d) c t u q (here s (terminal.Conn c) d e) n p))

  finds-tail : (t : FormulaTree) (ts : List Lexeme) → Finds (TailIs t) ts (tail inside t ts)
  unfolding tail first_terminal
  finds-tail t ts = cases ts
    where
      none : (us : List Lexeme) → Finds (TailIs t) us (found t us)
      none us = finds-none (TailIs t) us t (λ after front p. is.unit_formula d front after t p)

      chain : (c : Conn) → is_chained c ≡ true → (us : List Lexeme) → Finds (TailIs t) us (links inside c t us)
      chain c e us = finds-as (LinksAre c d t) (TailIs t) us (links inside c t us) (finds-links c t us) (λ u ws rest p front q. links-formula c d t u front ws rest e q p)

      go : (s : Lexeme) (us : List Lexeme) (x : Terminal) → terminal_of s ≡ x → Finds (TailIs t) (s ∷ us) (tail_by inside t x (s ∷ us))
      go s us (terminal.Conn Not) e = none (s ∷ us)
      go s us (terminal.Conn And) e = chain And refl (s ∷ us)
      go s us (terminal.Conn Or) e = chain Or refl (s ∷ us)
      go s us (terminal.Conn c) e = finds-second c t s us refl e
      go s us _ e = none (s ∷ us)

      cases : (us : List Lexeme) → Finds (TailIs t) us (tail_by inside t (first_terminal us) us)
      cases [] = none []
      cases (s ∷ us) = go s us (terminal_of s) refl

  -- the rest of a formula behind a unitary formula at its beginning
  abbrev AppliedIs : FormulaTree → FormulaTree → List Word → List Word → Type 0
  AppliedIs t u ws rest = (front : List Word) → IsUnitary d front t ws → IsFormulaText d front u rest

  applied-ends : (t : FormulaTree) → Ending (AppliedIs t)
  applied-ends t = ending-as (TailIs t) (AppliedIs t) (tail-ends t) (λ u ws rest p front q. p front (is.unitary_unit d front ws t q))

  finds-applied : (t : FormulaTree) (ts : List Lexeme) → Finds (AppliedIs t) ts (applied_behind inside t ts)
  unfolding applied_behind first_terminal
  finds-applied t ts = cases ts
    where
      none : (us : List Lexeme) → Finds (AppliedIs t) us (tail inside t us)
      none us = finds-as (TailIs t) (AppliedIs t) us (tail inside t us) (finds-tail t us) (λ u ws rest p front q. p front (is.unitary_unit d front ws t q))

      go : (s : Lexeme) (us : List Lexeme) (x : Terminal) → terminal_of s ≡ x → Finds (AppliedIs t) (s ∷ us) (applied_by inside t x (s ∷ us))
      go s us (terminal.Mark At) e = finds-as (ArgumentsAre d t) (AppliedIs t) (s ∷ us) (arguments_behind inside t (s ∷ us)) (finds-arguments t (s ∷ us)) (λ u ws rest p front q. arguments-formula d t u front ws rest q p)
      go s us _ e = none (s ∷ us)

      cases : (us : List Lexeme) → Finds (AppliedIs t) us (applied_by inside t (first_terminal us) us)
      cases [] = none []
      cases (s ∷ us) = go s us (terminal_of s) refl

  -- the rest of a formula behind a primary formula at its beginning
  abbrev BehindPrimaryIs : FormulaTree → FormulaTree → List Word → List Word → Type 0
  BehindPrimaryIs t u ws rest = (front : List Word) → IsPrimary d front t ws → IsFormulaText d front u rest

  behind_primary-ends : (t : FormulaTree) → Ending (BehindPrimaryIs t)
  behind_primary-ends t = ending-as (AppliedIs t) (BehindPrimaryIs t) (applied-ends t) (λ u ws rest p front q. p front (is.primary_unitary d front ws t q))

  finds-behind_primary : (t : FormulaTree) (ts : List Lexeme) → Finds (BehindPrimaryIs t) ts (behind_primary inside t ts)
  unfolding behind_primary first_terminal
  finds-behind_primary t ts = cases ts
    where
      none : (us : List Lexeme) → Finds (BehindPrimaryIs t) us (applied_behind inside t us)
      none us = finds-as (AppliedIs t) (BehindPrimaryIs t) us (applied_behind inside t us) (finds-applied t us) (λ u ws rest p front q. p front (is.primary_unitary d front ws t q))

      go : (s : Lexeme) (us : List Lexeme) (x : Terminal) → terminal_of s ≡ x → Finds (BehindPrimaryIs t) (s ∷ us) (behind_primary_by inside t x (s ∷ us))
      go s us (terminal.Equality b) e =
          finds-bind (RightIs t) TailIs (BehindPrimaryIs t) (s ∷ us) (right_side inside b t (s ∷ us)) _ (finds-right_side b t s us e) tail-ends (λ u mid. finds-tail u mid) (λ u v ws mid rest p q front k. q front (p front k))
      go s us _ e = none (s ∷ us)

      cases : (us : List Lexeme) → Finds (BehindPrimaryIs t) us (behind_primary_by inside t (first_terminal us) us)
      cases [] = none []
      cases (s ∷ us) = go s us (terminal_of s) refl

  pub finds-formula : (ts : List Lexeme) → Finds (FormulaIs d) ts (formula_reader inside ts)
  unfolding formula_reader first_terminal lexemes_behind
  finds-formula ts = cases ts
    where
      plainly : (us : List Lexeme) → Finds (FormulaIs d) us (primary inside us >>= λ t rest. behind_primary inside t rest)
      plainly us = finds-bind (PrimaryIs d) BehindPrimaryIs (FormulaIs d) us (primary inside us) _ (finds-primary us) behind_primary-ends (λ t mid. finds-behind_primary t mid) (λ t u ws mid rest p q. q ws p)

      go : (t : Lexeme) (us : List Lexeme) (x : Terminal) → terminal_of t ≡ x → Finds (FormulaIs d) (t ∷ us) (formula_by inside x (t ∷ us))
      go t us (terminal.Conn Not) e = finds-bind (NegationIs d) TailIs (FormulaIs d) (t ∷ us) (negation_at inside (t ∷ us)) _ (finds-negation t us e) tail-ends (λ u mid. finds-tail u mid) (λ u v ws mid rest p q. q ws (is.negation_unit d ws mid u p))
      go t us (terminal.Quant all) e = finds-quantified all t us e
      go t us (terminal.Binder b) e = finds-bind (BinderIs d) AppliedIs (FormulaIs d) (t ∷ us) (binder_at inside b (t ∷ us)) _ (finds-binder b t us e) applied-ends (λ u mid. finds-applied u mid) (λ u v ws mid rest p q. q ws (is.binder_unitary d ws mid u p))
      go t us _ e = plainly (t ∷ us)

      cases : (us : List Lexeme) → Finds (FormulaIs d) us (formula_by inside (first_terminal us) us)
      cases [] = plainly []
      cases (t ∷ us) = go t us (terminal_of t) refl

module _ (d : ℕ) (inside : Inside) (h : FindIn (FindReaders (suc d)) inside) where
  finds-lone : (c : Conn) (t : Lexeme) (ts : List Lexeme) → lone_depth c (suc d) ≡ suc d → terminal_of t ≡ terminal.Conn c → Finds (GroupedIs d) (t ∷ ts) (lone c (t ∷ ts))
  unfolding lone place_of_first lexemes_behind
  finds-lone c t ts n e =
      finds-behind (GroupedIs d) t (suc d) ts _
      (finds-past (λ u ws rest. (u ≡ operator t.at c) × (ws ≡ rest)) (λ u ws rest. GroupedIs d u (word t (suc d) ∷ ws) rest) Close (suc d) ts (λ after. found (operator t.at c) after)
      (record { value = operator t.at c; words = []; read = λ after. (refl, refl) })
      (λ after. finds-none (λ u ws rest. (u ≡ operator t.at c) × (ws ≡ rest)) after (operator t.at c) (λ us. (refl, refl)))
      (λ u v ws rest q p w o. subst (λ y. IsPrimary d (w ∷ word t (suc d) ∷ v ∷ ws) y rest) (sym p.0) (subst (λ us. IsPrimary d (w ∷ word t (suc d) ∷ v ∷ us) (operator t.at c) rest) (sym p.1)
      (is.operator_primary d w (word t (suc d)) v rest c o (record { terminal = e; deep = sym n }) q))))

  finds-negated : (t : Lexeme) (ts : List Lexeme) → terminal_of t ≡ terminal.Conn Not → Finds (GroupedIs d) (t ∷ ts) (negated_at inside (t ∷ ts))
  unfolding first_terminal place_of_first lexemes_behind
  finds-negated t ts e = finds-entered (GroupedIs d) (FindReaders (suc d)) inside (t ∷ ts) (t ∷ ts) _ h (stopped-behind (GroupedIs d) t (suc (suc d)) ts alone) (λ r k room. cases r k room ts)
    where
      alone : Ending (λ u ws rest. GroupedIs d u (word t (suc (suc d)) ∷ ws) rest)
      alone = record {
        value = operator t.at Not;
        words = mark_word Close (suc d) ∷ [];
        read = λ after w o. is.operator_primary d w (word t (suc (suc d))) (mark_word Close (suc d)) after Not o (here t (terminal.Conn Not) (suc (suc d)) e) (mark-is Close (suc d));
      }

      negates : (r : Readers) → FindReaders (suc d) r → inside ≡ Some r → (us : List Lexeme) → Finds (GroupedIs d) (t ∷ us) (negated_operand inside t.at us)
      negates r k room us =
          subst (λ i. Finds (GroupedIs d) (t ∷ us) (enter i us (λ s. s.operand us >>= λ u mid. tail inside (negation t.at u) mid >>= λ v rest. closed v rest))) (sym room)
          (finds-behind (GroupedIs d) t (suc (suc d)) us _
          (finds-bind (OperandIs (suc (suc d))) (λ u. Closed (TailIs (suc d) inside h (negation t.at u)) Close (suc d)) (λ v ws rest. GroupedIs d v (word t (suc (suc d)) ∷ ws) rest) us (r.operand us) _ (k.operand us)
          (λ u. closed-ends (TailIs (suc d) inside h (negation t.at u)) Close (suc d) (tail-ends (suc d) inside h (negation t.at u)))
          (λ u mid. finds-closed (TailIs (suc d) inside h (negation t.at u)) Close (suc d) mid (tail inside (negation t.at u) mid) (finds-tail (suc d) inside h (negation t.at u) mid))
          (λ u v ws mid rest p q. group-closed d v (word t (suc (suc d)) ∷ ws) rest (record {
            closing = q.closing;
            read = q.read (word t (suc (suc d)) ∷ ws) (is.negation_unit (suc d) (word t (suc (suc d)) ∷ ws) mid (negation t.at u) (is.negated (suc d) (word t (suc (suc d))) ws mid u (here t (terminal.Conn Not) (suc (suc d)) e) p));
            closes = q.closes;
          }))))

      go : (r : Readers) → FindReaders (suc d) r → inside ≡ Some r → (s : Lexeme) (us : List Lexeme) (x : Terminal) → terminal_of s ≡ x → Finds (GroupedIs d) (t ∷ s ∷ us) (negated_by inside t.at x (s ∷ us))
      go r k room s us (terminal.Mark Close) f =
          finds-behind (GroupedIs d) t (suc (suc d)) (s ∷ us) (found (operator t.at Not) us)
          (finds-one (λ u ws rest. GroupedIs d u (word t (suc (suc d)) ∷ ws) rest) s (suc d) us (operator t.at Not)
          (λ after w o. is.operator_primary d w (word t (suc (suc d))) (word s (suc d)) after Not o (here t (terminal.Conn Not) (suc (suc d)) e) (here s (terminal.Mark Close) (suc d) f)))
      go r k room s us _ f = negates r k room (s ∷ us)

      cases : (r : Readers) → FindReaders (suc d) r → inside ≡ Some r → (us : List Lexeme) → Finds (GroupedIs d) (t ∷ us) (negated_by inside t.at (first_terminal us) us)
      cases r k room [] = negates r k room []
      cases r k room (s ∷ us) = go r k room s us (terminal_of s) refl

  finds-grouped : (ts : List Lexeme) → Finds (GroupedIs d) ts (grouped inside ts)
  unfolding grouped first_terminal
  finds-grouped ts = cases ts
    where
      plainly : (us : List Lexeme) → Finds (GroupedIs d) us (formula_reader inside us >>= λ t rest. closed t rest)
      plainly us = finds-as (Closed (FormulaIs (suc d)) Close (suc d)) (GroupedIs d) us _ (finds-closed (FormulaIs (suc d)) Close (suc d) us (formula_reader inside us) (finds-formula (suc d) inside h us)) (group-closed d)

      go : (t : Lexeme) (us : List Lexeme) (x : Terminal) → terminal_of t ≡ x → Finds (GroupedIs d) (t ∷ us) (grouped_by inside x (t ∷ us))
      go t us (terminal.Conn Not) e = finds-negated t us e
      go t us (terminal.Conn c) e = finds-lone c t us refl e
      go t us _ e = plainly (t ∷ us)

      cases : (us : List Lexeme) → Finds (GroupedIs d) us (grouped_by inside (first_terminal us) us)
      cases [] = plainly []
      cases (t ∷ us) = go t us (terminal_of t) refl

  finds-body : (b : Binder) (n : ℕ) (vs : List VarTree) (v : VarTree) (s : Lexeme) (ts : List Lexeme) → terminal_of s ≡ terminal.Mark CloseList → Finds (BehindIs d b n vs v) (s ∷ ts) (body inside b n (vs ++ v ∷ []) ts)
  unfolding body
  finds-body b n vs v s ts e =
      finds-behind (BehindIs d b n vs v) s (suc (suc d)) ts _
      (finds-past (λ u ws rest. (t : FormulaTree) × (u ≡ binding n b (vs ++ v ∷ []) t) × IsUnit (suc d) ws t rest) (λ u ws rest. BehindIs d b n vs v u (word s (suc (suc d)) ∷ ws) rest) Colon (suc d) ts _
      (ending-map (UnitIs (suc d)) (λ u ws rest. (t : FormulaTree) × (u ≡ binding n b (vs ++ v ∷ []) t) × IsUnit (suc d) ws t rest) (binding n b (vs ++ v ∷ [])) (unit-ends (suc d)) (λ t ws rest p. (t, refl, p)))
      (λ mid. finds-map (UnitIs (suc d)) (λ u ws rest. (t : FormulaTree) × (u ≡ binding n b (vs ++ v ∷ []) t) × IsUnit (suc d) ws t rest) (binding n b (vs ++ v ∷ [])) mid (unit inside mid) (finds-unit (suc d) inside h mid) (λ t ws rest p. (t, refl, p)))
      (λ u w ws rest q p front k. record {
        more = v ∷ [];
        open_behind = suc d;
        closing = word s (suc (suc d));
        colon = w;
        inside = ws;
        tree = p.0;
        vars = is.last_var d front (word s (suc (suc d)) ∷ w ∷ ws) v k;
        closes = here s (terminal.Mark CloseList) (suc (suc d)) e;
        colons = q;
        unit = p.2;
        whole = p.1;
      }))

  finds-comma : (b : Binder) (n : ℕ) (vs : List VarTree) (v : VarTree) (s : Lexeme) (ts : List Lexeme) (many : Bool) → binds_many b ≡ many → terminal_of s ≡ terminal.Mark Comma → Finds (BehindIs d b n vs v) (s ∷ ts) (if many then next_variable inside b n (vs ++ v ∷ []) ts else wrong (s ∷ ts))
  finds-comma b n vs v s ts false m e = stopped-here (BehindIs d b n vs v) (s ∷ ts) (behind-ends d b n vs v)
  finds-comma b n vs v s ts true m e =
      finds-token (BoundIs (suc d) b n (vs ++ v ∷ [])) (BehindIs d b n vs v) s (suc (suc d)) ts _ (finds-next_variable (suc d) inside h b n (vs ++ v ∷ []) ts)
      (λ u ws rest p front k. record {
        more = v ∷ p.more;
        open_behind = p.open_behind;
        closing = p.closing;
        colon = p.colon;
        inside = p.inside;
        tree = p.tree;
        vars = is.more_vars d p.open_behind front ws (p.closing ∷ p.colon ∷ p.inside) (word s (suc (suc d))) v p.more k m (here s (terminal.Mark Comma) (suc (suc d)) e) p.vars;
        closes = p.closes;
        colons = p.colons;
        unit = p.unit;
        whole = p.whole ∙ ap (λ us. binding n b us p.tree) (append_assoc vs (v ∷ []) p.more);
      })

  finds-behind_variable : (b : Binder) (n : ℕ) (vs : List VarTree) (v : VarTree) (ts : List Lexeme) → Finds (BehindIs d b n vs v) ts (behind_variable inside b n (vs ++ v ∷ []) ts)
  unfolding behind_variable first_terminal lexemes_behind
  finds-behind_variable b n vs v [] = stopped-here (BehindIs d b n vs v) [] (behind-ends d b n vs v)
  finds-behind_variable b n vs v (s ∷ ts) = go (terminal_of s) refl
    where
      go : (x : Terminal) → terminal_of s ≡ x → Finds (BehindIs d b n vs v) (s ∷ ts) (bound_by inside b n (vs ++ v ∷ []) x (s ∷ ts))
      go (terminal.Mark Comma) e = finds-comma b n vs v s ts (binds_many b) refl e
      go (terminal.Mark CloseList) e = finds-body b n vs v s ts e
      go _ e = stopped-here (BehindIs d b n vs v) (s ∷ ts) (behind-ends d b n vs v)

  finds-bound : (b : Binder) (n : ℕ) (vs : List VarTree) (t : Lexeme) (ts : List Lexeme) → terminal_of t ≡ terminal.Upper → Finds (BoundIs d b n vs) (t ∷ ts) (bound inside b n vs (t ∷ ts))
  unfolding bound lexemes_behind
  finds-bound b n vs t ts e =
      finds-enter (BoundIs d b n vs) (FindReaders (suc d)) inside (t ∷ ts) (t ∷ ts) _ h
      (variable-stops d b n vs t ts e)
      (λ r k. finds-bind (VarIs (suc (suc d))) (BehindIs d b n vs) (BoundIs d b n vs) (t ∷ ts) (variable_at r.type (t ∷ ts)) _ (finds-variable (suc (suc d)) r.type k.type t ts e) (behind-ends d b n vs) (λ v mid. finds-behind_variable b n vs v mid) (λ v u ws mid rest p q. q ws p))

  pub finds-readers : (type : Reader TypeTree) → ((ts : List Lexeme) → Finds (TypeIs (suc d)) ts (type ts)) → FindReaders d (readers type inside)
  finds-readers type k = record {
    type = k;
    unit = finds-unit (suc d) inside h;
    operand = finds-operand (suc d) inside h;
    grouped = finds-grouped;
    links = finds-links (suc d) inside h;
    arguments = finds-arguments (suc d) inside h;
    bound = finds-bound;
  }

pub finds-inner : (d room : ℕ) → FindIn (FindReaders d) (inner room)
unfolding inner
finds-inner d zero = tt
finds-inner d (suc room) = finds-readers d (inner room) (finds-inner (suc d) room) (type_with (inner_type room)) (finds-type_with (suc d) (inner_type room) (finds-inner_type (suc d) room))
