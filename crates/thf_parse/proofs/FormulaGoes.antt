-- A formula is found, or a token of it is too deep.
use Rattle.std.proofs.Common.{◌≡◌, ℕ, zero, suc, ◌+◌, ◌≤◌, List, [], ◌∷◌, ◌++◌, Bool, true, false, if◌then◌else◌, Some, None, refl, sym, ap, subst, ◌∙◌, append_assoc, arith}
use Rattle.thf_grammar.specs.Trees.{TypeTree, indiv, VarTree, FormulaTree, operator, negation, binary, equation, application, quantified, binding}
use Rattle.thf_grammar.specs.declared.connective.Conn.{Conn}
use Rattle.thf_grammar.specs.declared.connective.Conn.TheVariants.{Not, And, Or, Imp, If, Iff, Xor, Nor, Nand}
use Rattle.thf_grammar.specs.declared.connective.Binder.{Binder}
use Rattle.thf_grammar.specs.declared.terminal.Mark.TheVariants.{Open, Close, CloseList, Comma, Colon, Arrow, At}
use Rattle.thf_grammar.specs.declared.terminal.Terminal.{Terminal}
use Rattle.thf_grammar.specs.declared.terminal.Terminal.TheVariants as terminal
use Rattle.thf_grammar.specs.Words.{Lexeme, Word, plain, name_of, Is, lower, quoted}
use Rattle.thf_grammar.specs.Types.{IsVar, plain_var, typed_var}
use Rattle.thf_grammar.specs.Formulas as is
use Rattle.thf_grammar.specs.Formulas.{binds_many, is_chained, is_nonassoc, lone_depth, AreVars, IsFormulaText, AreLinks, AreArguments, IsUnit, IsOperand, IsNegation, IsUnitary, IsPrimary, IsBinder}
use Rattle.thf_parse.specs.Internal.Outcome.{found, wrong, Reader, ◌>>=◌, first_terminal, place_of_first, first_name, lexemes_behind, enter}
use Rattle.thf_grammar.specs.Internal.Marks.{is_mark}
use Rattle.thf_parse.specs.Internal.Reader.{type_with, inner_type}
use Rattle.thf_parse.specs.Internal.FormulaReader.{Readers, Inside, var, typed_by, variable_at, negation_at, primary_by, primary, next_variable_by, next_variable, bracket_by, binder_at, unitary_by, unitary, operand_by, operand, right_side, equated_by, unit_by, unit, next_link, is_link, links, arguments_by, arguments_behind, quantified_reader, quantified_at, second, tail_by, tail, applied_by, applied_behind, behind_primary_by, behind_primary, formula_by, formula_reader, closed, lone, negated_operand, negated_by, negated_at, grouped_by, grouped, body, bound_by, behind_variable, bound, readers, inner}
use Rattle.thf_parse.proofs.Goes.{Goes, GoIn, goes-bind, goes-token, goes-found, goes-enter, goes-into}
use Rattle.thf_parse.proofs.MarkLaws.{goes-closed, goes-past}
use Rattle.thf_parse.proofs.TypeLaws.{NoArrow, GoesTypes, goes-type_with, goes-inner_type}

abbrev pub first_of : List Word → Terminal
first_of ws = first_terminal (plain ws)

abbrev is_equality : Terminal → Bool
is_equality (terminal.Equality b) = true
is_equality _ = false

-- what may follow a formula
abbrev pub ends_formula : Terminal → Bool
ends_formula (terminal.Mark Close) = true
ends_formula (terminal.Mark Comma) = true
ends_formula _ = false

abbrev NoEquality : List Word → Type 0
NoEquality rest = is_equality (first_of rest) ≡ false

abbrev NoAt : List Word → Type 0
NoAt rest = is_mark At (first_of rest) ≡ false

abbrev pub Ends : List Word → Type 0
Ends rest = ends_formula (first_of rest) ≡ true

end-no_equality : (x : Terminal) → ends_formula x ≡ true → is_equality x ≡ false
end-no_equality (terminal.Equality b) e = cc
end-no_equality _ e = refl

end-no_at : (x : Terminal) → ends_formula x ≡ true → is_mark At x ≡ false
end-no_at (terminal.Mark Close) e = refl
end-no_at (terminal.Mark Comma) e = refl
end-no_at _ e = cc

end-tail : (inside : Inside) (t : FormulaTree) (x : Terminal) (ts : List Lexeme) → ends_formula x ≡ true → tail_by inside t x ts ≡ found t ts
end-tail inside t (terminal.Mark Close) ts e = refl
end-tail inside t (terminal.Mark Comma) ts e = refl
end-tail inside t _ ts e = cc

end-link : (c : Conn) (x : Terminal) → ends_formula x ≡ true → is_link c x ≡ false
end-link And (terminal.Mark Close) e = refl
end-link And (terminal.Mark Comma) e = refl
end-link Or (terminal.Mark Close) e = refl
end-link Or (terminal.Mark Comma) e = refl
end-link Not (terminal.Mark Close) e = refl
end-link Not (terminal.Mark Comma) e = refl
end-link Imp (terminal.Mark Close) e = refl
end-link Imp (terminal.Mark Comma) e = refl
end-link If (terminal.Mark Close) e = refl
end-link If (terminal.Mark Comma) e = refl
end-link Iff (terminal.Mark Close) e = refl
end-link Iff (terminal.Mark Comma) e = refl
end-link Xor (terminal.Mark Close) e = refl
end-link Xor (terminal.Mark Comma) e = refl
end-link Nor (terminal.Mark Close) e = refl
end-link Nor (terminal.Mark Comma) e = refl
end-link Nand (terminal.Mark Close) e = refl
end-link Nand (terminal.Mark Comma) e = refl
end-link _ _ e = cc

end-arguments : (inside : Inside) (t : FormulaTree) (x : Terminal) (ts : List Lexeme) → is_mark At x ≡ false → arguments_by inside t x ts ≡ found t ts
end-arguments inside t (terminal.Mark At) ts e = cc
end-arguments inside t _ ts e = refl

no_at-applied : (inside : Inside) (t : FormulaTree) (x : Terminal) (ts : List Lexeme) → is_mark At x ≡ false → applied_by inside t x ts ≡ tail inside t ts
no_at-applied inside t (terminal.Mark At) ts e = cc
no_at-applied inside t _ ts e = refl

no_equality-equated : (inside : Inside) (t : FormulaTree) (x : Terminal) (ts : List Lexeme) → is_equality x ≡ false → equated_by inside t x ts ≡ found t ts
no_equality-equated inside t (terminal.Equality b) ts e = cc
no_equality-equated inside t _ ts e = refl

no_equality-behind : (inside : Inside) (t : FormulaTree) (x : Terminal) (ts : List Lexeme) → is_equality x ≡ false → behind_primary_by inside t x ts ≡ applied_behind inside t ts
no_equality-behind inside t (terminal.Equality b) ts e = cc
no_equality-behind inside t _ ts e = refl

-- a token that a primary formula begins with
abbrev begins_primary : Terminal → Bool
begins_primary terminal.Lower = true
begins_primary terminal.Quoted = true
begins_primary terminal.Upper = true
begins_primary (terminal.Truth v) = true
begins_primary (terminal.Mark Open) = true
begins_primary _ = false

module _ (inside : Inside) (ts : List Lexeme) where
  primary-unitary : (x : Terminal) → begins_primary x ≡ true → unitary_by inside x ts ≡ primary inside ts
  primary-unitary (terminal.Binder b) e = cc
  primary-unitary _ e = refl

  primary-operand : (x : Terminal) → begins_primary x ≡ true → operand_by inside x ts ≡ unitary inside ts
  primary-operand (terminal.Conn Not) e = cc
  primary-operand _ e = refl

  primary-unit : (x : Terminal) → begins_primary x ≡ true → unit_by inside x ts ≡ (primary inside ts >>= λ t rest. equated_by inside t (first_terminal rest) rest)
  primary-unit (terminal.Conn Not) e = cc
  primary-unit (terminal.Binder b) e = cc
  primary-unit _ e = refl

  primary-formula : (x : Terminal) → begins_primary x ≡ true → formula_by inside x ts ≡ (primary inside ts >>= λ t rest. behind_primary inside t rest)
  primary-formula (terminal.Conn Not) e = cc
  primary-formula (terminal.Quant all) e = cc
  primary-formula (terminal.Binder b) e = cc
  primary-formula _ e = refl

  primary-grouped : (x : Terminal) → begins_primary x ≡ true → grouped_by inside x ts ≡ (formula_reader inside ts >>= λ t rest. closed t rest)
  primary-grouped (terminal.Conn Not) e = cc
  primary-grouped (terminal.Conn And) e = cc
  primary-grouped (terminal.Conn Or) e = cc
  primary-grouped (terminal.Conn Imp) e = cc
  primary-grouped (terminal.Conn If) e = cc
  primary-grouped (terminal.Conn Iff) e = cc
  primary-grouped (terminal.Conn Xor) e = cc
  primary-grouped (terminal.Conn Nor) e = cc
  primary-grouped (terminal.Conn Nand) e = cc
  primary-grouped _ e = refl

primary-begins : (d : ℕ) (ws rest : List Word) (t : FormulaTree) → IsPrimary d ws t rest → begins_primary (first_of ws) ≡ true
unfolding first_terminal
primary-begins d ws rest t (is.constant_primary _ w _ (lower h)) = ap begins_primary h.terminal
primary-begins d ws rest t (is.constant_primary _ w _ (quoted h)) = ap begins_primary h.terminal
primary-begins d ws rest t (is.variable_primary _ w _ h) = ap begins_primary h.terminal
primary-begins d ws rest t (is.truth_primary _ w _ v h) = ap begins_primary h.terminal
primary-begins d ws rest t (is.group_primary _ w v ins _ _ h g c) = ap begins_primary h.terminal
primary-begins d ws rest t (is.operator_primary _ w o v _ c h g k) = ap begins_primary h.terminal

-- the first token of the variables of a binder
record FirstVar (d : ℕ) (ws : List Word) : Type 0 where
  token : Word
  back : List Word
  whole : ws ≡ token ∷ back
  is : Is terminal.Upper (suc (suc d)) token

var-first : (d : ℕ) (ws rest : List Word) (v : VarTree) → IsVar (suc (suc d)) ws v rest → FirstVar d ws
var-first d ws rest v (plain_var _ w _ k) = record { token = w; back = rest; whole = refl; is = k }
var-first d ws rest v (typed_var _ w s ins _ t k m i) = record { token = w; back = s ∷ ins; whole = refl; is = k }

vars-first : (b : Binder) (d e : ℕ) (ws rest : List Word) (vs : List VarTree) → AreVars b d ws vs e rest → FirstVar d ws
vars-first b d e ws rest vs (is.last_var _ _ _ v k) = var-first d ws rest v k
vars-first b d e ws rest vs (is.more_vars _ _ _ mid _ w v us k many c more) = var-first d ws (w ∷ mid) v k

negation-begins : (d : ℕ) (ws rest : List Word) (t : FormulaTree) → IsNegation d ws t rest → first_of ws ≡ terminal.Conn Not
unfolding first_terminal
negation-begins d ws rest t (is.negated _ w _ _ _ k p) = k.terminal

binder-begins : (d : ℕ) (ws rest : List Word) (t : FormulaTree) → IsBinder d ws t rest → (b : Binder) × (first_of ws ≡ terminal.Binder b)
unfolding first_terminal
binder-begins d ws rest t (is.bound _ e w o c k ws' body _ b vs u h _ _ _ _ _) = (b, h.terminal)

unitary-operand : (d : ℕ) (ws rest : List Word) (t : FormulaTree) (inside : Inside) → IsUnitary d ws t rest → operand_by inside (first_of ws) (plain ws) ≡ unitary inside (plain ws)
unitary-operand d ws rest t inside (is.primary_unitary _ _ _ _ p) = primary-operand inside (plain ws) (first_of ws) (primary-begins d ws rest t p)
unitary-operand d ws rest t inside (is.binder_unitary _ _ _ _ p) = ap (λ x. operand_by inside x (plain ws)) (binder-begins d ws rest t p).1

chained-link : (c : Conn) → is_chained c ≡ true → is_link c (terminal.Conn c) ≡ true
chained-link And e = refl
chained-link Or e = refl
chained-link _ e = cc

chained-tail : (inside : Inside) (t : FormulaTree) (c : Conn) (ts : List Lexeme) → is_chained c ≡ true → tail_by inside t (terminal.Conn c) ts ≡ links inside c t ts
chained-tail inside t And ts e = refl
chained-tail inside t Or ts e = refl
chained-tail inside t _ ts e = cc

nonassoc-tail : (inside : Inside) (t : FormulaTree) (c : Conn) (ts : List Lexeme) → is_nonassoc c ≡ true → tail_by inside t (terminal.Conn c) ts ≡ second inside c t ts
nonassoc-tail inside t Not ts e = cc
nonassoc-tail inside t And ts e = cc
nonassoc-tail inside t Or ts e = cc
nonassoc-tail inside t _ ts e = refl

links-stop : (c : Conn) (d : ℕ) (t u : FormulaTree) (ws rest : List Word) → AreLinks c d t ws u rest → Ends rest → NoEquality ws
unfolding first_terminal
links-stop c d t u ws rest (is.no_links _ _ _ _) end = end-no_equality (first_of rest) end
links-stop c d t u ws rest (is.more_links _ _ _ _ _ w _ _ _ k _ _) end = ap is_equality k.terminal

arguments-stop : (d : ℕ) (t u : FormulaTree) (ws rest : List Word) → AreArguments d t ws u rest → Ends rest → NoEquality ws
unfolding first_terminal
arguments-stop d t u ws rest (is.no_arguments _ _ _) end = end-no_equality (first_of rest) end
arguments-stop d t u ws rest (is.more_arguments _ _ _ _ w _ _ _ k _ _) end = ap is_equality k.terminal

-- the further operands of a chain, one at least
record Linked (c : Conn) (d : ℕ) (t : FormulaTree) (ws : List Word) (u : FormulaTree) (rest : List Word) : Type 0 where
  token : Word
  right : List Word
  whole : ws ≡ token ∷ right
  is : Is (terminal.Conn c) (suc d) token
  links : AreLinks c d t ws u rest

-- the rest of a formula behind its first unit
data Follows : ℕ → FormulaTree → List Word → FormulaTree → List Word → Type 0 where
  ends : (d : ℕ) (t : FormulaTree) (rest : List Word) → Follows d t rest t rest
  pairs : (d : ℕ) (t u : FormulaTree) (w : Word) (right rest : List Word) (c : Conn) → Is (terminal.Conn c) d w → is_nonassoc c ≡ true → IsUnit d right u rest → Follows d t (w ∷ right) (binary w.lexeme.at c t u) rest
  chains : (d : ℕ) (t u : FormulaTree) (c : Conn) {ws rest : List Word} → is_chained c ≡ true → Linked c d t ws u rest → Follows d t ws u rest

follows-stop : (d : ℕ) (t u : FormulaTree) (ws rest : List Word) → Follows d t ws u rest → Ends rest → NoEquality ws × NoAt ws
unfolding first_terminal
follows-stop d t u ws rest (ends _ _ _) end = (end-no_equality (first_of rest) end, end-no_at (first_of rest) end)
follows-stop d t u ws rest (pairs _ _ _ w _ _ c k _ _) end = (ap is_equality k.terminal, ap (is_mark At) k.terminal)
follows-stop d t u ws rest (chains _ _ _ c _ l) end = (ap (λ us. is_equality (first_of us)) l.whole ∙ ap is_equality l.is.terminal, ap (λ us. is_mark At (first_of us)) l.whole ∙ ap (is_mark At) l.is.terminal)

module _ (limit : ℕ) where
  -- what the readers of one level deeper find, where d things are open before it
  pub record GoReaders (d : ℕ) (r : Readers) : Type 0 where
    pub type : GoesTypes limit (suc d) r.type
    pub unit : (ws rest : List Word) (t : FormulaTree) → IsUnit (suc d) ws t rest → NoEquality rest → Goes limit ws rest t (r.unit (plain ws))
    pub operand : (ws rest : List Word) (t : FormulaTree) → IsOperand (suc d) ws t rest → NoEquality rest → Goes limit ws rest t (r.operand (plain ws))
    pub grouped : (ws rest : List Word) (v : Word) (t : FormulaTree) → IsFormulaText (suc d) ws t (v ∷ rest) → Is (terminal.Mark Close) (suc d) v → Goes limit ws rest t (r.grouped (plain ws))
    pub alone : (o v : Word) (rest : List Word) (c : Conn) → Is (terminal.Conn c) (lone_depth c (suc d)) o → Is (terminal.Mark Close) (suc d) v → Goes limit (o ∷ v ∷ rest) rest (operator o.lexeme.at c) (r.grouped (plain (o ∷ v ∷ rest)))
    pub links : (c : Conn) (t u : FormulaTree) (ws rest : List Word) → is_chained c ≡ true → AreLinks c (suc d) t ws u rest → Ends rest → Goes limit ws rest u (r.links c t (plain ws))
    pub arguments : (t u : FormulaTree) (ws rest : List Word) → AreArguments (suc d) t ws u rest → Ends rest → Goes limit ws rest u (r.arguments t (plain ws))
    pub bound : (b : Binder) (n : ℕ) (vs more : List VarTree) (e : ℕ) (ws body rest : List Word) (closing colon : Word) (t : FormulaTree) → AreVars b d ws more e (closing ∷ colon ∷ body) → Is (terminal.Mark CloseList) (suc e) closing → Is (terminal.Mark Colon) e colon → IsUnit e body t rest → NoEquality rest → Goes limit ws rest (binding n b (vs ++ more) t) (r.bound b n vs (plain ws))

  goes-variable : (d : ℕ) (type : Reader TypeTree) → d ≤ limit → GoesTypes limit d type → (ws rest : List Word) (v : VarTree) → IsVar d ws v rest → NoArrow rest → is_mark Colon (first_of rest) ≡ false → Goes limit ws rest v (variable_at type (plain ws))
  unfolding variable_at first_terminal place_of_first first_name lexemes_behind
  goes-variable d type within h ws rest v (plain_var _ w _ k) stop end =
      subst (λ o. Goes limit (w ∷ rest) rest v o) (sym (untyped (first_of rest) end))
      (goes-token limit w rest rest v (found v (plain rest)) (let q = k.deep in omega arith) (goes-found limit rest v))
    where
      untyped : (x : Terminal) → is_mark Colon x ≡ false → typed_by type w.lexeme.at (name_of w.lexeme) x (plain rest) ≡ found (var w.lexeme.at (name_of w.lexeme) (indiv w.lexeme.at)) (plain rest)
      untyped (terminal.Mark Colon) e = cc
      untyped _ e = refl
  goes-variable d type within h ws rest v (typed_var _ w s ins _ t k m inner) stop end =
      subst (λ x. Goes limit (w ∷ s ∷ ins) rest v (typed_by type w.lexeme.at (name_of w.lexeme) x (plain (s ∷ ins)))) (sym m.terminal)
      (goes-token limit w (s ∷ ins) rest v _ (let q = k.deep in omega arith)
      (goes-token limit s ins rest v _ (let q = m.deep in omega arith)
      (goes-bind limit ins rest rest t v (type (plain ins)) _ (h ins rest t inner stop) (goes-found limit rest v))))

  module _ (d : ℕ) (within : d ≤ limit) (inside : Inside) (h : GoIn limit (GoReaders d) d inside) where
    one : (w : Word) (rest : List Word) (x : Terminal) (t : FormulaTree) → Is x d w → primary_by inside x (plain (w ∷ rest)) ≡ found t (plain rest) → Goes limit (w ∷ rest) rest t (primary inside (plain (w ∷ rest)))
    unfolding primary first_terminal
    one w rest x t k e =
        subst (λ o. Goes limit (w ∷ rest) rest t o) (sym (ap (λ y. primary_by inside y (plain (w ∷ rest))) k.terminal ∙ e))
        (goes-token limit w rest rest t (found t (plain rest)) (let q = k.deep in omega arith) (goes-found limit rest t))

    goes-primary : (ws rest : List Word) (t : FormulaTree) → IsPrimary d ws t rest → Goes limit ws rest t (primary inside (plain ws))
    unfolding primary first_terminal place_of_first first_name lexemes_behind
    goes-primary ws rest t (is.constant_primary _ w _ (lower k)) = one w rest terminal.Lower t k refl
    goes-primary ws rest t (is.constant_primary _ w _ (quoted k)) = one w rest terminal.Quoted t k refl
    goes-primary ws rest t (is.variable_primary _ w _ k) = one w rest terminal.Upper t k refl
    goes-primary ws rest t (is.truth_primary _ w _ v k) = one w rest (terminal.Truth v) t k refl
    goes-primary ws rest t (is.group_primary _ w v ins _ _ k g c) =
        subst (λ y. Goes limit (w ∷ ins) rest t (primary_by inside y (plain (w ∷ ins)))) (sym k.terminal)
        (goes-enter limit (GoReaders d) d inside w ins rest t _ h k.deep (λ r m deeper. m.grouped ins rest v t g c))
    goes-primary ws rest t (is.operator_primary _ w o v _ c k g m) =
        subst (λ y. Goes limit (w ∷ o ∷ v ∷ rest) rest t (primary_by inside y (plain (w ∷ o ∷ v ∷ rest)))) (sym k.terminal)
        (goes-enter limit (GoReaders d) d inside w (o ∷ v ∷ rest) rest t _ h k.deep (λ r n deeper. n.alone o v rest c g m))

    goes-next_variable : (b : Binder) (n : ℕ) (vs more : List VarTree) (e : ℕ) (ws body rest : List Word) (closing colon : Word) (t : FormulaTree) → AreVars b d ws more e (closing ∷ colon ∷ body) → Is (terminal.Mark CloseList) (suc e) closing → Is (terminal.Mark Colon) e colon → IsUnit e body t rest → NoEquality rest → Goes limit ws rest (binding n b (vs ++ more) t) (next_variable inside b n vs (plain ws))
    unfolding next_variable first_terminal
    goes-next_variable b n vs more e ws body rest closing colon t vars c k u stop = go (vars-first b d e ws (closing ∷ colon ∷ body) more vars)
      where
        go : FirstVar d ws → Goes limit ws rest (binding n b (vs ++ more) t) (next_variable_by inside b n vs (first_of ws) (plain ws))
        go first =
            subst (λ us. Goes limit us rest (binding n b (vs ++ more) t) (next_variable_by inside b n vs (first_of us) (plain us))) (sym first.whole)
            (subst (λ x. Goes limit (first.token ∷ first.back) rest (binding n b (vs ++ more) t) (next_variable_by inside b n vs x (plain (first.token ∷ first.back)))) (sym first.is.terminal)
            (goes-into limit (GoReaders d) d inside first.token first.back rest (binding n b (vs ++ more) t) _ h (let q = first.is.deep in omega arith)
            (λ r m deeper. subst (λ us. Goes limit us rest (binding n b (vs ++ more) t) (r.bound b n vs (plain us))) first.whole (m.bound b n vs more e ws body rest closing colon t vars c k u stop))))

    -- the formula of a binder begins with the binder
    pub record GoesBinder (ws rest : List Word) (t : FormulaTree) : Type 0 where
      pub binder : Binder
      pub begins : first_of ws ≡ terminal.Binder binder
      pub goes : Goes limit ws rest t (binder_at inside binder (plain ws))

    goes-binder : (ws rest : List Word) (t : FormulaTree) → IsBinder d ws t rest → NoEquality rest → GoesBinder ws rest t
    unfolding binder_at first_terminal place_of_first lexemes_behind
    goes-binder _ rest _ (is.bound _ e w opening closing colon ws body _ b vs t k o vars c m u) stop = record {
      binder = b;
      begins = k.terminal;
      goes =
          goes-token limit w (opening ∷ ws) rest (binding w.lexeme.at b vs t) _ (let q = k.deep in omega arith)
          (subst (λ x. Goes limit (opening ∷ ws) rest (binding w.lexeme.at b vs t) (bracket_by inside b w.lexeme.at x (plain (opening ∷ ws)))) (sym o.terminal)
          (goes-enter limit (GoReaders d) d inside opening ws rest (binding w.lexeme.at b vs t) _ h o.deep
          (λ r n deeper. goes-next_variable b w.lexeme.at [] vs e ws body rest closing colon t vars c m u stop)));
    }

    goes-unitary : (ws rest : List Word) (t : FormulaTree) → IsUnitary d ws t rest → NoEquality rest → Goes limit ws rest t (unitary inside (plain ws))
    unfolding unitary
    goes-unitary ws rest t (is.primary_unitary _ _ _ _ p) stop = subst (λ o. Goes limit ws rest t o) (sym (primary-unitary inside (plain ws) (first_of ws) (primary-begins d ws rest t p))) (goes-primary ws rest t p)
    goes-unitary ws rest t (is.binder_unitary _ _ _ _ p) stop =
        let g = goes-binder ws rest t p stop in
        subst (λ x. Goes limit ws rest t (unitary_by inside x (plain ws))) (sym g.begins) g.goes

    goes-negation : (ws rest : List Word) (t : FormulaTree) → IsNegation d ws t rest → NoEquality rest → Goes limit ws rest t (negation_at inside (plain ws))
    unfolding place_of_first lexemes_behind
    goes-negation _ rest _ (is.negated _ w ins _ t k p) stop =
        goes-enter limit (GoReaders d) d inside w ins rest (negation w.lexeme.at t) _ h k.deep
        (λ r m deeper. goes-bind limit ins rest rest t (negation w.lexeme.at t) (r.operand (plain ins)) _ (m.operand ins rest t p stop) (goes-found limit rest (negation w.lexeme.at t)))

    goes-operand : (ws rest : List Word) (t : FormulaTree) → IsOperand d ws t rest → NoEquality rest → Goes limit ws rest t (operand inside (plain ws))
    unfolding operand
    goes-operand ws rest t (is.unitary_operand _ _ _ _ p) stop = subst (λ o. Goes limit ws rest t o) (sym (unitary-operand d ws rest t inside p)) (goes-unitary ws rest t p stop)
    goes-operand ws rest t (is.negation_operand _ _ _ _ p) stop = subst (λ x. Goes limit ws rest t (operand_by inside x (plain ws))) (sym (negation-begins d ws rest t p)) (goes-negation ws rest t p stop)

    goes-right_side : (w : Word) (right rest : List Word) (b : Bool) (t u : FormulaTree) → Is (terminal.Equality b) d w → IsUnitary d right u rest → NoEquality rest → Goes limit (w ∷ right) rest (equation w.lexeme.at b t u) (right_side inside b t (plain (w ∷ right)))
    unfolding right_side place_of_first lexemes_behind
    goes-right_side w right rest b t u k p stop =
        goes-token limit w right rest (equation w.lexeme.at b t u) _ (let q = k.deep in omega arith)
        (goes-bind limit right rest rest u (equation w.lexeme.at b t u) (unitary inside (plain right)) _ (goes-unitary right rest u p stop) (goes-found limit rest (equation w.lexeme.at b t u)))

    goes-unit : (ws rest : List Word) (t : FormulaTree) → IsUnit d ws t rest → NoEquality rest → Goes limit ws rest t (unit inside (plain ws))
    unfolding unit first_terminal
    goes-unit ws rest t (is.unitary_unit _ _ _ _ (is.primary_unitary _ _ _ _ p)) stop =
        subst (λ o. Goes limit ws rest t o) (sym (primary-unit inside (plain ws) (first_of ws) (primary-begins d ws rest t p)))
        (goes-bind limit ws rest rest t t (primary inside (plain ws)) _ (goes-primary ws rest t p)
        (subst (λ o. Goes limit rest rest t o) (sym (no_equality-equated inside t (first_of rest) (plain rest) stop)) (goes-found limit rest t)))
    goes-unit ws rest t (is.unitary_unit _ _ _ _ (is.binder_unitary _ _ _ _ p)) stop =
        let g = goes-binder ws rest t p stop in
        subst (λ x. Goes limit ws rest t (unit_by inside x (plain ws))) (sym g.begins) g.goes
    goes-unit ws rest t (is.negation_unit _ _ _ _ p) stop = subst (λ x. Goes limit ws rest t (unit_by inside x (plain ws))) (sym (negation-begins d ws rest t p)) (goes-negation ws rest t p stop)
    goes-unit ws rest _ (is.equation_unit _ _ right _ w b t u p k q) stop =
        subst (λ o. Goes limit ws rest (equation w.lexeme.at b t u) o) (sym (primary-unit inside (plain ws) (first_of ws) (primary-begins d ws (w ∷ right) t p)))
        (goes-bind limit ws (w ∷ right) rest t (equation w.lexeme.at b t u) (primary inside (plain ws)) _ (goes-primary ws (w ∷ right) t p)
        (subst (λ x. Goes limit (w ∷ right) rest (equation w.lexeme.at b t u) (equated_by inside t x (plain (w ∷ right)))) (sym k.terminal) (goes-right_side w right rest b t u k q stop)))

    goes-links : (c : Conn) (t u : FormulaTree) (ws rest : List Word) → is_chained c ≡ true → AreLinks c d t ws u rest → Ends rest → Goes limit ws rest u (links inside c t (plain ws))
    unfolding links first_terminal place_of_first lexemes_behind
    goes-links c t u ws rest e (is.no_links _ _ _ _) end =
        subst (λ b. Goes limit rest rest t (if b then next_link inside c t (plain rest) else found t (plain rest))) (sym (end-link c (first_of rest) end)) (goes-found limit rest t)
    goes-links c t u ws rest e (is.more_links _ _ _ v _ w right mid _ k p m) end =
        subst (λ b. Goes limit (w ∷ right) rest u (if b then next_link inside c t (plain (w ∷ right)) else found t (plain (w ∷ right)))) (sym (ap (is_link c) k.terminal ∙ chained-link c e))
        (goes-enter limit (GoReaders d) d inside w right rest u _ h k.deep
        (λ r n deeper. goes-bind limit right mid rest v u (r.unit (plain right)) _ (n.unit right mid v p (links-stop c (suc d) (binary w.lexeme.at c t v) u mid rest m end)) (n.links c (binary w.lexeme.at c t v) u mid rest e m end)))

    goes-arguments : (t u : FormulaTree) (ws rest : List Word) → AreArguments d t ws u rest → Ends rest → Goes limit ws rest u (arguments_behind inside t (plain ws))
    unfolding arguments_behind first_terminal place_of_first lexemes_behind
    goes-arguments t u ws rest (is.no_arguments _ _ _) end = subst (λ o. Goes limit rest rest t o) (sym (end-arguments inside t (first_of rest) (plain rest) (end-no_at (first_of rest) end))) (goes-found limit rest t)
    goes-arguments t u ws rest (is.more_arguments _ _ v _ w right mid _ k p m) end =
        subst (λ x. Goes limit (w ∷ right) rest u (arguments_by inside t x (plain (w ∷ right)))) (sym k.terminal)
        (goes-enter limit (GoReaders d) d inside w right rest u _ h k.deep
        (λ r n deeper. goes-bind limit right mid rest v u (r.operand (plain right)) _ (n.operand right mid v p (arguments-stop (suc d) (application w.lexeme.at t v) u mid rest m end)) (n.arguments (application w.lexeme.at t v) u mid rest m end)))

    goes-quantified : (w : Word) (right mid rest : List Word) (all : Bool) (u v : FormulaTree) → Is (terminal.Mark At) (suc d) w → IsOperand (suc d) right u mid → AreArguments (suc d) (quantified w.lexeme.at all u) mid v rest → Ends rest → Goes limit (w ∷ right) rest v (quantified_at inside all (plain (w ∷ right)))
    unfolding quantified_at first_terminal place_of_first lexemes_behind
    goes-quantified w right mid rest all u v k p m end =
        subst (λ x. Goes limit (w ∷ right) rest v (quantified_reader inside all x (plain (w ∷ right)))) (sym k.terminal)
        (goes-enter limit (GoReaders d) d inside w right rest v _ h k.deep
        (λ r n deeper. goes-bind limit right mid rest u v (r.operand (plain right)) _ (n.operand right mid u p (arguments-stop (suc d) (quantified w.lexeme.at all u) v mid rest m end)) (n.arguments (quantified w.lexeme.at all u) v mid rest m end)))

    goes-second : (c : Conn) (t u : FormulaTree) (w : Word) (right rest : List Word) → Is (terminal.Conn c) d w → IsUnit d right u rest → NoEquality rest → Goes limit (w ∷ right) rest (binary w.lexeme.at c t u) (second inside c t (plain (w ∷ right)))
    unfolding second place_of_first lexemes_behind
    goes-second c t u w right rest k p stop =
        goes-token limit w right rest (binary w.lexeme.at c t u) _ (let q = k.deep in omega arith)
        (goes-bind limit right rest rest u (binary w.lexeme.at c t u) (unit inside (plain right)) _ (goes-unit right rest u p stop) (goes-found limit rest (binary w.lexeme.at c t u)))

    goes-tail : (t u : FormulaTree) (ws rest : List Word) → Follows d t ws u rest → Ends rest → Goes limit ws rest u (tail inside t (plain ws))
    unfolding tail first_terminal
    goes-tail t u ws rest (ends _ _ _) end = subst (λ o. Goes limit rest rest t o) (sym (end-tail inside t (first_of rest) (plain rest) end)) (goes-found limit rest t)
    goes-tail t u ws rest (pairs _ _ v w right _ c k e p) end =
        subst (λ x. Goes limit (w ∷ right) rest u (tail_by inside t x (plain (w ∷ right)))) (sym k.terminal)
        (subst (λ o. Goes limit (w ∷ right) rest u o) (sym (nonassoc-tail inside t c (plain (w ∷ right)) e)) (goes-second c t v w right rest k p (end-no_equality (first_of rest) end)))
    goes-tail t u ws rest (chains _ _ _ c e l) end = goes-chain c t u ws rest e l end
      where
        goes-chain : (c : Conn) (t u : FormulaTree) (ws rest : List Word) → is_chained c ≡ true → Linked c d t ws u rest → Ends rest → Goes limit ws rest u (tail_by inside t (first_of ws) (plain ws))
        goes-chain c t u ws rest e l end =
            subst (λ us. Goes limit us rest u (tail_by inside t (first_of us) (plain us))) (sym l.whole)
            (subst (λ x. Goes limit (l.token ∷ l.right) rest u (tail_by inside t x (plain (l.token ∷ l.right)))) (sym l.is.terminal)
            (subst (λ o. Goes limit (l.token ∷ l.right) rest u o) (sym (chained-tail inside t c (plain (l.token ∷ l.right)) e))
            (subst (λ us. Goes limit us rest u (links inside c t (plain us))) l.whole (goes-links c t u ws rest e l.links end))))

    goes-applied : (t u : FormulaTree) (ws rest : List Word) → NoAt ws → Goes limit ws rest u (tail inside t (plain ws)) → Goes limit ws rest u (applied_behind inside t (plain ws))
    unfolding applied_behind
    goes-applied t u ws rest stop g = subst (λ o. Goes limit ws rest u o) (sym (no_at-applied inside t (first_of ws) (plain ws) stop)) g

    goes-behind : (t u : FormulaTree) (ws rest : List Word) → NoEquality ws → Goes limit ws rest u (applied_behind inside t (plain ws)) → Goes limit ws rest u (behind_primary inside t (plain ws))
    unfolding behind_primary
    goes-behind t u ws rest stop g = subst (λ o. Goes limit ws rest u o) (sym (no_equality-behind inside t (first_of ws) (plain ws) stop)) g

    goes-from_primary : (ws mid rest : List Word) (t u : FormulaTree) → IsPrimary d ws t mid → Goes limit mid rest u (behind_primary inside t (plain mid)) → Goes limit ws rest u (formula_reader inside (plain ws))
    unfolding formula_reader
    goes-from_primary ws mid rest t u p g =
        subst (λ o. Goes limit ws rest u o) (sym (primary-formula inside (plain ws) (first_of ws) (primary-begins d ws mid t p)))
        (goes-bind limit ws mid rest t u (primary inside (plain ws)) _ (goes-primary ws mid t p) g)

    goes-from_binder : (ws mid rest : List Word) (t u : FormulaTree) → IsBinder d ws t mid → NoEquality mid → Goes limit mid rest u (applied_behind inside t (plain mid)) → Goes limit ws rest u (formula_reader inside (plain ws))
    unfolding formula_reader
    goes-from_binder ws mid rest t u p stop g =
        let b = goes-binder ws mid t p stop in
        subst (λ x. Goes limit ws rest u (formula_by inside x (plain ws))) (sym b.begins) (goes-bind limit ws mid rest t u (binder_at inside b.binder (plain ws)) _ b.goes g)

    -- a formula by its first unit and what follows it
    goes-by_unit : (ws mid rest : List Word) (t u : FormulaTree) → IsUnit d ws t mid → Follows d t mid u rest → Ends rest → Goes limit ws rest u (formula_reader inside (plain ws))
    unfolding formula_reader behind_primary first_terminal
    goes-by_unit ws mid rest t u (is.unitary_unit _ _ _ _ (is.primary_unitary _ _ _ _ p)) f end =
        let stop = follows-stop d t u mid rest f end in
        goes-from_primary ws mid rest t u p (goes-behind t u mid rest stop.0 (goes-applied t u mid rest stop.1 (goes-tail t u mid rest f end)))
    goes-by_unit ws mid rest t u (is.unitary_unit _ _ _ _ (is.binder_unitary _ _ _ _ p)) f end =
        let stop = follows-stop d t u mid rest f end in
        goes-from_binder ws mid rest t u p stop.0 (goes-applied t u mid rest stop.1 (goes-tail t u mid rest f end))
    goes-by_unit ws mid rest t u (is.negation_unit _ _ _ _ p) f end =
        let stop = follows-stop d t u mid rest f end in
        subst (λ x. Goes limit ws rest u (formula_by inside x (plain ws))) (sym (negation-begins d ws mid t p)) (goes-bind limit ws mid rest t u (negation_at inside (plain ws)) _ (goes-negation ws mid t p stop.0) (goes-tail t u mid rest f end))
    goes-by_unit ws mid rest _ u (is.equation_unit _ _ right _ w b s v p k q) f end =
        let stop = follows-stop d (equation w.lexeme.at b s v) u mid rest f end in
        goes-from_primary ws (w ∷ right) rest s u p (equates stop.0)
      where
        equates : NoEquality mid → Goes limit (w ∷ right) rest u (behind_primary inside s (plain (w ∷ right)))
        equates stop =
            subst (λ x. Goes limit (w ∷ right) rest u (behind_primary_by inside s x (plain (w ∷ right)))) (sym k.terminal)
            (goes-bind limit (w ∷ right) mid rest (equation w.lexeme.at b s v) u (right_side inside b s (plain (w ∷ right))) _ (goes-right_side w right mid b s v k q stop) (goes-tail (equation w.lexeme.at b s v) u mid rest f end))

    -- an application by what is applied and its arguments
    goes-by_unitary : (ws right mid rest : List Word) (w : Word) (t u v : FormulaTree) → IsUnitary d ws t (w ∷ right) → Is (terminal.Mark At) (suc d) w → IsOperand (suc d) right u mid → AreArguments (suc d) (application w.lexeme.at t u) mid v rest → Ends rest → Goes limit ws rest v (formula_reader inside (plain ws))
    unfolding applied_behind first_terminal
    goes-by_unitary ws right mid rest w t u v p k q m end = go p
      where
        args : Goes limit (w ∷ right) rest v (arguments_behind inside t (plain (w ∷ right)))
        args = goes-arguments t v (w ∷ right) rest (is.more_arguments d t u v w right mid rest k q m) end

        apply : Goes limit (w ∷ right) rest v (applied_behind inside t (plain (w ∷ right)))
        apply = subst (λ x. Goes limit (w ∷ right) rest v (applied_by inside t x (plain (w ∷ right)))) (sym k.terminal) args

        go : IsUnitary d ws t (w ∷ right) → Goes limit ws rest v (formula_reader inside (plain ws))
        go (is.primary_unitary _ _ _ _ r) = goes-from_primary ws (w ∷ right) rest t v r (goes-behind t v (w ∷ right) rest (ap is_equality k.terminal) apply)
        go (is.binder_unitary _ _ _ _ r) = goes-from_binder ws (w ∷ right) rest t v r (ap is_equality k.terminal) apply

    goes-by_quantifier : (q w : Word) (right mid rest : List Word) (all : Bool) (u v : FormulaTree) → Is (terminal.Quant all) d q → Is (terminal.Mark At) (suc d) w → IsOperand (suc d) right u mid → AreArguments (suc d) (quantified w.lexeme.at all u) mid v rest → Ends rest → Goes limit (q ∷ w ∷ right) rest v (formula_reader inside (plain (q ∷ w ∷ right)))
    unfolding formula_reader first_terminal lexemes_behind
    goes-by_quantifier q w right mid rest all u v k m p r end =
        subst (λ x. Goes limit (q ∷ w ∷ right) rest v (formula_by inside x (plain (q ∷ w ∷ right)))) (sym k.terminal)
        (goes-token limit q (w ∷ right) rest v _ (let e = k.deep in omega arith) (goes-quantified w right mid rest all u v m p r end))

    linked : (c : Conn) (t u v : FormulaTree) (w : Word) (right mid rest : List Word) → Is (terminal.Conn c) (suc d) w → IsUnit (suc d) right u mid → AreLinks c (suc d) (binary w.lexeme.at c t u) mid v rest → Linked c d t (w ∷ right) v rest
    linked c t u v w right mid rest k q m = record { token = w; right = right; whole = refl; is = k; links = is.more_links c d t u v w right mid rest k q m }

    pub goes-formula : (ws rest : List Word) (t : FormulaTree) → IsFormulaText d ws t rest → Ends rest → Goes limit ws rest t (formula_reader inside (plain ws))
    goes-formula ws rest t (is.unit_formula _ _ _ _ p) end = goes-by_unit ws rest rest t t p (ends d t rest) end
    goes-formula ws rest _ (is.pair_formula _ _ right _ w c t u p k e q) end = goes-by_unit ws (w ∷ right) rest t (binary w.lexeme.at c t u) p (pairs d t u w right rest c k e q) end
    goes-formula ws rest v (is.chain_formula _ _ right mid _ w c t u _ p k e q m) end = goes-by_unit ws (w ∷ right) rest t v p (chains d t v c e (linked c t u v w right mid rest k q m)) end
    goes-formula ws rest v (is.apply_formula _ _ right mid _ w t u _ p k q m) end = goes-by_unitary ws right mid rest w t u v p k q m end
    goes-formula _ rest v (is.quantified_formula _ q w right mid _ all u _ k m p r) end = goes-by_quantifier q w right mid rest all u v k m p r end

  -- a token that an operand begins with
  abbrev begins_operand : Terminal → Bool
  begins_operand (terminal.Conn Not) = true
  begins_operand (terminal.Binder b) = true
  begins_operand x = begins_primary x

  begins_more : (x : Terminal) → begins_primary x ≡ true → begins_operand x ≡ true
  begins_more (terminal.Conn Not) e = refl
  begins_more (terminal.Binder b) e = refl
  begins_more _ e = e

  operand-begins : (d : ℕ) (ws rest : List Word) (t : FormulaTree) → IsOperand d ws t rest → begins_operand (first_of ws) ≡ true
  operand-begins d ws rest t (is.unitary_operand _ _ _ _ (is.primary_unitary _ _ _ _ p)) = begins_more (first_of ws) (primary-begins d ws rest t p)
  operand-begins d ws rest t (is.unitary_operand _ _ _ _ (is.binder_unitary _ _ _ _ p)) = ap begins_operand (binder-begins d ws rest t p).1
  operand-begins d ws rest t (is.negation_operand _ _ _ _ p) = ap begins_operand (negation-begins d ws rest t p)

  operand-negated : (inside : Inside) (n : ℕ) (x : Terminal) (ts : List Lexeme) → begins_operand x ≡ true → negated_by inside n x ts ≡ negated_operand inside n ts
  operand-negated inside n (terminal.Mark Close) ts e = cc
  operand-negated inside n _ ts e = refl

  close-ends : (d : ℕ) (v : Word) (rest : List Word) → Is (terminal.Mark Close) d v → Ends (v ∷ rest)
  unfolding first_terminal
  close-ends d v rest k = ap ends_formula k.terminal

  -- what stands behind `(` `~`
  goes-negated : (d : ℕ) → suc d ≤ limit → (inside : Inside) → GoIn limit (GoReaders (suc d)) (suc d) inside → (w v : Word) (ins mid rest : List Word) (t u : FormulaTree) → Is (terminal.Conn Not) (suc (suc d)) w → IsOperand (suc (suc d)) ins t mid → Follows (suc d) (negation w.lexeme.at t) mid u (v ∷ rest) → Is (terminal.Mark Close) (suc d) v → Goes limit (w ∷ ins) rest u (negated_at inside (plain (w ∷ ins)))
  unfolding place_of_first lexemes_behind
  goes-negated d within None h w v ins mid rest t u k p f c = goes-enter limit (λ (r : Readers). ⊥) (suc d) None w ins rest u (λ r. found u []) h k.deep (λ r m deeper. absurd m)
  goes-negated d within (Some r) h w v ins mid rest t u k p f c =
      goes-token limit w ins rest u _ (let q = k.deep in let z = h.0 in omega arith)
      (subst (λ o. Goes limit ins rest u o) (sym (operand-negated (Some r) w.lexeme.at (first_of ins) (plain ins) (operand-begins (suc (suc d)) ins mid t p)))
      (goes-bind limit ins mid rest t u (r.operand (plain ins)) _ (h.1.operand ins mid t p stop)
      (goes-closed limit Close (suc d) mid v rest u (tail (Some r) (negation w.lexeme.at t) (plain mid)) within c (goes-tail (suc d) within (Some r) h (negation w.lexeme.at t) u mid (v ∷ rest) f (close-ends (suc d) v rest c)))))
    where
      stop : NoEquality mid
      stop = (follows-stop (suc d) (negation w.lexeme.at t) u mid (v ∷ rest) f (close-ends (suc d) v rest c)).0

  module _ (d : ℕ) (within : suc d ≤ limit) (inside : Inside) (h : GoIn limit (GoReaders (suc d)) (suc d) inside) where
    -- a formula behind `(` that doesn't begin with a connective
    goes-plainly : (ws rest : List Word) (v : Word) (t : FormulaTree) → grouped_by inside (first_of ws) (plain ws) ≡ (formula_reader inside (plain ws) >>= λ u mid. closed u mid) → IsFormulaText (suc d) ws t (v ∷ rest) → Is (terminal.Mark Close) (suc d) v → Goes limit ws rest t (grouped inside (plain ws))
    unfolding grouped
    goes-plainly ws rest v t e p c =
        subst (λ o. Goes limit ws rest t o) (sym e)
        (goes-closed limit Close (suc d) ws v rest t (formula_reader inside (plain ws)) within c (goes-formula (suc d) within inside h ws (v ∷ rest) t p (close-ends (suc d) v rest c)))

    unitary-plainly : (ws mid : List Word) (t : FormulaTree) → IsUnitary (suc d) ws t mid → grouped_by inside (first_of ws) (plain ws) ≡ (formula_reader inside (plain ws) >>= λ u rest. closed u rest)
    unitary-plainly ws mid t (is.primary_unitary _ _ _ _ p) = primary-grouped inside (plain ws) (first_of ws) (primary-begins (suc d) ws mid t p)
    unitary-plainly ws mid t (is.binder_unitary _ _ _ _ p) = ap (λ x. grouped_by inside x (plain ws)) (binder-begins (suc d) ws mid t p).1

    -- by the first unit and what follows it
    goes-grouped_unit : (ws mid rest : List Word) (v : Word) (t u : FormulaTree) → IsUnit (suc d) ws t mid → Follows (suc d) t mid u (v ∷ rest) → IsFormulaText (suc d) ws u (v ∷ rest) → Is (terminal.Mark Close) (suc d) v → Goes limit ws rest u (grouped inside (plain ws))
    unfolding grouped first_terminal
    goes-grouped_unit ws mid rest v t u (is.unitary_unit _ _ _ _ p) f whole c = goes-plainly ws rest v u (unitary-plainly ws mid t p) whole c
    goes-grouped_unit ws mid rest v t u (is.equation_unit _ _ right _ w b s r p k q) f whole c = goes-plainly ws rest v u (primary-grouped inside (plain ws) (first_of ws) (primary-begins (suc d) ws (w ∷ right) s p)) whole c
    goes-grouped_unit _ mid rest v _ u (is.negation_unit _ _ _ _ (is.negated _ w ins _ t k p)) f whole c =
        subst (λ x. Goes limit (w ∷ ins) rest u (grouped_by inside x (plain (w ∷ ins)))) (sym k.terminal) (goes-negated d within inside h w v ins mid rest t u k p f c)

    goes-grouped : (ws rest : List Word) (v : Word) (t : FormulaTree) → IsFormulaText (suc d) ws t (v ∷ rest) → Is (terminal.Mark Close) (suc d) v → Goes limit ws rest t (grouped inside (plain ws))
    unfolding first_terminal
    goes-grouped ws rest v t (is.unit_formula _ _ _ _ p) c = goes-grouped_unit ws (v ∷ rest) rest v t t p (ends (suc d) t (v ∷ rest)) (is.unit_formula (suc d) ws (v ∷ rest) t p) c
    goes-grouped ws rest v _ (is.pair_formula _ _ right _ w o t u p k e q) c = goes-grouped_unit ws (w ∷ right) rest v t (binary w.lexeme.at o t u) p (pairs (suc d) t u w right (v ∷ rest) o k e q) (is.pair_formula (suc d) ws right (v ∷ rest) w o t u p k e q) c
    goes-grouped ws rest v s (is.chain_formula _ _ right mid _ w o t u _ p k e q m) c = goes-grouped_unit ws (w ∷ right) rest v t s p (chains (suc d) t s o e (linked (suc d) within inside h o t u s w right mid (v ∷ rest) k q m)) (is.chain_formula (suc d) ws right mid (v ∷ rest) w o t u s p k e q m) c
    goes-grouped ws rest v s (is.apply_formula _ _ right mid _ w t u _ p k q m) c = goes-plainly ws rest v s (unitary-plainly ws (w ∷ right) t p) (is.apply_formula (suc d) ws right mid (v ∷ rest) w t u s p k q m) c
    goes-grouped _ rest v s (is.quantified_formula _ q w right mid _ all u _ k m p r) c = goes-plainly (q ∷ w ∷ right) rest v s (ap (λ x. grouped_by inside x (plain (q ∷ w ∷ right))) k.terminal) (is.quantified_formula (suc d) q w right mid (v ∷ rest) all u s k m p r) c

    goes-lone : (o v : Word) (rest : List Word) (c : Conn) → lone_depth c (suc d) ≡ suc d → Is (terminal.Conn c) (lone_depth c (suc d)) o → Is (terminal.Mark Close) (suc d) v → Goes limit (o ∷ v ∷ rest) rest (operator o.lexeme.at c) (lone c (plain (o ∷ v ∷ rest)))
    unfolding lone place_of_first lexemes_behind
    goes-lone o v rest c e k m =
        goes-token limit o (v ∷ rest) rest (operator o.lexeme.at c) _ (let q = k.deep in omega arith)
        (goes-past limit Close (suc d) v rest rest (operator o.lexeme.at c) (λ after. found (operator o.lexeme.at c) after) within m (goes-found limit rest (operator o.lexeme.at c)))

    goes-lone_not : (o v : Word) (rest : List Word) → Is (terminal.Conn Not) (suc (suc d)) o → Is (terminal.Mark Close) (suc d) v → Goes limit (o ∷ v ∷ rest) rest (operator o.lexeme.at Not) (negated_at inside (plain (o ∷ v ∷ rest)))
    unfolding first_terminal place_of_first lexemes_behind
    goes-lone_not o v rest k m =
        goes-enter limit (GoReaders (suc d)) (suc d) inside o (v ∷ rest) rest (operator o.lexeme.at Not) _ h k.deep
        (λ r n deeper. subst (λ x. Goes limit (v ∷ rest) rest (operator o.lexeme.at Not) (negated_by inside o.lexeme.at x (plain (v ∷ rest)))) (sym m.terminal)
        (goes-token limit v rest rest (operator o.lexeme.at Not) _ (let q = m.deep in omega arith) (goes-found limit rest (operator o.lexeme.at Not))))

    goes-alone : (o v : Word) (rest : List Word) (c : Conn) → Is (terminal.Conn c) (lone_depth c (suc d)) o → Is (terminal.Mark Close) (suc d) v → Goes limit (o ∷ v ∷ rest) rest (operator o.lexeme.at c) (grouped inside (plain (o ∷ v ∷ rest)))
    unfolding grouped first_terminal
    goes-alone o v rest c k m = subst (λ x. Goes limit (o ∷ v ∷ rest) rest (operator o.lexeme.at c) (grouped_by inside x (plain (o ∷ v ∷ rest)))) (sym k.terminal) (go c k)
      where
        go : (c : Conn) → Is (terminal.Conn c) (lone_depth c (suc d)) o → Goes limit (o ∷ v ∷ rest) rest (operator o.lexeme.at c) (grouped_by inside (terminal.Conn c) (plain (o ∷ v ∷ rest)))
        go Not k = goes-lone_not o v rest k m
        go c k = goes-lone o v rest c refl k m

    goes-body : (b : Binder) (n : ℕ) (vs : List VarTree) (body_words rest : List Word) (closing colon : Word) (t : FormulaTree) → Is (terminal.Mark CloseList) (suc (suc d)) closing → suc (suc d) ≤ limit → Is (terminal.Mark Colon) (suc d) colon → IsUnit (suc d) body_words t rest → NoEquality rest → Goes limit (closing ∷ colon ∷ body_words) rest (binding n b vs t) (behind_variable inside b n vs (plain (closing ∷ colon ∷ body_words)))
    unfolding behind_variable body first_terminal lexemes_behind
    goes-body b n vs ws rest closing colon t c deeper k u stop =
        subst (λ x. Goes limit (closing ∷ colon ∷ ws) rest (binding n b vs t) (bound_by inside b n vs x (plain (closing ∷ colon ∷ ws)))) (sym c.terminal)
        (goes-token limit closing (colon ∷ ws) rest (binding n b vs t) _ (let q = c.deep in omega arith)
        (goes-past limit Colon (suc d) colon ws rest (binding n b vs t) _ within k
        (goes-bind limit ws rest rest t (binding n b vs t) (unit inside (plain ws)) _ (goes-unit (suc d) within inside h ws rest t u stop) (goes-found limit rest (binding n b vs t)))))

    goes-comma : (b : Binder) (n : ℕ) (vs more : List VarTree) (e : ℕ) (w : Word) (ws body_words rest : List Word) (closing colon : Word) (t : FormulaTree) → Is (terminal.Mark Comma) (suc (suc d)) w → suc (suc d) ≤ limit → binds_many b ≡ true → AreVars b (suc d) ws more e (closing ∷ colon ∷ body_words) → Is (terminal.Mark CloseList) (suc e) closing → Is (terminal.Mark Colon) e colon → IsUnit e body_words t rest → NoEquality rest → Goes limit (w ∷ ws) rest (binding n b (vs ++ more) t) (behind_variable inside b n vs (plain (w ∷ ws)))
    unfolding behind_variable first_terminal lexemes_behind
    goes-comma b n vs more e w ws bs rest closing colon t m deeper many vars c k u stop =
        subst (λ x. Goes limit (w ∷ ws) rest (binding n b (vs ++ more) t) (bound_by inside b n vs x (plain (w ∷ ws)))) (sym m.terminal)
        (subst (λ y. Goes limit (w ∷ ws) rest (binding n b (vs ++ more) t) (if y then next_variable inside b n vs (plain ws) else wrong (plain (w ∷ ws)))) (sym many)
        (goes-token limit w ws rest (binding n b (vs ++ more) t) _ (let q = m.deep in omega arith)
        (goes-next_variable (suc d) within inside h b n vs more e ws bs rest closing colon t vars c k u stop)))

    goes-bound : (b : Binder) (n : ℕ) (vs more : List VarTree) (e : ℕ) (ws body_words rest : List Word) (closing colon : Word) (t : FormulaTree) → AreVars b d ws more e (closing ∷ colon ∷ body_words) → Is (terminal.Mark CloseList) (suc e) closing → Is (terminal.Mark Colon) e colon → IsUnit e body_words t rest → NoEquality rest → Goes limit ws rest (binding n b (vs ++ more) t) (bound inside b n vs (plain ws))
    unfolding bound first_terminal
    goes-bound b n vs more e ws bs rest closing colon t (is.last_var _ _ _ v k) c m u stop = go (var-first d ws (closing ∷ colon ∷ bs) v k)
      where
        go : FirstVar d ws → Goes limit ws rest (binding n b (vs ++ v ∷ []) t) (enter inside (plain ws) (λ r. variable_at r.type (plain ws) >>= λ x mid. behind_variable inside b n (vs ++ x ∷ []) mid))
        go first =
            subst (λ us. Goes limit us rest (binding n b (vs ++ v ∷ []) t) (enter inside (plain us) (λ r. variable_at r.type (plain us) >>= λ x mid. behind_variable inside b n (vs ++ x ∷ []) mid))) (sym first.whole)
            (goes-into limit (GoReaders (suc d)) (suc d) inside first.token first.back rest (binding n b (vs ++ v ∷ []) t) _ h (let q = first.is.deep in omega arith)
            (λ r g deeper. subst (λ us. Goes limit us rest (binding n b (vs ++ v ∷ []) t) (variable_at r.type (plain us) >>= λ x mid. behind_variable inside b n (vs ++ x ∷ []) mid)) first.whole
            (goes-bind limit ws (closing ∷ colon ∷ bs) rest v (binding n b (vs ++ v ∷ []) t) (variable_at r.type (plain ws)) _ (goes-variable (suc (suc d)) r.type deeper g.type ws (closing ∷ colon ∷ bs) v k (ap (is_mark Arrow) c.terminal) (ap (is_mark Colon) c.terminal))
            (goes-body b n (vs ++ v ∷ []) bs rest closing colon t c deeper m u stop))))
    goes-bound b n vs more e ws bs rest closing colon t (is.more_vars _ _ _ mid _ w v us k many m vars) c o u stop = go (var-first d ws (w ∷ mid) v k)
      where
        go : FirstVar d ws → Goes limit ws rest (binding n b (vs ++ v ∷ us) t) (enter inside (plain ws) (λ r. variable_at r.type (plain ws) >>= λ x mid. behind_variable inside b n (vs ++ x ∷ []) mid))
        go first =
            subst (λ ks. Goes limit ks rest (binding n b (vs ++ v ∷ us) t) (enter inside (plain ks) (λ r. variable_at r.type (plain ks) >>= λ x mid. behind_variable inside b n (vs ++ x ∷ []) mid))) (sym first.whole)
            (goes-into limit (GoReaders (suc d)) (suc d) inside first.token first.back rest (binding n b (vs ++ v ∷ us) t) _ h (let q = first.is.deep in omega arith)
            (λ r g deeper. subst (λ ks. Goes limit ks rest (binding n b (vs ++ v ∷ us) t) (variable_at r.type (plain ks) >>= λ x mid. behind_variable inside b n (vs ++ x ∷ []) mid)) first.whole
            (goes-bind limit ws (w ∷ mid) rest v (binding n b (vs ++ v ∷ us) t) (variable_at r.type (plain ws)) _ (goes-variable (suc (suc d)) r.type deeper g.type ws (w ∷ mid) v k (ap (is_mark Arrow) m.terminal) (ap (is_mark Colon) m.terminal))
            (subst (λ ks. Goes limit (w ∷ mid) rest (binding n b ks t) (behind_variable inside b n (vs ++ v ∷ []) (plain (w ∷ mid)))) (append_assoc vs (v ∷ []) us)
            (goes-comma b n (vs ++ v ∷ []) us e w mid bs rest closing colon t m deeper many vars c o u stop)))))

    pub goes-readers : (type : Reader TypeTree) → GoesTypes limit (suc d) type → GoReaders d (readers type inside)
    goes-readers type k = record {
      type = k;
      unit = goes-unit (suc d) within inside h;
      operand = goes-operand (suc d) within inside h;
      grouped = goes-grouped;
      alone = goes-alone;
      links = goes-links (suc d) within inside h;
      arguments = goes-arguments (suc d) within inside h;
      bound = goes-bound;
    }

  pub goes-inner : (d room : ℕ) → d + room ≡ limit → GoIn limit (GoReaders d) d (inner room)
  unfolding inner
  goes-inner d zero e = omega arith
  goes-inner d (suc room) e = (omega arith, goes-readers d (omega arith) (inner room) (goes-inner (suc d) room (omega arith)) (type_with (inner_type room)) (goes-type_with limit (suc d) (omega arith) (inner_type room) (goes-inner_type limit (suc d) room (omega arith))))
