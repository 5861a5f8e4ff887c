-- Statements are read by the tokens up to the first that is left.
use Rattle.std.proofs.Common.{◌≡◌, ℕ, zero, suc, ◌<◌, List, [], ◌∷◌, ◌++◌, length, Bool, true, false, if◌then◌else◌, Option, Some, None, codes, refl, sym, ap, ◌∙◌, arith}
use Rattle.std.specs.Str.{bytes_eq}
use Rattle.thf_grammar.specs.Trees.{TypeTree, BodyTree, base, typing, formula as formula_body, SelectedTree, StatementTree, include as include_tree}
use Rattle.thf_parse.specs.declared.statement.Keyword.{Keyword}
use Rattle.thf_parse.specs.declared.statement.Keyword.TheVariants.{Thf, Include, Unknown}
use Rattle.thf_grammar.specs.declared.terminal.Mark.TheVariants.{Open, Close, OpenList, CloseList, Comma, Stop, Colon}
use Rattle.thf_grammar.specs.declared.terminal.Terminal.{Terminal}
use Rattle.thf_grammar.specs.declared.terminal.Terminal.TheVariants as terminal
use Rattle.thf_grammar.specs.Words.{Lexeme}
use Rattle.thf_parse.specs.Internal.Outcome.{Outcome, found, wrong, deep, Reader, ◌>>=◌, first_terminal, first_name, first_text, lexemes_behind, expect}
use Rattle.thf_parse.specs.Internal.Reader.{type_with, inner_type}
use Rattle.thf_parse.specs.Internal.FormulaReader.{formula_reader, inner}
use Rattle.thf_parse.specs.Internal.NoteReader.{notes, inner_notes}
use Rattle.thf_parse.specs.Internal.StatementReader.{selected_at, selected_name_reader, label_by, label, role_by, role, quoted_by, quoted_reader, declared_by, declared, typing_by, typing_with, inner_typing, body_reader, statement_head, head, finish, annotated_of, annotated, more_label, labels, names, selection_reader, selection, include, keyword_by, keyword, statement_by, statement, is_end, statements_by, statements, file}
use Rattle.thf_parse.proofs.Locals.{IsLocal, IsLocalAt, AreLocal, Decided, is_proper, rest_of, at, local-found, local-wrong, local-behind, local-bind, bind-at, local-terminal, place-at, name-at, enter-at, decided-head, rest-length, local-counted}
use Rattle.thf_parse.proofs.MarkLaws.{local-past, local-expect, local-closed}
use Rattle.thf_parse.proofs.TypeLaws.{local-type_with, local-inner_type}
use Rattle.thf_parse.proofs.FormulaLocals.{local-formula, local-inner}
use Rattle.thf_parse.proofs.CommaLaws.{local-all}
use Rattle.thf_parse.proofs.NoteLaws.{local-notes, local-inner_notes}

named-at : (x : Terminal) → is_proper x ≡ true → IsLocalAt x selected_name_reader
named-at x p =
    place-at x (λ q ts. found (selected_at q (first_name ts)) (lexemes_behind ts))
    (λ q. name-at x (λ n ts. found (selected_at q n) (lexemes_behind ts)) (λ n. local-behind x (λ ts. found (selected_at q n) ts) p (local-found (selected_at q n))))

label_by-at : (x : Terminal) → IsLocalAt x (label_by x)
label_by-at terminal.Lower = named-at terminal.Lower refl
label_by-at terminal.Quoted = named-at terminal.Quoted refl
label_by-at terminal.Integer = named-at terminal.Integer refl
label_by-at _ = at _ (λ ts. wrong ts) local-wrong

pub local-label : IsLocal label
unfolding label
local-label = local-terminal label_by label_by-at

role_by-at : (x : Terminal) → IsLocalAt x (role_by x)
role_by-at terminal.Lower = named-at terminal.Lower refl
role_by-at _ = at _ (λ ts. wrong ts) local-wrong

local-role : IsLocal role
unfolding role
local-role = local-terminal role_by role_by-at

quoted_by-at : (x : Terminal) → IsLocalAt x (quoted_by x)
quoted_by-at terminal.Quoted = named-at terminal.Quoted refl
quoted_by-at _ = at _ (λ ts. wrong ts) local-wrong

local-quoted : IsLocal quoted_reader
unfolding quoted_reader
local-quoted = local-terminal quoted_by quoted_by-at

module _ (type : Reader TypeTree) (k : IsLocal type) where
  declared_by-at : (n : SelectedTree) (x : Terminal) → IsLocalAt x (declared_by type n x)
  declared_by-at n terminal.TypeOfTypes = local-behind terminal.TypeOfTypes (λ ts. found (base n.at n.name) ts) refl (local-found (base n.at n.name))
  declared_by-at n _ = at _ (λ ts. type ts >>= λ t rest. found (typing n.at n.name t) rest) (local-bind type (λ t rest. found (typing n.at n.name t) rest) k (λ t. local-found (typing n.at n.name t)))

  local-declared : (n : SelectedTree) → IsLocal (declared type n)
  unfolding declared
  local-declared n = local-past Colon (λ mid. declared_by type n (first_terminal mid) mid) (local-terminal (declared_by type n) (declared_by-at n))

  typing_by-at : (inside : Option (Reader BodyTree)) → AreLocal IsLocal inside → (x : Terminal) → IsLocalAt x (typing_by type inside x)
  typing_by-at inside l terminal.Lower = bind-at terminal.Lower selected_name_reader (λ n rest. declared type n rest) (named-at terminal.Lower refl) local-declared
  typing_by-at inside l terminal.Quoted = bind-at terminal.Quoted selected_name_reader (λ n rest. declared type n rest) (named-at terminal.Quoted refl) local-declared
  typing_by-at inside l (terminal.Mark Open) =
      enter-at (terminal.Mark Open) IsLocal inside (λ r ts. r (lexemes_behind ts) >>= λ b rest. expect Close rest >>= λ _ after. found b after) l
      (λ r m. local-behind (terminal.Mark Open) (λ ts. r ts >>= λ b rest. expect Close rest >>= λ _ after. found b after) refl (local-closed Close r m))
  typing_by-at inside l _ = at _ (λ ts. wrong ts) local-wrong

  pub local-typing : (inside : Option (Reader BodyTree)) → AreLocal IsLocal inside → IsLocal (typing_with type inside)
  unfolding typing_with
  local-typing inside l = local-terminal (typing_by type inside) (typing_by-at inside l)

pub local-inner_typing : (room : ℕ) → AreLocal IsLocal (inner_typing room)
unfolding inner_typing
local-inner_typing zero = tt
local-inner_typing (suc room) = local-typing (type_with (inner_type room)) (local-type_with (inner_type room) (local-inner_type room)) (inner_typing room) (local-inner_typing room)

local-body : (room : ℕ) (role : List ℕ) → IsLocal (body_reader room role)
unfolding body_reader
local-body room role = go (bytes_eq role (codes "type"))
  where
    go : (b : Bool) → IsLocal (λ ts. if b then typing_with (type_with (inner_type room)) (inner_typing room) ts else (formula_reader (inner room) ts >>= λ t rest. found (formula_body t) rest))
    go true = local-typing (type_with (inner_type room)) (local-type_with (inner_type room) (local-inner_type room)) (inner_typing room) (local-inner_typing room)
    go false = local-bind (formula_reader (inner room)) (λ t rest. found (formula_body t) rest) (local-formula (inner room) (local-inner room)) (λ t. local-found (formula_body t))

local-head : IsLocal head
unfolding head
local-head =
    local-past Open (λ t1. label t1 >>= λ n t2. expect Comma t2 >>= λ _ t3. role t3 >>= λ r t4. expect Comma t4 >>= λ _ t5. found (statement_head n.name r) t5)
    (local-bind label (λ n t2. expect Comma t2 >>= λ _ t3. role t3 >>= λ r t4. expect Comma t4 >>= λ _ t5. found (statement_head n.name r) t5) local-label
    (λ n. local-past Comma (λ t3. role t3 >>= λ r t4. expect Comma t4 >>= λ _ t5. found (statement_head n.name r) t5)
    (local-bind role (λ r t4. expect Comma t4 >>= λ _ t5. found (statement_head n.name r) t5) local-role
    (λ r. local-past Comma (λ t5. found (statement_head n.name r) t5) (local-found (statement_head n.name r))))))

local-finish : IsLocal finish
unfolding finish
local-finish = local-past Close (λ mid. expect Stop mid) (local-expect Stop)

local-annotated : (room : ℕ) → IsLocal (annotated room)
unfolding annotated
local-annotated room =
    local-bind head (λ h t1. body_reader room h.role.name t1 >>= λ b t2. notes (inner_notes room) t2 >>= λ _ t3. finish t3 >>= λ _ t4. found (annotated_of h b) t4) local-head
    (λ h. local-bind (body_reader room h.role.name) (λ b t2. notes (inner_notes room) t2 >>= λ _ t3. finish t3 >>= λ _ t4. found (annotated_of h b) t4) (local-body room h.role.name)
    (λ b. local-bind (notes (inner_notes room)) (λ _ t3. finish t3 >>= λ _ t4. found (annotated_of h b) t4) (local-notes (inner_notes room) (local-inner_notes room))
    (λ _. local-bind finish (λ _ t4. found (annotated_of h b) t4) local-finish (λ _. local-found (annotated_of h b)))))

pub local-more_label : (ns : List SelectedTree) → IsLocal (more_label ns)
local-more_label ns = local-bind label (λ n rest. found (ns ++ n ∷ []) rest) local-label (λ n. local-found (ns ++ n ∷ []))

local-labels : IsLocal labels
unfolding labels
local-labels = local-all more_label local-more_label []

local-names : IsLocal names
unfolding names
local-names =
    local-past OpenList (λ t1. labels t1 >>= λ ns t2. expect CloseList t2 >>= λ _ t3. found (Some ns) t3)
    (local-bind labels (λ ns t2. expect CloseList t2 >>= λ _ t3. found (Some ns) t3) local-labels (λ ns. local-past CloseList (λ t3. found (Some ns) t3) (local-found (Some ns))))

selection_by-at : (x : Terminal) → IsLocalAt x (selection_reader x)
selection_by-at (terminal.Mark Comma) = local-behind (terminal.Mark Comma) names refl local-names
selection_by-at _ = at _ (λ ts. found None ts) (local-found None)

local-selection : IsLocal selection
unfolding selection
local-selection = local-terminal selection_reader selection_by-at

local-include : IsLocal include
unfolding include
local-include =
    local-past Open (λ t1. quoted_reader t1 >>= λ f t2. selection t2 >>= λ only t3. finish t3 >>= λ _ t4. found (include_tree f.at f.name only) t4)
    (local-bind quoted_reader (λ f t2. selection t2 >>= λ only t3. finish t3 >>= λ _ t4. found (include_tree f.at f.name only) t4) local-quoted
    (λ f. local-bind selection (λ only t3. finish t3 >>= λ _ t4. found (include_tree f.at f.name only) t4) local-selection
    (λ only. local-bind finish (λ _ t4. found (include_tree f.at f.name only) t4) local-finish (λ _. local-found (include_tree f.at f.name only)))))

-- a keyword is a lower word
keyword_by-lower : (x : Terminal) (text : List ℕ) → (keyword_by x text ≡ Unknown → ⊥) → x ≡ terminal.Lower
keyword_by-lower terminal.Lower text h = refl
keyword_by-lower _ text h = absurd (h refl)

pub keyword-first : (ts : List Lexeme) → (keyword ts ≡ Unknown → ⊥) → first_terminal ts ≡ terminal.Lower
unfolding keyword
keyword-first ts h = keyword_by-lower (first_terminal ts) (first_text ts) h

pub local-statement : (room : ℕ) → IsLocal (statement room)
unfolding statement keyword first_terminal first_text
local-statement room ts = decided-head keyword (λ k us. statement_by room k us) (λ t us vs. refl) ts (go (keyword ts) refl)
  where
    go : (k : Keyword) → keyword ts ≡ k → Decided (statement_by room k) ts
    go Thf e = local-behind terminal.Lower (annotated room) refl (local-annotated room) ts (keyword-first ts (λ u. let q : Thf ≡ Unknown = sym e ∙ u in cc))
    go Include e = local-behind terminal.Lower include refl local-include ts (keyword-first ts (λ u. let q : Include ≡ Unknown = sym e ∙ u in cc))
    go Unknown e = local-wrong ts

-- a statement has a token at least
pub statement-shorter : (room : ℕ) (ts rest : List Lexeme) (s : StatementTree) → statement room ts ≡ found s rest → length rest < length ts
unfolding statement keyword first_terminal first_text lexemes_behind
statement-shorter room [] rest s e = cc
statement-shorter room (t ∷ ts) rest s e = go (keyword (t ∷ ts)) e
  where
    go : (k : Keyword) → statement_by room k (t ∷ ts) ≡ found s rest → length rest < length (t ∷ ts)
    go Thf h = omega (arith, rest-length (annotated room) (local-annotated room) ts, ap (λ o. length (rest_of o)) h)
    go Include h = omega (arith, rest-length include local-include ts, ap (λ o. length (rest_of o)) h)
    go Unknown h = cc

module _ (room : ℕ) where
  statements_by-local : (again : List StatementTree → Reader (List StatementTree)) → ((ss : List StatementTree) → IsLocal (again ss)) → (ss : List StatementTree) (b : Bool) → IsLocal (statements_by room again ss b)
  statements_by-local again l ss true = local-found ss
  statements_by-local again l ss false = local-bind (statement room) (λ s rest. again (ss ++ s ∷ []) rest) (local-statement room) (λ s. l (ss ++ s ∷ []))

  pub local-statements : (n : ℕ) (ss : List StatementTree) → IsLocal (statements room n ss)
  unfolding statements
  local-statements zero ss = local-wrong
  local-statements (suc n) ss = local-terminal (λ x ts. statements_by room (statements room n) ss (is_end x) ts) (λ x. at x (statements_by room (statements room n) ss (is_end x)) (statements_by-local (statements room n) (local-statements n) ss (is_end x)))

  -- more room for statements makes no difference
  pub statements-more : (n m : ℕ) (ss : List StatementTree) (ts : List Lexeme) → length ts < n → length ts < m → statements room n ss ts ≡ statements room m ss ts
  unfolding statements
  statements-more zero m ss ts h k = absurd (omega arith)
  statements-more (suc n) zero ss ts h k = absurd (omega arith)
  statements-more (suc n) (suc m) ss ts h k = go (λ rs us p q. statements-more n m rs us p q) (is_end (first_terminal ts))
    where
      after : ((rs : List StatementTree) (us : List Lexeme) → length us < n → length us < m → statements room n rs us ≡ statements room m rs us) → (o : Outcome StatementTree) → statement room ts ≡ o → (o >>= λ s rest. statements room n (ss ++ s ∷ []) rest) ≡ (o >>= λ s rest. statements room m (ss ++ s ∷ []) rest)
      after again (wrong rest) e = refl
      after again (deep rest) e = refl
      after again (found s rest) e = again (ss ++ s ∷ []) rest (omega (arith, statement-shorter room ts rest s e)) (omega (arith, statement-shorter room ts rest s e))

      go : ((rs : List StatementTree) (us : List Lexeme) → length us < n → length us < m → statements room n rs us ≡ statements room m rs us) → (b : Bool) → statements_by room (statements room n) ss b ts ≡ statements_by room (statements room m) ss b ts
      go again true = refl
      go again false = after again (statement room ts) refl

  pub local-file : (ss : List StatementTree) → IsLocal (file room ss)
  unfolding file
  local-file ss = local-counted (λ n. statements room n ss) (λ n. local-statements n ss) (λ n m ts h k. statements-more n m ss ts h k)

  -- a step of the loop over statements
  pub file-ended : (ss : List StatementTree) (ts : List Lexeme) → is_end (first_terminal ts) ≡ true → file room ss ts ≡ found ss ts
  unfolding file statements
  file-ended ss ts e = ap (λ b. statements_by room (statements room (length ts)) ss b ts) e

  pub file-more : (ss : List StatementTree) (s : StatementTree) (ts rest : List Lexeme) → is_end (first_terminal ts) ≡ false → statement room ts ≡ found s rest → file room ss ts ≡ file room (ss ++ s ∷ []) rest
  unfolding file statements
  file-more ss s ts rest e h =
      ap (λ b. statements_by room (statements room (length ts)) ss b ts) e
      ∙ ap (λ o. o >>= λ r after. statements room (length ts) (ss ++ r ∷ []) after) h
      ∙ statements-more (length ts) (suc (length rest)) (ss ++ s ∷ []) rest (statement-shorter room ts rest s h) (omega arith)

  pub file-wrong : (ss : List StatementTree) (ts rest : List Lexeme) → is_end (first_terminal ts) ≡ false → statement room ts ≡ wrong rest → file room ss ts ≡ wrong rest
  unfolding file statements
  file-wrong ss ts rest e h = ap (λ b. statements_by room (statements room (length ts)) ss b ts) e ∙ ap (λ o. o >>= λ r after. statements room (length ts) (ss ++ r ∷ []) after) h

  pub file-deep : (ss : List StatementTree) (ts rest : List Lexeme) → is_end (first_terminal ts) ≡ false → statement room ts ≡ deep rest → file room ss ts ≡ deep rest
  unfolding file statements
  file-deep ss ts rest e h = ap (λ b. statements_by room (statements room (length ts)) ss b ts) e ∙ ap (λ o. o >>= λ r after. statements room (length ts) (ss ++ r ∷ []) after) h
