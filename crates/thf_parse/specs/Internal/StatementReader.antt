-- How the reader goes through statements.
use Rattle.std.specs.Prelude.{ℕ, zero, suc, Bool, true, false, List, [], ◌∷◌, ◌++◌, length, Option, Some, None, codes, if◌then◌else◌}
use Rattle.std.specs.Str.{bytes_eq}
use Rattle.thf_grammar.specs.Trees.{TypeTree, BodyTree, base, typing, formula as formula_body, SelectedTree, StatementTree, annotated as annotated_tree, include as include_tree}
use Rattle.thf_parse.specs.declared.statement.Keyword.{Keyword}
use Rattle.thf_parse.specs.declared.statement.Keyword.TheVariants.{Thf, Include, Unknown}
use Rattle.thf_grammar.specs.declared.terminal.Mark.TheVariants.{Open, Close, OpenList, CloseList, Comma, Stop, Colon}
use Rattle.thf_grammar.specs.declared.terminal.Terminal.{Terminal}
use Rattle.thf_grammar.specs.declared.terminal.Terminal.TheVariants as terminal
use Rattle.thf_grammar.specs.Words.{Lexeme}
use Rattle.thf_parse.specs.Internal.Outcome.{found, wrong, Reader, ◌>>=◌, first_terminal, place_of_first, first_name, first_text, lexemes_behind, expect, enter}
use Rattle.thf_parse.specs.Internal.Reader.{type_with, inner_type}
use Rattle.thf_parse.specs.Internal.FormulaReader.{formula_reader, inner}
use Rattle.thf_parse.specs.Internal.NoteReader.{all_commas, notes, inner_notes}

abbrev pub selected_at : ℕ → List ℕ → SelectedTree
selected_at at name = record { at = at; name = name }

-- the first token as a name with its place
abbrev pub selected_name_reader : Reader SelectedTree
selected_name_reader ts = found (selected_at (place_of_first ts) (first_name ts)) (lexemes_behind ts)

abbrev pub label_by : Terminal → Reader SelectedTree
label_by terminal.Lower ts = selected_name_reader ts
label_by terminal.Quoted ts = selected_name_reader ts
label_by terminal.Integer ts = selected_name_reader ts
label_by _ ts = wrong ts

unfoldable pub label : Reader SelectedTree
label ts = label_by (first_terminal ts) ts

abbrev pub role_by : Terminal → Reader SelectedTree
role_by terminal.Lower ts = selected_name_reader ts
role_by _ ts = wrong ts

unfoldable pub role : Reader SelectedTree
role ts = role_by (first_terminal ts) ts

abbrev pub quoted_by : Terminal → Reader SelectedTree
quoted_by terminal.Quoted ts = selected_name_reader ts
quoted_by _ ts = wrong ts

unfoldable pub quoted_reader : Reader SelectedTree
quoted_reader ts = quoted_by (first_terminal ts) ts

-- what a name is declared as, from its colon on
abbrev pub declared_by : Reader TypeTree → SelectedTree → Terminal → Reader BodyTree
declared_by type n terminal.TypeOfTypes ts = found (base n.at n.name) (lexemes_behind ts)
declared_by type n _ ts = type ts >>= λ t rest. found (typing n.at n.name t) rest

unfoldable pub declared : Reader TypeTree → SelectedTree → Reader BodyTree
declared type n ts = expect Colon ts >>= λ _ mid. declared_by type n (first_terminal mid) mid

abbrev pub group_typing : Option (Reader BodyTree) → Reader BodyTree
group_typing inside ts = enter inside ts (λ r. r (lexemes_behind ts) >>= λ b rest. expect Close rest >>= λ _ after. found b after)

abbrev pub typing_by : Reader TypeTree → Option (Reader BodyTree) → Terminal → Reader BodyTree
typing_by type inside terminal.Lower ts = selected_name_reader ts >>= λ n rest. declared type n rest
typing_by type inside terminal.Quoted ts = selected_name_reader ts >>= λ n rest. declared type n rest
typing_by type inside (terminal.Mark Open) ts = group_typing inside ts
typing_by type inside _ ts = wrong ts

unfoldable pub typing_with : Reader TypeTree → Option (Reader BodyTree) → Reader BodyTree
typing_with type inside ts = typing_by type inside (first_terminal ts) ts

-- the reader of typings with room for one level less
unfoldable pub inner_typing : ℕ → Option (Reader BodyTree)
inner_typing zero = None
inner_typing (suc room) = Some (typing_with (type_with (inner_type room)) (inner_typing room))

unfoldable pub body_reader : ℕ → List ℕ → Reader BodyTree
body_reader room role ts =
    if bytes_eq role (codes "type") then typing_with (type_with (inner_type room)) (inner_typing room) ts
    else (formula_reader (inner room) ts >>= λ t rest. found (formula_body t) rest)

-- an annotated formula up to its body
pub record Head : Type 0 where
  pub name : List ℕ
  pub role : SelectedTree

abbrev pub statement_head : List ℕ → SelectedTree → Head
statement_head name role = record { name = name; role = role }

unfoldable pub head : Reader Head
head ts =
    expect Open ts >>= λ _ t1. label t1 >>= λ n t2. expect Comma t2 >>= λ _ t3. role t3 >>= λ r t4. expect Comma t4 >>= λ _ t5.
    found (statement_head n.name r) t5

-- the end of a statement
unfoldable pub finish : Reader (Unit {0})
finish ts = expect Close ts >>= λ _ mid. expect Stop mid

abbrev pub annotated_of : Head → BodyTree → StatementTree
annotated_of h b = annotated_tree (record { name = h.name; role = h.role.name; role_at = h.role.at; body = b })

-- an annotated formula from its parenthesis on
unfoldable pub annotated : ℕ → Reader StatementTree
annotated room ts =
    head ts >>= λ h t1. body_reader room h.role.name t1 >>= λ b t2. notes (inner_notes room) t2 >>= λ _ t3. finish t3 >>= λ _ t4.
    found (annotated_of h b) t4

abbrev pub more_label : List SelectedTree → Reader (List SelectedTree)
more_label labels ts = label ts >>= λ n rest. found (labels ++ n ∷ []) rest

unfoldable pub labels : Reader (List SelectedTree)
labels ts = all_commas more_label [] ts

-- selected names in brackets
unfoldable pub names : Reader (Option (List SelectedTree))
names ts = expect OpenList ts >>= λ _ t1. labels t1 >>= λ ns t2. expect CloseList t2 >>= λ _ t3. found (Some ns) t3

abbrev pub selection_reader : Terminal → Reader (Option (List SelectedTree))
selection_reader (terminal.Mark Comma) ts = names (lexemes_behind ts)
selection_reader _ ts = found None ts

unfoldable pub selection : Reader (Option (List SelectedTree))
selection ts = selection_reader (first_terminal ts) ts

-- an include from its parenthesis on
unfoldable pub include : Reader StatementTree
include ts =
    expect Open ts >>= λ _ t1. quoted_reader t1 >>= λ f t2. selection t2 >>= λ only t3. finish t3 >>= λ _ t4.
    found (include_tree f.at f.name only) t4

abbrev pub keyword_in : List ℕ → Keyword
keyword_in text = if bytes_eq text (codes "thf") then Thf else (if bytes_eq text (codes "include") then Include else Unknown)

abbrev pub keyword_by : Terminal → List ℕ → Keyword
keyword_by terminal.Lower text = keyword_in text
keyword_by _ text = Unknown

unfoldable pub keyword : List Lexeme → Keyword
keyword ts = keyword_by (first_terminal ts) (first_text ts)

abbrev pub statement_by : ℕ → Keyword → Reader StatementTree
statement_by room Thf ts = annotated room (lexemes_behind ts)
statement_by room Include ts = include (lexemes_behind ts)
statement_by room Unknown ts = wrong ts

unfoldable pub statement : ℕ → Reader StatementTree
statement room ts = statement_by room (keyword ts) ts

abbrev pub is_end : Terminal → Bool
is_end terminal.End = true
is_end _ = false

-- the statements up to the end, n at most, behind those that were found before
abbrev pub statements_by : ℕ → (List StatementTree → Reader (List StatementTree)) → List StatementTree → Bool → Reader (List StatementTree)
statements_by room again ss true ts = found ss ts
statements_by room again ss false ts = statement room ts >>= λ s rest. again (ss ++ s ∷ []) rest

unfoldable pub statements : ℕ → ℕ → List StatementTree → Reader (List StatementTree)
statements room zero ss ts = wrong ts
statements room (suc n) ss ts = statements_by room (statements room n) ss (is_end (first_terminal ts)) ts

unfoldable pub file : ℕ → List StatementTree → Reader (List StatementTree)
file room ss ts = statements room (suc (length ts)) ss ts
