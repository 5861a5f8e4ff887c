-- The names that a problem's statements declare are printable.
use Rattle.std.proofs.Common.{◌+◌, ℕ, Bool, true, false, List, [], ◌∷◌, ◌++◌, length, filter, find, cond, Option, Some, None}
use Rattle.std.specs.List.{AllByRecursion}
use Rattle.std.proofs.lemmas.List.Elements.{All-from_recursion}
use Rattle.thf_grammar.specs.Trees.{BodyTree, base, typing, formula, SelectedTree, StatementTree}
use Rattle.thf_grammar.specs.Printable.{IsPrintable, BodyDeclaresPrintable, DeclaresPrintable, DeclaredArePrintable}
use Rattle.thf_parse.specs.Parsing.{depth_limit}
use Rattle.thf_parse.proofs.PrintableLaws.{declared-printable}
use Rattle.thf_include.specs.View.{PlacedTree}
use Rattle.thf_include.specs.Gathering.{Ending, done, stopped, behind_statements, is_selected, is_missing, select_by, select, FileEnds, unread, long, refused, followed, StatementEnds, stays, in_cycle, past_limit, stops, selects, StatementsEnd, no_more, ends, goes_on, IsGathering}
use Rattle.type_check.specs.Internal.ProblemNames.{IsDeclaredWith, AllDeclared}

-- each name that a statement declares is printable
abbrev DeclarePrintable : List PlacedTree → Type 0
DeclarePrintable statements = AllByRecursion (λ (s : PlacedTree). IsDeclaredWith IsPrintable s.statement.body) statements

body_printable : (b : BodyTree) → BodyDeclaresPrintable b → IsDeclaredWith IsPrintable b
body_printable (base at name) h = h
body_printable (typing at name ty) h = h
body_printable (formula tree) h = tt

-- the statements that are gathered declare printable names
abbrev EndsPrintable : Ending → Type 0
EndsPrintable (done ss) = DeclarePrintable ss
EndsPrintable (stopped why) = Unit {0}

append_printable : (ss ts : List PlacedTree) → DeclarePrintable ss → DeclarePrintable ts → DeclarePrintable (ss ++ ts)
append_printable [] ts h k = k
append_printable (s ∷ ss) ts h k = (h.0, append_printable ss ts h.1 k)

behind_printable : (ss : List PlacedTree) (ending : Ending) → DeclarePrintable ss → EndsPrintable ending → EndsPrintable (behind_statements ss ending)
behind_printable ss (done ts) h k = append_printable ss ts h k
behind_printable ss (stopped why) h k = tt

filter_printable : (p : PlacedTree → Bool) (ss : List PlacedTree) → DeclarePrintable ss → DeclarePrintable (filter p ss)
filter_printable p [] h = tt
filter_printable p (s ∷ ss) h = go (p s) (filter_printable p ss h.1)
  where
    go : (b : Bool) → DeclarePrintable (filter p ss) → DeclarePrintable (cond b (s ∷ filter p ss) (filter p ss))
    go true rest = (h.0, rest)
    go false rest = rest

select_printable : (file : ℕ) (only : Option (List SelectedTree)) (ss : List PlacedTree) → DeclarePrintable ss → EndsPrintable (select file only ss)
select_printable file None ss h = h
select_printable file (Some only) ss h = go (find (is_missing ss) only)
  where
    go : (o : Option SelectedTree) → EndsPrintable (select_by o file only ss)
    go None = filter_printable (is_selected only) ss h
    go (Some s) = tt

module _ (texts : List (List ℕ)) where
  mutual
    file_printable : (chain : List (List ℕ)) (file : ℕ) (name : List ℕ) (opened : List (List ℕ)) (ending : Ending) → FileEnds texts chain file name opened ending → EndsPrintable ending
    file_printable chain file name opened ending (unread chain' file' name' l) = tt
    file_printable chain file name opened ending (long chain' file' name' l m) = tt
    file_printable chain file name opened ending (refused chain' file' at name' text g l r) = tt
    file_printable chain file name opened ending (followed chain' opened' file' name' text tree ending' g l t e) =
        statements_printable (name' ∷ chain') file' (file' + 1) tree opened' ending' (declared-printable text t.tokens depth_limit tree t.read t.parsed) e

    statement_printable : (chain : List (List ℕ)) (file next : ℕ) (s : StatementTree) (opened : List (List ℕ)) (ending : Ending) → DeclaresPrintable s → StatementEnds texts chain file next s opened ending → EndsPrintable ending
    statement_printable chain file next s opened ending h (stays chain' file' next' a) = (body_printable a.body h, tt)
    statement_printable chain file next s opened ending h (in_cycle chain' file' next' at name only c) = tt
    statement_printable chain file next s opened ending h (past_limit chain' file' next' at name only c l) = tt
    statement_printable chain file next s opened ending h (stops chain' opened' file' next' at name only why c l e) = tt
    statement_printable chain file next s opened ending h (selects chain' opened' file' next' at name only ss c l e) =
        select_printable file' only ss (file_printable chain' next' name opened' (done ss) e)

    statements_printable : (chain : List (List ℕ)) (file next : ℕ) (tree : List StatementTree) (opened : List (List ℕ)) (ending : Ending) → DeclaredArePrintable tree → StatementsEnd texts chain file next tree opened ending → EndsPrintable ending
    statements_printable chain file next tree opened ending h (no_more chain' file' next') = tt
    statements_printable chain file next tree opened ending h (ends chain' opened' file' next' s later why e) = tt
    statements_printable chain file next tree opened ending h (goes_on chain' opened' others file' next' s later front ending' e f) =
        behind_printable front ending' (statement_printable chain' file' next' s opened' (done front) h.0 e) (statements_printable chain' file' (next' + length opened') later others ending' h.1 f)

-- the statements that are gathered from a file declare printable names
pub gathered_printable : (texts : List (List ℕ)) (name : List ℕ) (names : List (List ℕ)) (ss : List PlacedTree) → IsGathering texts name names (done ss) → AllDeclared IsPrintable ss
gathered_printable texts name names ss h =
    All-from_recursion (λ (s : PlacedTree). IsDeclaredWith IsPrintable s.statement.body) ss (file_printable texts [] 0 name names (done ss) h)
