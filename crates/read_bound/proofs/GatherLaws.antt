-- What is gathered has types that nest no deeper than tokens may.
use Rattle.std.proofs.Common.{ℕ, List, Option, Some, None}
use Rattle.std.specs.List.{find}
use Rattle.thf_grammar.specs.Trees.{StatementTree, SelectedTree}
use Rattle.thf_parse.specs.Parsing.{depth_limit}
use Rattle.thf_include.specs.View.{PlacedTree}
use Rattle.thf_include.specs.Gathering.{Ending, done, stopped, behind_statements, IsFileText, is_selected, is_missing, select_by, select, FileEnds, unread, long, refused, followed, StatementEnds, stays, in_cycle, past_limit, stops, selects, StatementsEnd, no_more, ends, goes_on}
use Rattle.tableau_calculus.specs.Each.{Each}
use Rattle.search_spec.proofs.NamingLaws.{each-joined}
use Rattle.search_spec.proofs.TypedPushes.{each_filtered}
use Rattle.read_bound.specs.Read.{IsShallowBody, IsShallowStatement}
use Rattle.read_bound.proofs.TreeLaws.{file_within}

abbrev pub IsShallowPlaced : PlacedTree → Type 0
IsShallowPlaced p = IsShallowBody depth_limit p.statement.body

abbrev pub EndsShallow : Ending → Type 0
EndsShallow (done ss) = Each IsShallowPlaced ss
EndsShallow (stopped why) = Unit {0}

behind_shallow : (front : List PlacedTree) (e : Ending) → Each IsShallowPlaced front → EndsShallow e → EndsShallow (behind_statements front e)
behind_shallow front (done ss) h k = each-joined IsShallowPlaced front ss h k
behind_shallow front (stopped why) h k = tt

by_shallow : (o : Option SelectedTree) (file : ℕ) (only : List SelectedTree) (ss : List PlacedTree) → Each IsShallowPlaced ss → EndsShallow (select_by o file only ss)
by_shallow None file only ss h = each_filtered IsShallowPlaced IsShallowPlaced (is_selected only) (λ p k e. k) ss h
by_shallow (Some s) file only ss h = tt

select_shallow : (file : ℕ) (o : Option (List SelectedTree)) (ss : List PlacedTree) → Each IsShallowPlaced ss → EndsShallow (select file o ss)
select_shallow file None ss h = h
select_shallow file (Some only) ss h = by_shallow (find (is_missing ss) only) file only ss h

tree_shallow : (text : List ℕ) (tree : List StatementTree) → IsFileText text tree → Each (IsShallowStatement depth_limit) tree
tree_shallow text tree is = file_within depth_limit is.parsed.file is.parsed.within

module _ (texts : List (List ℕ)) where
  mutual
    pub file_shallow : {chain : List (List ℕ)} {file : ℕ} {name : List ℕ} {opened : List (List ℕ)} {e : Ending} → FileEnds texts chain file name opened e → EndsShallow e
    file_shallow (unread chain file name h) = tt
    file_shallow (long chain file name h k) = tt
    file_shallow (refused chain file at name text h k w) = tt
    file_shallow (followed chain opened file name text tree ending h k is later) = statements_shallow later (tree_shallow text tree is)

    statement_shallow : {chain : List (List ℕ)} {file next : ℕ} {s : StatementTree} {opened : List (List ℕ)} {e : Ending} → StatementEnds texts chain file next s opened e → IsShallowStatement depth_limit s → EndsShallow e
    statement_shallow (stays chain file next a) h = (h, tt)
    statement_shallow (in_cycle chain file next at name only there) h = tt
    statement_shallow (past_limit chain file next at name only new many) h = tt
    statement_shallow (stops chain opened file next at name only why new few k) h = tt
    statement_shallow (selects chain opened file next at name only statements new few k) h = select_shallow file only statements (file_shallow k)

    statements_shallow : {chain : List (List ℕ)} {file next : ℕ} {ss : List StatementTree} {opened : List (List ℕ)} {e : Ending} → StatementsEnd texts chain file next ss opened e → Each (IsShallowStatement depth_limit) ss → EndsShallow e
    statements_shallow (no_more chain file next) h = tt
    statements_shallow (ends chain opened file next s later why k) h = tt
    statements_shallow (goes_on chain opened others file next s later front ending k l) h = behind_shallow front ending (statement_shallow k h.0) (statements_shallow l h.1)
