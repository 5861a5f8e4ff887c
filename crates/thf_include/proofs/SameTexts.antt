-- A gathering depends on the texts of the files that it opens alone.
use Rattle.std.proofs.Common.{◌≡◌, ℕ, ◌+◌, ◌≤◌, List, ◌∷◌, length, take, ◌∙◌, length-append, arith}
use Rattle.thf_grammar.specs.Trees.{StatementTree}
use Rattle.thf_include.specs.Gathering.{Ending, FileEnds, unread, long, refused, followed, StatementEnds, stays, in_cycle, past_limit, stops, selects, StatementsEnd, no_more, ends, goes_on}
use Rattle.thf_include.proofs.Texts.{same-get, same-short, same-long, same-bytes}

module _ (n : ℕ) (texts others : List (List ℕ)) (same : take n texts ≡ take n others) where
  mutual
    pub file-same : (chain : List (List ℕ)) (file : ℕ) (name : List ℕ) (opened : List (List ℕ)) (ending : Ending) → file + length opened ≤ n → FileEnds texts chain file name opened ending → FileEnds others chain file name opened ending
    file-same _ _ _ _ _ h (unread chain file name short) = unread chain file name (same-short n texts others same file (omega arith) short)
    file-same _ _ _ _ _ h (long chain file name there over) = long chain file name (same-long n texts others same file (omega arith) there) (omega (arith, same-bytes n texts others same (file + 1) (omega arith)))
    file-same _ _ _ _ _ h (refused chain file at name text get within is) = refused chain file at name text (same-get n texts others same file (omega arith) ∙ get) (omega (arith, same-bytes n texts others same (file + 1) (omega arith))) is
    file-same _ _ _ _ _ h (followed chain opened file name text tree ending get within is inside) =
        followed chain opened file name text tree ending (same-get n texts others same file (omega arith) ∙ get) (omega (arith, same-bytes n texts others same (file + 1) (omega arith))) is
        (statements-same (name ∷ chain) file (file + 1) tree opened ending (omega arith) inside)

    pub statement-same : (chain : List (List ℕ)) (file next : ℕ) (s : StatementTree) (opened : List (List ℕ)) (ending : Ending) → next + length opened ≤ n → StatementEnds texts chain file next s opened ending → StatementEnds others chain file next s opened ending
    statement-same _ _ _ _ _ _ h (stays chain file next a) = stays chain file next a
    statement-same _ _ _ _ _ _ h (in_cycle chain file next at name only is) = in_cycle chain file next at name only is
    statement-same _ _ _ _ _ _ h (past_limit chain file next at name only new full) = past_limit chain file next at name only new full
    statement-same _ _ _ _ _ _ h (stops chain opened file next at name only why new room inside) = stops chain opened file next at name only why new room (file-same chain next name opened _ h inside)
    statement-same _ _ _ _ _ _ h (selects chain opened file next at name only statements new room inside) = selects chain opened file next at name only statements new room (file-same chain next name opened _ h inside)

    pub statements-same : (chain : List (List ℕ)) (file next : ℕ) (tree : List StatementTree) (opened : List (List ℕ)) (ending : Ending) → next + length opened ≤ n → StatementsEnd texts chain file next tree opened ending → StatementsEnd others chain file next tree opened ending
    statements-same _ _ _ _ _ _ h (no_more chain file next) = no_more chain file next
    statements-same _ _ _ _ _ _ h (ends chain opened file next s later why inside) = ends chain opened file next s later why (statement-same chain file next s opened _ h inside)
    statements-same _ _ _ _ _ _ h (goes_on chain opened more file next s later front ending first rest) =
        goes_on chain opened more file next s later front ending
        (statement-same chain file next s opened _ (omega (arith, length-append opened more)) first)
        (statements-same chain file (next + length opened) later more ending (omega (arith, length-append opened more)) rest)
