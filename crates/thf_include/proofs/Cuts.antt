-- A gathering whose texts are cut off before those of the last file that it opens wants that file.
use Rattle.std.proofs.Common.{◌≡◌, ℕ, ◌+◌, ◌<◌, List, [], ◌∷◌, length, take, sym, subst, ◌∙◌, length-append, arith}
use Rattle.std.proofs.lemmas.List.{take-take, length-take, append-nil}
use Rattle.thf_grammar.specs.Trees.{StatementTree}
use Rattle.thf_include.specs.Gathering.{Ending, stopped, wants, FileEnds, unread, long, refused, followed, StatementEnds, stays, in_cycle, past_limit, stops, selects, StatementsEnd, no_more, ends, goes_on}
use Rattle.thf_include.proofs.Texts.{same-get, same-bytes}
use Rattle.thf_include.proofs.SameTexts.{statement-same}

module _ (m : ℕ) (texts : List (List ℕ)) where
  same : take m texts ≡ take m (take m texts)
  same = sym (take-take m m texts (omega arith))

  -- the last file that is opened is this one
  last : (chain : List (List ℕ)) (file : ℕ) (name : List ℕ) → file ≡ m → FileEnds (take m texts) chain file name (name ∷ []) (stopped (wants m))
  last chain file name e = subst (λ k. FileEnds (take m texts) chain file name (name ∷ []) (stopped (wants k))) e (unread chain file name (omega (arith, length-take m texts)))

  mutual
    pub file-cut : (chain : List (List ℕ)) (file : ℕ) (name : List ℕ) (opened : List (List ℕ)) (ending : Ending) → file + length opened ≡ m + 1 → FileEnds texts chain file name opened ending → FileEnds (take m texts) chain file name opened (stopped (wants m))
    file-cut _ _ _ _ _ h (unread chain file name short) = last chain file name (omega arith)
    file-cut _ _ _ _ _ h (long chain file name there over) = last chain file name (omega arith)
    file-cut _ _ _ _ _ h (refused chain file at name text get within is) = last chain file name (omega arith)
    file-cut _ _ _ _ _ h (followed chain [] file name text tree ending get within is inside) = last chain file name (omega arith)
    file-cut _ _ _ _ _ h (followed chain (o ∷ os) file name text tree ending get within is inside) =
        followed chain (o ∷ os) file name text tree (stopped (wants m)) (same-get m texts (take m texts) same file (omega arith) ∙ get) (omega (arith, same-bytes m texts (take m texts) same (file + 1) (omega arith))) is
        (statements-cut (name ∷ chain) file (file + 1) tree (o ∷ os) ending (omega arith) (omega arith) inside)

    pub statement-cut : (chain : List (List ℕ)) (file next : ℕ) (s : StatementTree) (opened : List (List ℕ)) (ending : Ending) → next + length opened ≡ m + 1 → 0 < length opened → StatementEnds texts chain file next s opened ending → StatementEnds (take m texts) chain file next s opened (stopped (wants m))
    statement-cut _ _ _ _ _ _ h some (stays chain file next a) = absurd (omega arith)
    statement-cut _ _ _ _ _ _ h some (in_cycle chain file next at name only is) = absurd (omega arith)
    statement-cut _ _ _ _ _ _ h some (past_limit chain file next at name only new full) = absurd (omega arith)
    statement-cut _ _ _ _ _ _ h some (stops chain opened file next at name only why new room inside) = stops chain opened file next at name only (wants m) new room (file-cut chain next name opened _ h inside)
    statement-cut _ _ _ _ _ _ h some (selects chain opened file next at name only statements new room inside) = stops chain opened file next at name only (wants m) new room (file-cut chain next name opened _ h inside)

    pub statements-cut : (chain : List (List ℕ)) (file next : ℕ) (tree : List StatementTree) (opened : List (List ℕ)) (ending : Ending) → next + length opened ≡ m + 1 → 0 < length opened → StatementsEnd texts chain file next tree opened ending → StatementsEnd (take m texts) chain file next tree opened (stopped (wants m))
    statements-cut _ _ _ _ _ _ h some (no_more chain file next) = absurd (omega arith)
    statements-cut _ _ _ _ _ _ h some (ends chain opened file next s later why inside) = ends chain opened file next s later (wants m) (statement-cut chain file next s opened _ h some inside)
    statements-cut _ _ _ _ _ _ h some (goes_on chain opened [] file next s later front ending first rest) =
        subst (λ all. StatementsEnd (take m texts) chain file next (s ∷ later) all (stopped (wants m))) (sym (append-nil opened))
        (ends chain opened file next s later (wants m) (statement-cut chain file next s opened _ (omega (arith, length-append opened [])) (omega (arith, length-append opened [])) first))
    statements-cut _ _ _ _ _ _ h some (goes_on chain opened (o ∷ os) file next s later front ending first rest) =
        goes_on chain opened (o ∷ os) file next s later front (stopped (wants m))
        (statement-same m texts (take m texts) same chain file next s opened _ (omega (arith, length-append opened (o ∷ os))) first)
        (statements-cut chain file (next + length opened) later (o ∷ os) ending (omega (arith, length-append opened (o ∷ os))) (omega arith) rest)
