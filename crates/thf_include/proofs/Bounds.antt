-- How many statements are gathered, and the numbers of their files.
use Rattle.std.proofs.Common.{◌≡◌, ℕ, suc, ◌+◌, ◌<◌, ◌≤◌, List, [], ◌∷◌, ◌++◌, length, Bool, true, false, Option, Some, None, refl, ap, subst, length-append, arith}
use Rattle.std.specs.Prelude.{cond, filter, find}
use Rattle.std.specs.List.{AllByRecursion}
use Rattle.thf_grammar.specs.Trees.{SelectedTree, StatementTree}
use Rattle.outside.specs.Limits.{byte_limit}
use Rattle.thf_include.specs.View.{PlacedTree}
use Rattle.thf_include.specs.Gathering.{Ending, done, stopped, bytes_of, placed_statement, select, select_by, is_selected, is_missing, FileEnds, unread, long, refused, followed, StatementEnds, stays, in_cycle, past_limit, stops, selects, StatementsEnd, no_more, ends, goes_on}
use Rattle.thf_include.proofs.Texts.{bytes_of-more}
use Rattle.thf_include.proofs.Trees.{tree-short}

-- each statement is of a file below the number
abbrev pub AreBelow : ℕ → List PlacedTree → Type 0
AreBelow n ps = AllByRecursion (λ (p : PlacedTree). p.file < n) ps

below-more : (n m : ℕ) (ps : List PlacedTree) → n ≤ m → AreBelow n ps → AreBelow m ps
below-more n m [] h k = tt
below-more n m (p ∷ ps) h k = (omega (arith, k.0), below-more n m ps h k.1)

below-append : (n : ℕ) (ps qs : List PlacedTree) → AreBelow n ps → AreBelow n qs → AreBelow n (ps ++ qs)
below-append n [] qs h k = k
below-append n (p ∷ ps) qs h k = (h.0, below-append n ps qs h.1 k)

-- some of the statements
record Part (n : ℕ) (ps qs : List PlacedTree) : Type 0 where
  shorter : length qs ≤ length ps
  below : AreBelow n qs

filtered : (n : ℕ) (test : PlacedTree → Bool) (ps : List PlacedTree) → AreBelow n ps → Part n ps (filter test ps)
filtered n test [] h = record { shorter = omega arith; below = tt }
filtered n test (p ∷ ps) h = go (filtered n test ps h.1) (test p)
  where
    go : Part n ps (filter test ps) → (b : Bool) → Part n (p ∷ ps) (cond b (p ∷ filter test ps) (filter test ps))
    go rest true = record { shorter = omega (arith, rest.shorter); below = (h.0, rest.below) }
    go rest false = record { shorter = omega (arith, rest.shorter); below = rest.below }

chosen : (n file : ℕ) (only : List SelectedTree) (missing : Option SelectedTree) (ps qs : List PlacedTree) → select_by missing file only ps ≡ done qs → AreBelow n ps → Part n ps qs
chosen n file only None ps qs e h = let k : filter (is_selected only) ps ≡ qs = cc in subst (Part n ps) k (filtered n (is_selected only) ps h)
chosen n file only (Some s) ps qs e h = cc

selected : (n file : ℕ) (only : Option (List SelectedTree)) (ps qs : List PlacedTree) → select file only ps ≡ done qs → AreBelow n ps → Part n ps qs
selected n file None ps qs e h = let k : ps ≡ qs = cc in subst (Part n ps) k (record { shorter = omega arith; below = h })
selected n file (Some only) ps qs e h = chosen n file only (find (is_missing ps) only) ps qs e h

-- what is gathered where the files from the first number up to the second are opened, besides so many statements of the file itself
pub record AreBounded (texts : List (List ℕ)) (from to own : ℕ) (ps : List PlacedTree) : Type 0 where
  pub counted : bytes_of texts from + length ps ≤ bytes_of texts to + own
  pub within : bytes_of texts to ≤ byte_limit
  pub below : AreBelow to ps

module _ (texts : List (List ℕ)) where
  mutual
    pub file-bounded : (chain : List (List ℕ)) (file : ℕ) (name : List ℕ) (opened : List (List ℕ)) (ending : Ending) → FileEnds texts chain file name opened ending → (ps : List PlacedTree) → ending ≡ done ps → AreBounded texts file (file + length opened) 0 ps
    file-bounded _ _ _ _ _ (unread chain file name short) ps e = cc
    file-bounded _ _ _ _ _ (long chain file name there over) ps e = cc
    file-bounded _ _ _ _ _ (refused chain file at name text get within is) ps e = cc
    file-bounded _ _ _ _ _ (followed chain opened file name text tree ending get within is inside) ps e =
        let b = statements-bounded (name ∷ chain) file (file + 1) tree opened ending inside ps e (omega arith) within in
        let same : (file + 1) + length opened ≡ file + suc (length opened) = omega arith in
        record {
          counted = omega (arith, b.counted, bytes_of-more texts file text get, tree-short text tree is, ap (bytes_of texts) same);
          within = omega (arith, b.within, ap (bytes_of texts) same);
          below = subst (λ n. AreBelow n ps) same b.below;
        }

    statement-bounded : (chain : List (List ℕ)) (file next : ℕ) (s : StatementTree) (opened : List (List ℕ)) (ending : Ending) → StatementEnds texts chain file next s opened ending → (ps : List PlacedTree) → ending ≡ done ps → file < next → bytes_of texts next ≤ byte_limit → AreBounded texts next (next + length opened) 1 ps
    statement-bounded _ _ _ _ _ _ (stays chain file next a) ps e earlier fits =
        let k : placed_statement file a ∷ [] ≡ ps = cc in
        let same : next + 0 ≡ next = omega arith in
        record {
          counted = omega (arith, ap length k, ap (bytes_of texts) same);
          within = omega (arith, ap (bytes_of texts) same);
          below = subst (AreBelow (next + 0)) k (omega arith, tt);
        }
    statement-bounded _ _ _ _ _ _ (in_cycle chain file next at name only is) ps e earlier fits = cc
    statement-bounded _ _ _ _ _ _ (past_limit chain file next at name only new full) ps e earlier fits = cc
    statement-bounded _ _ _ _ _ _ (stops chain opened file next at name only why new room inside) ps e earlier fits = cc
    statement-bounded _ _ _ _ _ _ (selects chain opened file next at name only statements new room inside) ps e earlier fits =
        let b = file-bounded chain next name opened (done statements) inside statements refl in
        let part = selected (next + length opened) file only statements ps e b.below in
        record { counted = omega (arith, b.counted, part.shorter); within = b.within; below = part.below }

    statements-bounded : (chain : List (List ℕ)) (file next : ℕ) (tree : List StatementTree) (opened : List (List ℕ)) (ending : Ending) → StatementsEnd texts chain file next tree opened ending → (ps : List PlacedTree) → ending ≡ done ps → file < next → bytes_of texts next ≤ byte_limit → AreBounded texts next (next + length opened) (length tree) ps
    statements-bounded _ _ _ _ _ _ (no_more chain file next) ps e earlier fits =
        let k : [] ≡ ps = cc in
        let same : next + 0 ≡ next = omega arith in
        record {
          counted = omega (arith, ap length k, ap (bytes_of texts) same);
          within = omega (arith, ap (bytes_of texts) same);
          below = subst (AreBelow (next + 0)) k tt;
        }
    statements-bounded _ _ _ _ _ _ (ends chain opened file next s later why inside) ps e earlier fits = cc
    statements-bounded _ _ _ _ _ _ (goes_on chain opened more file next s later front (stopped why) first rest) ps e earlier fits = cc
    statements-bounded _ _ _ _ _ _ (goes_on chain opened more file next s later front (done back) first rest) ps e earlier fits =
        let a = statement-bounded chain file next s opened (done front) first front refl earlier fits in
        let b = statements-bounded chain file (next + length opened) later more (done back) rest back refl (omega arith) a.within in
        let k : front ++ back ≡ ps = cc in
        let same : (next + length opened) + length more ≡ next + length (opened ++ more) = omega (arith, length-append opened more) in
        record {
          counted = omega (arith, a.counted, b.counted, ap length k, length-append front back, ap (bytes_of texts) same);
          within = omega (arith, b.within, ap (bytes_of texts) same);
          below = subst (AreBelow (next + length (opened ++ more))) k (subst (λ n. AreBelow n (front ++ back)) same (below-append ((next + length opened) + length more) front back (below-more (next + length opened) ((next + length opened) + length more) front (omega arith) a.below) b.below));
        }
