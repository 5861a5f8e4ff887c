-- Texts have one gathering.
use Rattle.std.proofs.Common.{◌≡◌, ℕ, ◌+◌, List, ◌∷◌, ◌++◌, length, Some, refl, sym, ap, ap₂, subst, arith}
use Rattle.std.specs.Prelude.{slice_get}
use Rattle.std.proofs.lemmas.Option.{slice_get_within}
use Rattle.thf_grammar.specs.Trees.{StatementTree}
use Rattle.thf_include.specs.Gathering.{no_tree, Ending, done, stopped, behind_statements, select, IsFileText, IsWrongText, FileEnds, unread, long, refused, followed, StatementEnds, stays, in_cycle, past_limit, stops, selects, StatementsEnd, no_more, ends, goes_on}
use Rattle.thf_include.proofs.FileTexts.{not-refused, same-place, same-tree}

pub record SameEnds (opened others : List (List ℕ)) (one other : Ending) : Type 0 where
  pub names : opened ≡ others
  pub endings : one ≡ other

module _ (texts : List (List ℕ)) where
  apart : (file at : ℕ) (text other : List ℕ) (tree : List StatementTree) → slice_get texts file ≡ Some text → slice_get texts file ≡ Some other → IsFileText text tree → IsWrongText other at → ⊥
  apart file at text other tree get again h r = let e : text ≡ other = cc in not-refused other at tree (subst (λ t. IsFileText t tree) e h) r

  one : (file : ℕ) (text other : List ℕ) (tree another : List StatementTree) → slice_get texts file ≡ Some text → slice_get texts file ≡ Some other → IsFileText text tree → IsFileText other another → another ≡ tree
  one file text other tree another get again h k = let e : other ≡ text = cc in same-tree text another tree (subst (λ t. IsFileText t another) e k) h

  at_one : (file at place : ℕ) (text other : List ℕ) → slice_get texts file ≡ Some text → slice_get texts file ≡ Some other → IsWrongText text at → IsWrongText other place → at ≡ place
  at_one file at place text other get again r s = let e : other ≡ text = cc in same-place text at place r (subst (λ t. IsWrongText t place) e s)

  mutual
    pub one-file : (chain : List (List ℕ)) (file : ℕ) (name : List ℕ) (opened : List (List ℕ)) (e : Ending) → FileEnds texts chain file name opened e → (others : List (List ℕ)) (f : Ending) → FileEnds texts chain file name others f → SameEnds opened others e f
    one-file _ _ _ _ _ (unread chain file name short) _ _ (unread _ _ _ again) = record { names = refl; endings = refl }
    one-file _ _ _ _ _ (unread chain file name short) _ _ (long _ _ _ there over) = absurd (omega arith)
    one-file _ _ _ _ _ (unread chain file name short) _ _ (refused _ _ at _ text get within is) = absurd (omega (arith, slice_get_within texts file text get))
    one-file _ _ _ _ _ (unread chain file name short) _ _ (followed _ opened _ _ text tree ending get within is inside) = absurd (omega (arith, slice_get_within texts file text get))
    one-file _ _ _ _ _ (long chain file name there over) _ _ (unread _ _ _ short) = absurd (omega arith)
    one-file _ _ _ _ _ (long chain file name there over) _ _ (long _ _ _ again more) = record { names = refl; endings = refl }
    one-file _ _ _ _ _ (long chain file name there over) _ _ (refused _ _ at _ text get within is) = absurd (omega arith)
    one-file _ _ _ _ _ (long chain file name there over) _ _ (followed _ opened _ _ text tree ending get within is inside) = absurd (omega arith)
    one-file _ _ _ _ _ (refused chain file at name text get within is) _ _ (unread _ _ _ short) = absurd (omega (arith, slice_get_within texts file text get))
    one-file _ _ _ _ _ (refused chain file at name text get within is) _ _ (long _ _ _ there over) = absurd (omega arith)
    one-file _ _ _ _ _ (refused chain file at name text get within is) _ _ (refused _ _ place _ other again small so) = record { names = refl; endings = ap (λ p. stopped (no_tree file p)) (at_one file at place text other get again is so) }
    one-file _ _ _ _ _ (refused chain file at name text get within is) _ _ (followed _ opened _ _ other tree ending again small so inside) = absurd (apart file at other text tree again get so is)
    one-file _ _ _ _ _ (followed chain opened file name text tree ending get within is inside) _ _ (unread _ _ _ short) = absurd (omega (arith, slice_get_within texts file text get))
    one-file _ _ _ _ _ (followed chain opened file name text tree ending get within is inside) _ _ (long _ _ _ there over) = absurd (omega arith)
    one-file _ _ _ _ _ (followed chain opened file name text tree ending get within is inside) _ _ (refused _ _ at _ other again small so) = absurd (apart file at text other tree get again is so)
    one-file _ _ _ _ _ (followed chain opened file name text tree ending get within is inside) _ _ (followed _ others _ _ other another end again small so within_it) =
        let same = one-statements (name ∷ chain) file (file + 1) tree opened ending inside others end (subst (λ ss. StatementsEnd texts (name ∷ chain) file (file + 1) ss others end) (one file text other tree another get again is so) within_it) in
        record { names = ap (λ ns. name ∷ ns) same.names; endings = same.endings }

    pub one-statement : (chain : List (List ℕ)) (file next : ℕ) (s : StatementTree) (opened : List (List ℕ)) (e : Ending) → StatementEnds texts chain file next s opened e → (others : List (List ℕ)) (f : Ending) → StatementEnds texts chain file next s others f → SameEnds opened others e f
    one-statement _ _ _ _ _ _ (stays chain file next a) _ _ (stays _ _ _ _) = record { names = refl; endings = refl }
    one-statement _ _ _ _ _ _ (in_cycle chain file next at name only is) _ _ (in_cycle _ _ _ _ _ _ again) = record { names = refl; endings = refl }
    one-statement _ _ _ _ _ _ (in_cycle chain file next at name only is) _ _ (past_limit _ _ _ _ _ _ new full) = absurd (new is)
    one-statement _ _ _ _ _ _ (in_cycle chain file next at name only is) _ _ (stops _ opened _ _ _ _ _ why new room inside) = absurd (new is)
    one-statement _ _ _ _ _ _ (in_cycle chain file next at name only is) _ _ (selects _ opened _ _ _ _ _ statements new room inside) = absurd (new is)
    one-statement _ _ _ _ _ _ (past_limit chain file next at name only new full) _ _ (in_cycle _ _ _ _ _ _ is) = absurd (new is)
    one-statement _ _ _ _ _ _ (past_limit chain file next at name only new full) _ _ (past_limit _ _ _ _ _ _ again more) = record { names = refl; endings = refl }
    one-statement _ _ _ _ _ _ (past_limit chain file next at name only new full) _ _ (stops _ opened _ _ _ _ _ why again room inside) = absurd (omega arith)
    one-statement _ _ _ _ _ _ (past_limit chain file next at name only new full) _ _ (selects _ opened _ _ _ _ _ statements again room inside) = absurd (omega arith)
    one-statement _ _ _ _ _ _ (stops chain opened file next at name only why new room inside) _ _ (in_cycle _ _ _ _ _ _ is) = absurd (new is)
    one-statement _ _ _ _ _ _ (stops chain opened file next at name only why new room inside) _ _ (past_limit _ _ _ _ _ _ again full) = absurd (omega arith)
    one-statement _ _ _ _ _ _ (stops chain opened file next at name only why new room inside) _ _ (stops _ others _ _ _ _ _ other again more within) = one-file chain next name opened (stopped why) inside others (stopped other) within
    one-statement _ _ _ _ _ _ (stops chain opened file next at name only why new room inside) _ _ (selects _ others _ _ _ _ _ statements again more within) =
        let same = (one-file chain next name opened (stopped why) inside others (done statements) within).endings in cc
    one-statement _ _ _ _ _ _ (selects chain opened file next at name only statements new room inside) _ _ (in_cycle _ _ _ _ _ _ is) = absurd (new is)
    one-statement _ _ _ _ _ _ (selects chain opened file next at name only statements new room inside) _ _ (past_limit _ _ _ _ _ _ again full) = absurd (omega arith)
    one-statement _ _ _ _ _ _ (selects chain opened file next at name only statements new room inside) _ _ (stops _ others _ _ _ _ _ why again more within) =
        let same = (one-file chain next name opened (done statements) inside others (stopped why) within).endings in cc
    one-statement _ _ _ _ _ _ (selects chain opened file next at name only statements new room inside) _ _ (selects _ others _ _ _ _ _ gathered again more within) =
        let same = one-file chain next name opened (done statements) inside others (done gathered) within in
        let e : statements ≡ gathered = let d = same.endings in cc in
        record { names = same.names; endings = ap (λ ps. select file only ps) e }

    pub one-statements : (chain : List (List ℕ)) (file next : ℕ) (tree : List StatementTree) (opened : List (List ℕ)) (e : Ending) → StatementsEnd texts chain file next tree opened e → (others : List (List ℕ)) (f : Ending) → StatementsEnd texts chain file next tree others f → SameEnds opened others e f
    one-statements _ _ _ _ _ _ (no_more chain file next) _ _ (no_more _ _ _) = record { names = refl; endings = refl }
    one-statements _ _ _ _ _ _ (ends chain opened file next s later why inside) _ _ (ends _ others _ _ _ _ other within) = one-statement chain file next s opened (stopped why) inside others (stopped other) within
    one-statements _ _ _ _ _ _ (ends chain opened file next s later why inside) _ _ (goes_on _ others more _ _ _ _ front ending first rest) =
        let same = (one-statement chain file next s opened (stopped why) inside others (done front) first).endings in cc
    one-statements _ _ _ _ _ _ (goes_on chain opened more file next s later front ending first rest) _ _ (ends _ others _ _ _ _ why inside) =
        let same = (one-statement chain file next s opened (done front) first others (stopped why) inside).endings in cc
    one-statements _ _ _ _ _ _ (goes_on chain opened more file next s later front ending first rest) _ _ (goes_on _ others most _ _ _ _ before last again end) =
        let same = one-statement chain file next s opened (done front) first others (done before) again in
        let e : front ≡ before = let d = same.endings in cc in
        let after = one-statements chain file (next + length opened) later more ending rest most last (subst (λ ns. StatementsEnd texts chain file (next + length ns) later most last) (sym same.names) end) in
        record {
          names = ap₂ (λ xs ys. xs ++ ys) same.names after.names;
          endings = ap₂ behind_statements e after.endings;
        }
