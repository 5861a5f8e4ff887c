-- Where contents are told, files are gathered in one way.
use Rattle.std.proofs.Common.{◌≡◌, ℕ, zero, suc, ◌+◌, ◌-◌, ◌<◌, ◌≤◌, ◌⊎◌, inl, inr, true, List, [], ◌∷◌, ◌++◌, length, take, Option, Some, refl, sym, ap, ap₂, subst, ◌∙◌, length-append, arith}
use Rattle.std.proofs.lemmas.Bool.{cases_order}
use Rattle.std.proofs.lemmas.List.{take-take, length-take}
use Rattle.std.proofs.lemmas.Option.{slice_get_within}
use Rattle.std.proofs.Math.Seq.{take-append-add}
use Rattle.outside.specs.Seen.{Seen}
use Rattle.thf_grammar.specs.Trees.{StatementTree}
use Rattle.thf_include.specs.Gathering.{Ending, done, stopped, wants, too_long, no_tree, cycle, too_many, no_name, behind_statements, FileEnds, unread, long, refused, followed, StatementEnds, stays, in_cycle, past_limit, stops, selects, StatementsEnd, no_more, ends, goes_on, IsGathering}
use Rattle.thf_include.specs.View.{PlacedTree}
use Rattle.thf_include.specs.Answer.{AreContents}
use Rattle.thf_include.proofs.Texts.{same-get, same-bytes, take-append}
use Rattle.thf_include.proofs.SameTexts.{file-same, statement-same}
use Rattle.thf_include.proofs.OneEnding.{one-file}

-- files that tell these contents
abbrev pub all_told : (List ℕ → Option (List ℕ)) → Seen
all_told contents = record { tells = true; contents = contents }

-- no file is wanted at the end
abbrev pub IsFinal : Ending → Type 0
IsFinal (done ss) = Unit {0}
IsFinal (stopped (wants file)) = ⊥
IsFinal (stopped (too_long file)) = Unit {0}
IsFinal (stopped (no_tree file at)) = Unit {0}
IsFinal (stopped (cycle file at)) = Unit {0}
IsFinal (stopped (too_many file at)) = Unit {0}
IsFinal (stopped (no_name file at)) = Unit {0}

final-behind : (front : List PlacedTree) (e : Ending) → IsFinal (behind_statements front e) → IsFinal e
final-behind front (done ss) h = tt
final-behind front (stopped why) h = h

-- then each file that is opened has its text
module _ (texts : List (List ℕ)) where
  mutual
    file-covered : (chain : List (List ℕ)) (file : ℕ) (name : List ℕ) (opened : List (List ℕ)) (e : Ending) → IsFinal e → FileEnds texts chain file name opened e → file + length opened ≤ length texts
    file-covered _ _ _ _ _ h (unread chain file name short) = absurd h
    file-covered _ _ _ _ _ h (long chain file name there over) = omega arith
    file-covered _ _ _ _ _ h (refused chain file at name text get within is) = omega (arith, slice_get_within texts file text get)
    file-covered _ _ _ _ _ h (followed chain opened file name text tree e get within is inside) =
        omega (arith, statements-covered (name ∷ chain) file (file + 1) tree opened e (omega (arith, slice_get_within texts file text get)) h inside)

    statement-covered : (chain : List (List ℕ)) (file next : ℕ) (s : StatementTree) (opened : List (List ℕ)) (e : Ending) → next ≤ length texts → IsFinal e → StatementEnds texts chain file next s opened e → next + length opened ≤ length texts
    statement-covered _ _ _ _ _ _ there h (stays chain file next a) = omega arith
    statement-covered _ _ _ _ _ _ there h (in_cycle chain file next at name only is) = omega arith
    statement-covered _ _ _ _ _ _ there h (past_limit chain file next at name only new full) = omega arith
    statement-covered _ _ _ _ _ _ there h (stops chain opened file next at name only why new room inside) = file-covered chain next name opened _ h inside
    statement-covered _ _ _ _ _ _ there h (selects chain opened file next at name only statements new room inside) = file-covered chain next name opened _ tt inside

    statements-covered : (chain : List (List ℕ)) (file next : ℕ) (tree : List StatementTree) (opened : List (List ℕ)) (e : Ending) → next ≤ length texts → IsFinal e → StatementsEnd texts chain file next tree opened e → next + length opened ≤ length texts
    statements-covered _ _ _ _ _ _ there h (no_more chain file next) = omega arith
    statements-covered _ _ _ _ _ _ there h (ends chain opened file next s later why inside) = statement-covered chain file next s opened _ there h inside
    statements-covered _ _ _ _ _ _ there h (goes_on chain opened more file next s later front e first rest) =
        omega (arith, length-append opened more, statements-covered chain file (next + length opened) later more e (statement-covered chain file next s opened _ there tt first) (final-behind front e h) rest)

-- a gathering whose texts are cut off earlier wants the file behind them
module _ (m : ℕ) (texts : List (List ℕ)) where
  same : take m texts ≡ take m (take m texts)
  same = sym (take-take m m texts (omega arith))

  last : (chain : List (List ℕ)) (file : ℕ) (name : List ℕ) → file ≡ m → FileEnds (take m texts) chain file name (name ∷ []) (stopped (wants m))
  last chain file name e = subst (λ k. FileEnds (take m texts) chain file name (name ∷ []) (stopped (wants k))) e (unread chain file name (omega (arith, length-take m texts)))

  -- the cut is in the first statement, or behind it
  joined : (chain : List (List ℕ)) (file next k : ℕ) (s : StatementTree) (later : List StatementTree) (opened more : List (List ℕ)) (front : List PlacedTree)
      → (k ≤ length opened → StatementEnds (take m texts) chain file next s (take k opened) (stopped (wants m)))
      → ((j : ℕ) → k ≡ length opened + j → 0 < j → StatementEnds (take m texts) chain file next s opened (done front) × StatementsEnd (take m texts) chain file (next + length opened) later (take j more) (stopped (wants m)))
      → StatementsEnd (take m texts) chain file next (s ∷ later) (take k (opened ++ more)) (stopped (wants m))
  joined chain file next k s later opened more front one two = go (cases_order k (length opened))
    where
      within : k ≤ length opened → StatementsEnd (take m texts) chain file next (s ∷ later) (take k (opened ++ more)) (stopped (wants m))
      within h =
          subst (λ all. StatementsEnd (take m texts) chain file next (s ∷ later) all (stopped (wants m))) (take-append k opened more h)
          (ends chain (take k opened) file next s later (wants m) (one h))

      behind_it : length opened < k → StatementsEnd (take m texts) chain file next (s ∷ later) (take k (opened ++ more)) (stopped (wants m))
      behind_it h =
          let j = k - length opened in
          let e : k ≡ length opened + j = omega (arith, h) in
          let both = two j e (omega (arith, h)) in
          subst (λ all. StatementsEnd (take m texts) chain file next (s ∷ later) all (stopped (wants m))) (sym (ap (λ n. take n (opened ++ more)) e ∙ take-append-add opened more j))
          (goes_on chain opened (take j more) file next s later front (stopped (wants m)) both.0 both.1)

      go : (k ≡ length opened) ⊎ ((k < length opened) ⊎ (length opened < k)) → StatementsEnd (take m texts) chain file next (s ∷ later) (take k (opened ++ more)) (stopped (wants m))
      go (inl e) = within (omega (arith, e))
      go (inr (inl h)) = within (omega (arith, h))
      go (inr (inr h)) = behind_it h

  mutual
    file-front : (chain : List (List ℕ)) (file : ℕ) (name : List ℕ) (opened : List (List ℕ)) (e : Ending) → FileEnds texts chain file name opened e → (k : ℕ) → 0 < k → file + k ≡ m + 1 → k ≤ length opened → FileEnds (take m texts) chain file name (take k opened) (stopped (wants m))
    file-front _ _ _ _ _ (unread chain file name short) zero some at h = absurd (omega (arith, some))
    file-front _ _ _ _ _ (unread chain file name short) (suc zero) some at h = last chain file name (omega (arith, at))
    file-front _ _ _ _ _ (unread chain file name short) (suc (suc j)) some at h = absurd (omega (arith, h))
    file-front _ _ _ _ _ (long chain file name there over) zero some at h = absurd (omega (arith, some))
    file-front _ _ _ _ _ (long chain file name there over) (suc zero) some at h = last chain file name (omega (arith, at))
    file-front _ _ _ _ _ (long chain file name there over) (suc (suc j)) some at h = absurd (omega (arith, h))
    file-front _ _ _ _ _ (refused chain file place name text get within is) zero some at h = absurd (omega (arith, some))
    file-front _ _ _ _ _ (refused chain file place name text get within is) (suc zero) some at h = last chain file name (omega (arith, at))
    file-front _ _ _ _ _ (refused chain file place name text get within is) (suc (suc j)) some at h = absurd (omega (arith, h))
    file-front _ _ _ _ _ (followed chain opened file name text tree e get within is inside) zero some at h = absurd (omega (arith, some))
    file-front _ _ _ _ _ (followed chain opened file name text tree e get within is inside) (suc zero) some at h = last chain file name (omega (arith, at))
    file-front _ _ _ _ _ (followed chain opened file name text tree e get within is inside) (suc (suc j)) some at h =
        followed chain (take (suc j) opened) file name text tree (stopped (wants m)) (same-get m texts (take m texts) same file (omega (arith, at)) ∙ get) (omega (arith, same-bytes m texts (take m texts) same (file + 1) (omega (arith, at)))) is
        (statements-front (name ∷ chain) file (file + 1) tree opened e inside (suc j) (omega arith) (omega (arith, at)) (omega (arith, h)))

    statement-front : (chain : List (List ℕ)) (file next : ℕ) (s : StatementTree) (opened : List (List ℕ)) (e : Ending) → StatementEnds texts chain file next s opened e → (k : ℕ) → 0 < k → next + k ≡ m + 1 → k ≤ length opened → StatementEnds (take m texts) chain file next s (take k opened) (stopped (wants m))
    statement-front _ _ _ _ _ _ (stays chain file next a) k some at h = absurd (omega (arith, some, h))
    statement-front _ _ _ _ _ _ (in_cycle chain file next place name only is) k some at h = absurd (omega (arith, some, h))
    statement-front _ _ _ _ _ _ (past_limit chain file next place name only new full) k some at h = absurd (omega (arith, some, h))
    statement-front _ _ _ _ _ _ (stops chain opened file next place name only why new room inside) k some at h =
        stops chain (take k opened) file next place name only (wants m) new room (file-front chain next name opened _ inside k some at h)
    statement-front _ _ _ _ _ _ (selects chain opened file next place name only statements new room inside) k some at h =
        stops chain (take k opened) file next place name only (wants m) new room (file-front chain next name opened _ inside k some at h)

    statements-front : (chain : List (List ℕ)) (file next : ℕ) (tree : List StatementTree) (opened : List (List ℕ)) (e : Ending) → StatementsEnd texts chain file next tree opened e → (k : ℕ) → 0 < k → next + k ≡ m + 1 → k ≤ length opened → StatementsEnd (take m texts) chain file next tree (take k opened) (stopped (wants m))
    statements-front _ _ _ _ _ _ (no_more chain file next) k some at h = absurd (omega (arith, some, h))
    statements-front _ _ _ _ _ _ (ends chain opened file next s later why inside) k some at h = ends chain (take k opened) file next s later (wants m) (statement-front chain file next s opened _ inside k some at h)
    statements-front _ _ _ _ _ _ (goes_on chain opened more file next s later front e first rest) k some at h =
        joined chain file next k s later opened more front
        (λ within. statement-front chain file next s opened _ first k some at within)
        (λ j is far. (
          statement-same m texts (take m texts) same chain file next s opened _ (omega (arith, at, is, far)) first,
          statements-front chain file (next + length opened) later more e rest j far (omega (arith, at, is)) (omega (arith, h, is, length-append opened more)),
        ))

-- contents of the same names are the same texts
contents-take : (contents : List ℕ → Option (List ℕ)) (n : ℕ) (names texts others more : List (List ℕ)) → AreContents contents names texts → length names ≤ length texts → AreContents contents others more → length others ≤ length more → take n names ≡ take n others → take n texts ≡ take n more
contents-take contents zero names texts others more h l k r e = refl
contents-take contents (suc n) [] [] [] [] h l k r e = refl
contents-take contents (suc n) [] [] [] (u ∷ us) h l k r e = absurd k
contents-take contents (suc n) [] [] (o ∷ os) more h l k r e = cc
contents-take contents (suc n) [] (t ∷ ts) others more h l k r e = absurd h
contents-take contents (suc n) (x ∷ xs) [] others more h l k r e = absurd (omega (arith, l))
contents-take contents (suc n) (x ∷ xs) (t ∷ ts) [] more h l k r e = cc
contents-take contents (suc n) (x ∷ xs) (t ∷ ts) (o ∷ os) [] h l k r e = absurd (omega (arith, r))
contents-take contents (suc n) (x ∷ xs) (t ∷ ts) (o ∷ os) (u ∷ us) h l k r e =
    let first : x ≡ o = cc in
    let rest : take n xs ≡ take n os = cc in
    let both : Some t ≡ Some u = sym h.0 ∙ ap contents first ∙ k.0 in
    let text : t ≡ u = cc in
    ap₂ (λ a b. a ∷ b) text (contents-take contents n xs ts os us h.1 (omega (arith, l)) k.1 (omega (arith, r)) rest)

pub record IsSameGathering (names others : List (List ℕ)) (e f : Ending) : Type 0 where
  pub names_same : names ≡ others
  pub endings_same : e ≡ f

module _ (contents : List ℕ → Option (List ℕ)) (name : List ℕ) (names texts others more : List (List ℕ)) (e f : Ending)
    (told : AreContents contents names texts) (gathers : IsGathering texts name names e) (final : IsFinal e)
    (also : AreContents contents others more) (again : IsGathering more name others f) (last_too : IsFinal f) where
  all_read : length names ≤ length texts
  all_read = omega (arith, file-covered texts [] 0 name names e final gathers)

  all_read_too : length others ≤ length more
  all_read_too = omega (arith, file-covered more [] 0 name others f last_too again)

  texts_same : (n : ℕ) → take n names ≡ take n others → take n texts ≡ take n more
  texts_same n q = contents-take contents n names texts others more told all_read also all_read_too q

  whole : (n : ℕ) → take n names ≡ take n others → length names ≤ n → IsSameGathering names others e f
  whole n q h =
      let same_ends = one-file more [] 0 name names e (file-same n texts more (texts_same n q) [] 0 name names e (omega (arith, h)) gathers) others f again in
      record { names_same = same_ends.names; endings_same = same_ends.endings }

  whole_too : (n : ℕ) → take n names ≡ take n others → length others ≤ n → IsSameGathering names others e f
  whole_too n q h =
      let same_ends = one-file texts [] 0 name names e gathers others f (file-same n more texts (sym (texts_same n q)) [] 0 name others f (omega (arith, h)) again) in
      record { names_same = same_ends.names; endings_same = same_ends.endings }

  further : (n : ℕ) → take n names ≡ take n others → n < length names → n < length others → take (suc n) names ≡ take (suc n) others
  further n q h k =
      let cut = file-front n texts [] 0 name names e gathers (suc n) (omega arith) (omega arith) (omega (arith, h)) in
      let cut_too = file-front n more [] 0 name others f again (suc n) (omega arith) (omega arith) (omega (arith, k)) in
      let same_ends = one-file (take n texts) [] 0 name (take (suc n) names) (stopped (wants n)) cut (take (suc n) others) (stopped (wants n)) (subst (λ ts. FileEnds ts [] 0 name (take (suc n) others) (stopped (wants n))) (sym (texts_same n q)) cut_too) in
      same_ends.names

  agree : (n : ℕ) → (take n names ≡ take n others) ⊎ IsSameGathering names others e f
  agree zero = inl refl
  agree (suc n) = step (agree n)
    where
      step : (take n names ≡ take n others) ⊎ IsSameGathering names others e f → (take (suc n) names ≡ take (suc n) others) ⊎ IsSameGathering names others e f
      step (inr s) = inr s
      step (inl q) = go (cases_order n (length names)) (cases_order n (length others))
        where
          go : (n ≡ length names) ⊎ ((n < length names) ⊎ (length names < n)) → (n ≡ length others) ⊎ ((n < length others) ⊎ (length others < n)) → (take (suc n) names ≡ take (suc n) others) ⊎ IsSameGathering names others e f
          go (inl h) c = inr (whole n q (omega (arith, h)))
          go (inr (inr h)) c = inr (whole n q (omega (arith, h)))
          go (inr (inl h)) (inl k) = inr (whole_too n q (omega (arith, k)))
          go (inr (inl h)) (inr (inr k)) = inr (whole_too n q (omega (arith, k)))
          go (inr (inl h)) (inr (inl k)) = inl (further n q h k)

  -- two gatherings over files that tell their contents are one, where both want no file
  pub one_told : IsSameGathering names others e f
  one_told = finish (agree (length names))
    where
      finish : (take (length names) names ≡ take (length names) others) ⊎ IsSameGathering names others e f → IsSameGathering names others e f
      finish (inl q) = whole (length names) q (omega arith)
      finish (inr s) = s
