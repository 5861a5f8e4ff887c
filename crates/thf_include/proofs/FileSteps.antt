-- The step of a file.
use Rattle.std.proofs.Common.{◌≡◌, ℕ, zero, suc, ◌+◌, ◌-◌, ◌<◌, ◌≤◌, ◌⊎◌, inl, inr, IsTrue, List, [], ◌∷◌, ◌++◌, length, take, slice_get, Some, Result, Ok, Err, refl, sym, ap, subst, ◌∙◌, append_assoc, length-append, arith}
use Rattle.std.proofs.lemmas.List.{append-nil}
use Rattle.std.proofs.Math.Seq.{take-append-add}
use Rattle.thf_grammar.specs.Trees.{StatementTree}
use Rattle.outside.specs.Limits.{byte_limit}
use Rattle.outside.specs.Seen.{Seen}
use Rattle.thf_include.specs.declared.opened.Opened.{Opened}
use Rattle.thf_include.specs.declared.refused.GatherRefused.{GatherRefused}
use Rattle.thf_include.specs.declared.refused.GatherRefused.TheVariants.{Fault, TooLong, Syntax, Cycle, NoSuchName, TooMany, Memory}
use Rattle.thf_include.specs.View.{PlacedTree}
use Rattle.thf_include.specs.Gathering.{Stop, Ending, stopped, wants, too_long, no_tree, bytes_of, IsFileText, FileEnds, unread, long, refused, followed, StatementsEnd}
use Rattle.thf_include.specs.Internal.Opening.{IsReadRefusal, IsTextRefusal}
use Rattle.thf_include.specs.Answer.{AreContents, StopsAs}
use Rattle.thf_include.specs.Internal.Steps.{AreRead, StepsEndAs, IsStep, FileSteps, StatementsStep}
use Rattle.thf_include.proofs.Texts.{same-get, same-bytes, take-append, bytes_of-more}
use Rattle.thf_include.proofs.Stops.{StopsAs-map, StopsAs-cases, AreContents-take}

slice_get-last : {A : Type 0} (xs : List A) (x : A) (n : ℕ) → n ≡ length xs → slice_get (xs ++ x ∷ []) n ≡ Some x
slice_get-last [] x zero e = refl
slice_get-last [] x (suc n) e = cc
slice_get-last (y ∷ ys) x zero e = cc
slice_get-last (y ∷ ys) x (suc n) e = slice_get-last ys x n cc

-- one more text behind those that were read
module _ (texts : List (List ℕ)) (text : List ℕ) (n : ℕ) (each : n ≡ length texts) where
  pub here : slice_get (texts ++ text ∷ []) n ≡ Some text
  here = slice_get-last texts text n each

  pub bytes-here : bytes_of (texts ++ text ∷ []) (n + 1) ≡ bytes_of texts (length texts) + length text
  bytes-here =
      let front : bytes_of (texts ++ text ∷ []) n ≡ bytes_of texts n = same-bytes n texts (texts ++ text ∷ []) (take-append n texts (text ∷ []) (omega arith)) n (omega arith) in
      omega (arith, bytes_of-more (texts ++ text ∷ []) n text here, front, ap (bytes_of texts) each)

-- reading of one more text
pub read-more : (texts : List (List ℕ)) (text name : List ℕ) (old new : Opened) → new.names ≡ old.names ++ name ∷ [] → new.left + length text ≡ old.left → AreRead texts old → AreRead (texts ++ text ∷ []) new
read-more texts text name old new names left r =
    let all : length (texts ++ text ∷ []) ≡ length texts + 1 = omega (arith, length-append texts (text ∷ [])) in
    record {
      each = omega (arith, all, r.each, ap length names, length-append old.names (name ∷ []));
      bytes = omega (arith, bytes-here texts text (length texts) refl, ap (bytes_of (texts ++ text ∷ [])) all, r.bytes);
    }

-- a step that opens nothing
pub still-step : {T : Type 0} (seen : Seen) (R : List (List ℕ) → List (List ℕ) → Ending → Type 0) (texts : List (List ℕ)) (opened : Opened) (before after : List PlacedTree) (answer : Result T GatherRefused) → StepsEndAs R texts [] opened before after answer → IsStep seen R texts opened opened before after answer
still-step seen R texts opened before after answer h = record {
  more = [];
  names = [];
  opened = sym (append-nil opened.names);
  told = λ _. tt;
  ends = subst (λ all. StepsEndAs R all [] opened before after answer) (sym (append-nil texts)) h;
}

-- a step that was done, where memory runs out then
pub cut-step : {T : Type 0} (seen : Seen) (R : List (List ℕ) → List (List ℕ) → Ending → Type 0) (texts more names : List (List ℕ)) (old new : Opened) (before after : List PlacedTree)
    → AreRead texts old → new.names ≡ old.names ++ names → (IsTrue seen.tells → AreContents seen.contents names more) → 0 < length names
    → ((m : ℕ) → length old.names + length names ≡ m + 1 → R (take m (texts ++ more)) names (stopped (wants m)))
    → IsStep {T = T} seen R texts old new before after (Err Memory)
cut-step seen R texts more names old new before after r opened told some cut = record {
  more = take (length names - 1) more;
  names = names;
  opened = opened;
  told = λ t. AreContents-take seen.contents names more (length names - 1) (told t);
  ends = inr (subst (λ all. R all names (stopped (wants (length new.names - 1)))) (ap (λ k. take k (texts ++ more)) width ∙ take-append-add texts more (length names - 1)) (cut (length new.names - 1) total));
}
  where
    both : length new.names ≡ length old.names + length names
    both = ap length opened ∙ length-append old.names names

    total : length old.names + length names ≡ (length new.names - 1) + 1
    total = omega (arith, both, some)

    width : length new.names - 1 ≡ length texts + (length names - 1)
    width = omega (arith, both, some, r.each)

module _ (seen : Seen) (chain : List (List ℕ)) (name : List ℕ) (old new : Opened) where
  wanted : (texts : List (List ℕ)) (file : ℕ) → file ≡ length old.names → AreRead texts old → FileEnds (texts ++ []) chain (length old.names) name (name ∷ []) (stopped (wants file))
  wanted texts file e r =
      subst (λ k. FileEnds (texts ++ []) chain (length old.names) name (name ∷ []) (stopped (wants k))) (sym e)
      (unread chain (length old.names) name (omega (arith, r.each, length-append texts [])))

  -- memory runs out when the file was opened
  opened-step : {T : Type 0} (before after : List PlacedTree) (names : List (List ℕ)) → names ≡ [] → new.names ≡ (old.names ++ name ∷ []) ++ names → FileSteps {T = T} seen chain name old new before after (Err Memory)
  opened-step before after names none opened texts r =
      let one : new.names ≡ old.names ++ name ∷ [] = opened ∙ ap (λ ns. (old.names ++ name ∷ []) ++ ns) none ∙ append-nil (old.names ++ name ∷ []) in
      record {
        more = [];
        names = name ∷ [];
        opened = one;
        told = λ _. tt;
        ends = inr (wanted texts (length new.names - 1) (omega (arith, ap length one, length-append old.names (name ∷ []))) r);
      }

  -- the file isn't read
  pub read-refused : {T : Type 0} (before after : List PlacedTree) (e : GatherRefused) → IsReadRefusal seen name old.names new.names old.left e → FileSteps {T = T} seen chain name old new before after (Err e)
  read-refused before after (Fault file) h texts r = record {
    more = [];
    names = name ∷ [];
    opened = h.1;
    told = λ _. tt;
    ends = (wanted texts file h.0 r, omega (arith, h.0, ap length h.1, length-append old.names (name ∷ [])));
  }
  read-refused before after (TooLong file) h texts r = record {
    more = h.2.text ∷ [];
    names = name ∷ [];
    opened = h.1;
    told = λ t. (h.2.told t, tt);
    ends =
        subst (λ k. FileEnds (texts ++ h.2.text ∷ []) chain (length old.names) name (name ∷ []) (stopped (too_long k))) (sym h.0)
        (long chain (length old.names) name
        (omega (arith, r.each, length-append texts (h.2.text ∷ [])))
        (omega (arith, r.bytes, h.2.longer, bytes-here texts h.2.text (length old.names) (sym r.each))));
  }
  read-refused before after Memory (inl same) texts r = record {
    more = [];
    names = [];
    opened = same ∙ sym (append-nil old.names);
    told = λ _. tt;
    ends = inl refl;
  }
  read-refused before after Memory (inr opened) texts r = opened-step before after [] refl (opened ∙ sym (append-nil (old.names ++ name ∷ []))) texts r
  read-refused before after (Syntax file at) h texts r = absurd h
  read-refused before after (Cycle file at) h texts r = absurd h
  read-refused before after (NoSuchName file at) h texts r = absurd h
  read-refused before after (TooMany file at) h texts r = absurd h

-- the file is read, and has this text
module _ (seen : Seen) (chain : List (List ℕ)) (name text : List ℕ) (old mid : Opened) (file : ℕ)
    (number : file ≡ length old.names) (names : mid.names ≡ old.names ++ name ∷ []) (left : mid.left + length text ≡ old.left) (told : IsTrue seen.tells → seen.contents name ≡ Some text) where
  fits : (texts : List (List ℕ)) → AreRead texts old → bytes_of (texts ++ text ∷ []) (length old.names + 1) ≤ byte_limit
  fits texts r = omega (arith, r.bytes, left, bytes-here texts text (length old.names) (sym r.each))

  pub text-refused : {T : Type 0} (before after : List PlacedTree) (e : GatherRefused) → IsTextRefusal text file e → FileSteps {T = T} seen chain name old mid before after (Err e)
  text-refused before after (Syntax k at) h texts r = record {
    more = text ∷ [];
    names = name ∷ [];
    opened = names;
    told = λ t. (told t, tt);
    ends =
        subst (λ n. FileEnds (texts ++ text ∷ []) chain (length old.names) name (name ∷ []) (stopped (no_tree n at))) (sym (h.0 ∙ number))
        (refused chain (length old.names) at name text (here texts text (length old.names) (sym r.each)) (fits texts r) h.1);
  }
  text-refused before after Memory h texts r = opened-step seen chain name old mid before after [] refl (names ∙ sym (append-nil (old.names ++ name ∷ []))) texts r
  text-refused before after (Fault k) h texts r = absurd h
  text-refused before after (TooLong k) h texts r = absurd h
  text-refused before after (Cycle k at) h texts r = absurd h
  text-refused before after (NoSuchName k at) h texts r = absurd h
  text-refused before after (TooMany k at) h texts r = absurd h

  -- the statements of the file are followed
  module _ (new : Opened) (tree : List StatementTree) (is : IsFileText text tree) (before after : List PlacedTree) where
    follow : (texts more opened : List (List ℕ)) (ending : Ending) → AreRead texts old → StatementsEnd ((texts ++ text ∷ []) ++ more) (name ∷ chain) file (length mid.names) tree opened ending → FileEnds (texts ++ (text ∷ more)) chain (length old.names) name (name ∷ opened) ending
    follow texts more opened ending r h = followed chain opened (length old.names) name text tree ending get within is inside
      where
        all : (texts ++ text ∷ []) ++ more ≡ texts ++ (text ∷ more)
        all = append_assoc texts (text ∷ []) more

        first : take (length old.names + 1) (texts ++ text ∷ []) ≡ take (length old.names + 1) (texts ++ (text ∷ more))
        first = take-append (length old.names + 1) (texts ++ text ∷ []) more (omega (arith, r.each, length-append texts (text ∷ []))) ∙ ap (take (length old.names + 1)) all

        get : slice_get (texts ++ (text ∷ more)) (length old.names) ≡ Some text
        get = same-get (length old.names + 1) (texts ++ text ∷ []) (texts ++ (text ∷ more)) first (length old.names) (omega arith) ∙ here texts text (length old.names) (sym r.each)

        within : bytes_of (texts ++ (text ∷ more)) (length old.names + 1) ≤ byte_limit
        within = omega (arith, fits texts r, same-bytes (length old.names + 1) (texts ++ text ∷ []) (texts ++ (text ∷ more)) first (length old.names + 1) (omega arith))

        next : length mid.names ≡ length old.names + 1
        next = omega (arith, ap length names, length-append old.names (name ∷ []))

        inside : StatementsEnd (texts ++ (text ∷ more)) (name ∷ chain) (length old.names) (length old.names + 1) tree opened ending
        inside = subst (λ n. StatementsEnd (texts ++ (text ∷ more)) (name ∷ chain) n (length old.names + 1) tree opened ending) number (subst (λ n. StatementsEnd (texts ++ (text ∷ more)) (name ∷ chain) file n tree opened ending) next (subst (λ ts. StatementsEnd ts (name ∷ chain) file (length mid.names) tree opened ending) all h))

    opens : (opened : List (List ℕ)) → new.names ≡ mid.names ++ opened → new.names ≡ old.names ++ (name ∷ opened)
    opens opened e = e ∙ ap (λ ns. ns ++ opened) names ∙ append_assoc old.names (name ∷ []) opened

    pub file-follows : {T : Type 0} (answer : Result T GatherRefused) → StatementsStep seen (name ∷ chain) file tree mid new before after answer → FileSteps seen chain name old new before after answer
    file-follows (Ok u) h texts r =
        let s = h (texts ++ text ∷ []) (read-more texts text name old mid names left r) in
        record {
          more = text ∷ s.more;
          names = name ∷ s.names;
          opened = opens s.names s.opened;
          told = λ t. (told t, s.told t);
          ends = record {
            statements = s.ends.statements;
            ended = follow texts s.more s.names _ r s.ends.ended;
            gathered = s.ends.gathered;
            read = subst (λ all. AreRead all new) (append_assoc texts (text ∷ []) s.more) s.ends.read;
          };
        }
    file-follows {T} (Err e) h texts r = go (StopsAs-cases Q (s.names ≡ []) new.names e s.ends)
      where
        s : IsStep {T = T} seen (λ all ns ending. StatementsEnd all (name ∷ chain) file (length mid.names) tree ns ending) (texts ++ text ∷ []) mid new before after (Err e)
        s = h (texts ++ text ∷ []) (read-more texts text name old mid names left r)

        Q : Stop → Type 0
        Q why = StatementsEnd ((texts ++ text ∷ []) ++ s.more) (name ∷ chain) file (length mid.names) tree s.names (stopped why)

        P : Stop → Type 0
        P why = FileEnds (texts ++ (text ∷ s.more)) chain (length old.names) name (name ∷ s.names) (stopped why)

        go : ((s.names ≡ []) × (e ≡ Memory)) ⊎ StopsAs Q ⊥ new.names e → IsStep {T = T} seen (λ all ns ending. FileEnds all chain (length old.names) name ns ending) texts old new before after (Err e)
        go (inl (none, memory)) =
            subst (λ w. IsStep {T = T} seen (λ all ns ending. FileEnds all chain (length old.names) name ns ending) texts old new before after (Err w)) (sym memory)
            (opened-step seen chain name old new before after s.names none (s.opened ∙ ap (λ ns. ns ++ s.names) names) texts r)
        go (inr stops) = record {
          more = text ∷ s.more;
          names = name ∷ s.names;
          opened = opens s.names s.opened;
          told = λ t. (told t, s.told t);
          ends = StopsAs-map Q P ⊥ (name ∷ s.names ≡ []) new.names e (λ why k. follow texts s.more s.names (stopped why) r k) (λ no. absurd no) stops;
        }
