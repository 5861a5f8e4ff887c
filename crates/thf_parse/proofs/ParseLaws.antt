-- The tree of a file's tokens, and the tokens at which others are refused.
use Rattle.std.proofs.Common.{◌≡◌, ℕ, suc, ◌+◌, ◌<◌, ◌≤◌, List, [], ◌∷◌, ◌++◌, length, map, true, false, ◌⊎◌, inl, inr, refl, sym, ap, subst, ◌∙◌, append_assoc, length-append, arith}
use Rattle.std.proofs.lemmas.List.{append_cancel_right, append-nil, length-map}
use Rattle.thf_grammar.specs.Trees.{StatementTree}
use Rattle.thf_grammar.specs.declared.terminal.Terminal.{Terminal}
use Rattle.thf_grammar.specs.declared.terminal.Terminal.TheVariants as terminal
use Rattle.thf_grammar.specs.Words.{Lexeme, Word, plain, terminal_of, Is}
use Rattle.thf_grammar.specs.Statements.{IsFile, no_statement}
use Rattle.thf_parse.specs.Internal.Outcome.{Outcome, found, wrong, deep, Reader, first_terminal, place_of_first, lexemes_behind}
use Rattle.thf_parse.specs.Internal.StatementReader.{is_end, statements, file}
use Rattle.thf_parse.specs.Parsing.{AreWithinDepth, HasTree, BeginsFile, IsWrongAt, IsTooDeepAt}
use Rattle.thf_parse.proofs.Locals.{Decided, ArePassed, none, more, is_proper, rest_of, with_rest}
use Rattle.thf_parse.proofs.Finds.{Reading, Stopped, Finds, word, plain-append}
use Rattle.thf_parse.proofs.Endings.{end_word, end-is}
use Rattle.thf_parse.proofs.Goes.{IsShallow, here, there, Sinks, Arrives, Goes}
use Rattle.thf_parse.proofs.StatementLocals.{local-file}
use Rattle.thf_parse.proofs.StatementFinds.{FileIs, finds-file, file-end}
use Rattle.thf_parse.proofs.StatementGoes.{goes-file}

-- the last token, and no other, is no token of a statement
abbrev pub IsEnded : List Lexeme → Type 0
IsEnded [] = ⊥
IsEnded (t ∷ []) = is_proper (terminal_of t) ≡ false
IsEnded (t ∷ u ∷ us) = (is_end (terminal_of t) ≡ false) × IsEnded (u ∷ us)

ended-rest : (front : List Lexeme) (t : Lexeme) (back : List Lexeme) → IsEnded (front ++ t ∷ back) → is_end (terminal_of t) ≡ true → back ≡ []
ended-rest [] t [] h e = refl
ended-rest [] t (u ∷ us) h e = let q = h.0 in cc
ended-rest (s ∷ []) t back h e = ended-rest [] t back h.1 e
ended-rest (s ∷ r ∷ rs) t back h e = ended-rest (r ∷ rs) t back h.1 e

ended-passed : (ts : List Lexeme) → IsEnded ts → ArePassed ts → ⊥
ended-passed _ h none = h
ended-passed _ h (more t [] p k) = cc
ended-passed _ h (more t (u ∷ us) p k) = ended-passed (u ∷ us) h.1 k

-- the words up to those behind, none of which is deeper than the limit
record Passed (limit : ℕ) (ws rest : List Word) : Type 0 where
  before : List Word
  whole : ws ≡ before ++ rest
  within : AreWithinDepth limit before

passed : (limit : ℕ) (ws rest : List Word) → IsShallow limit ws rest → Passed limit ws rest
passed limit ws rest (here _) = record { before = []; whole = refl; within = tt }
passed limit ws rest (there w us _ d s) =
    let p = passed limit us rest s in
    record { before = w ∷ p.before; whole = ap (λ xs. w ∷ xs) p.whole; within = (d, p.within) }

within-append : (limit : ℕ) (xs ys : List Word) → AreWithinDepth limit xs → AreWithinDepth limit ys → AreWithinDepth limit (xs ++ ys)
within-append limit [] ys h k = k
within-append limit (x ∷ xs) ys h k = (h.0, within-append limit xs ys h.1 k)

within-front : (limit : ℕ) (xs ys : List Word) → AreWithinDepth limit (xs ++ ys) → AreWithinDepth limit xs
within-front limit [] ys h = tt
within-front limit (x ∷ xs) ys h = (h.0, within-front limit xs ys h.1)

-- two ways to cut a list
data Cuts (a c : List Word) (x : Word) (b d : List Word) : Type 0 where
  later : (m : List Word) → c ≡ a ++ m → Cuts a c x b d
  sooner : (m : List Word) → a ≡ c ++ x ∷ m → Cuts a c x b d

cuts : (a b c d : List Word) (x : Word) → a ++ b ≡ c ++ x ∷ d → Cuts a c x b d
cuts [] b c d x e = later c refl
cuts (y ∷ ys) b [] d x e = let q : y ≡ x = cc in sooner ys (ap (λ z. z ∷ ys) q)
cuts (y ∷ ys) b (z ∷ zs) d x e =
    let p : ys ++ b ≡ zs ++ x ∷ d = cc in
    let q : y ≡ z = cc in
    go q (cuts ys b zs d x p)
  where
    go : y ≡ z → Cuts ys zs x b d → Cuts (y ∷ ys) (z ∷ zs) x b d
    go q (later m e) = later m (let r : z ∷ zs ≡ y ∷ ys ++ m = cc in r)
    go q (sooner m e) = sooner m (let r : y ∷ ys ≡ z ∷ zs ++ x ∷ m = cc in r)

same-suffix : (a b c d : List Word) (x y : Word) → a ++ x ∷ b ≡ c ++ y ∷ d → length b ≡ length d → x ≡ y
same-suffix [] b [] d x y e n = cc
same-suffix [] b (z ∷ zs) d x y e n = let p : b ≡ zs ++ y ∷ d = cc in absurd (omega (arith, n, ap length p, length-append zs (y ∷ d)))
same-suffix (z ∷ zs) b [] d x y e n = let p : zs ++ x ∷ b ≡ d = cc in absurd (omega (arith, n, ap length p, length-append zs (x ∷ b)))
same-suffix (z ∷ zs) b (v ∷ vs) d x y e n = let p : zs ++ x ∷ b ≡ vs ++ y ∷ d = cc in same-suffix zs b vs d x y p n

abbrev deep_here : List Lexeme → Outcome (List StatementTree)
deep_here ts = deep ts

module _ (room : ℕ) where
  unread : (ws : List Word) → file room [] (plain ws) ≡ statements room (suc (length (plain ws))) [] (plain ws)
  unfolding file
  unread ws = refl

  -- a file is found, or a token of it is too deep
  file-goes : (ws : List Word) (tree : List StatementTree) → IsFile ws tree → (e : Word) × Is terminal.End 0 e × Goes room ws (e ∷ []) tree (file room [] (plain ws))
  file-goes ws tree f = let g = goes-file room tree ws f in (g.end, g.is, subst (λ o. Goes room ws (g.end ∷ []) tree o) (sym (unread ws)) g.goes)

  -- where the reader is at a token that it finds too deep, no other tokens behind change that
  deep-front : (ws b back other : List Word) (x : Word) (rest : List Lexeme) → ws ≡ b ++ x ∷ back → file room [] (plain ws) ≡ deep (plain (x ∷ back)) → file room [] (plain b ++ x.lexeme ∷ rest) ≡ deep (x.lexeme ∷ rest)
  deep-front ws b back other x rest e h =
      let d = local-file room [] (plain ws) in
      let left : rest_of (file room [] (plain ws)) ≡ plain (x ∷ back) = ap rest_of h in
      let fronts : d.front ≡ plain b = append_cancel_right d.front (plain b) (plain (x ∷ back)) (ap (λ r. d.front ++ r) (sym left) ∙ sym d.whole ∙ ap plain e ∙ plain-append b (x ∷ back)) in
      ap (λ k. file room [] (k ++ x.lexeme ∷ rest)) (sym fronts) ∙ d.same x.lexeme (plain back) rest left ∙ ap (λ o. with_rest o (x.lexeme ∷ rest)) h

  -- a file that is found has no token that is too deep
  found-within : (ws : List Word) (e : Word) (tree : List StatementTree) (o : Outcome (List StatementTree)) → Is terminal.End 0 e → Arrives room ws (e ∷ []) tree o → AreWithinDepth room ws
  found-within ws e tree o k a =
      let p = passed room ws (e ∷ []) a.passed in
      subst (λ us. AreWithinDepth room us) (sym p.whole) (within-append room p.before (e ∷ []) p.within (let q = k.deep in omega arith, tt))

  -- no token before the one that is refused is too deep
  earlier-within : (ts front rest : List Lexeme) → ts ≡ front ++ rest → ((x : Lexeme) (us : List Lexeme) → file room [] ts ≡ deep (x ∷ us ++ rest) → ⊥) → (before after : List Word) (tree : List StatementTree) → plain before ≡ front → IsFile (before ++ after) tree → AreWithinDepth room before
  earlier-within ts front rest whole never before after tree e f = let g = file-goes (before ++ after) tree f in go g.0 g.1 g.2
    where
      of_cut : (s : Sinks room (before ++ after) (file room [] (plain (before ++ after)))) (p : Passed room (before ++ after) (s.first ∷ s.back)) → Cuts before p.before s.first after s.back → AreWithinDepth room before
      of_cut s p (later m q) = within-front room before m (subst (λ us. AreWithinDepth room us) q p.within)
      of_cut s p (sooner m q) =
          let told : file room [] (plain p.before ++ s.first.lexeme ∷ (plain m ++ rest)) ≡ deep (s.first.lexeme ∷ (plain m ++ rest)) = deep-front (before ++ after) p.before s.back after s.first (plain m ++ rest) p.whole s.is in
          let same : ts ≡ plain p.before ++ s.first.lexeme ∷ (plain m ++ rest) = whole ∙ ap (λ k. k ++ rest) (sym e ∙ ap plain q ∙ plain-append p.before (s.first ∷ m)) ∙ append_assoc (plain p.before) (plain (s.first ∷ m)) rest in
          absurd (never s.first.lexeme (plain m) (ap (file room []) same ∙ told))

      go : (x : Word) → Is terminal.End 0 x → Goes room (before ++ after) (x ∷ []) tree (file room [] (plain (before ++ after))) → AreWithinDepth room before
      go x k (inl a) = within-front room before after (found-within (before ++ after) x tree _ k a)
      go x k (inr s) =
          let p = passed room (before ++ after) (s.first ∷ s.back) s.before in
          of_cut s p (cuts before after p.before s.back s.first p.whole)

  -- the words of the tokens from the end on
  abbrev flat : List Lexeme → List Word
  flat ts = map (λ t. word t 0) ts

  plain-flat : (ts : List Lexeme) → plain (flat ts) ≡ ts
  plain-flat [] = refl
  plain-flat (t ∷ ts) = ap (λ us. t ∷ us) (plain-flat ts)

  -- what the reader leaves of tokens that end
  some-left : {A : Type 0} (r : Reader A) (ts : List Lexeme) → IsEnded ts → Decided r ts → rest_of (r ts) ≡ [] → ⊥
  some-left r ts h d e = ended-passed ts h (subst ArePassed (sym (d.whole ∙ ap (λ us. d.front ++ us) e ∙ no_more d.front)) d.passed)
    where
      no_more : (us : List Lexeme) → us ++ [] ≡ us
      no_more [] = refl
      no_more (u ∷ us) = ap (λ k. u ∷ k) (no_more us)

  end_is : (x : Terminal) → is_end x ≡ true → x ≡ terminal.End
  end_is terminal.End e = refl
  end_is _ e = cc

  -- what is found is the tree of the tokens
  found-file : (ts us : List Lexeme) (t : Lexeme) (tree : List StatementTree) → IsEnded ts → file room [] ts ≡ found tree (t ∷ us) → (ws : List Word) × (plain ws ≡ ts) × IsFile ws tree
  unfolding first_terminal
  found-file ts us t tree h e =
      let r : Reading (FileIs []) tree ts (t ∷ us) = subst (λ o. Finds (FileIs []) ts o) e (finds-file room [] ts) in
      let ends = file-end room [] tree ts (t ∷ us) e in
      let alone : us ≡ [] = ended-rest (plain r.front) t us (subst IsEnded r.whole h) ends in
      let last : IsFile (flat (t ∷ us)) [] = subst (λ k. IsFile (flat (t ∷ k)) []) (sym alone) (no_statement (word t 0) (record { terminal = end_is (terminal_of t) ends; deep = refl })) in
      let words : List Word = r.front ++ flat (t ∷ us) in
      let read : FileIs [] tree words (flat (t ∷ us)) = r.read (flat (t ∷ us)) in (
        words,
        plain-append r.front (flat (t ∷ us)) ∙ ap (λ k. plain r.front ++ k) (plain-flat (t ∷ us)) ∙ sym r.whole,
        subst (λ k. IsFile words k) (append-nil read.new ∙ sym read.whole) (read.file [] last),
      )

  file-within : (ts us : List Lexeme) (ws : List Word) (tree : List StatementTree) → file room [] ts ≡ found tree us → plain ws ≡ ts → IsFile ws tree → AreWithinDepth room ws
  file-within ts us ws tree e p f = let g = file-goes ws tree f in go g.0 g.1 g.2
    where
      go : (x : Word) → Is terminal.End 0 x → Goes room ws (x ∷ []) tree (file room [] (plain ws)) → AreWithinDepth room ws
      go x k (inl a) = found-within ws x tree (file room [] (plain ws)) k a
      go x k (inr s) = let q : deep (plain (s.first ∷ s.back)) ≡ found tree us = sym s.is ∙ ap (file room []) p ∙ e in cc

  pub parsed : (ts rest : List Lexeme) (tree : List StatementTree) → IsEnded ts → file room [] ts ≡ found tree rest → HasTree room ts tree
  parsed ts [] tree h e = absurd (some-left (file room []) ts h (local-file room [] ts) (ap rest_of e))
  parsed ts (t ∷ us) tree h e =
      let f = found-file ts us t tree h e in
      record { words = f.0; tokens = f.1; file = f.2; within = file-within ts (t ∷ us) f.0 tree e f.1 f.2 }

  -- the tokens of a file that has these tokens in front
  words-are : (front : List Lexeme) (token : Lexeme) (before after : List Word) (w : Word) → plain before ≡ front → w.lexeme ≡ token → plain (before ++ w ∷ after) ≡ front ++ token ∷ plain after
  words-are front token before after w p q = plain-append before (w ∷ after) ∙ ap (λ k. k ++ w.lexeme ∷ plain after) p ∙ ap (λ k. front ++ k ∷ plain after) q

  -- a file begins with what stands before the tokens that are left
  begins : (ts left front : List Lexeme) → Stopped (FileIs []) ts left → ts ≡ front ++ left → BeginsFile front
  begins ts left front s whole =
      let read = s.ending.read (end_word ∷ []) in
      record {
        words = s.front;
        tokens = append_cancel_right (plain s.front) front left (sym s.whole ∙ whole);
        more = s.ending.words ++ end_word ∷ [];
        tree = read.new ++ [];
        file = read.file [] (no_statement end_word end-is);
      }

  -- the tokens of a file that begins with these tokens
  begun-are : (front : List Lexeme) (token : Lexeme) (words after : List Word) → plain words ≡ front ++ token ∷ [] → plain (words ++ after) ≡ front ++ token ∷ plain after
  begun-are front token words after p = plain-append words after ∙ ap (λ k. k ++ plain after) p ∙ append_assoc front (token ∷ []) (plain after)

  pub refused-wrong : (ts rest : List Lexeme) → IsEnded ts → file room [] ts ≡ wrong rest → IsWrongAt room ts (place_of_first rest)
  unfolding place_of_first
  refused-wrong ts [] h e = absurd (some-left (file room []) ts h (local-file room [] ts) (ap rest_of e))
  refused-wrong ts (token ∷ back) h e = record {
    front = d.front;
    token = token;
    back = back;
    whole = whole;
    place = refl;
    begun = begins ts (token ∷ back) d.front (subst (λ o. Finds (FileIs []) ts o) e (finds-file room [] ts)) whole;
    wrong = λ b. no_file b;
    earlier = earlier-within ts d.front (token ∷ back) whole (λ x us k. let z = sym e ∙ k in cc);
  }
    where
      d : Decided (file room []) ts
      d = local-file room [] ts

      whole : ts ≡ d.front ++ token ∷ back
      whole = d.whole ∙ ap (λ o. d.front ++ rest_of o) e

      no_file : BeginsFile (d.front ++ token ∷ []) → ⊥
      no_file b = go ((file-goes (b.words ++ b.more) b.tree b.file).2)
        where
          told : file room [] (plain (b.words ++ b.more)) ≡ wrong (token ∷ plain b.more)
          told = ap (file room []) (begun-are d.front token b.words b.more b.tokens) ∙ d.same token back (plain b.more) (ap rest_of e) ∙ ap (λ o. with_rest o (token ∷ plain b.more)) e

          go : Goes room (b.words ++ b.more) ((file-goes (b.words ++ b.more) b.tree b.file).0 ∷ []) b.tree (file room [] (plain (b.words ++ b.more))) → ⊥
          go (inl a) = let z = sym a.is ∙ told in cc
          go (inr s) = let z = sym s.is ∙ told in cc

  pub refused-deep : (ts rest : List Lexeme) → IsEnded ts → file room [] ts ≡ deep rest → IsTooDeepAt room ts (place_of_first rest)
  unfolding place_of_first lexemes_behind
  refused-deep ts [] h e = absurd (some-left (file room []) ts h (local-file room [] ts) (ap rest_of e))
  refused-deep ts (token ∷ back) h e = record {
    front = d.front;
    token = token;
    back = back;
    whole = whole;
    place = refl;
    begun = begins ts back (d.front ++ token ∷ []) (subst (λ o. Finds (FileIs []) ts o) e (finds-file room [] ts)) (whole ∙ sym (append_assoc d.front (token ∷ []) back));
    deeper = λ before after w tree p q f. is_deeper before after w tree p q f;
    earlier = earlier-within ts d.front (token ∷ back) whole (λ x us k. shorter x us (sym e ∙ k));
  }
    where
      d : Decided (file room []) ts
      d = local-file room [] ts

      whole : ts ≡ d.front ++ token ∷ back
      whole = d.whole ∙ ap (λ o. d.front ++ rest_of o) e

      shorter : (x : Lexeme) (us : List Lexeme) → deep_here (token ∷ back) ≡ deep_here (x ∷ us ++ token ∷ back) → ⊥
      shorter x us k = let z : token ∷ back ≡ x ∷ us ++ token ∷ back = cc in omega (arith, ap length z, length-append us (token ∷ back))

      is_deeper : (before after : List Word) (w : Word) (tree : List StatementTree) → plain before ≡ d.front → w.lexeme ≡ token → IsFile (before ++ w ∷ after) tree → room < w.depth
      is_deeper before after w tree p q f = go ((file-goes (before ++ w ∷ after) tree f).2)
        where
          told : file room [] (plain (before ++ w ∷ after)) ≡ deep (token ∷ plain after)
          told = ap (file room []) (words-are d.front token before after w p q) ∙ d.same token back (plain after) (ap rest_of e) ∙ ap (λ o. with_rest o (token ∷ plain after)) e

          go : Goes room (before ++ w ∷ after) ((file-goes (before ++ w ∷ after) tree f).0 ∷ []) tree (file room [] (plain (before ++ w ∷ after))) → room < w.depth
          go (inl a) = let z = sym a.is ∙ told in cc
          go (inr s) =
              let g = passed room (before ++ w ∷ after) (s.first ∷ s.back) s.before in
              let z : deep_here (plain (s.first ∷ s.back)) ≡ deep_here (token ∷ plain after) = sym s.is ∙ told in
              let lists : plain (s.first ∷ s.back) ≡ token ∷ plain after = cc in
              let lengths : length s.back ≡ length after = omega (arith, ap length lists, length-map s.back (λ (v : Word). v.lexeme), length-map after (λ (v : Word). v.lexeme)) in
              let same : s.first ≡ w = same-suffix g.before s.back before after s.first w (sym g.whole) lengths in
              subst (λ v. room < v.depth) same s.sunk

  abbrev pub Answered : List Lexeme → Type 0
  Answered ts = ((tree : List StatementTree) × HasTree room ts tree) ⊎ ((at : ℕ) × (IsWrongAt room ts at ⊎ IsTooDeepAt room ts at))

  -- tokens that end have a tree, or they are refused
  pub answered : (ts : List Lexeme) → IsEnded ts → Answered ts
  answered ts h = go (file room [] ts) refl
    where
      go : (o : Outcome (List StatementTree)) → file room [] ts ≡ o → Answered ts
      go (found tree rest) e = inl (tree, parsed ts rest tree h e)
      go (wrong rest) e = inr (place_of_first rest, inl (refused-wrong ts rest h e))
      go (deep rest) e = inr (place_of_first rest, inr (refused-deep ts rest h e))

-- the depths of tokens in sum
total : List Word → ℕ
total [] = 0
total (w ∷ ws) = w.depth + total ws

total-part : (before rest : List Word) (w : Word) → w.depth ≤ total (before ++ w ∷ rest)
unfolding total
total-part [] rest w = omega arith
total-part (v ∷ vs) rest w = omega (arith, total-part vs rest w)

reads-tree : (room : ℕ) (ws : List Word) (tree : List StatementTree) → total ws ≤ room → IsFile ws tree → (us : List Lexeme) × (file room [] (plain ws) ≡ found tree us)
reads-tree room ws tree h f = let g = file-goes room ws tree f in go g.0 g.2
  where
    go : (x : Word) → Goes room ws (x ∷ []) tree (file room [] (plain ws)) → (us : List Lexeme) × (file room [] (plain ws) ≡ found tree us)
    go x (inl a) = (plain (x ∷ []), a.is)
    go x (inr s) =
        let p = passed room ws (s.first ∷ s.back) s.before in
        absurd (omega (arith, s.sunk, total-part p.before s.back s.first, ap total p.whole))

pub one-tree : (ws vs : List Word) (tree another : List StatementTree) → plain ws ≡ plain vs → IsFile ws tree → IsFile vs another → tree ≡ another
one-tree ws vs tree another e f g =
    let room = total ws + total vs in
    let a = reads-tree room ws tree (omega arith) f in
    let b = reads-tree room vs another (omega arith) g in
    let q : found tree a.0 ≡ found another b.0 = sym a.1 ∙ ap (file room []) e ∙ b.1 in
    cc
