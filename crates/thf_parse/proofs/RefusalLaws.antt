-- Tokens have a tree, or they are refused at one place.
use Rattle.std.proofs.Common.{◌≡◌, ℕ, ◌≤◌, List, [], ◌∷◌, ◌++◌, refl, sym, ap, subst, ◌∙◌, append_assoc, arith}
use Rattle.std.proofs.lemmas.List.{append-nil}
use Rattle.thf_grammar.specs.Trees.{StatementTree}
use Rattle.thf_grammar.specs.Words.{Lexeme, Word, plain}
use Rattle.thf_grammar.specs.Statements.{IsFile}
use Rattle.thf_parse.specs.Parsing.{AreWithinDepth, HasTree, BeginsFile, GoesBeyond, IsWrongAt, IsTooDeepAt}

-- the words of the tokens in front, and those behind
record Parts (words : List Word) (front back : List Lexeme) : Type 0 where
  before : List Word
  after : List Word
  whole : words ≡ before ++ after
  front_is : plain before ≡ front
  back_is : plain after ≡ back

parts : (words : List Word) (front back : List Lexeme) → plain words ≡ front ++ back → Parts words front back
parts ws [] back e = record { before = []; after = ws; whole = refl; front_is = refl; back_is = e }
parts [] (f ∷ fs) back e = cc
parts (w ∷ ws) (f ∷ fs) back e =
    let rest : plain ws ≡ fs ++ back = cc in
    let first : w.lexeme ≡ f = cc in
    let p = parts ws fs back rest in
    record {
      before = w ∷ p.before;
      after = p.after;
      whole = ap (λ us. w ∷ us) p.whole;
      front_is = ap (λ t. t ∷ plain p.before) first ∙ ap (λ ts. f ∷ ts) p.front_is;
      back_is = p.back_is;
    }

-- what a file begins with has a beginning with which it begins, too
begins-front : (front back : List Lexeme) → BeginsFile (front ++ back) → BeginsFile front
begins-front front back b =
    let p = parts b.words front back b.tokens in
    record {
      words = p.before;
      tokens = p.front_is;
      more = p.after ++ b.more;
      tree = b.tree;
      file = subst (λ ws. IsFile ws b.tree) (ap (λ ws. ws ++ b.more) p.whole ∙ append_assoc p.before p.after b.more) b.file;
    }

begins-to : (front back : List Lexeme) (token : Lexeme) → BeginsFile (front ++ token ∷ back) → BeginsFile (front ++ token ∷ [])
begins-to front back token b = begins-front (front ++ token ∷ []) back (subst BeginsFile (sym (append_assoc front (token ∷ []) back)) b)

within-at : (limit : ℕ) (before after : List Word) (w : Word) → AreWithinDepth limit (before ++ w ∷ after) → w.depth ≤ limit
within-at limit [] after w h = h.0
within-at limit (v ∷ vs) after w h = within-at limit vs after w h.1

-- a token that is too deep stands in no tokens that are within the limit
not-within : (limit : ℕ) (front back : List Lexeme) (token : Lexeme) (words more : List Word) (tree : List StatementTree) → GoesBeyond limit front token → plain words ≡ front ++ token ∷ back → IsFile (words ++ more) tree → AreWithinDepth limit words → ⊥
not-within limit front back token words more tree deeper tokens file within = go (parts words front (token ∷ back) tokens)
  where
    go : Parts words front (token ∷ back) → ⊥
    go p = at p.after p.whole p.back_is
      where
        at : (after : List Word) → words ≡ p.before ++ after → plain after ≡ token ∷ back → ⊥
        at [] whole e = cc
        at (w ∷ after) whole e =
            let first : w.lexeme ≡ token = cc in
            let f : IsFile (p.before ++ w ∷ (after ++ more)) tree = subst (λ ws. IsFile ws tree) (ap (λ ws. ws ++ more) whole ∙ append_assoc p.before (w ∷ after) more) file in
            omega (arith, deeper p.before (after ++ more) w tree p.front_is first f, within-at limit p.before after w (subst (AreWithinDepth limit) whole within))

-- two places in a list
data Places (front other : List Lexeme) (token another : Lexeme) : Type 0 where
  same : front ≡ other → token ≡ another → Places front other token another
  sooner : (m : List Lexeme) → other ≡ front ++ token ∷ m → Places front other token another
  later : (m : List Lexeme) → front ≡ other ++ another ∷ m → Places front other token another

places : (front other back rest : List Lexeme) (token another : Lexeme) → front ++ token ∷ back ≡ other ++ another ∷ rest → Places front other token another
places [] [] back rest token another e = same refl cc
places [] (o ∷ os) back rest token another e = let q : o ≡ token = cc in sooner os (ap (λ t. t ∷ os) q)
places (f ∷ fs) [] back rest token another e = let q : f ≡ another = cc in later fs (ap (λ t. t ∷ fs) q)
places (f ∷ fs) (o ∷ os) back rest token another e =
    let p : fs ++ token ∷ back ≡ os ++ another ∷ rest = cc in
    let q : f ≡ o = cc in
    go q (places fs os back rest token another p)
  where
    go : f ≡ o → Places fs os token another → Places (f ∷ fs) (o ∷ os) token another
    go q (same e k) = same (let r : f ∷ fs ≡ o ∷ os = cc in r) k
    go q (sooner m e) = sooner m (let r : o ∷ os ≡ f ∷ fs ++ token ∷ m = cc in r)
    go q (later m e) = later m (let r : f ∷ fs ≡ o ∷ os ++ another ∷ m = cc in r)

module _ (limit : ℕ) (ts : List Lexeme) where
  pub not-wrong : (tree : List StatementTree) (at : ℕ) → HasTree limit ts tree → IsWrongAt limit ts at → ⊥
  not-wrong tree at h r = r.wrong (begins-to r.front r.back r.token all)
    where
      all : BeginsFile (r.front ++ r.token ∷ r.back)
      all = record { words = h.words; tokens = h.tokens ∙ r.whole; more = []; tree = tree; file = subst (λ ws. IsFile ws tree) (sym (append-nil h.words)) h.file }

  pub not-deep : (tree : List StatementTree) (at : ℕ) → HasTree limit ts tree → IsTooDeepAt limit ts at → ⊥
  not-deep tree at h r = not-within limit r.front r.back r.token h.words [] tree r.deeper (h.tokens ∙ r.whole) (subst (λ ws. IsFile ws tree) (sym (append-nil h.words)) h.file) h.within

  -- a file doesn't go on behind a wrong token
  stops-at : (at : ℕ) (r : IsWrongAt limit ts at) (front m : List Lexeme) → front ≡ r.front ++ r.token ∷ m → BeginsFile front → ⊥
  stops-at at r front m e b = r.wrong (begins-to r.front m r.token (subst BeginsFile e b))

  -- no later token is the first that is too deep
  sinks-at : (at : ℕ) (r : IsTooDeepAt limit ts at) (front m : List Lexeme) → front ≡ r.front ++ r.token ∷ m → (b : BeginsFile front) → AreWithinDepth limit b.words → ⊥
  sinks-at at r front m e b within = not-within limit r.front m r.token b.words b.more b.tree r.deeper (b.tokens ∙ e) b.file within

  pub one-wrong : (at other : ℕ) → IsWrongAt limit ts at → IsWrongAt limit ts other → at ≡ other
  one-wrong at other r s = go (places r.front s.front r.back s.back r.token s.token (sym r.whole ∙ s.whole))
    where
      go : Places r.front s.front r.token s.token → at ≡ other
      go (same e k) = sym r.place ∙ ap (λ (t : Lexeme). t.at) k ∙ s.place
      go (sooner m e) = absurd (stops-at at r s.front m e s.begun)
      go (later m e) = absurd (stops-at other s r.front m e r.begun)

  pub one-deep : (at other : ℕ) → IsTooDeepAt limit ts at → IsTooDeepAt limit ts other → at ≡ other
  one-deep at other r s = go (places r.front s.front r.back s.back r.token s.token (sym r.whole ∙ s.whole))
    where
      first : (here there : ℕ) (p : IsTooDeepAt limit ts here) (q : IsTooDeepAt limit ts there) (m : List Lexeme) → q.front ≡ p.front ++ p.token ∷ m → ⊥
      first here there p q m e =
          let b = begins-front q.front (q.token ∷ []) q.begun in
          sinks-at here p q.front m e b (q.earlier b.words b.more b.tree b.tokens b.file)

      go : Places r.front s.front r.token s.token → at ≡ other
      go (same e k) = sym r.place ∙ ap (λ (t : Lexeme). t.at) k ∙ s.place
      go (sooner m e) = absurd (first at other r s m e)
      go (later m e) = absurd (first other at s r m e)

  pub wrong-or-deep : (at other : ℕ) → IsWrongAt limit ts at → IsTooDeepAt limit ts other → ⊥
  wrong-or-deep at other r s = go (places r.front s.front r.back s.back r.token s.token (sym r.whole ∙ s.whole))
    where
      go : Places r.front s.front r.token s.token → ⊥
      go (same e k) = r.wrong (subst (λ t. BeginsFile (r.front ++ t ∷ [])) (sym k) (subst (λ us. BeginsFile (us ++ s.token ∷ [])) (sym e) s.begun))
      go (sooner m e) = stops-at at r s.front m e (begins-front s.front (s.token ∷ []) s.begun)
      go (later m e) = sinks-at other s r.front m e r.begun (r.earlier r.begun.words r.begun.more r.begun.tree r.begun.tokens r.begun.file)
