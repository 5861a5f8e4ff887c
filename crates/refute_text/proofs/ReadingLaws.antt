-- Lines have one reading.
use Rattle.std.proofs.Common.{◌≡◌, ℕ, ◌+◌, Bool, true, false, List, [], ◌∷◌, ◌++◌, length, refl, sym, ap, ap₂, subst, ◌∙◌, append_assoc}
use Rattle.std.specs.List.{list_any}
use Rattle.refute_print.specs.Trees.{RefutationTree}
use Rattle.refute_print.specs.Text.{text_lines}
use Rattle.refute_text.specs.Reading.{is_start, is_end_mark, IsFront, Starts, HoldsText, IsBadAt, TextReading, read, bad_line, no_start, no_end, ReadsAs, HasBadLine, HasNoEnd, ReadsText}
use Rattle.refute_text.proofs.Fronts.{any_inside, front-append, front-text, front-without_end}
use Rattle.refute_text.proofs.TextLaws.{text_lines-same}

-- two ways to cut a list
data Cut {X : Type 0} (a : List X) (x : X) (as' b : List X) (y : X) (bs : List X) : Type 0 where
  equal : a ≡ b → x ≡ y → as' ≡ bs → Cut a x as' b y bs
  shorter : (c : List X) → b ≡ a ++ (x ∷ c) → Cut a x as' b y bs
  longer : (c : List X) → a ≡ b ++ (y ∷ c) → Cut a x as' b y bs

cut : {X : Type 0} (a : List X) (x : X) (as' b : List X) (y : X) (bs : List X) → a ++ (x ∷ as') ≡ b ++ (y ∷ bs) → Cut a x as' b y bs
cut [] x as' [] y bs h = let p : x ≡ y = cc in let q : as' ≡ bs = cc in equal refl p q
cut {X = X} [] x as' (z ∷ b) y bs h = shorter b (let e : x ≡ z = cc in ap (λ w. w ∷ b) (sym e))
cut {X = X} (z ∷ a) x as' [] y bs h = longer a (let e : z ≡ y = cc in ap (λ w. w ∷ a) e)
cut {X = X} (z ∷ a) x as' (w ∷ b) y bs h =
    let first : z ≡ w = cc in
    let rest : a ++ (x ∷ as') ≡ b ++ (y ∷ bs) = cc in
    go first (cut a x as' b y bs rest)
  where
    go : z ≡ w → Cut a x as' b y bs → Cut (z ∷ a) x as' (w ∷ b) y bs
    go e (equal p q r) = equal (ap₂ (λ s t. s ∷ t) e p) q r
    go e (shorter c p) = shorter c (ap₂ (λ s t. s ∷ t) (sym e) p)
    go e (longer c p) = longer c (ap₂ (λ s t. s ∷ t) e p)

-- the first that passes a test stands at one place
cut_at_first : {X : Type 0} (p : X → Bool) (a : List X) (x : X) (as' b : List X) (y : X) (bs : List X) → a ++ (x ∷ as') ≡ b ++ (y ∷ bs) → list_any p a ≡ false → p x ≡ true → list_any p b ≡ false → p y ≡ true → (a ≡ b) × (as' ≡ bs)
cut_at_first {X = X} p a x as' b y bs h none here none' here' = go (cut a x as' b y bs h)
  where
    go : Cut a x as' b y bs → (a ≡ b) × (as' ≡ bs)
    go (equal e q r) = (e, r)
    go (shorter c e) = let inside : list_any p b ≡ true = ap (list_any p) e ∙ any_inside p a x c here in absurd cc
    go (longer c e) = let inside : list_any p a ≡ true = ap (list_any p) e ∙ any_inside p b y c here' in absurd cc

starts-same : (lines a b c d : List (List ℕ)) → Starts lines a b → Starts lines c d → (a ≡ c) × (b ≡ d)
starts-same lines a b c d s t = cut_at_first is_start a s.start b c t.start d (sym s.are_lines ∙ t.are_lines) s.none_before s.starts t.none_before t.starts

no_start-starts : (lines a b : List (List ℕ)) → list_any is_start lines ≡ false → Starts lines a b → ⊥
no_start-starts lines a b h s =
    let inside : list_any is_start lines ≡ true = ap (list_any is_start) s.are_lines ∙ any_inside is_start a s.start b s.starts in
    cc

-- what stands behind the start line
held-same : (behind : List (List ℕ)) (r s : RefutationTree) → HoldsText behind r → HoldsText behind s → r ≡ s
held-same behind r s h g = go (cut (text_lines r) h.last h.after (text_lines s) g.last g.after (sym h.are_lines ∙ g.are_lines))
  where
    go : Cut (text_lines r) h.last h.after (text_lines s) g.last g.after → r ≡ s
    go (equal e q t) = text_lines-same r s h.has_text g.has_text e
    go (shorter c e) = absurd (front-without_end (text_lines r) h.last c h.ends (subst IsFront e (front-text s g.has_text)))
    go (longer c e) = absurd (front-without_end (text_lines s) g.last c g.ends (subst IsFront e (front-text r h.has_text)))

-- a bad line isn't within a prefix
bad-outside : (behind : List (List ℕ)) (place : ℕ) (b : IsBadAt behind place) (c : List (List ℕ)) → IsFront (b.before ++ (b.bad ∷ c)) → ⊥
bad-outside behind place b c f = b.no_front (front-append (b.before ++ (b.bad ∷ [])) c (subst IsFront (sym (append_assoc b.before (b.bad ∷ []) c)) f))

bad-held : (behind : List (List ℕ)) (place : ℕ) (r : RefutationTree) → IsBadAt behind place → HoldsText behind r → ⊥
bad-held behind place r b h = go (cut b.before b.bad b.after (text_lines r) h.last h.after (sym b.are_lines ∙ h.are_lines))
  where
    go : Cut b.before b.bad b.after (text_lines r) h.last h.after → ⊥
    go (equal e q t) = b.no_end (ap is_end_mark q ∙ h.ends) (record { refutation = r; has_text = h.has_text; whole = e })
    go (shorter c e) = bad-outside behind place b c (subst IsFront e (front-text r h.has_text))
    go (longer c e) = front-without_end (text_lines r) h.last c h.ends (subst IsFront e b.is_front)

bad-front : (behind : List (List ℕ)) (place : ℕ) → IsBadAt behind place → IsFront behind → ⊥
bad-front behind place b f = bad-outside behind place b b.after (subst IsFront b.are_lines f)

bad-same : (behind : List (List ℕ)) (p q : ℕ) → IsBadAt behind p → IsBadAt behind q → p ≡ q
bad-same behind p q b d = go (cut b.before b.bad b.after d.before d.bad d.after (sym b.are_lines ∙ d.are_lines))
  where
    go : Cut b.before b.bad b.after d.before d.bad d.after → p ≡ q
    go (equal e x y) = b.place_is ∙ ap length e ∙ sym d.place_is
    go (shorter c e) = absurd (bad-outside behind p b c (subst IsFront e d.is_front))
    go (longer c e) = absurd (bad-outside behind q d c (subst IsFront e b.is_front))

held-front : (behind : List (List ℕ)) (r : RefutationTree) → HoldsText behind r → IsFront behind → ⊥
held-front behind r h f = front-without_end (text_lines r) h.last h.after h.ends (subst IsFront h.are_lines f)

-- whole readings
read-read : (lines : List (List ℕ)) (r s : RefutationTree) (m n : ℕ) → ReadsAs lines r m → ReadsAs lines s n → read r m ≡ read s n
read-read lines r s m n h g =
    let p = starts-same lines h.before h.behind g.before g.behind h.starts g.starts in
    let same = held-same h.behind r s h.holds (subst (λ x. HoldsText x s) (sym p.1) g.holds) in
    ap₂ read same (h.first_is ∙ ap₂ (λ x y. length x + 3 + length y.names) p.0 same ∙ sym g.first_is)

read-bad : (lines : List (List ℕ)) (r : RefutationTree) (m n : ℕ) → ReadsAs lines r m → HasBadLine lines n → ⊥
read-bad lines r m n h g =
    let p = starts-same lines h.before h.behind g.before g.behind h.starts g.starts in
    bad-held g.behind g.place r g.bad (subst (λ x. HoldsText x r) p.1 h.holds)

read-no_end : (lines : List (List ℕ)) (r : RefutationTree) (m n : ℕ) → ReadsAs lines r m → HasNoEnd lines n → ⊥
read-no_end lines r m n h g =
    let p = starts-same lines h.before h.behind g.before g.behind h.starts g.starts in
    held-front g.behind r (subst (λ x. HoldsText x r) p.1 h.holds) g.is_front

bad-bad : (lines : List (List ℕ)) (m n : ℕ) → HasBadLine lines m → HasBadLine lines n → m ≡ n
bad-bad lines m n h g =
    let p = starts-same lines h.before h.behind g.before g.behind h.starts g.starts in
    let q = bad-same h.behind h.place g.place h.bad (subst (λ x. IsBadAt x g.place) (sym p.1) g.bad) in
    h.line_is ∙ ap₂ (λ x y. length x + 2 + y) p.0 q ∙ sym g.line_is

bad-no_end : (lines : List (List ℕ)) (m n : ℕ) → HasBadLine lines m → HasNoEnd lines n → ⊥
bad-no_end lines m n h g =
    let p = starts-same lines h.before h.behind g.before g.behind h.starts g.starts in
    bad-front g.behind h.place (subst (λ x. IsBadAt x h.place) p.1 h.bad) g.is_front

pub reading-same : (lines : List (List ℕ)) (o p : TextReading) → ReadsText lines o → ReadsText lines p → o ≡ p
reading-same lines (read r m) (read s n) h g = read-read lines r s m n h g
reading-same lines (read r m) (bad_line n) h g = absurd (read-bad lines r m n h g)
reading-same lines (read r m) (no_start n) h g = absurd (no_start-starts lines h.before h.behind g.none h.starts)
reading-same lines (read r m) (no_end n) h g = absurd (read-no_end lines r m n h g)
reading-same lines (bad_line m) (read s n) h g = absurd (read-bad lines s n m g h)
reading-same lines (bad_line m) (bad_line n) h g = ap bad_line (bad-bad lines m n h g)
reading-same lines (bad_line m) (no_start n) h g = absurd (no_start-starts lines h.before h.behind g.none h.starts)
reading-same lines (bad_line m) (no_end n) h g = absurd (bad-no_end lines m n h g)
reading-same lines (no_start m) (read s n) h g = absurd (no_start-starts lines g.before g.behind h.none g.starts)
reading-same lines (no_start m) (bad_line n) h g = absurd (no_start-starts lines g.before g.behind h.none g.starts)
reading-same lines (no_start m) (no_start n) h g = ap no_start (h.line_is ∙ sym g.line_is)
reading-same lines (no_start m) (no_end n) h g = absurd (no_start-starts lines g.before g.behind h.none g.starts)
reading-same lines (no_end m) (read s n) h g = absurd (read-no_end lines s n m g h)
reading-same lines (no_end m) (bad_line n) h g = absurd (bad-no_end lines n m g h)
reading-same lines (no_end m) (no_start n) h g = absurd (no_start-starts lines h.before h.behind g.none h.starts)
reading-same lines (no_end m) (no_end n) h g = ap no_end (h.line_is ∙ sym g.line_is)
