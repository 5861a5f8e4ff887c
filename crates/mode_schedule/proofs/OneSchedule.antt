-- A schedule has one answer.
use Rattle.std.specs.Prelude.{◌≡◌, ◌≢◌, ◌⊎◌, ◌<◌, ◌≤◌, ◌+◌, ℕ, Bool, true, false, List, [], ◌∷◌, ◌++◌, length, Option, None, IsSome, is_some, refl}
use Rattle.std.proofs.Common.{sym, ap, ap₂, ◌∙◌, subst, inl, inr, arith, append_assoc, append-nil, length-append}
use Rattle.mode_file.specs.declared.refused.ModeRefused.{ModeRefused}
use Rattle.mode_file.specs.declared.refused.ModeRefused.TheVariants as mode
use Rattle.mode_file.specs.Grammar.{says_nothing, first_word, States}
use Rattle.mode_file.specs.Keys.{key_of}
use Rattle.mode_file.specs.Refusals.{Refuses}
use Rattle.mode_file.proofs.AnswerLaws.{one_mode, one_refusal, not_both_answers}
use Rattle.mode_schedule.specs.declared.Block.{Block}
use Rattle.mode_schedule.specs.declared.refused.ScheduleRefused.{ScheduleRefused}
use Rattle.mode_schedule.specs.declared.refused.ScheduleRefused.TheVariants as refused
use Rattle.mode_schedule.specs.Grammar.{most_blocks, greatest_slice, is_slice_line, HasSlice, IsSlice, AreInBlock, BeginWithSlice, AreSilent, IsBlock, AreBlocks, HaveBlocks, StatesBlocks, IsBadBefore, IsBadSlice, IsBadInBlock, IsTooMany, HasNoSlice, IsOutOfSlices}
use Rattle.mode_schedule.specs.declared.refused.Cause.{Cause}
use Rattle.mode_schedule.specs.declared.refused.Cause.TheVariants.{UnknownKey, NoSlice, TooManyBlocks, Twice, BadNumber, OutOfRange}
use Rattle.mode_schedule.specs.Refusals.{RefusesBlocks}
use Rattle.mode_schedule.specs.Internal.Refused.{bad_line_of, cause_of, schedule_refused_at, IsBadFirst}
use Rattle.mode_schedule.proofs.SliceLaws.{slice_says, slice_is, one_slice}

no_bool : (b : Bool) → b ≡ true → b ≡ false → ⊥
no_bool b e f = let g = sym e ∙ f in absurd (cc)

-- WHERE LINES ARE CUT

heads : (x y : List ℕ) (xs ys : List (List ℕ)) → x ∷ xs ≡ y ∷ ys → x ≡ y
heads x y xs ys e = cc

tails : (x y : List ℕ) (xs ys : List (List ℕ)) → x ∷ xs ≡ y ∷ ys → xs ≡ ys
tails x y xs ys e = cc

cons_same : (x y : List ℕ) (xs ys us vs : List (List ℕ)) → x ≡ y → (xs ≡ ys) × (us ≡ vs) → (x ∷ xs ≡ y ∷ ys) × (us ≡ vs)
cons_same x y xs ys us vs e h = (ap₂ (λ (a : List ℕ) (as' : List (List ℕ)). a ∷ as') e h.0, h.1)

-- lines none of which is that of a slice, before lines that begin with one: they are cut there in one way
one_cut : (p q x y : List (List ℕ)) → AreInBlock p → AreInBlock q → BeginWithSlice x → BeginWithSlice y → p ++ x ≡ q ++ y → (p ≡ q) × (x ≡ y)
one_cut [] [] x y hp hq hx hy e = (refl, e)
one_cut [] (l ∷ q) x y hp hq hx hy e = let b : BeginWithSlice (l ∷ (q ++ y)) = subst BeginWithSlice e hx in absurd (no_bool (is_slice_line l) b hq.0)
one_cut (l ∷ p) [] x y hp hq hx hy e = let b : BeginWithSlice (l ∷ (p ++ x)) = subst BeginWithSlice (sym e) hy in absurd (no_bool (is_slice_line l) b hp.0)
one_cut (l ∷ p) (k ∷ q) x y hp hq hx hy e = cons_same l k p q x y (heads l k (p ++ x) (q ++ y) e) (one_cut p q x y hp.1 hq.1 hx hy (tails l k (p ++ x) (q ++ y) e))

-- blocks, and what stands behind them, begin with the line of a slice
begin : (lines rest : List (List ℕ)) (blocks : List Block) → AreBlocks lines blocks → BeginWithSlice rest → BeginWithSlice (lines ++ rest)
begin lines rest [] h k = subst (λ (ls : List (List ℕ)). BeginWithSlice (ls ++ rest)) (sym h) k
begin lines rest (b ∷ bs) h k =
    let here : lines ++ rest ≡ h.3.first ∷ ((h.3.body ++ h.1) ++ rest) = ap (λ (ls : List (List ℕ)). ls ++ rest) (h.2 ∙ ap (λ (ls : List (List ℕ)). ls ++ h.1) h.3.lines_are) in
    subst BeginWithSlice (sym here) (slice_is h.3.first b.slice h.3.slice.has)

-- WHERE READING STOPS

-- all lines are read, or the line of this number behind the blocks is bad
data Out : Type 0 where
  all_read : Out
  bad : ℕ → Cause → Out

-- why a line of a slice is bad behind so many blocks
abbrev Why : ℕ → List ℕ → Cause → Type 0
Why k line TooManyBlocks = most_blocks ≤ k
Why k line BadNumber = (k < most_blocks) × ((n : ℕ) → HasSlice line n → ⊥)
Why k line OutOfRange = (k < most_blocks) × ((n : ℕ) × HasSlice line n × ((n ≡ 0) ⊎ (greatest_slice < n)))
Why k line cause = ⊥

record AtSlice (k : ℕ) (lines : List (List ℕ)) (number : ℕ) (cause : Cause) : Type 0 where
  line : List ℕ
  behind : List (List ℕ)
  lines_are : lines ≡ line ∷ behind
  is_slice : is_slice_line line ≡ true
  why : Why k line cause
  number_is : number ≡ 1

record InBody (k : ℕ) (lines : List (List ℕ)) (number : ℕ) (cause : Cause) : Type 0 where
  first : List ℕ
  body : List (List ℕ)
  behind : List (List ℕ)
  n : ℕ
  refusal : ModeRefused
  lines_are : lines ≡ first ∷ (body ++ behind)
  room : k < most_blocks
  slice : IsSlice first n
  inside : AreInBlock body
  ends : BeginWithSlice behind
  refuses : Refuses body refusal
  cause_is : cause ≡ cause_of refusal
  number_is : number ≡ 1 + bad_line_of refusal

abbrev Stops : ℕ → List (List ℕ) → Out → Type 0
Stops k lines all_read = lines ≡ []
Stops k lines (bad number cause) = AtSlice k lines number cause ⊎ InBody k lines number cause

good_slice : (k n : ℕ) (line : List ℕ) (cause : Cause) → k < most_blocks → IsSlice line n → Why k line cause → ⊥
good_slice k n line UnknownKey l s w = w
good_slice k n line NoSlice l s w = w
good_slice k n line TooManyBlocks l s w = omega (arith, l, w)
good_slice k n line Twice l s w = w
good_slice k n line BadNumber l s w = w.1 n s.has
good_slice k n line OutOfRange l s w = by_range w.1.2
  where
    by_range : (w.1.0 ≡ 0) ⊎ (greatest_slice < w.1.0) → ⊥
    by_range (inl e) = omega (arith, e, s.some, one_slice line w.1.0 n w.1.1 s.has)
    by_range (inr h) = omega (arith, h, s.in_range, one_slice line w.1.0 n w.1.1 s.has)

one_why : (k : ℕ) (line : List ℕ) (c d : Cause) → Why k line c → Why k line d → c ≡ d
one_why k line TooManyBlocks TooManyBlocks v w = refl
one_why k line TooManyBlocks BadNumber v w = absurd (omega (arith, v, w.0))
one_why k line TooManyBlocks OutOfRange v w = absurd (omega (arith, v, w.0))
one_why k line BadNumber TooManyBlocks v w = absurd (omega (arith, w, v.0))
one_why k line BadNumber BadNumber v w = refl
one_why k line BadNumber OutOfRange v w = absurd (v.1 w.1.0 w.1.1)
one_why k line OutOfRange TooManyBlocks v w = absurd (omega (arith, w, v.0))
one_why k line OutOfRange BadNumber v w = absurd (w.1 v.1.0 v.1.1)
one_why k line OutOfRange OutOfRange v w = refl
one_why k line UnknownKey d v w = absurd v
one_why k line NoSlice d v w = absurd v
one_why k line Twice d v w = absurd v
one_why k line c UnknownKey v w = absurd w
one_why k line c NoSlice v w = absurd w
one_why k line c Twice v w = absurd w

no_line : (line : List ℕ) (xs ys : List (List ℕ)) → xs ≡ [] → xs ≡ line ∷ ys → ⊥
no_line line xs ys e f = let g = sym e ∙ f in absurd (cc)

slice_or_body : (k : ℕ) (lines : List (List ℕ)) (m n : ℕ) (c d : Cause) → AtSlice k lines m c → InBody k lines n d → ⊥
slice_or_body k lines m n c d a b =
    let same : a.line ≡ b.first = heads a.line b.first a.behind (b.body ++ b.behind) (sym a.lines_are ∙ b.lines_are) in
    good_slice k b.n a.line c b.room (subst (λ (l : List ℕ). IsSlice l b.n) (sym same) b.slice) a.why

one_stop : (k : ℕ) (lines : List (List ℕ)) (o p : Out) → Stops k lines o → Stops k lines p → o ≡ p
one_stop k lines all_read all_read s t = refl
one_stop k lines all_read (bad n d) s (inl t) = absurd (no_line t.line lines t.behind s t.lines_are)
one_stop k lines all_read (bad n d) s (inr t) = absurd (no_line t.first lines (t.body ++ t.behind) s t.lines_are)
one_stop k lines (bad m c) all_read (inl s) t = absurd (no_line s.line lines s.behind t s.lines_are)
one_stop k lines (bad m c) all_read (inr s) t = absurd (no_line s.first lines (s.body ++ s.behind) t s.lines_are)
one_stop k lines (bad m c) (bad n d) (inl s) (inl t) =
    let same : s.line ≡ t.line = heads s.line t.line s.behind t.behind (sym s.lines_are ∙ t.lines_are) in
    ap₂ bad (s.number_is ∙ sym t.number_is) (one_why k t.line c d (subst (λ (l : List ℕ). Why k l c) same s.why) t.why)
one_stop k lines (bad m c) (bad n d) (inl s) (inr t) = absurd (slice_or_body k lines m n c d s t)
one_stop k lines (bad m c) (bad n d) (inr s) (inl t) = absurd (slice_or_body k lines n m d c t s)
one_stop k lines (bad m c) (bad n d) (inr s) (inr t) =
    let e = sym s.lines_are ∙ t.lines_are in
    let cut = one_cut s.body t.body s.behind t.behind s.inside t.inside s.ends t.ends (tails s.first t.first (s.body ++ s.behind) (t.body ++ t.behind) e) in
    let same : s.refusal ≡ t.refusal = one_refusal t.body s.refusal t.refusal (subst (λ (ls : List (List ℕ)). Refuses ls s.refusal) cut.0 s.refuses) t.refuses in
    ap₂ bad (s.number_is ∙ ap (λ r. 1 + bad_line_of r) same ∙ sym t.number_is) (s.cause_is ∙ ap cause_of same ∙ sym t.cause_is)

-- where reading stops, no block stands
no_block : (k : ℕ) (lines own rest : List (List ℕ)) (b : Block) (o : Out) → Stops k lines o → IsBlock own b → BeginWithSlice rest → k < most_blocks → lines ≡ own ++ rest → ⊥
no_block k lines own rest b all_read s h begins l e = no_line h.first lines (h.body ++ rest) s (e ∙ ap (λ (ls : List (List ℕ)). ls ++ rest) h.lines_are)
no_block k lines own rest b (bad n c) (inl s) h begins l e =
    let f = sym s.lines_are ∙ e ∙ ap (λ (ls : List (List ℕ)). ls ++ rest) h.lines_are in
    let same : s.line ≡ h.first = heads s.line h.first s.behind (h.body ++ rest) f in
    good_slice k b.slice s.line c l (subst (λ (x : List ℕ). IsSlice x b.slice) (sym same) h.slice) s.why
no_block k lines own rest b (bad n c) (inr s) h begins l e =
    let f = sym s.lines_are ∙ e ∙ ap (λ (ls : List (List ℕ)). ls ++ rest) h.lines_are in
    let cut = one_cut s.body h.body s.behind rest s.inside h.inside s.ends begins (tails s.first h.first (s.body ++ s.behind) (h.body ++ rest) f) in
    not_both_answers h.body b.mode s.refusal h.mode (subst (λ (ls : List (List ℕ)). Refuses ls s.refusal) cut.0 s.refuses)

stop_begins : (k : ℕ) (lines : List (List ℕ)) (o : Out) → Stops k lines o → BeginWithSlice lines
stop_begins k lines all_read s = subst BeginWithSlice (sym s) tt
stop_begins k lines (bad n c) (inl s) = subst BeginWithSlice (sym s.lines_are) s.is_slice
stop_begins k lines (bad n c) (inr s) = subst BeginWithSlice (sym s.lines_are) (slice_is s.first s.n s.slice.has)

same_block : (first first' : List ℕ) (body body' : List (List ℕ)) (b b' : Block) → first ≡ first' → body ≡ body' → IsSlice first b.slice → IsSlice first' b'.slice → States body b.mode → States body' b'.mode → b ≡ b'
same_block first first' body body' b b' e f s s' m m' =
    ap₂ (λ n mode. record { slice = n; mode = mode })
    (one_slice first' b.slice b'.slice (subst (λ (l : List ℕ). HasSlice l b.slice) e s.has) s'.has)
    (one_mode body' b.mode b'.mode (subst (λ (ls : List (List ℕ)). States ls b.mode) f m) m')

whole : (own rest tail : List (List ℕ)) (first : List ℕ) (body all : List (List ℕ)) → all ≡ own ++ rest → own ≡ first ∷ body → all ++ tail ≡ first ∷ (body ++ (rest ++ tail))
whole own rest tail first body all e f = ap (λ (ls : List (List ℕ)). ls ++ tail) e ∙ append_assoc own rest tail ∙ ap (λ (ls : List (List ℕ)). ls ++ (rest ++ tail)) f

record Same (bs cs : List Block) (m n : ℕ) (o p : Out) : Type 0 where
  blocks : bs ≡ cs
  lines : m ≡ n
  out : o ≡ p

one_way : (bs cs : List Block) (k : ℕ) (own own' tail tail' : List (List ℕ)) (o p : Out) → AreBlocks own bs → AreBlocks own' cs → k + length bs ≤ most_blocks → k + length cs ≤ most_blocks
    → Stops (k + length bs) tail o → Stops (k + length cs) tail' p → own ++ tail ≡ own' ++ tail' → Same bs cs (length own) (length own') o p
one_way [] [] k own own' tail tail' o p h h' l l' s s' e =
    let same : tail ≡ tail' = ap (λ (ls : List (List ℕ)). ls ++ tail) (sym h) ∙ e ∙ ap (λ (ls : List (List ℕ)). ls ++ tail') h' in
    record { blocks = refl; lines = ap length (h ∙ sym h'); out = one_stop (k + 0) tail' o p (subst (λ (ls : List (List ℕ)). Stops (k + 0) ls o) same s) s' }
one_way [] (c ∷ cs) k own own' tail tail' o p h h' l l' s s' e =
    let same : tail ≡ h'.0 ++ (h'.1 ++ tail') = ap (λ (ls : List (List ℕ)). ls ++ tail) (sym h) ∙ e ∙ ap (λ (ls : List (List ℕ)). ls ++ tail') h'.2 ∙ append_assoc h'.0 h'.1 tail' in
    absurd (no_block (k + 0) tail h'.0 (h'.1 ++ tail') c o s h'.3 (begin h'.1 tail' cs h'.4 (stop_begins _ tail' p s')) (omega (arith, l')) same)
one_way (b ∷ bs) [] k own own' tail tail' o p h h' l l' s s' e =
    let same : tail' ≡ h.0 ++ (h.1 ++ tail) = ap (λ (ls : List (List ℕ)). ls ++ tail') (sym h') ∙ sym e ∙ ap (λ (ls : List (List ℕ)). ls ++ tail) h.2 ∙ append_assoc h.0 h.1 tail in
    absurd (no_block (k + 0) tail' h.0 (h.1 ++ tail) b p s' h.3 (begin h.1 tail bs h.4 (stop_begins _ tail o s)) (omega (arith, l)) same)
one_way (b ∷ bs) (c ∷ cs) k own own' tail tail' o p h h' l l' s s' e =
    let x = h.3 in
    let y = h'.3 in
    let f = sym (whole h.0 h.1 tail x.first x.body own h.2 x.lines_are) ∙ e ∙ whole h'.0 h'.1 tail' y.first y.body own' h'.2 y.lines_are in
    let cut = one_cut x.body y.body (h.1 ++ tail) (h'.1 ++ tail') x.inside y.inside (begin h.1 tail bs h.4 (stop_begins _ tail o s)) (begin h'.1 tail' cs h'.4 (stop_begins _ tail' p s')) (tails x.first y.first (x.body ++ (h.1 ++ tail)) (y.body ++ (h'.1 ++ tail')) f) in
    let one = same_block x.first y.first x.body y.body b c (heads x.first y.first (x.body ++ (h.1 ++ tail)) (y.body ++ (h'.1 ++ tail')) f) cut.0 x.slice y.slice x.mode y.mode in
    let rest = one_way bs cs (k + 1) h.1 h'.1 tail tail' o p h.4 h'.4 (omega (arith, l)) (omega (arith, l')) (subst (λ n. Stops n tail o) (omega arith) s) (subst (λ n. Stops n tail' p) (omega arith) s') cut.1 in
    record {
      blocks = ap₂ (λ (z : Block) (zs : List Block). z ∷ zs) one rest.blocks;
      lines = omega (arith, rest.lines, ap length cut.0, ap length h.2, ap length h'.2, ap length x.lines_are, ap length y.lines_are, length-append h.0 h.1, length-append h'.0 h'.1);
      out = rest.out;
    }

-- WHOLE FILES

abbrev BeginLoud : List (List ℕ) → Type 0
BeginLoud [] = Unit {0}
BeginLoud (line ∷ lines) = says_nothing line ≡ false

loud : (lines : List (List ℕ)) → BeginWithSlice lines → BeginLoud lines
loud [] h = tt
loud (l ∷ ls) h = slice_says l h

loud_cut : (p q x y : List (List ℕ)) → AreSilent p → AreSilent q → BeginLoud x → BeginLoud y → p ++ x ≡ q ++ y → (p ≡ q) × (x ≡ y)
loud_cut [] [] x y hp hq hx hy e = (refl, e)
loud_cut [] (l ∷ q) x y hp hq hx hy e = let b : BeginLoud (l ∷ (q ++ y)) = subst BeginLoud e hx in absurd (no_bool (says_nothing l) hq.0 b)
loud_cut (l ∷ p) [] x y hp hq hx hy e = let b : BeginLoud (l ∷ (p ++ x)) = subst BeginLoud (sym e) hy in absurd (no_bool (says_nothing l) hp.0 b)
loud_cut (l ∷ p) (k ∷ q) x y hp hq hx hy e = cons_same l k p q x y (heads l k (p ++ x) (q ++ y) e) (loud_cut p q x y hp.1 hq.1 hx hy (tails l k (p ++ x) (q ++ y) e))

-- lines that have some blocks, and where reading stops behind them
record Reading (lines : List (List ℕ)) (bs : List Block) (before : ℕ) (o : Out) : Type 0 where
  front : List (List ℕ)
  tail : List (List ℕ)
  lines_are : lines ≡ front ++ tail
  have : HaveBlocks front bs
  stops : Stops (length bs) tail o
  before_is : before ≡ length front

parts_of : (lines : List (List ℕ)) (bs : List Block) (n : ℕ) (o : Out) (r : Reading lines bs n o) → lines ≡ r.have.preface ++ (r.have.own ++ r.tail)
parts_of lines bs n o r = r.lines_are ∙ ap (λ (ls : List (List ℕ)). ls ++ r.tail) r.have.lines_are ∙ append_assoc r.have.preface r.have.own r.tail

begins_of : (lines : List (List ℕ)) (bs : List Block) (n : ℕ) (o : Out) (r : Reading lines bs n o) → BeginWithSlice (r.have.own ++ r.tail)
begins_of lines bs n o r = begin r.have.own r.tail bs r.have.are_blocks (stop_begins (length bs) r.tail o r.stops)

one_reading : (lines : List (List ℕ)) (bs cs : List Block) (m n : ℕ) (o p : Out) → Reading lines bs m o → Reading lines cs n p → Same bs cs m n o p
one_reading lines bs cs m n o p r t =
    let cut = loud_cut r.have.preface t.have.preface (r.have.own ++ r.tail) (t.have.own ++ t.tail) r.have.silent t.have.silent (loud _ (begins_of lines bs m o r)) (loud _ (begins_of lines cs n p t)) (sym (parts_of lines bs m o r) ∙ parts_of lines cs n p t) in
    let same = one_way bs cs 0 r.have.own t.have.own r.tail t.tail o p r.have.are_blocks t.have.are_blocks (omega (arith, r.have.room)) (omega (arith, t.have.room)) (subst (λ k. Stops k r.tail o) (omega arith) r.stops) (subst (λ k. Stops k t.tail p) (omega arith) t.stops) cut.1 in
    record {
      blocks = same.blocks;
      lines = omega (arith, r.before_is, t.before_is, same.lines, ap length cut.0, ap length r.have.lines_are, ap length t.have.lines_are, length-append r.have.preface r.have.own, length-append t.have.preface t.have.own);
      out = same.out;
    }

-- a bad line before all blocks
record Before (lines : List (List ℕ)) (number : ℕ) (cause : Cause) : Type 0 where
  is_bad : IsBadBefore lines number (λ line. IsBadFirst line cause)

not_before : (lines : List (List ℕ)) (number : ℕ) (W : List ℕ → Type 0) (bs : List Block) (n : ℕ) (o : Out) → IsBadBefore lines number W → Reading lines bs n o → ⊥
not_before lines number W bs n o b r =
    let cut = loud_cut b.before r.have.preface (b.bad ∷ b.behind) (r.have.own ++ r.tail) b.silent r.have.silent b.says (loud _ (begins_of lines bs n o r)) (sym b.lines_are ∙ parts_of lines bs n o r) in
    let here : BeginWithSlice (b.bad ∷ b.behind) = subst BeginWithSlice (sym cut.1) (begins_of lines bs n o r) in
    no_bool (is_slice_line b.bad) here b.is_other

no_key : {K : Type 0} (o : Option K) → o ≡ None → IsSome o → ⊥
no_key o e h = let g = ap is_some (sym e) ∙ h in absurd (cc)

one_first : (line : List ℕ) (c d : Cause) → IsBadFirst line c → IsBadFirst line d → c ≡ d
one_first line UnknownKey UnknownKey v w = refl
one_first line UnknownKey NoSlice v w = absurd (no_key (key_of (first_word line)) v w)
one_first line NoSlice UnknownKey v w = absurd (no_key (key_of (first_word line)) w v)
one_first line NoSlice NoSlice v w = refl
one_first line TooManyBlocks d v w = absurd v
one_first line Twice d v w = absurd v
one_first line BadNumber d v w = absurd v
one_first line OutOfRange d v w = absurd v
one_first line c TooManyBlocks v w = absurd w
one_first line c Twice v w = absurd w
one_first line c BadNumber v w = absurd w
one_first line c OutOfRange v w = absurd w

one_before : (lines : List (List ℕ)) (m n : ℕ) (c d : Cause) → IsBadBefore lines m (λ line. IsBadFirst line c) → IsBadBefore lines n (λ line. IsBadFirst line d) → (m ≡ n) × (c ≡ d)
one_before lines m n c d a b =
    let cut = loud_cut a.before b.before (a.bad ∷ a.behind) (b.bad ∷ b.behind) a.silent b.silent a.says b.says (sym a.lines_are ∙ b.lines_are) in
    let same : a.bad ≡ b.bad = heads a.bad b.bad a.behind b.behind cut.1 in
    (omega (arith, a.number_is, b.number_is, ap length cut.0), one_first b.bad c d (subst (λ (l : List ℕ). IsBadFirst l c) same a.why) b.why)

-- ANSWERS

-- what is refused where reading stops behind so many lines
abbrev refusal_of : ℕ → Out → ScheduleRefused
refusal_of n all_read = schedule_refused_at (n + 1) NoSlice
refusal_of n (bad m cause) = schedule_refused_at (n + m) cause

record Read (lines : List (List ℕ)) (r : ScheduleRefused) : Type 0 where
  blocks : List Block
  before : ℕ
  out : Out
  reading : Reading lines blocks before out
  none : out ≡ all_read → blocks ≡ []
  is : r ≡ refusal_of before out

record First (lines : List (List ℕ)) (r : ScheduleRefused) : Type 0 where
  number : ℕ
  cause : Cause
  is_bad : IsBadBefore lines number (λ line. IsBadFirst line cause)
  is : r ≡ schedule_refused_at number cause

bad_some : (m : ℕ) (c : Cause) (bs : List Block) → bad m c ≡ all_read → bs ≡ []
bad_some m c bs e = absurd (cc)

at_slice : (lines : List (List ℕ)) (number : ℕ) (cause : Cause) (W : List ℕ → List Block → Type 0) → ((line : List ℕ) (bs : List Block) → W line bs → Why (length bs) line cause) → IsBadSlice lines number W → Read lines (schedule_refused_at number cause)
at_slice lines number cause W f h = record {
  blocks = h.blocks;
  before = length h.before;
  out = bad 1 cause;
  reading = record { front = h.before; tail = h.bad ∷ h.behind; lines_are = h.lines_are; have = h.have; stops = inl (record { line = h.bad; behind = h.behind; lines_are = refl; is_slice = h.is_slice; why = f h.bad h.blocks h.why; number_is = refl }); before_is = refl };
  none = bad_some 1 cause h.blocks;
  is = ap (λ n. schedule_refused_at n cause) h.number_is;
}

in_body : (lines : List (List ℕ)) (number : ℕ) (make : ℕ → ModeRefused) → ((n : ℕ) → bad_line_of (make n) ≡ n) → (h : IsBadInBlock lines number make) → Read lines (schedule_refused_at number (cause_of (make h.line)))
in_body lines number make f h = record {
  blocks = h.blocks;
  before = length h.before;
  out = bad (1 + h.line) (cause_of (make h.line));
  reading = record {
    front = h.before;
    tail = h.first ∷ (h.body ++ h.behind);
    lines_are = h.lines_are;
    have = h.have;
    stops = inr (record { first = h.first; body = h.body; behind = h.behind; n = h.n; refusal = make h.line; lines_are = refl; room = h.room; slice = h.slice; inside = h.inside; ends = h.ends; refuses = h.refuses; cause_is = refl; number_is = ap (λ n. 1 + n) (sym (f h.line)) });
    before_is = refl;
  };
  none = bad_some (1 + h.line) (cause_of (make h.line)) h.blocks;
  is = ap (λ n. schedule_refused_at n (cause_of (make h.line))) (omega (arith, h.number_is));
}

view : (lines : List (List ℕ)) (r : ScheduleRefused) → r ≢ refused.Memory → RefusesBlocks lines r → First lines r ⊎ Read lines r
view lines (refused.UnknownKey n) m (inl h) = inl (record { number = n; cause = UnknownKey; is_bad = h; is = refl })
view lines (refused.UnknownKey n) m (inr h) = inr (in_body lines n mode.UnknownKey (λ k. refl) h)
view lines (refused.NoSlice n) m (inl h) = inl (record { number = n; cause = NoSlice; is_bad = h; is = refl })
view lines (refused.NoSlice n) m (inr h) = inr (record {
  blocks = [];
  before = length lines;
  out = all_read;
  reading = record { front = lines; tail = []; lines_are = sym (append-nil lines); have = record { preface = lines; own = []; lines_are = sym (append-nil lines); silent = h.silent; are_blocks = refl; room = omega arith }; stops = refl; before_is = refl };
  none = λ e. refl;
  is = ap refused.NoSlice h.number_is;
})
view lines (refused.TooManyBlocks n) m h = inr (at_slice lines n TooManyBlocks IsTooMany (λ line bs w. w) h)
view lines (refused.Twice n) m h = inr (in_body lines n mode.Twice (λ k. refl) h)
view lines (refused.BadNumber n) m (inl h) = inr (at_slice lines n BadNumber HasNoSlice (λ line bs w. w) h)
view lines (refused.BadNumber n) m (inr h) = inr (in_body lines n mode.BadNumber (λ k. refl) h)
view lines (refused.OutOfRange n) m (inl h) = inr (at_slice lines n OutOfRange IsOutOfSlices (λ line bs w. w) h)
view lines (refused.OutOfRange n) m (inr h) = inr (in_body lines n mode.OutOfRange (λ k. refl) h)
view lines refused.Memory m h = absurd (m refl)

stated : (lines : List (List ℕ)) (bs : List Block) → StatesBlocks lines bs → Reading lines bs (length lines) all_read
stated lines bs s = record { front = lines; tail = []; lines_are = sym (append-nil lines); have = s.have; stops = refl; before_is = refl }

pub one_schedule : (lines : List (List ℕ)) (bs cs : List Block) → StatesBlocks lines bs → StatesBlocks lines cs → bs ≡ cs
one_schedule lines bs cs s t = (one_reading lines bs cs _ _ all_read all_read (stated lines bs s) (stated lines cs t)).blocks

pub one_schedule_refusal : (lines : List (List ℕ)) (r s : ScheduleRefused) → r ≢ refused.Memory → s ≢ refused.Memory → RefusesBlocks lines r → RefusesBlocks lines s → r ≡ s
one_schedule_refusal lines r s m n h k = by_kind (view lines r m h) (view lines s n k)
  where
    by_kind : First lines r ⊎ Read lines r → First lines s ⊎ Read lines s → r ≡ s
    by_kind (inl a) (inl b) =
        let same = one_before lines a.number b.number a.cause b.cause a.is_bad b.is_bad in
        a.is ∙ ap₂ schedule_refused_at same.0 same.1 ∙ sym b.is
    by_kind (inl a) (inr b) = absurd (not_before lines a.number _ b.blocks b.before b.out a.is_bad b.reading)
    by_kind (inr a) (inl b) = absurd (not_before lines b.number _ a.blocks a.before a.out b.is_bad a.reading)
    by_kind (inr a) (inr b) =
        let same = one_reading lines a.blocks b.blocks a.before b.before a.out b.out a.reading b.reading in
        a.is ∙ ap₂ refusal_of same.lines same.out ∙ sym b.is

pub schedule_or_refusal : (lines : List (List ℕ)) (bs : List Block) (r : ScheduleRefused) → r ≢ refused.Memory → StatesBlocks lines bs → RefusesBlocks lines r → ⊥
schedule_or_refusal lines bs r m s h = by_kind (view lines r m h)
  where
    by_kind : First lines r ⊎ Read lines r → ⊥
    by_kind (inl a) = not_before lines a.number _ bs (length lines) all_read a.is_bad (stated lines bs s)
    by_kind (inr a) =
        let same = one_reading lines bs a.blocks (length lines) a.before all_read a.out (stated lines bs s) a.reading in
        s.some (same.blocks ∙ a.none (sym same.out))
