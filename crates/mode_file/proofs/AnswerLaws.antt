-- A file has one answer.
use Rattle.std.proofs.Common.{◌≡◌, inl, inr, ℕ, suc, ◌+◌, false, List, [], ◌∷◌, ◌++◌, length, Option, Some, None, IsSome, refl, sym, ap, ◌∙◌, subst, arith}
use Rattle.mode_file.specs.declared.Mode.{Mode}
use Rattle.mode_file.specs.declared.given.Given.{Given}
use Rattle.mode_file.specs.declared.keys.Key.{Key}
use Rattle.mode_file.specs.declared.refused.Cause.{Cause}
use Rattle.mode_file.specs.declared.refused.Cause.TheVariants.{UnknownKey, Twice, BadNumber, OutOfRange}
use Rattle.mode_file.specs.declared.refused.ModeRefused.{ModeRefused}
use Rattle.mode_file.specs.declared.refused.ModeRefused.TheVariants as refused
use Rattle.mode_file.specs.Keys.{greatest, key_of}
use Rattle.mode_file.specs.Given.{nothing_given, number_given, with_number, mode_of}
use Rattle.mode_file.specs.Grammar.{says_nothing, first_word, Sets, Gives, IsGoodLine, AreGoodLines, IsGivenTwice, HasBadNumber, IsOutOfRange, IsBadFor, States, IsFirstBad}
use Rattle.mode_file.specs.Refusals.{Refuses}
use Rattle.mode_file.proofs.LineLaws.{Sets-says, Sets-key, one_key, one_number}

not_both : (o : Option ℕ) → o ≡ None → IsSome o → ⊥
not_both None h k = absurd (cc)
not_both (Some n) h k = absurd (cc)

gives_one : (before : Given) (line : List ℕ) (x y : Given) → Gives before line x → Gives before line y → x ≡ y
gives_one before line x y g h =
    let key = one_key line g.key h.key g.n h.n g.sets h.sets in
    let number = one_number line g.key h.key g.n h.n g.sets h.sets in
    g.after_is ∙ ap (λ (k : Key). with_number before k g.n) key ∙ ap (with_number before h.key) number ∙ sym h.after_is

good_one : (before : Given) (line : List ℕ) (x y : Given) → IsGoodLine before line x → IsGoodLine before line y → x ≡ y
good_one before line x y (inl g) (inl h) = g.1 ∙ sym h.1
good_one before line x y (inl g) (inr h) = let other = Sets-says line h.key h.n h.sets in let one = g.0 in absurd (cc)
good_one before line x y (inr g) (inl h) = let other = Sets-says line g.key g.n g.sets in let one = h.0 in absurd (cc)
good_one before line x y (inr g) (inr h) = gives_one before line x y g h

gives_no_bad : (before : Given) (line : List ℕ) (x : Given) (cause : Cause) → Gives before line x → IsBadFor before line cause → ⊥
gives_no_bad before line x UnknownKey g bad = let named = Sets-key line g.key g.n g.sets in absurd (cc)
gives_no_bad before line x Twice g bad =
    let named = Sets-key line g.key g.n g.sets in
    let other = bad.named in
    let same : g.key ≡ bad.key = cc in
    not_both (number_given before bad.key) (ap (number_given before) (sym same) ∙ g.is_new) bad.has
gives_no_bad before line x BadNumber g bad =
    let named = Sets-key line g.key g.n g.sets in
    let other = bad.named in
    let same : g.key ≡ bad.key = cc in
    bad.no_number g.n (subst (λ (k : Key). Sets line k g.n) same g.sets)
gives_no_bad before line x OutOfRange g bad =
    let key = one_key line g.key bad.key g.n bad.n g.sets bad.sets in
    let number = one_number line g.key bad.key g.n bad.n g.sets bad.sets in
    let limit = ap greatest key in
    let within = g.in_range in
    let above = bad.above in
    absurd (omega (arith, number, limit, within, above))

good_no_bad : (before : Given) (line : List ℕ) (x : Given) (cause : Cause) → says_nothing line ≡ false → IsGoodLine before line x → IsBadFor before line cause → ⊥
good_no_bad before line x cause says (inl g) bad = let one = g.0 in absurd (cc)
good_no_bad before line x cause says (inr g) bad = gives_no_bad before line x cause g bad

unknown_twice : (given : Given) (line : List ℕ) → key_of (first_word line) ≡ None → IsGivenTwice given line → ⊥
unknown_twice given line h k = let named = k.named in absurd (cc)

unknown_number : (given : Given) (line : List ℕ) → key_of (first_word line) ≡ None → HasBadNumber given line → ⊥
unknown_number given line h k = let named = k.named in absurd (cc)

unknown_range : (given : Given) (line : List ℕ) → key_of (first_word line) ≡ None → IsOutOfRange given line → ⊥
unknown_range given line h k = let named = Sets-key line k.key k.n k.sets in absurd (cc)

twice_number : (given : Given) (line : List ℕ) → IsGivenTwice given line → HasBadNumber given line → ⊥
twice_number given line h k =
    let named = h.named in
    let other = k.named in
    let same : k.key ≡ h.key = cc in
    not_both (number_given given h.key) (ap (number_given given) (sym same) ∙ k.is_new) h.has

twice_range : (given : Given) (line : List ℕ) → IsGivenTwice given line → IsOutOfRange given line → ⊥
twice_range given line h k =
    let named = h.named in
    let other = Sets-key line k.key k.n k.sets in
    let same : k.key ≡ h.key = cc in
    not_both (number_given given h.key) (ap (number_given given) (sym same) ∙ k.is_new) h.has

number_range : (given : Given) (line : List ℕ) → HasBadNumber given line → IsOutOfRange given line → ⊥
number_range given line h k =
    let named = h.named in
    let other = Sets-key line k.key k.n k.sets in
    let same : k.key ≡ h.key = cc in
    h.no_number k.n (subst (λ (key : Key). Sets line key k.n) same k.sets)

one_cause : (given : Given) (line : List ℕ) (c d : Cause) → IsBadFor given line c → IsBadFor given line d → c ≡ d
one_cause given line UnknownKey UnknownKey h k = refl
one_cause given line UnknownKey Twice h k = absurd (unknown_twice given line h k)
one_cause given line UnknownKey BadNumber h k = absurd (unknown_number given line h k)
one_cause given line UnknownKey OutOfRange h k = absurd (unknown_range given line h k)
one_cause given line Twice UnknownKey h k = absurd (unknown_twice given line k h)
one_cause given line Twice Twice h k = refl
one_cause given line Twice BadNumber h k = absurd (twice_number given line h k)
one_cause given line Twice OutOfRange h k = absurd (twice_range given line h k)
one_cause given line BadNumber UnknownKey h k = absurd (unknown_number given line k h)
one_cause given line BadNumber Twice h k = absurd (twice_number given line k h)
one_cause given line BadNumber BadNumber h k = refl
one_cause given line BadNumber OutOfRange h k = absurd (number_range given line h k)
one_cause given line OutOfRange UnknownKey h k = absurd (unknown_range given line k h)
one_cause given line OutOfRange Twice h k = absurd (twice_range given line k h)
one_cause given line OutOfRange BadNumber h k = absurd (number_range given line k h)
one_cause given line OutOfRange OutOfRange h k = refl

-- whole files
good_lines_one : (lines : List (List ℕ)) (before x y : Given) → AreGoodLines before lines x → AreGoodLines before lines y → x ≡ y
good_lines_one [] before x y g h = g ∙ sym h
good_lines_one (l ∷ ls) before x y g h =
    let same = good_one before l g.0 h.0 g.1.0 h.1.0 in
    good_lines_one ls g.0 x y g.1.1 (subst (λ (v : Given). AreGoodLines v ls y) (sym same) h.1.1)

good_lines_no_bad : (front behind : List (List ℕ)) (bad : List ℕ) (before given x : Given) (cause : Cause) → AreGoodLines before (front ++ (bad ∷ behind)) x → AreGoodLines before front given → says_nothing bad ≡ false → IsBadFor given bad cause → ⊥
good_lines_no_bad [] behind bad before given x cause g h says is_bad =
    good_no_bad before bad g.0 cause says g.1.0 (subst (λ (v : Given). IsBadFor v bad cause) h is_bad)
good_lines_no_bad (l ∷ ls) behind bad before given x cause g h says is_bad =
    let same = good_one before l g.0 h.0 g.1.0 h.1.0 in
    good_lines_no_bad ls behind bad g.0 given x cause g.1.1 (subst (λ (v : Given). AreGoodLines v ls given) (sym same) h.1.1) says is_bad

-- a first bad line, behind good ones
record BadBehind (before : Given) (lines front : List (List ℕ)) (cause : Cause) : Type 0 where
  bad : List ℕ
  behind : List (List ℕ)
  given : Given
  lines_are : lines ≡ front ++ (bad ∷ behind)
  good : AreGoodLines before front given
  says : says_nothing bad ≡ false
  cause_is : IsBadFor given bad cause

same_bad : (front other lines : List (List ℕ)) (before : Given) (c d : Cause) → BadBehind before lines front c → BadBehind before lines other d → (length front ≡ length other) × (c ≡ d)
same_bad [] [] lines before c d x y =
    let first = x.lines_are in
    let second = y.lines_are in
    let same : y.bad ≡ x.bad = cc in
    let bad : IsBadFor before x.bad c = subst (λ (v : Given). IsBadFor v x.bad c) x.good x.cause_is in
    let other : IsBadFor before x.bad d = subst (λ (l : List ℕ). IsBadFor before l d) same (subst (λ (v : Given). IsBadFor v y.bad d) y.good y.cause_is) in
    (refl, one_cause before x.bad c d bad other)
same_bad [] (l ∷ ls) lines before c d x y =
    let first = x.lines_are in
    let second = y.lines_are in
    let same : l ≡ x.bad = cc in
    let bad : IsBadFor before x.bad c = subst (λ (v : Given). IsBadFor v x.bad c) x.good x.cause_is in
    absurd (good_no_bad before x.bad y.good.0 c x.says (subst (λ (m : List ℕ). IsGoodLine before m y.good.0) same y.good.1.0) bad)
same_bad (l ∷ ls) [] lines before c d x y =
    let first = x.lines_are in
    let second = y.lines_are in
    let same : l ≡ y.bad = cc in
    let bad : IsBadFor before y.bad d = subst (λ (v : Given). IsBadFor v y.bad d) y.good y.cause_is in
    absurd (good_no_bad before y.bad x.good.0 d y.says (subst (λ (m : List ℕ). IsGoodLine before m x.good.0) same x.good.1.0) bad)
same_bad (l ∷ ls) (m ∷ ms) lines before c d x y =
    let first = x.lines_are in
    let second = y.lines_are in
    let head : m ≡ l = cc in
    let tail : ls ++ (x.bad ∷ x.behind) ≡ ms ++ (y.bad ∷ y.behind) = cc in
    let step : IsGoodLine before l y.good.0 = subst (λ (k : List ℕ). IsGoodLine before k y.good.0) head y.good.1.0 in
    let same = good_one before l x.good.0 y.good.0 x.good.1.0 step in
    let rest = same_bad ls ms (ls ++ (x.bad ∷ x.behind)) x.good.0 c d
    (record { bad = x.bad; behind = x.behind; given = x.given; lines_are = refl; good = x.good.1.1; says = x.says; cause_is = x.cause_is })
    (record { bad = y.bad; behind = y.behind; given = y.given; lines_are = tail; good = subst (λ (v : Given). AreGoodLines v ms y.given) (sym same) y.good.1.1; says = y.says; cause_is = y.cause_is }) in
    (ap suc rest.0, rest.1)

pub one_mode : (lines : List (List ℕ)) (m n : Mode) → States lines m → States lines n → m ≡ n
one_mode lines m n s t = s.mode_is ∙ ap mode_of (good_lines_one lines nothing_given s.given t.given s.good t.good) ∙ sym t.mode_is

bad_behind : (lines : List (List ℕ)) (number : ℕ) (cause : Cause) (f : IsFirstBad lines number cause) → BadBehind nothing_given lines f.before cause
bad_behind lines number cause f = record { bad = f.bad; behind = f.behind; given = f.given; lines_are = f.lines_are; good = f.good; says = f.says; cause_is = f.cause_is }

first_bad_one : (lines : List (List ℕ)) (i j : ℕ) (c d : Cause) → IsFirstBad lines i c → IsFirstBad lines j d → (i ≡ j) × (c ≡ d)
first_bad_one lines i j c d f g =
    let same = same_bad f.before g.before lines nothing_given c d (bad_behind lines i c f) (bad_behind lines j d g) in
    (f.number_is ∙ ap (λ n. n + 1) same.0 ∙ sym g.number_is, same.1)

-- the parts of a refusal
abbrev line_of : ModeRefused → ℕ
line_of (refused.UnknownKey line) = line
line_of (refused.Twice line) = line
line_of (refused.BadNumber line) = line
line_of (refused.OutOfRange line) = line

abbrev cause_of : ModeRefused → Cause
cause_of (refused.UnknownKey line) = UnknownKey
cause_of (refused.Twice line) = Twice
cause_of (refused.BadNumber line) = BadNumber
cause_of (refused.OutOfRange line) = OutOfRange

abbrev refusal : ℕ → Cause → ModeRefused
refusal line UnknownKey = refused.UnknownKey line
refusal line Twice = refused.Twice line
refusal line BadNumber = refused.BadNumber line
refusal line OutOfRange = refused.OutOfRange line

is_refusal : (r : ModeRefused) → r ≡ refusal (line_of r) (cause_of r)
is_refusal (refused.UnknownKey line) = refl
is_refusal (refused.Twice line) = refl
is_refusal (refused.BadNumber line) = refl
is_refusal (refused.OutOfRange line) = refl

first_bad : (lines : List (List ℕ)) (r : ModeRefused) → Refuses lines r → IsFirstBad lines (line_of r) (cause_of r)
first_bad lines (refused.UnknownKey line) h = h
first_bad lines (refused.Twice line) h = h
first_bad lines (refused.BadNumber line) h = h
first_bad lines (refused.OutOfRange line) h = h

pub one_refusal : (lines : List (List ℕ)) (r s : ModeRefused) → Refuses lines r → Refuses lines s → r ≡ s
one_refusal lines r s h k =
    let same = first_bad_one lines (line_of r) (line_of s) (cause_of r) (cause_of s) (first_bad lines r h) (first_bad lines s k) in
    is_refusal r ∙ ap (λ n. refusal n (cause_of r)) same.0 ∙ ap (refusal (line_of s)) same.1 ∙ sym (is_refusal s)

pub not_both_answers : (lines : List (List ℕ)) (m : Mode) (r : ModeRefused) → States lines m → Refuses lines r → ⊥
not_both_answers lines m r s h =
    let f = first_bad lines r h in
    good_lines_no_bad f.before f.behind f.bad nothing_given f.given s.given (cause_of r) (subst (λ (ls : List (List ℕ)). AreGoodLines nothing_given ls s.given) f.lines_are s.good) f.good f.says f.cause_is
