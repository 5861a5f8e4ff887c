-- Files line by line: what was read so far.
use Rattle.std.proofs.Common.{◌≡◌, ℕ, ◌+◌, ◌<◌, ◌≤◌, false, List, [], ◌∷◌, ◌++◌, length, refl, sym, ap, ◌∙◌, subst, arith, append_assoc, length-append}
use Rattle.mode_file.specs.declared.Mode.{Mode}
use Rattle.mode_file.specs.declared.given.Given.{Given}
use Rattle.mode_file.specs.declared.refused.Cause.{Cause}
use Rattle.mode_file.specs.Given.{nothing_given, mode_of, IsInRange}
use Rattle.outside.specs.Lines.{lines_of}
use Rattle.mode_file.specs.Grammar.{says_nothing, IsGoodLine, AreGoodLines, IsBadFor, IsFirstBad}
use Rattle.mode_file.proofs.RangeLaws.{mode_in_range}

pub AreGood-last : (lines : List (List ℕ)) (line : List ℕ) (before between after : Given) → AreGoodLines before lines between → IsGoodLine between line after → AreGoodLines before (lines ++ line ∷ []) after
AreGood-last [] line before between after e good = (after, (subst (λ (g : Given). IsGoodLine g line after) e good, refl))
AreGood-last (l ∷ ls) line before between after h good = (h.0, (h.1.0, AreGood-last ls line h.0 between after h.1.1 good))

-- lines that were read, with what they gave, before the bytes that are left
pub record IsReadTo (bytes rest : List ℕ) (given : Given) (count : ℕ) : Type 0 where
  pub before : List (List ℕ)
  pub lines_are : lines_of bytes ≡ before ++ lines_of rest
  pub good : AreGoodLines nothing_given before given
  pub count_is : count ≡ length before
  pub room : count + length rest ≤ length bytes

pub one_more_read : (bytes rest line behind : List ℕ) (given after : Given) (count : ℕ) → IsReadTo bytes rest given count → lines_of rest ≡ line ∷ lines_of behind → length behind < length rest → IsGoodLine given line after → IsReadTo bytes behind after (count + 1)
one_more_read bytes rest line behind given after count r cut shorter good = record {
  before = r.before ++ line ∷ [];
  lines_are = r.lines_are ∙ ap (λ (ls : List (List ℕ)). r.before ++ ls) cut ∙ sym (append_assoc r.before (line ∷ []) (lines_of behind));
  good = AreGood-last r.before line nothing_given given after r.good good;
  count_is = ap (λ n. n + 1) r.count_is ∙ sym (length-append r.before (line ∷ []));
  room = let had = r.room in omega (arith, had, shorter);
}

pub bad_read : (bytes rest line behind : List ℕ) (given : Given) (count : ℕ) (cause : Cause) → IsReadTo bytes rest given count → lines_of rest ≡ line ∷ lines_of behind → says_nothing line ≡ false → IsBadFor given line cause → IsFirstBad (lines_of bytes) (count + 1) cause
bad_read bytes rest line behind given count cause r cut says bad = record {
  before = r.before;
  bad = line;
  behind = lines_of behind;
  given = given;
  lines_are = r.lines_are ∙ ap (λ (ls : List (List ℕ)). r.before ++ ls) cut;
  good = r.good;
  says = says;
  cause_is = bad;
  number_is = ap (λ n. n + 1) r.count_is;
}

pub all_in_range : (bytes rest : List ℕ) (given : Given) (count : ℕ) (mode : Mode) → IsReadTo bytes rest given count → mode ≡ mode_of given → IsInRange mode
all_in_range bytes rest given count mode r e = subst IsInRange (sym e) (mode_in_range r.before given r.good)
