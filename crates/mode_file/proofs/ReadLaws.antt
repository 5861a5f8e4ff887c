-- What reading a line comes to.
use Rattle.std.proofs.Common.{◌≡◌, ℕ, ◌<◌, false, List, Option, Some, None, refl, sym, arith, subst}
use Rattle.std.specs.Option.{is_some}
use Rattle.mode_file.specs.declared.given.Given.{Given}
use Rattle.mode_file.specs.declared.keys.Key.{Key}
use Rattle.mode_file.specs.declared.number.NumberRefused.TheVariants.{Missing, TooGreat}
use Rattle.mode_file.specs.Keys.{greatest, key_of}
use Rattle.mode_file.specs.Given.{number_given}
use Rattle.mode_file.specs.Grammar.{first_word, Assigns, HasNoNumber, Sets, HasBadNumber, IsOutOfRange}
use Rattle.mode_file.proofs.LineLaws.{name_is, greatest_fits}

pub has_none : (o : Option ℕ) → is_some o ≡ false → o ≡ None
has_none None h = refl
has_none (Some n) h = absurd (cc)

module _ (line : List ℕ) (key : Key) (named : key_of (first_word line) ≡ Some key) where
  -- what is assigned to the first word is given to its key
  pub sets_read : (n : ℕ) → Assigns line (first_word line) n → Sets line key n
  sets_read n h = subst (λ (w : List ℕ). Assigns line w n) (name_is (first_word line) key named) h

  module _ (given : Given) (new : is_some (number_given given key) ≡ false) where
    pub bad_number : HasNoNumber line Missing → HasBadNumber given line
    bad_number none = record {
      key = key;
      named = named;
      is_new = has_none (number_given given key) new;
      no_number = λ n s. none n (subst (λ (w : List ℕ). Assigns line w n) (sym (name_is (first_word line) key named)) s);
    }

    pub out_of_range : (n : ℕ) → Assigns line (first_word line) n → greatest key < n → IsOutOfRange given line
    out_of_range n h above = record { key = key; n = n; sets = sets_read n h; is_new = has_none (number_given given key) new; above = above }

    -- no key takes a number that is too great for 64 bits
    pub far_out_of_range : HasNoNumber line TooGreat → IsOutOfRange given line
    far_out_of_range h = out_of_range h.0 h.1 (let far = h.2 in let fits = greatest_fits key in omega (arith, far, fits))
