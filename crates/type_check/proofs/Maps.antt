-- Hash maps whose keys are lists of bytes, and what one more entry changes.
use Rattle.std.proofs.Common.{◌≡◌, ℕ, Bool, true, false, cond, List, Option, sym, ◌∙◌}
use Rattle.std.specs.Str.{bytes_eq}
use Rattle.std.specs.Cmp.Lexicographic.{nat_list_eq_equiv}
use Rattle.std.specs.HashMap.{HashMap, Updates, get_by}
use Rattle.std.specs.Map.{lookup, IsKeyTest, AreApart, KeepsOthers}
use Rattle.stt_core.proofs.Maps.{by_bytes}

apart : (bs cs ks : List ℕ) → bytes_eq bs cs ≡ false → bytes_eq bs ks ≡ true → bytes_eq cs ks ≡ false
apart bs cs ks n y = nat_list_eq_equiv.symm cs ks ∙ sym (nat_list_eq_equiv.congr bs ks cs y) ∙ n

module _ {K : Type 0} (eq : K → K → Bool) (test : K → Bool) where
  other_entries : {X : Type 0} (old new : List (K × X)) → KeepsOthers eq test old new → (other : K → Bool) → IsKeyTest eq other → AreApart test other → lookup other new ≡ lookup other old
  unfolding KeepsOthers
  other_entries old new h = h

-- the value at these bytes
abbrev pub at_bytes : {X S : Type 0} → HashMap (List ℕ) X S → List ℕ → Option X
at_bytes m bs = get_by (bytes_eq bs) m

pub at_bytes-inserted : {X S : Type 0} (m n : HashMap (List ℕ) X S) (k : List ℕ) (w : Option X) → Updates bytes_eq m n k w
    → (cs : List ℕ) → at_bytes n cs ≡ cond (bytes_eq k cs) w (at_bytes m cs)
at_bytes-inserted m n k w h = by_bytes (at_bytes m) (at_bytes n) k w h.1 (λ cs e. other_entries _ _ _ _ h.3 _ (λ x y. nat_list_eq_equiv.congr cs x y) (λ j. apart k cs j e))
