-- Texts that are written in parts.
use Rattle.std.proofs.Common.{ℕ, ◌≤◌, Bool, List, [], ◌++◌, refl, sym, ap, subst, ◌∙◌, append_assoc, append-nil, arith, length-append, Result, Ok, Err, OnErr}
use Rattle.outside.specs.Causes.{Rose}
use Rattle.outside.specs.Writing.{Took, Stopped}

-- what holds where a call fails
pub on_err : {A E : Type 0} {P : Type 0} (r : Result A E) → P → OnErr r P
on_err (Ok a) p = tt
on_err (Err e) p = p

module _ {S : Type 0} {tells : S → Bool} {written : S → List ℕ} {faults : S → ℕ} where
  pub took_none : (s : S) → Took tells written faults s s []
  took_none s = record { appended = λ told. sym (append-nil _); quiet = refl; telling = λ told. told }

  -- one text and then another
  pub took_both : {s t u : S} (a b : List ℕ) → Took tells written faults s t a → Took tells written faults t u b → Took tells written faults s u (a ++ b)
  took_both a b h k = record {
    appended = λ told. k.appended (h.telling told) ∙ ap (λ x. x ++ b) (h.appended told) ∙ append_assoc _ a b;
    quiet = k.quiet ∙ h.quiet;
    telling = λ told. k.telling (h.telling told);
  }

  pub stopped_first : {s t : S} (a b : List ℕ) → Stopped tells written faults s t a → Stopped tells written faults s t (a ++ b)
  stopped_first a b h = record {
    cut = λ told. let c = h.cut told in record {
      front = c.front;
      back = c.back ++ b;
      whole = ap (λ x. x ++ b) c.whole ∙ append_assoc c.front c.back b;
      proper = let p = c.proper in omega (arith, length-append c.back b, p);
      appended = c.appended;
    };
    cause = h.cause;
    later = h.later;
    telling = h.telling;
  }

  pub stopped_later : {s t u : S} (a b : List ℕ) → Took tells written faults s t a → Stopped tells written faults t u b → Stopped tells written faults s u (a ++ b)
  stopped_later {u = u} a b h k = record {
    cut = λ told. let c = k.cut (h.telling told) in record {
      front = a ++ c.front;
      back = c.back;
      whole = ap (λ x. a ++ x) c.whole ∙ sym (append_assoc a c.front c.back);
      proper = c.proper;
      appended = c.appended ∙ ap (λ x. x ++ c.front) (h.appended told) ∙ append_assoc _ a c.front;
    };
    cause = subst (λ n. Rose n (faults u)) h.quiet k.cause;
    later = subst (λ n. n ≤ faults u) h.quiet k.later;
    telling = λ told. k.telling (h.telling told);
  }
