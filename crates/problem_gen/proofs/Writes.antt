-- One text as another, to which it is equal.
use Rattle.std.proofs.Common.{◌≡◌, ℕ, ◌≤◌, Bool, IsTrue, List, ◌++◌, ap, subst, ◌∙◌}
use Rattle.outside.specs.Causes.{Rose}
use Rattle.outside.specs.Prefix.{AppendsProperly}
use Rattle.outside.specs.Writing.{Took, Stopped}

pub took_as : {S : Type 0} {tells : S → Bool} {written : S → List ℕ} {faults : S → ℕ} {s t : S} (a b : List ℕ) → a ≡ b → (IsTrue (tells s) → written t ≡ written s ++ a) → faults t ≡ faults s → (IsTrue (tells s) → IsTrue (tells t)) → Took tells written faults s t b
took_as {written = written} {s = s} {t = t} a b e appended quiet telling = record {
  appended = λ told. appended told ∙ ap (λ (x : List ℕ). written s ++ x) e;
  quiet = quiet;
  telling = telling;
}

pub stopped_as : {S : Type 0} {tells : S → Bool} {written : S → List ℕ} {faults : S → ℕ} {s t : S} (a b : List ℕ) → a ≡ b → (IsTrue (tells s) → AppendsProperly (written s) (written t) a) → Rose (faults s) (faults t) → faults s ≤ faults t → (IsTrue (tells s) → IsTrue (tells t)) → Stopped tells written faults s t b
stopped_as {written = written} {s = s} {t = t} a b e cut cause later telling = record {
  cut = λ told. subst (AppendsProperly (written s) (written t)) e (cut told);
  cause = cause;
  later = later;
  telling = telling;
}
