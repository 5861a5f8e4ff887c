-- Texts of lists that are written member by member.
use Rattle.std.proofs.Common.{◌≡◌, ℕ, ◌+◌, ◌≤◌, Bool, List, ◌++◌, take, drop, slice_get, Some, sym, subst, Result, Ok, Err, OnOk, OnErr, IsTrue}
use Rattle.std.proofs.lemmas.Result.{on_ok_weaker, on_err_weaker}
use Rattle.outside.specs.Causes.{Rose}
use Rattle.outside.specs.Prefix.{AppendsProperly}
use Rattle.outside.specs.Writing.{Took, Stopped}
use Rattle.outside.proofs.Writes.{took_both, stopped_first, stopped_later}
use Rattle.refute_share.proofs.Lists.{all_texts, all_texts-more, all_texts-around}

-- the members of a list, up to a place and then there
pub took_more : {S : Type 0} {tells : S → Bool} {written : S → List ℕ} {faults : S → ℕ} {s t u : S} {X : Type 0} (f : ℕ → X → List ℕ) (xs : List X) (i : ℕ) (x : X) → slice_get xs i ≡ Some x → Took tells written faults s t (all_texts f 0 (take i xs)) → Took tells written faults t u (f i x) → Took tells written faults s u (all_texts f 0 (take (i + 1) xs))
took_more {S = S} {tells = tells} {written = written} {faults = faults} {s = s} {u = u} f xs i x e h k =
    subst (λ text. Took tells written faults s u text) (sym (all_texts-more f xs i x e)) (took_both (all_texts f 0 (take i xs)) (f i x) h k)

pub stopped_at : {S : Type 0} {tells : S → Bool} {written : S → List ℕ} {faults : S → ℕ} {s t u : S} {X : Type 0} (f : ℕ → X → List ℕ) (xs : List X) (i : ℕ) (x : X) → slice_get xs i ≡ Some x → Took tells written faults s t (all_texts f 0 (take i xs)) → Stopped tells written faults t u (f i x) → Stopped tells written faults s u (all_texts f 0 xs)
stopped_at {S = S} {tells = tells} {written = written} {faults = faults} {s = s} {u = u} f xs i x e h k =
    subst (λ text. Stopped tells written faults s u text) (sym (all_texts-around f xs i x e))
    (stopped_later (all_texts f 0 (take i xs)) (f i x ++ all_texts f (i + 1) (drop (i + 1) xs)) h (stopped_first (f i x) (all_texts f (i + 1) (drop (i + 1) xs)) k))

-- the answer of a call that is handed on
module _ {S E A : Type 0} (tells : S → Bool) (written : S → List ℕ) (faults : S → ℕ) (s t : S) (r : Result A E) where
  pub took_by : (text : List ℕ) → OnOk r (IsTrue (tells s) → written t ≡ written s ++ text) → OnOk r (faults t ≡ faults s) → (IsTrue (tells s) → IsTrue (tells t)) → OnOk r (Took tells written faults s t text)
  took_by text appended quiet telling = go r appended quiet
    where
      go : (r : Result A E) → OnOk r (IsTrue (tells s) → written t ≡ written s ++ text) → OnOk r (faults t ≡ faults s) → OnOk r (Took tells written faults s t text)
      go (Ok x) a q = record { appended = a; quiet = q; telling = telling }
      go (Err e) a q = tt

  pub stopped_by : (text : List ℕ) → OnErr r (IsTrue (tells s) → AppendsProperly (written s) (written t) text) → OnErr r (Rose (faults s) (faults t)) → faults s ≤ faults t → (IsTrue (tells s) → IsTrue (tells t)) → OnErr r (Stopped tells written faults s t text)
  stopped_by text cut cause later telling = go r cut cause
    where
      go : (r : Result A E) → OnErr r (IsTrue (tells s) → AppendsProperly (written s) (written t) text) → OnErr r (Rose (faults s) (faults t)) → OnErr r (Stopped tells written faults s t text)
      go (Ok x) c w = tt
      go (Err e) c w = record { cut = c; cause = w; later = later; telling = telling }

  pub took_same : (one other : List ℕ) → one ≡ other → OnOk r (Took tells written faults s t one) → OnOk r (Took tells written faults s t other)
  took_same one other same h = subst (λ text. OnOk r (Took tells written faults s t text)) same h

  pub stopped_same : (one other : List ℕ) → one ≡ other → OnErr r (Stopped tells written faults s t one) → OnErr r (Stopped tells written faults s t other)
  stopped_same one other same h = subst (λ text. OnErr r (Stopped tells written faults s t text)) same h

  pub took_after : {q : S} (a b : List ℕ) → Took tells written faults q s a → OnOk r (Took tells written faults s t b) → OnOk r (Took tells written faults q t (a ++ b))
  took_after a b before h = on_ok_weaker r (took_both a b before) h

  pub stopped_after : {q : S} (a b : List ℕ) → Took tells written faults q s a → OnErr r (Stopped tells written faults s t b) → OnErr r (Stopped tells written faults q t (a ++ b))
  stopped_after a b before h = on_err_weaker r (stopped_later a b before) h
