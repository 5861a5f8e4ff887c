-- What refusals tell.
use Rattle.std.proofs.Common.{◌≡◌, ℕ, ◌⊎◌, inl, inr, List, [], ◌∷◌, ◌++◌, length, take, zero, suc, Option, refl, arith}
use Rattle.thf_include.specs.declared.refused.GatherRefused.{GatherRefused}
use Rattle.thf_include.specs.declared.refused.GatherRefused.TheVariants.{Fault, TooLong, Syntax, Cycle, NoSuchName, TooMany, Memory}
use Rattle.thf_include.specs.Gathering.{Stop}
use Rattle.thf_include.specs.Answer.{AreContents, StopsAs}

pub StopsAs-map : (Q R : Stop → Type 0) (E F : Type 0) (names : List (List ℕ)) (e : GatherRefused) → ((why : Stop) → Q why → R why) → (E → F) → StopsAs Q E names e → StopsAs R F names e
StopsAs-map Q R E F names (Fault file) f g h = (f _ h.0, h.1)
StopsAs-map Q R E F names (TooLong file) f g h = f _ h
StopsAs-map Q R E F names (Syntax file at) f g h = f _ h
StopsAs-map Q R E F names (Cycle file at) f g h = f _ h
StopsAs-map Q R E F names (NoSuchName file at) f g h = f _ h
StopsAs-map Q R E F names (TooMany file at) f g h = f _ h
StopsAs-map Q R E F names Memory f g (inl none) = inl (g none)
StopsAs-map Q R E F names Memory f g (inr h) = inr (f _ h)

-- memory ran out where E holds, or else there is a stop
pub StopsAs-cases : (Q : Stop → Type 0) (E : Type 0) (names : List (List ℕ)) (e : GatherRefused) → StopsAs Q E names e → (E × (e ≡ Memory)) ⊎ StopsAs Q ⊥ names e
StopsAs-cases Q E names (Fault file) h = inr h
StopsAs-cases Q E names (TooLong file) h = inr h
StopsAs-cases Q E names (Syntax file at) h = inr h
StopsAs-cases Q E names (Cycle file at) h = inr h
StopsAs-cases Q E names (NoSuchName file at) h = inr h
StopsAs-cases Q E names (TooMany file at) h = inr h
StopsAs-cases Q E names Memory (inl none) = inl (none, refl)
StopsAs-cases Q E names Memory (inr h) = inr (inr h)

pub AreContents-append : (contents : List ℕ → Option (List ℕ)) (names others texts more : List (List ℕ)) → length texts ≡ length names → AreContents contents names texts → AreContents contents others more → AreContents contents (names ++ others) (texts ++ more)
AreContents-append contents [] others [] more e h k = k
AreContents-append contents [] others (t ∷ ts) more e h k = cc
AreContents-append contents (n ∷ ns) others [] more e h k = cc
AreContents-append contents (n ∷ ns) others (t ∷ ts) more e h k = (h.0, AreContents-append contents ns others ts more (omega arith) h.1 k)

pub AreContents-take : (contents : List ℕ → Option (List ℕ)) (names texts : List (List ℕ)) (n : ℕ) → AreContents contents names texts → AreContents contents names (take n texts)
AreContents-take contents names texts zero h = tt
AreContents-take contents names [] (suc n) h = tt
AreContents-take contents [] (t ∷ ts) (suc n) h = h
AreContents-take contents (m ∷ ms) (t ∷ ts) (suc n) h = (h.0, AreContents-take contents ms ts n h.1)
