-- What readings give that follow one another.
use Rattle.std.proofs.Common.{◌≡◌, ℕ, Bool, true, false, Result, Ok, Err, IfOk, refl, if◌then◌else◌}
use Rattle.type_check.specs.Outcome.{IllPlace, ill, ◌>>=◌}
use Rattle.type_check.specs.declared.refusal.IllWhy.{IllWhy}

pub if_ok-then : {A B E : Type 0} (P : A → Type 0) (Q : B → Type 0) (r : Result A E) (f : A → Result B E) → IfOk r P → ((a : A) → P a → IfOk (f a) Q) → IfOk (r >>= f) Q
if_ok-then P Q (Ok a) f h next = next a h
if_ok-then P Q (Err e) f h next = tt

-- a test that refuses where it is true
pub if_ok-unless : {A : Type 0} (P : A → Type 0) (test : Bool) (at : ℕ) (why : IllWhy) (r : Result A IllPlace) → (test ≡ false → IfOk r P) → IfOk (if test then ill at why else r) P
if_ok-unless P true at why r h = tt
if_ok-unless P false at why r h = h refl

-- a test that refuses where it is false
pub if_ok-where : {A : Type 0} (P : A → Type 0) (test : Bool) (at : ℕ) (why : IllWhy) (r : Result A IllPlace) → (test ≡ true → IfOk r P) → IfOk (if test then r else ill at why) P
if_ok-where P true at why r h = h refl
if_ok-where P false at why r h = tt

pub if_ok-always : {A E : Type 0} (P : A → Type 0) (r : Result A E) → ((a : A) → P a) → IfOk r P
if_ok-always P (Ok a) h = h a
if_ok-always P (Err e) h = tt
