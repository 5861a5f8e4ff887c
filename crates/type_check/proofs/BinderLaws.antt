-- A binder is read from its first variable on.
use Rattle.std.proofs.Common.{◌≡◌, ℕ, List, ◌∷◌, Result, Ok, ap, sym, ◌∙◌}
use Rattle.stt_core.specs.SimpleType.{SimpleType}
use Rattle.stt_core.specs.TypedName.{TypedName}
use Rattle.stt_core.specs.Declarations.{Declarations}
use Rattle.thf_grammar.specs.Trees.{VarTree}
use Rattle.thf_grammar.specs.declared.connective.Binder.{Binder}
use Rattle.type_check.specs.Outcome.{IllPlace, ◌>>=◌}
use Rattle.type_check.specs.Internal.Answers.{RefusesAt}
use Rattle.type_check.specs.Types.{read_type}
use Rattle.type_check.specs.Terms.{TermReading, bind, read_binder}
use Rattle.type_check.specs.declared.refusal.Refusal.{Refusal}
use Rattle.type_check.specs.declared.refusal.Refusal.TheVariants.{At, Memory}

-- what a reading refuses is refused
pub refuses-then : {A B : Type 0} (e : Refusal) (r : Result A IllPlace) (f : A → Result B IllPlace) → RefusesAt e r → RefusesAt e (r >>= f)
refuses-then (At at why) r f h = ap (λ r. r >>= f) h
refuses-then Memory r f h = tt

pub read_binder-first : (d : Declarations) (at : ℕ) (binder : Binder) (all : List VarTree) (v : VarTree) (vars : List VarTree) (scope : List TypedName) (body : List TypedName → TermReading) (a : SimpleType) (name : List ℕ)
    → all ≡ v ∷ vars → read_type d v.ty ≡ Ok a → name ≡ v.name
    → read_binder d at binder all scope body ≡ read_binder d at binder vars (record { name = name; type = a } ∷ scope) body >>= bind at binder a
read_binder-first d at binder all v vars scope body a name e h n =
    ap (λ vs. read_binder d at binder vs scope body) e
    ∙ ap (λ r. r >>= (λ b. read_binder d at binder vars (record { name = v.name; type = b } ∷ scope) body >>= bind at binder b)) h
    ∙ ap (λ n. read_binder d at binder vars (record { name = n; type = a } ∷ scope) body >>= bind at binder a) (sym n)
