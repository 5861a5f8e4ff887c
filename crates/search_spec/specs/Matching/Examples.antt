-- Worked examples of patterns and of matching.
use Rattle.std.specs.Prelude.{◌≡◌, ℕ, zero, suc, List, [], ◌∷◌, true, Some, None}
use Rattle.stt_core.specs.SimpleType.{SimpleType, base, predicate}
use Rattle.stt_core.specs.Lambda.{name, Lambda, bound, constant, lam, app, imp, eq, every}
use Rattle.tableau_calculus.specs.Literals.{Literal, plus}
use Rattle.search_spec.specs.Matching.Patterns.{PassedBinder, passed, even_polarity, odd_polarity, known_terms, processed_literals, Pattern, pattern_of, literal_patterns}
use Rattle.search_spec.specs.Matching.Groups.{used_patterns, group_of}
use Rattle.search_spec.specs.Matching.Flexes.{literal_flexes}
use Rattle.search_spec.specs.Matching.Match.{match_term, match_faces, matches_of}

abbrev individuals : SimpleType
individuals = base 1

abbrev named : ℕ → Lambda
named k = constant (name k)

abbrev f_of : Lambda → Lambda
f_of t = app (named 0) t

abbrev p_of : Lambda → Lambda
p_of t = app (named 1) t

abbrev q_of : Lambda → Lambda → Lambda
q_of s t = app (app (named 2) s) t

abbrev for_all : Lambda → Lambda
for_all s = every individuals (lam individuals s)

-- ! [X,Y] : ( ( q @ X @ ( f @ Y ) ) => ! [Z] : ( p @ ( f @ Z ) ) )
abbrev q_gives_p : Literal
q_gives_p = plus (for_all (for_all (imp (q_of (bound 1) (f_of (bound 0))) (for_all (p_of (f_of (bound 0)))))))

abbrev so_many : ℕ → List PassedBinder
so_many zero = []
so_many (suc n) = passed true individuals ∷ so_many n

-- the premise is met by denied literals, the conclusion by literals that hold
abbrev premise : Pattern
premise = pattern_of (processed_literals odd_polarity) (so_many 2) (q_of (bound 1) (f_of (bound 0)))

abbrev pub PatternsAreThese : Type 0
PatternsAreThese =
    (literal_patterns q_gives_p
    ≡ premise
    ∷ pattern_of known_terms (so_many 2) (f_of (bound 0))
    ∷ pattern_of (processed_literals even_polarity) (so_many 3) (p_of (f_of (bound 0)))
    ∷ pattern_of known_terms (so_many 3) (f_of (bound 0))
    ∷ [])
    × (used_patterns q_gives_p ≡ premise ∷ pattern_of known_terms (so_many 2) (f_of (bound 0)) ∷ [])

-- the premise alone determines X and Y, so that the pattern that determines Y alone isn't used
abbrev pub GroupIsThis : Type 0
GroupIsThis = group_of q_gives_p ≡ Some (record { count = 2; patterns = premise ∷ [] })

-- the premise with q @ a @ ( f @ b ), where X is known already or not; with another X nothing is found
abbrev pub FirstOrderMatch : Type 0
FirstOrderMatch =
    (match_term [] premise.term (q_of (named 3) (f_of (named 4))) (None ∷ None ∷ []) ≡ Some (Some (named 4) ∷ Some (named 3) ∷ []))
    × (matches_of premise (q_of (named 3) (f_of (named 4))) (None ∷ None ∷ []) ≡ (Some (named 3) ∷ Some (named 4) ∷ []) ∷ [])
    × (matches_of premise (q_of (named 3) (f_of (named 4))) (Some (named 3) ∷ None ∷ []) ≡ (Some (named 3) ∷ Some (named 4) ∷ []) ∷ [])
    × (matches_of premise (q_of (named 3) (f_of (named 4))) (Some (named 4) ∷ None ∷ []) ≡ [])

-- g @ ( ^ [X] : ( F @ X ) ) with g @ ( ^ [X] : ( f @ ( f @ X ) ) ) finds F; where F isn't applied to X, nothing can stand for it
abbrev pub HigherOrderMatch : Type 0
HigherOrderMatch =
    (match_term [] (app (named 5) (lam individuals (app (bound 1) (bound 0))))
    (app (named 5) (lam individuals (f_of (f_of (bound 0))))) (None ∷ [])
    ≡ Some (Some (lam individuals (f_of (f_of (bound 0)))) ∷ []))
    × (match_term [] (app (named 5) (lam individuals (bound 1))) (app (named 5) (lam individuals (f_of (bound 0)))) (None ∷ []) ≡ None)

-- X = Y with a = b, from both sides; ( f @ X ) = Y with a = ( f @ b ), from one
abbrev pub EquationsMatch : Type 0
EquationsMatch =
    (match_faces (eq individuals (bound 1) (bound 0)) (eq individuals (named 3) (named 4)) (None ∷ None ∷ [])
    ≡ (Some (named 4) ∷ Some (named 3) ∷ []) ∷ (Some (named 3) ∷ Some (named 4) ∷ []) ∷ [])
    × (match_faces (eq individuals (f_of (bound 1)) (bound 0)) (eq individuals (named 3) (f_of (named 4))) (None ∷ None ∷ [])
    ≡ (Some (named 3) ∷ Some (named 4) ∷ []) ∷ [])

-- ! [P,X] : ( ( p @ X ) => ( P @ X ) ): P is applied to X where it is to hold
abbrev pub FlexIsThis : Type 0
FlexIsThis =
    literal_flexes (plus (every (predicate individuals) (lam (predicate individuals) (for_all (imp (p_of (bound 0)) (app (bound 1) (bound 0))))))) ≡ (individuals ∷ []) ∷ []

abbrev pub ExamplesMatch : Type 0
ExamplesMatch = PatternsAreThese × GroupIsThis × FirstOrderMatch × HigherOrderMatch × EquationsMatch × FlexIsThis
