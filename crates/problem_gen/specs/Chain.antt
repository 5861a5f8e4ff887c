-- The problems of the generator: a chain of implications from the first predicate to the last.
use Rattle.std.specs.Prelude.{ℕ, zero, suc, ◌+◌, List, [], ◌++◌, codes, decimal}

-- thf(pK_type,type,pK: $i > $o).
abbrev pub predicate_letter : ℕ → List ℕ
predicate_letter k = codes "thf(p" ++ (decimal k ++ (codes "_type,type,p" ++ (decimal k ++ codes ": $i > $o).\n")))

-- thf(aK,axiom,( ( pJ @ c ) => ( ( ^ [X:$i] : ( pK @ X ) ) @ c ) )). The number J is given, and K is the next one.
abbrev pub implication : ℕ → List ℕ
implication j =
    codes "thf(a" ++ (decimal (j + 1) ++ (codes ",axiom,( ( p" ++ (decimal j
    ++ (codes " @ c ) => ( ( ^ [X:$i] : ( p" ++ (decimal (j + 1) ++ codes " @ X ) ) @ c ) )).\n")))))

-- thf(goal,conjecture,( pN @ c )).
abbrev pub goal : ℕ → List ℕ
goal n = codes "thf(goal,conjecture,( p" ++ (decimal n ++ codes " @ c )).\n")

-- the lines of all numbers below this one, in order
unfoldable pub lines_below : (ℕ → List ℕ) → ℕ → List ℕ
lines_below line zero = []
lines_below line (suc k) = lines_below line k ++ line k

-- the problem of this number
abbrev pub text : ℕ → List ℕ
text n =
    codes "thf(c_type,type,c: $i).\n"
    ++ (lines_below predicate_letter (n + 1) ++ (codes "thf(a0,axiom,( p0 @ c )).\n" ++ (lines_below implication n ++ goal n)))
