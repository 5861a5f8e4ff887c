-- Holes for arguments, and the terms of partial terms.
use Rattle.std.specs.Prelude.{List, [], ◌∷◌}
use Rattle.stt_core.specs.SimpleType.{SimpleType, base, arrow}
use Rattle.stt_core.specs.Lambda.{Lambda, bound, lam, app}
use Rattle.search_spec.specs.Partial.{Partial, hole, head, function, application, blank_partial}

-- one hole, under its binders, for each argument of a function of the type
abbrev pub blanks : SimpleType → List Partial
blanks (base n) = []
blanks (arrow a b) = blank_partial a ∷ blanks b

-- the term of a partial term without holes
abbrev pub term_of : Partial → Lambda
term_of (hole n) = bound 0
term_of (head h) = h
term_of (function a p) = lam a (term_of p)
term_of (application p q) = app (term_of p) (term_of q)
