-- The head of a term with arguments.
use Rattle.std.proofs.Common.{◌≡◌, List, [], ◌∷◌, refl}
use Rattle.refute_print.specs.Trees.{TermTree, app, applied_tree}
use Rattle.refute_print.specs.Limits.{is_negated_text}

pub negated-applied : (h : TermTree) (us : List TermTree) → is_negated_text (applied_tree h us) ≡ is_negated_text h
negated-applied h [] = refl
negated-applied h (u ∷ us) = negated-applied (app h u) us
