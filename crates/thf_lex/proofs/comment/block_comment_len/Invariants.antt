use Rattle.std.proofs.Common.{ℕ, ◌<◌, ◌≤◌}
use Rattle.thf_grammar.specs.Texts.{IsClosedAt}
use Rattle.thf_lex.proofs.comment.block_comment_len.Given as goal

abbrev pub invariant-loop-at : goal.invariant-loop-at
invariant-loop-at l = (k : ℕ) → 2 ≤ k → k < l.at → IsClosedAt l.bytes k → ⊥
