-- Heads as keys: the test decides whether they are the same.
use Rattle.std.specs.Prelude.{◌≡◌}
use Rattle.std.specs.Bool.{Decides}
use Rattle.stt_core.specs.Lambda.{Lambda}
use Rattle.stt_core.specs.SameTerm.{same_term}
use Rattle.stt_core.proofs.SameTerms.{same_term-true, same_term-of}

pub term_decides : (s t : Lambda) → Decides (same_term s t) (s ≡ t)
term_decides s t = (same_term-true s t, same_term-of s t)
