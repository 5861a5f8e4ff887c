use Rattle.std.proofs.Common.{◌≡◌, ap, sym, ◌∙◌}
use Rattle.instantiate.proofs.enumerator.Enumerator.add_term.Goals as goal
