use Rattle.refute_text.proofs.read_type.+read_type.Given as goal

abbrev pub decreases-read_type : goal.decreases-read_type
decreases-read_type l = l.depth
