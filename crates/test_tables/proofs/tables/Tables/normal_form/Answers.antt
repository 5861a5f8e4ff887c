use Rattle.test_tables.proofs.SoundLaws.{grown_sound}
use Rattle.test_tables.proofs.tables.Tables.normal_form.Goals as goal

pub returns-in_err-normalise-in-Some : goal.returns-in_err-normalise-in-Some
returns-in_err-normalise-in-Some c = grown_sound c.args.self.now c.normalise.new.bank c.normalise.new.self c.normalise.ensures.grows c.normalise.ensures.right c.requires

pub returns-in-Some : goal.returns-in-Some
returns-in-Some c = grown_sound c.args.self.now c.normalise.new.bank c.normalise.new.self c.normalise.ensures.grows c.normalise.ensures.right c.requires
