use Rattle.std.proofs.Common.{◌≡◌, [], ◌∷◌, ◌++◌, ap, ◌∙◌, Err}
use Rattle.thf_include.proofs.TooLong.{too_long}
use Rattle.thf_include.proofs.opened.Opened.read.Goals as goal

pub returns-in-Err-TooLong-clause-refused : goal.returns-in-Err-TooLong-clause-refused
returns-in-Err-TooLong-clause-refused g c =
    let pushed : c.push.new.self ≡ c.args.self.now.names ++ c.args.name.now ∷ [] =
    c.in_ok-push.ensures.ok ∙ ap (λ n. c.args.self.now.names ++ n ∷ []) (c.in_ok-from_slice.ensures ∙ c.as_bytes.ensures.value) in
    (c.len-file.ensures, pushed, too_long (g.F.Files.seen c.args.files.now) c.args.name.now c.args.self.now.left (c.in-Err-TooLong.ensures.long (ap Err c.in-Err-TooLong.field-0-is)))
