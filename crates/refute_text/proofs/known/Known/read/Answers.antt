use Rattle.refute_text.proofs.KnownLaws.{known_reads}
use Rattle.refute_text.proofs.known.Known.read.Goals as goal

pub returns-in_ok-share-in-Some-clause-read : goal.returns-in_ok-share-in-Some-clause-read
returns-in_ok-share-in-Some-clause-read c =
    let split = c.until_end-split in
    let l = c.in-Some.ensures in
    (l.0, known_reads l.0 split.result.front.now split.result.rest.now c.args.bytes.now l.2 l.3 split.ensures.whole split.ensures.ends, c.in_ok-share-in-Some.ensures l.0 l.1)
