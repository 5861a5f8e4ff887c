use Rattle.refute_print.specs.Text.{literal_text}
use Rattle.std.proofs.lemmas.Option.{slice_get_within}
use Rattle.refute_text.proofs.KnownLaws.{front_of}
use Rattle.refute_text.proofs.LiteralReads.{literal_reads, literal_shorter}
use Rattle.refute_text.proofs.known.Known.read_new.Goals as goal

pub slice_bounds-text-count : goal.slice_bounds-text-count
slice_bounds-text-count c = literal_shorter c.args.bytes.now c.in_ok-read.read.literal c.in_ok-read.read.rest.now c.in_ok-read.ensures

pub place_of-requires-clause-text : goal.place_of-requires-clause-text
place_of-requires-clause-text c =
    let l = c.in_ok-read.read.literal in
    let rest = c.in_ok-read.read.rest.now in
    front_of (literal_text l) rest c.args.bytes.now (literal_reads c.args.bytes.now l rest c.in_ok-read.ensures).text

pub place_of-requires-clause-literal : goal.place_of-requires-clause-literal
place_of-requires-clause-literal c = (literal_reads c.args.bytes.now c.in_ok-read.read.literal c.in_ok-read.read.rest.now c.in_ok-read.ensures).is_literal

pub share-requires : goal.share-requires
share-requires c = slice_get_within c.place_of.new.self c.in_ok-place.place c.in_ok-read.read.literal c.in_ok-place.ensures
