use Rattle.std.proofs.Common.{◌≡◌, ◌∙◌, length, ap, sym, arith, refl}
use Rattle.std.proofs.lemmas.List.{length-map}
use Rattle.outside.specs.Entry.{file_of}
use Rattle.outside.specs.Internal.Counts.{FilesAndCounts}
use Rattle.outside.proofs.Counts.{files_of-recounted, counts_of-recounted, counts_of-others}
use Rattle.outside.proofs.counted_files.CountedFiles.count_fault.Goals as goal

pub returns-then-place-len-clause-counted : goal.returns-then-place-len-clause-counted
returns-then-place-len-clause-counted c =
    let entries = c.self.inside.entries.items in
    let was = c.index_mut-entry.result.now in
    rw (← c.self.view_is, files_of-recounted entries c.args.place c.saturating_add-entry.result was c.index_mut-entry.ensures.value, counts_of-recounted entries c.self.inside.others c.args.place c.saturating_add-entry.result was (omega arith) c.index_mut-entry.ensures.value (grind arith)) refl

pub returns-else-place-len-clause-counted : goal.returns-else-place-len-clause-counted
returns-else-place-len-clause-counted c =
    let entries = c.self.inside.entries.items in
    let count : length entries ≡ length c.args.self.now.files = sym (length-map entries file_of) ∙ ap (λ (f : FilesAndCounts). length f.files) c.self.view_is in
    rw (← c.self.view_is, ← counts_of-others entries c.self.inside.others c.args.place c.saturating_add-self-inside.result (omega (arith, count)) (grind arith)) refl
