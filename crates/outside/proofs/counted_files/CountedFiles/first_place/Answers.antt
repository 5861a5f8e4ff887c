use Rattle.std.proofs.Common.{arith, ◌≡◌, ◌∙◌, sym}
use Rattle.std.proofs.lemmas.Bool.Decides.{nat_tests}
use Rattle.std.proofs.lemmas.List.Sums.{prefix_len-le-length}
use Rattle.std.specs.List.{position_or_len}
use Rattle.std.specs.Str.{bytes_eq}
use Rattle.std.specs.Prelude.{string_bytes}
use Rattle.outside.specs.Entry.{file_of, files_of}
use Rattle.outside.specs.FileList.{file_place}
use Rattle.outside.specs.declared.file_list.Entry.{Entry}
use Rattle.outside.proofs.Places.{position_or_len-map, content_within, content_past}
use Rattle.outside.proofs.counted_files.CountedFiles.first_place.Goals as goal

place_is : (c : goal.After-unwrap_or) → c.unwrap_or.result ≡ file_place (files_of c.self.inside.entries.items) c.args.name.now
place_is c =
    let here : c.unwrap_or.result ≡ position_or_len (λ (e : Entry). bytes_eq (string_bytes e.name) c.args.name.now) c.self.inside.entries.items = grind (arith, nat_tests, prefix_len-le-length) in
    here ∙ sym (position_or_len-map file_of _ c.self.inside.entries.items)

pub returns-clause-place : goal.returns-clause-place
returns-clause-place c = rw (← c.self.view_is) (place_is c)

pub returns-clause-found : goal.returns-clause-found
returns-clause-found c = rw (← c.self.view_is) (λ within.
    rw (place_is c) (content_within _ c.args.name.now (rw (← place_is c) within)))

pub returns-clause-missing : goal.returns-clause-missing
returns-clause-missing c = rw (← c.self.view_is) (λ past.
    content_past _ c.args.name.now (rw (← place_is c) past))
