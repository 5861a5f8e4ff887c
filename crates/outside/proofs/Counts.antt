-- One more fault among the counts of files in memory.
use Rattle.std.proofs.Common.{◌≡◌, ◌<◌, ◌∙◌, ℕ, List, [], ◌∷◌, ◌++◌, length, map, ap, sym, get_or}
use Rattle.std.proofs.Math.ListN.{set, get_or-append}
use Rattle.std.proofs.Math.Seq.{map-set_same, get_or-append_seam, set-append_seam}
use Rattle.std.proofs.lemmas.List.{map-set, set-append_left, length-map, get_or-map}
use Rattle.outside.specs.declared.file_list.Entry.{Entry}
use Rattle.outside.specs.Causes.{next_count}
use Rattle.outside.specs.Entry.{file_of, files_of, counts_of}
use Rattle.outside.specs.Internal.Counts.{raised_at}

-- an entry with another count
abbrev pub recounted : Entry → ℕ → Entry
recounted was count = record { name = was.name; bytes = was.bytes; faults = count }

pub files_of-recounted : (entries : List Entry) (place count : ℕ) (was : Entry) → was ≡ get_or entries place was → files_of (set entries place (recounted was count)) ≡ files_of entries
files_of-recounted entries place count was at =
    map-set_same file_of entries place (recounted was count) was (ap file_of at)

pub counts_of-recounted : (entries : List Entry) (others place count : ℕ) (was : Entry) → place < length entries → was ≡ get_or entries place was → count ≡ next_count was.faults → counts_of (set entries place (recounted was count)) others ≡ raised_at (counts_of entries others) place
counts_of-recounted entries others place count was within at up =
    let faults : Entry → ℕ = λ entry. entry.faults in
    let counts = map faults entries in
    let short : place < length counts = rw (length-map entries faults) within in
    let here = get_or-append counts (others ∷ []) 0 place short ∙ get_or-map faults entries place was 0 within ∙ sym (ap faults at) in
    ap (λ xs. xs ++ others ∷ []) (map-set faults entries place (recounted was count))
    ∙ sym (set-append_left counts (others ∷ []) place count short)
    ∙ ap (set (counts ++ others ∷ []) place) (up ∙ sym (ap next_count here))

-- past the last file stands the count of all other names
pub counts_of-others : (entries : List Entry) (others place count : ℕ) → place ≡ length entries → count ≡ next_count others → counts_of entries count ≡ raised_at (counts_of entries others) place
counts_of-others entries others place count at up =
    let faults : Entry → ℕ = λ entry. entry.faults in
    let counts = map faults entries in
    rw (at ∙ sym (length-map entries faults)) (sym (set-append_seam counts others [] _ ∙ ap (λ v. counts ++ v ∷ []) (ap next_count (get_or-append_seam counts others [] 0) ∙ sym up)))
