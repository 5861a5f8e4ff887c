-- Where a name stands among files, and what its file contains.
use Rattle.std.proofs.Common.{◌≡◌, ◌<◌, ◌≤◌, ◌+◌, ◌∙◌, ℕ, zero, suc, Bool, cond, not, List, [], ◌∷◌, Some, None, length, map, ap, arith, refl}
use Rattle.std.proofs.lemmas.List.Folds.{find_at}
use Rattle.std.specs.Prelude.{slice_get}
use Rattle.std.specs.List.{position_or_len}
use Rattle.std.specs.Option.{option_map}
use Rattle.outside.specs.FileList.{file_place, content_of, bytes_at}

pub position_or_len-map : {X Y : Type 0} (f : X → Y) (p : Y → Bool) (xs : List X) → position_or_len p (map f xs) ≡ position_or_len (λ x. p (f x)) xs
position_or_len-map f p [] = refl
position_or_len-map f p (x ∷ xs) = ap (λ n. cond (not (p (f x))) (1 + n) 0) (position_or_len-map f p xs)

bytes_within : (files : List (List ℕ × List ℕ)) (place : ℕ) → place < length files → option_map (λ file. file.1) (slice_get files place) ≡ Some (bytes_at files place)
bytes_within [] place within = absurd (omega arith)
bytes_within (file ∷ files) zero within = refl
bytes_within (file ∷ files) (suc place) within = bytes_within files place (omega arith)

bytes_past : (files : List (List ℕ × List ℕ)) (place : ℕ) → length files ≤ place → option_map (λ file. file.1) (slice_get files place) ≡ None
bytes_past [] place past = refl
bytes_past (file ∷ files) zero past = absurd (omega arith)
bytes_past (file ∷ files) (suc place) past = bytes_past files place (omega arith)

content_at : (files : List (List ℕ × List ℕ)) (name : List ℕ) → content_of files name ≡ option_map (λ file. file.1) (slice_get files (file_place files name))
content_at files name = ap (option_map (λ file. file.1)) (find_at _ files)

-- a name that stands before the end has the bytes at its place
pub content_within : (files : List (List ℕ × List ℕ)) (name : List ℕ) → file_place files name < length files → content_of files name ≡ Some (bytes_at files (file_place files name))
content_within files name within = content_at files name ∙ bytes_within files _ within

-- a name whose place is the end has no file
pub content_past : (files : List (List ℕ × List ℕ)) (name : List ℕ) → length files ≤ file_place files name → content_of files name ≡ None
content_past files name past = content_at files name ∙ bytes_past files _ past
