-- The keys of a mode: their names, their standard numbers, and the greatest that they take.
use Rattle.std.specs.Prelude.{ℕ, List, [], ◌∷◌, codes, Option, find}
use Rattle.std.specs.Str.{bytes_eq}
use Rattle.mode_file.specs.declared.keys.Key.{Key}
use Rattle.mode_file.specs.declared.keys.Key.TheVariants.{Process, Mate, Confront, Inst, Choose, Grow, Clock, Terms, Defaults, Names, Commands, Conflicts}

abbrev pub keys : List Key
keys = Process ∷ Mate ∷ Confront ∷ Inst ∷ Choose ∷ Grow ∷ Clock ∷ Terms ∷ Defaults ∷ Names ∷ Commands ∷ Conflicts ∷ []

abbrev pub key_name : Key → List ℕ
key_name Process = codes "process"
key_name Mate = codes "mate"
key_name Confront = codes "confront"
key_name Inst = codes "inst"
key_name Choose = codes "choose"
key_name Grow = codes "grow"
key_name Clock = codes "clock"
key_name Terms = codes "terms"
key_name Defaults = codes "defaults"
key_name Names = codes "names"
key_name Commands = codes "commands"
key_name Conflicts = codes "conflicts"

abbrev pub standard_number : Key → ℕ
standard_number Process = 0
standard_number Mate = 1
standard_number Confront = 1
standard_number Inst = 1
standard_number Choose = 2
standard_number Grow = 4
standard_number Clock = 0
standard_number Terms = 0
standard_number Defaults = 0
standard_number Names = 0
standard_number Commands = 20000
standard_number Conflicts = 1000000

abbrev pub greatest : Key → ℕ
greatest Process = 1000
greatest Mate = 1000
greatest Confront = 1000
greatest Inst = 1000
greatest Choose = 1000
greatest Grow = 1000
greatest Clock = 1
greatest Terms = 1
greatest Defaults = 1000
greatest Names = 1
greatest Commands = 1000000
greatest Conflicts = 1000000000000

-- the key of this name
unfoldable pub key_of : List ℕ → Option Key
key_of name = find (λ key. bytes_eq (key_name key) name) keys
