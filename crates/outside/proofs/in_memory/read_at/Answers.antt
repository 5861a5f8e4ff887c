use Rattle.std.proofs.Common.{◌≡◌, ◌≤◌, ◌+◌, ◌-◌, ◌++◌, ◌∙◌, ℕ, List, length, take, drop, ap, sym, arith, take_all, take_at, length-drop, drop-drop, length-take-le}
use Rattle.std.proofs.lemmas.List.{take-append-drop}
use Rattle.outside.proofs.in_memory.read_at.Goals as goal

-- the bytes from a position on are the next n of them and those behind
split_at : (bytes copied others : List ℕ) (position n : ℕ) → copied ≡ take n (drop position bytes) → n ≤ length (drop position bytes) → drop position bytes ≡ take n (copied ++ others) ++ drop (position + n) bytes
split_at bytes copied others position n is within =
    let count : length copied ≡ n = ap length is ∙ length-take-le n (drop position bytes) within in
    rw (take_at copied others n count, is, ← drop-drop n position bytes) (sym (take-append-drop n (drop position bytes)))

pub returns-clause-bytes : goal.returns-clause-bytes
returns-clause-bytes c =
    let rest : List ℕ = drop c.args.position.now c.args.bytes.now in
    let whole : take (length c.args.bytes.now - c.args.position.now) rest ≡ rest = take_all _ rest (omega (arith, length-drop c.args.position.now c.args.bytes.now)) in
    split_at c.args.bytes.now c.copy_from_slice.new.self _ c.args.position.now c.min-count.result (c.copy_from_slice.ensures.after ∙ ap (take c.min-count.result) whole) (grind arith)
