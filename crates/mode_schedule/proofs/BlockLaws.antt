-- A schedule that is read block by block.
use Rattle.std.proofs.Common.{◌≡◌, ℕ, ◌+◌, ◌<◌, ◌≤◌, true, false, List, [], ◌∷◌, ◌++◌, length, refl, sym, ap, ◌∙◌, subst, arith, append_assoc, append-nil, length-append}
use Rattle.std.specs.List.{All, AllByRecursion}
use Rattle.std.proofs.lemmas.List.Elements.{All-from_recursion}
use Rattle.mode_file.specs.declared.Mode.{Mode}
use Rattle.mode_file.specs.Given.{IsInRange}
use Rattle.mode_file.specs.Grammar.{says_nothing, States}
use Rattle.mode_file.specs.declared.refused.ModeRefused.{ModeRefused}
use Rattle.mode_file.specs.Refusals.{Refuses}
use Rattle.mode_file.proofs.RangeLaws.{mode_in_range}
use Rattle.outside.specs.Lines.{lines_of}
use Rattle.mode_schedule.specs.declared.Block.{Block}
use Rattle.mode_schedule.specs.Internal.Refused.{bad_line_of}
use Rattle.mode_schedule.specs.Grammar.{most_blocks, greatest_slice, is_slice_line, IsSlice, AreInBlock, BeginWithSlice, AreSilent, IsBlock, AreBlocks, HaveBlocks, IsBadInBlock}

-- lists of lines with one more

pub in_block-last : (lines : List (List ℕ)) (line : List ℕ) → AreInBlock lines → is_slice_line line ≡ false → AreInBlock (lines ++ line ∷ [])
in_block-last [] line h e = (e, tt)
in_block-last (l ∷ ls) line h e = (h.0, in_block-last ls line h.1 e)

pub silent-last : (lines : List (List ℕ)) (line : List ℕ) → AreSilent lines → says_nothing line ≡ true → AreSilent (lines ++ line ∷ [])
silent-last [] line h e = (e, tt)
silent-last (l ∷ ls) line h e = (h.0, silent-last ls line h.1 e)

pub in_block-at : (before behind : List (List ℕ)) (line : List ℕ) → AreInBlock (before ++ line ∷ behind) → is_slice_line line ≡ false
in_block-at [] behind line h = h.0
in_block-at (l ∷ ls) behind line h = in_block-at ls behind line h.1

-- one more line is read
pub read-more : (all before rest behind : List (List ℕ)) (line : List ℕ) → all ≡ before ++ rest → rest ≡ line ∷ behind → all ≡ (before ++ line ∷ []) ++ behind
read-more all before rest behind line e cut = e ∙ ap (λ (ls : List (List ℕ)). before ++ ls) cut ∙ sym (append_assoc before (line ∷ []) behind)

-- one more block is read
pub blocks-last : (lines own : List (List ℕ)) (blocks : List Block) (block : Block) → AreBlocks lines blocks → IsBlock own block → AreBlocks (lines ++ own) (blocks ++ block ∷ [])
blocks-last lines own [] block none h = (own, [], ap (λ (ls : List (List ℕ)). ls ++ own) none ∙ sym (append-nil own), h, refl)
blocks-last lines own (b ∷ bs) block h k =
    (h.0, h.1 ++ own, ap (λ (ls : List (List ℕ)). ls ++ own) h.2 ∙ append_assoc h.0 h.1 own, h.3, blocks-last h.1 own bs block h.4 k)

pub have-more : (lines own : List (List ℕ)) (blocks : List Block) (block : Block) → HaveBlocks lines blocks → length blocks < most_blocks → IsBlock own block → HaveBlocks (lines ++ own) (blocks ++ block ∷ [])
have-more lines own blocks block h room k = record {
  preface = h.preface;
  own = h.own ++ own;
  lines_are = ap (λ (ls : List (List ℕ)). ls ++ own) h.lines_are ∙ append_assoc h.preface h.own own;
  silent = h.silent;
  are_blocks = blocks-last h.own own blocks block h.are_blocks k;
  room = omega (arith, room, length-append blocks (block ∷ []));
}

-- what was read so far: lines with these blocks, before the bytes that are left, which begin with the line of a slice
pub record IsReadTo (bytes rest : List ℕ) (blocks : List Block) (line : ℕ) : Type 0 where
  pub before : List (List ℕ)
  pub lines_are : lines_of bytes ≡ before ++ lines_of rest
  pub have : HaveBlocks before blocks
  pub line_is : line ≡ length before
  pub room : line + length rest ≤ length bytes
  pub begins : BeginWithSlice (lines_of rest)

begins_here : (lines behind : List (List ℕ)) (line : List ℕ) → lines ≡ line ∷ behind → BeginWithSlice lines → is_slice_line line ≡ true
begins_here lines behind line e h = let b : BeginWithSlice (line ∷ behind) = subst BeginWithSlice e h in b

module _ (bytes rest line behind : List ℕ) (blocks : List Block) (number : ℕ) (r0 : IsReadTo bytes rest blocks number) (cut : lines_of rest ≡ line ∷ lines_of behind) where
  pub is_slice : is_slice_line line ≡ true
  is_slice = begins_here (lines_of rest) (lines_of behind) line cut r0.begins

  -- the lines of a block, up to the next line of a slice
  module _ (own more : List ℕ) (parted : lines_of behind ≡ lines_of own ++ lines_of more) (inside : AreInBlock (lines_of own)) (ends : BeginWithSlice (lines_of more)) where
    pub lines_are-parted : lines_of bytes ≡ r0.before ++ (line ∷ (lines_of own ++ lines_of more))
    lines_are-parted = r0.lines_are ∙ ap (λ (ls : List (List ℕ)). r0.before ++ ls) cut ∙ ap (λ (ls : List (List ℕ)). r0.before ++ (line ∷ ls)) parted

    pub block_read : (n : ℕ) (mode : Mode) (count : ℕ) → length blocks < most_blocks → IsSlice line n → States (lines_of own) mode → count ≡ length (lines_of own) → length behind < length rest → count + length more ≤ length behind
        → IsReadTo bytes more (blocks ++ (record { slice = n; mode = mode }) ∷ []) (number + 1 + count)
    block_read n mode count room slice states count_is shorter within = record {
      before = r0.before ++ (line ∷ lines_of own);
      lines_are = lines_are-parted ∙ sym (append_assoc r0.before (line ∷ lines_of own) (lines_of more));
      have = have-more r0.before (line ∷ lines_of own) blocks (record { slice = n; mode = mode }) r0.have room (record { first = line; body = lines_of own; lines_are = refl; slice = slice; inside = inside; mode = states });
      line_is = omega (arith, r0.line_is, count_is, length-append r0.before (line ∷ lines_of own));
      room = omega (arith, r0.room, shorter, within);
      begins = ends;
    }

    pub body_refused : (n : ℕ) → length blocks < most_blocks → IsSlice line n → (r : ModeRefused) → Refuses (lines_of own) r → (make : ℕ → ModeRefused) → r ≡ make (bad_line_of r) → IsBadInBlock (lines_of bytes) (number + 1 + bad_line_of r) make
    body_refused n room slice r refuses make e = record {
      before = r0.before;
      first = line;
      body = lines_of own;
      behind = lines_of more;
      blocks = blocks;
      n = n;
      line = bad_line_of r;
      lines_are = lines_are-parted;
      have = r0.have;
      room = room;
      slice = slice;
      inside = inside;
      ends = ends;
      refuses = subst (Refuses (lines_of own)) e refuses;
      number_is = ap (λ m. m + 1 + bad_line_of r) r0.line_is;
    }

-- the end

pub all_read : (bytes rest : List ℕ) (blocks : List Block) (line : ℕ) → IsReadTo bytes rest blocks line → rest ≡ [] → HaveBlocks (lines_of bytes) blocks
all_read bytes rest blocks line r none =
    let all : lines_of bytes ≡ r.before = r.lines_are ∙ ap (λ (xs : List ℕ). r.before ++ lines_of xs) none ∙ append-nil r.before in
    subst (λ (ls : List (List ℕ)). HaveBlocks ls blocks) (sym all) r.have

-- the ranges of blocks

states_in_range : (lines : List (List ℕ)) (mode : Mode) → States lines mode → IsInRange mode
states_in_range lines mode s = subst IsInRange (sym s.mode_is) (mode_in_range lines s.given s.good)

slices_in_range : (lines : List (List ℕ)) (blocks : List Block) → AreBlocks lines blocks → AllByRecursion (λ (b : Block). (0 < b.slice) × (b.slice ≤ greatest_slice)) blocks
slices_in_range lines [] h = tt
slices_in_range lines (b ∷ bs) h = ((h.3.slice.some, h.3.slice.in_range), slices_in_range h.1 bs h.4)

modes_in_range : (lines : List (List ℕ)) (blocks : List Block) → AreBlocks lines blocks → AllByRecursion (λ (b : Block). IsInRange b.mode) blocks
modes_in_range lines [] h = tt
modes_in_range lines (b ∷ bs) h = (states_in_range h.3.body b.mode h.3.mode, modes_in_range h.1 bs h.4)

pub all_slices : (lines : List (List ℕ)) (blocks : List Block) → HaveBlocks lines blocks → All (λ (b : Block). (0 < b.slice) × (b.slice ≤ greatest_slice)) blocks
all_slices lines blocks h = All-from_recursion (λ (b : Block). (0 < b.slice) × (b.slice ≤ greatest_slice)) blocks (slices_in_range h.own blocks h.are_blocks)

pub all_modes : (lines : List (List ℕ)) (blocks : List Block) → HaveBlocks lines blocks → All (λ (b : Block). IsInRange b.mode) blocks
all_modes lines blocks h = All-from_recursion (λ (b : Block). IsInRange b.mode) blocks (modes_in_range h.own blocks h.are_blocks)
