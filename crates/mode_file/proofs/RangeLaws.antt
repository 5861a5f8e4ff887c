-- The numbers of good lines are within their ranges.
use Rattle.std.proofs.Common.{inl, inr, ℕ, ◌≤◌, List, [], ◌∷◌, Option, Some, None, IfSome, unwrap_or, sym, subst, lit≤}
use Rattle.mode_file.specs.declared.given.Given.{Given}
use Rattle.mode_file.specs.declared.keys.Key.{Key}
use Rattle.mode_file.specs.declared.keys.Key.TheVariants.{Process, Mate, Confront, Inst, Choose, Grow, Clock, Terms, Defaults, Names, Commands, Conflicts}
use Rattle.mode_file.specs.Keys.{standard_number, greatest}
use Rattle.mode_file.specs.Given.{nothing_given, with_number, mode_of, IsInRange}
use Rattle.mode_file.specs.Grammar.{IsGoodLine, AreGoodLines}

-- each number that is given is within its key's range
record AreInRange (given : Given) : Type 0 where
  process : IfSome given.process (λ n. n ≤ greatest Process)
  mate : IfSome given.mate (λ n. n ≤ greatest Mate)
  confront : IfSome given.confront (λ n. n ≤ greatest Confront)
  inst : IfSome given.inst (λ n. n ≤ greatest Inst)
  choose : IfSome given.choose (λ n. n ≤ greatest Choose)
  grow : IfSome given.grow (λ n. n ≤ greatest Grow)
  clock : IfSome given.clock (λ n. n ≤ greatest Clock)
  terms : IfSome given.terms (λ n. n ≤ greatest Terms)
  defaults : IfSome given.defaults (λ n. n ≤ greatest Defaults)
  names : IfSome given.names (λ n. n ≤ greatest Names)
  commands : IfSome given.commands (λ n. n ≤ greatest Commands)
  conflicts : IfSome given.conflicts (λ n. n ≤ greatest Conflicts)

one_more : (given : Given) (key : Key) (n : ℕ) → AreInRange given → n ≤ greatest key → AreInRange (with_number given key n)
one_more given Process n h within = record { process = within; mate = h.mate; confront = h.confront; inst = h.inst; choose = h.choose; grow = h.grow; clock = h.clock; terms = h.terms; defaults = h.defaults; names = h.names; commands = h.commands; conflicts = h.conflicts }
one_more given Mate n h within = record { process = h.process; mate = within; confront = h.confront; inst = h.inst; choose = h.choose; grow = h.grow; clock = h.clock; terms = h.terms; defaults = h.defaults; names = h.names; commands = h.commands; conflicts = h.conflicts }
one_more given Confront n h within = record { process = h.process; mate = h.mate; confront = within; inst = h.inst; choose = h.choose; grow = h.grow; clock = h.clock; terms = h.terms; defaults = h.defaults; names = h.names; commands = h.commands; conflicts = h.conflicts }
one_more given Inst n h within = record { process = h.process; mate = h.mate; confront = h.confront; inst = within; choose = h.choose; grow = h.grow; clock = h.clock; terms = h.terms; defaults = h.defaults; names = h.names; commands = h.commands; conflicts = h.conflicts }
one_more given Choose n h within = record { process = h.process; mate = h.mate; confront = h.confront; inst = h.inst; choose = within; grow = h.grow; clock = h.clock; terms = h.terms; defaults = h.defaults; names = h.names; commands = h.commands; conflicts = h.conflicts }
one_more given Grow n h within = record { process = h.process; mate = h.mate; confront = h.confront; inst = h.inst; choose = h.choose; grow = within; clock = h.clock; terms = h.terms; defaults = h.defaults; names = h.names; commands = h.commands; conflicts = h.conflicts }
one_more given Clock n h within = record { process = h.process; mate = h.mate; confront = h.confront; inst = h.inst; choose = h.choose; grow = h.grow; clock = within; terms = h.terms; defaults = h.defaults; names = h.names; commands = h.commands; conflicts = h.conflicts }
one_more given Terms n h within = record { process = h.process; mate = h.mate; confront = h.confront; inst = h.inst; choose = h.choose; grow = h.grow; clock = h.clock; terms = within; defaults = h.defaults; names = h.names; commands = h.commands; conflicts = h.conflicts }
one_more given Defaults n h within = record { process = h.process; mate = h.mate; confront = h.confront; inst = h.inst; choose = h.choose; grow = h.grow; clock = h.clock; terms = h.terms; defaults = within; names = h.names; commands = h.commands; conflicts = h.conflicts }
one_more given Names n h within = record { process = h.process; mate = h.mate; confront = h.confront; inst = h.inst; choose = h.choose; grow = h.grow; clock = h.clock; terms = h.terms; defaults = h.defaults; names = within; commands = h.commands; conflicts = h.conflicts }
one_more given Commands n h within = record { process = h.process; mate = h.mate; confront = h.confront; inst = h.inst; choose = h.choose; grow = h.grow; clock = h.clock; terms = h.terms; defaults = h.defaults; names = h.names; commands = within; conflicts = h.conflicts }
one_more given Conflicts n h within = record { process = h.process; mate = h.mate; confront = h.confront; inst = h.inst; choose = h.choose; grow = h.grow; clock = h.clock; terms = h.terms; defaults = h.defaults; names = h.names; commands = h.commands; conflicts = within }

good_line : (before : Given) (line : List ℕ) (after : Given) → IsGoodLine before line after → AreInRange before → AreInRange after
good_line before line after (inl g) h = subst AreInRange (sym g.1) h
good_line before line after (inr g) h = subst AreInRange (sym g.after_is) (one_more before g.key g.n h g.in_range)

good_lines : (lines : List (List ℕ)) (before after : Given) → AreGoodLines before lines after → AreInRange before → AreInRange after
good_lines [] before after g h = subst AreInRange (sym g) h
good_lines (l ∷ ls) before after g h = good_lines ls g.0 after g.1.1 (good_line before l g.0 g.1.0 h)

none : AreInRange nothing_given
none = record { process = tt; mate = tt; confront = tt; inst = tt; choose = tt; grow = tt; clock = tt; terms = tt; defaults = tt; names = tt; commands = tt; conflicts = tt }

unwrap_or-within : (o : Option ℕ) (other limit : ℕ) → IfSome o (λ n. n ≤ limit) → other ≤ limit → unwrap_or o other ≤ limit
unwrap_or-within None other limit h k = k
unwrap_or-within (Some n) other limit h k = h

pub mode_in_range : (lines : List (List ℕ)) (given : Given) → AreGoodLines nothing_given lines given → IsInRange (mode_of given)
mode_in_range lines given g =
    let h = good_lines lines nothing_given given g none in
    record {
      process = unwrap_or-within given.process (standard_number Process) (greatest Process) h.process (lit≤ tt);
      mate = unwrap_or-within given.mate (standard_number Mate) (greatest Mate) h.mate (lit≤ tt);
      confront = unwrap_or-within given.confront (standard_number Confront) (greatest Confront) h.confront (lit≤ tt);
      inst = unwrap_or-within given.inst (standard_number Inst) (greatest Inst) h.inst (lit≤ tt);
      choose = unwrap_or-within given.choose (standard_number Choose) (greatest Choose) h.choose (lit≤ tt);
      grow = unwrap_or-within given.grow (standard_number Grow) (greatest Grow) h.grow (lit≤ tt);
      clock = unwrap_or-within given.clock (standard_number Clock) (greatest Clock) h.clock (lit≤ tt);
      terms = unwrap_or-within given.terms (standard_number Terms) (greatest Terms) h.terms (lit≤ tt);
      defaults = unwrap_or-within given.defaults (standard_number Defaults) (greatest Defaults) h.defaults (lit≤ tt);
      names = unwrap_or-within given.names (standard_number Names) (greatest Names) h.names (lit≤ tt);
      commands = unwrap_or-within given.commands (standard_number Commands) (greatest Commands) h.commands (lit≤ tt);
      conflicts = unwrap_or-within given.conflicts (standard_number Conflicts) (greatest Conflicts) h.conflicts (lit≤ tt);
    }
