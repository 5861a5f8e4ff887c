use Rattle.std.proofs.Common.{length, ◌-◌, ◌≡◌, ◌≤◌, ◌++◌, take, IsTrue}
use Rattle.buffered_sink.proofs.hand_on.hand_on.Given as goal

abbrev pub invariant-loop-done : goal.invariant-loop-done
invariant-loop-done g l =
    let sink = g.S.Sink in
    record {
      within : l.done ≤ length l.bytes;
      front : IsTrue (sink.tells l.fn.sink) → sink.written l.sink ≡ sink.written l.fn.sink ++ take l.done l.bytes;
      quiet : sink.faults l.sink ≡ sink.faults l.fn.sink;
      telling : IsTrue (sink.tells l.fn.sink) → IsTrue (sink.tells l.sink);
    }

abbrev pub decreases-loop-done : goal.decreases-loop-done
decreases-loop-done g l = length l.bytes - l.done
