use Rattle.std.proofs.Common.{◌++◌, IsTrue, length, take, drop, sym, ap, subst, ◌∙◌, arith}
use Rattle.std.proofs.lemmas.List.{take-append-drop, length-drop}
use Rattle.std.proofs.lemmas.Result.{on_err_weaker}
use Rattle.buffered_sink.proofs.sink.BufferedSink.flush.Goals as goal

pub returns-clause-failed : goal.returns-clause-failed
returns-clause-failed g c =
    let sink = g.S.Sink in
    let held = c.args.self.now.held in
    let done = c.hand_on-done.result.0 in
    let is_sink = ap (λ b. b.sink) c.self.view_is in
    let is_held = c.as_slice.ensures.value ∙ ap (λ b. b.held) c.self.view_is in
    on_err_weaker c.hand_on-done.result.1 (λ some. λ tells. record {
      front = take done held;
      back = drop done held;
      whole = sym (take-append-drop done held);
      proper = omega (arith, length-drop done held, some, ap length is_held);
      appended = ap sink.written c.let_go.ensures.sink
          ∙ c.hand_on-done.ensures.appended (subst (λ s. IsTrue (sink.tells s)) (sym is_sink) tells)
          ∙ ap (λ s. sink.written s ++ take done c.as_slice.result.now) is_sink
          ∙ ap (λ xs. sink.written c.args.self.now.sink ++ take done xs) is_held;
    }) c.hand_on-done.ensures.some
