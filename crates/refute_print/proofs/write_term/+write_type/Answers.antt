use Rattle.std.proofs.Common.{codes, subst}
use Rattle.stt_core.specs.View.{the_type}
use Rattle.refute_print.specs.Named.{names_of, HasTypeNames}
use Rattle.outside.proofs.Writes.{on_err, took_both, stopped_first, stopped_later}
use Rattle.refute_print.proofs.write_term.+write_type.Goals as goal

pub returns-in_err-write-in-Arrow-clause-stopped : goal.returns-in_err-write-in-Arrow-clause-stopped
returns-in_err-write-in-Arrow-clause-stopped g t c =
    on_err c.from_residual-in_err-write-in-Arrow.result (rw c.in-Arrow.is (stopped_first (codes "(") _ c.in_err-write-in-Arrow.ensures.stopped))

pub returns-in_err-write-in-Arrow-2-clause-stopped : goal.returns-in_err-write-in-Arrow-2-clause-stopped
returns-in_err-write-in-Arrow-2-clause-stopped g t c =
    on_err c.from_residual-in_err-write-in-Arrow-2.result (rw (c.in-Arrow.is, ← c.deref.ensures)
    (stopped_later (codes "(") _ c.in_ok-write-in-Arrow.ensures.took
    (stopped_later _ _ c.in_ok-write_type-in-Arrow.ensures.took (stopped_first (codes ">") _ c.in_err-write-in-Arrow-2.ensures.stopped))))

pub returns-in_err-write_type-in-Arrow-2-clause-stopped : goal.returns-in_err-write_type-in-Arrow-2-clause-stopped
returns-in_err-write_type-in-Arrow-2-clause-stopped g t c =
    on_err c.from_residual-in_err-write_type-in-Arrow-2.result (rw (c.in-Arrow.is, ← c.deref.ensures, ← c.deref-in-Arrow.ensures)
    (stopped_later (codes "(") _ c.in_ok-write-in-Arrow.ensures.took
    (stopped_later _ _ c.in_ok-write_type-in-Arrow.ensures.took (stopped_later (codes ">") _ c.in_ok-write-in-Arrow-2.ensures.took (stopped_first _ _ c.in_err-write_type-in-Arrow-2.ensures.stopped)))))

pub returns-in_err-write-in-Arrow-3-clause-stopped : goal.returns-in_err-write-in-Arrow-3-clause-stopped
returns-in_err-write-in-Arrow-3-clause-stopped g t c =
    on_err c.from_residual-in_err-write-in-Arrow-3.result (rw (c.in-Arrow.is, ← c.deref.ensures, ← c.deref-in-Arrow.ensures)
    (stopped_later (codes "(") _ c.in_ok-write-in-Arrow.ensures.took
    (stopped_later _ _ c.in_ok-write_type-in-Arrow.ensures.took (stopped_later (codes ">") _ c.in_ok-write-in-Arrow-2.ensures.took (stopped_later _ _ c.in_ok-write_type-in-Arrow-2.ensures.took c.in_err-write-in-Arrow-3.ensures.stopped)))))

pub returns-in_err-write_type-in-Arrow-clause-stopped : goal.returns-in_err-write_type-in-Arrow-clause-stopped
returns-in_err-write_type-in-Arrow-clause-stopped g t c =
    on_err c.from_residual-in_err-write_type-in-Arrow.result (rw (c.in-Arrow.is, ← c.deref.ensures)
    (stopped_later (codes "(") _ c.in_ok-write-in-Arrow.ensures.took (stopped_first _ _ c.in_err-write_type-in-Arrow.ensures.stopped)))

pub returns-in_ok-write-in-Arrow-3-clause-took : goal.returns-in_ok-write-in-Arrow-3-clause-took
returns-in_ok-write-in-Arrow-3-clause-took g t c =
    rw (c.in-Arrow.is, ← c.deref.ensures, ← c.deref-in-Arrow.ensures)
    (took_both (codes "(") _ c.in_ok-write-in-Arrow.ensures.took
    (took_both _ _ c.in_ok-write_type-in-Arrow.ensures.took (took_both (codes ">") _ c.in_ok-write-in-Arrow-2.ensures.took (took_both _ _ c.in_ok-write_type-in-Arrow-2.ensures.took c.in_ok-write-in-Arrow-3.ensures.took))))

pub write_base-requires : goal.write_base-requires
write_base-requires g t c = subst (λ ty. HasTypeNames (names_of c.args.sig.now.bases c.args.sig.now.consts) (the_type ty)) c.in-Base.is c.requires

pub returns-in_err-write_base-in-Base-clause-stopped : goal.returns-in_err-write_base-in-Base-clause-stopped
returns-in_err-write_base-in-Base-clause-stopped g t c =
    on_err c.from_residual.result (rw c.in-Base.is c.in_err-write_base-in-Base.ensures.stopped)

pub returns-in_ok-write_base-in-Base-clause-took : goal.returns-in_ok-write_base-in-Base-clause-took
returns-in_ok-write_base-in-Base-clause-took g t c = rw c.in-Base.is c.in_ok-write_base-in-Base.ensures.took
