use Rattle.std.proofs.Common.{Bool, sym, ap, ◌∙◌, if◌then◌else◌}
use Rattle.std.proofs.lemmas.Bool.{lt-ltb, le-ltb}
use Rattle.stt_core.specs.SimpleType.{base}
use Rattle.instantiate.specs.Listing.{with_listed}
use Rattle.prover_growth.proofs.denial.list_taker.Goals as goal

pub returns-then-before-now : goal.returns-then-before-now
returns-then-before-now c =
    let old = c.args.takers.now in
    let new = with_listed (base c.args.output) c.args.before old in
    c.in_ok-add_term.ensures.ok ∙ sym (ap (λ (b : Bool). if b then new else old) (lt-ltb c.args.before c.args.now c.if-before-now.true))

pub returns : goal.returns
returns c =
    let old = c.args.takers.now in
    let new = with_listed (base c.args.output) c.args.before old in
    sym (ap (λ (b : Bool). if b then new else old) (le-ltb c.args.before c.args.now c.if-before-now.false))
