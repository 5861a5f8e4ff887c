use Rattle.std.proofs.Common.{◌≡◌, [], ◌∷◌, ◌++◌, List, sym, ap, subst, ◌∙◌}
use Rattle.sat_log.specs.declared.log.LogEntry.{LogEntry}
use Rattle.sat_log.specs.Chains.{IsLogOver}
use Rattle.sat_log.proofs.ChainLaws.{IsLogOver-push}
use Rattle.sat_log.proofs.log.Log.push.Goals as goal

pub returns-clause-right : goal.returns-clause-right
returns-clause-right c =
    let last : LogEntry = record { chain = c.args.chain; result = c.in_ok-result.result } in
    let longer : c.push.new.self.items ≡ c.args.self.now ++ last ∷ [] =
    c.in_ok-push.ensures.items ∙ ap (λ (entries : List LogEntry). entries ++ last ∷ []) (c.self.view_is ∙ c.derived.ensures.same) in
    subst (IsLogOver c.args.clauses.now) (sym longer) (IsLogOver-push c.args.clauses.now c.args.self.now last c.requires.right c.in_ok-result.ensures.ok)
