use Rattle.std.proofs.Common.{◌≡◌, ◌<◌, ◌^◌, length, map, [], ◌∷◌, ◌++◌, true, sym, ap, subst, ◌∙◌, arith, length-append}
use Rattle.stt_core.specs.SimpleType.{is_declared}
use Rattle.stt_core.specs.View.{the_type}
use Rattle.term_bank.specs.Internal.Inside.{IsSoundBank}
use Rattle.term_bank.proofs.ScopeLaws.{sound_more, scope_more}
use Rattle.term_bank.proofs.bank.Bank.add_witness.Goals as goal

pub invariant_of-self-2 : goal.invariant_of-self-2
invariant_of-self-2 c =
    let a = c.self.inside in
    let x = the_type c.in_ok-ty.ty in
    let names = map (λ d. d.type) a.sig.consts in
    let bases : length c.args.self.now.bases ≡ length a.sig.bases = ap (λ b. length b.bases) (sym c.self.view_is) in
    let d : is_declared (length a.sig.bases) x ≡ true = ap (λ n. is_declared n x) (sym bases) ∙ ap (is_declared (length c.args.self.now.bases)) c.in_ok-ty.ensures ∙ c.requires.declared in
    let few : length (a.wits ++ x ∷ []) < 2 ^ 32 = omega (arith, length-append a.wits (x ∷ []), c.requires.few, ap (λ b. length b.witnesses) c.self.view_is) in
    subst (λ ws. IsSoundBank (record { sig = a.sig; wits = ws; nodes = a.nodes; alloc = a.alloc })) (sym c.in_ok-push.ensures.ok)
    (record {
      declared = scope_more (length a.sig.bases) names a.wits x c.self.invariant.declared d;
      few_witnesses = few;
      nodes = sound_more (length a.sig.bases) names a.wits x a.nodes.entries c.self.invariant.nodes;
    })
