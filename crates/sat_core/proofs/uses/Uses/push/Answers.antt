use Rattle.std.proofs.Common.{◌<◌, ℕ, List, [], ◌∷◌, length, length-append, get_or, sym, ap, subst, ◌∙◌, arith}
use Rattle.std.specs.Prelude.{slice_set}
use Rattle.sat_core.specs.declared.uses.Use.{Use}
use Rattle.sat_core.specs.declared.uses.Ends.{Ends}
use Rattle.sat_core.specs.Internal.Uses.{no_use, no_ends, UseTable, IsListed, IsUse, followed, AreLinked}
use Rattle.sat_core.proofs.UsePushed.{IsRoom, room_of, first_there, first_kept, first_linked, last_below, further_there, further_kept, further_linked}
use Rattle.sat_core.proofs.uses.Uses.push.Goals as goal

pub invariant_of-self-then-ends : goal.invariant_of-self-then-ends
invariant_of-self-then-ends c =
    let s = c.self.inside in
    let i : ℕ = c.args.var.0 in
    let n : ℕ = c.in_ok-clause.clause in
    let p : ℕ = c.in_ok-place.place in
    let e : Ends = c.index-ends.result.now in
    let inside : i < length s.ends.items = subst (λ (t : UseTable). i < length t.ends) (sym c.self.view_is) c.requires in
    let room : IsRoom s.uses.items s.ends.items i p e = room_of s.uses.items s.ends.items i p e c.self.invariant inside c.index-ends.ensures (omega (arith, c.in_ok-place.ensures.number, c.len.ensures)) c.in_ok-place.ensures.below in
    subst (λ (list : List Use). AreLinked list (slice_set s.ends.items i (record { first = p; last = p }))) (sym c.in_ok-push.ensures.items) (first_linked s.uses.items s.ends.items i n p e room)

pub returns-then-ends-clause-there : goal.returns-then-ends-clause-there
returns-then-ends-clause-there c =
    let s = c.self.inside in
    let i : ℕ = c.args.var.0 in
    let n : ℕ = c.in_ok-clause.clause in
    let p : ℕ = c.in_ok-place.place in
    let e : Ends = c.index-ends.result.now in
    let inside : i < length s.ends.items = subst (λ (t : UseTable). i < length t.ends) (sym c.self.view_is) c.requires in
    let room : IsRoom s.uses.items s.ends.items i p e = room_of s.uses.items s.ends.items i p e c.self.invariant inside c.index-ends.ensures (omega (arith, c.in_ok-place.ensures.number, c.len.ensures)) c.in_ok-place.ensures.below in
    subst (λ (m : ℕ). IsListed c.push.new.self.items (get_or (slice_set s.ends.items i (record { first = p; last = p })) i no_ends).first m) c.in_ok-clause.ensures.number
    (subst (λ (list : List Use). IsListed list (get_or (slice_set s.ends.items i (record { first = p; last = p })) i no_ends).first n) (sym c.in_ok-push.ensures.items) (first_there s.uses.items s.ends.items i n p e room))

pub returns-then-ends-clause-kept : goal.returns-then-ends-clause-kept
returns-then-ends-clause-kept c = λ v k h.
    let s = c.self.inside in
    let i : ℕ = c.args.var.0 in
    let n : ℕ = c.in_ok-clause.clause in
    let p : ℕ = c.in_ok-place.place in
    let e : Ends = c.index-ends.result.now in
    let inside : i < length s.ends.items = subst (λ (t : UseTable). i < length t.ends) (sym c.self.view_is) c.requires in
    let room : IsRoom s.uses.items s.ends.items i p e = room_of s.uses.items s.ends.items i p e c.self.invariant inside c.index-ends.ensures (omega (arith, c.in_ok-place.ensures.number, c.len.ensures)) c.in_ok-place.ensures.below in
    subst (λ (list : List Use). IsListed list (get_or (slice_set s.ends.items i (record { first = p; last = p })) v.0 no_ends).first k) (sym c.in_ok-push.ensures.items) (first_kept s.uses.items s.ends.items i n p e room c.if-ends.true v.0 k (subst (λ (t : UseTable). IsUse t v k) (sym c.self.view_is) h))

pub follow-requires : goal.follow-requires
follow-requires c =
    let s = c.self.inside in
    let i : ℕ = c.args.var.0 in
    let n : ℕ = c.in_ok-clause.clause in
    let p : ℕ = c.in_ok-place.place in
    let e : Ends = c.index-ends.result.now in
    let inside : i < length s.ends.items = subst (λ (t : UseTable). i < length t.ends) (sym c.self.view_is) c.requires in
    let room : IsRoom s.uses.items s.ends.items i p e = room_of s.uses.items s.ends.items i p e c.self.invariant inside c.index-ends.ensures (omega (arith, c.in_ok-place.ensures.number, c.len.ensures)) c.in_ok-place.ensures.below in
    let below = last_below s.uses.items s.ends.items i p e room c.if-ends.false in
    omega (arith, below, c.in_ok-place.ensures.number, c.len.ensures, ap (λ (list : List Use). length list) c.in_ok-push.ensures.items, length-append s.uses.items (record { clause = n; next = no_use } ∷ []))

pub invariant_of-self-2 : goal.invariant_of-self-2
invariant_of-self-2 c =
    let s = c.self.inside in
    let i : ℕ = c.args.var.0 in
    let n : ℕ = c.in_ok-clause.clause in
    let p : ℕ = c.in_ok-place.place in
    let e : Ends = c.index-ends.result.now in
    let inside : i < length s.ends.items = subst (λ (t : UseTable). i < length t.ends) (sym c.self.view_is) c.requires in
    let room : IsRoom s.uses.items s.ends.items i p e = room_of s.uses.items s.ends.items i p e c.self.invariant inside c.index-ends.ensures (omega (arith, c.in_ok-place.ensures.number, c.len.ensures)) c.in_ok-place.ensures.below in
    subst (λ (list : List Use). AreLinked list (slice_set s.ends.items i (record { first = e.first; last = p }))) (sym (c.follow.ensures ∙ ap (λ (list : List Use). followed list e.last p) c.in_ok-push.ensures.items)) (further_linked s.uses.items s.ends.items i n p e room c.if-ends.false)

pub returns-clause-there : goal.returns-clause-there
returns-clause-there c =
    let s = c.self.inside in
    let i : ℕ = c.args.var.0 in
    let n : ℕ = c.in_ok-clause.clause in
    let p : ℕ = c.in_ok-place.place in
    let e : Ends = c.index-ends.result.now in
    let inside : i < length s.ends.items = subst (λ (t : UseTable). i < length t.ends) (sym c.self.view_is) c.requires in
    let room : IsRoom s.uses.items s.ends.items i p e = room_of s.uses.items s.ends.items i p e c.self.invariant inside c.index-ends.ensures (omega (arith, c.in_ok-place.ensures.number, c.len.ensures)) c.in_ok-place.ensures.below in
    subst (λ (m : ℕ). IsListed c.follow.new.uses.items (get_or (slice_set s.ends.items i (record { first = e.first; last = p })) i no_ends).first m) c.in_ok-clause.ensures.number
    (subst (λ (list : List Use). IsListed list (get_or (slice_set s.ends.items i (record { first = e.first; last = p })) i no_ends).first n) (sym (c.follow.ensures ∙ ap (λ (list : List Use). followed list e.last p) c.in_ok-push.ensures.items)) (further_there s.uses.items s.ends.items i n p e room c.if-ends.false))

pub returns-clause-kept : goal.returns-clause-kept
returns-clause-kept c = λ v k h.
    let s = c.self.inside in
    let i : ℕ = c.args.var.0 in
    let n : ℕ = c.in_ok-clause.clause in
    let p : ℕ = c.in_ok-place.place in
    let e : Ends = c.index-ends.result.now in
    let inside : i < length s.ends.items = subst (λ (t : UseTable). i < length t.ends) (sym c.self.view_is) c.requires in
    let room : IsRoom s.uses.items s.ends.items i p e = room_of s.uses.items s.ends.items i p e c.self.invariant inside c.index-ends.ensures (omega (arith, c.in_ok-place.ensures.number, c.len.ensures)) c.in_ok-place.ensures.below in
    subst (λ (list : List Use). IsListed list (get_or (slice_set s.ends.items i (record { first = e.first; last = p })) v.0 no_ends).first k) (sym (c.follow.ensures ∙ ap (λ (list : List Use). followed list e.last p) c.in_ok-push.ensures.items)) (further_kept s.uses.items s.ends.items i n p e room c.if-ends.false v.0 k (subst (λ (t : UseTable). IsUse t v k) (sym c.self.view_is) h))
