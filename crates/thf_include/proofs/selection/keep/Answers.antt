use Rattle.std.proofs.Common.{◌≡◌, [], ◌∷◌, ◌++◌, Bool, List, length, map, ap, sym, ◌∙◌, refl, rules, arith}
use Rattle.std.specs.Prelude.{filter}
use Rattle.std.specs.Vec.Iter.{into_iter_items}
use Rattle.std.proofs.lemmas.Fn.{filter_same}
use Rattle.std.proofs.lemmas.List.{append-nil}
use Rattle.thf_grammar.specs.View.{the_selected}
use Rattle.thf_include.specs.declared.gathered.Placed.{Placed}
use Rattle.thf_include.specs.View.{the_statements}
use Rattle.thf_include.specs.Gathering.{is_selected}
use Rattle.thf_include.specs.Internal.Selection.{has_name}
use Rattle.thf_include.proofs.Selections.{selected-is, filter-statements}
use Rattle.thf_include.proofs.selection.keep.Goals as goal

append-none : {A : Type 0} (xs ys : List A) → length ys ≡ 0 → xs ++ ys ≡ xs
append-none xs [] e = append-nil xs
append-none xs (y ∷ ys) e = absurd (omega arith)

pub returns : goal.returns
returns c =
    let test = is_selected (map the_selected c.args.only.now) in
    let other : Placed → Bool = λ p. has_name c.in_ok-names.names p.statement.name in
    let rest = into_iter_items c.loop-placed.placed-iterator in
    let none : length rest ≡ 0 = omega (arith, c.loop-placed.placed-iterator.rest.ok.0, c.in-None.ensures.steps.0) in
    let all : c.loop-placed.yielded ≡ c.retain.new.self.items = sym (append-none c.loop-placed.yielded rest none) ∙ sym c.loop-placed.invariant.seen ∙ c.into_iter-placed-iterator.ensures.into_iter_gives.0 in
    let kept : c.retain.new.self.items ≡ filter other c.into_items-kept.result.items = filter_same _ other _ (λ p b f k. search rules) _ _ c.retain.ensures.filtered in
    c.loop-placed.invariant.kept
    ∙ ap (λ ps. the_statements c.args.gathered.now ++ ps) (ap the_statements (all ∙ kept ∙ ap (filter other) c.into_items-kept.ensures) ∙ filter-statements test other (λ p. selected-is c.in_ok-names.names c.args.only.now c.in_ok-names.ensures p p.statement.name refl) c.args.included)
