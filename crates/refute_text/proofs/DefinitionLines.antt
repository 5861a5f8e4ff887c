-- The lines of definitions.
use Rattle.std.proofs.Common.{◌≡◌, ℕ, true, List, [], ◌++◌, Some, codes, refl, sym, ap, ◌∙◌, append-nil}
use Rattle.thf_names.specs.Names.{name_text}
use Rattle.refute_print.specs.Letters.{is_printable_name}
use Rattle.refute_print.specs.Text.{definition_text}
use Rattle.refute_text.specs.Internal.Reader.{behind_text, name_at}
use Rattle.refute_text.specs.Internal.LineReader.{end_at, definition_at}
use Rattle.refute_text.proofs.Inversions.{bind_sound, behind_some}
use Rattle.refute_text.proofs.Answers.{bind_gives}
use Rattle.refute_text.proofs.NameReads.{name_reads}
use Rattle.refute_text.proofs.NameBack.{name_at-text}
use Rattle.refute_text.proofs.LineReads.{ended}

pub record IsDefinitionText (line w : List ℕ) : Type 0 where
  pub text : line ≡ definition_text w
  pub is_name : is_printable_name w ≡ true

pub definition_reads : (line w : List ℕ) → definition_at line ≡ Some w → IsDefinitionText line w
unfolding definition_at
definition_reads line w h =
    bind_sound (behind_text (codes "d ") line) _ w h (λ rest at h1.
    bind_sound (name_at rest) _ w h1 (λ read at1 h2.
    bind_sound (end_at read.1) (λ end. Some read.0) w h2 (λ end at2 h3.
    ended read.1 end at2 (λ none.
    let n = name_reads rest read.0 read.1 at1 in
    let same : read.0 ≡ w = cc in
    record {
      text = behind_some (codes "d ") line rest at ∙ ap (λ x. codes "d " ++ x) (n.0 ∙ ap (λ x. name_text read.0 ++ x) none ∙ append-nil (name_text read.0) ∙ ap name_text same);
      is_name = ap (λ x. is_printable_name x) (sym same) ∙ n.1;
    }))))

pub definition_at-text : (w : List ℕ) → is_printable_name w ≡ true → definition_at (definition_text w) ≡ Some w
unfolding definition_at
definition_at-text w h = bind_gives (name_at (name_text w)) _ (w, []) w (ap name_at (sym (append-nil (name_text w))) ∙ name_at-text w [] h refl) refl

some-same : {A : Type 0} (a b : A) → Some a ≡ Some b → a ≡ b
some-same a b e = cc

pub definition_text-same : (w v : List ℕ) → is_printable_name w ≡ true → is_printable_name v ≡ true → definition_text w ≡ definition_text v → w ≡ v
definition_text-same w v h g e = some-same w v (sym (definition_at-text w h) ∙ ap definition_at e ∙ definition_at-text v g)
