-- What is offered to holes, by what occurs in terms.
use Rattle.std.specs.Prelude.{◌+◌, ◌||◌, Bool, List, length}
use Rattle.std.specs.List.{list_any}
use Rattle.stt_core.specs.Lambda.{Constant, Lambda}
use Rattle.stt_core.specs.Typing.{Scope}
use Rattle.mode_file.specs.declared.Mode.{Mode}
use Rattle.search_spec.specs.Heads.{HeadOffers}
use Rattle.search_spec.specs.Offers.{has_constant, is_name, is_over, is_selection, offers_unseen, answers_from}
use Rattle.head_offers.specs.declared.offers.Offers.{Offers}

abbrev pub the_offers : Offers → HeadOffers
the_offers offers = record { names = offers.names.items; bases = offers.bases.items; choices = offers.choices }

-- whether a constant that passes a test occurs in one of these terms
abbrev pub occurs_among : List Lambda → (Constant → Bool) → Bool
occurs_among terms test = list_any (has_constant test) terms

-- what is offered, where it is told which constants occur in the start
abbrev pub offered_where : Mode → Scope → ((Constant → Bool) → Bool) → HeadOffers
offered_where mode scope occurs = record {
  names = answers_from (λ k. offers_unseen mode || occurs (is_name k)) 0 (length scope.names);
  bases = answers_from (λ n. offers_unseen mode || occurs (is_over scope.names n)) 0 (scope.bases + 2);
  choices = offers_unseen mode || occurs is_selection;
}
