-- Tables in which nothing was done yet.
use Rattle.std.specs.Prelude.{◌≡◌, ℕ, false, List, []}
use Rattle.stt_core.specs.Lambda.{Lambda}
use Rattle.mating_rules.specs.Noted.{IsRightIndex}
use Rattle.head_offers.specs.declared.offers.Offers.{Offers}
use Rattle.prover_state.specs.declared.offers.Offered.{Offered}
use Rattle.prover_state.specs.declared.tables.Basis.{Basis}
use Rattle.prover_state.specs.declared.tables.Tables.{Tables}

-- nothing is in the tables but a basis and what is offered
pub record AreEmpty (g : Basis) (given : Offers) (listed : Offered) (t : Tables) : Type 0 where
  pub basis : t.basis ≡ g
  pub steps : t.steps ≡ ([], [])
  pub solver : t.solver ≡ record { values = []; clauses = []; log = []; is_refuted = false }
  pub seen : t.seen ≡ []
  pub noted : t.noted.items ≡ []
  pub index : t.index ≡ record { noted = []; heads = [] }
  pub indexed : (terms : List Lambda) (atoms : List ℕ) → IsRightIndex terms atoms t.index
  pub universals : t.universals ≡ []
  pub terms : t.terms ≡ []
  pub chosen : t.chosen ≡ []
  pub described : t.described ≡ []
  pub walked : t.walked ≡ []
  pub offers : t.offers ≡ given
  pub bases : t.bases.items ≡ listed.bases.items
  pub names : t.names ≡ listed.names
  pub takers : t.takers ≡ []
  pub stems : t.stems.items ≡ []
  pub open_holes : t.open_holes ≡ []
  pub holes : t.holes ≡ []
  pub roots : t.roots ≡ []
  pub done : t.done ≡ 0
  pub moment : t.moment ≡ 0
