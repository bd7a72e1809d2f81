-- what the journal is seen as
use Rattle.std.specs.Prelude.{ℕ, List, refl}
use Rattle.std.specs.Coded.{Coded, code_by, coded×, coded_list, coded_ℕ}
use Rattle.block_model.specs.declared.request.Entry.{Entry}
use Rattle.block_model.specs.contracts.request.Entry as entry_contract

-- the requests so far, in order, and how many more are promised to sessions, so that what they have begun can end without taking memory
pub record JournalState : Type 0 where
  pub entries : List Entry
  pub promised : ℕ

abbrev pub coded_journal : Coded JournalState
coded_journal =
    code_by (List Entry × ℕ) (coded× (coded_list entry_contract.the_row.coded) coded_ℕ) (λ j. (j.entries, j.promised))
    (λ p. record { entries = p.0; promised = p.1 }) (λ _. refl)
