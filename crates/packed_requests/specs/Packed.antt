-- what packed entries are seen as
use Rattle.std.specs.Prelude.{ℕ, List, refl}
use Rattle.std.specs.Coded.{Coded, code_by, coded×, coded_list, coded_ℕ}
use Rattle.block_model.specs.declared.request.Entry.{Entry}
use Rattle.block_model.specs.contracts.request.Entry as entry_contract

-- the entries in order, and how many more there is room for
pub record Packed : Type 0 where
  pub entries : List Entry
  pub room : ℕ

abbrev pub coded_packed : Coded Packed
coded_packed =
    code_by (List Entry × ℕ) (coded× (coded_list entry_contract.the_row.coded) coded_ℕ) (λ p. (p.entries, p.room))
    (λ p. record { entries = p.0; room = p.1 }) (λ _. refl)
