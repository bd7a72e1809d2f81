-- Whether a row is in conflict, by its deleter and how that stands.
use Rattle.std.proofs.Common.{◌≡◌, ◌≢◌, ℕ, ◌==◌, Bool, false, not, ◌&&◌, List, sym, ap, ◌∙◌, ne_eqb}
use Rattle.std.specs.Prelude.{if◌then◌else◌}
use Rattle.page_layout.specs.RowBytes.{StoredRow}
use Rattle.snapshot_core.specs.declared.statuses.Status.{Status}
use Rattle.snapshot_core.specs.declared.statuses.Status.TheVariants as status
use Rattle.snapshot_core.specs.Marks.{holds}
use Rattle.tx_table.specs.Statuses.{shown_status}
use Rattle.transactions.specs.GivenStatuses.{given_status}
use Rattle.transactions.specs.StoredRows.{conflicts_with}

both_false : (a b c : Bool) → a ≡ false → b ≡ false → c ≡ (not a && (not b && c))
both_false a b c first second = ap (λ (x : Bool). not x && c) (sym second) ∙ ap (λ (x : Bool). not x && (not b && c)) (sym first)

-- a third one deleted it, which stands so
pub by_status : (first : ℕ) (stored : List Status) (own : ℕ) (row : StoredRow) (stands : Status) (result : Bool) → row.id.t ≢ own → row.deleter ≢ own → row.deleter ≢ 0
    → stands ≡ shown_status first stored row.deleter → result ≡ holds stands → result ≡ conflicts_with first stored own row
by_status first stored own row stands result apart other some is result_is =
    result_is ∙ ap holds (is ∙ sym (ap (λ (b : Bool). if b then status.Unused else shown_status first stored row.deleter) (ne_eqb row.deleter 0 some)))
    ∙ both_false (row.id.t == own) (row.deleter == own) (holds (given_status first stored row.deleter)) (ne_eqb row.id.t own apart) (ne_eqb row.deleter own other)
