-- which requests are legal, and what they leave of other sessions' copies
use Rattle.std.specs.Prelude.{◌≡◌, ◌≢◌, ℕ, true, false, List, [], ◌∷◌, ◌++◌, None, Some}
use Rattle.std.specs.FinMap as finite
use Rattle.block_model.specs.declared.request.Entry.{Entry}
use Rattle.block_model.specs.declared.request.Request.TheVariants as requests
use Rattle.block_model.specs.declared.request.Tag.{Tag}
use Rattle.block_model.specs.declared.row.Query.{Query}
use Rattle.block_model.specs.declared.row.RowId.{RowId}
use Rattle.block_model.specs.declared.value.Value.{Value}
use Rattle.block_model.specs.DatabaseState.{DatabaseState, OpenTransaction}
use Rattle.block_model.specs.RequestEffect.{IsLegalRequest, after_request, is_look_tag}
use Rattle.block_model.specs.SerialRun.{IsLegal, serial_run}
use Rattle.store_layout.specs.StatementRequests.{request_entry, tagged_entry}

-- one more request
abbrev pub OneMoreIsLegal : Type 0
OneMoreIsLegal = (s : DatabaseState) (entries : List Entry) (e : Entry) → IsLegal s entries → IsLegalRequest (serial_run s entries) e → IsLegal s (entries ++ e ∷ [])

abbrev pub OneMoreIsRun : Type 0
OneMoreIsRun = (s : DatabaseState) (entries : List Entry) (e : Entry) → serial_run s (entries ++ e ∷ []) ≡ after_request (serial_run s entries) e

-- a put, a look and a mark of a transaction that hasn't failed
abbrev pub PutIsLegal : Type 0
PutIsLegal = (s : DatabaseState) (n table : ℕ) (x : OpenTransaction) (values : List Value) (tag : Tag) → finite.get s.sessions n ≡ Some x → x.failed ≡ false
    → IsLegalRequest s (tagged_entry n table (requests.Put values) tag)

abbrev pub LookIsLegal : Type 0
LookIsLegal = (s : DatabaseState) (n table : ℕ) (x : OpenTransaction) (query : Query) (tag : Tag) → finite.get s.sessions n ≡ Some x → x.failed ≡ false → is_look_tag tag ≡ true
    → IsLegalRequest s (tagged_entry n table (requests.Look query) tag)

abbrev pub MarkIsLegal : Type 0
MarkIsLegal = (s : DatabaseState) (n table : ℕ) (x : OpenTransaction) (id : RowId) → finite.get s.sessions n ≡ Some x → x.failed ≡ false → finite.contains_key x.view id ≡ true
    → IsLegalRequest s (request_entry n table (requests.Mark id))

-- the end of one that is open, and a begin where none is
pub record EndsAreLegal (s : DatabaseState) (n table : ℕ) : Type 0 where
  pub commit : IsLegalRequest s (request_entry n table requests.Commit)
  pub rollback : IsLegalRequest s (request_entry n table requests.Rollback)

abbrev pub EndIsLegal : Type 0
EndIsLegal = (s : DatabaseState) (n table : ℕ) (x : OpenTransaction) → finite.get s.sessions n ≡ Some x → EndsAreLegal s n table

abbrev pub BeginIsLegal : Type 0
BeginIsLegal = (s : DatabaseState) (n table : ℕ) → finite.get s.sessions n ≡ None → IsLegalRequest s (request_entry n table requests.Begin)

-- a request of one session leaves the copies of the others
abbrev pub OthersCopiesStay : Type 0
OthersCopiesStay = (s : DatabaseState) (e : Entry) (m : ℕ) → m ≢ e.session → finite.get (after_request s e).sessions m ≡ finite.get s.sessions m
