-- the id of the row that a transaction puts next
use Rattle.std.proofs.Common.{◌≡◌, ◌+◌, ◌-◌, ◌^◌, ◌<◌, Bool, true, false, Option, None, Some, refl, sym, ap, arith, if◌then◌else◌}
use Rattle.std.specs.Prelude.{IsSome, IsSomeAnd, ◌==◌}
use Rattle.std.proofs.lemmas.Bool.{false≢true}
use Rattle.std.proofs.lemmas.Option.{none-some, same_Some}
use Rattle.block_model.specs.declared.row.RowId.{RowId}
use Rattle.snapshot_core.specs.declared.sessions.Open.{Open}
use Rattle.transactions.specs.Sessions.{next_row_of}

-- the id of the next row, where there is one
id_is : (b : Bool) (next id : RowId) → (if b then None else Some next) ≡ Some id → id ≡ next
id_is true next id is = absurd (none-some id is)
id_is false next id is = sym (same_Some next id is)

pub next_id : (o : Open) (id : RowId) → next_row_of o ≡ Some id → id ≡ record { t = o.t; k = o.next_k }
next_id o id is = id_is (o.next_k == 2 ^ 32 - 1) (record { t = o.t; k = o.next_k }) id is

-- and another number is left behind it
pub number_next : (transaction : Option Open) → IsSome transaction → (id : RowId) → ((o : Open) → transaction ≡ Some o → Some id ≡ next_row_of o) → id.k + 1 < 4294967296
    → IsSomeAnd transaction (λ (o : Open). o.next_k + 1 < 4294967296)
number_next None is id next room = absurd (false≢true is)
number_next (Some o) is id next room =
    let same : id.k ≡ o.next_k = ap (λ (r : RowId). r.k) (next_id o id (sym (next o refl))) in
    omega (arith, same, room)
