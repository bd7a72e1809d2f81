-- the machine that waits before its first step, and its put
use Rattle.std.proofs.Common.{◌≡◌, ℕ, List, Option, None, Some, Result, sym, ap, subst, ◌∙◌}
use Rattle.std.specs.Prelude.{IfSome, IsSomeAnd}
use Rattle.std.proofs.lemmas.Option.{same_Some}
use Rattle.disk_trait.specs.Told.{Told}
use Rattle.block_model.specs.declared.row.Row.{Row}
use Rattle.block_model.specs.declared.value.Value.{Value}
use Rattle.snapshot_core.specs.declared.sessions.Open.{Open}
use Rattle.transactions.specs.Sessions.{next_row_of}
use Rattle.transactions.specs.TransactionsState.{OfOpen}
use Rattle.brin_insert.specs.declared.insert.Insert.{Insert}
use Rattle.brin_insert.specs.Inserts.{IsInsertFor}
use Rattle.session_parts.specs.declared.faults.Step.{Step}
use Rattle.session_parts.specs.declared.faults.StoreFault.{StoreFault}
use Rattle.session_parts.specs.declared.hand.Hand.{Hand}
use Rattle.session_parts.specs.declared.hand.Hand.TheVariants as hands
use Rattle.session_parts.specs.declared.parts.Parts.{Parts}
use Rattle.session_parts.specs.Stepping.{IsFit, IsShown}
use Rattle.session_inserts.specs.Promised.{unpromised}
use Rattle.session_inserts.specs.Settling.{SettlesSo}
use Rattle.session_inserts.specs.SparePut.{OfItsPut, left_behind}

-- it begins the row
abbrev pub Begins : Option Insert → Row → Type 0
Begins machine row = IfSome machine (λ insert. (insert.row ≡ row) × (insert.place ≡ None))

pub begins_nowhere : (machine : Option Insert) (row : Row) → Begins machine row → IfSome machine (λ insert. insert.place ≡ None)
begins_nowhere None row begins = tt
begins_nowhere (Some insert) row begins = begins.1

-- its row is that of the put
abbrev pub IsItsRow : Option Insert → (table : ℕ) → List Value → Type 0
IsItsRow machine table values = IfSome machine (λ insert. (insert.row.table ≡ table) × (insert.row.values ≡ values))

pub begins_row : (machine : Option Insert) (row : Row) → Begins machine row → IsItsRow machine row.table row.values
begins_row None row begins = tt
begins_row (Some insert) row begins = (ap (λ (r : Row). r.table) begins.0, ap (λ (r : Row). r.values) begins.0)

pub begins_id : (machine : Option Insert) (row : Row) (transaction : Option Open) → Begins machine row → ((o : Open) → transaction ≡ Some o → Some row.id ≡ next_row_of o)
    → IfSome machine (λ insert. (o : Open) → transaction ≡ Some o → next_row_of o ≡ Some insert.row.id)
begins_id None row transaction begins next = tt
begins_id (Some insert) row transaction begins next = λ o is. sym (next o is) ∙ ap (λ (r : Row). Some r.id) (sym begins.0)

-- the machine before its first step
pub record Waits {D : Type 0} (told : D → Told) (parts : Parts D) (n : ℕ) (insert : Insert) : Type 0 where
  pub made : IsInsertFor parts.pages.layout insert
  pub nowhere : insert.place ≡ None
  pub id : OfOpen parts.transactions n (λ o. next_row_of o ≡ Some insert.row.id)
  pub fit : IsFit told (unpromised parts) n (hands.Puts insert.row.table insert.row.values)
  pub shown : IsShown told (unpromised parts) n (hands.Puts insert.row.table insert.row.values)

pub waits : {D : Type 0} (told : D → Told) (parts : Parts D) (n : ℕ) (machine : Option Insert) (insert : Insert) → machine ≡ Some insert → IsSomeAnd machine (IsInsertFor parts.pages.layout)
    → IfSome machine (λ insert. insert.place ≡ None) → IfSome machine (λ insert. OfOpen parts.transactions n (λ o. next_row_of o ≡ Some insert.row.id)) → OfItsPut machine (λ hand. IsFit told (unpromised parts) n hand)
    → OfItsPut machine (λ hand. IsShown told (unpromised parts) n hand) → Waits told parts n insert
waits told parts n None insert is made nowhere id fit shown = absurd made
waits told parts n (Some it) insert is made nowhere id fit shown =
    subst (λ (m : Insert). Waits told parts n m) (same_Some it insert is) (record { made = made; nowhere = nowhere; id = id; fit = fit; shown = shown })

-- a step of the machine that is there
pub put_settles : {D : Type 0} (told : D → Told) (old new : Parts D) (n : ℕ) (machine : Option Insert) (insert : Insert) (left : Option Insert) (answer : Result Step StoreFault) → machine ≡ Some insert
    → SettlesSo told old new n (hands.Puts insert.row.table insert.row.values) (left_behind (hands.Puts insert.row.table insert.row.values) left answer) answer
    → OfItsPut machine (λ hand. SettlesSo told old new n hand (left_behind hand left answer) answer)
put_settles told old new n machine insert left answer is so = subst (λ (o : Option Insert). OfItsPut o (λ hand. SettlesSo told old new n hand (left_behind hand left answer) answer)) (sym is) so

-- its first step, as that of the put
pub of_its_row : (machine : Option Insert) (table : ℕ) (values : List Value) (P : Hand → Type 0) → IsItsRow machine table values → P (hands.Puts table values) → OfItsPut machine P
of_its_row None table values P row is = tt
of_its_row (Some insert) table values P row is =
    let same : hands.Puts table values ≡ hands.Puts insert.row.table insert.row.values = λ j. hands.Puts (sym row.0 j) (sym row.1 j) in
    subst P same is

pub row_settles : {D : Type 0} (told : D → Told) (old new : Parts D) (n : ℕ) (machine : Option Insert) (made : Insert → Type 0) (table : ℕ) (values : List Value) (left : Option Insert) (answer : Result Step StoreFault)
    → IsSomeAnd machine made → IsItsRow machine table values → OfItsPut machine (λ hand. SettlesSo told old new n hand (left_behind hand left answer) answer)
    → SettlesSo told old new n (hands.Puts table values) (left_behind (hands.Puts table values) left answer) answer
row_settles told old new n None made table values left answer there row so = absurd there
row_settles told old new n (Some insert) made table values left answer there row so =
    let same : hands.Puts insert.row.table insert.row.values ≡ hands.Puts table values = λ j. hands.Puts (row.0 j) (row.1 j) in
    subst (λ (h : Hand). SettlesSo told old new n h (left_behind h left answer) answer) same so
