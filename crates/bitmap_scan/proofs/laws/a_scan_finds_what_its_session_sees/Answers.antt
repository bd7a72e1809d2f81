use Rattle.std.proofs.Common.{◌≡◌, sym, subst}
use Rattle.std.specs.Prelude.{IsTrue, Some, false}
use Rattle.block_model.specs.declared.row.Row.{Row}
use Rattle.coverage.specs.Machines.{table_state, task_turned}
use Rattle.coverage.specs.Table.{Marks, Resting, Scans, TableScan}
use Rattle.coverage.specs.RowOrder.{IsAmong}
use Rattle.coverage.specs.TableSteps.{Scanned}
use Rattle.coverage.proofs.Views.{pick_same}
use Rattle.bitmap_scan.proofs.Stepping.{onward_turned}
use Rattle.bitmap_scan.proofs.laws.a_scan_finds_what_its_session_sees.Goals as goal

pub returns-clause-found : goal.returns-clause-found
returns-clause-found c = λ s shown u account after point b k kept (goes, read) nothing selects sees.
    let w = table_state shown u in
    let v = table_state shown (task_turned s (Scans goes.done) u) in
    let P : TableScan → Type 0 = λ scan. (r : Row) × (shown.row b k ≡ Some r) × (IsTrue (scan.matches r) → IsTrue (scan.found b k)) in
    subst P (sym goes.same)
    (c.table_scans_miss_nothing.ensures.replies s b k w v goes.done kept goes.does.does (pick_same s (Scans goes.done) (u.task s)) (goes.onward Resting (Scanned after read nothing))
    (subst (λ (scan : TableScan). scan.explains ≡ false) goes.same selects) (subst (λ (scan : TableScan). IsTrue (scan.sees b k)) goes.same sees))

pub returns-clause-only : goal.returns-clause-only
returns-clause-only c = λ s shown u account after point b k kept (goes, read) found.
    let w = table_state shown u in
    let v = table_state shown (task_turned s (Scans goes.done) u) in
    let P : TableScan → Type 0 = λ scan. (r : Row) × (shown.row b k ≡ Some r) × IsTrue (scan.sees b k) × IsTrue (scan.matches r) in
    subst P (sym goes.same)
    (c.table_scans_miss_nothing.ensures.finds_only v s b k goes.done (c.table_stays_covered.ensures.between s w v kept goes.does.does) (pick_same s (Scans goes.done) (u.task s))
    (subst (λ (scan : TableScan). IsTrue (scan.found b k)) goes.same found))

pub returns-clause-to_mark : goal.returns-clause-to_mark
returns-clause-to_mark c = λ s shown u account after marking ids point b k kept (goes, read) onward sees.
    let w = table_state shown u in
    let v = table_state shown (task_turned s (Scans goes.done) u) in
    let P : TableScan → Type 0 = λ scan. (r : Row) × (shown.row b k ≡ Some r) × (IsTrue (scan.matches r) → IsAmong ids r.id) in
    subst P (sym goes.same)
    (c.table_scans_miss_nothing.ensures.to_mark s b k w v goes.done marking ids kept goes.does.does (pick_same s (Scans goes.done) (u.task s))
    (goes.onward (Marks marking ids) (onward_turned shown u s (Scans goes.done) after (Marks marking ids) onward)) (subst (λ (scan : TableScan). IsTrue (scan.sees b k)) goes.same sees))
