-- What a table's indexes rest on: at an opening, after a stop, and in a new table.
use Rattle.std.proofs.Common.{◌≡◌, ℕ, ◌<◌, None, sym, ◌∙◌, ap, subst, rules}
use Rattle.std.proofs.lemmas.Option.{same_Some, none-some}
use Rattle.std.proofs.lemmas.Bool.{false≢true}
use Rattle.std.proofs.Math.Nat.{lt_of_lt_of_le}
use Rattle.coverage.specs.IndexView.{Progress, IsBuilding}
use Rattle.coverage.specs.Statements.{building_of}
use Rattle.coverage.specs.IsCovered.{IsAtRest, IsIndexKept}
use Rattle.coverage.specs.Table.{TableScan, Task, Resting, Scans, TableState, seen_by, index_state, index_view_at}
use Rattle.coverage.specs.TableCovered.{IsMaintenance, IsHeldForMaintenance, IsTableCovered, IsInTable, IsTableKept, IsTableAtRest, IsNewTable, TableStops}
use Rattle.coverage.proofs.Covered.{kept_covered}
use Rattle.coverage.proofs.Opening.{rest_kept, stopped_kept}
use Rattle.coverage.proofs.PagesOrdered.{order_new}
use Rattle.coverage.proofs.ScanComes.{marks_differ}

-- who rests has no scan
abbrev IsResting : Task → Type 0
IsResting Resting = Unit
IsResting task = ⊥

resting_scan : (scan : TableScan) → Resting ≡ Scans scan → ⊥
resting_scan scan e = subst IsResting e tt

-- nobody maintains, and nobody holds the summarise lock
free_lock : (w : TableState) → w.summarise_lock ≡ None → ((s : ℕ) → w.task s ≡ Resting) → IsHeldForMaintenance w
free_lock w free resting s = ((λ held. absurd (none-some _ (sym free ∙ held))), λ maintains. absurd (subst IsMaintenance (resting s) maintains))

pub table_covered : (w : TableState) → IsTableKept w → IsTableCovered w
table_covered w kept = record {
  indexes = λ i below. kept_covered (index_state i w) (kept.indexes i below);
  one_builder =
      λ i j s n range m p q below below' is other.
      same_Some _ _ (sym ((kept.indexes i below).sound.builder_holds s range p is) ∙ (kept.indexes j below').sound.builder_holds n m q other);
}

pub table_opened : (w : TableState) → IsTableCovered w → IsTableAtRest w → IsTableKept w
table_opened w covered rest = record {
  indexes = λ i below. rest_kept (index_state i w) (covered.indexes i below) (rest.rest i below) (rest.ranged i below) rest.rows_below (rest.ordered i below) (rest.lawful i below);
  summarise_lock = free_lock w rest.free rest.resting;
  rows_below = rest.rows_below;
  scans = λ s scan is. absurd (resting_scan scan (sym (rest.resting s) ∙ is));
  exact = λ s scan is. absurd (resting_scan scan (sym (rest.resting s) ∙ is));
  finds = λ s scan is. absurd (resting_scan scan (sym (rest.resting s) ∙ is));
  marks = λ s scan ids is. absurd (marks_differ scan ids (sym (rest.resting s) ∙ is));
  inside = λ s. subst (IsInTable w) (sym (rest.resting s)) tt;
}

pub table_stopped : (w v : TableState) → IsTableKept w → TableStops w v → IsTableKept v
table_stopped w v kept stops = record {
  indexes =
      λ i below.
      let inside = subst (λ n. i < n) stops.indexes below in stopped_kept (index_state i w) (index_state i v) (kept.indexes i inside) (stops.stops i inside);
  summarise_lock = free_lock v stops.free stops.resting;
  rows_below = λ b k r there. lt_of_lt_of_le (kept.rows_below b k r (sym (stops.row b k) ∙ there)) stops.blocks;
  scans = λ s scan is. absurd (resting_scan scan (sym (stops.resting s) ∙ is));
  exact = λ s scan is. absurd (resting_scan scan (sym (stops.resting s) ∙ is));
  finds = λ s scan is. absurd (resting_scan scan (sym (stops.resting s) ∙ is));
  marks = λ s scan ids is. absurd (marks_differ scan ids (sym (stops.resting s) ∙ is));
  inside = λ s. subst (IsInTable v) (sym (stops.resting s)) tt;
}

module _ (w : TableState) (new : IsNewTable w) (i : ℕ) (below : i < w.indexes) where
  new_rest : IsAtRest (index_state i w)
  new_rest = record {
    idle = λ s. ap (seen_by i) (new.resting s);
    unlocked = new.lock i;
    free = new.free;
    unnamed_tuples = λ x is. absurd (false≢true (sym (new.unnamed i x) ∙ is));
  }

  nobody_builds : (s range : ℕ) (p : Progress) → IsBuilding (index_view_at i w) s range p → ⊥
  nobody_builds s range p is = none-some _ (sym (ap (λ t. building_of (seen_by i t)) (new.resting s)) ∙ is)

  new_index_kept : IsIndexKept (index_state i w)
  new_index_kept = rest_kept (index_state i w)
      (search (rules, nobody_builds))
      new_rest (new.ranged i below) (λ b k r is. absurd (none-some _ (sym (new.row b k) ∙ is)))
      (order_new (index_view_at i w) (new.pages i below) (new.tuple i) (new.entry i)) (new.lawful i below)

pub new_table_kept : (w : TableState) → IsNewTable w → IsTableKept w
new_table_kept w new = record {
  indexes = λ i below. new_index_kept w new i below;
  summarise_lock = free_lock w new.free new.resting;
  rows_below = λ b k r is. absurd (none-some _ (sym (new.row b k) ∙ is));
  scans = λ s scan is. absurd (resting_scan scan (sym (new.resting s) ∙ is));
  exact = λ s scan is. absurd (resting_scan scan (sym (new.resting s) ∙ is));
  finds = λ s scan is. absurd (resting_scan scan (sym (new.resting s) ∙ is));
  marks = λ s scan ids is. absurd (marks_differ scan ids (sym (new.resting s) ∙ is));
  inside = λ s. subst (IsInTable w) (sym (new.resting s)) tt;
}
