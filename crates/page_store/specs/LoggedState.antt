-- what pages with a log are seen as
use Rattle.std.specs.Prelude.{ℕ, Bool, List, Option, refl}
use Rattle.std.specs.Coded.{Coded, code_by, coded×, coded_bool, coded_list, coded_option, coded_ℕ}
use Rattle.block_model.specs.contracts.schema.Schema as schema_contract
use Rattle.block_model.specs.contracts.schema.Sizes as sizes_contract
use Rattle.store_layout.specs.DiskLayout.{DiskLayout}
use Rattle.disk_trait.specs.Told.{Told}
use Rattle.recovery.specs.Log.{Log}
use Rattle.buffer_pool.specs.PoolState.{PoolState, coded_pool}
use Rattle.wal_record.specs.Waiting.{Waiting}
use Rattle.page_map.specs.PageMap.{View}
use Rattle.recovery.specs.ShownPages.{shown_pages}

-- the disk and its layout, its log, the pages that are held, which pages the log begins anew, the changes that wait for the log,
-- and the count of the disk's faults that was kept when one came
pub record LoggedState (D : Type 0) : Type 0 where
  pub disk : D
  pub layout : DiskLayout
  pub log : Log
  pub pool : PoolState
  pub marks : List Bool
  pub waiting : Waiting
  pub failed : Option ℕ

-- the store that they are
abbrev pub store_of : {D : Type 0} → (D → Told) → LoggedState D → View D
store_of told s = record { disk = s.disk; layout = s.layout; pages = shown_pages s.layout s.pool (told s.disk).contents; failed = s.failed }

abbrev pub coded_layout : Coded DiskLayout
coded_layout = code_by _ (coded× schema_contract.the_row.coded sizes_contract.the_row.coded) (λ (d : DiskLayout). (d.schema, d.sizes)) (λ p. record { schema = p.0; sizes = p.1 }) (λ _. refl)

abbrev pub coded_log : Coded Log
coded_log = code_by (ℕ × (ℕ × ℕ)) (coded× coded_ℕ (coded× coded_ℕ coded_ℕ)) (λ (l : Log). (l.room, (l.byte, l.used))) (λ p. record { room = p.0; byte = p.1.0; used = p.1.1 }) (λ _. refl)

abbrev pub coded_waiting : Coded Waiting
coded_waiting = code_by (List ℕ × ℕ) (coded× (coded_list coded_ℕ) coded_ℕ) (λ (w : Waiting). (w.bytes, w.count)) (λ p. record { bytes = p.0; count = p.1 }) (λ _. refl)

abbrev pub coded_logged : {D : Type 0} → Coded D → Coded (LoggedState D)
coded_logged {D} code =
    code_by _ (coded× code (coded× coded_layout (coded× coded_log (coded× coded_pool (coded× (coded_list coded_bool) (coded× coded_waiting (coded_option coded_ℕ)))))))
    (λ (s : LoggedState D). (s.disk, (s.layout, (s.log, (s.pool, (s.marks, (s.waiting, s.failed)))))))
    (λ p. record { disk = p.0; layout = p.1.0; log = p.1.1.0; pool = p.1.1.1.0; marks = p.1.1.1.1.0; waiting = p.1.1.1.1.1.0; failed = p.1.1.1.1.1.1 }) (λ _. refl)
