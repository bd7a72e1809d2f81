-- the pages of statuses as one list, by the numbers of transactions
use Rattle.std.specs.Prelude.{◌≡◌, ℕ, ◌*◌, ◌/◌, ◌%◌, ◌<◌, ◌==◌, ◌⊎◌, nat_lt, Bool, true, false, List, [], ◌∷◌, length, set, slice_index, slice_index_or, if◌then◌else◌}
use Rattle.disk_trait.specs.Told.{Told}
use Rattle.page_layout.specs.declared.format.TheConstants.{STATUS_ENTRIES}
use Rattle.page_layout.specs.PageContents.{IsStatusPage, IsUnstarted}
use Rattle.page_map.specs.Keeps.{Tells}
use Rattle.page_map.specs.PageMap.{PageMap, View, block_at}
use Rattle.snapshot_core.specs.declared.statuses.Status.{Status}
use Rattle.snapshot_core.specs.declared.statuses.Status.TheVariants.{Unused, Begun, Committed, RolledBack}
use Rattle.store_layout.specs.DiskLayout.{DiskLayout}

-- the relation of the statuses comes before the tables
abbrev pub status_relation : ℕ
status_relation = 0

-- how many transactions the pages have a status of
abbrev pub number_limit : DiskLayout → ℕ
number_limit layout = layout.sizes.status_blocks * STATUS_ENTRIES

-- a page names the statuses by numbers: 0 unused, 1 begun, 2 committed, 3 rolled back
abbrev pub status_named : ℕ → Status
status_named n =
    if n == 0 then Unused
    else (if n == 1 then Begun
    else (if n == 2 then Committed
    else RolledBack))

-- the status of a transaction; one past the end of the list is unused
abbrev pub status_of : List Status → ℕ → Status
status_of statuses t = slice_index_or statuses t Unused

-- the page of that block is a started page of statuses
abbrev pub IsStartedBlock : PageMap → ℕ → Type 0
IsStartedBlock pages block = (entries : List ℕ) × IsStatusPage (block_at pages status_relation block) entries

-- an entry of a page of statuses has this status; on a page that isn't started each one is unused
abbrev pub HasEntry : List ℕ → ℕ → Status → Type 0
HasEntry page entry status = (IsUnstarted page × (status ≡ Unused)) ⊎ ((entries : List ℕ) × IsStatusPage page entries × (status ≡ status_named (slice_index entries entry)))

-- the pages have these statuses: that of a transaction is the entry number mod 32640 of the block number div 32640
pub record HasStatuses (layout : DiskLayout) (pages : PageMap) (statuses : List Status) : Type 0 where
  pub counted : length statuses ≡ number_limit layout
  pub each : (t : ℕ) → t < number_limit layout → HasEntry (block_at pages status_relation (t / STATUS_ENTRIES)) (t % STATUS_ENTRIES) (status_of statuses t)

-- the fact holds of the statuses that the pages have, where the disk tells its contents
abbrev pub OfStatuses : {D : Type 0} → (D → Told) → View D → (List Status → Type 0) → Type 0
OfStatuses told store P = Tells told store → (statuses : List Status) → HasStatuses store.layout store.pages statuses → P statuses

-- the statuses, where each transaction of the list has that one now, and each other is as before
abbrev pub with_all : List Status → List ℕ → Status → List Status
with_all statuses [] status = statuses
with_all statuses (t ∷ list) status = with_all (set statuses t status) list status

-- a transaction that began before the opening and never ended was rolled back by the stop
abbrev pub after_stop : Bool → Status → Status
after_stop true Begun = RolledBack
after_stop true Unused = Unused
after_stop true Committed = Committed
after_stop true RolledBack = RolledBack
after_stop false status = status

-- how a transaction stands, where the first number of this opening is that one
abbrev pub shown_status : ℕ → List Status → ℕ → Status
shown_status first statuses t = after_stop (nat_lt t first) (status_of statuses t)
