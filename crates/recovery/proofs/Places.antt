-- pages by their numbers, in a pool and on a disk
use Rattle.std.proofs.Common.{◌≡◌, ◌≢◌, ℕ, ◌+◌, ◌≤◌, List, ◌++◌, length, take, drop, refl, sym, ◌∙◌, ap, subst, arith, append_assoc}
use Rattle.std.specs.Prelude.{None, Some, Option, unwrap_or}
use Rattle.std.specs.Option.{option_map}
use Rattle.std.proofs.lemmas.List.{take_at, drop_at, length-take-le}
use Rattle.block_model.specs.declared.limits.TheConstants.{PAGE_SIZE}
use Rattle.block_model.specs.declared.place.Place.{Place}
use Rattle.store_layout.specs.DiskLayout.{DiskLayout, IsPlace, disk_size, page_offset}
use Rattle.store_layout.specs.PagesFillDisk.{PagesFillDisk}
use Rattle.byte_fields.specs.Fields.{field_at}
use Rattle.disk_trait.specs.Spliced.{spliced}
use Rattle.disk_trait.specs.Torn.{Torn}
use Rattle.disk_trait.specs.RangeLaws.{torn_apart}
use Rattle.buffer_pool.specs.PoolState.{HeldPage, PoolState, held_at}
use Rattle.buffer_pool.specs.WritesPage.{LieWithin, place_of}
use Rattle.recovery.specs.Opens.{disk_page}
use Rattle.recovery.specs.Holds.{AreDurable}
use Rattle.recovery.specs.PageNumbers.{page_number}
use Rattle.recovery.specs.ShownLaws.{offset_of}
use Rattle.recovery.specs.ShownPages.{content_at, shown_page}
use Rattle.recovery.specs.PooledPages.{HoldsDurablePages}

-- a page begins where its number says
pub offset_of_number : (layout : DiskLayout) (place : Place) → page_offset layout place ≡ place_of 0 (page_number layout place)
offset_of_number layout place = omega (arith, offset_of layout place)

pub pooled_held : (layout : DiskLayout) (contents : List ℕ) (pool : PoolState) (place : Place) (held : HeldPage) → held_at pool (page_number layout place) ≡ Some held → shown_page layout pool contents place ≡ held.content
pooled_held layout contents pool place held got = ap (λ (o : Option HeldPage). unwrap_or (option_map (λ (h : HeldPage). h.content) o) (disk_page layout contents place)) got

pub pooled_absent : (layout : DiskLayout) (contents : List ℕ) (pool : PoolState) (place : Place) → held_at pool (page_number layout place) ≡ None → shown_page layout pool contents place ≡ disk_page layout contents place
pooled_absent layout contents pool place got = ap (λ (o : Option HeldPage). unwrap_or (option_map (λ (h : HeldPage). h.content) o) (disk_page layout contents place)) got

-- the same is held of the page, and the same stands on the disk
pub pooled_same : (layout : DiskLayout) (contents others : List ℕ) (pool new : PoolState) (place : Place) → held_at new (page_number layout place) ≡ held_at pool (page_number layout place)
    → disk_page layout others place ≡ disk_page layout contents place → shown_page layout new others place ≡ shown_page layout pool contents place
pooled_same layout contents others pool new place held disk =
    ap (λ (o : Option HeldPage). unwrap_or (option_map (λ (h : HeldPage). h.content) o) (disk_page layout others place)) held ∙ ap (unwrap_or (content_at pool (page_number layout place))) disk

-- what was put there stands there
spliced_field : (old : List ℕ) (at : ℕ) (bytes : List ℕ) → at ≤ length old → field_at (spliced old at bytes) at (length bytes) ≡ bytes
spliced_field old at bytes within =
    ap (λ (l : List ℕ). take (length bytes) (drop at l)) (append_assoc (take at old) bytes (drop (at + length bytes) old))
    ∙ ap (take (length bytes)) (drop_at (take at old) (bytes ++ drop (at + length bytes) old) at (length-take-le at old within))
    ∙ take_at bytes (drop (at + length bytes) old) (length bytes) refl

pub written_page : (layout : DiskLayout) → PagesFillDisk layout → (place : Place) (old new content : List ℕ) → IsPlace layout place → disk_size layout ≤ length old → length content ≡ PAGE_SIZE
    → new ≡ spliced old (place_of 0 (page_number layout place)) content → disk_page layout new place ≡ content
unfolding disk_page
written_page layout fill place old new content is size whole put =
    let at = place_of 0 (page_number layout place) in
    let begins : page_offset layout place ≡ at = offset_of_number layout place in
    ap (λ (k : ℕ). field_at new k PAGE_SIZE) begins ∙ ap (λ (n : ℕ). field_at new at n) (sym whole) ∙ ap (λ (l : List ℕ). field_at l at (length content)) put
    ∙ spliced_field old at content (omega (arith, begins, fill.ends place is, size))

-- a write of one page leaves the others
pub other_page : (layout : DiskLayout) → PagesFillDisk layout → (place written : Place) (old new : List ℕ) → IsPlace layout place → IsPlace layout written → place ≢ written
    → Torn (place_of 0 (page_number layout written)) PAGE_SIZE old new → disk_page layout new place ≡ disk_page layout old place
unfolding disk_page
other_page layout fill place written old new is isw other torn =
    torn_apart (page_offset layout place) PAGE_SIZE (page_offset layout written) PAGE_SIZE old new (fill.disjoint place written is isw other)
    (subst (λ (k : ℕ). Torn k PAGE_SIZE old new) (sym (offset_of_number layout written)) torn)

-- pages that are held lie on the disk
pub lie_on_disk : (layout : DiskLayout) → PagesFillDisk layout → (pool : PoolState) (size : ℕ) → HoldsDurablePages layout pool → size ≡ disk_size layout → LieWithin pool 0 size
lie_on_disk layout fill pool size held is number page got =
    let h = (held number page got).0 in
    omega (arith, fill.ends h.place h.is, offset_of_number layout h.place, ap (place_of 0) h.number, is)

pub durable_pages : (layout : DiskLayout) (pool : PoolState) → HoldsDurablePages layout pool → AreDurable pool
durable_pages layout pool held number page got = (held number page got).1

-- what was read where a page begins is the page
pub read_there : (layout : DiskLayout) (place : Place) (contents page : List ℕ) (at : ℕ) → at ≡ page_offset layout place → page ≡ field_at contents at PAGE_SIZE → page ≡ disk_page layout contents place
unfolding disk_page
read_there layout place contents page at begins read = read ∙ ap (λ (k : ℕ). field_at contents k PAGE_SIZE) begins
