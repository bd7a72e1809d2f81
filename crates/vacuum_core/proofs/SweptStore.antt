-- what a sweep leaves of a store, by the calls that it makes
use Rattle.std.proofs.Common.{◌≡◌, ℕ, ◌<◌, true, List, [], length, refl, sym, ap, subst, ◌∙◌}
use Rattle.std.specs.Prelude.{◌↔◌, slice_index}
use Rattle.std.proofs.lemmas.Bool.{false≢true}
use Rattle.block_model.specs.declared.place.Place.{Place}
use Rattle.disk_trait.specs.Told.{Told}
use Rattle.page_map.specs.Keeps.{Keeps, Tells, keeps_on}
use Rattle.page_map.specs.PageMap.{PageMap, View, block_at, page_at}
use Rattle.index_contents.specs.PageOrder.{kind_of}
use Rattle.coverage.specs.Counts.{IsCountOf}
use Rattle.index_layout.specs.IndexPages.{IsRegular}
use Rattle.index_layout.specs.IndexReading.{is_regular, slots_of}
use Rattle.index_layout.specs.IndexWrites.{CanDrop, are_ascending, dropped, trimmed}
use Rattle.index_contents.specs.Calls.{leaves_then}
use Rattle.index_contents.specs.IndexChanges.{LeavesOtherPages}
use Rattle.index_contents.specs.IndexContents.{IndexContents, contents, index_page, relation_of}
use Rattle.index_contents.specs.KeepsOrder.{KeepsOrder}
use Rattle.index_contents.specs.OrderedCalls.{keeps_by_drop}
use Rattle.vacuum_core.specs.SweptPages.{IsListed, IsUnnamedAt, IsUnnamedOn, SweepsPage}
use Rattle.vacuum_core.proofs.Counting.{counts_alike}
use Rattle.vacuum_core.proofs.Onward.{contents_same, tells_after, tells_before}
use Rattle.vacuum_core.proofs.SlotBytes.{listed_below, some_listed}
use Rattle.vacuum_core.proofs.SweptBytes.{HasOneList, Trims, kind_is, some_slots, spot_at, sweeps_nothing, sweeps_there, unnamed_on}

-- the place of the page
abbrev pub place_of : (relation block : ℕ) → Place
place_of relation block = record { relation = relation; block = block }

module _ {D : Type 0} (told : D → Told) (index block : ℕ) (v0 v1 v2 : View D) (first : Keeps told v0 v1) (second : Keeps told v1 v2) (page slots : List ℕ)
    (read : Tells told v0 → page ≡ index_page v0.layout v0.pages index block)
    (listed : Tells told v1 → (n : ℕ) → IsListed slots n ↔ IsUnnamedOn (contents v1.layout v1.pages index) page (spot_at block n)) where
  both : Keeps told v0 v2
  both = keeps_on told v0 v1 v2 first second

  listed_there : Tells told v0 → (n : ℕ) → IsListed slots n ↔ IsUnnamedOn (contents v0.layout v0.pages index) (index_page v0.layout v0.pages index block) (spot_at block n)
  listed_there tells n =
      subst (λ (p : List ℕ). IsListed slots n ↔ IsUnnamedOn (contents v0.layout v0.pages index) p (spot_at block n)) (read tells)
      (subst (λ (c : IndexContents). IsListed slots n ↔ IsUnnamedOn c page (spot_at block n)) (contents_same told v0 v1 first index tells) (listed (tells_after told v0 v1 first tells) n))

  -- so many are unnamed
  pub sweep_counts : (count : ℕ) → (Tells told v1 → IsCountOf (λ k. IsUnnamedOn (contents v1.layout v1.pages index) page (spot_at block k)) count) → Tells told v0 → IsCountOf (λ k. IsUnnamedAt (contents v0.layout v0.pages index) (spot_at block k)) count
  sweep_counts count counted tells =
      counts_alike (λ (k : ℕ). IsUnnamedOn (contents v0.layout v0.pages index) page (spot_at block k)) (λ (k : ℕ). IsUnnamedAt (contents v0.layout v0.pages index) (spot_at block k)) count
      (λ k. (unnamed_on told index block k v0 page (read tells)).0) (λ k. (unnamed_on told index block k v0 page (read tells)).1)
      (subst (λ (c : IndexContents). IsCountOf (λ k. IsUnnamedOn c page (spot_at block k)) count) (contents_same told v0 v1 first index tells) (counted (tells_after told v0 v1 first tells)))

  -- none is, and nothing changes
  pub sweep_of_none : slots ≡ [] → Tells told v0 → SweepsPage (contents v0.layout v0.pages index) (contents v0.layout v2.pages index) block
  sweep_of_none none tells =
      subst (λ (p : PageMap). SweepsPage (contents v0.layout v0.pages index) (contents v0.layout p index) block) (sym (both.pages tells))
      (sweeps_nothing (contents v0.layout v0.pages index) block (λ n unnamed.
      subst (λ (l : List ℕ). IsListed l n) none ((listed_there tells n).1 ((unnamed_on told index block n v0 (index_page v0.layout v0.pages index block) refl).1 unnamed))))

  module _ (relation : ℕ) (at : relation ≡ relation_of v0.layout index) (ascending : are_ascending 0 (length (slots_of page)) slots ≡ true) (some : slots ≡ [] → ⊥) where
    same_page : Tells told v0 → page_at v2.pages (place_of relation block) ≡ page
    same_page tells = ap (λ (p : PageMap). block_at p relation block) (both.pages tells) ∙ ap (λ (r : ℕ). block_at v0.pages r block) at ∙ sym (read tells)

    regular : is_regular (slice_index page 0) ≡ true
    regular = let one = some_listed (length (slots_of page)) slots ascending some in some_slots page one.0 (listed_below 0 (length (slots_of page)) one.0 slots ascending one.1)

    pub sweep_can : Tells told v2 → CanDrop (page_at v2.pages (place_of relation block)) slots
    sweep_can tells = subst (λ (p : List ℕ). CanDrop p slots) (sym (same_page (tells_before told v0 v2 both tells))) (regular, ascending)

    -- exactly these go
    pub sweep_done : (v3 : View D) → HasOneList → Trims → LeavesOtherPages told (place_of relation block) v2 v3
        → (Tells told v2 → IsRegular (slice_index (page_at v2.pages (place_of relation block)) 0) (trimmed (dropped (slots_of (page_at v2.pages (place_of relation block))) slots)) (page_at v3.pages (place_of relation block)))
        → Tells told v0 → SweepsPage (contents v0.layout v0.pages index) (contents v0.layout v3.pages index) block
    sweep_done v3 one trims leaves put tells =
        sweeps_there told index block v0 v3 slots
        (subst (λ (r : ℕ). LeavesOtherPages told (place_of r block) v0 v3) at (leaves_then told (place_of relation block) v0 v2 v3 both leaves)) tells
        (subst (λ (p : List ℕ). is_regular (slice_index p 0) ≡ true) (read tells) regular)
        (subst (λ (r : ℕ). IsRegular (slice_index (index_page v0.layout v0.pages index block) 0) (trimmed (dropped (slots_of (index_page v0.layout v0.pages index block)) slots)) (block_at v3.pages r block)) at
        (subst (λ (p : List ℕ). IsRegular (slice_index p 0) (trimmed (dropped (slots_of p) slots)) (block_at v3.pages relation block)) (same_page tells ∙ read tells) (put (tells_after told v0 v2 both tells))))
        one trims (listed_there tells)

    -- the page stays one of tuples
    pub sweep_order : (v3 : View D) → block < v0.layout.sizes.index_blocks → LeavesOtherPages told (place_of relation block) v2 v3
        → (Tells told v2 → IsRegular (slice_index (page_at v2.pages (place_of relation block)) 0) (trimmed (dropped (slots_of (page_at v2.pages (place_of relation block))) slots)) (page_at v3.pages (place_of relation block)))
        → KeepsOrder told index v0 v3
    sweep_order v3 low leaves put =
        keeps_by_drop told index block v0 v3 (subst (λ (r : ℕ). LeavesOtherPages told (place_of r block) v0 v3) at (leaves_then told (place_of relation block) v0 v2 v3 both leaves)) low
        (λ tells. subst (λ (r : ℕ). kind_of (block_at v3.pages r block) ≡ kind_of (index_page v0.layout v0.pages index block)) at
        (kind_is (slice_index (page_at v2.pages (place_of relation block)) 0) (trimmed (dropped (slots_of (page_at v2.pages (place_of relation block))) slots)) (page_at v3.pages (place_of relation block)) (put (tells_after told v0 v2 both tells))
        ∙ ap kind_of (same_page tells ∙ read tells)))
        (λ tells none. absurd (false≢true (sym none ∙ subst (λ (p : List ℕ). is_regular (slice_index p 0) ≡ true) (read tells) regular)))
