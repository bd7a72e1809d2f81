-- the metapage counts one page more
use Rattle.std.proofs.Common.{◌≡◌, inl, inr, ℕ, ◌+◌, Bool, List, [], sym, ap, ◌∙◌, arith}
use Rattle.std.specs.Prelude.{◌==◌, ◌%◌, drop, nat_le, slice_index, slice_index_or, Option, None, if◌then◌else◌}
use Rattle.std.proofs.lemmas.Bool.{cases_eq, cases_lt, le-leb, lt-leb}
use Rattle.block_model.specs.declared.place.Spot.{Spot}
use Rattle.index_layout.specs.declared.format.TheConstants.{META, MAP_ENTRIES}
use Rattle.index_layout.specs.IndexPages.{Slot}
use Rattle.index_layout.specs.IndexReading.{is_regular, map_pages_of, number_at, slots_in, slots_of}
use Rattle.coverage.specs.IndexView.{map_page_of, next_map_page}
use Rattle.index_contents.specs.IndexContents.{contents_in, entry_in, entry_on, kind_at, pages_in, tuple_on}
use Rattle.index_contents.specs.MapLaws.{each_page}
use Rattle.index_contents.specs.PageLaws.{StayBeside}
use Rattle.index_steps.specs.MapChanges.{CountsBlock}
use Rattle.index_steps.specs.NextPages.{IsEmptyMap}
use Rattle.index_steps.proofs.EmptyMaps.{HasOneMap, no_entry_there}

-- a metapage has no tuples
no_slots : (page : List ℕ) → slice_index page 0 ≡ META → slots_of page ≡ []
unfolding slots_of
no_slots page is = ap (λ (k : ℕ). if is_regular k then slots_in page (number_at page 2 2) (drop 32 page) else []) is

no_tuple : (page : List ℕ) (slot : ℕ) → slice_index page 0 ≡ META → tuple_on page slot ≡ None
no_tuple page slot is = ap (λ (l : List Slot). slice_index_or l slot None) (no_slots page is)

module _ (limit : ℕ) (f g : ℕ → List ℕ) (stay : StayBeside 0 f g) (was : slice_index (f 0) 0 ≡ META) (is : slice_index (g 0) 0 ≡ META) (counts : map_pages_of (g 0) ≡ map_pages_of (f 0) + 1) where
  pages_counted : pages_in limit g ≡ record (pages_in limit f) { map_pages = next_map_page (pages_in limit f) }
  pages_counted =
      let kinds : (p : ℕ) → slice_index (g p) 0 ≡ slice_index (f p) 0 = each_page (λ (page : List ℕ). slice_index page 0) f g 0 stay (is ∙ sym was) in
      λ i. record {
        kind = λ p. kind_at p (kinds p i);
        map_pages = counts i;
        limit = limit;
      }

  module _ (none : (range : ℕ) → entry_on (f (map_pages_of (f 0) + 1)) range ≡ None) where
    same_page : (range : ℕ) → entry_on (g (map_page_of range)) range ≡ entry_on (f (map_page_of range)) range
    same_page range = ap (λ (p : List ℕ). entry_on p range) (stay (map_page_of range) (λ at. absurd (omega (arith, at))))

    abbrev where_true : ℕ → Bool → Option Spot
    where_true range b = if b then entry_on (f (map_page_of range)) range else None

    entries_stay : (range : ℕ) → entry_in g range ≡ entry_in f range
    entries_stay range =
        ap (λ (m : ℕ). if nat_le (map_page_of range) m then entry_on (g (map_page_of range)) range else None) counts
        ∙ ap (λ (e : Option Spot). if nat_le (map_page_of range) (map_pages_of (f 0) + 1) then e else None) (same_page range) ∙ here
      where
        here : where_true range (nat_le (map_page_of range) (map_pages_of (f 0) + 1)) ≡ where_true range (nat_le (map_page_of range) (map_pages_of (f 0)))
        here = elim (cases_lt (map_pages_of (f 0)) (map_page_of range)) [
          | inr within ↦ ap (where_true range) (le-leb (map_page_of range) (map_pages_of (f 0) + 1) (omega (arith, within)) ∙ sym (le-leb (map_page_of range) (map_pages_of (f 0)) within))
          | inl past ↦ elim (cases_eq (map_page_of range) (map_pages_of (f 0) + 1)) [
            | inl at ↦
                ap (where_true range) (le-leb (map_page_of range) (map_pages_of (f 0) + 1) (omega (arith, at)))
                ∙ ap (λ (b : ℕ). entry_on (f b) range) at ∙ none range
                ∙ sym (ap (where_true range) (lt-leb (map_page_of range) (map_pages_of (f 0)) past))
            | inr apart ↦ ap (where_true range) (lt-leb (map_page_of range) (map_pages_of (f 0) + 1) (omega (arith, past, apart)) ∙ sym (lt-leb (map_page_of range) (map_pages_of (f 0)) past))
          ]
        ]

    pub counts_block : CountsBlock (contents_in limit f) (contents_in limit g)
    counts_block = record {
      entries = entries_stay;
      bytes = λ x. each_page (λ (page : List ℕ). tuple_on page x.slot) f g 0 stay (no_tuple (g 0) x.slot is ∙ sym (no_tuple (f 0) x.slot was)) x.block;
      pages = pages_counted;
    }

-- a page behind the map without entries
pub no_entry_behind : HasOneMap → (f : ℕ → List ℕ) (block : ℕ) → block ≡ map_pages_of (f 0) + 1 → IsEmptyMap (f block) → (range : ℕ) → entry_on (f (map_pages_of (f 0) + 1)) range ≡ None
no_entry_behind one f block next empty range = ap (λ (b : ℕ). entry_on (f b) range) (sym next) ∙ no_entry_there one (f block) empty (range % MAP_ENTRIES)
