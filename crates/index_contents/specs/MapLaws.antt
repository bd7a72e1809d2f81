-- what a change of an entry makes of what the index has
use Rattle.std.specs.Prelude.{◌≡◌, ◌≢◌, ℕ, ◌%◌, ◌==◌, nat_le, Bool, true, List, [], drop, slice_index, slice_index_or, Option, None, if◌then◌else◌}
use Rattle.std.proofs.Common.{inl, inr, sym, ap, ◌∙◌, arith}
use Rattle.std.proofs.lemmas.Bool.{cases_eq}
use Rattle.block_model.specs.declared.place.Spot.{Spot}
use Rattle.index_layout.specs.declared.format.TheConstants.{MAP, MAP_ENTRIES}
use Rattle.index_layout.specs.IndexPages.{IsMap, Slot, map_bytes}
use Rattle.index_layout.specs.IndexReading.{entries_of, is_regular, map_pages_of, number_at, slots_in, slots_of}
use Rattle.coverage.specs.IndexView.{map_page_of}
use Rattle.index_contents.specs.IndexContents.{contents_in, entry_in, entry_on, kind_at, pages_in, tuple_on}
use Rattle.index_contents.specs.IndexChanges.{SetsEntry}
use Rattle.index_contents.specs.PageLaws.{StayBeside}

-- a page of the map is of its kind
pub is_of_map : (entries : List (Option Spot)) (page : List ℕ) → IsMap entries page → slice_index page 0 ≡ MAP
unfolding map_bytes
is_of_map entries page is = ap (λ (p : List ℕ). slice_index p 0) is.bytes

-- and has no tuples
pub no_slots : (page : List ℕ) → slice_index page 0 ≡ MAP → slots_of page ≡ []
unfolding slots_of
no_slots page is = ap (λ (k : ℕ). if is_regular k then slots_in page (number_at page 2 2) (drop 32 page) else []) is

pub no_tuple : (page : List ℕ) (slot : ℕ) → slice_index page 0 ≡ MAP → tuple_on page slot ≡ None
no_tuple page slot is = ap (λ (l : List Slot). slice_index_or l slot None) (no_slots page is)

-- a fact of each page, where it holds of the one of a block
pub each_page : {A : Type 0} (of : List ℕ → A) (f g : ℕ → List ℕ) (block : ℕ) → StayBeside block f g → of (g block) ≡ of (f block) → (other : ℕ) → of (g other) ≡ of (f other)
each_page of f g block stay here other = elim (cases_eq other block) [
  | inl at ↦ ap (λ (b : ℕ). of (g b)) at ∙ here ∙ sym (ap (λ (b : ℕ). of (f b)) at)
  | inr apart ↦ ap of (stay other apart)
]

-- one page of the map gives way to another
pub map_page_stays : (limit : ℕ) (f g : ℕ → List ℕ) (block : ℕ) → StayBeside block f g → map_pages_of (g 0) ≡ map_pages_of (f 0) → slice_index (f block) 0 ≡ MAP → slice_index (g block) 0 ≡ MAP → pages_in limit g ≡ pages_in limit f
map_page_stays limit f g block stay counts before after =
    let kinds : (p : ℕ) → slice_index (g p) 0 ≡ slice_index (f p) 0 = each_page (λ (page : List ℕ). slice_index page 0) f g block stay (after ∙ sym before) in
    λ i. record {
      kind = λ p. kind_at p (kinds p i);
      map_pages = counts i;
      limit = limit;
    }

-- the entry of another range, on the same page of the map or another
pub other_entry : (f g : ℕ → List ℕ) (range other : ℕ) → StayBeside (map_page_of range) f g → ((n : ℕ) → n ≢ range % MAP_ENTRIES → slice_index_or (entries_of (g (map_page_of range))) n None ≡ slice_index_or (entries_of (f (map_page_of range))) n None) → other ≢ range → entry_on (g (map_page_of other)) other ≡ entry_on (f (map_page_of other)) other
other_entry f g range other stay others apart = elim (cases_eq (map_page_of other) (map_page_of range)) [
  | inl at ↦
      let differs : other % MAP_ENTRIES ≢ range % MAP_ENTRIES = λ same. apart (omega (arith, at, same)) in
      ap (λ (b : ℕ). entry_on (g b) other) at ∙ others (other % MAP_ENTRIES) differs ∙ sym (ap (λ (b : ℕ). entry_on (f b) other) at)
  | inr beside ↦ ap (λ (p : List ℕ). entry_on p other) (stay (map_page_of other) beside)
]

-- an entry gives way on its page of the map
pub sets_entry : (limit : ℕ) (f g : ℕ → List ℕ) (range : ℕ) (expect entry : Option Spot) → StayBeside (map_page_of range) f g → nat_le (map_page_of range) (map_pages_of (f 0)) ≡ true → slice_index (f (map_page_of range)) 0 ≡ MAP → slice_index (g (map_page_of range)) 0 ≡ MAP
    → entry_in f range ≡ expect → entry_on (g (map_page_of range)) range ≡ entry
    → ((n : ℕ) → n ≢ range % MAP_ENTRIES → slice_index_or (entries_of (g (map_page_of range))) n None ≡ slice_index_or (entries_of (f (map_page_of range))) n None) → SetsEntry (contents_in limit f) (contents_in limit g) range expect entry
sets_entry limit f g range expect entry stay counted before after was now others =
    let apart : 0 ≢ map_page_of range = λ same. absurd (omega (arith, same)) in
    let counts : map_pages_of (g 0) ≡ map_pages_of (f 0) = ap map_pages_of (stay 0 apart) in
    let at_count : (m : ℕ) → entry_in g m ≡ (if nat_le (map_page_of m) (map_pages_of (f 0)) then entry_on (g (map_page_of m)) m else None) = λ m. ap (λ (n : ℕ). if nat_le (map_page_of m) n then entry_on (g (map_page_of m)) m else None) counts in
    record {
      entry = record {
        was = was;
        now = at_count range ∙ ap (λ (b : Bool). if b then entry_on (g (map_page_of range)) range else None) counted ∙ now;
        others = λ m. elim (cases_eq m range) [
          | inl same ↦ inl same
          | inr other ↦ inr (at_count m ∙ ap (λ (e : Option Spot). if nat_le (map_page_of m) (map_pages_of (f 0)) then e else None) (other_entry f g range m stay others other))
        ];
      };
      bytes = λ x. each_page (λ (page : List ℕ). tuple_on page x.slot) f g (map_page_of range) stay (no_tuple (g (map_page_of range)) x.slot after ∙ sym (no_tuple (f (map_page_of range)) x.slot before)) x.block;
      pages = map_page_stays limit f g (map_page_of range) stay counts before after;
    }
