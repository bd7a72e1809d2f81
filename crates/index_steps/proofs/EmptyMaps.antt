-- a page of the map without entries
use Rattle.std.proofs.Common.{◌≡◌, ℕ, zero, suc, ◌+◌, ◌*◌, ◌-◌, ◌<◌, List, [], ◌∷◌, ◌++◌, length, get_or, refl, sym, ap, subst, ◌∙◌, arith}
use Rattle.std.specs.Prelude.{replicate, slice_index_or, Option, None}
use Rattle.std.proofs.lemmas.List.{length-replicate, replicate-append-replicate}
use Rattle.std.proofs.lemmas.Option.{none-some}
use Rattle.block_model.specs.declared.limits.TheConstants.{PAGE_SIZE}
use Rattle.block_model.specs.declared.place.Spot.{Spot}
use Rattle.index_contents.specs.PageOrder.{empty_page}
use Rattle.index_layout.specs.declared.format.TheConstants.{MAP, MAP_ENTRIES}
use Rattle.index_layout.specs.IndexPages.{AreEntries, IsMap, entries_bytes, header, map_bytes}
use Rattle.index_layout.specs.IndexReading.{entries_of}
use Rattle.index_steps.specs.NextPages.{HasEntry, IsEmptyMap}

-- entries of which none names a spot
all_none : (list : List (Option Spot)) → ((n : ℕ) → n < length list → get_or list n None ≡ None) → list ≡ replicate (length list) None
all_none [] each = refl
all_none (x ∷ list) each = ap (λ (e : Option Spot). e ∷ list) (each 0 (omega arith)) ∙ ap (λ (l : List (Option Spot)). None ∷ l) (all_none list (λ n below. each (suc n) (omega (arith, below))))

pub is_empty : (page : List ℕ) → IsMap (entries_of page) page → ((entry : ℕ) → entry < MAP_ENTRIES → slice_index_or (entries_of page) entry None ≡ None) → IsEmptyMap page
is_empty page is none =
    let all : entries_of page ≡ replicate (length (entries_of page)) None = all_none (entries_of page) (λ n below. none n (omega (arith, below, is.counted))) in
    subst (λ (list : List (Option Spot)). IsMap list page) (all ∙ ap (λ (n : ℕ). replicate {A = Option Spot} n None) is.counted) is

none_in : (n k : ℕ) → ◌≡◌ {A = Option Spot} (get_or (replicate n None) k None) None
none_in zero k = refl
none_in (suc n) zero = refl
none_in (suc n) (suc k) = none_in n k

abbrev pub HasOneMap : Type 0
HasOneMap = (list : List (Option Spot)) (page : List ℕ) → IsMap list page → list ≡ entries_of page

pub no_entry_there : HasOneMap → (page : List ℕ) → IsEmptyMap page → (n : ℕ) → slice_index_or (entries_of page) n None ≡ None
no_entry_there one page empty n = ap (λ (l : List (Option Spot)). slice_index_or l n None) (sym (one (replicate MAP_ENTRIES None) page empty)) ∙ none_in MAP_ENTRIES n

pub no_entries : HasOneMap → (page : List ℕ) → IsEmptyMap page → HasEntry page → ⊥
no_entries one page empty (n, spot, named) = absurd (none-some spot (sym (no_entry_there one page empty n) ∙ named))

-- it has zeros behind its kind
zero_entries : (n : ℕ) → entries_bytes (replicate n None) ≡ replicate (n * 8) 0
unfolding entries_bytes
zero_entries zero = refl
zero_entries (suc n) = ap (λ (l : List ℕ). replicate 8 0 ++ l) (zero_entries n) ∙ replicate-append-replicate 8 (n * 8) 0 ∙ ap (λ (m : ℕ). replicate {A = ℕ} m 0) (let e : 8 + n * 8 ≡ suc n * 8 = omega arith in e)

zeros_behind : (m : ℕ) → header MAP 0 ++ replicate m 0 ≡ MAP ∷ replicate (31 + m) 0
zeros_behind m = ap (λ (l : List ℕ). MAP ∷ l) (replicate-append-replicate 31 m 0)

empty_bytes : (n : ℕ) → n * 8 + 31 ≡ PAGE_SIZE - 1 → map_bytes (replicate n None) ≡ empty_page MAP
unfolding map_bytes
empty_bytes n long = ap (λ (l : List ℕ). header MAP 0 ++ l) (zero_entries n) ∙ zeros_behind (n * 8) ∙ ap (λ (m : ℕ). MAP ∷ replicate {A = ℕ} m 0) (let e : 31 + n * 8 ≡ PAGE_SIZE - 1 = omega (arith, long) in e)

pub empty_is_map : (page : List ℕ) → IsEmptyMap page → page ≡ empty_page 4
empty_is_map page is = is.bytes ∙ empty_bytes MAP_ENTRIES refl

no_spots : (n : ℕ) → AreEntries (replicate n None)
no_spots zero = tt
no_spots (suc n) = (tt, no_spots n)

pub map_is_empty : (page : List ℕ) → page ≡ empty_page 4 → IsEmptyMap page
map_is_empty page is = record { counted = length-replicate {A = Option Spot} MAP_ENTRIES None; are = no_spots MAP_ENTRIES; bytes = is ∙ sym (empty_bytes MAP_ENTRIES refl) }
