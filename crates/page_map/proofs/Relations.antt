-- The pages of a relation, by what is kept of each.
use Rattle.std.proofs.Common.{◌≡◌, ℕ, ◌<◌, ◌≤◌, inl, inr, true, false, not, eqb, List, length, get_or, sym, ap, ◌∙◌, arith}
use Rattle.std.specs.Prelude.{Option, None, Some, count_by}
use Rattle.page_redo.specs.IndexReading.{map_pages_of}
use Rattle.page_redo.specs.IndexWrites.{room_on}
use Rattle.page_redo.specs.Form.{Form}
use Rattle.page_redo.specs.Form.TheVariants as forms
use Rattle.page_redo.specs.PageContents.{IsPageOf, IsUnstarted}
use Rattle.page_redo.specs.PageWrites.{IsOfIndex}
use Rattle.page_redo.specs.SlotsOnPage.{lowest_on}
use Rattle.page_map.specs.declared.facts.PageFacts.{PageFacts}
use Rattle.page_map.specs.declared.lowest.Sought.TheVariants as sought
use Rattle.page_map.specs.FactLists.{IsFirstOf, IsFirstOfIndex, tells_started}
use Rattle.page_map.specs.FirstRoom.{IsFirstRoom, PageHasRoom}
use Rattle.page_map.specs.Lowest.{has_slot, is_sought}
use Rattle.page_map.specs.PageFacts.{facts_in, facts_on, no_facts}
use Rattle.page_map.specs.PageMap.{page_in, unstarted_page}
use Rattle.page_map.specs.Started.{AreFirst, is_started}
use Rattle.page_map.proofs.FactsKept.{OneList}
use Rattle.page_map.proofs.Filling.{count_alike}
use Rattle.page_map.proofs.PageKinds.{count_first, kind_started, kind_unstarted, unstarted_kind}
use Rattle.page_map.proofs.Rooms.{heap_looked_at, no_tuple, room_lower, room_of_slot, slot_found, tuple_room}

-- facts of each page of a relation, which passes its check
pub record AreFactsOf (form : Form) (pages : List (List ℕ)) (facts : List PageFacts) : Type 0 where
  pub many : length pages ≡ length facts
  pub checked : (block : ℕ) → IsPageOf form (page_in pages block)
  pub known : (block : ℕ) → facts_in facts block ≡ facts_on form (page_in pages block)

-- what the facts tell of the pages

module _ (form : Form) (pages : List (List ℕ)) (facts : List PageFacts) (is : AreFactsOf form pages facts) where
  pub lowest_are : (n : ℕ) → (facts_in facts n).lowest ≡ lowest_on form (page_in pages n)
  lowest_are n = ap (λ (f : PageFacts). f.lowest) (is.known n)

  pub kinds_are : (n : ℕ) → (facts_in facts n).kind ≡ get_or (page_in pages n) 0 0
  kinds_are n = ap (λ (f : PageFacts). f.kind) (is.known n)

  pub rooms_are : (n : ℕ) → (facts_in facts n).room ≡ room_on (page_in pages n)
  rooms_are n = ap (λ (f : PageFacts). f.room) (is.known n)

  pub maps_are : (n : ℕ) → (facts_in facts n).maps ≡ map_pages_of (page_in pages n)
  maps_are n = ap (λ (f : PageFacts). f.maps) (is.known n)

  no_room : OneList → (IsOfIndex form → ⊥) → (need n : ℕ) → is_sought sought.Room (facts_in facts n) ≡ false → PageHasRoom form need (page_in pages n) → ⊥
  no_room one rows need n none = room_lower one form need (page_in pages n) rows (sym (ap has_slot (lowest_are n)) ∙ none)

  pub is_unstarted : (n : ℕ) → is_sought sought.Unstarted (facts_in facts n) ≡ true → IsUnstarted (page_in pages n)
  is_unstarted n kind = kind_unstarted form (page_in pages n) (is.checked n) (sym (ap (λ (k : ℕ). eqb k 0) (kinds_are n)) ∙ kind)

  pub isnt_unstarted : (n : ℕ) → is_sought sought.Unstarted (facts_in facts n) ≡ false → IsUnstarted (page_in pages n) → ⊥
  isnt_unstarted n kind zeros = let yes = unstarted_kind (page_in pages n) zeros in let same = ap (λ (k : ℕ). eqb k 0) (kinds_are n) in absurd cc

  pub first_of_pages : OneList → (IsOfIndex form → ⊥) → (need past : ℕ) (result : Option ℕ) → IsFirstOf facts result → IsFirstRoom form (length pages) need past (page_in pages) result
  first_of_pages one rows need past (Some n) (below, inl lowest) =
      let free = slot_found one form (page_in pages n) (is.checked n) (sym (ap has_slot (lowest_are n)) ∙ lowest.found below) in
      inl (record {
        below = omega (arith, below, is.many);
        looked_at = heap_looked_at form (page_in pages n) past free.0 n free.1;
        room = room_of_slot form need (page_in pages n) rows free.0 free.1;
        lower = λ other low _. no_room one rows need other (lowest.lower other low);
      })
  first_of_pages one rows need past (Some n) (below, inr (none, lowest)) = inr (record {
    below = omega (arith, below, is.many);
    unstarted = is_unstarted n (lowest.found below);
    lower = λ other low. isnt_unstarted other (lowest.lower other low);
    no_room = λ other _. no_room one rows need other (none other);
  })
  first_of_pages one rows need past None (none, lowest) = record {
    started = λ n low. isnt_unstarted n (lowest.lower n (omega (arith, low, is.many)));
    no_room = λ n _. no_room one rows need n (none n);
  }

  pub started_same : count_by is_started pages ≡ count_by tells_started facts
  started_same = count_alike is_started tells_started pages facts unstarted_page no_facts is.many (λ n low. ap (λ (k : ℕ). not (eqb k 0)) (sym (kinds_are n)))

  pub started_first : (n : ℕ) → AreFirst (length pages) (page_in pages) n → count_by tells_started facts ≡ n
  started_first n first =
      sym started_same
      ∙ count_first pages n first.within (λ k low. kind_started form (page_in pages k) (is.checked k) (first.started k low))
      (λ k high low. ap not (unstarted_kind (page_in pages k) (first.others k high low)))

-- those of an index
pub first_of_index : (form : Form) (pages : List (List ℕ)) (facts : List PageFacts) → AreFactsOf form pages facts → IsOfIndex form → (need past : ℕ) (result : Option ℕ)
    → IsFirstOfIndex facts need past result → IsFirstRoom form (length pages) need past (page_in pages) result
first_of_index forms.Status pages facts is index need past result first = absurd index
first_of_index (forms.Heap row count kinds format) pages facts is index need past result first = absurd index
first_of_index forms.Index pages facts is index need past (Some n) (inl first) = inl (record {
  below = omega (arith, first.there, is.many);
  looked_at = first.behind;
  room = tuple_room need (facts_in facts n).kind (facts_in facts n).room (page_in pages n) (kinds_are _ _ _ is n) (rooms_are _ _ _ is n) first.takes;
  lower = λ other low behind. no_tuple need (facts_in facts other).kind (facts_in facts other).room (page_in pages other) (kinds_are _ _ _ is other) (rooms_are _ _ _ is other) (first.lower other behind low);
})
first_of_index forms.Index pages facts is index need past (Some n) (inr (none, below, lowest)) = inr (record {
  below = omega (arith, below, is.many);
  unstarted = is_unstarted _ _ _ is n (lowest.found below);
  lower = λ other low. isnt_unstarted _ _ _ is other (lowest.lower other low);
  no_room = λ other behind. no_tuple need (facts_in facts other).kind (facts_in facts other).room (page_in pages other) (kinds_are _ _ _ is other) (rooms_are _ _ _ is other) (none other behind);
})
first_of_index forms.Index pages facts is index need past None (none, lowest) = record {
  started = λ n low. isnt_unstarted _ _ _ is n (lowest.lower n (omega (arith, low, is.many)));
  no_room = λ n behind. no_tuple need (facts_in facts n).kind (facts_in facts n).room (page_in pages n) (kinds_are _ _ _ is n) (rooms_are _ _ _ is n) (none n behind);
}
