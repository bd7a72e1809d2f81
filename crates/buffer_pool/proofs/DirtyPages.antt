-- the lowest dirty page of frames
use Rattle.std.proofs.Common.{◌≡◌, ℕ, ◌<◌, ◌≤◌, List, [], Option, Some, None, length, get_or, refl, sym, ◌∙◌, ap, arith}
use Rattle.std.specs.Prelude.{nat_le}
use Rattle.std.proofs.lemmas.Bool.{cond-true, leb-true, le-leb}
use Rattle.std.proofs.lemmas.Option.{cond_some}
use Rattle.block_model.specs.NumberMaps.{same_Some, none_Some}
use Rattle.buffer_pool.specs.declared.held.Held.{Held}
use Rattle.buffer_pool.specs.PoolState.{IsDirty, held_at}
use Rattle.buffer_pool.specs.NextDirty.{IsNextDirty}
use Rattle.buffer_pool.specs.LowestDirty.{IsLowestDirty, dirty_page, logged_page}
use Rattle.buffer_pool.specs.Slots.{AreApart, page_of, slot_at}
use Rattle.buffer_pool.specs.Frames.{shown}
use Rattle.buffer_pool.proofs.Entries.{entry}
use Rattle.buffer_pool.proofs.Sets.{held_is, is_inside, where_held}

-- what a dirty page of a frame is
record IsDirtyIn (slots : List (Option Held)) (from k page : ℕ) : Type 0 where
  held : Held
  is : slot_at slots k ≡ Some held
  number : held.page ≡ page
  log : ℕ
  waits : held.log ≡ Some log
  low : from ≤ page

pub in_log : (from page : ℕ) (log : Option ℕ) (own : ℕ) → logged_page from log own ≡ Some page → (number : ℕ) × (log ≡ Some number) × (own ≡ page) × (from ≤ own)
in_log from page None own e = absurd (none_Some page e)
in_log from page (Some number) own e =
    let both = cond_some (nat_le from own) own page e in
    (number, refl, both.1, leb-true from own both.0)

in_slot : (slots : List (Option Held)) (from k page : ℕ) (slot : Option Held) → slot_at slots k ≡ slot → dirty_page from slot ≡ Some page → IsDirtyIn slots from k page
in_slot slots from k page None is e = absurd (none_Some page e)
in_slot slots from k page (Some h) is e =
    let w = in_log from page h.log h.page e in
    record { held = h; is = is; number = w.2; log = w.0; waits = w.1; low = omega (arith, w.2, w.3) }

-- a page that waits for a log change is found
pub to_log : (from page log : ℕ) (h : Held) → h.page ≡ page → h.log ≡ Some log → from ≤ page → dirty_page from (Some h) ≡ Some page
to_log from page log h number waits low =
    ap (λ (l : Option ℕ). logged_page from l h.page) waits
    ∙ ap (logged_page from (Some log)) number
    ∙ cond-true (nat_le from page) (Some page) None (le-leb from page low)

module _ (slots : List (Option Held)) (pages : List (List ℕ)) (from : ℕ) (long : length pages ≡ length slots) (apart : AreApart slots) where
  seen : (low : Option ℕ) → IsLowestDirty slots from (length slots) low → (page log : ℕ) → from ≤ page → IsDirty (shown slots pages) page log → (n : ℕ) × (low ≡ Some n) × (n ≤ page)
  seen low it page log le dirty =
      let w = where_held slots pages page dirty.0 dirty.1 in
      it.below w.frame page w.inside (ap (dirty_page from) w.is ∙ to_log from page log w.held w.page (w.log ∙ dirty.2) le)

  -- what it means for the map of pages
  pub next_dirty_is : (low : Option ℕ) → IsLowestDirty slots from (length slots) low → IsNextDirty (shown slots pages) from low
  next_dirty_is None it = λ page log le dirty. none_Some (seen None it page log le dirty).0 (seen None it page log le dirty).1
  next_dirty_is (Some next) it =
      let one = it.one next refl in
      let d = in_slot slots from one.0 next (slot_at slots one.0) refl one.1 in
      let inside : one.0 < length slots = is_inside slots one.0 d.held.page (ap page_of d.is) in (
        d.low,
        (d.log, (entry d.held (get_or pages one.0 []), ap (λ (x : ℕ). held_at (shown slots pages) x) (sym d.number) ∙ held_is slots pages one.0 d.held inside long apart d.is, d.waits)),
        λ page log le dirty.
            let w = seen (Some next) it page log le dirty in
            let same : next ≡ w.0 = same_Some next w.0 w.1 in
            omega (arith, same, w.2),
      )
