-- dirty pages that were put in order
use Rattle.std.proofs.Common.{◌≡◌, ◌≢◌, ℕ, ◌<◌, ◌≤◌, true, false, cond, List, Option, Some, None, length, set, get_or, refl, sym, ◌∙◌, ap, subst, arith, inl, inr, get_or-set_same, get_or-set_other}
use Rattle.std.specs.Prelude.{is_some}
use Rattle.std.specs.List.{Contains}
use Rattle.std.proofs.lemmas.Bool.{cases_eq, cases_lt, false≢true}
use Rattle.std.proofs.lemmas.List.{get_or_default}
use Rattle.block_model.specs.NumberMaps.{none_Some, same_Some}
use Rattle.buffer_pool.specs.declared.held.Held.{Held}
use Rattle.buffer_pool.specs.InOrder.{IsAhead, IsInOrder, Walk, page_number}
use Rattle.buffer_pool.specs.LowestDirty.{IsLowestDirty, dirty_page, logged_page}
use Rattle.buffer_pool.specs.Slots.{AreApart, IsAbsent, is_dirty, page_of, page_at, slot_at}
use Rattle.buffer_pool.proofs.DirtyPages.{in_log, to_log}

-- what a dirty page's slot is
pub numbered : (from page : ℕ) (slot : Option Held) → dirty_page from slot ≡ Some page → (page_number slot ≡ page) × (is_dirty slot ≡ true) × (page_of slot ≡ Some page)
numbered from page None e = absurd (none_Some page e)
numbered from page (Some h) e =
    let w = in_log from page h.log h.page e in
    (w.2, ap is_some w.1, ap Some w.2)

-- a dirty page from a higher number on is one from a lower number on
pub higher : (low from page : ℕ) (slot : Option Held) → low ≤ from → dirty_page from slot ≡ Some page → dirty_page low slot ≡ Some page
higher low from page None le e = absurd (none_Some page e)
higher low from page (Some h) le e =
    let w = in_log from page h.log h.page e in
    to_log low page w.0 h w.2 w.1 (omega (arith, le, w.2, w.3))

-- ---- after a frame was given a page

unlogged : (from page : ℕ) (log : Option ℕ) (own : ℕ) → log ≡ None → logged_page from log own ≢ Some page
unlogged from page log own is e = none_Some page (sym (ap (λ (l : Option ℕ). logged_page from l own) is) ∙ e)

after : (slots : List (Option Held)) (walk : Walk) (f : ℕ) (h : Held) (log : Option ℕ) → f < length slots → h.log ≡ log → IsInOrder slots walk
    → IsInOrder (set slots f (Some h)) (record walk { from = cond (is_some log) None walk.from })
after slots walk f h (Some number) inside is order from e = absurd (none_Some from e)
after slots walk f h None inside is order from e =
    let it = order from e in
    record {
      rising = it.rising;
      ahead = λ k page d. elim (cases_eq k f) [
        | inl own ↦
            absurd (unlogged from page h.log h.page is (sym (ap (dirty_page from) (ap (slot_at (set slots f (Some h))) own ∙ get_or-set_same slots f (Some h) None inside)) ∙ d))
        | inr apart ↦ it.ahead k page (sym (ap (dirty_page from) (get_or-set_other slots f k (Some h) None apart)) ∙ d)
      ];
    }

pub order_after : (slots : List (Option Held)) (walk : Walk) (f : ℕ) (h : Held) → f < length slots → IsInOrder slots walk
    → IsInOrder (set slots f (Some h)) (record walk { from = cond (is_some h.log) None walk.from })
order_after slots walk f h inside order = after slots walk f h h.log inside refl order

-- ---- before a walk

-- pages that are in order from a lower number on
pub reached : (slots : List (Option Held)) (walk : Walk) (low from : ℕ) → walk.from ≡ Some low → low ≤ from → IsInOrder slots walk → IsInOrder slots (record walk { from = Some from })
reached slots walk low from is le order x e =
    let it = order low is in
    let same : from ≡ x = same_Some from x e in
    record {
      rising = it.rising;
      ahead = λ k page d. it.ahead k page (higher low x page (slot_at slots k) (omega (arith, le, same)) d);
    }

-- pages that were put in order
pub put_in : (slots : List (Option Held)) (frames part pages : List ℕ) (from count : ℕ) → count ≡ length part
    → ((s : ℕ) → s < length part → get_or pages s 0 ≡ get_or part s 0)
    → ((i j : ℕ) → i ≤ j → j < length part → get_or part i 0 ≤ get_or part j 0)
    → ((s : ℕ) → s < length frames → Contains part (page_number (slot_at slots (get_or frames s 0))))
    → ((k : ℕ) → is_dirty (slot_at slots k) ≡ true → Contains frames k)
    → IsInOrder slots (record { pages = pages; count = count; next = 0; from = Some from })
put_in slots frames part pages from count is_count same rises numbers all x e = record {
  rising = λ i j le less. omega (arith, same i (omega (arith, le, less, is_count)), same j (omega (arith, less, is_count)), rises i j le (omega (arith, less, is_count)));
  ahead = λ k page d.
      let n = numbered x page (slot_at slots k) d in
      let at = all k n.1 in
      let frame : get_or frames at.0 0 ≡ k = get_or_default frames at.0 0 k at.1 ∙ at.2 in
      let w = numbers at.0 at.1 in
      let number : page_number (slot_at slots (get_or frames at.0 0)) ≡ page = ap (λ (f : ℕ). page_number (slot_at slots f)) frame ∙ n.0 in
      (w.0, omega arith, omega (arith, w.1, is_count), same w.0 w.1 ∙ get_or_default part w.0 0 _ w.1 ∙ w.2 ∙ number);
}

-- ---- a walk

module _ (slots : List (Option Held)) (from : ℕ) (walk : Walk) (it : IsAhead slots from walk) (at : ℕ)
    (passed : (s k : ℕ) → walk.next ≤ s → s < at → dirty_page from (slot_at slots k) ≢ Some (get_or walk.pages s 0)) where
  rest : (k page : ℕ) → dirty_page from (slot_at slots k) ≡ Some page → (s : ℕ) × (at ≤ s) × (s < walk.count) × (get_or walk.pages s 0 ≡ page)
  rest k page d =
      let w = it.ahead k page d in
      elim (cases_lt w.0 at) [
        | inl less ↦ absurd (passed w.0 k w.1 less (d ∙ ap Some (sym w.3)))
        | inr more ↦ (w.0, more, w.2, w.3)
      ]

  -- those below it are passed
  pub skipped : IsAhead slots from (record walk { next = at })
  skipped = record { rising = it.rising; ahead = rest }

  -- the first one that is dirty is the lowest
  pub lowest_at : (n : ℕ) → at < walk.count → (k : ℕ) × (dirty_page from (slot_at slots k) ≡ Some (get_or walk.pages at 0)) → IsLowestDirty slots from n (Some (get_or walk.pages at 0))
  lowest_at n less found = record {
    one = λ page e. (found.0, found.1 ∙ e);
    below = λ k page _ d.
        let w = rest k page d in
        (get_or walk.pages at 0, refl, omega (arith, it.rising at w.0 w.1 w.2, w.3));
  }

  -- where all are passed there is none
  pub lowest_none : (n : ℕ) → walk.count ≤ at → IsLowestDirty slots from n None
  lowest_none n all = record {
    one = λ page e. absurd (none_Some page e);
    below = λ k page _ d.
        let w = rest k page d in
        absurd (omega (arith, all, w.1, w.2));
  }

-- the same walk, said of its number
pub in_order : (slots : List (Option Held)) (from : ℕ) (walk : Walk) → walk.from ≡ Some from → IsAhead slots from walk → IsInOrder slots walk
in_order slots from walk is it x e = subst (λ (y : ℕ). IsAhead slots y walk) (same_Some from x (sym is ∙ e)) it

-- ---- one page of a walk

-- no frame holds the page
pub absent_clean : (slots : List (Option Held)) (from page : ℕ) → IsAbsent slots page → (k : ℕ) → dirty_page from (slot_at slots k) ≢ Some page
absent_clean slots from page absent k d = absent k (numbered from page (slot_at slots k) d).2

-- a dirty page is the one that is held
pub told : (from page : ℕ) (slot : Option Held) → page_of slot ≡ Some page → is_some (dirty_page from slot) ≡ true → dirty_page from slot ≡ Some page
told from page slot holds some = found (dirty_page from slot) refl
  where
    found : (o : Option ℕ) → dirty_page from slot ≡ o → dirty_page from slot ≡ Some page
    found None is = absurd (false≢true (sym (ap is_some is) ∙ some))
    found (Some p) is = is ∙ sym (numbered from p slot is).2 ∙ holds

-- the frame that holds the page has it as a clean one, or one with a lower number
pub untold : (slots : List (Option Held)) (from page f : ℕ) → AreApart slots → page_at slots f ≡ Some page → is_some (dirty_page from (slot_at slots f)) ≡ false → (k : ℕ) → dirty_page from (slot_at slots k) ≢ Some page
untold slots from page f apart holds none k d =
    let own : k ≡ f = apart k f page (numbered from page (slot_at slots k) d).2 holds in
    false≢true (sym none ∙ ap (λ (x : ℕ). is_some (dirty_page from (slot_at slots x))) (sym own) ∙ ap is_some d)
