-- what the choice of a frame means for the map of pages
use Rattle.std.proofs.Common.{◌≡◌, ℕ, zero, suc, ◌<◌, true, List, [], ◌∷◌, Option, Some, None, length, set, get_or, refl, sym, ◌∙◌, ap, subst, arith, inl, inr}
use Rattle.std.specs.Prelude.{is_some, option_map}
use Rattle.std.proofs.lemmas.Bool.{false≢true}
use Rattle.block_model.specs.NumberMaps.{same_Some, none_Some}
use Rattle.buffer_pool.specs.declared.held.Held.{Held}
use Rattle.buffer_pool.specs.declared.held.Wanted.TheVariants as wanted
use Rattle.buffer_pool.specs.PoolState.{HeldPage, PoolState, held_at}
use Rattle.buffer_pool.specs.SetsPage.{IsAllDirty, SetsPage}
use Rattle.buffer_pool.specs.Slots.{AreApart, IsAbsent, is_dirty, page_of, page_at, slot_at, suits, log_suits}
use Rattle.buffer_pool.specs.Frames.{HasNoFrame, IsFrameFor, shown}
use Rattle.buffer_pool.proofs.Entries.{entry, found_at, found_in, not_found, count_below, count_full, FoundIn}
use Rattle.buffer_pool.proofs.Puts.{got, shown_own, shown_for}

-- a frame's slot, where it holds a page
pub record Holds (slots : List (Option Held)) (f page : ℕ) : Type 0 where
  pub held : Held
  pub is : slot_at slots f ≡ Some held
  pub number : held.page ≡ page

taken : (slot : Option Held) (slots : List (Option Held)) (f page : ℕ) → slot_at slots f ≡ slot → page_of slot ≡ Some page → Holds slots f page
taken None slots f page is e = absurd (none_Some page e)
taken (Some h) slots f page is e = record { held = h; is = is; number = same_Some h.page page e }

pub holds : (slots : List (Option Held)) (f page : ℕ) → page_at slots f ≡ Some page → Holds slots f page
holds slots f page e = taken (slot_at slots f) slots f page refl e

-- a frame that isn't there holds nothing
pub is_inside : (slots : List (Option Held)) (f page : ℕ) → page_at slots f ≡ Some page → f < length slots
is_inside [] f page e = absurd (none_Some page e)
is_inside (slot ∷ slots) zero page e = omega arith
is_inside (slot ∷ slots) (suc f) page e = omega (arith, is_inside slots f page e)

-- a page that no frame holds isn't in the map
pub absent_is : (slots : List (Option Held)) (pages : List (List ℕ)) (q : ℕ) → IsAbsent slots q → held_at (shown slots pages) q ≡ None
absent_is slots pages q absent = got slots pages q ∙ not_found slots pages q absent

-- one that a frame holds is
pub held_is : (slots : List (Option Held)) (pages : List (List ℕ)) (f : ℕ) (h : Held) → f < length slots → length pages ≡ length slots → AreApart slots → slot_at slots f ≡ Some h
    → held_at (shown slots pages) h.page ≡ Some (entry h (get_or pages f []))
held_is slots pages f h inside long apart is =
    got slots pages h.page ∙ found_at slots pages f h inside long is (λ k e. apart k f h.page e (ap page_of is))

-- the frame of a page that is held already, or an empty one, or one whose page is clean and goes
pub sets : (slots : List (Option Held)) (pages : List (List ℕ)) (f page : ℕ) (log : Option ℕ) (content : List ℕ) → f < length slots → length pages ≡ length slots → AreApart slots → IsFrameFor slots page f
    → SetsPage (shown slots pages) page (record { content = content; log = log }) (shown (set slots f (Some (record { page = page; log = log }))) (set pages f content))
sets slots pages f page log content inside long apart (inl own) =
    let w = holds slots f page own in
    let is : held_at (shown slots pages) page ≡ Some (entry w.held (get_or pages f [])) = subst (λ (p : ℕ). held_at (shown slots pages) p ≡ Some (entry w.held (get_or pages f []))) w.number (held_is slots pages f w.held inside long apart w.is) in
    inl (inl (ap is_some is), shown_own slots pages f (record { page = page; log = log }) content inside long (λ k e. apart k f page e own) (λ q other e. other (sym (same_Some page q (sym own ∙ e)))))
sets slots pages f page log content inside long apart (inr (inl it)) =
    inl (inr (count_below slots pages f inside it.1), shown_own slots pages f (record { page = page; log = log }) content inside long (λ k e. absurd (it.0 k e)) (λ q other e. none_Some q (sym it.1 ∙ e)))
sets slots pages f page log content inside long apart (inr (inr it)) =
    let w = clean_slot (slot_at slots f) refl it.2 in
    inr (w.0.page, absent_is slots pages page it.0, count_full slots pages long apart it.1, (entry w.0 (get_or pages f []), held_is slots pages f w.0 inside long apart w.1, w.2), shown_for slots pages f (record { page = page; log = log }) content inside long (λ k e. absurd (it.0 k e)) w.0.page (ap page_of w.1) (λ e. it.0 f (ap page_of w.1 ∙ ap Some e)) apart)
  where
    clean_log : (log : Option ℕ) → log_suits wanted.Clean log ≡ true → log ≡ None
    clean_log None e = refl
    clean_log (Some number) e = absurd (false≢true e)

    clean_slot : (slot : Option Held) → slot_at slots f ≡ slot → suits wanted.Clean slot ≡ true → (h : Held) × (slot_at slots f ≡ Some h) × (h.log ≡ None)
    clean_slot None is e = absurd (false≢true e)
    clean_slot (Some h) is e = (h, is, clean_log h.log e)

-- where is a page that is held
pub where_held : (slots : List (Option Held)) (pages : List (List ℕ)) (q : ℕ) (it : HeldPage) → held_at (shown slots pages) q ≡ Some it → FoundIn slots q it
where_held slots pages q it e = found_in slots pages q it (sym (got slots pages q) ∙ e)

-- no frame for the page: every one holds another, dirty page
pub all_dirty : (slots : List (Option Held)) (pages : List (List ℕ)) (page : ℕ) → length pages ≡ length slots → AreApart slots → HasNoFrame slots page → IsAllDirty (shown slots pages) page
all_dirty slots pages page long apart it = record {
  absent = absent_is slots pages page it.0;
  full = count_full slots pages long apart it.1;
  dirty = λ q held e.
      let w = where_held slots pages q held e in
      sym (ap is_some w.log) ∙ sym (ap is_dirty w.is) ∙ it.2 w.frame w.inside;
}

no_some : (o : Option HeldPage) → is_some o ≡ true → o ≡ None → ⊥
no_some o some none = false≢true (sym (ap is_some none) ∙ some)

-- a page that was set had a place, or a clean page went
pub not_all_dirty : (old new : PoolState) (page : ℕ) (held : HeldPage) → SetsPage old page held new → IsAllDirty old page → ⊥
not_all_dirty old new page held (inl (inl own, is)) dirty = no_some (held_at old page) own dirty.absent
not_all_dirty old new page held (inl (inr free, is)) dirty = omega (arith, free, dirty.full)
not_all_dirty old new page held (inr it) dirty = false≢true (sym (ap is_some it.3.2) ∙ dirty.dirty it.0 it.3.0 it.3.1)

-- only the chosen frame may hold the page
pub own_of : (slots : List (Option Held)) (page f : ℕ) → AreApart slots → IsFrameFor slots page f → (k : ℕ) → page_at slots k ≡ Some page → k ≡ f
own_of slots page f apart (inl own) k e = apart k f page e own
own_of slots page f apart (inr (inl it)) k e = absurd (it.0 k e)
own_of slots page f apart (inr (inr it)) k e = absurd (it.0 k e)

-- the same, said of equal states
pub on_states : (old old' : PoolState) (page : ℕ) (held : HeldPage) (new new' : PoolState) → old ≡ old' → new' ≡ new → SetsPage old page held new → SetsPage old' page held new'
on_states old old' page held new new' eo en it = subst (λ (o : PoolState). SetsPage o page held new') eo (subst (λ (n : PoolState). SetsPage old page held n) (sym en) it)

-- the bytes of a page that a frame holds
pub content_is : (slots : List (Option Held)) (pages : List (List ℕ)) (f page : ℕ) → f < length slots → length pages ≡ length slots → AreApart slots → page_at slots f ≡ Some page
    → option_map (λ (held : HeldPage). held.content) (held_at (shown slots pages) page) ≡ Some (get_or pages f [])
content_is slots pages f page inside long apart own =
    let w = holds slots f page own in
    ap (option_map (λ (held : HeldPage). held.content))
    (ap (λ (p : ℕ). held_at (shown slots pages) p) (sym w.number) ∙ held_is slots pages f w.held inside long apart w.is)
