-- a change of a page in the pool, behind the page as it was
use Rattle.std.proofs.Common.{◌≡◌, ℕ, ◌+◌, Bool, true, false, ◌||◌, cond, List, [], ◌∷◌, length, set, get_or, refl, sym, ap, subst, ◌∙◌, arith, length-append}
use Rattle.std.specs.Prelude.{Some}
use Rattle.std.proofs.lemmas.List.{set-set}
use Rattle.std.specs.List.{AllByRecursion}
use Rattle.block_model.specs.declared.limits.TheConstants.{PAGE_SIZE}
use Rattle.block_model.specs.declared.place.Place.{Place}
use Rattle.block_model.specs.NumberMaps.{same_Some}
use Rattle.byte_fields.specs.Fields.{AreBytes}
use Rattle.page_layout.specs.declared.page.Form.{Form}
use Rattle.page_layout.specs.PageContents.{IsPageOf}
use Rattle.recovery.specs.Redo.{Redone}
use Rattle.wal_record.specs.Changes.{FullPage, IsChange, LoggedChange}
use Rattle.wal_record.specs.ChangeBytes.{bytes_of}
use Rattle.buffer_pool.specs.PoolState.{HeldPage, PoolState, held_at}
use Rattle.wal_record.specs.Waiting.{Waiting, with_change}
use Rattle.page_store.specs.Begun.{HoldsOf, MakesHeld, RedoesHeld, begin_with, logged_for, marked_from, with_changes}
use Rattle.page_store.proofs.MakeSteps.{full_length}
use Rattle.page_store.specs.Room.{bytes_for, is_anew}

with_more : (begun : Bool) (waiting : Waiting) (place : Place) (page : List ℕ) (change : LoggedChange) → with_change (with_changes waiting (begin_with begun place page)) change ≡ with_changes waiting (logged_for begun place page change)
with_more true waiting place page change = refl
with_more false waiting place page change = refl

all_more : (begun : Bool) (place : Place) (page : List ℕ) (change : LoggedChange) → AllByRecursion IsChange (begin_with begun place page) → IsChange change → AllByRecursion IsChange (logged_for begun place page change)
all_more true place page change all is = (is, tt)
all_more false place page change all is = (all.0, (is, tt))

redone_more : (begun : Bool) (form : Form) (place : Place) (page after : List ℕ) (change : LoggedChange) → IsPageOf form page → (begun ≡ false → (length page ≡ PAGE_SIZE) × AreBytes page) → Redone form page (change ∷ []) after → Redone form page (logged_for begun place page change) after
redone_more true form place page after change passes bytes redone = redone
redone_more false form place page after change passes bytes redone = (page, (bytes refl).1, ((bytes refl).0, passes), refl, redone)

begun_size : (begun : Bool) (waiting : Waiting) (place : Place) (page : List ℕ) → (begun ≡ false → length page ≡ PAGE_SIZE) → length (with_changes waiting (begin_with begun place page)).bytes ≡ length waiting.bytes + cond begun 0 8198
begun_size true waiting place page whole = omega arith
begun_size false waiting place page whole = omega (arith, full_length place page (whole refl), length-append waiting.bytes (bytes_of (FullPage place page)))

-- with the change as many bytes wait as it needs
pub begun_bytes : (marked : Bool) (change : LoggedChange) (waiting mid : Waiting) (place : Place) (page : List ℕ) → mid ≡ with_changes waiting (begin_with (marked || is_anew change) place page) → ((marked || is_anew change) ≡ false → (length page ≡ PAGE_SIZE) × AreBytes page)
    → length mid.bytes + length (bytes_of change) ≡ length waiting.bytes + bytes_for marked change
begun_bytes marked change waiting mid place page is bytes =
    let size = begun_size (marked || is_anew change) waiting place page (λ e. (bytes e).0) in
    let first : ℕ = cond (marked || is_anew change) 0 8198 in
    omega (arith, ap (λ (w : Waiting). length w.bytes) is, size)

pub makes_held : (form : Form) (place : Place) (number waits : ℕ) (change : LoggedChange) (waiting mid after : Waiting) (marks : List Bool) (pool other new : PoolState) (begun : Bool) → begun ≡ get_or marks number false → other ≡ pool → HoldsOf form number pool
    → ((page : HeldPage) → held_at pool number ≡ Some page → mid ≡ with_changes waiting (begin_with (begun || is_anew change) place page.content))
    → ((page : HeldPage) → held_at pool number ≡ Some page → (begun || is_anew change) ≡ false → (length page.content ≡ PAGE_SIZE) × AreBytes page.content)
    → ((page : HeldPage) → held_at pool number ≡ Some page → AllByRecursion IsChange (begin_with (begun || is_anew change) place page.content))
    → after ≡ with_change mid change → IsChange change → RedoesHeld form number waits (change ∷ []) other new
    → MakesHeld form place number waits change (record { waiting = waiting; marks = marks; pool = pool }) (record { waiting = after; marks = set marks number true; pool = new })
makes_held form place number waits change waiting mid after marks pool other new begun is same holds begins bytes changes added is_change redoes =
    let own = subst (λ (p : PoolState). RedoesHeld form number waits (change ∷ []) p new) same redoes in
    let page = own.before in
    let passes = subst (λ (h : HeldPage). IsPageOf form h.content) (same_Some holds.page own.before (sym holds.held ∙ own.was)) holds.passes in
    subst
    (λ (b : Bool). (after ≡ with_changes waiting (logged_for (b || is_anew change) place page.content change)) → Redone form page.content (logged_for (b || is_anew change) place page.content change) own.after → AllByRecursion IsChange (logged_for (b || is_anew change) place page.content change)
    → MakesHeld form place number waits change (record { waiting = waiting; marks = marks; pool = pool }) (record { waiting = after; marks = set marks number true; pool = new }))
    (sym is)
    (λ w r a. record { redoes = own; waiting = w; redone = r; changes = a; marks = refl })
    (added ∙ ap (λ (w : Waiting). with_change w change) (begins page own.was) ∙ with_more (begun || is_anew change) waiting place page.content change)
    (redone_more (begun || is_anew change) form place page.content own.after change passes (bytes page own.was) own.redone)
    (all_more (begun || is_anew change) place page.content change (changes page own.was) is_change)

-- the mark is set once
pub marked_twice : (begun : Bool) (marks : List Bool) (number : ℕ) → set (marked_from begun marks number) number true ≡ set marks number true
marked_twice true marks number = refl
marked_twice false marks number = set-set marks number true true
