-- what the choice of a dirty frame means for the map of pages
use Rattle.std.proofs.Common.{◌≡◌, ◌≢◌, ℕ, ◌+◌, ◌<◌, ◌≤◌, Bool, true, false, List, [], Option, Some, None, length, set, get_or, refl, sym, ◌∙◌, ap, subst}
use Rattle.std.specs.Prelude.{IsTrue, Result, Err}
use Rattle.disk_trait.specs.declared.disk.DiskFault.{DiskFault}
use Rattle.std.proofs.lemmas.Bool.{false≢true, leb-true, leb-false}
use Rattle.std.proofs.lemmas.List.{set-get_or}
use Rattle.block_model.specs.NumberMaps.{none_Some, same_Some}
use Rattle.block_model.specs.declared.limits.TheConstants.{PAGE_SIZE}
use Rattle.disk_trait.specs.Told.{Told}
use Rattle.disk_trait.specs.Torn.{Torn}
use Rattle.disk_trait.specs.Spliced.{spliced}
use Rattle.disk_trait.specs.Follows.{Follows}
use Rattle.disk_trait.specs.GoesOn.{GoesOn}
use Rattle.buffer_pool.specs.declared.held.Held.{Held}
use Rattle.buffer_pool.specs.declared.held.Wanted.TheVariants as wanted
use Rattle.buffer_pool.specs.PoolState.{PoolState, IsDirty, held_at, with_page}
use Rattle.buffer_pool.specs.WritesPage.{Cleans, CleansOne, CleansPage, Fails, IsCleanable, LieWithin, WritesAt, place_of}
use Rattle.buffer_pool.specs.Slots.{AreApart, page_of, page_at, slot_at, suits, log_suits}
use Rattle.buffer_pool.specs.Frames.{shown}
use Rattle.buffer_pool.proofs.Entries.{entry}
use Rattle.buffer_pool.proofs.Puts.{shown_own}
use Rattle.buffer_pool.proofs.Sets.{held_is, where_held}

-- a log change that is durable
durable_log : (durable : ℕ) (log : Option ℕ) → log_suits (wanted.Cleanable durable) log ≡ true → (number : ℕ) × (log ≡ Some number) × (number ≤ durable)
durable_log durable None e = absurd (false≢true e)
durable_log durable (Some number) e = (number, refl, leb-true number durable e)

-- the page of a frame that suits can be cleaned
pub cleanable : (slots : List (Option Held)) (pages : List (List ℕ)) (f durable : ℕ) (h : Held) → f < length slots → length pages ≡ length slots → AreApart slots → slot_at slots f ≡ Some h
    → suits (wanted.Cleanable durable) (slot_at slots f) ≡ true → IsCleanable (shown slots pages) durable h.page (entry h (get_or pages f []))
cleanable slots pages f durable h inside long apart is e =
    let d = durable_log durable h.log (sym (ap (suits (wanted.Cleanable durable)) is) ∙ e) in
    record { held = held_is slots pages f h inside long apart is; log = d.0; dirty = d.1; within = d.2 }

-- it is held on as a clean one
pub cleaned : (slots : List (Option Held)) (pages : List (List ℕ)) (f : ℕ) (h : Held) → f < length slots → length pages ≡ length slots → AreApart slots → slot_at slots f ≡ Some h
    → shown (set slots f (Some (record { page = h.page; log = None }))) pages ≡ with_page (shown slots pages) h.page (record { content = get_or pages f []; log = None })
cleaned slots pages f h inside long apart is =
    ap (shown (set slots f (Some (record { page = h.page; log = None })))) (sym (set-get_or pages f []))
    ∙ shown_own slots pages f (record { page = h.page; log = None }) (get_or pages f []) inside long
    (λ k e. apart k f h.page e (ap page_of is))
    (λ q other e. other (sym (same_Some h.page q (sym (ap page_of is) ∙ e))))

-- where no frame suits, each dirty page waits for a later log change
pub none_cleanable : (slots : List (Option Held)) (pages : List (List ℕ)) (durable : ℕ) → ((k : ℕ) → k < length slots → suits (wanted.Cleanable durable) (slot_at slots k) ≡ false)
    → (page log : ℕ) → IsDirty (shown slots pages) page log → durable < log
none_cleanable slots pages durable none page log it =
    let w = where_held slots pages page it.0 it.1 in
    leb-false log durable (sym (ap (log_suits (wanted.Cleanable durable)) (w.log ∙ it.2)) ∙ sym (ap (suits (wanted.Cleanable durable)) w.is) ∙ none w.frame w.inside)

-- the page of a frame that suits was written
pub cleans : (slots : List (Option Held)) (pages : List (List ℕ)) (f durable at : ℕ) (h : Held) (old new : PoolState) (disk after : Told) → f < length slots → length pages ≡ length slots → AreApart slots → slot_at slots f ≡ Some h
    → suits (wanted.Cleanable durable) (slot_at slots f) ≡ true → shown slots pages ≡ old → shown (set slots f (Some (record { page = h.page; log = None }))) pages ≡ new
    → (IsTrue disk.tells_contents → after.contents ≡ spliced disk.contents (place_of at h.page) (get_or pages f [])) → WritesAt (place_of at h.page) disk after
    → (it : Cleans old new at durable disk after) × (it.page ≡ h.page)
cleans slots pages f durable at h old new disk after inside long apart is suited was now written writes = (
  record {
    page = h.page;
    held = entry h (get_or pages f []);
    cleanable = subst (λ (p : PoolState). IsCleanable p durable h.page (entry h (get_or pages f []))) was (cleanable slots pages f durable h inside long apart is suited);
    clean = sym now ∙ cleaned slots pages f h inside long apart is ∙ ap (λ (p : PoolState). with_page p h.page (record { content = get_or pages f []; log = None })) was;
    written = written;
    writes = writes;
  },
  refl,
)

-- or it couldn't be
pub fails : (slots : List (Option Held)) (pages : List (List ℕ)) (f durable at : ℕ) (h : Held) (old new : PoolState) (disk after : Told) → f < length slots → length pages ≡ length slots → AreApart slots → slot_at slots f ≡ Some h
    → suits (wanted.Cleanable durable) (slot_at slots f) ≡ true → shown slots pages ≡ old → new ≡ old → WritesAt (place_of at h.page) disk after
    → (it : Fails old new at durable disk after) × (it.page ≡ h.page)
fails slots pages f durable at h old new disk after inside long apart is suited was same writes = (
  record {
    page = h.page;
    held = entry h (get_or pages f []);
    cleanable = subst (λ (p : PoolState). IsCleanable p durable h.page (entry h (get_or pages f []))) was (cleanable slots pages f durable h inside long apart is suited);
    same = same;
    writes = writes;
  },
  refl,
)

-- a frame whose page is wanted holds one
pub suits_some : (slots : List (Option Held)) (f durable : ℕ) → suits (wanted.Cleanable durable) (slot_at slots f) ≡ true → page_at slots f ≢ None
suits_some slots f durable suited none = of_slot (slot_at slots f) suited none
  where
    of_slot : (slot : Option Held) → suits (wanted.Cleanable durable) slot ≡ true → page_of slot ≢ None
    of_slot None e is = false≢true e
    of_slot (Some h) e is = none_Some h.page (sym is)

-- the page of a frame that suits lies on the disk
pub lies : (slots : List (Option Held)) (pages : List (List ℕ)) (f at size : ℕ) (h : Held) (old : PoolState) → f < length slots → length pages ≡ length slots → AreApart slots → slot_at slots f ≡ Some h → shown slots pages ≡ old → LieWithin old at size
    → place_of at h.page + PAGE_SIZE ≤ size
lies slots pages f at size h old inside long apart is was within =
    within h.page (entry h (get_or pages f [])) (ap (λ (p : PoolState). held_at p h.page) (sym was) ∙ held_is slots pages f h inside long apart is)

-- where the page's frame doesn't suit, the page waits for a later log change
pub later : (slots : List (Option Held)) (pages : List (List ℕ)) (durable page : ℕ) → ((k : ℕ) → page_at slots k ≡ Some page → suits (wanted.Cleanable durable) (slot_at slots k) ≡ false)
    → (log : ℕ) → IsDirty (shown slots pages) page log → durable < log
later slots pages durable page none log it =
    let w = where_held slots pages page it.0 it.1 in
    leb-false log durable (sym (ap (log_suits (wanted.Cleanable durable)) (w.log ∙ it.2)) ∙ sym (ap (suits (wanted.Cleanable durable)) w.is) ∙ none w.frame (ap page_of w.is ∙ ap Some w.page))

-- a write of so many bytes at an equal place
pub writes_at : (place at n : ℕ) (old new : Told) → at ≡ place → n ≡ PAGE_SIZE → (IsTrue old.tells_contents → Torn at n old.contents new.contents) → Follows (Torn at n) old new → GoesOn old new → WritesAt place old new
writes_at place at n old new ea en others images moments = record {
  others = subst (λ (p : ℕ). IsTrue old.tells_contents → Torn p PAGE_SIZE old.contents new.contents) ea (subst (λ (m : ℕ). IsTrue old.tells_contents → Torn at m old.contents new.contents) en others);
  images = subst (λ (p : ℕ). Follows (Torn p PAGE_SIZE) old new) ea (subst (λ (m : ℕ). Follows (Torn at m) old new) en images);
  moments = moments;
}

-- where the page's only frame doesn't suit, none that holds it does
pub unsuited : (slots : List (Option Held)) (durable page f : ℕ) → AreApart slots → page_at slots f ≡ Some page → suits (wanted.Cleanable durable) (slot_at slots f) ≡ false
    → (k : ℕ) → page_at slots k ≡ Some page → suits (wanted.Cleanable durable) (slot_at slots k) ≡ false
unsuited slots durable page f apart holds not k e = ap (λ (x : ℕ). suits (wanted.Cleanable durable) (slot_at slots x)) (apart k f page e holds) ∙ not

-- what a fault answers
pub on_fault : (old new : PoolState) (at durable : ℕ) (disk after : Told) (result : Result Bool DiskFault) (fault : DiskFault) → result ≡ Err fault → Fails old new at durable disk after → CleansOne old new at durable disk after result
on_fault old new at durable disk after result fault is it = subst (λ (r : Result Bool DiskFault). CleansOne old new at durable disk after r) (sym is) it

pub on_page_fault : (old new : PoolState) (at page durable : ℕ) (disk after : Told) (result : Result Bool DiskFault) (fault : DiskFault) → result ≡ Err fault → (it : Fails old new at durable disk after) × (it.page ≡ page) → CleansPage old new at page durable disk after result
on_page_fault old new at page durable disk after result fault is it = subst (λ (r : Result Bool DiskFault). CleansPage old new at page durable disk after r) (sym is) it
