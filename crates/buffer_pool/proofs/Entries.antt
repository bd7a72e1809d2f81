-- what is found among the pages of frames
use Rattle.std.proofs.Common.{◌≡◌, ◌≢◌, ℕ, zero, suc, ◌+◌, ◌<◌, ◌≤◌, Bool, true, false, cond, List, [], ◌∷◌, Option, Some, None, length, set, get_or, refl, sym, ◌∙◌, ap, subst, arith, inl, inr}
use Rattle.std.specs.Prelude.{is_some}
use Rattle.std.specs.Ordering.{eq_by_cmp, nat_cmp}
use Rattle.std.specs.FinMap.{find, from_entries, len, empty, len-empty, len-insert, contains_key, get-from_entries}
use Rattle.std.proofs.lemmas.Cmp.{nat_cmp_total, eq_by_cmp_equiv}
use Rattle.std.proofs.lemmas.Bool.{cond-true, cond-false, cases_eq}
use Rattle.block_model.specs.NumberMaps.{numbers_apart, same_Some, none_Some}
use Rattle.buffer_pool.specs.declared.held.Held.{Held}
use Rattle.buffer_pool.specs.PoolState.{HeldPage}
use Rattle.buffer_pool.specs.Slots.{AreApart, IsAbsent, page_of, page_at, slot_at}
use Rattle.buffer_pool.specs.Frames.{AreFilled, entries_of}

-- what is found at a page's number
abbrev pub found : List (Option Held) → List (List ℕ) → ℕ → Option HeldPage
found slots pages q = find nat_cmp q (entries_of slots pages)

-- what a frame holds, with its bytes
abbrev pub entry : Held → List ℕ → HeldPage
entry held page = record { content = page; log = held.log }

itself : (q : ℕ) → eq_by_cmp nat_cmp q q ≡ true
itself q = (eq_by_cmp_equiv nat_cmp_total).refl q

-- a frame that holds another page is passed
skip : (slot : Option Held) (page : List ℕ) (slots : List (Option Held)) (pages : List (List ℕ)) (q : ℕ) → page_of slot ≢ Some q → found (slot ∷ slots) (page ∷ pages) q ≡ found slots pages q
skip None page slots pages q other = refl
skip (Some h) page slots pages q other = cond-false (eq_by_cmp nat_cmp q h.page) (Some (entry h page)) (found slots pages q) (numbers_apart q h.page (λ e. other (ap Some (sym e))))

-- a frame that holds it is found
here : (slot : Option Held) (page : List ℕ) (slots : List (Option Held)) (pages : List (List ℕ)) (h : Held) → slot ≡ Some h → found (slot ∷ slots) (page ∷ pages) h.page ≡ Some (entry h page)
here slot page slots pages h is =
    subst (λ (s : Option Held). found (s ∷ slots) (page ∷ pages) h.page ≡ Some (entry h page)) (sym is)
    (cond-true (eq_by_cmp nat_cmp h.page h.page) (Some (entry h page)) (found slots pages h.page) (itself h.page))

-- what stands behind a frame decides where it did before
behind : (slot : Option Held) (page : List ℕ) (slots slots' : List (Option Held)) (pages pages' : List (List ℕ)) (q : ℕ) → found slots' pages' q ≡ found slots pages q → found (slot ∷ slots') (page ∷ pages') q ≡ found (slot ∷ slots) (page ∷ pages) q
behind None page slots slots' pages pages' q e = e
behind (Some h) page slots slots' pages pages' q e = ap (cond (eq_by_cmp nat_cmp q h.page) (Some (entry h page))) e

-- a page that no frame holds isn't found
pub not_found : (slots : List (Option Held)) (pages : List (List ℕ)) (q : ℕ) → IsAbsent slots q → found slots pages q ≡ None
not_found [] pages q absent = refl
not_found (slot ∷ slots) [] q absent = refl
not_found (slot ∷ slots) (page ∷ pages) q absent = skip slot page slots pages q (absent 0) ∙ not_found slots pages q (λ k. absent (suc k))

-- a page that one frame holds is found there
pub found_at : (slots : List (Option Held)) (pages : List (List ℕ)) (f : ℕ) (h : Held) → f < length slots → length pages ≡ length slots → slot_at slots f ≡ Some h
    → ((k : ℕ) → page_at slots k ≡ Some h.page → k ≡ f) → found slots pages h.page ≡ Some (entry h (get_or pages f []))
found_at [] pages f h inside long is one = absurd (omega (arith, inside))
found_at (slot ∷ slots) [] f h inside long is one = absurd (omega (arith, long))
found_at (slot ∷ slots) (page ∷ pages) zero h inside long is one = here slot page slots pages h is
found_at (slot ∷ slots) (page ∷ pages) (suc f) h inside long is one =
    skip slot page slots pages h.page (λ e. absurd (omega (arith, one 0 e)))
    ∙ found_at slots pages f h (omega (arith, inside)) (omega (arith, long)) is (λ k e. omega (arith, one (suc k) e))

-- a change of a frame that held another page and holds another one is no change
pub found_other : (slots : List (Option Held)) (pages : List (List ℕ)) (f : ℕ) (slot : Option Held) (page : List ℕ) (q : ℕ) → page_of slot ≢ Some q → page_at slots f ≢ Some q
    → found (set slots f slot) (set pages f page) q ≡ found slots pages q
found_other [] pages f slot page q new old = refl
found_other (s ∷ slots) [] zero slot page q new old = refl
found_other (s ∷ slots) [] (suc f) slot page q new old = refl
found_other (s ∷ slots) (p ∷ pages) zero slot page q new old = skip slot page slots pages q new ∙ sym (skip s p slots pages q old)
found_other (s ∷ slots) (p ∷ pages) (suc f) slot page q new old = behind s p slots (set slots f slot) pages (set pages f page) q (found_other slots pages f slot page q new old)

-- where a page is found that is held
pub record FoundIn (slots : List (Option Held)) (q : ℕ) (it : HeldPage) : Type 0 where
  pub frame : ℕ
  pub held : Held
  pub inside : frame < length slots
  pub is : slot_at slots frame ≡ Some held
  pub page : held.page ≡ q
  pub log : held.log ≡ it.log

later : (slot : Option Held) (slots : List (Option Held)) (q : ℕ) (it : HeldPage) → FoundIn slots q it → FoundIn (slot ∷ slots) q it
later slot slots q it w = record { frame = suc w.frame; held = w.held; inside = omega (arith, w.inside); is = w.is; page = w.page; log = w.log }

pub found_in : (slots : List (Option Held)) (pages : List (List ℕ)) (q : ℕ) (it : HeldPage) → found slots pages q ≡ Some it → FoundIn slots q it
found_in [] pages q it got = absurd (none_Some it got)
found_in (slot ∷ slots) [] q it got = absurd (none_Some it got)
found_in (None ∷ slots) (page ∷ pages) q it got = later None slots q it (found_in slots pages q it got)
found_in (Some h ∷ slots) (page ∷ pages) q it got = elim (cases_eq q h.page) [
  | inl is ↦
      let same : entry h page ≡ it = same_Some (entry h page) it (sym (here (Some h) page slots pages h refl) ∙ ap (λ (x : ℕ). found (Some h ∷ slots) (page ∷ pages) x) (sym is) ∙ got) in
      record { frame = 0; held = h; inside = omega arith; is = refl; page = sym is; log = ap (λ (x : HeldPage). x.log) same }
  | inr apart ↦ later (Some h) slots q it (found_in slots pages q it (sym (skip (Some h) page slots pages q (λ e. apart (sym (same_Some h.page q e)))) ∙ got))
]

-- ---- how many there are

abbrev pub count : List (Option Held) → List (List ℕ) → ℕ
count slots pages = len (from_entries {R = nat_cmp} (entries_of slots pages))

at_most : (b : Bool) (n m : ℕ) → n ≤ m → cond b n (n + 1) ≤ m + 1
at_most true n m le = omega (arith, le)
at_most false n m le = omega (arith, le)

counted : (h : Held) (page : List ℕ) (slots : List (Option Held)) (pages : List (List ℕ)) → count (Some h ∷ slots) (page ∷ pages) ≡ cond (contains_key (from_entries {R = nat_cmp} (entries_of slots pages)) h.page) (count slots pages) (count slots pages + 1)
counted h page slots pages = len-insert nat_cmp_total (from_entries (entries_of slots pages)) h.page (entry h page)

-- at most as many as frames
pub count_within : (slots : List (Option Held)) (pages : List (List ℕ)) → count slots pages ≤ length slots
count_within [] pages = omega (arith, len-empty nat_cmp HeldPage)
count_within (slot ∷ slots) [] = omega (arith, len-empty nat_cmp HeldPage)
count_within (None ∷ slots) (page ∷ pages) = omega (arith, count_within slots pages)
count_within (Some h ∷ slots) (page ∷ pages) = omega (arith, counted h page slots pages, at_most (contains_key (from_entries {R = nat_cmp} (entries_of slots pages)) h.page) (count slots pages) (length slots) (count_within slots pages))

-- fewer, where a frame is empty
pub count_below : (slots : List (Option Held)) (pages : List (List ℕ)) (k : ℕ) → k < length slots → page_at slots k ≡ None → count slots pages < length slots
count_below [] pages k inside empty = absurd (omega (arith, inside))
count_below (slot ∷ slots) [] k inside empty = omega (arith, len-empty nat_cmp HeldPage)
count_below (None ∷ slots) (page ∷ pages) k inside empty = omega (arith, count_within slots pages)
count_below (Some h ∷ slots) (page ∷ pages) zero inside empty = absurd (none_Some h.page (sym empty))
count_below (Some h ∷ slots) (page ∷ pages) (suc k) inside empty =
    let less : count slots pages + 1 ≤ length slots = omega (arith, count_below slots pages k (omega (arith, inside)) empty) in
    omega (arith, counted h page slots pages, bounded (contains_key (from_entries {R = nat_cmp} (entries_of slots pages)) h.page) (count slots pages) (length slots) less)
  where
    bounded : (b : Bool) (n m : ℕ) → n + 1 ≤ m → cond b n (n + 1) ≤ m
    bounded true n m le = omega (arith, le)
    bounded false n m le = omega (arith, le)

-- as many, where each frame holds a page of its own
pub count_full : (slots : List (Option Held)) (pages : List (List ℕ)) → length pages ≡ length slots → AreApart slots → AreFilled slots → count slots pages ≡ length slots
count_full [] pages long apart filled = len-empty nat_cmp HeldPage
count_full (slot ∷ slots) [] long apart filled = absurd (omega (arith, long))
count_full (None ∷ slots) (page ∷ pages) long apart filled = absurd (filled 0 (omega arith) refl)
count_full (Some h ∷ slots) (page ∷ pages) long apart filled =
    let rest : count slots pages ≡ length slots = count_full slots pages (omega (arith, long)) (λ j k p a b. omega (arith, apart (suc j) (suc k) p a b)) (λ k inside. filled (suc k) (omega (arith, inside))) in
    let absent : IsAbsent slots h.page = λ k e. absurd (omega (arith, apart 0 (suc k) h.page refl e)) in
    let missing : contains_key (from_entries {R = nat_cmp} (entries_of slots pages)) h.page ≡ false = ap is_some (get-from_entries nat_cmp_total (entries_of slots pages) h.page ∙ not_found slots pages h.page absent) in
    omega (arith, rest, counted h page slots pages ∙ cond-false (contains_key (from_entries {R = nat_cmp} (entries_of slots pages)) h.page) (count slots pages) (count slots pages + 1) missing)
