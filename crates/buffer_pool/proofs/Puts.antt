-- the map of pages after a frame was given one
use Rattle.std.proofs.Common.{◌≡◌, ◌≢◌, ℕ, zero, suc, ◌<◌, List, [], ◌∷◌, replicate, Option, Some, None, length, set, refl, sym, ◌∙◌, ap, subst, arith, inl, inr, get_or-set_same, get_or-set_other, length-set}
use Rattle.std.specs.Ordering.{nat_cmp}
use Rattle.std.proofs.lemmas.List.{length-replicate}
use Rattle.std.specs.FinMap.{FinMap, from_entries, empty, get, insert, remove, get-from_entries, same_map, nat_cmp-IsAntisymmetric}
use Rattle.std.proofs.lemmas.Cmp.{nat_cmp_total}
use Rattle.std.proofs.lemmas.Bool.{cases_eq}
use Rattle.block_model.specs.NumberMaps.{get_put_here, get_put_apart, get_removed_here, get_removed_apart, numbers_apart, same_Some}
use Rattle.buffer_pool.specs.declared.held.Held.{Held}
use Rattle.buffer_pool.specs.PoolState.{HeldPage, with_page, without_page}
use Rattle.buffer_pool.specs.Slots.{AreApart, IsAbsent, page_of, page_at, slot_at}
use Rattle.buffer_pool.specs.Frames.{entries_of, shown}
use Rattle.buffer_pool.proofs.Entries.{entry, found, found_at, found_other, not_found}

-- the pages of the frames
abbrev pub pages_of : List (Option Held) → List (List ℕ) → FinMap nat_cmp HeldPage
pages_of slots pages = from_entries (entries_of slots pages)

-- what is got is what is found
pub got : (slots : List (Option Held)) (pages : List (List ℕ)) (q : ℕ) → get (pages_of slots pages) q ≡ found slots pages q
got slots pages q = get-from_entries nat_cmp_total (entries_of slots pages) q

module _ (slots : List (Option Held)) (pages : List (List ℕ)) (f : ℕ) (h : Held) (page : List ℕ)
    (inside : f < length slots) (long : length pages ≡ length slots) (own : (k : ℕ) → page_at slots k ≡ Some h.page → k ≡ f) where
  slot_here : slot_at (set slots f (Some h)) f ≡ Some h
  slot_here = get_or-set_same slots f (Some h) None inside

  slot_other : (k : ℕ) → k ≢ f → page_at (set slots f (Some h)) k ≡ page_at slots k
  slot_other k apart = ap page_of (get_or-set_other slots f k (Some h) None apart)

  alone : (k : ℕ) → page_at (set slots f (Some h)) k ≡ Some h.page → k ≡ f
  alone k e = elim (cases_eq k f) [
    | inl is ↦ is
    | inr apart ↦ own k (sym (slot_other k apart) ∙ e)
  ]

  got_here : get (pages_of (set slots f (Some h)) (set pages f page)) h.page ≡ Some (entry h page)
  got_here =
      got (set slots f (Some h)) (set pages f page) h.page
      ∙ found_at (set slots f (Some h)) (set pages f page) f h (omega (arith, inside, length-set slots f (Some h))) (length-set pages f page ∙ long ∙ sym (length-set slots f (Some h))) slot_here alone
      ∙ ap (λ (p : List ℕ). Some (entry h p)) (get_or-set_same pages f page [] (omega (arith, inside, long)))

  got_other : (q : ℕ) → q ≢ h.page → page_at slots f ≢ Some q → get (pages_of (set slots f (Some h)) (set pages f page)) q ≡ get (pages_of slots pages) q
  got_other q apart old =
      got (set slots f (Some h)) (set pages f page) q
      ∙ found_other slots pages f (Some h) page q (λ e. apart (sym (same_Some h.page q e))) old
      ∙ sym (got slots pages q)

  -- the frame held the page or nothing
  pub put_own : ((q : ℕ) → q ≢ h.page → page_at slots f ≢ Some q) → pages_of (set slots f (Some h)) (set pages f page) ≡ insert (pages_of slots pages) h.page (entry h page)
  put_own old = same_map nat_cmp_total nat_cmp-IsAntisymmetric (pages_of (set slots f (Some h)) (set pages f page)) (insert (pages_of slots pages) h.page (entry h page)) (λ q. elim (cases_eq q h.page) [
    | inl is ↦ subst (λ (x : ℕ). get (pages_of (set slots f (Some h)) (set pages f page)) x ≡ get (insert (pages_of slots pages) h.page (entry h page)) x) (sym is)
        (got_here ∙ sym (get_put_here nat_cmp_total (pages_of slots pages) h.page (entry h page)))
    | inr apart ↦ got_other q apart (old q apart) ∙ sym (get_put_apart nat_cmp_total (pages_of slots pages) h.page q (entry h page) (numbers_apart q h.page apart))
  ])

  -- the frame held another page, which no other frame holds
  pub put_for : (v : ℕ) → page_at slots f ≡ Some v → v ≢ h.page → AreApart slots → pages_of (set slots f (Some h)) (set pages f page) ≡ insert (remove (pages_of slots pages) v) h.page (entry h page)
  put_for v held other apart_slots = same_map nat_cmp_total nat_cmp-IsAntisymmetric (pages_of (set slots f (Some h)) (set pages f page)) (insert (remove (pages_of slots pages) v) h.page (entry h page)) (λ q. elim (cases_eq q h.page) [
    | inl is ↦ subst (λ (x : ℕ). get (pages_of (set slots f (Some h)) (set pages f page)) x ≡ get (insert (remove (pages_of slots pages) v) h.page (entry h page)) x) (sym is)
        (got_here ∙ sym (get_put_here nat_cmp_total (remove (pages_of slots pages) v) h.page (entry h page)))
    | inr apart ↦ at_others q apart ∙ sym (get_put_apart nat_cmp_total (remove (pages_of slots pages) v) h.page q (entry h page) (numbers_apart q h.page apart))
  ])
    where
      gone : IsAbsent (set slots f (Some h)) v
      gone k e = elim (cases_eq k f) [
        | inl is ↦ other (sym (same_Some h.page v (sym (ap page_of (ap (slot_at (set slots f (Some h))) is ∙ slot_here)) ∙ e)))
        | inr apart ↦ absurd (apart (apart_slots k f v (sym (slot_other k apart) ∙ e) held))
      ]

      at_others : (q : ℕ) → q ≢ h.page → get (pages_of (set slots f (Some h)) (set pages f page)) q ≡ get (remove (pages_of slots pages) v) q
      at_others q apart = elim (cases_eq q v) [
        | inl is ↦ subst (λ (x : ℕ). get (pages_of (set slots f (Some h)) (set pages f page)) x ≡ get (remove (pages_of slots pages) v) x) (sym is)
            (got (set slots f (Some h)) (set pages f page) v ∙ not_found (set slots f (Some h)) (set pages f page) v gone ∙ sym (get_removed_here nat_cmp_total (pages_of slots pages) v))
        | inr apart_v ↦ got_other q apart (λ e. apart_v (sym (same_Some v q (sym held ∙ e))))
            ∙ sym (get_removed_apart nat_cmp_total (pages_of slots pages) v q (numbers_apart q v apart_v))
      ]

  -- the same of what contracts see
  pub shown_own : ((q : ℕ) → q ≢ h.page → page_at slots f ≢ Some q) → shown (set slots f (Some h)) (set pages f page) ≡ with_page (shown slots pages) h.page (entry h page)
  shown_own old = λ i. record { frames = length-set slots f (Some h) i; pages = put_own old i }

  pub shown_for : (v : ℕ) → page_at slots f ≡ Some v → v ≢ h.page → AreApart slots → shown (set slots f (Some h)) (set pages f page) ≡ with_page (without_page (shown slots pages) v) h.page (entry h page)
  shown_for v held other apart_slots = λ i. record { frames = length-set slots f (Some h) i; pages = put_for v held other apart_slots i }

-- frames that hold nothing
entries_none : (n : ℕ) (pages : List (List ℕ)) → entries_of (replicate n None) pages ≡ []
entries_none zero pages = refl
entries_none (suc n) [] = refl
entries_none (suc n) (page ∷ pages) = entries_none n pages

pub shown_none : (n : ℕ) (pages : List (List ℕ)) → shown (replicate n None) pages ≡ record { frames = n; pages = empty }
shown_none n pages = λ i. record { frames = length-replicate {A = Option Held} n None i; pages = ap (λ (es : List (ℕ × HeldPage)). from_entries {R = nat_cmp} es) (entries_none n pages) i }
