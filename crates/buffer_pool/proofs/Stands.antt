-- frames in the ring of what they hold
use Rattle.std.proofs.Common.{◌≡◌, ◌≢◌, ℕ, ◌<◌, Bool, true, false, List, Option, Some, None, length, map, get_or, refl, sym, ◌∙◌, ap, arith, inl, inr}
use Rattle.std.specs.Prelude.{is_some, IfNone}
use Rattle.std.specs.List.{Contains}
use Rattle.std.proofs.lemmas.Bool.{cases_lt, false≢true}
use Rattle.std.proofs.lemmas.List.{get_or-map, get_or_past, length-map}
use Rattle.buffer_pool.specs.declared.held.Held.{Held}
use Rattle.buffer_pool.specs.declared.held.Wanted.TheVariants as wanted
use Rattle.buffer_pool.specs.Rings.{IsIn, Standing, standing_of}
use Rattle.buffer_pool.specs.Slots.{is_dirty, log_suits, page_of, slot_at, suits}

-- rings are as long as there are frames
pub clean_long : (slots : List (Option Held)) (standing : Standing) → standing ≡ standing_of slots → length standing.clean ≡ length slots
clean_long slots standing is = ap (λ (s : Standing). length s.clean) is ∙ length-map slots (suits wanted.Clean)

pub dirty_long : (slots : List (Option Held)) (standing : Standing) → standing ≡ standing_of slots → length standing.dirty ≡ length slots
dirty_long slots standing is = ap (λ (s : Standing). length s.dirty) is ∙ length-map slots is_dirty

-- what no frame of a ring passes, no frame does that could stand in it alone
pub none_of : (p q : Option Held → Bool) (slots : List (Option Held)) (marks : List Bool) → marks ≡ map p slots → ((slot : Option Held) → q slot ≡ true → p slot ≡ true)
    → ((k : ℕ) → k < length marks → IsIn marks k → q (slot_at slots k) ≡ false) → (k : ℕ) → k < length slots → q (slot_at slots k) ≡ false
none_of p q slots marks is within none k inside = by_case (q (slot_at slots k)) refl
  where
    by_case : (b : Bool) → q (slot_at slots k) ≡ b → q (slot_at slots k) ≡ false
    by_case false e = e
    by_case true e =
        none k (omega (arith, inside, ap (λ (m : List Bool). length m) is, length-map slots p))
        (ap (λ (m : List Bool). get_or m k false) is ∙ get_or-map p slots k None false inside ∙ within (slot_at slots k) e)

log_dirty : (durable : ℕ) (log : Option ℕ) → log_suits (wanted.Cleanable durable) log ≡ true → is_some log ≡ true
log_dirty durable None e = absurd (false≢true e)
log_dirty durable (Some number) e = refl

-- a page that can be cleaned is dirty
pub suits_dirty : (durable : ℕ) (slot : Option Held) → suits (wanted.Cleanable durable) slot ≡ true → is_dirty slot ≡ true
suits_dirty durable None e = absurd (false≢true e)
suits_dirty durable (Some h) e = log_dirty durable h.log e

not_clean : (log : Option ℕ) → log_suits wanted.Clean log ≡ false → is_some log ≡ true
not_clean None e = absurd (false≢true (sym e))
not_clean (Some number) e = refl

-- a page that isn't clean is dirty
pub other_dirty : (slot : Option Held) → page_of slot ≢ None → suits wanted.Clean slot ≡ false → is_dirty slot ≡ true
other_dirty None some e = absurd (some refl)
other_dirty (Some h) some e = not_clean h.log e

-- dirty pages stand in frames
dirty_inside : (slots : List (Option Held)) (k : ℕ) → is_dirty (slot_at slots k) ≡ true → k < length slots
dirty_inside slots k e = elim (cases_lt k (length slots)) [
  | inl inside ↦ inside
  | inr past ↦ absurd (false≢true (sym (ap is_dirty (get_or_past slots k None past)) ∙ e))
]

-- each of which is among those of the ring
pub dirty_among : (slots : List (Option Held)) (standing : Standing) (frames : List ℕ) → standing ≡ standing_of slots → ((k : ℕ) → k < length standing.dirty → IsIn standing.dirty k → Contains frames k)
    → (k : ℕ) → is_dirty (slot_at slots k) ≡ true → Contains frames k
dirty_among slots standing frames is all k e =
    let inside : k < length slots = dirty_inside slots k e in
    all k (omega (arith, inside, dirty_long slots standing is)) (ap (λ (s : Standing). get_or s.dirty k false) is ∙ get_or-map is_dirty slots k None false inside ∙ e)

-- what follows where there is nothing
pub none_then : {A : Type 0} (r : Option A) (P Q : Type 0) → (P → Q) → IfNone r P → IfNone r Q
none_then None P Q f p = f p
none_then (Some x) P Q f p = p
