-- what holds of tables of pages
use Rattle.std.proofs.Common.{◌≡◌, ◌≢◌, ℕ, zero, suc, ◌+◌, ◌<◌, ◌^◌, Bool, false, cond, List, ◌∷◌, Option, Some, None, length, map, set, replicate, get_or, refl, sym, ◌∙◌, ap, subst, arith, inl, inr, get_or-set_same, get_or-set_other, length-set}
use Rattle.std.specs.Prelude.{is_some}
use Rattle.std.proofs.lemmas.List.{length-replicate, map-set}
use Rattle.std.proofs.lemmas.Nat.{and_le_r}
use Rattle.std.proofs.lemmas.Bool.{cases_eq}
use Rattle.block_model.specs.NumberMaps.{none_Some}
use Rattle.buffer_pool.specs.declared.held.Held.{Held}
use Rattle.buffer_pool.specs.declared.held.Wanted.TheVariants as wanted
use Rattle.buffer_pool.specs.InOrder.{Walk}
use Rattle.buffer_pool.specs.Linked.{Placed}
use Rattle.buffer_pool.specs.Rings.{Standing, standing_of}
use Rattle.buffer_pool.specs.Slots.{AreApart, is_dirty, log_suits, page_of, page_at, slot_at, suits}
use Rattle.buffer_pool.specs.Table.{IsTable, bucket_of_page, bucket_of_slot}
use Rattle.buffer_pool.proofs.Orders.{order_after}

-- ---- nothing is held

empty_slot : (n k : ℕ) → slot_at (replicate n None) k ≡ None
empty_slot zero k = refl
empty_slot (suc n) zero = refl
empty_slot (suc n) (suc k) = empty_slot n k

map_none : (p : Option Held → Bool) (n : ℕ) → p None ≡ false → map p (replicate n None) ≡ replicate n false
map_none p zero e = refl
map_none p (suc n) e = λ i. e i ∷ map_none p n e i

-- a table whose frames all stand behind the buckets of pages
pub empty_table : (n mask : ℕ) (placed : Placed) (standing : Standing) (walk : Walk) → placed.frames ≡ n → length placed.bucket_of ≡ n + (mask + 1) + 1 → ((k : ℕ) → k < n → get_or placed.bucket_of k 0 ≡ mask + 1)
    → standing ≡ record { clean = replicate n false; dirty = replicate n false } → walk ≡ record { pages = replicate n 0; count = 0; next = 0; from = None } → n < 2 ^ 32 → mask < 2 ^ 31
    → IsTable (replicate n None) placed mask standing walk
empty_table n mask placed standing walk frames heads own stands is small masked = record {
  apart = λ j k page held _. absurd (none_Some page (sym (ap page_of (empty_slot n j)) ∙ held));
  buckets = record {
    frames = frames ∙ sym long;
    heads = omega (arith, heads, long);
    own = λ k inside. own k (omega (arith, inside, long)) ∙ ap (bucket_of_slot mask) (sym (ap page_of (empty_slot n k)));
  };
  rings = stands ∙ (λ i. record { clean = sym (map_none (suits wanted.Clean) n refl) i; dirty = sym (map_none is_dirty n refl) i });
  order = λ from e. absurd (none_Some from (sym (ap (λ (w : Walk). w.from) is) ∙ e));
  room = ap (λ (w : Walk). length w.pages) is ∙ length-replicate n 0 ∙ sym long;
  small = omega (arith, small, long);
  masked = masked;
}
  where
    long : length {A = Option Held} (replicate n None) ≡ n
    long = length-replicate n None

-- ---- which frames are empty

-- what is behind the buckets of pages is an empty frame, and nothing else
pub behind_is_empty : (mask : ℕ) (page : Option ℕ) → bucket_of_slot mask page ≡ mask + 1 → page ≡ None
behind_is_empty mask None is = refl
behind_is_empty mask (Some p) is = absurd (omega (arith, and_le_r p mask, is))

-- ---- after a frame was given a page

module _ (slots : List (Option Held)) (placed : Placed) (mask : ℕ) (standing : Standing) (walk : Walk) (table : IsTable slots placed mask standing walk) (f : ℕ) (h : Held) (inside : f < length slots)
    (own : (k : ℕ) → page_at slots k ≡ Some h.page → k ≡ f) where
  as_long : length (set slots f (Some h)) ≡ length slots
  as_long = length-set slots f (Some h)

  other : (k : ℕ) → k ≢ f → page_at (set slots f (Some h)) k ≡ page_at slots k
  other k apart = ap page_of (get_or-set_other slots f k (Some h) None apart)

  same : (k : ℕ) → k ≡ f → page_at (set slots f (Some h)) k ≡ Some h.page
  same k is = ap page_of (ap (slot_at (set slots f (Some h))) is ∙ get_or-set_same slots f (Some h) None inside)

  -- another frame that holds what this one does
  clash : (k page : ℕ) → k ≢ f → Some h.page ≡ Some page → page_at slots k ≡ Some page → k ≡ f
  clash k page apart is held = own k (held ∙ sym is)

  apart_after : AreApart (set slots f (Some h))
  apart_after j k page held_j held_k = elim (cases_eq j f) [
    | inl j_is ↦ elim (cases_eq k f) [
      | inl k_is ↦ j_is ∙ sym k_is
      | inr k_apart ↦ absurd (k_apart (clash k page k_apart (sym (same j j_is) ∙ held_j) (sym (other k k_apart) ∙ held_k)))
    ]
    | inr j_apart ↦ elim (cases_eq k f) [
      | inl k_is ↦ absurd (j_apart (clash j page j_apart (sym (same k k_is) ∙ held_k) (sym (other j j_apart) ∙ held_j)))
      | inr k_apart ↦ table.apart j k page (sym (other j j_apart) ∙ held_j) (sym (other k k_apart) ∙ held_k)
    ]
  ]

  rings_after : record { clean = set standing.clean f (log_suits wanted.Clean h.log); dirty = set standing.dirty f (is_some h.log) } ≡ standing_of (set slots f (Some h))
  rings_after = λ i. record {
    clean = (ap (λ (s : Standing). set s.clean f (log_suits wanted.Clean h.log)) table.rings ∙ sym (map-set (suits wanted.Clean) slots f (Some h))) i;
    dirty = (ap (λ (s : Standing). set s.dirty f (is_some h.log)) table.rings ∙ sym (map-set is_dirty slots f (Some h))) i;
  }

  pub table_after : IsTable (set slots f (Some h)) (record placed { bucket_of = set placed.bucket_of f (bucket_of_page mask h.page) }) mask
      (record { clean = set standing.clean f (log_suits wanted.Clean h.log); dirty = set standing.dirty f (is_some h.log) }) (record walk { from = cond (is_some h.log) None walk.from })
  table_after = record {
    apart = apart_after;
    buckets = record {
      frames = table.buckets.frames ∙ sym as_long;
      heads = omega (arith, length-set placed.bucket_of f (bucket_of_page mask h.page), table.buckets.heads, as_long);
      own = λ k within. elim (cases_eq k f) [
        | inl is ↦
            ap (λ (x : ℕ). get_or (set placed.bucket_of f (bucket_of_page mask h.page)) x 0) is
            ∙ get_or-set_same placed.bucket_of f (bucket_of_page mask h.page) 0 (omega (arith, table.buckets.heads, inside))
            ∙ ap (bucket_of_slot mask) (sym (same k is))
        | inr apart ↦
            get_or-set_other placed.bucket_of f k (bucket_of_page mask h.page) 0 apart
            ∙ table.buckets.own k (omega (arith, within, as_long))
            ∙ ap (bucket_of_slot mask) (sym (other k apart))
      ];
    };
    rings = rings_after;
    order = order_after slots walk f h inside table.order;
    room = table.room ∙ sym as_long;
    small = omega (arith, table.small, as_long);
    masked = table.masked;
  }

-- the same, said of equal parts
pub on_parts : (slots : List (Option Held)) (placed placed' : Placed) (mask : ℕ) (standing standing' : Standing) (walk walk' : Walk) → placed' ≡ placed → standing' ≡ standing → walk' ≡ walk
    → IsTable slots placed mask standing walk → IsTable slots placed' mask standing' walk'
on_parts slots placed placed' mask standing standing' walk walk' ep es ew it =
    subst (λ (p : Placed). IsTable slots p mask standing' walk') (sym ep)
    (subst (λ (s : Standing). IsTable slots placed mask s walk') (sym es)
    (subst (λ (w : Walk). IsTable slots placed mask standing w) (sym ew) it))
