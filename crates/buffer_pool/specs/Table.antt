-- what holds of every table of pages
use Rattle.std.specs.Prelude.{◌≡◌, ℕ, ◌+◌, ◌^◌, ◌<◌, List, Option, Some, None, length, slice_index}
use Rattle.std.specs.Int.Bits.{bit_and}
use Rattle.buffer_pool.specs.declared.held.Held.{Held}
use Rattle.buffer_pool.specs.Linked.{Placed}
use Rattle.buffer_pool.specs.InOrder.{IsInOrder, Walk}
use Rattle.buffer_pool.specs.Rings.{Standing, standing_of}
use Rattle.buffer_pool.specs.Slots.{AreApart, page_at}

-- the bucket of a page
abbrev pub bucket_of_page : ℕ → ℕ → ℕ
bucket_of_page mask page = bit_and page mask

-- the bucket of a frame that holds the page; a frame that holds nothing stands behind all of them
abbrev pub bucket_of_slot : ℕ → Option ℕ → ℕ
bucket_of_slot mask None = mask + 1
bucket_of_slot mask (Some page) = bucket_of_page mask page

-- each frame stands in the bucket of what it holds
pub record AreInBuckets (slots : List (Option Held)) (placed : Placed) (mask : ℕ) : Type 0 where
  pub frames : placed.frames ≡ length slots
  pub heads : length placed.bucket_of ≡ length slots + mask + 2
  pub own : (k : ℕ) → k < length slots → slice_index placed.bucket_of k ≡ bucket_of_slot mask (page_at slots k)

-- no page is held twice, each frame stands in its bucket and in its ring, and dirty pages that were put in order still are
pub record IsTable (slots : List (Option Held)) (placed : Placed) (mask : ℕ) (standing : Standing) (walk : Walk) : Type 0 where
  pub apart : AreApart slots
  pub buckets : AreInBuckets slots placed mask
  pub rings : standing ≡ standing_of slots
  pub order : IsInOrder slots walk
  pub room : length walk.pages ≡ length slots
  pub small : length slots < 2 ^ 32
  pub masked : mask < 2 ^ 31
