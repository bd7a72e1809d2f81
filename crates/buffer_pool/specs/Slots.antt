-- what the frames of a pool hold
use Rattle.std.specs.Prelude.{◌≡◌, ◌≢◌, ℕ, Bool, true, false, List, Option, Some, None, nat_le, is_some, slice_index_or}
use Rattle.buffer_pool.specs.declared.held.Held.{Held}
use Rattle.buffer_pool.specs.declared.held.Wanted.{Wanted}
use Rattle.buffer_pool.specs.declared.held.Wanted.TheVariants as wanted

-- what a frame holds; one that isn't there holds nothing
abbrev pub slot_at : List (Option Held) → ℕ → Option Held
slot_at slots frame = slice_index_or slots frame None

-- the page that is held
abbrev pub page_of : Option Held → Option ℕ
page_of None = None
page_of (Some held) = Some held.page

-- the page in a frame
abbrev pub page_at : List (Option Held) → ℕ → Option ℕ
page_at slots frame = page_of (slot_at slots frame)

-- a dirty page is held
abbrev pub is_dirty : Option Held → Bool
is_dirty None = false
is_dirty (Some held) = is_some held.log

-- a page that waits for a log change is wanted where that is durable
abbrev pub is_durable : Wanted → ℕ → Bool
is_durable wanted.Clean number = false
is_durable (wanted.Cleanable durable) number = nat_le number durable

-- a clean page is wanted where one is to be let go
abbrev pub is_clean : Wanted → Bool
is_clean wanted.Clean = true
is_clean (wanted.Cleanable durable) = false

abbrev pub log_suits : Wanted → Option ℕ → Bool
log_suits wanted None = is_clean wanted
log_suits wanted (Some number) = is_durable wanted number

-- a page that is wanted is held
abbrev pub suits : Wanted → Option Held → Bool
suits wanted None = false
suits wanted (Some held) = log_suits wanted held.log

-- no page is held twice
abbrev pub AreApart : List (Option Held) → Type 0
AreApart slots = (j k page : ℕ) → page_at slots j ≡ Some page → page_at slots k ≡ Some page → j ≡ k

-- no frame holds the page
abbrev pub IsAbsent : List (Option Held) → ℕ → Type 0
IsAbsent slots page = (k : ℕ) → page_at slots k ≢ Some page
