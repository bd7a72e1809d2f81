-- a pool of pages as a finite map
use Rattle.std.specs.Prelude.{◌≡◌, ℕ, ◌≤◌, List, Option, Some, None, refl}
use Rattle.std.specs.Coded.{Coded, code_by, coded×, coded_ℕ, coded_list, coded_option}
use Rattle.std.specs.Ordering.{nat_cmp}
use Rattle.std.specs.FinMap as map

-- A page that is held: its bytes, and the number of the log change that it waits for. One that waits for none is clean.
pub record HeldPage : Type 0 where
  pub content : List ℕ
  pub log : Option ℕ

-- how many frames there are, and the pages that are held, by their numbers
pub record PoolState : Type 0 where
  pub frames : ℕ
  pub pages : map.FinMap nat_cmp HeldPage

-- how these are stored
abbrev pub coded_page : Coded HeldPage
coded_page = code_by (List ℕ × Option ℕ) (coded× (coded_list coded_ℕ) (coded_option coded_ℕ)) (λ p. (p.content, p.log)) (λ p. record { content = p.0; log = p.1 }) (λ _. refl)

abbrev pub coded_pool : Coded PoolState
coded_pool = code_by (ℕ × map.FinMap nat_cmp HeldPage) (coded× coded_ℕ (map.code coded_ℕ coded_page)) (λ p. (p.frames, p.pages)) (λ p. record { frames = p.0; pages = p.1 }) (λ _. refl)

-- what is held at a page's number
abbrev pub held_at : PoolState → ℕ → Option HeldPage
held_at pool page = map.get pool.pages page

-- the pool with that page, or without it, and all else as it is
abbrev pub with_page : PoolState → ℕ → HeldPage → PoolState
with_page pool page held = record pool { pages = map.insert pool.pages page held }

abbrev pub without_page : PoolState → ℕ → PoolState
without_page pool page = record pool { pages = map.remove pool.pages page }

-- no more pages are held than there are frames
abbrev pub IsBounded : PoolState → Type 0
IsBounded pool = map.len pool.pages ≤ pool.frames

-- each frame holds a page
abbrev pub IsFull : PoolState → Type 0
IsFull pool = map.len pool.pages ≡ pool.frames

-- the page is held and clean
abbrev pub IsClean : PoolState → ℕ → Type 0
IsClean pool page = (held : HeldPage) × (held_at pool page ≡ Some held) × (held.log ≡ None)

-- the page is held and waits for a log change of that number
abbrev pub IsDirty : PoolState → ℕ → ℕ → Type 0
IsDirty pool page log = (held : HeldPage) × (held_at pool page ≡ Some held) × (held.log ≡ Some log)
