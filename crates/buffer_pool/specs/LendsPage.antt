-- a page that is lent to be changed in place
use Rattle.std.specs.Prelude.{ℕ, List, Option, Some}
use Rattle.std.specs.Borrow.{Fml, LendsIf, MutBor}
use Rattle.page_layout.specs.contracts.page.Page as page_contract
use Rattle.buffer_pool.specs.contracts.pool.Pool.{the_row}
use Rattle.buffer_pool.specs.PoolState.{PoolState, with_page}

-- the pool ends with the page as it was left, dirty, where it holds it, and else as it was
abbrev pub LendsPage : MutBor PoolState → ℕ → ℕ → Option (MutBor (List ℕ)) → Fml
LendsPage pool page log lent = LendsIf the_row page_contract.the_row pool lent (λ (content : List ℕ). with_page pool.now page (record { content = content; log = Some log })) pool.now
