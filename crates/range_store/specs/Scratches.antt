-- bytes in room that was taken once
use Rattle.std.specs.Prelude.{◌≡◌, ℕ, ◌≤◌, List, length}
use Rattle.block_model.specs.declared.limits.TheConstants.{PAGE_SIZE}

-- there is room for a page, and no more bytes are held
pub record IsScratch (bytes : List ℕ) (size : ℕ) : Type 0 where
  pub room : length bytes ≡ PAGE_SIZE
  pub held : size ≤ PAGE_SIZE
