-- commits of transactions
use Rattle.std.specs.Prelude.{◌≡◌, ℕ, List, [], ◌∷◌, ◌++◌, Option, None, Some, if◌then◌else◌}
use Rattle.std.specs.FinMap as map
use Rattle.block_model.specs.declared.request.Entry.{Entry}
use Rattle.block_model.specs.declared.request.Request.{Request}
use Rattle.block_model.specs.declared.request.Request.TheVariants.{Commit}
use Rattle.block_model.specs.DatabaseState.{DatabaseState, OpenTransaction}
use Rattle.block_model.specs.RequestEffect.{after_request}

-- the request commits this transaction
pub record Commits (s : DatabaseState) (e : Entry) (x : OpenTransaction) : Type 0 where
  pub commit : e.request ≡ Commit
  pub under_way : map.get s.sessions e.session ≡ Some x

-- the transaction that a request merges, if it does: a commit's that hasn't failed
abbrev pub merged_of : Option OpenTransaction → Request → List OpenTransaction
merged_of (Some x) Commit = if x.failed then [] else x ∷ []
merged_of o request = []

-- in that state
abbrev pub merged_by : DatabaseState → Entry → List OpenTransaction
merged_by s e = merged_of (map.get s.sessions e.session) e.request

-- the transactions that a journal merges, in the order of their commits, each as it stood then
abbrev pub committed_in : DatabaseState → List Entry → List OpenTransaction
committed_in s [] = []
committed_in s (e ∷ es) = merged_by s e ++ committed_in (after_request s e) es

-- the next number and the other sessions' transactions stay, and the session has none any more
pub record EndsAlone (s after : DatabaseState) (n : ℕ) : Type 0 where
  pub next : after.next ≡ s.next
  pub gone : map.get after.sessions n ≡ None
  pub others : (m : ℕ) → (m ≡ n → ⊥) → map.get after.sessions m ≡ map.get s.sessions m
