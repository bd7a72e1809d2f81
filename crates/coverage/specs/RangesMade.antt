-- The ranges to which a statement gives a final tuple in a run.
use Rattle.std.specs.Prelude.{◌≡◌, ◌⊎◌, ◌↔◌, ℕ, List}
use Rattle.coverage.specs.Counts.{NamesFinal}
use Rattle.coverage.specs.Table.{Job, Desummarising, Task, Resting, Considers, Maintains, Prunes, SweepsFrom, Sweeps, Restarts, TableState, index_view_at}
use Rattle.coverage.specs.StepsLeft.{IsIn, AreApart}
use Rattle.coverage.specs.Accounts.{Accounts, AccountsRun, AccountsDone, AccountsNext}

-- a summarise, work or a vacuum
abbrev pub IsBuilder : Job → Type 0
IsBuilder (Desummarising only) = ⊥
IsBuilder job = Unit

abbrev pub GivesFinals : Task → Type 0
GivesFinals (Considers job at range) = IsBuilder job
GivesFinals (Maintains job at range phase) = IsBuilder job
GivesFinals (Prunes extent next) = Unit
GivesFinals (SweepsFrom at from) = Unit
GivesFinals (Sweeps at page) = Unit
GivesFinals (Restarts at) = Unit
GivesFinals task = ⊥

-- the map of an index comes to name a final tuple for a range
abbrev pub IsMadeFinal : (w v : TableState) → (at range : ℕ) → Type 0
IsMadeFinal w v at range = NamesFinal (index_view_at at v) range × (NamesFinal (index_view_at at w) range → ⊥)

-- a step of the session in the run gives the range a final tuple
abbrev pub MakesFinal : (s at range : ℕ) {steps : List ℕ} {w v : TableState} {a b : Accounts} → AccountsRun steps w v a b → Type 0
MakesFinal s at range (AccountsDone w a) = ⊥
MakesFinal s at range (AccountsNext n rest w u v a b c step adds run) = ((n ≡ s) × IsMadeFinal w u at range) ⊎ MakesFinal s at range run

-- the session has a statement in hand before each step of the run
abbrev pub IsInHand : (s : ℕ) {steps : List ℕ} {w v : TableState} {a b : Accounts} → AccountsRun steps w v a b → Type 0
IsInHand s (AccountsDone w a) = Unit
IsInHand s (AccountsNext n rest w u v a b c step adds run) = (w.task s ≡ Resting → ⊥) × IsInHand s run

-- these are the ranges to which the session gives a final tuple in the run, each by its index and its number, and each of them once
pub record AreMadeFinal (s : ℕ) {steps : List ℕ} {w v : TableState} {a b : Accounts} (run : AccountsRun steps w v a b) (made : List (ℕ × ℕ)) : Type 0 where
  pub apart : AreApart made
  pub all : (at range : ℕ) → IsIn made (at, range) ↔ MakesFinal s at range run
