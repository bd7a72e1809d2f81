-- a script of workers over a new store, by a name that says what the call is given
use Rattle.std.proofs.Common.{◌≡◌, ℕ, List, Option, subst, inl, inr}
use Rattle.block_model.specs.DatabaseState.{DatabaseState, initial_state}
use Rattle.disk_trait.specs.Told.{Told}
use Rattle.brin_app.specs.declared.top.Task.TheVariants.{Threads}
use Rattle.brin_app.specs.DiskLayout.{DiskLayout}
use Rattle.brin_app.specs.Holding.{HasRun}
use Rattle.brin_app.specs.Threads.{HasWorkers, IsWorkedFor}
use Rattle.brin_app.proofs.Holding.{run_only}

-- where the script was run, its workers ran it from the empty database on
pub worked_named : (status : ℕ) (opening : DatabaseState) (named made : DiskLayout) (script bytes : List ℕ) (old new : Told) (l l' k k' : Option (List ℕ)) → opening ≡ initial_state → named ≡ made → script ≡ bytes → HasRun status
    → IsWorkedFor (Threads made) status old new l l' k k' opening named script → HasWorkers status initial_state made bytes new k k'
worked_named status opening named made script bytes old new l l' k k' opens laid says has (inl un) = elim un.why [
  | inl six ↦ absurd ((run_only status has).0 six)
  | inr (inl seven) ↦ absurd ((run_only status has).1 seven)
  | inr (inr nine) ↦ absurd ((run_only status has).2 nine)
]
worked_named status opening named made script bytes old new l l' k k' opens laid says has (inr run) =
    subst (λ (o : DatabaseState). HasWorkers status o made bytes new k k') opens
    (subst (λ (m : DiskLayout). HasWorkers status opening m bytes new k k') laid (subst (λ (s : List ℕ). HasWorkers status opening named s new k k') says run.1))
