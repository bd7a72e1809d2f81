-- what follows from the clauses of the program
use Rattle.std.proofs.Common.{◌≡◌, ◌⊎◌, ℕ, List, Some, ◌∙◌, subst, inl, inr}
use Rattle.std.specs.Prelude.{IsTrue}
use Rattle.block_model.specs.DatabaseState.{initial_state}
use Rattle.block_model.specs.TableState.{TableState}
use Rattle.disk_trait.specs.Told.{Told}
use Rattle.brin_app.specs.DiskLayout.{DiskLayout}
use Rattle.brin_app.specs.declared.top.Task.TheVariants.{Threads}
use Rattle.brin_app.specs.Holding.{HasRun, HoldsOn, HoldsSure, StaysStore}
use Rattle.brin_app.specs.Place.{database_at}
use Rattle.brin_app.specs.ScriptOutput.{IsMade, IsStoredOutput}
use Rattle.brin_app.specs.Tasks.{AsksForThreads, AsksOnlyForThreads}
use Rattle.brin_app.specs.WantedSizes.{AsksForNew, MakesStore}
use Rattle.brin_app.proofs.Doing.{table_at}
use Rattle.brin_app.proofs.Holding.{run_only}
use Rattle.rerun.specs.declared.streams.Streams.{Streams}
use Rattle.rerun.specs.Turns.{IsRunOver}

-- what is said of words that don't ask for `threads`
pub holds_alone : {words : List (List ℕ)} {status : ℕ} {old new : Told} → AsksOnlyForThreads words ⊎ HoldsOn words status old new → ¬ (AsksForThreads words) → HoldsOn words status old new
holds_alone (inl only) alone = absurd (alone (only.0, only.1, only.2))
holds_alone (inr holds) alone = holds

-- they make a store alone, with a script or with the demo
pub asks_new : {words : List (List ℕ)} {layout : DiskLayout} → MakesStore words layout → ¬ (AsksForThreads words) → AsksForNew words layout
asks_new (inl new) alone = new
asks_new {words} {layout} (inr threads) alone = absurd (alone (Threads layout, threads, tt))

-- a store that was made has the empty table for sure
pub empty_sure : (status : ℕ) (layout : DiskLayout) (old new : Told) → IsMade status layout old new → StaysStore status new → status ≡ 0 → IsTrue old.tells_contents → HoldsSure new layout initial_state.table
empty_sure status layout old new made stays done tells = stays.table layout initial_state.table (λ image now. (_, made.made done image now, (made.holds done tells).image))

-- a script over a table that the disk held for sure leaves its own table so
pub runs_over : (layout : DiskLayout) (table : TableState) (status : ℕ) (old new : Told) (before behind : Streams) → HoldsSure old layout table → StaysStore status new → HasRun status
    → IsStoredOutput status old new (Some before.script.left) (Some behind.script.left) (Some before.texts.taken) (Some behind.texts.taken) → IsRunOver layout table status old new before behind
runs_over layout table status old new before behind sure stays has output =
    let only = run_only status has in
    elim (output sure.tells_contents layout table sure.holds) [
      | inl un ↦ elim un.why [
        | inl six ↦ absurd (only.0 six)
        | inr seven ↦ absurd (only.1 seven)
      ]
      | inr run ↦
          record {
            start = run.0;
            from = table_at run.0.place _ run.1.opening.opening_is run.1.opening.journal;
            begins = run.1.opening.journal;
            opened = run.2;
            run = run.3;
            holds = subst (λ (m : DiskLayout). HoldsSure new m (database_at run.3.after).table) (run.3.further.layout ∙ run.1.opening.layout_is)
                (stays.table run.3.after.layout (database_at run.3.after).table (run.3.whole only.0));
          }
    ]
