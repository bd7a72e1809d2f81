-- what is done for a task is done for what words ask for
use Rattle.std.proofs.Common.{◌≡◌, ℕ, List, Option, sym, subst}
use Rattle.disk_trait.specs.Told.{Told}
use Rattle.brin_app.specs.declared.top.Task.{Task}
use Rattle.brin_app.specs.declared.top.Task.TheVariants.{RunStored}
use Rattle.brin_app.specs.ScriptOutput.{IsFreshOutput}
use Rattle.brin_app.specs.StatusCauses.{IsDoneSo}
use Rattle.brin_app.specs.Tasks.{Asks}

pub as_task : {status : ℕ} {old new : Told} {l l' k k' : Option (List ℕ)} {r w : Type 0} (task other : Task) → other ≡ task → IsDoneSo task status old new l l' k k' r w → IsDoneSo other status old new l l' k k' r w
as_task {status} {old} {new} {l} {l'} {k} {k'} {r} {w} task other same done = subst (λ (t : Task). IsDoneSo t status old new l l' k k' r w) (sym same) done

pub performed : {status : ℕ} {old new : Told} {l l' k k' : Option (List ℕ)} {r w : Type 0} (words : List (List ℕ)) (task : Task) → ((other : Task) → Asks words other → other ≡ task)
    → IsDoneSo task status old new l l' k k' r w → (other : Task) → Asks words other → IsDoneSo other status old new l l' k k' r w
performed words task alone done other asks = as_task task other (alone other asks) done

-- no fault of the source was met
pub with_source : {status : ℕ} {old new : Told} {l l' k k' : Option (List ℕ)} {r w : Type 0} {task : Task} → IsDoneSo task status old new l l' k k' ⊥ w → IsDoneSo task status old new l l' k k' r w
with_source done = record {
  known = done.known;
  output = done.output;
  read_fault = λ e. absurd (done.read_fault e);
  write_fault = done.write_fault;
  disk_fault = done.disk_fault;
  no_store = done.no_store;
  refused_disk = done.refused_disk;
  damaged = done.damaged;
  no_usage = done.no_usage;
  spent = done.spent;
  complete = λ _ no_write no_disk. done.complete (λ none. none) no_write no_disk;
}

-- by what is answered, and the disk that comes back
module _ {D : Type 0} (told : D → Told) (old : Told) (status answered : ℕ) (disk back : D) (said : answered ≡ status) (same : back ≡ disk) where
  pub answered_done : {l l' k k' : Option (List ℕ)} {r w : Type 0} → IsDoneSo RunStored status old (told disk) l l' k k' r w → IsDoneSo RunStored answered old (told back) l l' k k' r w
  answered_done {l} {l'} {k} {k'} {r} {w} done =
      subst (λ (s : ℕ). IsDoneSo RunStored s old (told back) l l' k k' r w) (sym said) (subst (λ (d : D). IsDoneSo RunStored status old (told d) l l' k k' r w) (sym same) done)

  pub answered_fresh : {l l' k k' : Option (List ℕ)} → IsFreshOutput status old (told disk) l l' k k' → IsFreshOutput answered old (told back) l l' k k'
  answered_fresh {l} {l'} {k} {k'} output =
      subst (λ (s : ℕ). IsFreshOutput s old (told back) l l' k k') (sym said) (subst (λ (d : D). IsFreshOutput status old (told d) l l' k k') (sym same) output)
