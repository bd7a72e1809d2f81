-- how large a disk words want
use Rattle.std.proofs.Common.{◌≡◌, ℕ, List, Some, None, refl, sym, ap, inl, inr}
use Rattle.store_layout.specs.DiskLayout.{DiskLayout, disk_size}
use Rattle.brin_app.specs.declared.top.Task.{Task}
use Rattle.brin_app.specs.declared.top.Task.TheVariants.{Demo, Init, Run, RunStored, Threads, ThreadsStored}
use Rattle.brin_app.specs.Tasks.{Asks}
use Rattle.brin_app.specs.WantedSizes.{IsWantedSize, MakesStore, size_for}

size_is : (n m : ℕ) → Some m ≡ Some n → n ≡ m
size_is n m e = cc

no_size : (n : ℕ) → None ≡ Some n → ⊥
no_size n e = cc

made_by : (words : List (List ℕ)) (task : Task) (n : ℕ) → Asks words task → size_for task ≡ Some n → (layout : DiskLayout) × MakesStore words layout × (n ≡ disk_size layout)
made_by words (Init layout) n asks e = (layout, inl (inl asks), size_is n (disk_size layout) e)
made_by words (Run layout) n asks e = (layout, inl (inr (inl asks)), size_is n (disk_size layout) e)
made_by words (Demo layout seed rows) n asks e = (layout, inl (inr (inr (seed, rows, asks))), size_is n (disk_size layout) e)
made_by words (Threads layout) n asks e = (layout, inr asks, size_is n (disk_size layout) e)
made_by words ThreadsStored n asks e = absurd (no_size n e)
made_by words RunStored n asks e = absurd (no_size n e)

-- words that ask for one task want its size
pub task_size : (words : List (List ℕ)) (task : Task) → Asks words task → ((other : Task) → Asks words other → other ≡ task) → IsWantedSize words (size_for task)
task_size words task asks alone = record {
  asked = λ layout new. elim new [
    | inl (inl init) ↦ sym (ap size_for (alone (Init layout) init))
    | inl (inr (inl run)) ↦ sym (ap size_for (alone (Run layout) run))
    | inl (inr (inr demo)) ↦ sym (ap size_for (alone (Demo layout demo.0 demo.1) demo.2))
    | inr threads ↦ sym (ap size_for (alone (Threads layout) threads))
  ];
  only = λ n e. made_by words task n asks e;
  stored = λ run. sym (ap size_for (alone RunStored run));
  threads = λ run. sym (ap size_for (alone ThreadsStored run));
}

-- words that ask for nothing want none
pub no_task_size : (words : List (List ℕ)) → ((task : Task) → ¬ (Asks words task)) → IsWantedSize words None
no_task_size words nothing = record {
  asked = λ layout new. elim new [
    | inl (inl init) ↦ absurd (nothing (Init layout) init)
    | inl (inr (inl run)) ↦ absurd (nothing (Run layout) run)
    | inl (inr (inr demo)) ↦ absurd (nothing (Demo layout demo.0 demo.1) demo.2)
    | inr threads ↦ absurd (nothing (Threads layout) threads)
  ];
  only = λ n e. absurd (no_size n e);
  stored = λ _. refl;
  threads = λ _. refl;
}
