-- a disk behind a name, as the disk in it is
use Rattle.std.proofs.Common.{◌≡◌, ℕ, Bool, true, false, List, Option, refl, sym, subst}
use Rattle.std.proofs.lemmas.Bool.{and_parts, false≢true}
use Rattle.std.specs.Prelude.{IsTrue}
use Rattle.block_model.specs.DatabaseState.{DatabaseState}
use Rattle.disk_trait.specs.Told.{Told}
use Rattle.store_layout.specs.DiskLayout.{DiskLayout}
use Rattle.session_core.specs.Started.{HoldsImage}
use Rattle.session_stepper.specs.NamedTold.{told_to}
use Rattle.brin_app.specs.declared.top.Task.TheVariants.{ThreadsStored}
use Rattle.brin_app.specs.StatusCauses.{IsDoneSo}
use Rattle.brin_app.specs.Threads.{IsGivenStored, IsWorkedFor}
use Rattle.brin_app.proofs.Doing.{HaveOneLayout, OpenToOneMap}
use Rattle.brin_app.proofs.Holding.{image_held}

-- an honest name hides nothing
as_told : (honest : Bool) (disk : Told) → IsTrue honest → told_to honest disk ≡ disk
as_told true disk _ = refl
as_told false disk never = absurd (false≢true never)

-- a name that isn't hides all bytes
image_behind : (honest : Bool) (disk : Told) → (IsTrue honest → HoldsImage disk) → HoldsImage (told_to honest disk)
image_behind honest disk holds tells layout pages opens = let parts = and_parts honest disk.tells_contents tells in holds parts.0 parts.1 layout pages opens

-- the store of which an honest name speaks is one that a stop left
pub given_image : HaveOneLayout → ((layout : DiskLayout) → OpenToOneMap layout) → (disk : Told) (left : Option (List ℕ)) (opening : DatabaseState) (layout : DiskLayout) (script : List ℕ)
    → IsGivenStored disk left opening layout script → HoldsImage disk
given_image one map disk left opening layout script given = image_held one map disk layout given.table (given.holds.pages, given.holds.opens, given.holds.image)

-- where the disk behind the name is this one
module _ (honest : Bool) (disk named : Told) (is : named ≡ told_to honest disk) where
  pub image_named : (IsTrue honest → HoldsImage disk) → HoldsImage named
  image_named holds = subst HoldsImage (sym is) (image_behind honest disk holds)

  pub faults_named : (n : ℕ) → n ≡ disk.faults → n ≡ named.faults
  faults_named n same = subst (λ (d : Told). n ≡ d.faults) (sym is) same

  pub as_named : IsTrue honest → named ≡ disk
  as_named speaks = subst (λ (d : Told). d ≡ disk) (sym is) (as_told honest disk speaks)

module _ (status : ℕ) (l l' k k' : Option (List ℕ)) where
  pub worked_unnamed : (old new named back : Told) → named ≡ old → back ≡ new → (opening : DatabaseState) (layout : DiskLayout) (script : List ℕ) → IsWorkedFor ThreadsStored status named back l l' k k' opening layout script
      → IsWorkedFor ThreadsStored status old new l l' k k' opening layout script
  worked_unnamed old new named back was is opening layout script worked =
      subst (λ (d : Told). IsWorkedFor ThreadsStored status old d l l' k k' opening layout script) is (subst (λ (d : Told). IsWorkedFor ThreadsStored status d back l l' k k' opening layout script) was worked)

  done_behind : {r w : Type 0} (honest : Bool) (old new : Told) → IsDoneSo ThreadsStored status (told_to honest old) (told_to honest new) l l' k k' r w → IsDoneSo ThreadsStored status old new l l' k k' r w
  done_behind honest old new done = record {
    known = done.known;
    output = done.output;
    read_fault = done.read_fault;
    write_fault = done.write_fault;
    disk_fault = done.disk_fault;
    no_store = λ _. tt;
    refused_disk = λ nine. record { contents = (done.refused_disk nine).contents; idle = (done.refused_disk nine).idle };
    damaged = λ _. tt;
    no_usage = done.no_usage;
    spent = done.spent;
    complete = λ _ _ _. tt;
  }

  pub done_unnamed : {r w : Type 0} (honest : Bool) (old new named back : Told) → named ≡ told_to honest old → back ≡ told_to honest new → IsDoneSo ThreadsStored status named back l l' k k' r w
      → IsDoneSo ThreadsStored status old new l l' k k' r w
  done_unnamed {r} {w} honest old new named back was is done =
      done_behind honest old new
      (subst (λ (d : Told). IsDoneSo ThreadsStored status (told_to honest old) d l l' k k' r w) is (subst (λ (d : Told). IsDoneSo ThreadsStored status d back l l' k k' r w) was done))
