-- a log of which nothing is redone yet
use Rattle.std.proofs.Common.{◌≡◌, inl, ℕ, Bool, false, List, [], refl, sym, ◌∙◌, subst}
use Rattle.std.specs.Prelude.{IsTrue, None, slice_index_or}
use Rattle.std.specs.FinMap as map
use Rattle.std.specs.FinMap.{get-empty}
use Rattle.std.specs.Ordering.{nat_cmp}
use Rattle.std.proofs.lemmas.Bool.{false≢true}
use Rattle.block_model.specs.NumberMaps.{none_Some}
use Rattle.store_layout.specs.DiskLayout.{DiskLayout}
use Rattle.disk_trait.specs.Told.{Told}
use Rattle.disk_trait.specs.ThroughoutLaws.{started}
use Rattle.log_area.specs.Frames.{LogFrame}
use Rattle.buffer_pool.specs.PoolState.{PoolState, held_at}
use Rattle.recovery.specs.Reaches.{OpensAsBefore}
use Rattle.recovery.specs.PageNumbers.{page_number}
use Rattle.recovery.specs.PooledPages.{HoldsDurablePages}
use Rattle.recovery.specs.RedoesFrame.{AreRedone}
use Rattle.recovery.specs.Redoing.{HasLog, KeepsTheRest}
use Rattle.recovery.proofs.Images.{rest_kept}
use Rattle.recovery.proofs.Places.{pooled_absent}

-- a pool of so many frames that holds no page
abbrev pub empty_pool : ℕ → PoolState
empty_pool frames = record { frames = frames; pages = map.empty }

pub none_held : (frames number : ℕ) → held_at (empty_pool frames) number ≡ None
none_held frames number = get-empty nat_cmp number

pub holds_none : (layout : DiskLayout) (frames : ℕ) → HoldsDurablePages layout (empty_pool frames)
holds_none layout frames number page got = absurd (none_Some page (sym (none_held frames number) ∙ got))

pub begins : (layout : DiskLayout) (frames : List LogFrame) (disk : Told) (count : ℕ) (marks : List Bool) → HasLog layout frames disk
    → ((image : List ℕ) → IsTrue (disk.since disk.moment image) → IsTrue (disk.now image)) → ((number : ℕ) → slice_index_or marks number false ≡ false)
    → AreRedone layout frames [] disk disk (empty_pool count) marks
begins layout frames disk count marks log counts clear = record {
  done = [];
  logged = refl;
  redoing = record {
    log = log;
    first = λ all logged. (all, refl);
    pages = λ tells. record { places = tt; anew = λ place. tt; redone = λ place is. pooled_absent layout disk.contents (empty_pool count) place (none_held count (page_number layout place)) };
    touched = λ place held is got. absurd (none_Some held (sym (none_held count (page_number layout place)) ∙ got));
    clean = λ tells place held is got none. absurd (none_Some held (sym (none_held count (page_number layout place)) ∙ got));
    contents = λ tells. rest_kept layout [] disk.contents;
    images = λ image now. subst (KeepsTheRest layout [] disk.contents) (sym (log.stable image now)) (rest_kept layout [] disk.contents);
    moments = started disk (OpensAsBefore disk) (λ image since. (image, counts image since, inl refl));
  };
  marked = record {
    marked = λ place is on. absurd (false≢true (sym (clear (page_number layout place)) ∙ on));
    unmarked = λ place is off. refl;
  };
}
