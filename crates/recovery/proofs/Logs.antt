-- all frames of a log
use Rattle.std.proofs.Common.{◌≡◌, ℕ, zero, suc, ◌+◌, ◌≤◌, Bool, List, [], ◌∷◌, ◌++◌, length, take, drop, refl, sym, ◌∙◌, ap, subst, arith, append_assoc, length-append}
use Rattle.std.specs.Prelude.{IsTrue, Some, slice_get}
use Rattle.std.specs.Int.{bytes_high_first}
use Rattle.byte_fields.specs.Fields.{length-number}
use Rattle.store_layout.specs.DiskLayout.{DiskLayout}
use Rattle.disk_trait.specs.Told.{Told}
use Rattle.log_area.specs.Frames.{LogFrame, frame_bytes, numbers_of, row_of}
use Rattle.wal_record.specs.Changes.{LoggedChange}
use Rattle.buffer_pool.specs.PoolState.{PoolState}
use Rattle.recovery.specs.LoggedChanges.{AreLogged}
use Rattle.block_model.specs.declared.place.Place.{Place}
use Rattle.block_model.specs.NumberMaps.{none_Some, same_Some}
use Rattle.recovery.specs.Damage.{HasFrameAmiss}
use Rattle.recovery.specs.ShownPages.{shown_page}
use Rattle.recovery.specs.Redoing.{CanBeRedone, IsKept, MakePages, Redoing}
use Rattle.recovery.specs.RedoesFrame.{AreRedone, IsAmissNext, IsNextFrame, KeepsMomentsOfFrame, RedoesFrame}

-- a list taken apart at one of its elements
split_at : (frames : List LogFrame) (at : ℕ) (frame : LogFrame) → slice_get frames at ≡ Some frame → frames ≡ take at frames ++ frame ∷ drop (suc at) frames
split_at [] at frame is = absurd (none_Some frame is)
split_at (f ∷ fs) zero frame is = ap (λ (x : LogFrame). x ∷ fs) (same_Some f frame is)
split_at (f ∷ fs) (suc at) frame is = ap (λ (l : List LogFrame). f ∷ l) (split_at fs at frame is)

take_next : (frames : List LogFrame) (at : ℕ) (frame : LogFrame) → slice_get frames at ≡ Some frame → take (suc at) frames ≡ take at frames ++ frame ∷ []
take_next [] at frame is = absurd (none_Some frame is)
take_next (f ∷ fs) zero frame is = ap (λ (x : LogFrame). x ∷ []) (same_Some f frame is)
take_next (f ∷ fs) (suc at) frame is = ap (λ (l : List LogFrame). f ∷ l) (take_next fs at frame is)

-- the bytes that frames take
length-frame : (frame : LogFrame) → length (frame_bytes frame) ≡ 6 + length frame.changes
unfolding frame_bytes
length-frame frame = omega (arith, length-append (numbers_of (length frame.changes) frame.count) frame.changes, length-append (bytes_high_first 4 (length frame.changes)) (bytes_high_first 2 frame.count), length-number 4 (length frame.changes), length-number 2 frame.count)

row-append : (some others : List LogFrame) → row_of (some ++ others) ≡ row_of some ++ row_of others
row-append [] others = refl
row-append (f ∷ some) others = ap (λ (l : List ℕ). 1 ∷ l) (ap (λ (l : List ℕ). frame_bytes f ++ l) (row-append some others) ∙ sym (append_assoc (frame_bytes f) (row_of some) (row_of others)))

pub length-row_next : (frames : List LogFrame) (at : ℕ) (frame : LogFrame) → slice_get frames at ≡ Some frame → length (row_of (take (suc at) frames)) ≡ length (row_of (take at frames)) + 7 + length frame.changes
length-row_next frames at frame is =
    let next : length (row_of (take (suc at) frames)) ≡ length (row_of (take at frames ++ frame ∷ [])) = ap (λ (l : List LogFrame). length (row_of l)) (take_next frames at frame is) in
    omega (arith, next, ap (length {A = ℕ}) (row-append (take at frames) (frame ∷ [])), length-append (row_of (take at frames)) (row_of (frame ∷ [])), length-append (frame_bytes frame) [], length-frame frame)

pub length-row_take : (frames : List LogFrame) (at : ℕ) → length (row_of (take at frames)) ≤ length (row_of frames)
length-row_take [] zero = omega arith
length-row_take [] (suc at) = omega arith
length-row_take (f ∷ fs) zero = omega arith
length-row_take (f ∷ fs) (suc at) = omega (arith, length-row_take fs at, length-append (frame_bytes f) (row_of (take at fs)), length-append (frame_bytes f) (row_of fs))

-- changes that make pages fit
can_be_redone : (layout : DiskLayout) (image : List ℕ) (done : List LoggedChange) (page : Place → List ℕ) → MakePages layout image done page → CanBeRedone layout image done
can_be_redone layout image done page makes = record { places = makes.places; anew = makes.anew; fit = λ place is. (page place, makes.redone place is) }

module _ (layout : DiskLayout) (frames : List LogFrame) (at : ℕ) (frame : LogFrame) (is : slice_get frames at ≡ Some frame) (start : Told) (mid : Told) (pool : PoolState) (marks : List Bool) (so_far : AreRedone layout frames (take at frames) start mid pool marks) where
  next : IsNextFrame layout (take at frames) (drop (suc at) frames) frame start so_far.done mid pool marks
  next = record {
    logged = so_far.logged;
    redoing = subst (λ (l : List LogFrame). Redoing layout l start so_far.done mid pool) (split_at frames at frame is) so_far.redoing;
    marked = so_far.marked;
  }

  -- one frame more
  pub frames_more : (now : Told) (new : PoolState) (marked : List Bool) → RedoesFrame layout frame mid pool marks now new marked → AreRedone layout frames (take (suc at) frames) start now new marked
  frames_more now new marked redoes =
      let r = redoes (take at frames) (drop (suc at) frames) start so_far.done next in
      record {
        done = r.done;
        logged = subst (λ (l : List LogFrame). AreLogged l r.done) (sym (take_next frames at frame is)) r.logged;
        redoing = subst (λ (l : List LogFrame). Redoing layout l start r.done now new) (sym (split_at frames at frame is)) r.redoing;
        marked = r.marked;
      }

  pub frames_moments : (now : Told) → KeepsMomentsOfFrame layout frame mid pool marks now → IsKept layout start now
  frames_moments now keeps = keeps (take at frames) (drop (suc at) frames) start so_far.done next

  pub frame_amiss : (area gate : ℕ) → gate ≡ area + length (row_of (take at frames)) → IsAmissNext layout frame mid pool marks → IsTrue mid.tells_contents → HasFrameAmiss layout start.contents area frames gate
  frame_amiss area gate stands amiss tells = record {
    before = take at frames;
    frame = frame;
    behind = drop (suc at) frames;
    done = so_far.done;
    stands = split_at frames at frame is;
    gate = stands;
    logged = so_far.logged;
    fit = can_be_redone layout start.contents so_far.done (shown_page layout pool mid.contents) (so_far.redoing.pages tells);
    amiss = amiss (take at frames) (drop (suc at) frames) start so_far.done next tells;
  }
