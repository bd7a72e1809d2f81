-- frames of a log, one after the other
use Rattle.std.proofs.Common.{◌≡◌, ℕ, ◌+◌, ◌-◌, ◌<◌, ◌≤◌, Bool, List, [], ◌∷◌, ◌++◌, length, take, drop, refl, sym, ◌∙◌, ap, subst, arith, append_assoc, length-append, length-drop}
use Rattle.std.proofs.Math.Seq.{take-add, take-append_seam}
use Rattle.std.proofs.lemmas.List.{append-nil, drop_all, take_all, take-append-drop}
use Rattle.store_layout.specs.DiskLayout.{DiskLayout}
use Rattle.disk_trait.specs.Told.{Told}
use Rattle.log_area.specs.Frames.{LogFrame}
use Rattle.wal_record.specs.Changes.{IsChange, LoggedChange}
use Rattle.wal_record.specs.ChangeBytes.{IsFront, bytes_of}
use Rattle.buffer_pool.specs.PoolState.{PoolState}
use Rattle.recovery.specs.LoggedChanges.{AreChangesOf, AreLogged}
use Rattle.recovery.specs.Redoing.{AreFirstOf, AreMarked, CanBeRedone, KeepsMoments, Redoing}
use Rattle.recovery.specs.RedoesChange.{CannotBeNext, RedoesChange}
use Rattle.recovery.specs.RedoesFrame.{IsAmissNext, IsNextFrame, KeepsMomentsOfFrame, RedoesFrame}
use Rattle.recovery.proofs.Changes.{NoneBeginsAnother, changes_begin, changes_push, logged_append, logged_frame, logged_once, logged_split, some_bytes}
use Rattle.recovery.proofs.Steps.{redoing_kept}

-- the changes in front of an offset of the frame
pub record SoFar (layout : DiskLayout) (before behind : List LogFrame) (frame : LogFrame) (start : Told) (done : List LoggedChange) (at left : ℕ) (disk : Told) (pool : PoolState) (marks : List Bool) : Type 0 where
  pub own : List LoggedChange
  pub read : AreChangesOf (take at frame.changes) own
  pub counted : length own + left ≡ frame.count
  pub redoing : Redoing layout (before ++ frame ∷ behind) start (done ++ own) disk pool
  pub marked : AreMarked layout (done ++ own) marks

-- of whatever log the frame is the next, its changes in front of the offset are redone
pub record InFrame (layout : DiskLayout) (frame : LogFrame) (old : Told) (pool : PoolState) (marks : List Bool) (at left : ℕ) (now : Told) (pooled : PoolState) (marked : List Bool) : Type 0 where
  pub inside : at ≤ length frame.changes
  pub so_far : (before behind : List LogFrame) (start : Told) (done : List LoggedChange) → IsNextFrame layout before behind frame start done old pool marks → SoFar layout before behind frame start done at left now pooled marked

pub in_frame : (layout : DiskLayout) (frame : LogFrame) (old : Told) (pool : PoolState) (marks : List Bool) → InFrame layout frame old pool marks 0 frame.count old pool marks
in_frame layout frame old pool marks = record {
  inside = omega arith;
  so_far = λ before behind start done next. record {
    own = [];
    read = refl;
    counted = omega arith;
    redoing = subst (λ (l : List LoggedChange). Redoing layout (before ++ frame ∷ behind) start l old pool) (sym (append-nil done)) next.redoing;
    marked = subst (λ (l : List LoggedChange). AreMarked layout l marks) (sym (append-nil done)) next.marked;
  };
}

front_is : (bytes front : List ℕ) → IsFront front bytes → take (length front) bytes ≡ front
front_is bytes front is = ap (take (length front)) is.1 ∙ take-append_seam front is.0

-- a change that begins the bytes behind an offset ends within them
pub some_size : (c : LoggedChange) → 0 < length (bytes_of c)
some_size c = some_length (bytes_of c) (λ none. some_bytes c [] (append-nil (bytes_of c) ∙ none))
  where
    some_length : (l : List ℕ) → (l ≡ [] → ⊥) → 0 < length l
    some_length [] not = absurd (not refl)
    some_length (x ∷ l) not = omega arith

pub reach_of : (bytes : List ℕ) (at : ℕ) (c : LoggedChange) → IsFront (bytes_of c) (drop at bytes) → at < length bytes → at + length (bytes_of c) ≤ length bytes
reach_of bytes at c front within = omega (arith, within, length-drop at bytes, ap (length {A = ℕ}) front.1, length-append (bytes_of c) front.0)

module _ (one : NoneBeginsAnother) where
  -- changes in a frame are the next ones of the log
  first_in_frame : (before behind : List LogFrame) (frame : LogFrame) (done own : List LoggedChange) (front rest : List ℕ) → AreLogged before done → frame.changes ≡ front ++ rest → AreChangesOf front own → AreFirstOf (before ++ frame ∷ behind) (done ++ own)
  first_in_frame before behind frame done own front rest logged is read all every =
      let s = logged_split before (frame ∷ behind) all every in
      let same : s.0 ≡ done = logged_once one before done s.0 logged s.2 in
      let b = changes_begin one front rest frame.changes own s.3.0 is read s.3.2 in (
        b.0 ++ s.3.1,
        s.4 ∙ ap (λ (l : List LoggedChange). l ++ s.1) same ∙ ap (λ (l : List LoggedChange). done ++ l) (s.3.5 ∙ ap (λ (l : List LoggedChange). l ++ s.3.1) b.1 ∙ append_assoc own b.0 s.3.1)
            ∙ sym (append_assoc done own (b.0 ++ s.3.1)),
      )

  -- one change more
  pub in_frame_more : (layout : DiskLayout) (frame : LogFrame) (old : Told) (pool : PoolState) (marks : List Bool) (at left size : ℕ) (mid : Told) (pooled : PoolState) (between : List Bool) (c : LoggedChange) (now : Told) (after : PoolState) (marked : List Bool)
      → IsChange c → IsFront (bytes_of c) (drop at frame.changes) → size ≡ length (bytes_of c) → at + size ≤ length frame.changes → 0 < left → RedoesChange layout c mid pooled between now after marked
      → InFrame layout frame old pool marks at left mid pooled between → InFrame layout frame old pool marks (at + size) (left - 1) now after marked
  in_frame_more layout frame old pool marks at left size mid pooled between c now after marked is front long within some redoes f =
      let reach : take (at + size) frame.changes ≡ take at frame.changes ++ bytes_of c =
      take-add at size frame.changes ∙ ap (λ (n : ℕ). take at frame.changes ++ take n (drop at frame.changes)) long ∙ ap (λ (l : List ℕ). take at frame.changes ++ l) (front_is (drop at frame.changes) (bytes_of c) front) in
      record {
        inside = within;
        so_far = λ before behind start done next.
            let s = f.so_far before behind start done next in
            let read : AreChangesOf (take (at + size) frame.changes) (s.own ++ c ∷ []) = subst (λ (l : List ℕ). AreChangesOf l (s.own ++ c ∷ [])) (sym reach) (changes_push (take at frame.changes) s.own c s.read is) in
            let push : (done ++ s.own) ++ c ∷ [] ≡ done ++ (s.own ++ c ∷ []) = append_assoc done s.own (c ∷ []) in
            let first : AreFirstOf (before ++ frame ∷ behind) ((done ++ s.own) ++ c ∷ []) =
            subst (AreFirstOf (before ++ frame ∷ behind)) (sym push)
            (first_in_frame before behind frame done (s.own ++ c ∷ []) (take (at + size) frame.changes) (drop (at + size) frame.changes) next.logged (sym (take-append-drop (at + size) frame.changes)) read) in
            let made = redoes (before ++ frame ∷ behind) start (done ++ s.own) s.redoing s.marked first in
            record {
              own = s.own ++ c ∷ [];
              read = read;
              counted = omega (arith, s.counted, length-append s.own (c ∷ []), some);
              redoing = subst (λ (l : List LoggedChange). Redoing layout (before ++ frame ∷ behind) start l now after) push made.0;
              marked = subst (λ (l : List LoggedChange). AreMarked layout l marked) push made.1;
            };
      }

  -- what stands behind the offset
  behind_offset : (frame : LogFrame) (at : ℕ) (own all : List LoggedChange) → AreChangesOf (take at frame.changes) own → AreChangesOf frame.changes all → (more : List LoggedChange) × (all ≡ own ++ more) × AreChangesOf (drop at frame.changes) more
  behind_offset frame at own all read every = changes_begin one (take at frame.changes) (drop at frame.changes) frame.changes own all (sym (take-append-drop at frame.changes)) read every

  some_behind : (frame : LogFrame) (at : ℕ) → at < length frame.changes → drop at frame.changes ≡ [] → ⊥
  some_behind frame at within none = absurd (omega (arith, within, ap (length {A = ℕ}) none, length-drop at frame.changes))

  module _ (layout : DiskLayout) (frame : LogFrame) (old : Told) (pool : PoolState) (marks : List Bool) (at left : ℕ) (mid : Told) (pooled : PoolState) (between : List Bool) (f : InFrame layout frame old pool marks at left mid pooled between) where
    -- no change begins the bytes behind the offset
    pub amiss_undecoded : at < length frame.changes → ((c : LoggedChange) → IsChange c → IsFront (bytes_of c) (drop at frame.changes) → ⊥) → IsAmissNext layout frame old pool marks
    amiss_undecoded within none before behind start done next tells own are count make =
        let s = f.so_far before behind start done next in
        let b = behind_offset frame at s.own own s.read are in
        not_any b.0 b.2
      where
        not_any : (more : List LoggedChange) → AreChangesOf (drop at frame.changes) more → ⊥
        not_any [] is = some_behind frame at within is
        not_any (c ∷ more) is = none c is.1 (is.0, is.2)

    -- bytes are left, and no change is
    pub amiss_many : at < length frame.changes → left ≡ 0 → IsAmissNext layout frame old pool marks
    amiss_many within last before behind start done next tells own are count make =
        let s = f.so_far before behind start done next in
        let b = behind_offset frame at s.own own s.read are in
        no_more b.0 (omega (arith, count, s.counted, last, ap (length {A = LoggedChange}) b.1, length-append s.own b.0)) b.2
      where
        no_more : (more : List LoggedChange) → length more ≡ 0 → AreChangesOf (drop at frame.changes) more → ⊥
        no_more [] none is = some_behind frame at within is
        no_more (c ∷ more) none is = absurd (omega (arith, none))

    -- changes are left, and no byte is
    pub amiss_few : length frame.changes ≤ at → 0 < left → IsAmissNext layout frame old pool marks
    amiss_few past some before behind start done next tells own are count make =
        let s = f.so_far before behind start done next in
        let b = behind_offset frame at s.own own s.read are in
        no_more b.0 (omega (arith, count, s.counted, some, ap (length {A = LoggedChange}) b.1, length-append s.own b.0)) b.2
      where
        none_left : drop at frame.changes ≡ []
        none_left = drop_all at frame.changes past

        no_more : (more : List LoggedChange) → 0 < length more → AreChangesOf (drop at frame.changes) more → ⊥
        no_more [] some is = absurd (omega (arith, some))
        no_more (c ∷ more) some is = some_bytes c is.0 (sym is.2 ∙ none_left)

    -- a change that begins the bytes behind the offset is the next
    next_is : (c : LoggedChange) → IsChange c → IsFront (bytes_of c) (drop at frame.changes) → (more : List LoggedChange) → AreChangesOf (drop at frame.changes) more → (rest : List LoggedChange) × (more ≡ c ∷ rest)
    next_is c is front [] none = absurd (some_bytes c front.0 (sym front.1 ∙ none))
    next_is c is front (d ∷ more) are =
        let same = one d c are.0 front.0 are.1 is (sym are.2 ∙ front.1) in
        (more, ap (λ (x : LoggedChange). x ∷ more) same.0)

    -- the next change can't stand there
    pub amiss_next : (c : LoggedChange) → IsChange c → IsFront (bytes_of c) (drop at frame.changes) → CannotBeNext layout c mid pooled between → IsAmissNext layout frame old pool marks
    amiss_next c is front cannot before behind start done next tells own are count make =
        let s = f.so_far before behind start done next in
        let b = behind_offset frame at s.own own s.read are in
        let same = s.redoing.moments.tells_contents ∙ sym next.redoing.moments.tells_contents in
        let n = next_is c is front b.0 b.2 in
        cannot (before ++ frame ∷ behind) start (done ++ s.own) s.redoing s.marked (same ∙ tells) n.0
        (subst (λ (l : List LoggedChange). CanBeRedone layout start.contents l)
        (ap (λ (l : List LoggedChange). done ++ l) (b.1 ∙ ap (λ (l : List LoggedChange). s.own ++ l) n.1) ∙ sym (append_assoc done s.own (c ∷ n.0))) make)

    -- each image opens as one of the start did, also where the next change isn't made
    pub moments_next : (now : Told) → KeepsMoments layout mid pooled now → KeepsMomentsOfFrame layout frame old pool marks now
    moments_next now keeps before behind start done next =
        let s = f.so_far before behind start done next in
        keeps (before ++ frame ∷ behind) start (done ++ s.own) s.redoing

    pub moments_here : KeepsMomentsOfFrame layout frame old pool marks mid
    moments_here before behind start done next =
        let s = f.so_far before behind start done next in
        redoing_kept layout (before ++ frame ∷ behind) start (done ++ s.own) mid pooled s.redoing

    -- all of the frame is redone
    pub frame_redone : length frame.changes ≤ at → left ≡ 0 → RedoesFrame layout frame old pool marks mid pooled between
    frame_redone past none before behind start done next =
        let s = f.so_far before behind start done next in
        record {
          done = done ++ s.own;
          logged = logged_append before (frame ∷ []) done s.own next.logged (logged_frame frame s.own (subst (λ (l : List ℕ). AreChangesOf l s.own) (take_all at frame.changes past) s.read) (omega (arith, s.counted, none)));
          redoing = s.redoing;
          marked = s.marked;
        }
