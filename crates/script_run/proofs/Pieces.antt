-- a piece that comes behind the line under way
use Rattle.std.proofs.Common.{◌≡◌, ◌≢◌, ℕ, ◌+◌, ◌-◌, ◌≤◌, ◌<◌, List, [], ◌∷◌, ◌++◌, Option, Result, Ok, Err, length, take, drop, min, refl, sym, ap, ◌∙◌, subst, arith, length-take, length-drop}
use Rattle.std.proofs.Math.Seq.{take-add}
use Rattle.std.proofs.KnownBytes.{Consumes-trans}
use Rattle.std.specs.Io.KnownBytes.{Consumes, IsAtEnd}
use Rattle.script_run.specs.declared.cursor.Cursor.{Cursor}
use Rattle.script_run.specs.declared.cursor.Came.{Came}
use Rattle.script_run.specs.declared.cursor.Came.TheVariants as came
use Rattle.script_run.specs.declared.end.LinesEnd.{LinesEnd}
use Rattle.script_run.specs.declared.end.LinesEnd.TheVariants as ends
use Rattle.script_run.specs.declared.end.Stage.{Stage}
use Rattle.script_run.specs.declared.end.Stage.TheVariants.{Open, Ended, Spent}
use Rattle.script_run.specs.Script.{clip}
use Rattle.script_run.specs.Reading.{ReadsOn, beyond}
use Rattle.script_run.specs.Buffered.{reading, held, HasNoFeed, FeedAt, IsFilling, Fills}
use Rattle.script_run.proofs.Splitting.{clip_take, ended_none}
use Rattle.script_run.proofs.Steps.{then, stops_after, takes_on, takes_part, ends_on, spends_on, stays_on, none_ready, no_feed_clip}
use Rattle.script_run.proofs.Feeds.{feed_behind, no_feed_append}

going_unspent : (s : Stage) → s ≡ Open → s ≢ Spent
going_unspent s going spent = let no : Open ≡ Spent = sym going ∙ spent in cc

-- what stands at the front
pub at_front : (buffer : List ℕ) (start end : ℕ) → start ≡ 0 → take (end - start) (drop start buffer) ≡ take end buffer
at_front buffer start end e = rw e (ap (λ n. take n buffer) (let z : end - 0 ≡ end = omega arith in z))

module _ (old new : List ℕ) (c : Cursor) (left left' : Option (List ℕ)) (count : ℕ) where
  -- the bytes that were held and those that came
  grown : IsFilling old c → take c.end new ≡ take c.end old → take (c.end + count) new ≡ held old c ++ take count (drop c.end new)
  grown f same = take-add c.end count new ∙ ap (λ l. l ++ take count (drop c.end new)) (same ∙ sym (at_front old c.start c.end f.front))

  came_length : c.end + count ≤ length new → count ≡ length (take count (drop c.end new))
  came_length room = let r : count ≡ length (take count (drop c.end new)) = omega (arith, length-take count (drop c.end new), length-drop c.end new) in r

  module _ (f : IsFilling old c) (size : length new ≡ 131072) (same : take c.end new ≡ take c.end old) (room : c.end + count ≤ length new) (most : count ≤ c.limit - c.taken) (more : c.taken < c.limit) where
    within : c.taken + count ≤ c.limit
    within = omega arith

    pub piece_part : (end : ℕ) → end ≡ min (c.end + count) 65536 → Consumes left left' (take count (drop c.end new)) → HasNoFeed (take (c.end + count - c.end) (drop c.end new))
        → Fills old new c (record c { taken = c.taken + count; end = end }) left left' (Ok came.Part)
    piece_part end is bytes none = (
      take count (drop c.end new),
      bytes,
      takes_part c.limit c.taken count c.stage (held old c) (take count (drop c.end new)) (held new d) f.going (came_length room) within all_none front,
      record {
        cursor = record { size = size; ordered = omega (arith, f.front); inside = omega arith; within = within; spent = λ e. absurd (going_unspent c.stage f.going e) };
        front = f.front;
        going = f.going;
        short = omega arith;
        unended = subst HasNoFeed (sym front) (no_feed_clip (held old c ++ take count (drop c.end new)) all_none);
      },
    )
      where
        d : Cursor
        d = record c { taken = c.taken + count; end = end }

        all_none : HasNoFeed (held old c ++ take count (drop c.end new))
        all_none = no_feed_append (held old c) (take count (drop c.end new)) f.unended (subst (λ n. HasNoFeed (take n (drop c.end new))) (let e : c.end + count - c.end ≡ count = omega arith in e) none)

        front : held new d ≡ clip (held old c ++ take count (drop c.end new))
        front = at_front new c.start end f.front ∙ ap (λ n. take n new) is ∙ clip_take (c.end + count) new ∙ ap clip (grown f same)

    pub piece_line : (at : ℕ) → Consumes left left' (take count (drop c.end new)) → FeedAt (take (c.end + count - c.end) (drop c.end new)) at
        → Fills old new c (record c { taken = c.taken + count; end = c.end + count }) left left' (Ok (came.Line (c.end + at)))
    piece_line at bytes feed = (
      take count (drop c.end new),
      bytes,
      takes_on c.limit c.taken count c.stage (held old c) (take count (drop c.end new)) (held new d) f.going (came_length room) within all,
      (
        record { size = size; ordered = omega (arith, f.front); inside = omega arith; within = within; spent = λ e. absurd (going_unspent c.stage f.going e) },
        f.front,
        f.going,
        subst (λ ys. FeedAt ys (c.end + at)) (sym all) (feed_behind (held old c) (take count (drop c.end new)) c.end at held_length f.unended (subst (λ n. FeedAt (take n (drop c.end new)) at) (let e : c.end + count - c.end ≡ count = omega arith in e) feed)),
      ),
    )
      where
        d : Cursor
        d = record c { taken = c.taken + count; end = c.end + count }

        all : held new d ≡ held old c ++ take count (drop c.end new)
        all = at_front new c.start (c.end + count) f.front ∙ grown f same

        held_length : length (held old c) ≡ c.end
        held_length = omega (arith, length-take (c.end - c.start) (drop c.start old), length-drop c.start old, f.front, f.cursor.size, f.cursor.inside)

module _ (old new : List ℕ) (c : Cursor) (left left' : Option (List ℕ)) (f : IsFilling old c) (size : length new ≡ 131072) (same : take c.end new ≡ take c.end old) where
  kept : held new c ≡ held old c
  kept = at_front new c.start c.end f.front ∙ same ∙ sym (at_front old c.start c.end f.front)

  pub piece_end : Consumes left left' [] → IsAtEnd left' → Fills old new c (record c { stage = Ended }) left left' (Ok came.End)
  piece_end bytes ended = (
    [],
    bytes,
    ends_on c.limit c.taken c.stage (held old c) (held new c) f.going kept,
    (
      record { size = size; ordered = f.cursor.ordered; inside = f.cursor.inside; within = f.cursor.within; spent = λ e. let no : Ended ≡ Spent = e in cc },
      f.front,
      refl,
      subst HasNoFeed (sym kept) f.unended,
      ended,
    ),
  )

  pub piece_fault : Consumes left left' [] → Fills old new c c left left' (Err ends.Read)
  piece_fault bytes = (([], bytes, stays_on c.limit c.taken c.stage (held old c) (held new c) kept, none_ready c.stage (held new c) going_on (subst HasNoFeed (sym kept) f.unended), f.going, f.going), record { size = size; ordered = f.cursor.ordered; inside = f.cursor.inside; within = f.cursor.within; spent = f.cursor.spent }, going_on)
    where
      going_on : c.stage ≢ Ended
      going_on e = let no : Open ≡ Ended = sym f.going ∙ e in cc

-- a byte past the limit
pub past_limit : (buffer : List ℕ) (c : Cursor) (left left' : Option (List ℕ)) (byte : ℕ) → IsFilling buffer c → c.taken ≡ c.limit → Consumes left left' (byte ∷ [])
    → Fills buffer buffer c (record c { stage = Spent }) left left' (Err (ends.Spent c.limit))
past_limit buffer c left left' byte f full came = (
  ([], byte ∷ [], came, ap beyond (sym f.going), spends_on c.limit c.taken c.stage (held buffer c) (held buffer c) f.going refl, ended_none [] (held buffer c) f.unended, refl, full, refl),
  record { size = f.cursor.size; ordered = f.cursor.ordered; inside = f.cursor.inside; within = f.cursor.within; spent = λ _. full },
  (λ e. let no : Spent ≡ Ended = e in cc),
)

-- after bytes of which none ended a line
pub fills_after : (old mid new : List ℕ) (c d e : Cursor) (left between left' : Option (List ℕ)) (bytes : List ℕ) → Consumes left between bytes → ReadsOn (reading old c) (reading mid d) bytes [] → c.stage ≡ d.stage
    → (r : Result Came LinesEnd) → Fills mid new d e between left' r → Fills old new c e left left' r
fills_after old mid new c d e left between left' bytes came reads same (Ok found) h = (bytes ++ h.0, Consumes-trans left between left' bytes h.0 came h.1, then (reading old c) (reading mid d) (reading new e) bytes h.0 [] [] reads h.2, h.3)
fills_after old mid new c d e left between left' bytes came reads same (Err end) h = (stops_after (reading old c) (reading mid d) (reading new e) left between left' bytes came reads same end h.0, h.1, h.2)
