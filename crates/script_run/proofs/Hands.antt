-- lines that are handed out of a buffer
use Rattle.std.proofs.Common.{◌≡◌, ◌≢◌, ℕ, ◌+◌, ◌-◌, ◌≤◌, ◌<◌, List, [], ◌∷◌, Option, None, Some, Ok, inl, inr, length, take, drop, min, refl, sym, ap, ◌∙◌, subst, arith, length-take, length-drop}
use Rattle.std.proofs.lemmas.List.{append-nil, take-take, drop-take, drop-drop}
use Rattle.std.specs.Io.KnownBytes.{Consumes}
use Rattle.script_run.specs.declared.cursor.Cursor.{Cursor}
use Rattle.script_run.specs.declared.cursor.Span.{Span}
use Rattle.script_run.specs.declared.end.Stage.TheVariants.{Open, Ended}
use Rattle.script_run.specs.Script.{clip, last_line}
use Rattle.script_run.specs.Reading.{LineReading, ReadsOn, Answers, lines_at}
use Rattle.script_run.specs.Buffered.{reading, reading_with, held, spanned, HandsLast, HasNoFeed, FeedAt, IsCursor, IsFilling}
use Rattle.script_run.proofs.Splitting.{clip_nil, clip_take}
use Rattle.script_run.proofs.Steps.{then, hands_first, hands_last, keeps_front, no_feed_clip}
use Rattle.script_run.proofs.Pieces.{at_front}

-- after the bytes have come
pub then_hands : (a b c : LineReading) (came : List ℕ) (lines : List (List ℕ)) → ReadsOn a b came [] → ReadsOn b c [] lines → ReadsOn a c came lines
then_hands a b c came lines p q = subst (λ bytes. ReadsOn a c bytes lines) (append-nil came) (then a b c came [] [] lines p q)

pub length_held : (buffer : List ℕ) (c : Cursor) → length (held buffer c) ≤ c.end - c.start
length_held buffer c = omega (arith, length-take (c.end - c.start) (drop c.start buffer))

-- the line before a line feed
module _ (buffer : List ℕ) (c : Cursor) (at : ℕ) (feed : FeedAt (held buffer c) at) where
  below : at + 1 ≤ c.end - c.start
  below = omega (arith, feed.inside, length_held buffer c)

  behind : drop (at + 1) (held buffer c) ≡ held buffer (record c { start = c.start + at + 1 })
  behind =
      let size : c.end - c.start ≡ at + 1 + (c.end - (c.start + at + 1)) = omega (arith, below) in
      let place : c.start + (at + 1) ≡ c.start + at + 1 = omega arith in
      ap (λ n. drop (at + 1) (take n (drop c.start buffer))) size ∙ drop-take (at + 1) (c.end - (c.start + at + 1)) (drop c.start buffer)
      ∙ ap (take (c.end - (c.start + at + 1))) (drop-drop (at + 1) c.start buffer ∙ ap (λ n. drop n buffer) place)

  line_is : clip (take at (held buffer c)) ≡ spanned buffer (record { from = c.start; to = c.start + min at 65536 })
  line_is =
      let size : min at 65536 ≡ c.start + min at 65536 - c.start = omega arith in
      ap clip (take-take at (c.end - c.start) (drop c.start buffer) (omega (arith, below))) ∙ sym (clip_take at (drop c.start buffer)) ∙ ap (λ n. take n (drop c.start buffer)) size

  pub hands_line : ReadsOn (reading buffer c) (reading buffer (record c { start = c.start + at + 1 })) [] (spanned buffer (record { from = c.start; to = c.start + min at 65536 }) ∷ [])
  hands_line = subst (λ line. ReadsOn (reading buffer c) (reading buffer (record c { start = c.start + at + 1 })) [] (line ∷ [])) line_is
      (subst (λ ys. ReadsOn (reading buffer c) (reading_with c.limit c.taken c.stage ys) [] (clip (take at (held buffer c)) ∷ [])) behind
      (subst (λ xs. ReadsOn (reading_with c.limit c.taken c.stage xs) (reading_with c.limit c.taken c.stage (drop (at + 1) (held buffer c))) [] (clip (take at (held buffer c)) ∷ [])) (sym feed.splits)
      (hands_first c.limit c.taken c.stage (take at (held buffer c)) (drop (at + 1) (held buffer c)) feed.first)))

-- the last line
module _ (buffer : List ℕ) (c : Cursor) (h : IsCursor buffer c) (ended : c.stage ≡ Ended) where
  pub hands_rest : HasNoFeed (held buffer c) → c.start < c.end → ReadsOn (reading buffer c) (reading buffer (record c { start = c.end })) [] (spanned buffer (record { from = c.start; to = c.start + min (c.end - c.start) 65536 }) ∷ [])
  hands_rest none some = subst (λ line. ReadsOn (reading buffer c) (reading buffer (record c { start = c.end })) [] (line ∷ [])) line_is
      (rw (ended, all) (hands_last c.limit c.taken (held buffer c) none some_held))
    where
      all : held buffer (record c { start = c.end }) ≡ []
      all = ap (λ n. take n (drop c.end buffer)) (let z : c.end - c.end ≡ 0 = omega arith in z)

      line_is : clip (held buffer c) ≡ spanned buffer (record { from = c.start; to = c.start + min (c.end - c.start) 65536 })
      line_is = sym (clip_take (c.end - c.start) (drop c.start buffer)) ∙ ap (λ n. take n (drop c.start buffer)) (let e : min (c.end - c.start) 65536 ≡ c.start + min (c.end - c.start) 65536 - c.start = omega arith in e)

      some_held : held buffer c ≢ []
      some_held e = omega (arith, ap length e, length-take (c.end - c.start) (drop c.start buffer), length-drop c.start buffer, h.size, h.inside)

  pub none_left : c.start ≡ c.end → lines_at c.stage (held buffer c) ≡ []
  none_left same = rw (ended, all) (ap last_line clip_nil)
    where
      all : held buffer c ≡ []
      all = ap (λ n. take n (drop c.start buffer)) (let z : c.end - c.start ≡ 0 = omega arith in z)

-- the line under way is brought to the front
module _ (buffer new : List ℕ) (c : Cursor) (count : ℕ) (h : IsCursor buffer c) (going : c.stage ≡ Open) (none : HasNoFeed (held buffer c)) (is : count ≡ min (c.end - c.start) 65536) (front : take count new ≡ clip (held buffer c)) (size : length new ≡ length buffer) where
  held_is : held new (record c { start = 0; end = count }) ≡ clip (held buffer c)
  held_is = at_front new 0 count refl ∙ front

  pub brought : reading new (record c { start = 0; end = count }) ≡ reading buffer c
  brought = rw (going, held_is) (sym (keeps_front c.limit c.taken (held buffer c) none))

  pub brought_filling : IsFilling new (record c { start = 0; end = count })
  brought_filling = record {
    cursor = record { size = size ∙ h.size; ordered = omega arith; inside = omega arith; within = h.within; spent = h.spent };
    front = refl;
    going = going;
    short = omega arith;
    unended = subst HasNoFeed (sym held_is) (no_feed_clip (held buffer c) none);
  }

-- ---- what a call answers

module _ (a : LineReading) (new : List ℕ) (d : Cursor) (left left' : Option (List ℕ)) (came : List ℕ) (bytes : Consumes left left' came) (reads : ReadsOn a (reading new d) came []) where
  pub answers_line : (at : ℕ) (span : Span) (e : Cursor) → FeedAt (held new d) at → d.stage ≡ a.stage → span ≡ record { from = d.start; to = d.start + min at 65536 } → e ≡ record d { start = d.start + at + 1 }
      → Answers (spanned new) a (reading new e) left left' (Ok (Some span))
  answers_line at span e feed same span_is rest_is = rw (span_is, rest_is) (came, bytes, then_hands a (reading new d) (reading new (record d { start = d.start + at + 1 })) came _ reads (hands_line new d at feed), inl same)

  pub answers_last : (r : Option Span) (e : Cursor) → IsCursor new d → HasNoFeed (held new d) → d.stage ≡ Ended → HandsLast d e r → Answers (spanned new) a (reading new e) left left' (Ok r)
  answers_last None e h none ended m = rw m.1 (came, bytes, reads, none_left new d h ended m.0, ended)
  answers_last (Some span) e h none ended m = rw (m.1, m.2) (came, bytes, then_hands a (reading new d) (reading new (record d { start = d.end })) came _ reads (hands_rest new d h ended none m.0), inr ended)
