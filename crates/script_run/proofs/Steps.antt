-- what a reader's steps do to the lines that it has handed out
use Rattle.std.proofs.Common.{◌≡◌, ◌≢◌, ℕ, zero, suc, take, ◌+◌, ◌≤◌, List, [], ◌∷◌, ◌++◌, Option, length, refl, sym, ap, ◌∙◌, subst, arith, append_assoc, length-append}
use Rattle.std.proofs.lemmas.List.{append-nil}
use Rattle.std.proofs.KnownBytes.{Consumes-trans}
use Rattle.std.specs.Io.KnownBytes.{Consumes}
use Rattle.script_run.specs.declared.end.LinesEnd.{LinesEnd}
use Rattle.script_run.specs.declared.end.LinesEnd.TheVariants as ends
use Rattle.script_run.specs.declared.end.Stage.{Stage}
use Rattle.script_run.specs.declared.end.Stage.TheVariants.{Open, Ended, Spent}
use Rattle.script_run.specs.Script.{clip, ended_append, rest_append, ended_from, rest_from, ended_lines, rest_line, last_line}
use Rattle.script_run.specs.Reading.{LineReading, fresh, HasRead, ReadsOn, Stops, lines_at, line_at, beyond}
use Rattle.script_run.specs.Buffered.{reading_with, HasNoFeed}
use Rattle.script_run.proofs.Splitting.{length-ended, clip_is, clip_nil, clip_clip, ended_alike, rest_alike, ended_none, rest_none, ended_first, rest_first}

-- nothing changes
pub stays : (a : LineReading) → ReadsOn a a [] []
stays a = record {
  limit = refl;
  reads = λ script out h. subst (λ s. HasRead a s (out ++ [])) (sym (append-nil script)) (subst (λ o. HasRead a script o) (sym (append-nil out)) h);
  fewer = omega arith;
}

-- a new reader has no lines
pub nothing_read : (limit : ℕ) → reading_with limit 0 Open [] ≡ fresh limit
nothing_read limit = λ i. record { limit = limit; taken = 0; ready = []; line = clip_nil i; stage = Open }

-- two steps
pub then : (a b c : LineReading) (xs ys : List ℕ) (ls ms : List (List ℕ)) → ReadsOn a b xs ls → ReadsOn b c ys ms → ReadsOn a c (xs ++ ys) (ls ++ ms)
then a b c xs ys ls ms p q = record {
  limit = q.limit ∙ p.limit;
  reads = λ script out h. subst (λ s. HasRead c s (out ++ (ls ++ ms))) (append_assoc script xs ys) (subst (λ o. HasRead c ((script ++ xs) ++ ys) o) (append_assoc out ls ms) (q.reads (script ++ xs) (out ++ ls) (p.reads script out h)));
  fewer = omega (arith, p.fewer, q.fewer, length-append ls ms);
}

-- the first line is handed out
first_lines : (stage : Stage) (xs ys : List ℕ) → HasNoFeed xs → lines_at stage (xs ++ 10 ∷ ys) ≡ clip xs ∷ lines_at stage ys
first_lines Open xs ys h = ended_first xs ys h
first_lines Ended xs ys h = ap (λ ls. ls ++ last_line (rest_line (xs ++ 10 ∷ ys))) (ended_first xs ys h) ∙ ap (λ l. (clip xs ∷ ended_lines ys) ++ last_line (clip l)) (rest_first xs ys h)
first_lines Spent xs ys h = ended_first xs ys h

first_rest : (stage : Stage) (xs ys : List ℕ) → HasNoFeed xs → line_at stage (xs ++ 10 ∷ ys) ≡ line_at stage ys
first_rest Open xs ys h = ap clip (rest_first xs ys h)
first_rest Ended xs ys h = refl
first_rest Spent xs ys h = ap clip (rest_first xs ys h)

hands_on : (limit taken : ℕ) (stage : Stage) (xs ys line : List ℕ) → lines_at stage xs ≡ line ∷ lines_at stage ys → line_at stage xs ≡ line_at stage ys
    → ReadsOn (reading_with limit taken stage xs) (reading_with limit taken stage ys) [] (line ∷ [])
hands_on limit taken stage xs ys line lines rest = record {
  limit = refl;
  reads = λ script out h. subst (λ s. HasRead (reading_with limit taken stage ys) s (out ++ line ∷ [])) (sym (append-nil script)) (record {
    taken = h.taken;
    lines = h.lines ∙ ap (λ ls. out ++ ls) lines ∙ sym (append_assoc out (line ∷ []) (lines_at stage ys));
    line = sym rest ∙ h.line;
  });
  fewer = omega (arith, ap length lines);
}

pub hands_first : (limit taken : ℕ) (stage : Stage) (xs ys : List ℕ) → HasNoFeed xs → ReadsOn (reading_with limit taken stage (xs ++ 10 ∷ ys)) (reading_with limit taken stage ys) [] (clip xs ∷ [])
hands_first limit taken stage xs ys h = hands_on limit taken stage (xs ++ 10 ∷ ys) ys (clip xs) (first_lines stage xs ys h) (first_rest stage xs ys h)

-- the last line is handed out
last_of : (l : List ℕ) → l ≢ [] → last_line (clip l) ≡ clip l ∷ []
unfolding clip
last_of [] n = absurd (n refl)
last_of (b ∷ bs) n = refl

pub hands_last : (limit taken : ℕ) (xs : List ℕ) → HasNoFeed xs → xs ≢ [] → ReadsOn (reading_with limit taken Ended xs) (reading_with limit taken Ended []) [] (clip xs ∷ [])
hands_last limit taken xs h some = hands_on limit taken Ended xs [] (clip xs) (ap (λ ls. ls ++ last_line (rest_line xs)) (ended_none [] xs h) ∙ ap (λ l. last_line (clip l)) (rest_none [] xs h) ∙ last_of xs some ∙ ap (λ l. clip xs ∷ last_line l) (sym clip_nil)) refl

-- bytes come, and of the line under way the front is kept
pub takes : (limit taken : ℕ) (xs came : List ℕ) → taken + length came ≤ limit → ReadsOn (reading_with limit taken Open xs) (reading_with limit (taken + length came) Open (xs ++ came)) came []
takes limit taken xs came within = record {
  limit = refl;
  reads = λ script out h.
      let ended : ended_lines (script ++ came) ≡ out ++ ended_lines (xs ++ came) =
      ended_append [] script came
      ∙ ap (λ ls. ls ++ ended_from (rest_from [] script) came) h.lines
      ∙ ap (λ ls. (out ++ ended_lines xs) ++ ls) (sym (ended_alike (rest_from [] xs) (rest_from [] script) came h.line))
      ∙ append_assoc out (ended_lines xs) (ended_from (rest_from [] xs) came)
      ∙ ap (λ ls. out ++ ls) (sym (ended_append [] xs came)) in
      record {
        taken = ap (λ n. n + length came) h.taken ∙ sym (length-append script came);
        lines = ended ∙ ap (λ o. o ++ ended_lines (xs ++ came)) (sym (append-nil out));
        line = ap clip (rest_append [] xs came) ∙ rest_alike (rest_from [] xs) (rest_from [] script) came h.line ∙ ap clip (sym (rest_append [] script came));
      };
  fewer = omega (arith, ap length (ended_append [] xs came), length-append (ended_lines xs) (ended_from (rest_from [] xs) came), length-ended (rest_from [] xs) came);
}

-- of the line under way the front is kept
no_feed_front : (n : ℕ) (xs : List ℕ) → HasNoFeed xs → HasNoFeed (take n xs)
no_feed_front zero xs h = tt
no_feed_front (suc n) [] h = tt
no_feed_front (suc n) (x ∷ xs) h = (h.0, no_feed_front n xs h.1)

pub no_feed_clip : (xs : List ℕ) → HasNoFeed xs → HasNoFeed (clip xs)
no_feed_clip xs h = subst HasNoFeed (sym (clip_is xs)) (no_feed_front 65536 xs h)

pub keeps_front : (limit taken : ℕ) (xs : List ℕ) → HasNoFeed xs → reading_with limit taken Open xs ≡ reading_with limit taken Open (clip xs)
keeps_front limit taken xs h =
    let short = no_feed_clip xs h in
    let same : ended_lines xs ≡ ended_lines (clip xs) = ended_none [] xs h ∙ sym (ended_none [] (clip xs) short) in
    let front : rest_line xs ≡ rest_line (clip xs) = ap clip (rest_none [] xs h) ∙ sym (clip_clip xs) ∙ ap clip (sym (rest_none [] (clip xs) short)) in
    (λ i. record { limit = limit; taken = taken; ready = same i; line = front i; stage = Open })

-- the end is seen
pub ends_here : (limit taken : ℕ) (xs : List ℕ) → ReadsOn (reading_with limit taken Open xs) (reading_with limit taken Ended xs) [] []
ends_here limit taken xs = record {
  limit = refl;
  reads = λ script out h. subst (λ s. HasRead (reading_with limit taken Ended xs) s (out ++ [])) (sym (append-nil script)) (subst (λ o. HasRead (reading_with limit taken Ended xs) script o) (sym (append-nil out)) (record {
    taken = h.taken;
    lines = ap (λ ls. ls ++ last_line (rest_line script)) h.lines ∙ append_assoc out (ended_lines xs) (last_line (rest_line script)) ∙ ap (λ l. out ++ (ended_lines xs ++ last_line l)) (sym h.line);
    line = refl;
  }));
  fewer = omega (arith, length-append (ended_lines xs) (last_line (rest_line xs)), at_most_one (rest_line xs));
}
  where
    at_most_one : (l : List ℕ) → length (last_line l) ≤ 1
    at_most_one [] = omega arith
    at_most_one (b ∷ bs) = omega arith

-- a byte past the limit is seen
pub spends : (limit taken : ℕ) (xs : List ℕ) → ReadsOn (reading_with limit taken Open xs) (reading_with limit taken Spent xs) [] []
spends limit taken xs = record {
  limit = refl;
  reads = λ script out h. subst (λ s. HasRead (reading_with limit taken Spent xs) s (out ++ [])) (sym (append-nil script)) (subst (λ o. HasRead (reading_with limit taken Spent xs) script o) (sym (append-nil out)) (record { taken = h.taken; lines = h.lines; line = h.line }));
  fewer = omega arith;
}

-- ---- the same, with the state as the reader has it

-- bytes come
pub takes_on : (limit taken n : ℕ) (stage : Stage) (xs came ys : List ℕ) → stage ≡ Open → n ≡ length came → taken + n ≤ limit → ys ≡ xs ++ came
    → ReadsOn (reading_with limit taken stage xs) (reading_with limit (taken + n) stage ys) came []
takes_on limit taken n stage xs came ys going many within e = rw (going, many, e) (takes limit taken xs came (let w : taken + length came ≤ limit = omega arith in w))

-- bytes come with no line feed, and of the line under way the front is kept
pub takes_part : (limit taken n : ℕ) (stage : Stage) (xs came ys : List ℕ) → stage ≡ Open → n ≡ length came → taken + n ≤ limit → HasNoFeed (xs ++ came) → ys ≡ clip (xs ++ came)
    → ReadsOn (reading_with limit taken stage xs) (reading_with limit (taken + n) stage ys) came []
takes_part limit taken n stage xs came ys going many within none e =
    rw (going, many, e) (subst (λ b. ReadsOn (reading_with limit taken Open xs) b came []) (keeps_front limit (taken + length came) (xs ++ came) none) (takes limit taken xs came (let w : taken + length came ≤ limit = omega arith in w)))

-- the end is seen
pub ends_on : (limit taken : ℕ) (stage : Stage) (xs ys : List ℕ) → stage ≡ Open → ys ≡ xs → ReadsOn (reading_with limit taken stage xs) (reading_with limit taken Ended ys) [] []
ends_on limit taken stage xs ys going same = rw (going, same) (ends_here limit taken xs)

-- a byte past the limit is seen
pub spends_on : (limit taken : ℕ) (stage : Stage) (xs ys : List ℕ) → stage ≡ Open → ys ≡ xs → ReadsOn (reading_with limit taken stage xs) (reading_with limit taken Spent ys) [] []
spends_on limit taken stage xs ys going same = rw (going, same) (spends limit taken xs)

-- nothing changes
pub stays_on : (limit taken : ℕ) (stage : Stage) (xs ys : List ℕ) → ys ≡ xs → ReadsOn (reading_with limit taken stage xs) (reading_with limit taken stage ys) [] []
stays_on limit taken stage xs ys same = rw same (stays (reading_with limit taken stage xs))

-- no line is ready where no line feed is buffered
pub none_ready : (stage : Stage) (xs : List ℕ) → stage ≢ Ended → HasNoFeed xs → lines_at stage xs ≡ []
none_ready Open xs n h = ended_none [] xs h
none_ready Ended xs n h = absurd (n refl)
none_ready Spent xs n h = ended_none [] xs h

-- an end after bytes of which none ended a line
pub stops_after : (a b c : LineReading) (left between left' : Option (List ℕ)) (bytes : List ℕ) → Consumes left between bytes → ReadsOn a b bytes [] → a.stage ≡ b.stage
    → (end : LinesEnd) → Stops b c between left' end → Stops a c left left' end
stops_after a b c left between left' bytes came reads same ends.Read h = (bytes ++ h.0, Consumes-trans left between left' bytes h.0 came h.1, then a b c bytes h.0 [] [] reads h.2, h.3, same ∙ h.4, h.5)
stops_after a b c left between left' bytes came reads same (ends.Spent taken) h = (
  bytes ++ h.0,
  h.1,
  subst (Consumes left left') (sym (append_assoc bytes h.0 h.1)) (Consumes-trans left between left' bytes (h.0 ++ h.1) came h.2),
  h.3 ∙ ap beyond (sym same),
  then a b c bytes h.0 [] [] reads h.4,
  h.5,
  h.6,
  h.7,
  h.8,
)
