-- what holds of a transcribed store, behind each way out of a call
use Rattle.std.proofs.Common.{◌≡◌, ◌≢◌, inl, inr, ℕ, zero, suc, ◌+◌, ◌<◌, ◌≤◌, Bool, true, false, List, [], ◌∷◌, ◌++◌, length, Option, None, Some, refl, sym, ap, ◌∙◌, subst, arith}
use Rattle.std.proofs.lemmas.Bool.{cases_eq}
use Rattle.std.proofs.lemmas.List.{length-replicate, length-set}
use Rattle.std.proofs.lemmas.Option.{none-some}
use Rattle.disk_trait.specs.Told.{Told}
use Rattle.page_map.specs.PageMap.{View}
use Rattle.std.specs.Prelude.{map, replicate, slice_get, slice_index_or, slice_set}
use Rattle.std.specs.Option.{is_some}
use Rattle.store_layout.specs.declared.statement.Statement.{Statement}
use Rattle.store_layout.specs.DiskLayout.{DiskLayout}
use Rattle.transcripts.specs.Transcript.{IsNext, Line, Said, entries_of}
use Rattle.transcript_laws.specs.Schedule.{entry_of}
use Rattle.transcript_laws.specs.ScheduleLaws.{FitsSchema}
use Rattle.plain_script.specs.HeldScripts.{HeldScript, IsLineOf}
use Rattle.plain_script.specs.PlainScripts.{HasItsSessions, PlainScript}
use Rattle.session_parts.specs.StoreStates.{StoreState, hand_at}
use Rattle.session_stepper.specs.declared.ending.Ending.{Ending}
use Rattle.session_stepper.specs.Beginning.{HasAllSessions, IsFresh}
use Rattle.session_stepper.specs.TranscribedState.{TranscribedState, line_at, lines_in}
use Rattle.session_stepper.specs.Transcribed.{IsTranscribed, one_in_hand}
use Rattle.session_stepper.proofs.Entries.{counted_on, held_on, next_stays, other_entry, other_line, own_entry, own_line}

not_ended : (why : Ending) → Some why ≡ None → ⊥
not_ended why e = cc

no_number : (number : ℕ) → None ≡ Some number → ⊥
no_number number e = cc

-- the sessions and the layout stay, and so does what the script says
pub record StaysInSessions {D : Type 0} (s : TranscribedState D) (store : StoreState D) (held : HeldScript) : Type 0 where
  pub names : store.names ≡ s.store.names
  pub layout : store.pages.layout ≡ s.store.pages.layout
  pub script : held.script ≡ s.script.script

module _ {D : Type 0} (s : TranscribedState D) (counts : List ℕ) (t : IsTranscribed s counts) (store : StoreState D) (held : HeldScript) (stays : StaysInSessions s store held) where
  lines_same : held.script.lines ≡ lines_in s
  lines_same = ap (λ (p : PlainScript). p.lines) stays.script

  sessions_on : HasItsSessions held.script
  sessions_on = subst (λ (p : PlainScript). HasItsSessions p) (sym stays.script) t.sessions

  names_on : store.names ≡ held.script.names
  names_on = stays.names ∙ t.names ∙ ap (λ (p : PlainScript). p.names) (sym stays.script)

  fits_on : FitsSchema store.pages.layout.schema held.script.lines
  fits_on = subst (λ (l : List Line). FitsSchema store.pages.layout.schema l) (sym lines_same) (subst (λ (d : DiskLayout). FitsSchema d.schema (lines_in s)) (sym stays.layout) t.fits)

  wide_on : (counts' : List ℕ) → length counts' ≡ length counts → length counts' ≡ length store.names
  wide_on counts' same = same ∙ t.wide ∙ sym (ap (length {A = List ℕ}) stays.names)

  wide_in_hand_on : (in_hand : List (Option ℕ)) → length in_hand ≡ length s.in_hand → length in_hand ≡ length store.names
  wide_in_hand_on in_hand same = same ∙ t.wide_in_hand ∙ sym (ap (length {A = List ℕ}) stays.names)

  next_here : (said : List Said) (n number : ℕ) (statement : Statement) → IsNext (lines_in s) said n number statement → IsNext held.script.lines said n number statement
  next_here said n number statement next = subst (λ (l : List Line). IsNext l said n number statement) (sym lines_same) next

  line_back : (n number rank : ℕ) (statement : Statement) → IsLineOf held.script.lines n number rank statement → IsLineOf (lines_in s) n number rank statement
  line_back n number rank statement is = subst (λ (l : List Line). IsLineOf l n number rank statement) lines_same is

  -- it ends
  pub ends : (why : Ending) → IsTranscribed (record s { store = store; script = held; ended = Some why }) counts
  ends why = record {
    names = names_on;
    sessions = sessions_on;
    fits = fits_on;
    wide = wide_on counts refl;
    wide_in_hand = wide_in_hand_on s.in_hand refl;
    counted = t.counted;
    next = λ n number is. let x = t.next n number is in (x.0, next_here s.said n number x.0 x.1);
    hands = λ none. absurd (not_ended why none);
    held = λ none. absurd (not_ended why none);
  }

  module _ (none : s.ended ≡ None) (n : ℕ) (within : n < length s.in_hand) (others : (m : ℕ) → m ≢ n → hand_at store m ≡ hand_at s.store m) where
    -- whose hand is as the line that it has in hand
    hands_on : (in_hand : List (Option ℕ)) → is_some (hand_at store n) ≡ is_some (line_at in_hand n) → ((m : ℕ) → m ≢ n → line_at in_hand m ≡ line_at s.in_hand m) → (m : ℕ)
        → is_some (hand_at store m) ≡ is_some (line_at in_hand m)
    hands_on in_hand own rest m = elim (cases_eq m n) [
      | inl same ↦ subst (λ (k : ℕ). is_some (hand_at store k) ≡ is_some (line_at in_hand k)) (sym same) own
      | inr apart ↦ ap is_some (others m apart) ∙ t.hands none m ∙ sym (ap is_some (rest m apart))
    ]

    -- a step of its line is made or waits, and it goes on
    pub goes_on : held ≡ s.script → is_some (hand_at store n) ≡ is_some (line_at s.in_hand n) → IsTranscribed (record s { store = store; script = held }) counts
    goes_on same own = record {
      names = names_on;
      sessions = sessions_on;
      fits = fits_on;
      wide = wide_on counts refl;
      wide_in_hand = wide_in_hand_on s.in_hand refl;
      counted = t.counted;
      next = λ m number is. let x = t.next m number is in (x.0, next_here s.said m number x.0 x.1);
      hands = λ _. hands_on s.in_hand own (λ m apart. refl);
      held = λ _ m number rank statement is few. subst (λ (h : HeldScript). slice_get h.held number ≡ Some true) (sym same) (t.held none m number rank statement (line_back m number rank statement is) few);
    }

    -- its line is answered
    pub answers : (number : ℕ) (text : List ℕ) → held ≡ s.script → line_at s.in_hand n ≡ Some number → n < length counts → hand_at store n ≡ None
        → IsTranscribed (record s { store = store; script = held; said = s.said ++ entry_of n number text ∷ []; in_hand = slice_set s.in_hand n None }) (slice_set counts n (slice_index_or counts n 0 + 1))
    answers number text same in_hand counted idle =
        let emptied : line_at (slice_set s.in_hand n None) n ≡ None = own_line s.in_hand n None within in
        record {
          names = names_on;
          sessions = sessions_on;
          fits = fits_on;
          wide = wide_on (slice_set counts n (slice_index_or counts n 0 + 1)) (length-set counts n (slice_index_or counts n 0 + 1));
          wide_in_hand = wide_in_hand_on (slice_set s.in_hand n None) (length-set s.in_hand n None);
          counted = counted_on s.said n number text counts counted t.counted;
          next = λ m line is. elim (cases_eq m n) [
            | inl alike ↦ absurd (no_number line (sym emptied ∙ ap (line_at (slice_set s.in_hand n None)) (sym alike) ∙ is))
            | inr apart ↦
                let x = t.next m line (sym (other_line s.in_hand n None m apart) ∙ is) in
                (x.0, next_stays s.said n number text held.script.lines m line x.0 apart (next_here s.said m line x.0 x.1))
          ];
          hands = λ _. hands_on (slice_set s.in_hand n None) (ap is_some idle ∙ sym (ap is_some emptied)) (other_line s.in_hand n None);
          held = λ _ m line rank statement is few.
              subst (λ (h : HeldScript). slice_get h.held line ≡ Some true) (sym same) (t.held none m line rank statement (line_back m line rank statement is) (elim (cases_eq m n) [
                | inl alike ↦ subst (λ (k : ℕ). length (entries_of k s.said) + one_in_hand (line_at s.in_hand k) ≤ rank) (sym alike) (answered_enough number rank in_hand
                    (subst (λ (k : ℕ). length (entries_of k (s.said ++ entry_of n number text ∷ [])) + one_in_hand (line_at (slice_set s.in_hand n None) k) ≤ rank) alike few))
                | inr apart ↦ subst (λ (l : List Said). length l + one_in_hand (line_at s.in_hand m) ≤ rank) (other_entry s.said n number text m apart)
                    (subst (λ (o : Option ℕ). length (entries_of m (s.said ++ entry_of n number text ∷ [])) + one_in_hand o ≤ rank) (other_line s.in_hand n None m apart) few)
              ]));
        }
      where
        answered_enough : (number rank : ℕ) → line_at s.in_hand n ≡ Some number → length (entries_of n (s.said ++ entry_of n number text ∷ [])) + one_in_hand (line_at (slice_set s.in_hand n None) n) ≤ rank
            → length (entries_of n s.said) + one_in_hand (line_at s.in_hand n) ≤ rank
        answered_enough number rank in_hand few =
            let own = own_entry s.said n number text in
            let one : one_in_hand (line_at s.in_hand n) ≡ 1 = ap one_in_hand in_hand in
            omega (arith, own, one, few)

    -- its next line is taken
    pub takes : (number : ℕ) (statement : Statement) → IsNext (lines_in s) s.said n number statement → held.held ≡ slice_set s.script.held number false → is_some (hand_at store n) ≡ true
        → line_at s.in_hand n ≡ None → IsTranscribed (record s { store = store; script = held; in_hand = slice_set s.in_hand n (Some number) }) counts
    takes number statement next taken busy idle =
        let filled : line_at (slice_set s.in_hand n (Some number)) n ≡ Some number = own_line s.in_hand n (Some number) within in
        record {
          names = names_on;
          sessions = sessions_on;
          fits = fits_on;
          wide = wide_on counts refl;
          wide_in_hand = wide_in_hand_on (slice_set s.in_hand n (Some number)) (length-set s.in_hand n (Some number));
          counted = t.counted;
          next = λ m line is. elim (cases_eq m n) [
            | inl alike ↦
                let here : Some number ≡ Some line = sym filled ∙ ap (line_at (slice_set s.in_hand n (Some number))) (sym alike) ∙ is in
                let it : number ≡ line = cc in
                (statement, subst (λ (k : ℕ). IsNext held.script.lines s.said k line statement) (sym alike) (subst (λ (k : ℕ). IsNext held.script.lines s.said n k statement) it (next_here s.said n number statement next)))
            | inr apart ↦ let x = t.next m line (sym (other_line s.in_hand n (Some number) m apart) ∙ is) in (x.0, next_here s.said m line x.0 x.1)
          ];
          hands = λ _. hands_on (slice_set s.in_hand n (Some number)) (busy ∙ sym (ap is_some filled)) (other_line s.in_hand n (Some number));
          held = λ _ m line rank other is few.
              let there = line_back m line rank other is in
              subst (λ (l : List Bool). slice_get l line ≡ Some true) (sym taken) (held_on (lines_in s) s.script.held n m number line (length (entries_of n s.said)) rank statement other
              (record { is = next.is; behind = next.rank }) there (λ alike same. past m rank alike same few)
              (t.held none m line rank other there (enough m rank few)));
        }
      where
        filled_one : one_in_hand (line_at (slice_set s.in_hand n (Some number)) n) ≡ 1
        filled_one = ap one_in_hand (own_line s.in_hand n (Some number) within)

        past : (m rank : ℕ) → m ≡ n → rank ≡ length (entries_of n s.said) → length (entries_of m s.said) + one_in_hand (line_at (slice_set s.in_hand n (Some number)) m) ≤ rank → ⊥
        past m rank alike same few =
            let own : length (entries_of n s.said) + one_in_hand (line_at (slice_set s.in_hand n (Some number)) n) ≤ rank =
            subst (λ (k : ℕ). length (entries_of k s.said) + one_in_hand (line_at (slice_set s.in_hand n (Some number)) k) ≤ rank) alike few in
            omega (arith, own, same, filled_one)

        enough : (m rank : ℕ) → length (entries_of m s.said) + one_in_hand (line_at (slice_set s.in_hand n (Some number)) m) ≤ rank → length (entries_of m s.said) + one_in_hand (line_at s.in_hand m) ≤ rank
        enough m rank few = elim (cases_eq m n) [
          | inl alike ↦ subst (λ (k : ℕ). length (entries_of k s.said) + one_in_hand (line_at s.in_hand k) ≤ rank) (sym alike) (let zero : one_in_hand (line_at s.in_hand n) ≡ 0 = ap one_in_hand idle in
              let own : length (entries_of n s.said) + one_in_hand (line_at (slice_set s.in_hand n (Some number)) n) ≤ rank =
              subst (λ (k : ℕ). length (entries_of k s.said) + one_in_hand (line_at (slice_set s.in_hand n (Some number)) k) ≤ rank) alike few in omega (arith, own, zero))
          | inr apart ↦ subst (λ (o : Option ℕ). length (entries_of m s.said) + one_in_hand o ≤ rank) (other_line s.in_hand n (Some number) m apart) few
        ]

    -- its next line is refused
    pub refuses : (number : ℕ) (statement : Statement) (text : List ℕ) → IsNext (lines_in s) s.said n number statement → held.held ≡ slice_set s.script.held number false → n < length counts
        → line_at s.in_hand n ≡ None → hand_at store n ≡ hand_at s.store n
        → IsTranscribed (record s { store = store; script = held; said = s.said ++ entry_of n number text ∷ [] }) (slice_set counts n (slice_index_or counts n 0 + 1))
    refuses number statement text next taken counted idle alone =
        record {
          names = names_on;
          sessions = sessions_on;
          fits = fits_on;
          wide = wide_on (slice_set counts n (slice_index_or counts n 0 + 1)) (length-set counts n (slice_index_or counts n 0 + 1));
          wide_in_hand = wide_in_hand_on s.in_hand refl;
          counted = counted_on s.said n number text counts counted t.counted;
          next = λ m line is. elim (cases_eq m n) [
            | inl alike ↦ absurd (no_number line (sym idle ∙ ap (line_at s.in_hand) (sym alike) ∙ is))
            | inr apart ↦ let x = t.next m line is in (x.0, next_stays s.said n number text held.script.lines m line x.0 apart (next_here s.said m line x.0 x.1))
          ];
          hands = λ _. hands_on s.in_hand (ap is_some alone ∙ t.hands none n) (λ m apart. refl);
          held = λ _ m line rank other is few.
              let there = line_back m line rank other is in
              subst (λ (l : List Bool). slice_get l line ≡ Some true) (sym taken) (held_on (lines_in s) s.script.held n m number line (length (entries_of n s.said)) rank statement other
              (record { is = next.is; behind = next.rank }) there (λ alike same. past m rank alike same few)
              (t.held none m line rank other there (enough m rank few)));
        }
      where
        past : (m rank : ℕ) → m ≡ n → rank ≡ length (entries_of n s.said) → length (entries_of m (s.said ++ entry_of n number text ∷ [])) + one_in_hand (line_at s.in_hand m) ≤ rank → ⊥
        past m rank alike same few =
            let own : length (entries_of n (s.said ++ entry_of n number text ∷ [])) + one_in_hand (line_at s.in_hand n) ≤ rank =
            subst (λ (k : ℕ). length (entries_of k (s.said ++ entry_of n number text ∷ [])) + one_in_hand (line_at s.in_hand k) ≤ rank) alike few in
            let more = own_entry s.said n number text in
            omega (arith, own, same, more)

        enough : (m rank : ℕ) → length (entries_of m (s.said ++ entry_of n number text ∷ [])) + one_in_hand (line_at s.in_hand m) ≤ rank → length (entries_of m s.said) + one_in_hand (line_at s.in_hand m) ≤ rank
        enough m rank few = elim (cases_eq m n) [
          | inl alike ↦ subst (λ (k : ℕ). length (entries_of k s.said) + one_in_hand (line_at s.in_hand k) ≤ rank) (sym alike) (let more = own_entry s.said n number text in
              let own : length (entries_of n (s.said ++ entry_of n number text ∷ [])) + one_in_hand (line_at s.in_hand n) ≤ rank =
              subst (λ (k : ℕ). length (entries_of k (s.said ++ entry_of n number text ∷ [])) + one_in_hand (line_at s.in_hand k) ≤ rank) alike few in omega (arith, own, more))
          | inr apart ↦ subst (λ (l : List Said). length l + one_in_hand (line_at s.in_hand m) ≤ rank) (other_entry s.said n number text m apart) few
        ]

-- ---- before the first line

nothing_at : (k m : ℕ) → line_at (replicate k None) m ≡ None
nothing_at zero m = refl
nothing_at (suc k) zero = refl
nothing_at (suc k) (suc m) = nothing_at k m

abbrev zeros_of : ℕ → List ℕ
zeros_of k = replicate k 0

abbrev count_at : List ℕ → ℕ → ℕ
count_at counts m = slice_index_or counts m 0

nobody_told : (k m : ℕ) → count_at (zeros_of k) m ≡ 0
nobody_told zero m = refl
nobody_told (suc k) zero = refl
nobody_told (suc k) (suc m) = nobody_told k m

all_held : (lines : List Line) (number : ℕ) (line : Line) → slice_get lines number ≡ Some line → slice_get (map (λ (l : Line). true) lines) number ≡ Some true
all_held [] number line is = absurd (none-some line is)
all_held (l ∷ ls) zero line is = refl
all_held (l ∷ ls) (suc number) line is = all_held ls number line is

no_hand : {A : Type 0} (o : Option A) → o ≡ None → is_some o ≡ false
no_hand o is = ap is_some is

pub in_hand_none : (in_hand : List (Option ℕ)) (k : ℕ) → in_hand ≡ replicate k None → (n : ℕ) → line_at in_hand n ≡ None
in_hand_none in_hand k is n = ap (λ (l : List (Option ℕ)). line_at l n) is ∙ nothing_at k n

pub begins : {D : Type 0} (told : D → Told) (first store : StoreState D) (script : HeldScript) (said : List Said) (counts : List ℕ) (in_hand : List (Option ℕ)) (ended : Option Ending) (k : ℕ) → IsFresh first script
    → HasAllSessions told first store script.script.names → said ≡ [] → counts ≡ replicate k 0 → in_hand ≡ replicate k None → ended ≡ None → k ≡ length script.script.names
    → IsTranscribed (record { store = store; script = script; said = said; in_hand = in_hand; ended = ended }) counts
begins {D} told first store script said counts in_hand ended k fresh made none_said zeros nones none many = record {
  names = made.names_are;
  sessions = fresh.sessions;
  fits = subst (λ (v : View D). FitsSchema v.layout.schema script.script.lines) (sym made.pages) fresh.fits;
  wide = ap (length {A = ℕ}) zeros ∙ length-replicate k 0 ∙ many ∙ sym (ap (length {A = List ℕ}) made.names_are);
  wide_in_hand = ap (length {A = Option ℕ}) nones ∙ length-replicate k None ∙ many ∙ sym (ap (length {A = List ℕ}) made.names_are);
  counted = λ n few. ap (λ (l : List ℕ). slice_index_or l n 0) zeros ∙ nobody_told k n ∙ sym (ap (λ (l : List Said). length (entries_of n l)) none_said);
  next = λ n number is. absurd (no_number number (sym (in_hand_none in_hand k nones n) ∙ is));
  hands = λ _ n. no_hand (hand_at store n) (made.idle n) ∙ sym (no_hand (line_at in_hand n) (in_hand_none in_hand k nones n));
  held = λ _ n number rank statement is few.
      subst (λ (h : HeldScript). slice_get h.held number ≡ Some true) (sym fresh.whole) (all_held script.script.lines number (record { session = n; statement = statement }) is.is);
}
