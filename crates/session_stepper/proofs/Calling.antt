-- what a submission and a step of a transcribed store come to, at each way out
use Rattle.std.proofs.Common.{◌≡◌, inl, ℕ, zero, suc, ◌<◌, true, false, List, [], ◌∷◌, length, Option, None, Some, refl, sym, ap, ◌∙◌, subst, arith}
use Rattle.std.proofs.lemmas.Bool.{false≢true, true≢false}
use Rattle.std.proofs.lemmas.List.Elements.{All-head, All-tail}
use Rattle.std.proofs.lemmas.Option.{none-some, same_Some}
use Rattle.std.specs.Prelude.{All, IsSome, slice_get, slice_index_or}
use Rattle.std.specs.Option.{is_some}
use Rattle.block_model.specs.declared.reply.Refusal.{Refusal}
use Rattle.disk_trait.specs.Told.{Told}
use Rattle.store_layout.specs.declared.statement.Statement.{Statement}
use Rattle.store_layout.specs.StatementFits.{IsStatementFor}
use Rattle.script_semantics.specs.LineTexts.{Submits}
use Rattle.transcripts.specs.Transcript.{IsNext, Line}
use Rattle.plain_script.specs.HeldScripts.{HeldScript, IsLineOf}
use Rattle.session_parts.specs.StepIs.{LeadsOn}
use Rattle.session_parts.specs.StoreStates.{StoreState, hand_at}
use Rattle.session_orders.specs.Leading.{PlacesLead}
use Rattle.session_orders.specs.OneStep.{LeavesTables}
use Rattle.session_orders.proofs.Crash.{OnlyNow}
use Rattle.session_orders.proofs.Leading.{led_beside}
use Rattle.session_orders.proofs.Stepping.{submit_keeps}
use Rattle.session_stepper.specs.declared.ending.Ending.{Ending}
use Rattle.session_stepper.specs.Calls.{IsOver}
use Rattle.session_stepper.specs.Transcribed.{IsTranscribed, one_in_hand}
use Rattle.session_stepper.specs.TranscribedState.{IsAtWork, IsOpenNext, TranscribedState, line_at, lines_in, name_in}

all_at : {X : Type 0} (P : X → Type 0) (xs : List X) (i : ℕ) (x : X) → All P xs → slice_get xs i ≡ Some x → P x
all_at P [] i x all is = absurd (none-some _ is)
all_at P (y ∷ ys) zero x all is = subst P (same_Some _ _ is) (All-head P y ys all)
all_at P (y ∷ ys) (suc i) x all is = all_at P ys i x (All-tail P y ys all) is

-- ---- what is known before a call

pub over_of : {D : Type 0} (s : TranscribedState D) → is_some s.ended ≡ true → IsOver s s
over_of s some = by s.ended refl some
  where
    by : (o : Option Ending) → s.ended ≡ o → is_some o ≡ true → IsOver s s
    by None is some = absurd (false≢true some)
    by (Some why) is some = record { why = why; was = is; same = refl }

pub none_of : (o : Option Ending) → is_some o ≡ false → o ≡ None
none_of None is = refl
none_of (Some why) is = absurd (true≢false is)

-- the script is as it was
pub same_held : (a b : HeldScript) → b.script ≡ a.script → b.held ≡ a.held → b ≡ a
same_held a b script held = (λ i. record { script = script i; held = held i })

module _ {D : Type 0} (s : TranscribedState D) (counts : List ℕ) (t : IsTranscribed s counts) where
  -- a line's session is one of them
  pub within_of : (n number : ℕ) (statement : Statement) → IsNext (lines_in s) s.said n number statement → n < length counts
  within_of n number statement next =
      let few : n < length s.script.script.names = all_at (λ (line : Line). line.session < length s.script.script.names) (lines_in s) number (record { session = n; statement = statement }) t.sessions.within next.is in
      let names = ap (length {A = List ℕ}) t.names in
      omega (arith, few, names, t.wide)

  pub fits_of : (n number rank : ℕ) (statement : Statement) → IsLineOf (lines_in s) n number rank statement → IsStatementFor s.store.pages.layout.schema statement
  fits_of n number rank statement is = all_at (λ (line : Line). IsStatementFor s.store.pages.layout.schema line.statement) (lines_in s) number (record { session = n; statement = statement }) t.fits is.is

  -- a line that is taken by its rank is the session's next one
  pub next_of : (n number count : ℕ) (statement : Statement) → n < length counts → count ≡ slice_index_or counts n 0 → IsLineOf (lines_in s) n number count statement → IsNext (lines_in s) s.said n number statement
  next_of n number count statement within is line = record { is = line.is; rank = line.behind ∙ is ∙ t.counted n within }

  pub open_of : (n number count : ℕ) (statement : Statement) → n < length counts → count ≡ slice_index_or counts n 0 → line_at s.in_hand n ≡ None → IsLineOf (lines_in s) n number count statement → IsOpenNext s n number statement
  open_of n number count statement within is idle line = record { none = idle; next = next_of n number count statement within is line }

  -- a session that isn't there, or has a line in hand, has no open line
  pub not_idle : (n number : ℕ) → (n < length counts → IsSome (line_at s.in_hand n)) → (statement : Statement) → IsOpenNext s n number statement → ⊥
  not_idle n number busy statement next_line = false≢true (sym (ap is_some next_line.none) ∙ busy (within_of n number statement next_line.next))

  -- and a line whose statement isn't held isn't an open one
  pub not_held : (n number count : ℕ) → s.ended ≡ None → n < length counts → count ≡ slice_index_or counts n 0 → ((statement : Statement) → IsLineOf (lines_in s) n number count statement → slice_get s.script.held number ≡ Some false)
      → (statement : Statement) → IsOpenNext s n number statement → ⊥
  not_held n number count none within is gone statement next_line =
      let behind : IsLineOf (lines_in s) n number count statement = record { is = next_line.next.is; behind = next_line.next.rank ∙ sym (t.counted n within) ∙ sym is } in
      let told = t.counted n within in
      let idle : one_in_hand (line_at s.in_hand n) ≡ 0 = ap one_in_hand next_line.none in
      let there : slice_get s.script.held number ≡ Some true = t.held none n number count statement behind (omega (arith, told, idle, is)) in
      false≢true (same_Some false true (sym (gone statement behind) ∙ there))

  -- a session with a line in hand is at work
  pub at_work : (n number : ℕ) → line_at s.in_hand n ≡ Some number → IsAtWork s n number
  at_work n number is = let x = t.next n number is in record { in_hand = is; statement = x.0; next = x.1 }

  pub busy_of : (n number : ℕ) → s.ended ≡ None → line_at s.in_hand n ≡ Some number → IsSome (hand_at s.store n)
  busy_of n number none is = t.hands none n ∙ ap is_some is

  pub idle_of : (n : ℕ) → s.ended ≡ None → line_at s.in_hand n ≡ None → hand_at s.store n ≡ None
  idle_of n none is = no_hand (hand_at s.store n) (t.hands none n ∙ ap is_some is)
    where
      no_hand : {A : Type 0} (o : Option A) → is_some o ≡ false → o ≡ None
      no_hand None e = refl
      no_hand (Some h) e = absurd (true≢false e)

  pub not_at_work : (n : ℕ) → line_at s.in_hand n ≡ None → (number : ℕ) → IsAtWork s n number → ⊥
  not_at_work n is number at = none-some _ (sym is ∙ at.in_hand)

  -- its name
  pub name_of : (n : ℕ) (names : List (List ℕ)) → names ≡ s.store.names → slice_index_or names n [] ≡ name_in s n
  name_of n names same = ap (λ (l : List (List ℕ)). slice_index_or l n []) (same ∙ t.names)

-- ---- a submission

module _ {D : Type 0} (told : D → Told) (s s' : StoreState D) (only : OnlyNow told s.pages) (n : ℕ) (statement : Statement) where
  pub submission_leads : (refusal : Option Refusal) → s'.pages ≡ s.pages → LeadsOn told s s' (λ p q. Submits p n statement refusal q) → PlacesLead told s s' (λ p q. Submits p n statement refusal q)
  submission_leads refusal same leads =
      led_beside told s s' (λ p q. Submits p n statement refusal q) (λ p q. Submits p n statement refusal q) only same leads (λ p q is. submit_keeps p q n statement refusal is) (λ p q is. is)

  pub tables_stay : s' ≡ s → LeavesTables told s s' n
  tables_stay same = subst (λ (x : StoreState D). LeavesTables told s x n) (sym same) (λ p shown all image now. inl (all image now))
