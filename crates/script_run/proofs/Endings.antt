-- what a run has done where it ends
use Rattle.std.proofs.Common.{◌≡◌, ◌≢◌, ℕ, ◌+◌, ◌-◌, ◌≤◌, List, [], ◌∷◌, ◌++◌, Option, None, Some, Ok, Err, length, take, drop, refl, sym, ap, ◌∙◌, subst, arith, append_assoc, length-append, take-append-drop, inl, inr}
use Rattle.std.proofs.lemmas.List.{append-nil, take_at}
use Rattle.std.proofs.KnownBytes.{Appends-trans, Appends-nil, Appends-kept, Consumes-nil, Consumes-trans}
use Rattle.std.specs.Borrow.{Bor}
use Rattle.std.specs.List.{concat}
use Rattle.std.specs.Io.KnownBytes.{Keeps, IsAtEnd}
use Rattle.io_traits.specs.Written.{AppendsPart}
use Rattle.script_run.specs.declared.end.Stage.{Stage}
use Rattle.script_run.specs.declared.end.Stage.TheVariants as stages
use Rattle.script_run.specs.declared.end.LinesEnd.{LinesEnd}
use Rattle.script_run.specs.declared.end.LinesEnd.TheVariants as stops
use Rattle.script_run.specs.Script.{script_lines, ended_lines, ended_from, rest_from, ended_append}
use Rattle.script_run.specs.Reading.{LineReading, HasRead, ReadsOn, Next, SeesEnd, lines_at, beyond}
use Rattle.script_run.specs.declared.engine.AnswerFault.{AnswerFault}
use Rattle.script_run.specs.declared.engine.AnswerFault.TheVariants.{Memory}
use Rattle.script_run.specs.declared.fault.RunFault.{RunFault}
use Rattle.script_run.specs.declared.fault.RunFault.TheVariants as faults
use Rattle.script_run.specs.Faults.{fault_of}
use Rattle.script_run.specs.Runs.{IsFront, AreFirst, Ran, before_last}
use Rattle.script_run.specs.Serving.{Serves}
use Rattle.script_run.proofs.Progress.{SoFar, answers_more, concat_more}

front_self : {A : Type 0} (xs : List A) → IsFront xs xs
front_self xs = ([], append-nil xs)

-- what was handed out are the first lines
first_lines : (stage : Stage) (script : List ℕ) (done ready : List (List ℕ)) (left : Option (List ℕ)) → lines_at stage script ≡ done ++ ready → (stage ≡ stages.Ended → IsAtEnd left) → AreFirst done script left
first_lines stages.Open script done ready left e end = inl (ready, sym e)
first_lines stages.Spent script done ready left e end = inl (ready, sym e)
first_lines stages.Ended script done ready left e end = inr (end refl, (ready, sym e))

-- and so are fewer of them
front_less : {A : Type 0} (xs ys all : List A) → IsFront (xs ++ ys) all → IsFront xs all
front_less xs ys all f = (ys ++ f.0, sym (append_assoc xs ys f.0) ∙ f.1)

first_less : (done more : List (List ℕ)) (script : List ℕ) (left : Option (List ℕ)) → AreFirst (done ++ more) script left → AreFirst done script left
first_less done more script left (inl f) = inl (front_less done more (ended_lines script) f)
first_less done more script left (inr f) = inr (f.0, front_less done more (script_lines script) f.1)

-- all lines that were ready were handed out
all_handed : (stage stage' : Stage) (script : List ℕ) (done ready : List (List ℕ)) → lines_at stage script ≡ (done ++ []) ++ ready → ready ≡ [] → stage ≡ stage' → done ≡ lines_at stage' script
all_handed stage stage' script done ready e none at =
    sym (append-nil done) ∙ sym (append-nil (done ++ [])) ∙ ap (λ r. (done ++ []) ++ r) (sym none) ∙ sym e ∙ ap (λ s. lines_at s script) at

-- no more than the limit was taken
bounded : (a b : LineReading) (limit : ℕ) (script came : List ℕ) (done lines : List (List ℕ)) → HasRead a script done → ReadsOn a b came lines → a.limit ≡ limit → b.taken ≤ b.limit → length (script ++ came) ≤ limit
bounded a b limit script came done lines read on same within = omega (arith, (on.reads script done read).taken, on.limit)

pub ran_nothing : {S : Type 0} (R : S → List ℕ → List ℕ → S → Type 0) (U : S → List ℕ → AnswerFault → S → Type 0) (start : S) (limit : ℕ) (l k : Option (List ℕ)) → Ran R U start start limit (Err (faults.Unanswered Memory)) l l k k
ran_nothing R U start limit l k = (
  [],
  [],
  [],
  [],
  start,
  Consumes-nil l,
  Appends-nil k,
  record {
    lines = inl (ended_lines [], refl);
    answers = refl;
    front = ([], refl);
    state = λ _. refl;
    within = λ _. omega arith;
    whole = λ e. absurd (cc);
    faulty = λ e. absurd (cc);
    spent = λ e. absurd (cc);
    stopped = λ fault e. (inr (cc, refl, refl), refl);
    cut = λ e. absurd (cc);
  },
)

-- a reader that has seen neither the end nor a byte past its limit
still_going : (stage : Stage) → stage ≢ stages.Ended → stage ≢ stages.Spent → stage ≡ stages.Open
still_going stages.Open h k = refl
still_going stages.Ended h k = absurd (h refl)
still_going stages.Spent h k = absurd (k refl)

-- one byte past what the reader may take
past_limit : (a b : LineReading) (limit : ℕ) (script came past : List ℕ) (done : List (List ℕ)) → HasRead a script done → ReadsOn a b came [] → a.limit ≡ limit → b.taken ≡ b.limit → length past ≡ 1
    → (length (script ++ came) ≡ limit) × (length (script ++ (came ++ past)) ≡ limit + 1)
past_limit a b limit script came past done read on same full one =
    let within : length (script ++ came) ≡ limit = omega (arith, (on.reads script done read).taken, on.limit) in
    (within, ap length (sym (append_assoc script came past)) ∙ length-append (script ++ came) past ∙ (λ i. within i + one i))

-- a line that was handed out ends the first lines
handed : (a b : LineReading) (script came : List ℕ) (done : List (List ℕ)) (line : List ℕ) (left : Option (List ℕ)) → HasRead a script done → ReadsOn a b came (line ∷ []) → SeesEnd b left → AreFirst (done ++ line ∷ []) (script ++ came) left
handed a b script came done line left read on end = first_lines b.stage (script ++ came) (done ++ line ∷ []) b.ready left ((on.reads script done read).lines) end

before_more : (texts : List (List ℕ)) (text : List ℕ) → before_last (texts ++ text ∷ []) ≡ texts
before_more texts text = take_at texts (text ∷ []) (length (texts ++ text ∷ []) - 1) (let e : length texts ≡ length (texts ++ text ∷ []) - 1 = omega (arith, length-append texts (text ∷ [])) in e)

-- ---- a run that has come so far, by how its next line goes

module _ {S : Type 0} {R : S → List ℕ → List ℕ → S → Type 0} {U : S → List ℕ → AnswerFault → S → Type 0} {start now : S} {limit : ℕ} {a b : LineReading} {l l' l'' k k' : Option (List ℕ)} {script : List ℕ} {done texts : List (List ℕ)}
    (far : SoFar R start now limit a l l' k k' script done texts) where
  pub ran_done : Next a b l' l'' (Ok None) → Ran R U start now limit (Ok tt) l l'' k k'
  ran_done call =
      let came = call.answers.0 in
      let on = call.answers.2 in
      let read : HasRead b (script ++ came) (done ++ []) = on.reads script done far.read in
      let all : done ≡ script_lines (script ++ came) = all_handed b.stage stages.Ended (script ++ came) done b.ready read.lines call.answers.3 call.answers.4 in (
        script ++ came,
        concat texts,
        done,
        texts,
        now,
        Consumes-trans l l' l'' script came far.came call.answers.1,
        far.written,
        record {
          lines = inr (call.end far.end call.answers.4, subst (IsFront done) all (front_self done));
          answers = far.answers;
          front = front_self (concat texts);
          state = λ _. refl;
          within = λ _. bounded a b limit script came done [] far.read on far.same_limit call.within;
          whole = λ _. (all, refl, call.end far.end call.answers.4);
          faulty = λ e. absurd (cc);
          spent = λ e. absurd (cc);
          stopped = λ fault e. absurd (cc);
          cut = λ e. absurd (cc);
        },
      )

  ran_faulty : Next a b l' l'' (Err stops.Read) → Ran R U start now limit (Err faults.Read) l l'' k k'
  ran_faulty call =
      let came = call.answers.0 in
      let on = call.answers.2 in
      let read : HasRead b (script ++ came) (done ++ []) = on.reads script done far.read in
      let all : done ≡ ended_lines (script ++ came) = all_handed b.stage stages.Open (script ++ came) done b.ready read.lines call.answers.3 call.answers.5 in (
        script ++ came,
        concat texts,
        done,
        texts,
        now,
        Consumes-trans l l' l'' script came far.came call.answers.1,
        far.written,
        record {
          lines = inl (subst (IsFront done) all (front_self done));
          answers = far.answers;
          front = front_self (concat texts);
          state = λ _. refl;
          within = λ _. bounded a b limit script came done [] far.read on far.same_limit call.within;
          whole = λ e. absurd (cc);
          faulty = λ _. (all, refl);
          spent = λ e. absurd (cc);
          stopped = λ fault e. absurd (cc);
          cut = λ e. absurd (cc);
        },
      )

  ran_spent : {told : ℕ} → Next a b l' l'' (Err (stops.Spent told)) → a.stage ≢ stages.Ended → Ran R U start now limit (Err faults.Spent) l l'' k k'
  ran_spent call unended =
      let going : a.stage ≡ stages.Open = still_going a.stage unended far.unspent in
      let came = call.answers.0 in
      let past = call.answers.1 in
      let on = call.answers.4 in
      let read : HasRead b (script ++ came) (done ++ []) = on.reads script done far.read in
      let all : done ≡ ended_lines (script ++ came) = all_handed b.stage stages.Spent (script ++ came) done b.ready read.lines call.answers.5 call.answers.6 in
      let many = past_limit a b limit script came past done far.read on far.same_limit call.answers.7 (call.answers.3 ∙ ap beyond going) in
      let joined : (script ++ came) ++ past ≡ script ++ (came ++ past) = append_assoc script came past in
      let more : ended_lines (script ++ (came ++ past)) ≡ done ++ ended_from (rest_from [] (script ++ came)) past =
      ap ended_lines (sym joined) ∙ ended_append [] (script ++ came) past ∙ ap (λ ls. ls ++ ended_from (rest_from [] (script ++ came)) past) (sym all) in
      let front : take limit (script ++ (came ++ past)) ≡ script ++ came = ap (take limit) (sym joined) ∙ take_at (script ++ came) past limit many.0 in (
        script ++ (came ++ past),
        concat texts,
        done,
        texts,
        now,
        Consumes-trans l l' l'' script (came ++ past) far.came call.answers.2,
        far.written,
        record {
          lines = inl (ended_from (rest_from [] (script ++ came)) past, sym more);
          answers = far.answers;
          front = front_self (concat texts);
          state = λ _. refl;
          within = λ e. absurd (e refl);
          whole = λ e. absurd (cc);
          faulty = λ e. absurd (cc);
          spent = λ _. (many.1, all ∙ ap ended_lines (sym front), refl);
          stopped = λ fault e. absurd (cc);
          cut = λ e. absurd (cc);
        },
      )

  ran_unanswered : {after : S} (k'' : Option (List ℕ)) {line : Bor (List ℕ)} (fault : AnswerFault) → Next a b l' l'' (Ok (Some line)) → U now line.now fault after × Keeps k' k''
      → Ran R U start after limit (Err (faults.Unanswered fault)) l l'' k k''
  ran_unanswered {after} k'' {line} fault call told =
      let came = call.answers.0 in
      let on = call.answers.2 in
      let first = handed a b script came done line.now l'' far.read on (call.end far.end) in (
        script ++ came,
        concat texts,
        done,
        texts,
        now,
        Consumes-trans l l' l'' script came far.came call.answers.1,
        Appends-kept k k' k'' (concat texts) far.written told.1,
        record {
          lines = first_less done (line.now ∷ []) (script ++ came) l'' first;
          answers = far.answers;
          front = front_self (concat texts);
          state = λ e. absurd (e fault refl);
          within = λ _. bounded a b limit script came done (line.now ∷ []) far.read on far.same_limit call.within;
          whole = λ e. absurd (cc);
          faulty = λ e. absurd (cc);
          spent = λ e. absurd (cc);
          stopped = λ other e. (inl (record { line = line.now; first = first; stops = subst (λ f. U now line.now f after) (cc) told.0 }), refl);
          cut = λ e. absurd (cc);
        },
      )

  ran_unwritten : {next : S} (k'' : Option (List ℕ)) {line : Bor (List ℕ)} → Next a b l' l'' (Ok (Some line)) → (text : List ℕ) × R now line.now text next × AppendsPart k' k'' text → Ran R U start next limit (Err faults.Write) l l'' k k''
  ran_unwritten {next} k'' {line} call told =
      let came = call.answers.0 in
      let on = call.answers.2 in
      let text = told.0 in
      let part = told.2 in (
        script ++ came,
        concat texts ++ take part.0 text,
        done ++ line.now ∷ [],
        texts ++ text ∷ [],
        next,
        Consumes-trans l l' l'' script came far.came call.answers.1,
        Appends-trans k k' k'' (concat texts) (take part.0 text) far.written part.1,
        record {
          lines = handed a b script came done line.now l'' far.read on (call.end far.end);
          answers = answers_more R start now next done texts line.now text far.answers told.1;
          front = (drop part.0 text, append_assoc (concat texts) (take part.0 text) (drop part.0 text) ∙ ap (λ t. concat texts ++ t) (take-append-drop part.0 text) ∙ sym (concat_more texts text));
          state = λ _. refl;
          within = λ _. bounded a b limit script came done (line.now ∷ []) far.read on far.same_limit call.within;
          whole = λ e. absurd (cc);
          faulty = λ e. absurd (cc);
          spent = λ e. absurd (cc);
          stopped = λ fault e. absurd (cc);
          cut = λ _. (take part.0 text, ap (λ ts. concat ts ++ take part.0 text) (before_more texts text));
        },
      )

  pub ran_unread : (end : LinesEnd) → Next a b l' l'' (Err end) → a.stage ≢ stages.Ended → Ran R U start now limit (Err (fault_of end)) l l'' k k'
  ran_unread stops.Read call unended = ran_faulty call
  ran_unread (stops.Spent told) call unended = ran_spent call unended

  pub ran_unserved : {next : S} (k'' : Option (List ℕ)) {line : Bor (List ℕ)} (fault : RunFault) → Next a b l' l'' (Ok (Some line)) → Serves {T = Unit {0}} R U now next k' k'' line.now (Err fault) → Ran R U start next limit (Err fault) l l'' k k''
  ran_unserved k'' faults.Read call serves = absurd serves
  ran_unserved k'' faults.Spent call serves = absurd serves
  ran_unserved k'' faults.Write call serves = ran_unwritten k'' call serves
  ran_unserved k'' (faults.Unanswered fault) call serves = ran_unanswered k'' fault call serves
