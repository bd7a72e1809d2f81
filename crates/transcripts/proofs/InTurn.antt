-- A transcript in which deletes stand alone is a run of whole statements, and each such run is a transcript.
use Rattle.std.proofs.Common.{◌≡◌, ◌≢◌, inl, inr, ℕ, Bool, cond, ne_eqb, List, [], ◌∷◌, ◌++◌, length, None, Some, refl, sym, ap, subst, ◌∙◌}
use Rattle.std.specs.Prelude.{map, slice_get}
use Rattle.std.proofs.lemmas.Bool.{cases_eq}
use Rattle.std.proofs.lemmas.List.{append_assoc}
use Rattle.std.proofs.lemmas.List.Elements.{All-head, All-tail}
use Rattle.std.proofs.lemmas.Option.{none-some}
use Rattle.block_model.specs.declared.request.Entry.{Entry}
use Rattle.block_model.specs.DatabaseState.{DatabaseState}
use Rattle.block_model.specs.SerialRun.{serial_run, serial_run-append}
use Rattle.transcripts.specs.InTurn.{AreRequests, AreRunInTurn, DeletesAreAlone, IsOfOne, IsRunInTurn, NoneYet, OneMore, OneSessionIsAlone, RunsAreTranscripts, TranscriptsAreRuns}
use Rattle.transcripts.specs.Told.{Limits, Tells}
use Rattle.transcripts.specs.Transcript.{Empty, Further, IsTranscript, Line, Said, entries_of, lines_of, next_statement}
use Rattle.transcripts.proofs.Answers.{leads_by, told_by}
use Rattle.transcripts.proofs.Lines.{next_is_said}

module _ (limits : Limits) (names : List (List ℕ)) (script : List Line) (opening : DatabaseState) where
  alone_before : (said : List Said) (e : Said) → DeletesAreAlone script (said ++ e ∷ []) → DeletesAreAlone script said
  alone_before said e alone before after f q is = alone before (after ++ e ∷ []) f q (ap (λ (l : List Said). l ++ e ∷ []) is ∙ append_assoc before (f ∷ after) (e ∷ []))

  run_of : (said : List Said) (s : DatabaseState) → DeletesAreAlone script said → IsTranscript limits names script opening said s → IsRunInTurn limits names script opening said s
  run_of _ _ alone Empty = record { journal = []; run = NoneYet; leads = refl }
  run_of _ _ alone (Further said s after e statement reply before next text tells) =
      let r = run_of said s (alone_before said e alone) before in
      let by = leads_by limits s e.session (next_statement script said) statement reply after
      (λ q is. alone said [] e q refl (next_is_said script said e.session e.line statement next ∙ ap Some is)) tells in
      record {
        journal = r.journal ++ by.requests;
        run = OneMore said r.journal by.requests e statement reply r.run next text (subst (λ (d : DatabaseState). AreRequests limits d e.session statement reply by.requests) r.leads by.are);
        leads = by.after_is ∙ ap (λ (d : DatabaseState). serial_run d by.requests) r.leads ∙ sym (serial_run-append opening r.journal by.requests);
      }

  transcript_of : (said : List Said) (journal : List Entry) → AreRunInTurn limits names script opening said journal → IsTranscript limits names script opening said (serial_run opening journal)
  transcript_of _ _ NoneYet = Empty
  transcript_of _ _ (OneMore said journal made e statement reply before next text are) =
      Further said (serial_run opening journal) (serial_run opening (journal ++ made)) e statement reply (transcript_of said journal before) next text
      (subst (Tells limits (next_statement script said) (serial_run opening journal) e.session statement reply) (sym (serial_run-append opening journal made))
      (told_by limits (serial_run opening journal) e.session (next_statement script said) statement reply made are))

-- no other session than the one has a line
none_of : (n k : ℕ) → k ≢ n → (script : List Line) → IsOfOne n script → lines_of k script ≡ []
none_of n k apart [] all = refl
none_of n k apart (line ∷ script) all =
    ap (λ (b : Bool). cond b (line ∷ lines_of k script) (lines_of k script))
    (ne_eqb line.session k (λ same. apart (sym same ∙ All-head (λ (l : Line). l.session ≡ n) line script all)))
    ∙ none_of n k apart script (All-tail (λ (l : Line). l.session ≡ n) line script all)

says_none : (n k : ℕ) → k ≢ n → (script : List Line) (said : List Said) → IsOfOne n script → next_statement script said k ≡ None
says_none n k apart script said all = ap (λ (l : List Line). slice_get (map (λ (line : Line). line.statement) l) (length (entries_of k said))) (none_of n k apart script all)

pub one_session_alone : OneSessionIsAlone
one_session_alone script said n all before after e q is own m other apart has =
    elim (cases_eq m n) [
      | inl same ↦ none-some _ (sym (says_none n e.session (λ own_is. apart (same ∙ sym own_is)) script before all) ∙ own)
      | inr not ↦ none-some _ (sym (says_none n m not script before all) ∙ has)
    ]

pub transcripts_are_runs : TranscriptsAreRuns
transcripts_are_runs limits names script opening s said alone transcript = run_of limits names script opening said s alone transcript

pub runs_are_transcripts : RunsAreTranscripts
runs_are_transcripts limits names script opening said journal run = transcript_of limits names script opening said journal run
