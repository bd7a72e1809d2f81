-- what is so of the lines that are gathered
use Rattle.std.proofs.Common.{◌≡◌, ℕ, List, [], ◌∷◌, ◌++◌, refl, sym, ap, ◌∙◌, subst, arith}
use Rattle.std.proofs.lemmas.List.{map-append}
use Rattle.std.proofs.lemmas.List.Elements.{All-append}
use Rattle.block_model.specs.declared.schema.Schema.{Schema}
use Rattle.store_layout.specs.StatementFits.{IsStatementFor}
use Rattle.store_layout.specs.declared.statement.Statement.{Statement}
use Rattle.transcripts.specs.Transcript.{Line}
use Rattle.plain_script.specs.Gathering.{AreFor, IsGathered, held_script, script_kept}
use Rattle.plain_script.specs.HeldScripts.{held_whole}
use Rattle.plain_script.specs.KeptLines.{AreCounted, AreRead, NoneRead, MoreRead, line_kept, lines_kept, next_kept}
use Rattle.plain_script.specs.declared.kept.ScriptLine.{ScriptLine}
use Rattle.plain_script.specs.declared.kept.ScriptSession.{ScriptSession}
use Rattle.plain_script.proofs.Ranks.{all_there}
use Rattle.plain_script.proofs.SessionNames.{all_one}

-- nothing is gathered at first
pub gathered_none : (schema : Schema) (sessions : List ScriptSession) (kept : List ScriptLine) → sessions ≡ [] → kept ≡ [] → IsGathered schema sessions kept
gathered_none schema sessions kept e f =
    subst (λ (s : List ScriptSession). IsGathered schema s kept) (sym e)
    (subst (λ (k : List ScriptLine). IsGathered schema [] k) (sym f) (record { read = NoneRead; counted = λ n. refl; fit = λ k d h. absurd (omega (arith, h)) }))

-- one more line is kept
pub gathered_more : (schema : Schema) (sessions sessions' : List ScriptSession) (kept kept' : List ScriptLine) (n : ℕ) (statement : Statement) → IsGathered schema sessions kept
    → IsStatementFor schema statement → kept' ≡ kept ++ next_kept kept n statement ∷ [] → AreCounted sessions' kept' → IsGathered schema sessions' kept'
gathered_more schema sessions sessions' kept kept' n statement all fits is counted = record {
  read = subst AreRead (sym is) (MoreRead kept n statement all.read);
  counted = counted;
  fit = subst (AreFor schema) (sym (ap lines_kept is ∙ map-append line_kept kept (next_kept kept n statement ∷ [])))
      (All-append (λ (line : Line). IsStatementFor schema line.statement) (lines_kept kept) (line_kept (next_kept kept n statement) ∷ []) all.fit
      (all_one (λ (line : Line). IsStatementFor schema line.statement) (line_kept (next_kept kept n statement)) fits));
}

-- what was read is held whole
pub held_as_read : (sessions : List ScriptSession) (whole kept : List ScriptLine) (unread : List ℕ) → whole ≡ kept → AreRead kept
    → held_script sessions whole kept unread ≡ held_whole (script_kept sessions kept unread)
held_as_read sessions whole kept unread e read = λ i. record { script = script_kept sessions (e i) unread; held = all_there kept read i }
