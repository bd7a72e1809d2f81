-- A script whose lines have room fits the journal.
use Rattle.std.proofs.Common.{inl, inr, ℕ, List, [], ◌∷◌, ◌++◌, length, Option, None, Some, refl, sym, ap, ◌∙◌, subst, append_assoc, append-nil}
use Rattle.std.specs.Io.KnownBytes.{Consumes}
use Rattle.std.specs.FinMap.{get-empty}
use Rattle.std.specs.Ordering.{nat_cmp}
use Rattle.block_model.specs.TableState.{rows_in}
use Rattle.script_laws.specs.RequestBounds.{HasRoom, IsFirstPlace, ScriptsBegin, ScriptsHaveRoom, ScriptsWithRoomFit}
use Rattle.script_run.specs.Runs.{AreFirst, IsFront}
use Rattle.script_run.specs.Script.{ended_append, ended_from, ended_lines, last_line, rest_from, rest_line, script_lines}
use Rattle.script_semantics.specs.Place.{Place}
use Rattle.script_semantics.specs.Starts.{IsStart}
use Rattle.session_core.specs.StoreImage.{database_with}
use Rattle.store_layout.specs.DiskLayout.{DiskLayout}
use Rattle.brin_app.specs.ScriptOutput.{StartsOver}
use Rattle.brin_app.specs.ScriptRoom.{ScriptsFitJournal}
use Rattle.brin_app.specs.StatusCauses.{FitsJournal}

-- lines that ended in a part of the script are first lines of it
front_of_part : (done : List (List ℕ)) (part rest : List ℕ) → IsFront done (ended_lines part) → IsFront done (script_lines (part ++ rest))
front_of_part done part rest front = (
  front.0 ++ (ended_from (rest_from [] part) rest ++ last_line (rest_line (part ++ rest))),
  sym (append_assoc done front.0 (ended_from (rest_from [] part) rest ++ last_line (rest_line (part ++ rest))))
      ∙ ap (λ (ls : List (List ℕ)). ls ++ (ended_from (rest_from [] part) rest ++ last_line (rest_line (part ++ rest)))) front.1
      ∙ sym (append_assoc (ended_lines part) (ended_from (rest_from [] part) rest) (last_line (rest_line (part ++ rest))))
      ∙ ap (λ (ls : List (List ℕ)). ls ++ last_line (rest_line (part ++ rest))) (sym (ended_append [] part rest)),
)

first_lines : (done : List (List ℕ)) (script taken : List ℕ) (left : Option (List ℕ)) → Consumes (Some script) left taken → AreFirst done taken left → IsFront done (script_lines script)
first_lines done script taken None consumed first = absurd consumed
first_lines done script taken (Some rest) consumed (inl front) = subst (λ (bytes : List ℕ). IsFront done (script_lines bytes)) (sym consumed) (front_of_part done taken rest front)
first_lines done script taken (Some rest) consumed (inr (at_end, front)) =
    subst (λ (bytes : List ℕ). IsFront done (script_lines bytes)) (sym (consumed ∙ ap (λ (more : List ℕ). taken ++ more) at_end ∙ append-nil taken)) front

module _ (fit : ScriptsWithRoomFit) (room : ScriptsHaveRoom) (layout : DiskLayout) (rows : ℕ) (Starts : Place → Type 0) (begins : (p : Place) → Starts p → IsFirstPlace rows p) (script : List ℕ)
    (has : HasRoom layout.schema rows (script_lines script)) where
  fits : FitsJournal Starts layout (Some script)
  fits left full =
      let fills = full.2 in
      let front = first_lines (fills.done ++ fills.line ∷ []) script full.0 left full.1 fills.first in
      fit layout.schema rows (fills.done ++ fills.line ∷ []) (room.front layout.schema rows (fills.done ++ fills.line ∷ []) front.0 (subst (HasRoom layout.schema rows) (sym front.1) has))
      (record {
        start = fills.start;
        begins = begins fills.start fills.starts;
        done = fills.done;
        line = fills.line;
        are = refl;
        texts = fills.texts;
        place = fills.place;
        answers = fills.answers;
        after = fills.after;
        stops = fills.past;
      })

pub scripts_fit_journal : ScriptsBegin → ScriptsWithRoomFit → ScriptsHaveRoom → ScriptsFitJournal
scripts_fit_journal begin fit room = record {
  new = λ layout script has. fits fit room layout 0 (IsStart layout) (begin.new layout) script has;
  stored = λ layout pages next table script has.
      fits fit room layout (length (rows_in table)) (StartsOver layout pages next table)
      (λ (p : Place) (starts : StartsOver layout pages next table p). begin.opened layout (database_with next table) p starts.opening (λ n. get-empty nat_cmp n)) script has;
}
