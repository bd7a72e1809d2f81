-- what a reading of a script has done
use Rattle.std.proofs.Common.{◌≡◌, ℕ, ◌≤◌, List, ◌++◌, length, Option, None, Some, Ok, Err, inl, inr, refl, sym, ap, ◌∙◌, subst, arith}
use Rattle.std.specs.Prelude.{IfSome, fold}
use Rattle.std.specs.Io.KnownBytes.{Consumes, IsAtEnd}
use Rattle.std.proofs.lemmas.List.{append-nil}
use Rattle.block_model.specs.declared.schema.Schema.{Schema}
use Rattle.script_run.specs.Runs.{Ran, Stopped}
use Rattle.script_run.specs.Script.{script_lines}
use Rattle.script_run.specs.declared.engine.AnswerFault.{AnswerFault}
use Rattle.script_run.specs.declared.engine.AnswerFault.TheVariants as unanswered
use Rattle.script_run.specs.declared.fault.RunFault.{RunFault}
use Rattle.script_run.specs.declared.fault.RunFault.TheVariants as runs
use Rattle.plain_script.specs.Gathering.{AreFor, Gathered, Gathers, LacksMemory}
use Rattle.plain_script.specs.HeldScripts.{HeldScript, held_whole}
use Rattle.plain_script.specs.PlainLines.{plain_line_of}
use Rattle.plain_script.specs.PlainScripts.{HasItsSessions, PlainScript, no_lines, plain_script, with_line}
use Rattle.plain_script.specs.ReadingFaults.{IsReadingFault, run_fault_of}
use Rattle.plain_script.specs.ScriptReads.{ReadsScript}
use Rattle.plain_script.specs.declared.fault.ScriptFault.{ScriptFault}
use Rattle.plain_script.specs.declared.fault.ScriptFault.TheVariants as faults
use Rattle.plain_script.proofs.Folding.{gathered, plain_lines_are_few}
use Rattle.plain_script.proofs.SessionNames.{has_its_sessions}

-- a script was gathered, up to the source's end
pub record HasGathered (schema : Schema) (limit : ℕ) (left left' : Option (List ℕ)) (after : Gathered) : Type 0 where
  pub script : List ℕ
  pub came : Consumes left left' script
  pub short : length script ≤ limit
  pub end : IsAtEnd left'
  pub schema_is : after.schema ≡ schema
  pub is : after.script ≡ plain_script schema (script_lines script)

-- what lines make of what was gathered
abbrev all_of : Gathered → List (List ℕ) → Gathered
all_of g lines = record g { script = fold (λ s line. with_line s (plain_line_of g.schema line)) g.script lines }

module _ (schema : Schema) (limit : ℕ) (start after : Gathered) (l l' k k' : Option (List ℕ)) (at : start ≡ record { schema = schema; script = no_lines }) where
  pub has_gathered : Ran Gathers LacksMemory start after limit (Ok tt) l l' k k' → HasGathered schema limit l l' after
  has_gathered ran =
      let wrote = ran.7 in
      let whole = wrote.whole refl in
      let same : after ≡ ran.4 = wrote.state (λ fault e. cc) in
      let is : after ≡ all_of (record { schema = schema; script = no_lines }) (script_lines ran.0) =
      same ∙ gathered start ran.4 ran.2 ran.3 wrote.answers ∙ ap (λ (g : Gathered). all_of g ran.2) at ∙ ap (all_of (record { schema = schema; script = no_lines })) whole.0 in
      record {
        script = ran.0;
        came = ran.5;
        short = wrote.within (λ e. cc);
        end = whole.2;
        schema_is = ap (λ (g : Gathered). g.schema) is;
        is = ap (λ (g : Gathered). g.script) is;
      }

-- nothing is written, and a line is kept but for want of memory
pub is_reading_fault : (limit : ℕ) (start after : Gathered) (l l' k k' : Option (List ℕ)) (fault : RunFault) → Ran Gathers LacksMemory start after limit (Err fault) l l' k k' → (fault ≡ runs.Write → ⊥)
    → IsReadingFault fault
is_reading_fault limit start after l l' k k' runs.Read ran not = tt
is_reading_fault limit start after l l' k k' runs.Spent ran not = tt
is_reading_fault limit start after l l' k k' runs.Write ran not = absurd (not refl)
is_reading_fault limit start after l l' k k' (runs.Unanswered fault) ran not = of_memory fault (stopped ran.0 ran.2 ran.4 ((ran.7).stopped fault refl).0)
  where
    stopped : (script : List ℕ) (done : List (List ℕ)) (final : Gathered) → Stopped LacksMemory final after script l' done fault → fault ≡ unanswered.Memory
    stopped script done final (inl stops) = stops.stops
    stopped script done final (inr none) = none.0

    of_memory : (fault : AnswerFault) → fault ≡ unanswered.Memory → IsReadingFault (runs.Unanswered fault)
    of_memory unanswered.Memory e = tt
    of_memory unanswered.Full e = absurd (cc)
    of_memory unanswered.Disk e = absurd (cc)
    of_memory unanswered.Damaged e = absurd (cc)

-- what was taken where the reading fails
pub reads_err : (schema : Schema) (limit : ℕ) (start after : Gathered) (l l' k k' : Option (List ℕ)) (end : RunFault) (fault : ScriptFault) → Ran Gathers LacksMemory start after limit (Err end) l l' k k'
    → end ≡ run_fault_of fault → ReadsScript schema limit l l' (Err fault)
reads_err schema limit start after l l' k k' end faults.Read ran e = (ran.0, ran.5, (ran.7).within (λ s. let wrong : end ≡ runs.Spent = cc in cc))
reads_err schema limit start after l l' k k' end faults.Spent ran e = (ran.0, ran.5, ((ran.7).spent (ap Err e)).0)
reads_err schema limit start after l l' k k' end faults.Memory ran e = (ran.0, ran.5, (ran.7).within (λ s. let wrong : end ≡ runs.Spent = cc in cc))

-- a script that was gathered and is held whole
module _ (schema : Schema) (limit : ℕ) (l l' : Option (List ℕ)) (after : Gathered) (held : HeldScript) (has : HasGathered schema limit l l' after) (is : held ≡ held_whole after.script) where
  of_script : held.script ≡ plain_script schema (script_lines has.script)
  of_script = ap (λ (h : HeldScript). h.script) is ∙ has.is

  pub reads_ok : ReadsScript schema limit l l' (Ok held)
  reads_ok = (has.script, has.came, (has.short, has.end, is ∙ ap held_whole has.is))

  pub reads_whole : IfSome l (λ script. held.script ≡ plain_script schema (script_lines script))
  reads_whole = told l l' has.came has.end
    where
      told : (l l' : Option (List ℕ)) → Consumes l l' has.script → IsAtEnd l' → IfSome l (λ script. held.script ≡ plain_script schema (script_lines script))
      told None l' came end = tt
      told (Some xs) None came end = absurd came
      told (Some xs) (Some ys) came end =
          let all : xs ≡ has.script = came ∙ ap (λ rest. has.script ++ rest) end ∙ append-nil has.script in
          of_script ∙ ap (λ script. plain_script schema (script_lines script)) (sym all)

  pub reads_fit : AreFor after.schema after.script.lines → AreFor schema held.script.lines
  reads_fit fit =
      subst (λ (s : PlainScript). AreFor schema s.lines) (sym (ap (λ (h : HeldScript). h.script) is)) (subst (λ (s : Schema). AreFor s after.script.lines) has.schema_is fit)

  pub reads_sessions : HasItsSessions held.script
  reads_sessions = subst HasItsSessions (sym of_script) (has_its_sessions schema (script_lines has.script))

  pub reads_few : length held.script.lines ≤ limit
  reads_few =
      let same : length held.script.lines ≡ length (plain_script schema (script_lines has.script)).lines = ap (λ (s : PlainScript). length s.lines) of_script in
      omega (arith, same, plain_lines_are_few schema has.script, has.short)
