-- how a locked value is told apart from another
use Rattle.std.specs.Prelude.{◌≡◌, ℕ, zero, suc, refl}
use Rattle.std.specs.Coded.{Coded, code_by, coded×, coded_bool, coded_list, coded_option, coded_ℕ}
use Rattle.store_layout.specs.contracts.statement.Statement as statement_contract
use Rattle.transcripts.specs.Transcript.{Line}
use Rattle.plain_script.specs.HeldScripts.{HeldScript}
use Rattle.session_core.specs.StoreCode.{coded_store}
use Rattle.session_stepper.specs.declared.ending.Ending.{Ending}
use Rattle.session_stepper.specs.declared.ending.Ending.TheVariants.{Disk, Memory, OutOfPlace, Spent, Damaged}
use Rattle.session_stepper.specs.EntryCode.{coded_said}
use Rattle.session_stepper.specs.Locked.{LockedState}
use Rattle.session_stepper.specs.TranscribedState.{TranscribedState}

abbrev pub number_of : Ending → ℕ
number_of Disk = 0
number_of Memory = 1
number_of OutOfPlace = 2
number_of Spent = 3
number_of Damaged = 4

abbrev pub ending_at : ℕ → Ending
ending_at zero = Disk
ending_at (suc zero) = Memory
ending_at (suc (suc zero)) = OutOfPlace
ending_at (suc (suc (suc zero))) = Spent
ending_at n = Damaged

abbrev pub same_ending : (e : Ending) → ending_at (number_of e) ≡ e
same_ending Disk = refl
same_ending Memory = refl
same_ending OutOfPlace = refl
same_ending Spent = refl
same_ending Damaged = refl

abbrev pub coded_ending : Coded Ending
coded_ending = code_by ℕ coded_ℕ number_of ending_at same_ending

abbrev pub coded_line : Coded Line
coded_line = code_by _ (coded× coded_ℕ statement_contract.the_row.coded) (λ (l : Line). (l.session, l.statement)) (λ p. record { session = p.0; statement = p.1 }) (λ _. refl)

abbrev pub coded_held : Coded HeldScript
coded_held =
    code_by _ (coded× (coded× (coded_list (coded_list coded_ℕ)) (coded× (coded_list coded_line) (coded_list coded_ℕ))) (coded_list coded_bool))
    (λ (h : HeldScript). ((h.script.names, (h.script.lines, h.script.unread)), h.held)) (λ p. record { script = record { names = p.0.0; lines = p.0.1.0; unread = p.0.1.1 }; held = p.1 }) (λ _. refl)

abbrev pub coded_transcribed : {D : Type 0} → Coded D → Coded (TranscribedState D)
coded_transcribed {D} code =
    code_by _ (coded× (coded_store code) (coded× coded_held (coded× (coded_list coded_said) (coded× (coded_list (coded_option coded_ℕ)) (coded_option coded_ending)))))
    (λ (s : TranscribedState D). (s.store, (s.script, (s.said, (s.in_hand, s.ended)))))
    (λ p. record { store = p.0; script = p.1.0; said = p.1.1.0; in_hand = p.1.1.1.0; ended = p.1.1.1.1 }) (λ _. refl)

abbrev pub coded_locked : {D : Type 0} → Coded D → Coded (LockedState D)
coded_locked {D} code = code_by _ (coded× (coded_transcribed code) coded_ℕ) (λ (s : LockedState D). (s.kept, s.ends)) (λ p. record { kept = p.0; ends = p.1 }) (λ _. refl)
