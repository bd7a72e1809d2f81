-- which statuses are known
use Rattle.std.proofs.Common.{◌≡◌, ℕ, Ok, Err, sym, subst, arith}
use Rattle.recovery.specs.declared.fault.StartFault.{StartFault}
use Rattle.recovery.specs.declared.fault.StartFault.TheVariants as starts
use Rattle.script_run.specs.declared.engine.AnswerFault.TheVariants.{Memory, Full, Disk, Damaged}
use Rattle.script_run.specs.declared.fault.RunFault.TheVariants as faults
use Rattle.script_run.specs.Runs.{RunEnd}
use Rattle.brin_app.specs.ScriptOutput.{exit_status}
use Rattle.brin_app.specs.Statuses.{IsStatus, start_status}

pub is_0 : IsStatus 0
is_0 = record { most = omega (arith); not_one = λ e. omega (arith, e); not_three = λ e. omega (arith, e); not_ten = λ e. omega (arith, e) }

pub is_2 : IsStatus 2
is_2 = record { most = omega (arith); not_one = λ e. omega (arith, e); not_three = λ e. omega (arith, e); not_ten = λ e. omega (arith, e) }

pub is_4 : IsStatus 4
is_4 = record { most = omega (arith); not_one = λ e. omega (arith, e); not_three = λ e. omega (arith, e); not_ten = λ e. omega (arith, e) }

pub is_5 : IsStatus 5
is_5 = record { most = omega (arith); not_one = λ e. omega (arith, e); not_three = λ e. omega (arith, e); not_ten = λ e. omega (arith, e) }

pub is_6 : IsStatus 6
is_6 = record { most = omega (arith); not_one = λ e. omega (arith, e); not_three = λ e. omega (arith, e); not_ten = λ e. omega (arith, e) }

pub is_7 : IsStatus 7
is_7 = record { most = omega (arith); not_one = λ e. omega (arith, e); not_three = λ e. omega (arith, e); not_ten = λ e. omega (arith, e) }

pub is_8 : IsStatus 8
is_8 = record { most = omega (arith); not_one = λ e. omega (arith, e); not_three = λ e. omega (arith, e); not_ten = λ e. omega (arith, e) }

pub is_9 : IsStatus 9
is_9 = record { most = omega (arith); not_one = λ e. omega (arith, e); not_three = λ e. omega (arith, e); not_ten = λ e. omega (arith, e) }

pub is_11 : IsStatus 11
is_11 = record { most = omega (arith); not_one = λ e. omega (arith, e); not_three = λ e. omega (arith, e); not_ten = λ e. omega (arith, e) }

pub same_status : (status other : ℕ) → status ≡ other → IsStatus other → IsStatus status
same_status status other same is = subst IsStatus (sym same) is

-- each way in which a run ends has one
pub exit_known : (end : RunEnd) → IsStatus (exit_status end)
exit_known (Ok done) = is_0
exit_known (Err faults.Read) = is_4
exit_known (Err faults.Write) = is_5
exit_known (Err faults.Spent) = is_8
exit_known (Err (faults.Unanswered Disk)) = is_6
exit_known (Err (faults.Unanswered Memory)) = is_7
exit_known (Err (faults.Unanswered Full)) = is_8
exit_known (Err (faults.Unanswered Damaged)) = is_11

-- and each fault over which no store is opened
pub start_known : (fault : StartFault) → IsStatus (start_status fault)
start_known starts.NoStore = is_9
start_known (starts.Damaged at) = is_11
start_known starts.Disk = is_6
start_known starts.Memory = is_7
