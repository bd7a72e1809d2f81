-- what the bytes that were taken say of a source that tells its bytes
use Rattle.std.proofs.Common.{arith, ◌≡◌, ◌⊎◌, inl, inr, ap, ℕ, ◌≤◌, List, ◌++◌, length, length-append, Option, None, Some}
use Rattle.std.specs.Prelude.{Err}
use Rattle.std.proofs.lemmas.Option.{none-some, same_Some}
use Rattle.std.specs.Io.KnownBytes.{Consumes, IsAtEnd}
use Rattle.block_model.specs.declared.schema.Schema.{Schema}
use Rattle.plain_script.specs.ReadingFaults.{run_fault_of}
use Rattle.plain_script.specs.ScriptReads.{ReadsScript}
use Rattle.plain_script.specs.declared.fault.ScriptFault.{ScriptFault}
use Rattle.plain_script.specs.declared.fault.ScriptFault.TheVariants as scripts
use Rattle.threads_run.specs.Output.{IsUnread}

-- as many as were taken are there
at_least : (left left' : Option (List ℕ)) (taken bytes : List ℕ) → Consumes left left' taken → left ≡ Some bytes → length taken ≤ length bytes
at_least None left' taken bytes consumed is = absurd (none-some bytes is)
at_least (Some x) None taken bytes consumed is = absurd consumed
at_least (Some x) (Some y) taken bytes consumed is =
    let all : length x ≡ length (taken ++ y) = ap (λ (o : List ℕ). length o) consumed in
    let same : length x ≡ length bytes = ap (λ (o : List ℕ). length o) (same_Some x bytes is) in
    omega (arith, all, same, length-append taken y)

-- no more than the limit are there, where all were taken
pub legal_by : (limit : ℕ) (left left' : Option (List ℕ)) (taken bytes : List ℕ) → length taken ≤ limit → Consumes left left' taken → IsAtEnd left' → left ≡ Some bytes → length bytes ≤ limit
legal_by limit None left' taken bytes few consumed ends is = absurd (none-some bytes is)
legal_by limit (Some x) None taken bytes few consumed ends is = absurd consumed
legal_by limit (Some x) (Some y) taken bytes few consumed ends is =
    let all : length x ≡ length (taken ++ y) = ap (λ (o : List ℕ). length o) consumed in
    let none : length y ≡ 0 = ap (λ (o : List ℕ). length o) ends in
    let same : length x ≡ length bytes = ap (λ (o : List ℕ). length o) (same_Some x bytes is) in
    omega (arith, all, none, same, length-append taken y, few)

-- why no worker is begun
pub unread_by : (schema : Schema) (limit : ℕ) (left left' : Option (List ℕ)) (fault : ScriptFault) (bytes : List ℕ) → ReadsScript schema limit left left' (Err fault) → left ≡ Some bytes
    → IsUnread limit bytes (Err (run_fault_of fault))
unread_by schema limit left left' scripts.Read bytes reads is = tt
unread_by schema limit left left' scripts.Memory bytes reads is = tt
unread_by schema limit left left' scripts.Spent bytes reads is = omega (arith, reads.2, at_least left left' reads.0 bytes reads.1 is)

-- with a fact that holds in the second case
pub either_way : {A B C : Type 0} → C → A ⊎ B → A ⊎ (C × B)
either_way c (inl a) = inl a
either_way c (inr b) = inr (c, b)
