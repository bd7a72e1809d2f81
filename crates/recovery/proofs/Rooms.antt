-- room in a pool
use Rattle.std.proofs.Common.{◌≡◌, inl, inr, ℕ, ◌<◌, ◌≤◌, Bool, true, false, List, [], ◌∷◌, length, refl, ◌∙◌, ap, subst, ⊎_elim, arith}
use Rattle.std.specs.Prelude.{Option, None, Some, IsSome, Ok}
use Rattle.std.specs.Ordering.{eq_by_cmp, nat_cmp}
use Rattle.std.specs.FinMap as map
use Rattle.std.specs.FinMap.{entries, get-entries, len-entries}
use Rattle.std.proofs.lemmas.Bool.{cond-true, false≢true}
use Rattle.std.proofs.lemmas.Cmp.{nat_cmp_total, eq_by_cmp_equiv}
use Rattle.block_model.specs.NumberMaps.{get_put_here}
use Rattle.disk_trait.specs.Told.{Told}
use Rattle.buffer_pool.specs.PoolState.{HeldPage, PoolState, held_at}
use Rattle.buffer_pool.specs.SetsPage.{IsAllDirty}
use Rattle.buffer_pool.specs.WritesPage.{CleansOne}
use Rattle.recovery.specs.Holds.{AreDurable, MayClean}

-- a map that isn't empty has a key
some_entry : (m : map.FinMap nat_cmp HeldPage) (es : List (ℕ × HeldPage)) → entries m ≡ es → 1 ≤ length es → (n : ℕ) × (held : HeldPage) × (map.get m n ≡ Some held)
some_entry m [] is some = absurd (omega (arith, some))
some_entry m (e ∷ es) is some =
    (e.0, e.1, get-entries m e.0 ∙ ap (map.find nat_cmp e.0) is ∙ cond-true (eq_by_cmp nat_cmp e.0 e.0) (Some e.1) (map.find nat_cmp e.0 es) ((eq_by_cmp_equiv nat_cmp_total).refl e.0))

some_held : (pool : PoolState) → 1 ≤ map.len pool.pages → (number : ℕ) × (held : HeldPage) × (held_at pool number ≡ Some held)
some_held pool some = some_entry pool.pages (entries pool.pages) refl (omega (arith, some, len-entries pool.pages))

not_none : (log : Option ℕ) → log ≡ None → IsSome log → ⊥
not_none log is some = absurd (false≢true (subst IsSome is some))

-- where all pages were dirty one could be written, and then not all are
pub one_is_clean : (pool mid : PoolState) (number : ℕ) (disk after : Told) (done : Bool) → AreDurable pool → 1 ≤ pool.frames → IsAllDirty pool number → CleansOne pool mid 0 0 disk after (Ok done) → IsAllDirty mid number → ⊥
one_is_clean pool mid number disk after true durable frames all c again =
    absurd (false≢true (again.dirty c.page (record c.held { log = None }) (ap (λ (p : PoolState). held_at p c.page) c.clean ∙ get_put_here nat_cmp_total pool.pages c.page (record c.held { log = None }))))
one_is_clean pool mid number disk after false durable frames all c again =
    let one = some_held pool (omega (arith, all.full, frames)) in
    ⊎_elim (λ (none : one.1.log ≡ None). not_none one.1.log none (all.dirty one.0 one.1 one.2))
    (λ (zero_is : one.1.log ≡ Some 0). absurd (let low : 0 < 0 = c.none one.0 0 (one.1, one.2, zero_is) in omega (arith, low))) (durable one.0 one.1 one.2)

-- what was cleaned then
pub may_clean : (pool mid : PoolState) (disk after : Told) (done : Bool) → CleansOne pool mid 0 0 disk after (Ok done) → MayClean disk pool after mid
may_clean pool mid disk after true c = inr c
may_clean pool mid disk after false c = inl (c.untouched, c.same)
