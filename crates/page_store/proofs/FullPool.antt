-- a pool of which each frame holds a dirty page
use Rattle.std.proofs.lemmas.Bool.{false≢true}
use Rattle.std.proofs.Common.{◌≡◌, ℕ, ◌<◌, refl, sym, ap, ◌∙◌, arith}
use Rattle.std.specs.Prelude.{Option, None, Some, IsSome}
use Rattle.std.specs.FinMap as map
use Rattle.std.specs.Ordering.{nat_cmp}
use Rattle.std.proofs.lemmas.Cmp.{nat_cmp_total}
use Rattle.buffer_pool.specs.PoolState.{HeldPage, PoolState, held_at}
use Rattle.buffer_pool.specs.SetsPage.{IsAllDirty}
use Rattle.page_store.specs.Clean.{AreClean}

-- has a dirty page
pub some_dirty : (pool : PoolState) (absent : ℕ) → 0 < pool.frames → IsAllDirty pool absent → AreClean pool → ⊥
some_dirty pool absent some all clean =
    let none : pool.pages ≡ map.empty = map.same_map nat_cmp_total map.nat_cmp-IsAntisymmetric pool.pages map.empty (λ q. by q (held_at pool q) refl) in
    let count = ap (λ (m : map.FinMap nat_cmp HeldPage). map.len m) none ∙ map.len-empty nat_cmp HeldPage in
    omega (arith, count, all.full, some)
  where
    dirty : (q : ℕ) (held : HeldPage) → held_at pool q ≡ Some held → (o : Option ℕ) → held.log ≡ o → IsSome o → ⊥
    dirty q held there None log some = false≢true some
    dirty q held there (Some waits) log some = clean q waits (held, there, log)

    by : (q : ℕ) (o : Option HeldPage) → held_at pool q ≡ o → map.get pool.pages q ≡ map.get (map.empty {X = HeldPage} {R = nat_cmp}) q
    by q None there = there ∙ sym (map.get-empty nat_cmp q)
    by q (Some held) there = absurd (dirty q held there held.log refl (all.dirty q held there))
