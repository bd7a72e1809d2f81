-- the extent that pages show
use Rattle.std.proofs.Common.{◌≡◌, ℕ, zero, suc, ◌+◌, ◌<◌, ◌≤◌, Bool, true, false, cond, List, [], ◌∷◌, length, map, fold, refl, sym, ap, ◌∙◌, arith, zero-le}
use Rattle.std.specs.Prelude.{◌==◌, not, slice_index, slice_index_or}
use Rattle.std.proofs.lemmas.List.{get_or-replicate, get_or_past}
use Rattle.block_model.specs.declared.limits.TheConstants.{PAGE_SIZE}
use Rattle.block_model.specs.declared.value.Kind.{Kind}
use Rattle.store_layout.specs.DiskLayout.{DiskLayout}
use Rattle.page_layout.specs.PageContents.{IsHeap, IsUnstarted, Slot, heap_bytes}
use Rattle.page_map.specs.PageMap.{IsWhole, PageMap, block_at, unstarted_page}
use Rattle.page_map.specs.Started.{is_started, started_count}
use Rattle.heap_rows.specs.HeapBlocks.{HasBlocks}
use Rattle.heap_rows.specs.Heaps.{relation_of}
use Rattle.heap_rows.proofs.Heaps.{limit_is}

-- the first pages of these pass the test, and no other does
counts_from : (test : List ℕ → Bool) (blank : List ℕ) (pages : List (List ℕ)) (a n : ℕ) → n ≤ length pages → ((b : ℕ) → b < n → test (slice_index_or pages b blank) ≡ true)
    → ((b : ℕ) → n ≤ b → b < length pages → test (slice_index_or pages b blank) ≡ false) → fold (λ (m : ℕ) (x : List ℕ). m + cond (test x) 1 0) a pages ≡ a + n
counts_from test blank [] a n few first rest = omega (arith, few)
counts_from test blank (x ∷ xs) a zero few first rest =
    let e : a + 0 + zero ≡ a + zero = omega arith in
    counts_from test blank xs (a + cond (test x) 1 0) zero (omega arith) (λ b below. absurd (omega (arith, below))) (λ b low below. rest (suc b) (omega arith) (omega (arith, below)))
    ∙ ap (λ (t : Bool). a + cond t 1 0 + zero) (rest zero (omega arith) (omega arith)) ∙ e
counts_from test blank (x ∷ xs) a (suc n) few first rest =
    let e : a + 1 + n ≡ a + suc n = omega arith in
    counts_from test blank xs (a + cond (test x) 1 0) n (omega (arith, few)) (λ b below. first (suc b) (omega (arith, below))) (λ b low below. rest (suc b) (omega (arith, low)) (omega (arith, below)))
    ∙ ap (λ (t : Bool). a + cond t 1 0 + n) (first zero (omega arith)) ∙ e

-- a page with slots is started, and one of zeros isn't
started_heap : {kinds : List Kind} {count : ℕ} {slots : List Slot} (page : List ℕ) → IsHeap kinds count slots page → is_started page ≡ true
unfolding heap_bytes
started_heap page heap = ap is_started heap.bytes

unstarted : (page : List ℕ) → IsUnstarted page → is_started page ≡ false
unstarted page is = ap (λ (k : ℕ). not (k == 0)) (ap (λ (l : List ℕ). slice_index l 0) is ∙ get_or-replicate {A = ℕ} PAGE_SIZE 0 0 0 (omega arith))

-- how many pages a relation has
length_at : (pages : PageMap) (relation : ℕ) → slice_index (map length pages) relation ≡ length (slice_index_or pages relation [])
length_at [] relation = get_or_past [] relation 0 zero-le ∙ sym (ap (length {A = List ℕ}) (get_or_past [] relation [] zero-le))
length_at (x ∷ xs) zero = refl
length_at (x ∷ xs) (suc relation) = length_at xs relation

pub extent_shown : (layout : DiskLayout) (pages : PageMap) (table : ℕ) (blocks : List (List Slot)) → IsWhole layout pages → table < length layout.schema.tables → HasBlocks layout pages table blocks → started_count pages (relation_of table) ≡ length blocks
extent_shown layout pages table blocks whole there has =
    let r : ℕ = relation_of table in
    let size : length (slice_index_or pages r []) ≡ layout.sizes.heap_blocks =
    sym (length_at pages r) ∙ ap (λ (l : List ℕ). slice_index l r) whole ∙ limit_is layout table r refl there in
    let few : length blocks ≤ length (slice_index_or pages r []) = omega (arith, has.within, size) in
    let counted : started_count pages r ≡ 0 + length blocks =
    counts_from is_started unstarted_page (slice_index_or pages r []) 0 (length blocks) few
    (λ b below. started_heap (block_at pages r b) (has.started b below))
    (λ b low below. unstarted (block_at pages r b) (has.unstarted b low (omega (arith, below, size)))) in
    omega (arith, counted)
