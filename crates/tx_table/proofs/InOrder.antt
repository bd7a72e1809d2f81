-- Pages in order: each page of statuses is started.
use Rattle.std.proofs.Common.{◌≡◌, ◌∙◌, ℕ, ◌<◌, List, inl, inr, refl, sym, ap, arith}
use Rattle.std.proofs.lemmas.List.{get_or-replicate}
use Rattle.page_store.specs.PageOrder.{AreInOrder, kind_of}
use Rattle.page_layout.specs.declared.page.Form.TheVariants as forms
use Rattle.page_layout.specs.PageContents.{IsPageOf, IsStatusPage}
use Rattle.page_map.specs.Forms.{IsPageIn}
use Rattle.page_map.specs.PageMap.{PageMap, block_at}
use Rattle.store_layout.specs.DiskLayout.{DiskLayout}
use Rattle.tx_table.specs.LeavesRest.{AreStarted}
use Rattle.tx_table.proofs.Stores.{page_passes}

-- a page that passes its check and has the kind is started
page_started : (page : List ℕ) → IsPageOf forms.Status page → kind_of page ≡ 1 → (entries : List ℕ) × IsStatusPage page entries
page_started page (inl zeros) kind = absurd (let none : 1 ≡ 0 = sym kind ∙ ap kind_of zeros ∙ get_or-replicate 8192 0 0 0 (omega arith) in cc)
page_started page (inr is) kind = is

-- so each page of statuses is, if each passes its check
pub all_started : (layout : DiskLayout) (pages : PageMap) → AreInOrder layout pages → ((block : ℕ) → block < layout.sizes.status_blocks → IsPageIn layout 0 (block_at pages 0 block)) → AreStarted layout pages
all_started layout pages order passes = λ block below.
    page_started (block_at pages 0 block) (page_passes layout 0 (block_at pages 0 block) refl (passes block below)) (order.statuses block below)
