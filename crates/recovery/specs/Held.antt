-- a fact of pages that every image keeps
use Rattle.std.proofs.Common.{⊎_elim, subst, sym}
use Rattle.std.specs.Prelude.{◌≡◌, ℕ, IsTrue, List}
use Rattle.store_layout.specs.DiskLayout.{DiskLayout}
use Rattle.disk_trait.specs.Told.{Told}
use Rattle.page_map.specs.PageMap.{PageMap}
use Rattle.recovery.specs.Reaches.{OpensAsBefore, OpensLike, OpensWith}

-- an image that opens as one of before did has what each of those had
pub held_before : (layout : DiskLayout) (P : PageMap → Type 0) (old : Told) → ((before : List ℕ) → IsTrue (old.now before) → OpensWith layout P before) → (image : List ℕ) → OpensAsBefore old image → OpensWith layout P image
held_before layout P old held image comes =
    let was = held comes.0 comes.1 in
    ⊎_elim (λ (same : image ≡ comes.0). subst (OpensWith layout P) (sym same) was) (λ (like : OpensLike comes.0 image). (was.0, like.opens layout was.0 was.1, was.2)) comes.2
