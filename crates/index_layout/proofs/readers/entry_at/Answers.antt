use Rattle.std.proofs.Common.{ℕ, ◌+◌, ◌*◌, ◌<◌, List, get_or, refl, sym, ap, arith}
use Rattle.std.specs.Prelude.{Option, None}
use Rattle.block_model.specs.declared.place.Spot.{Spot}
use Rattle.index_layout.proofs.Reading.{entries_none, entry_none, entry_some}
use Rattle.index_layout.proofs.readers.entry_at.Goals as goal
use Rattle.index_layout.proofs.readers.entry_at.Goals.{else-block-eq0-via-then-block-eq0+else-slot-eq0, else-block-eq0-via-else-block-eq0}

pub returns-then-page-ne-MAP : goal.returns-then-page-ne-MAP
returns-then-page-ne-MAP c = sym (ap (λ (l : List (Option Spot)). get_or l c.args.entry None) (entries_none c.args.page.now (λ map. absurd (omega (arith, map, c.if-page-ne-MAP.true)))))

pub returns-then-slot-eq0 : goal.returns-then-slot-eq0
returns-then-slot-eq0 c =
    let place = ap (λ (k : ℕ). 32 + k * 8) c.from.ensures in
    entry_none c.args.page.now 1020 c.args.entry (32 + c.from.result * 8) c.get_u32-block.result c.get_u16-slot.result refl (omega (arith, c.if-page-ne-MAP.false)) c.requires.entry place c.get_u32-block.ensures.got c.get_u16-slot.ensures.got (omega (arith, c.if-block-eq0.true)) (omega (arith, c.if-slot-eq0.true))

pub returns : goal.returns
returns c =
    let place = ap (λ (k : ℕ). 32 + k * 8) c.from.ensures in
    let some : 0 < c.get_u32-block.result + c.get_u16-slot.result = elim c.else-block-eq0.branch [
      | else-block-eq0-via-then-block-eq0+else-slot-eq0 w ↦ omega arith
      | else-block-eq0-via-else-block-eq0 w ↦ omega arith
    ] in
    entry_some c.args.page.now 1020 c.args.entry (32 + c.from.result * 8) c.get_u32-block.result c.get_u16-slot.result refl (omega (arith, c.if-page-ne-MAP.false)) c.requires.entry place c.get_u32-block.ensures.got c.get_u16-slot.ensures.got some
