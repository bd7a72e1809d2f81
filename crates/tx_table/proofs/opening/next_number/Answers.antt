use Rattle.std.proofs.Common.{◌≡◌, ◌∙◌, ap, arith, rules}
use Rattle.block_model.specs.declared.schema.Sizes.{Sizes}
use Rattle.store_layout.specs.DiskLayout.{DiskLayout}
use Rattle.tx_table.specs.Durable.{IsBefore}
use Rattle.tx_table.proofs.Parts.{before_then, passed_none}
use Rattle.tx_table.proofs.Openings.{next_found}
use Rattle.tx_table.proofs.opening.next_number.Goals as goal

pub returns-clause-next : goal.returns-clause-next
returns-clause-next g c = λ tells.
    let store = c.args.pages.now in
    let read = c.blocks-2 in
    let count : c.sizes-blocks.result.status_blocks ≡ store.layout.sizes.status_blocks = ap (λ (s : Sizes). s.status_blocks) c.sizes-blocks.ensures ∙ ap (λ (d : DiskLayout). d.sizes.status_blocks) c.layout-2.ensures in
    let all : read.block ≡ store.layout.sizes.status_blocks = omega (arith, c.blocks-2-test.false, read.auto.block-end, count) in
    next_found store.layout store.pages read.block read.next all read.invariant.some read.invariant.within (read.invariant.next tells)

pub blocks-2-init : goal.blocks-2-init
blocks-2-init g c = record {
  kept = search rules;
  survives = passed_none g.D.Disk.told (IsBefore c.args.pages.now) c.args.pages.now c.args.pages.now c.ready.ensures.stays;
  began = search rules;
  none = search rules;
  some = search rules;
  within = search rules;
  next = search rules;
}

pub blocks-2-preserved : goal.blocks-2-preserved
blocks-2-preserved g c = record {
  kept = search rules;
  survives = before_then g.D.Disk.told c.args.pages.now c.blocks-2.pages c.used_in_block.new.pages c.blocks-2.invariant.kept c.blocks-2.invariant.survives c.used_in_block.ensures.survives;
  began = search rules;
  none = search rules;
  some = search rules;
  within = search rules;
  next = search rules;
}

pub returns-clause-survives : goal.returns-clause-survives
returns-clause-survives g c = c.blocks-2.invariant.survives

pub returns-in-Err-used_in_block-clause-survives : goal.returns-in-Err-used_in_block-clause-survives
returns-in-Err-used_in_block-clause-survives g c =
    before_then g.D.Disk.told c.args.pages.now c.blocks-2.pages c.used_in_block.new.pages c.blocks-2.invariant.kept c.blocks-2.invariant.survives c.used_in_block.ensures.survives
