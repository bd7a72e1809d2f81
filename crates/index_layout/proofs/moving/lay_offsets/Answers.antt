use Rattle.byte_fields.specs.Fields.{field_at, number_of, put_at}
use Rattle.std.proofs.Common.{◌≡◌, ◌≤◌, ℕ, ◌+◌, ◌-◌, ◌*◌, ◌++◌, suc, length, take, drop, refl, ap, ◌∙◌, arith}
use Rattle.index_layout.specs.IndexWrites.{laid, lengths_in}
use Rattle.index_layout.proofs.Moves.{laid-start, laid-lengths, laid-next, laid-end, length_first, behind_put}
use Rattle.index_layout.proofs.moving.lay_offsets.Goals as goal

pub loop-slot-init : goal.loop-slot-init
loop-slot-init c =
    let page = c.args.page.now in
    let at : c.args.at + 0 * 4 ≡ c.args.at = omega arith in
    record {
      bound = c.requires.end;
      lengths = laid-lengths page c.args.at (c.args.at + 0 * 4) c.args.end c.args.count at c.requires.lengths;
      so_far = laid-start page (take c.args.at page ++ laid c.args.end c.args.count (drop c.args.at page)) c.args.at (c.args.at + 0 * 4) c.args.end c.args.count at refl;
    }

pub overflow_sub-begin : goal.overflow_sub-begin
overflow_sub-begin c =
    let page = c.loop-slot.page in
    let slot = c.loop-slot.slot in
    let p = c.args.at + slot * 4 in
    let m = c.args.count - slot in
    let n = c.args.count - (slot + 1) in
    let more : m ≡ suc n = omega arith in
    let size = c.from-size.ensures ∙ c.get_u16.ensures.got ∙ ap (λ (k : ℕ). number_of (field_at page (c.args.at + k * 4 + 2) 2)) c.from.ensures in
    omega (arith, length_first page m n p c.from-size.result c.loop-slot.begin more size c.loop-slot.invariant.lengths)

pub loop-slot-preserved : goal.loop-slot-preserved
loop-slot-preserved c =
    let page = c.loop-slot.page in
    let new = c.put_u16.new.bytes in
    let slot = c.loop-slot.slot in
    let p = c.args.at + slot * 4 in
    let next = c.args.at + (slot + 1) * 4 in
    let m = c.args.count - slot in
    let n = c.args.count - (slot + 1) in
    let more : m ≡ suc n = omega arith in
    let on : next ≡ p + 4 = omega arith in
    let within : p + 4 ≤ length page = omega (arith, c.requires.within, c.loop-slot.auto.page) in
    let size = c.from-size.ensures ∙ c.get_u16.ensures.got ∙ ap (λ (k : ℕ). number_of (field_at page (c.args.at + k * 4 + 2) 2)) c.from.ensures in
    let put = c.put_u16.ensures.put ∙ ap (λ (k : ℕ). put_at page (c.args.at + k * 4) 2 c.offset_for.result) c.from.ensures in
    let few = length_first page m n p c.from-size.result c.loop-slot.begin more size c.loop-slot.invariant.lengths in
    let behind = ap (lengths_in n) (behind_put page new p next c.offset_for.result on within put) in
    record {
      bound = omega (arith, c.loop-slot.invariant.bound);
      lengths = omega (arith, few, behind);
      so_far = laid-next page new (take c.args.at c.args.page.now ++ laid c.args.end c.args.count (drop c.args.at c.args.page.now)) p next m n c.loop-slot.begin c.from-size.result c.offset_for.result more on within size c.offset_for.ensures put c.loop-slot.invariant.so_far;
    }

pub returns : goal.returns
returns c =
    let m = c.args.count - c.loop-slot.slot in
    let none : m ≡ 0 = omega arith in
    record { laid = laid-end c.loop-slot.page (take c.args.at c.args.page.now ++ laid c.args.end c.args.count (drop c.args.at c.args.page.now)) (c.args.at + c.loop-slot.slot * 4) m c.loop-slot.begin none c.loop-slot.invariant.so_far }
