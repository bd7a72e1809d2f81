use Rattle.std.proofs.Common.{◌≡◌, ◌+◌, ℕ, List, drop, refl, sym, ◌∙◌, ap, arith}
use Rattle.byte_fields.specs.Fields.{field_at, number_of}
use Rattle.log_area.specs.Frames.{length_at}
use Rattle.log_area.proofs.Reading.{passes_long, length_in_front}
use Rattle.log_area.proofs.opening.read_frame.Goals as goal

pub returns-then-next-area-clause-cause : goal.returns-then-next-area-clause-cause
unfolding length_at
returns-then-next-area-clause-cause g c =
    let gate = c.args.gate in
    let bytes = c.read_up_to.new.bytes.items in
    let len : c.get_u32.result ≡ length_at (drop (gate + 1) bytes) = c.get_u32.ensures.got ∙ ap (λ (b : List ℕ). number_of (field_at b (gate + 1) 4)) c.deref.ensures.value in (
      refl,
      c.in-Ok.ensures.cause,
      λ tells.
          passes_long c.args.area.start c.args.area.room gate c.get_u32.result bytes (g.D.Disk.told c.args.disk.now).contents (c.in-Ok.ensures.known tells) c.in-Ok.ensures.enough.0 c.in-Ok.ensures.enough.1 len (omega (arith, c.if-next-area.true)),
    )

pub returns-in-Ok-read_up_to-clause-next : goal.returns-in-Ok-read_up_to-clause-next
unfolding length_at
returns-in-Ok-read_up_to-clause-next g c =
    let gate = c.args.gate in
    let bytes = c.read_up_to.new.bytes.items in
    let len : c.get_u32.result ≡ length_at (drop (gate + 1) bytes) = c.get_u32.ensures.got ∙ ap (λ (b : List ℕ). number_of (field_at b (gate + 1) 4)) c.deref.ensures.value in
    let more = c.in-Ok-read_up_to.ensures.extends in
    ap (λ (k : ℕ). gate + 7 + k)
    (len ∙ sym (ap (λ (b : List ℕ). length_at (drop (gate + 1) b)) more.1 ∙ length_in_front gate bytes more.0 (omega (arith, c.in-Ok.ensures.enough.0))))
