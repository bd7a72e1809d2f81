use Rattle.std.proofs.Common.{◌≡◌, ℕ, ◌*◌, ◌/◌, Err, length, refl, sym, ap, ◌∙◌, ne_eqb}
use Rattle.std.specs.Prelude.{◌==◌, min}
use Rattle.std.proofs.lemmas.Bool.{cond-false}
use Rattle.opclass_bloom.specs.Kept.{bits_of}
use Rattle.opclass_bloom.specs.Encoding.{size_of}
use Rattle.opclass_bloom.specs.Reading.{read_of}
use Rattle.opclass_bloom.proofs.Bytes.{length_bytes, bits_again, read_again}
use Rattle.opclass_bloom.proofs.class.BloomOpClass.decode.Goals as goal

pub returns-then-bytes-size-clause-again : goal.returns-then-bytes-size-clause-again
returns-then-bytes-size-clause-again c = λ s of_class is.
    absurd (c.if-bytes-size.true (ap length is ∙ length_bytes s ∙ ap (λ (n : ℕ). n / 8) of_class ∙ sym c.size-size.ensures.size))

pub returns-clause-again : goal.returns-clause-again
returns-clause-again c = λ s of_class is.
    let size = c.size-size.result in
    let whole : length s ≡ 8 * size = of_class ∙ sym c.size-size.ensures.whole_bytes in
    let kept : length c.read.new.self ≡ 8 * size = c.read.ensures.size ∙ c.requires.of_class ∙ sym c.size-size.ensures.whole_bytes in
    (refl, sym (bits_again c.read.new.self size kept) ∙ ap bits_of (sym c.read.ensures.found ∙ is) ∙ bits_again s size whole)

pub returns-then-bytes-size-clause-read : goal.returns-then-bytes-size-clause-read
returns-then-bytes-size-clause-read c =
    let bytes = c.args.bytes.now in
    let p = c.args.self.now in
    let size : c.size-size.result ≡ size_of p = c.size-size.ensures.size in
    cond-false (length bytes == size_of p) _ _ (ne_eqb (length bytes) (size_of p) (λ same. c.if-bytes-size.true (same ∙ sym size)))
    ∙ ap Err (ap (λ (n : ℕ). min (length bytes) n) (sym size) ∙ sym c.min.ensures)

pub returns-clause-read : goal.returns-clause-read
returns-clause-read c =
    ap (read_of c.args.self.now) c.read.ensures.found ∙ read_again c.args.self.now c.read.new.self c.size-size.result (c.read.ensures.size ∙ c.requires.of_class) c.size-size.ensures.whole_bytes
