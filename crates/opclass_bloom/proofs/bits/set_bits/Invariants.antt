use Rattle.std.proofs.Common.{◌≡◌, ◌≢◌, ℕ, ◌<◌, ◌≤◌, Fits, w8, true, false, bit_or, length, get_or}
use Rattle.opclass_bloom.proofs.bits.set_bits.Given as goal

abbrev pub invariant-bytes : goal.invariant-bytes
invariant-bytes l = record {
  as_long : length l.others ≡ length l.initial.bytes;
  are_bytes : (k : ℕ) → Fits w8 (get_or l.initial.bytes k 0);
  done : (k : ℕ) → k < l.i → get_or l.bytes k 0 ≡ bit_or (get_or l.initial.bytes k 0) (get_or l.others k 0);
  left : (k : ℕ) → l.i ≤ k → get_or l.bytes k 0 ≡ get_or l.initial.bytes k 0;
  same : l.changed ≡ false → (k : ℕ) → k < l.i → get_or l.bytes k 0 ≡ get_or l.initial.bytes k 0;
  other : l.changed ≡ true → (k : ℕ) × (k < l.i) × (get_or l.bytes k 0 ≢ get_or l.initial.bytes k 0);
}
