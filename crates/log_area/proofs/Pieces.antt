-- a frame that is put into a buffer, or written in pieces
use Rattle.std.proofs.Common.{◌≡◌, ℕ, ◌+◌, ◌-◌, ◌≤◌, ◌<◌, List, [], ◌∷◌, ◌++◌, length, take, drop, set, sym, ◌∙◌, ap, arith, append_assoc, length-append}
use Rattle.std.specs.Prelude.{IsTrue}
use Rattle.std.proofs.lemmas.List.{take_at, drop-drop, take_more_set, length-drop, length-take-le}
use borrow.Rule.Slice.PartMut.{put_mid}
use Rattle.disk_trait.specs.Told.{Told}
use Rattle.disk_trait.specs.Torn.{Torn}
use Rattle.disk_trait.specs.TornImage.{IsTornImage}
use Rattle.disk_trait.specs.Follows.{Follows}
use Rattle.disk_trait.specs.GoesOn.{GoesOn}
use Rattle.disk_trait.specs.Throughout.{Throughout}
use Rattle.disk_trait.specs.ThroughoutLaws.{started, goes_on, joined, weaker}
use Rattle.disk_trait.specs.Spliced.{spliced}
use Rattle.disk_trait.specs.TornLaws.{behind-spliced, torn_same, torn_wider, torn_twice}
use Rattle.log_area.proofs.Publishing.{Lawful}

-- a part, the changes behind it, and a closed gate behind those
pub filled : (y front rest ch : List ℕ) → y ≡ front ++ rest → length front ≡ 6 → length ch + 7 ≤ length y
    → take (length ch + 7) (set (put_mid 6 (6 + length ch - 6) y ch) (6 + length ch) 0) ≡ (front ++ ch) ++ 0 ∷ []
filled y front rest ch is long room =
    let z = put_mid 6 (6 + length ch - 6) y ch in
    let behind = drop (6 + length ch - 6) (drop 6 y) in
    let z_is : z ≡ (front ++ ch) ++ behind = ap (λ (x : List ℕ). x ++ (ch ++ behind)) (ap (take 6) is ∙ take_at front rest 6 long) ∙ sym (append_assoc front ch behind) in
    let both : length (front ++ ch) ≡ 6 + length ch = omega (arith, long, length-append front ch) in
    let long_z : 6 + length ch < length z = omega (arith, both, room, ap (length {A = ℕ}) z_is, length-append (front ++ ch) behind, length-drop (6 + length ch - 6) (drop 6 y), length-drop 6 y) in
    ap (λ (k : ℕ). take k (set z (6 + length ch) 0)) (omega arith)
    ∙ take_more_set z (6 + length ch) 0 long_z
    ∙ ap (λ (x : List ℕ). x ++ 0 ∷ []) (ap (take (6 + length ch)) z_is ∙ take_at (front ++ ch) behind (6 + length ch) both)

-- two writes of which one begins where the other ends are one
pub spliced_twice : (old : List ℕ) (at : ℕ) (a b : List ℕ) → at + length a + length b ≤ length old → spliced (spliced old at a) (at + length a) b ≡ spliced old at (a ++ b)
spliced_twice old at a b fits =
    let mid = spliced old at a in
    let front : take (at + length a) mid ≡ take at old ++ a =
    take_at (take at old ++ a) (drop (at + length a) old) (at + length a) (omega (arith, length-append (take at old) a, length-take-le at old (omega (arith, fits)))) in
    let back : drop (at + length a + length b) mid ≡ drop (at + length (a ++ b)) old =
    sym (drop-drop (length b) (at + length a) mid) ∙ ap (drop (length b)) (behind-spliced old at a (omega (arith, fits)))
    ∙ drop-drop (length b) (at + length a) old ∙ ap (λ (k : ℕ). drop k old) (omega (arith, length-append a b)) in
    ap (λ (x : List ℕ). x ++ b ++ drop (at + length a + length b) mid) front
    ∙ ap (λ (x : List ℕ). (take at old ++ a) ++ b ++ x) back
    ∙ ap (λ (x : List ℕ). x ++ drop (at + length (a ++ b)) old) (append_assoc (take at old) a b)

-- nothing was written yet
pub none_torn : (from m : ℕ) (old : Told) → ((c : List ℕ) → IsTrue (old.since old.moment c) → IsTrue (old.now c)) → Throughout old old (IsTornImage old from m)
none_torn from m old only = started old (IsTornImage old from m) (λ c since. (c, only c since, torn_same from m c))

-- a write within the range
pub one_torn_more : (from m at n : ℕ) (old mid new : Told) → from ≤ at → at + n ≤ from + m → Lawful mid → Throughout old mid (IsTornImage old from m) → Follows (Torn at n) mid new → GoesOn mid new → Throughout old new (IsTornImage old from m)
one_torn_more from m at n old mid new low high after so_far images moments =
    goes_on old mid new (IsTornImage old from m) so_far moments
    (λ c now.
    let e = images c now in
    let d = so_far.each e.0 (after.counts old.moment e.0 so_far.later e.1) in
    (d.0, d.1, torn_twice from m d.0 e.0 c d.2 (torn_wider at n from m e.0 c low high e.2)))

-- a write within the range that was made sure
pub last_torn : (from m at n : ℕ) (old mid new : Told) → from ≤ at → at + n ≤ from + m → Lawful mid → Throughout old mid (IsTornImage old from m) → Throughout mid new (IsTornImage mid at n) → Throughout old new (IsTornImage old from m)
last_torn from m at n old mid new low high after so_far all =
    joined old mid new (IsTornImage old from m) so_far
    (weaker mid new (IsTornImage mid at n) (IsTornImage old from m) all
    (λ (c : List ℕ) (e : IsTornImage mid at n c).
    let d = so_far.each e.0 (after.counts old.moment e.0 so_far.later e.1) in
    (d.0, d.1, torn_twice from m d.0 e.0 c d.2 (torn_wider at n from m e.0 c low high e.2))))
