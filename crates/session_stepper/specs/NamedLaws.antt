-- a disk behind a name keeps the laws of disks
use Rattle.std.proofs.Common.{◌≡◌, ℕ, ◌≤◌, Bool, true, false, List, length}
use Rattle.std.proofs.lemmas.Bool.{and_parts, false≢true}
use Rattle.std.specs.Prelude.{IsTrue, ◌&&◌}
use Rattle.disk_trait.specs.Told.{Told}
use Rattle.session_stepper.specs.NamedTold.{told_to}

both : (a b : Bool) → IsTrue a → IsTrue b → IsTrue (a && b)
both true b _ same = same
both false b never _ = absurd (false≢true never)

module _ (h : Bool) (disk : Told) where
  pub contents_fit : (IsTrue disk.tells_contents → length disk.contents ≡ disk.size) → IsTrue (told_to h disk).tells_contents → length (told_to h disk).contents ≡ (told_to h disk).size
  contents_fit law tells = law (and_parts h disk.tells_contents tells).1

  pub images_fit : (c : List ℕ) → (IsTrue (disk.now c) → length c ≡ disk.size) → IsTrue ((told_to h disk).now c) → length c ≡ (told_to h disk).size
  images_fit c law now = law (and_parts h (disk.now c) now).1

  pub has_contents : (c : List ℕ) → (IsTrue (disk.now c) → IsTrue disk.tells_contents) → IsTrue ((told_to h disk).now c) → IsTrue (told_to h disk).tells_contents
  has_contents c law now = let parts = and_parts h (disk.now c) now in both h disk.tells_contents parts.0 (law parts.1)

  pub contents_here : (IsTrue disk.tells_images → IsTrue (disk.now disk.contents)) → IsTrue (told_to h disk).tells_images → IsTrue ((told_to h disk).now (told_to h disk).contents)
  contents_here law tells = let parts = and_parts h disk.tells_images tells in both h (disk.now disk.contents) parts.0 (law parts.1)

  pub is_since : (t : ℕ) (c : List ℕ) → (t ≤ disk.moment → IsTrue (disk.now c) → IsTrue (disk.since t c)) → t ≤ (told_to h disk).moment → IsTrue ((told_to h disk).now c) → IsTrue ((told_to h disk).since t c)
  is_since t c law earlier now = let parts = and_parts h (disk.now c) now in both h (disk.since t c) parts.0 (law earlier parts.1)

  pub is_now : (c : List ℕ) → (IsTrue (disk.since disk.moment c) → IsTrue (disk.now c)) → IsTrue ((told_to h disk).since (told_to h disk).moment c) → IsTrue ((told_to h disk).now c)
  is_now c law since = let parts = and_parts h (disk.since disk.moment c) since in both h (disk.now c) parts.0 (law parts.1)
