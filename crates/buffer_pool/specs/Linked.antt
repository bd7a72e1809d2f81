-- frames in buckets, each bucket gone through from its highest frame down
use Rattle.std.specs.Prelude.{◌≡◌, ◌≢◌, ℕ, ◌+◌, ◌-◌, ◌<◌, ◌≤◌, List, length, slice_index}

-- one past the highest node of a bucket below another node, or 0 where there is none
pub record IsNext (bucket_of : List ℕ) (bucket node next : ℕ) : Type 0 where
  pub within : next ≤ node
  pub same : 0 < next → slice_index bucket_of (next - 1) ≡ bucket
  pub none_between : (k : ℕ) → next ≤ k → k < node → slice_index bucket_of k ≢ bucket

-- a node that names one above the frame names a lower one of its own bucket
abbrev pub AreLinkedAbove : List ℕ → List ℕ → ℕ → Type 0
AreLinkedAbove bucket_of below frame =
    (k : ℕ) → k < length bucket_of → frame + 1 < slice_index below k
    → (slice_index below k ≤ k) × (slice_index bucket_of (slice_index below k - 1) ≡ slice_index bucket_of k)

-- The frames are nodes, and above them stands a head for each bucket. Each node names the next one of its bucket.
pub record IsLinked (frames : ℕ) (bucket_of below : List ℕ) : Type 0 where
  pub whole : length below ≡ length bucket_of
  pub heads : (bucket : ℕ) → frames + bucket < length bucket_of → slice_index bucket_of (frames + bucket) ≡ bucket
  pub small : (k : ℕ) → k < length bucket_of → frames + slice_index bucket_of k < length bucket_of
  pub next : (k : ℕ) → k < length bucket_of → IsNext bucket_of (slice_index bucket_of k) k (slice_index below k)

-- how many frames there are, and the bucket of each node
pub record Placed : Type 0 where
  pub frames : ℕ
  pub bucket_of : List ℕ
