-- the places of rows found, in order
use Rattle.std.proofs.Common.{◌≡◌, ◌⊎◌, inl, inr, ℕ, ◌+◌, ◌<◌, ◌≤◌, All, List, [], ◌∷◌, ◌++◌, length, take, append-nil, refl, sym, ap, subst, ◌∙◌, arith}
use Rattle.std.proofs.lemmas.Bool.{cases_lt}
use Rattle.std.proofs.lemmas.List.{append_assoc, take_at}
use Rattle.std.proofs.lemmas.List.Elements.{All-append, All-head, All-nil, All-push, All-same, All-tail, All-weaker}
use Rattle.block_model.specs.declared.place.Spot.{Spot}
use Rattle.block_model.specs.declared.row.Row.{Row}
use Rattle.heap_rows.specs.declared.rows.Stored.{Stored}
use Rattle.heap_rows.specs.StoredRows.{SlotsAscend}
use Rattle.bitmap_scan.specs.Finds.{Ascend, FindsIn, found_at}

abbrev Found : Type 0
Found = Row × Spot

-- one row more, behind all
pub pushed : (block slot at : ℕ) (found : List Found) (f : Found) → Ascend block slot found → All (λ (g : Found). g.1.block ≡ at) found → All (λ (g : Found). g.1.slot < f.1.slot) found → f.1.block ≡ at
    → (block < f.1.block) ⊎ ((block ≡ f.1.block) × (slot ≤ f.1.slot)) → Ascend block slot (found ++ f ∷ [])
pushed block slot at [] f ascend here before is start = (start, tt)
pushed block slot at (g ∷ found) f ascend here before is start =
    let less = All-head (λ (h : Found). h.1.slot < f.1.slot) g found before in
    let one = All-head (λ (h : Found). h.1.block ≡ at) g found here in (
      ascend.0,
      pushed g.1.block (g.1.slot + 1) at found f ascend.1 (All-tail (λ (h : Found). h.1.block ≡ at) g found here) (All-tail (λ (h : Found). h.1.slot < f.1.slot) g found before) is (inr (one ∙ sym is, omega (arith, less))),
    )

-- no row of a block is found yet
abbrev pub finds_none : (block : ℕ) (old : List Found) → old ≡ old ++ [] → FindsIn block old old
finds_none block old is = record { more = []; added = is; ascend = tt; there = All-nil (λ (f : Found). f.1.block ≡ block) }

abbrev pub finds_more : (block : ℕ) (old mid new : List Found) (f : Found) (so_far : FindsIn block old mid) → new ≡ mid ++ f ∷ [] → f.1.block ≡ block → All (λ (g : Found). g.1.slot < f.1.slot) so_far.more → FindsIn block old new
finds_more block old mid new f so_far is here before = record {
  more = so_far.more ++ f ∷ [];
  added = is ∙ ap (λ (l : List Found). l ++ f ∷ []) so_far.added ∙ append_assoc old so_far.more (f ∷ []);
  ascend = pushed block 0 block so_far.more f so_far.ascend so_far.there before here (inr (sym here, omega arith));
  there = All-push (λ (g : Found). g.1.block ≡ block) so_far.more f so_far.there here;
}

-- the rows of a further block, behind those of the blocks before it
behind : (block slot at : ℕ) (found more : List Found) → Ascend block slot found → All (λ (f : Found). f.1.block < at) found → Ascend at 0 more → All (λ (f : Found). f.1.block ≡ at) more
    → (block < at) ⊎ ((block ≡ at) × (slot ≤ 0)) → Ascend block slot (found ++ more)
behind block slot at [] [] ascend before then there start = tt
behind block slot at [] (f ∷ more) ascend before then there start = (first start, then.1)
  where
    here : f.1.block ≡ at
    here = All-head (λ (g : Found). g.1.block ≡ at) f more there

    first : (block < at) ⊎ ((block ≡ at) × (slot ≤ 0)) → (block < f.1.block) ⊎ ((block ≡ f.1.block) × (slot ≤ f.1.slot))
    first (inl less) = inl (omega (arith, less, here))
    first (inr same) = inr (same.0 ∙ sym here, omega (arith, same.1))
behind block slot at (f ∷ found) more ascend before then there start = (
  ascend.0,
  behind f.1.block (f.1.slot + 1) at found more ascend.1 (All-tail (λ (g : Found). g.1.block < at) f found before) then there (inl (All-head (λ (g : Found). g.1.block < at) f found before)),
)

pub ascend_more : (block read : ℕ) (old new : List Found) → Ascend 0 0 old → All (λ (f : Found). f.1.block < read) old → read ≤ block → FindsIn block old new → Ascend 0 0 new × All (λ (f : Found). f.1.block < block + 1) new
ascend_more block read old new ascend below past finds = (
  subst (λ (l : List Found). Ascend 0 0 l) (sym finds.added)
      (behind 0 0 block old finds.more ascend (All-weaker (λ (f : Found). f.1.block < read) (λ (f : Found). f.1.block < block) (λ f less. omega (arith, less, past)) old below) finds.ascend finds.there (start block)),
  All-same (λ (f : Found). f.1.block < block + 1) new (old ++ finds.more) finds.added
      (All-append (λ (f : Found). f.1.block < block + 1) old finds.more
      (All-weaker (λ (f : Found). f.1.block < read) (λ (f : Found). f.1.block < block + 1) (λ f less. omega (arith, less, past)) old below)
      (All-weaker (λ (f : Found). f.1.block ≡ block) (λ (f : Found). f.1.block < block + 1) (λ f is. omega (arith, is)) finds.more finds.there)),
)
  where
    start : (at : ℕ) → (0 < at) ⊎ ((0 ≡ at) × (0 ≤ 0))
    start at = elim (cases_lt 0 at) [ inl more ↦ inl more | inr none ↦ inr (omega (arith, none), omega arith) ]

-- what was found of a block so far, and the rows that are still to be looked at
pub record IsAhead (block : ℕ) (old now : List Found) (rest : List Stored) : Type 0 where
  pub finds : FindsIn block old now
  pub least : ℕ
  pub count : ℕ
  pub ascends : SlotsAscend least count rest
  pub before : All (λ (f : Found). f.1.slot < least) finds.more

pub begins_ahead : (block count : ℕ) (old : List Found) (rows : List Stored) → SlotsAscend 0 count rows → IsAhead block old old rows
begins_ahead block count old rows ascends = record {
  finds = finds_none block old (sym (append-nil old));
  least = 0;
  count = count;
  ascends = ascends;
  before = All-nil (λ (f : Found). f.1.slot < 0);
}

pub goes_ahead : (table block : ℕ) (old now now' : List Found) (row : Stored) (rest : List Stored) → IsAhead block old now (row ∷ rest) → (now' ≡ now) ⊎ (now' ≡ now ++ found_at table block row ∷ []) → IsAhead block old now' rest
goes_ahead table block old now now' row rest ahead (inl same) = record {
  finds = record { more = ahead.finds.more; added = same ∙ ahead.finds.added; ascend = ahead.finds.ascend; there = ahead.finds.there };
  least = row.slot + 1;
  count = ahead.count;
  ascends = ahead.ascends.2;
  before = All-weaker (λ (f : Found). f.1.slot < ahead.least) (λ (f : Found). f.1.slot < row.slot + 1) (λ f less. omega (arith, less, ahead.ascends.0)) ahead.finds.more ahead.before;
}
goes_ahead table block old now now' row rest ahead (inr added) =
    let f = found_at table block row in
    let before = All-weaker (λ (g : Found). g.1.slot < ahead.least) (λ (g : Found). g.1.slot < row.slot) (λ g less. omega (arith, less, ahead.ascends.0)) ahead.finds.more ahead.before in
    record {
      finds = finds_more block old now now' f ahead.finds added refl before;
      least = row.slot + 1;
      count = ahead.count;
      ascends = ahead.ascends.2;
      before = All-push (λ (g : Found). g.1.slot < row.slot + 1) ahead.finds.more f
          (All-weaker (λ (g : Found). g.1.slot < row.slot) (λ (g : Found). g.1.slot < row.slot + 1) (λ g less. omega (arith, less)) ahead.finds.more before) (omega arith);
    }

-- rows in front stay where more are found
pub front_stays : (block : ℕ) (old now : List Found) → FindsIn block old now → take (length old) now ≡ old
front_stays block old now finds = ap (take (length old)) finds.added ∙ take_at old finds.more (length old) refl
