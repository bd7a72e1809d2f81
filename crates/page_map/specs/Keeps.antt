-- what a call leaves of a store
use Rattle.std.specs.Prelude.{◌≡◌, ◌≤◌, IsTrue}
use Rattle.std.proofs.Common.{◌∙◌, arith}
use Rattle.disk_trait.specs.Told.{Told}
use Rattle.page_map.specs.PageMap.{View}

-- the store's disk tells its contents
abbrev pub Tells : {D : Type 0} → (D → Told) → View D → Type 0
Tells told store = IsTrue (told store.disk).tells_contents

-- it doesn't
abbrev pub Untold : {D : Type 0} → (D → Told) → View D → Type 0
Untold told store = Tells told store → ⊥

-- What every call leaves, whether it changes pages or not: the layout, and whether the disk tells its contents. Its count of
-- faults doesn't fall.
pub record Leaves {D : Type 0} (told : D → Told) (old new : View D) : Type 0 where
  pub layout : new.layout ≡ old.layout
  pub tells : (told new.disk).tells_contents ≡ (told old.disk).tells_contents
  pub faults : (told old.disk).faults ≤ (told new.disk).faults

-- a call that changes no page leaves them too, where the disk tells its contents
pub record Keeps {D : Type 0} (told : D → Told) (old new : View D) : Type 0 where
  pub leaves : Leaves told old new
  pub pages : Tells told old → new.pages ≡ old.pages

-- a call that changes no page, and then any call
pub keeps_then : {D : Type 0} (told : D → Told) (old mid new : View D) → Keeps told old mid → Leaves told mid new → Leaves told old new
keeps_then told old mid new first second = record {
  layout = second.layout ∙ first.leaves.layout;
  tells = second.tells ∙ first.leaves.tells;
  faults = omega (arith, second.faults, first.leaves.faults);
}

-- two calls that change no page
pub keeps_on : {D : Type 0} (told : D → Told) (old mid new : View D) → Keeps told old mid → Keeps told mid new → Keeps told old new
keeps_on told old mid new first second = record {
  leaves = keeps_then told old mid new first second.leaves;
  pages = λ tells. second.pages (first.leaves.tells ∙ tells) ∙ first.pages tells;
}
