-- The first page for a further tuple, as coverage tells it.
use Rattle.std.proofs.Common.{◌≡◌, ℕ, ◌<◌, ◌≤◌, inl, inr, List, refl, sym, subst, ◌∙◌}
use Rattle.std.specs.Prelude.{slice_index, IfSome, Option, None, Some}
use Rattle.std.proofs.lemmas.Bool.{cases_lt}
use Rattle.block_model.specs.declared.place.Spot.{Spot}
use Rattle.store_layout.specs.DiskLayout.{DiskLayout}
use Rattle.page_layout.specs.declared.page.Form.{Form}
use Rattle.page_layout.specs.declared.page.Form.TheVariants as forms
use Rattle.page_layout.specs.PageContents.{IsPageOf, IsUnstarted}
use Rattle.page_layout.specs.SlotLaws.{unstarted_front}
use Rattle.page_map.specs.FirstRoom.{IsFirstRoom}
use Rattle.page_map.specs.PageMap.{PageMap, block_at}
use Rattle.index_contents.specs.IndexReading.{map_pages_of}
use Rattle.index_contents.specs.IndexPages.{IsIndexPage, Slot}
use Rattle.index_contents.specs.TheConstants.{REGULAR, UNSTARTED}
use Rattle.coverage.specs.IndexView.{PageKind, Pages, Regular, Unstarted}
use Rattle.coverage.specs.Verdicts.{IsLowestNumber, IsPageUnstarted, IsTarget, OnNew, OnStarted, PageHasRoom}
use Rattle.index_contents.proofs.Rooms.{page_room_there}
use Rattle.index_contents.specs.IndexContents.{contents, contents_in, index_page, pages_in, relation_of}
use Rattle.index_contents.specs.Kinds.{is_regular_page, is_unstarted_page, regular_page, unstarted_page_kind}
use Rattle.range_store.specs.Tuples.{IsFirstUnstarted, TakesBytes}
use Rattle.range_store.specs.FirstTarget.{HasRoomIn, IsFirstTarget, IsLowestOf, IsUnstartedIn}

-- in pages of an index each has room as coverage says it
module _ (limit : ℕ) (page : ℕ → List ℕ) (checked : (block : ℕ) → IsIndexPage (page block)) (need : ℕ) where
  abbrev HasRoomThere : ℕ → Type 0
  HasRoomThere = PageHasRoom (pages_in limit page) (contents_in limit page).bytes need

  has_room : (block : ℕ) → HasRoomIn page need block → HasRoomThere block
  has_room block has = (has.0, regular_page block (slice_index (page block) 0) has.1, subst (λ (n : ℕ). need ≤ n) (sym (page_room_there limit page block (checked block) has.1)) has.2)

  room_had : (block : ℕ) → HasRoomThere block → HasRoomIn page need block
  room_had block has =
      let is : slice_index (page block) 0 ≡ REGULAR = is_regular_page block (slice_index (page block) 0) has.1 in
      (has.0, is, subst (λ (n : ℕ). need ≤ n) (page_room_there limit page block (checked block) is) has.2)

  is_unstarted : (block : ℕ) → IsUnstartedIn page block → IsPageUnstarted (pages_in limit page) block
  is_unstarted block is = unstarted_page_kind block (slice_index (page block) 0) is

  unstarted_was : (block : ℕ) → IsPageUnstarted (pages_in limit page) block → IsUnstartedIn page block
  unstarted_was block is = is_unstarted_page block (slice_index (page block) 0) is

  -- the lowest one of these is the lowest one of those
  lowest : (Is Was : ℕ → Type 0) (block : ℕ) → ((n : ℕ) → Is n → Was n) → ((n : ℕ) → Was n → Is n) → IsLowestOf Is block → IsLowestNumber Was block
  lowest Is Was block there back of = (
    there block of.0,
    λ q was. elim (cases_lt q block) [
      | inl below ↦ absurd (of.1 q below (back q was))
      | inr above ↦ above
    ],
  )

  pub target_found : (block : ℕ) → IsFirstTarget limit page need (Some block) → IsTarget (pages_in limit page) (contents_in limit page).bytes need block
  target_found block (inl started) = OnStarted (lowest (HasRoomIn page need) HasRoomThere block has_room room_had started)
  target_found block (inr new) = OnNew (λ q has. new.0 q (room_had q has)) (lowest (IsUnstartedIn page) (IsPageUnstarted (pages_in limit page)) block is_unstarted unstarted_was new.1) new.2

  pub none_found : (block : ℕ) → IsFirstTarget limit page need None → IsTarget (pages_in limit page) (contents_in limit page).bytes need block → ⊥
  none_found block none (OnStarted lowest) = none.0 block (room_had block lowest.0)
  none_found block none (OnNew full lowest below) = none.1 block below (unstarted_was block lowest.0)

-- a page that takes tuples is started
abbrev NotUnstarted : PageKind → Type 0
NotUnstarted Unstarted = ⊥
NotUnstarted kind = Unit {0}

-- a target takes the tuple
pub takes_it : (pages : Pages) (bytes : Spot → Slot) (need block : ℕ) → IsTarget pages bytes need block → TakesBytes pages bytes need block
takes_it pages bytes need block (OnStarted lowest) = inl (lowest.0.1, lowest.0.2)
takes_it pages bytes need block (OnNew none lowest below) = inr lowest.0

-- and is the first page that isn't started, if it isn't
unlike : {P : Type 0} (pages : Pages) (block : ℕ) → pages.kind block ≡ Regular → IsPageUnstarted pages block → P
unlike pages block regular unstarted = absurd (subst NotUnstarted (sym regular ∙ unstarted) tt)

pub first_it : (pages : Pages) (bytes : Spot → Slot) (need block : ℕ) → IsTarget pages bytes need block → IsFirstUnstarted pages block
first_it pages bytes need block (OnStarted lowest) = λ unstarted. unlike pages block lowest.0.1 unstarted
first_it pages bytes need block (OnNew none lowest below) = λ unstarted. lowest

-- the first page by the page store is that by the pages of the index

-- a page that passes its check and whose byte says that it isn't started is zeros
unstarted_byte : (page : List ℕ) → IsPageOf forms.Index page → slice_index page 0 ≡ UNSTARTED → IsUnstarted page
unstarted_byte page (inl zeros) is = zeros
unstarted_byte page (inr started) is = absurd (started.1 is)

zeros_byte : (page : List ℕ) → IsUnstarted page → slice_index page 0 ≡ UNSTARTED
zeros_byte page zeros = unstarted_front page 8192 refl zeros

first_in : (limit need past : ℕ) (page : ℕ → List ℕ) (answer : Option ℕ) → ((block : ℕ) → IsPageOf forms.Index (page block)) → past ≡ map_pages_of (page 0) → IsFirstRoom forms.Index limit need past page answer → IsFirstTarget limit page need answer
first_in limit need past page (Some block) checked counted (inl first) = inl (
  (subst (λ (n : ℕ). n < block) counted first.looked_at, first.room.0, first.room.1),
  λ other below has. first.lower other below (subst (λ (n : ℕ). n < other) (sym counted) has.0) (has.1, has.2),
)
first_in limit need past page (Some block) checked counted (inr next) = inr (
  λ other has. next.no_room other (subst (λ (n : ℕ). n < other) (sym counted) has.0) (has.1, has.2),
  (zeros_byte (page block) next.unstarted, λ other below is. next.lower other below (unstarted_byte (page other) (checked other) is)),
  next.below,
)
first_in limit need past page None checked counted full = (
  λ other has. full.no_room other (subst (λ (n : ℕ). n < other) (sym counted) has.0) (has.1, has.2),
  λ other below is. full.started other below (unstarted_byte (page other) (checked other) is),
)

pub first_of_index : (form : Form) (limit need past : ℕ) (page : ℕ → List ℕ) (answer : Option ℕ) → form ≡ forms.Index → ((block : ℕ) → IsPageOf form (page block)) → past ≡ map_pages_of (page 0) → IsFirstRoom form limit need past page answer → IsFirstTarget limit page need answer
first_of_index form limit need past page answer index checked counted first =
    first_in limit need past page answer (λ block. subst (λ (f : Form). IsPageOf f (page block)) index (checked block)) counted (subst (λ (f : Form). IsFirstRoom f limit need past page answer) index first)

-- and it is the target, as coverage says it

there : (layout : DiskLayout) (pages : PageMap) (index relation limit need : ℕ) (answer : Option ℕ) → relation ≡ relation_of layout index → limit ≡ layout.sizes.index_blocks → IsFirstTarget limit (block_at pages relation) need answer
    → IsFirstTarget layout.sizes.index_blocks (index_page layout pages index) need answer
there layout pages index relation limit need answer at size first =
    subst (λ (n : ℕ). IsFirstTarget n (index_page layout pages index) need answer) size (subst (λ (r : ℕ). IsFirstTarget limit (block_at pages r) need answer) at first)

pub target_at : (P : Type 0) (layout : DiskLayout) (pages : PageMap) (index relation limit need : ℕ) (answer : Option ℕ) → (P → (block : ℕ) → IsIndexPage (index_page layout pages index block)) → relation ≡ relation_of layout index → limit ≡ layout.sizes.index_blocks
    → (P → IsFirstTarget limit (block_at pages relation) need answer) → IfSome answer (λ block. P → IsTarget (contents layout pages index).pages (contents layout pages index).bytes need block)
unfolding contents
target_at P layout pages index relation limit need (Some block) checked at size first =
    λ p. target_found layout.sizes.index_blocks (index_page layout pages index) (checked p) need block (there layout pages index relation limit need (Some block) at size (first p))
target_at P layout pages index relation limit need None checked at size first = tt

pub no_target_at : (layout : DiskLayout) (pages : PageMap) (index relation limit need : ℕ) (answer : Option ℕ) → ((block : ℕ) → IsIndexPage (index_page layout pages index block)) → relation ≡ relation_of layout index → limit ≡ layout.sizes.index_blocks
    → answer ≡ None → IsFirstTarget limit (block_at pages relation) need answer → (block : ℕ) → IsTarget (contents layout pages index).pages (contents layout pages index).bytes need block → ⊥
unfolding contents
no_target_at layout pages index relation limit need answer checked at size none first block target =
    none_found layout.sizes.index_blocks (index_page layout pages index) checked need block (there layout pages index relation limit need None at size (subst (λ (a : Option ℕ). IsFirstTarget limit (block_at pages relation) need a) none first)) target
