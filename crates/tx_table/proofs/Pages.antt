-- The list of statuses that pages have, and a change of one.
use Rattle.std.proofs.Common.{◌≡◌, ◌≢◌, inl, inr, ℕ, ◌/◌, ◌%◌, ◌<◌, ◌≤◌, List, [], ◌∷◌, set, sym, ap, subst, ◌∙◌, arith}
use Rattle.std.proofs.lemmas.Bool.{cases_eq}
use Rattle.std.proofs.lemmas.List.{get_or-set_other, get_or-set_same, get_or_default, get_or_past, length-set, same_lists}
use Rattle.block_model.specs.declared.place.Place.{Place}
use Rattle.page_layout.specs.declared.page.Form.TheVariants as forms
use Rattle.page_layout.specs.PageContents.{IsStatusPage}
use Rattle.page_map.specs.Redo.{Means}
use Rattle.page_map.specs.Changed.{Changed, redone_once}
use Rattle.page_map.specs.Forms.{form_of, forms_of}
use Rattle.page_map.specs.PageMap.{PageMap, block_at, block_limit, page_at}
use Rattle.snapshot_core.specs.declared.statuses.Status.{Status}
use Rattle.snapshot_core.specs.declared.statuses.Status.TheVariants.{Unused}
use Rattle.store_layout.specs.DiskLayout.{DiskLayout, IsPlace, relation_blocks}
use Rattle.wal_record.specs.Changes.{StatusSet}
use Rattle.tx_table.specs.PageEntries.{entry_on}
use Rattle.tx_table.specs.Statuses.{HasEntry, HasStatuses, IsStartedBlock, number_limit, status_named, status_of}
use Rattle.tx_table.proofs.Entries.{entry_named, entry_other, entry_set, length-entries}

-- the relation of the statuses

pub form_of_statuses : (layout : DiskLayout) (relation : ℕ) → relation ≡ 0 → form_of layout relation ≡ forms.Status
unfolding forms_of
form_of_statuses layout relation is = ap (form_of layout) is

pub limit_of_statuses : (layout : DiskLayout) (relation : ℕ) → relation ≡ 0 → block_limit layout relation ≡ layout.sizes.status_blocks
unfolding relation_blocks
limit_of_statuses layout relation is = ap (block_limit layout) is

pub place_there : (layout : DiskLayout) (place : Place) → place.relation ≡ 0 → place.block < layout.sizes.status_blocks → IsPlace layout place
unfolding relation_blocks
place_there layout place is below = record {
  relation = omega (arith, is);
  block = omega (arith, below, limit_of_statuses layout place.relation is);
}

-- the number on the page of a transaction, at its entry
abbrev pub number_at : PageMap → ℕ → ℕ
number_at pages t = entry_on (block_at pages 0 (t / 32640)) (t % 32640)

-- each status of the list is named by that number
pub status_read : (layout : DiskLayout) (pages : PageMap) (statuses : List Status) (t : ℕ) → HasStatuses layout pages statuses → t < number_limit layout → status_of statuses t ≡ status_named (number_at pages t)
status_read layout pages statuses t has below = entry_named (block_at pages 0 (t / 32640)) (t % 32640) (status_of statuses t) (has.each t below)

-- and one past the list is unused
pub status_past : (layout : DiskLayout) (pages : PageMap) (statuses : List Status) (t : ℕ) → HasStatuses layout pages statuses → number_limit layout ≤ t → status_of statuses t ≡ Unused
status_past layout pages statuses t has past = get_or_past statuses t Unused (omega (arith, has.counted, past))

-- so there is one list
pub statuses_one : (layout : DiskLayout) (pages : PageMap) (a b : List Status) → HasStatuses layout pages a → HasStatuses layout pages b → a ≡ b
statuses_one layout pages a b one two =
    same_lists a b (one.counted ∙ sym two.counted) (λ t d below.
    let there : t < number_limit layout = omega (arith, below, one.counted) in
    get_or_default a t d Unused below
    ∙ status_read layout pages a t one there
    ∙ sym (status_read layout pages b t two there)
    ∙ get_or_default b t Unused d (omega (arith, there, two.counted)))

-- a change of the number of one transaction: its entry has that one now, and each other page is as before
pub record NumberSet (t n : ℕ) (old new : PageMap) : Type 0 where
  pub entry : (entries : List ℕ) → IsStatusPage (block_at old 0 (t / 32640)) entries → IsStatusPage (block_at new 0 (t / 32640)) (set entries (t % 32640) n)
  pub blocks : (block : ℕ) → block ≢ t / 32640 → block_at new 0 block ≡ block_at old 0 block
  pub pages : (place : Place) → place.relation ≢ 0 → page_at new place ≡ page_at old place

-- the page store's change is one
pub number_set : (layout : DiskLayout) (place : Place) (t entry n : ℕ) (old new : PageMap) → place.relation ≡ 0 → place.block ≡ t / 32640 → entry ≡ t % 32640
    → Changed layout place (StatusSet place entry n ∷ []) old new → NumberSet t n old new
number_set layout place t entry n old new relation block at changed =
    let old_page : page_at old place ≡ block_at old 0 (t / 32640) = λ i. block_at old (relation i) (block i) in
    let new_page : page_at new place ≡ block_at new 0 (t / 32640) = λ i. block_at new (relation i) (block i) in
    let means : Means (form_of layout place.relation) (page_at old place) (StatusSet place entry n) (page_at new place) = redone_once (form_of layout place.relation) (page_at old place) (StatusSet place entry n) (page_at new place) changed.redone in
    record {
      entry = λ entries is.
          subst (λ (page : List ℕ). IsStatusPage page (set entries (t % 32640) n)) new_page
          (subst (λ (k : ℕ). IsStatusPage (page_at new place) (set entries k n)) at (means entries (subst (λ (page : List ℕ). IsStatusPage page entries) (sym old_page) is)));
      blocks = λ other apart. changed.others (record { relation = 0; block = other }) (λ same. apart (ap (λ (p : Place). p.block) same ∙ block));
      pages = λ other apart. changed.others other (λ same. apart (ap (λ (p : Place). p.relation) same ∙ relation));
    }

-- so the list changes at that transaction alone
pub set_statuses : (layout : DiskLayout) (old new : PageMap) (statuses : List Status) (t n : ℕ) (status : Status) → HasStatuses layout old statuses → t < number_limit layout
    → IsStartedBlock old (t / 32640) → NumberSet t n old new → status_named n ≡ status → HasStatuses layout new (set statuses t status)
set_statuses layout old new statuses t n status has below started changed named =
    let entries = started.0 in
    let was = started.1 in
    let is = changed.entry entries was in
    record {
      counted = length-set statuses t status ∙ has.counted;
      each = λ u there. elim (cases_eq u t) [
        | inl same ↦
            let value : status_of (set statuses t status) u ≡ status = ap (status_of (set statuses t status)) same ∙ get_or-set_same statuses t status Unused (omega (arith, below, has.counted)) in
            let here : HasEntry (block_at new 0 (t / 32640)) (t % 32640) status = entry_set (block_at new 0 (t / 32640)) entries (t % 32640) n status (length-entries (block_at old 0 (t / 32640)) entries was) (omega arith) is named in
            subst (λ (s : Status). HasEntry (block_at new 0 (u / 32640)) (u % 32640) s) (sym value)
            (subst (λ (k : ℕ). HasEntry (block_at new 0 (k / 32640)) (k % 32640) status) (sym same) here)
        | inr apart ↦
            let value : status_of (set statuses t status) u ≡ status_of statuses u = get_or-set_other statuses t u status Unused apart in
            subst (λ (s : Status). HasEntry (block_at new 0 (u / 32640)) (u % 32640) s) (sym value)
            (elim (cases_eq (u / 32640) (t / 32640)) [
              | inl block ↦
                  let entry : u % 32640 ≢ t % 32640 = λ same. apart (omega (arith, same, block)) in
                  subst (λ (b : ℕ). HasEntry (block_at new 0 b) (u % 32640) (status_of statuses u)) (sym block)
                  (entry_other (block_at old 0 (t / 32640)) (block_at new 0 (t / 32640)) entries (t % 32640) (u % 32640) n (status_of statuses u) was is entry
                  (subst (λ (b : ℕ). HasEntry (block_at old 0 b) (u % 32640) (status_of statuses u)) block (has.each u there)))
              | inr block ↦ subst (λ (page : List ℕ). HasEntry page (u % 32640) (status_of statuses u)) (sym (changed.blocks (u / 32640) block)) (has.each u there)
            ])
      ];
    }

-- a started page of statuses stays one
pub started_kept : (old new : PageMap) (t n block : ℕ) → NumberSet t n old new → IsStartedBlock old block → IsStartedBlock new block
started_kept old new t n block changed started = elim (cases_eq block (t / 32640)) [
  | inl same ↦
      let here : IsStartedBlock old (t / 32640) = subst (IsStartedBlock old) same started in
      subst (IsStartedBlock new) (sym same) (set here.0 (t % 32640) n, changed.entry here.0 here.1)
  | inr apart ↦ (started.0, subst (λ (page : List ℕ). IsStatusPage page started.0) (sym (changed.blocks block apart)) started.1)
]
