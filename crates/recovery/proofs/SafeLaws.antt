-- laws of images that lose nothing
use Rattle.std.proofs.Common.{◌≡◌, ◌≢◌, inl, inr, ⊎_elim, ℕ, suc, ◌+◌, ◌-◌, ◌*◌, ◌%◌, ◌<◌, ◌≤◌, Bool, true, false, cond, ◌&&◌, ◌==◌, List, [], ◌∷◌, ◌++◌, length, take, drop, get_or, refl, sym, ap, subst, ◌∙◌, arith, append_assoc}
use Rattle.std.specs.List.{AllByRecursion}
use Rattle.std.proofs.lemmas.List.{append-nil, take-take, drop-drop}
use Rattle.std.proofs.lemmas.Bool.{false≢true}
use Rattle.block_model.specs.declared.place.Place.{Place}
use Rattle.store_layout.specs.DiskLayout.{DiskLayout, IsPlace, area_size, page_offset}
use Rattle.store_layout.specs.PagesFillDisk.{PagesFillDisk}
use Rattle.store_format.specs.ControlPage.{HasControl, control_bytes, written_bytes}
use Rattle.disk_trait.specs.Torn.{Torn}
use Rattle.disk_trait.specs.RangeLaws.{torn_apart}
use Rattle.log_area.specs.Frames.{LogFrame, HoldsFrames}
use Rattle.log_area.specs.Log.{Log, SameBeside, Stands, area_start, areas_end, chosen_area, gate_of}
use Rattle.log_area.specs.Appended.{Appended, KeptOrAppended, grown}
use Rattle.log_area.specs.Switched.{KeptOrSwitched, Switched, switched}
use Rattle.log_area.proofs.OneWay.{one_way}
use Rattle.page_layout.specs.declared.page.Form.{Form}
use Rattle.page_map.specs.Redo.{ForgetPage, IsAnew, Redone}
use Rattle.page_map.specs.Forms.{IsPageIn, form_of}
use Rattle.page_map.specs.PageMap.{IsWhole, PageMap, page_at}
use Rattle.wal_record.specs.Changes.{IsChange, LoggedChange, place_of}
use Rattle.wal_record.specs.ChangeBytes.{bytes_of}
use Rattle.recovery.specs.LoggedChanges.{AreChangesOf, AreLogged, changes_at}
use Rattle.recovery.specs.Opens.{Opens, OpensAs, disk_page}
use Rattle.recovery.specs.Reaches.{OpensToOr}
use Rattle.recovery.proofs.Once.{logged_once}
use Rattle.recovery.proofs.Written.{area_same, opens_torn, redo_any, same_byte}
use Rattle.recovery.specs.ShownLaws.{same_place}
use Rattle.recovery.specs.Safe.{IsSafe, Rebuilds, is_marked}

-- changes behind others

cond_append : (b : Bool) (c : LoggedChange) (l front back : List LoggedChange) → l ≡ front ++ back → cond b (c ∷ l) l ≡ cond b (c ∷ front) front ++ back
cond_append true c l front back e = ap (λ (k : List LoggedChange). c ∷ k) e
cond_append false c l front back e = e

pub at_append : (place : Place) (xs ys : List LoggedChange) → changes_at place (xs ++ ys) ≡ changes_at place xs ++ changes_at place ys
at_append place [] ys = refl
at_append place (c ∷ xs) ys = cond_append ((place_of c).relation == place.relation && (place_of c).block == place.block) c (changes_at place (xs ++ ys)) (changes_at place xs) (changes_at place ys) (at_append place xs ys)

pub all_append : (P : LoggedChange → Type 0) (xs ys : List LoggedChange) → AllByRecursion P xs → AllByRecursion P ys → AllByRecursion P (xs ++ ys)
all_append P [] ys one two = two
all_append P (x ∷ xs) ys one two = (one.0, all_append P xs ys one.1 two)

-- one frame more
pub logged_push : (fs : List LogFrame) (done : List LoggedChange) (f : LogFrame) (own : List LoggedChange) → AreLogged fs done → AreChangesOf f.changes own → f.count ≡ length own → AreLogged (fs ++ f ∷ []) (done ++ own)
logged_push [] done f own all decoded counted = (own, [], decoded, counted, refl, ap (λ (l : List LoggedChange). l ++ own) all ∙ sym (append-nil own))
logged_push (g ∷ fs) done f own all decoded counted =
    (all.0, all.1 ++ own, all.2, all.3, logged_push fs all.1 f own all.4 decoded counted, ap (λ (l : List LoggedChange). l ++ own) all.5 ∙ append_assoc all.0 all.1 own)

-- the same pages stand on two images

abbrev pub SamePages : DiskLayout → List ℕ → List ℕ → Type 0
SamePages layout before image = (place : Place) → IsPlace layout place → disk_page layout image place ≡ disk_page layout before place

pub rebuilds_same : (layout : DiskLayout) (marks : List Bool) (changes : List LoggedChange) (pages : PageMap) (d c : List ℕ) → SamePages layout d c → Rebuilds layout marks changes pages d → Rebuilds layout marks changes pages c
rebuilds_same layout marks changes pages d c same rebuilds = record {
  places = rebuilds.places;
  anew = rebuilds.anew;
  redone = λ place is. subst (λ (x : List ℕ). Redone (form_of layout place.relation) x (changes_at place changes) (page_at pages place)) (sym (same place is)) (rebuilds.redone place is);
  marked = rebuilds.marked;
  unmarked = rebuilds.unmarked;
}

-- an image opens like another one that has the same frames and pages
pub opens_alike : (layout : DiskLayout) (d c : List ℕ) (pages : PageMap) (opens : Opens layout d pages) → HoldsFrames (chosen_area (area_size layout) c) opens.frames → SamePages layout d c → Opens layout c pages
opens_alike layout d c pages opens holds same = record {
  frames = opens.frames;
  changes = opens.changes;
  opened = holds;
  decoded = opens.decoded;
  places = opens.places;
  anew = opens.anew;
  redone = λ place is. subst (λ (x : List ℕ). Redone (form_of layout place.relation) x (changes_at place opens.changes) (page_at pages place)) (sym (same place is)) (opens.redone place is);
  checked = opens.checked;
  whole = opens.whole;
}

-- what lies in front of the pages, and what lies there

pub same_pages : (layout : DiskLayout) → PagesFillDisk layout → (d c : List ℕ) → drop (areas_end (area_size layout)) c ≡ drop (areas_end (area_size layout)) d → SamePages layout d c
unfolding disk_page
same_pages layout fill d c same place is =
    let low = fill.begins place is in
    let more : page_offset layout place ≡ areas_end (area_size layout) + (page_offset layout place - areas_end (area_size layout)) = omega (arith, low) in
    ap (take 8192)
    (ap (λ (k : ℕ). drop k c) more
    ∙ sym (drop-drop (page_offset layout place - areas_end (area_size layout)) (areas_end (area_size layout)) c)
    ∙ ap (drop (page_offset layout place - areas_end (area_size layout))) same
    ∙ drop-drop (page_offset layout place - areas_end (area_size layout)) (areas_end (area_size layout)) d
    ∙ ap (λ (k : ℕ). drop k d) (sym more))

pub same_front : (n m : ℕ) (d c : List ℕ) → m ≤ n → take n c ≡ take n d → take m c ≡ take m d
same_front n m d c le same = sym (take-take m n c le) ∙ ap (take m) same ∙ take-take m n d le

-- where nothing waits an image opens to the pages
pub opens_safe : (layout : DiskLayout) (log : Log) (marks : List Bool) (pages : PageMap) (image : List ℕ) → log.room ≡ area_size layout → IsWhole layout pages
    → ((place : Place) → IsPlace layout place → IsPageIn layout place.relation (page_at pages place)) → IsSafe layout log marks [] pages image → OpensAs layout image pages
opens_safe layout log marks pages image area whole checked safe =
    let rebuilds = subst (λ (l : List LoggedChange). Rebuilds layout marks l pages image) (append-nil safe.done) safe.rebuilds in
    record {
      control = safe.control;
      opens = record {
        frames = safe.frames;
        changes = safe.done;
        opened = subst (λ (room : ℕ). HoldsFrames (chosen_area room image) safe.frames) area safe.stands.holds;
        decoded = safe.decoded;
        places = rebuilds.places;
        anew = rebuilds.anew;
        redone = rebuilds.redone;
        checked = checked;
        whole = whole;
      };
    }

-- by the law of the log's changes: no change's bytes begin those of another
module _ (one : (a b : LoggedChange) (x y : List ℕ) → IsChange a → IsChange b → bytes_of a ++ x ≡ bytes_of b ++ y → (a ≡ b) × (x ≡ y)) where
  -- an image opens by its own frames and changes alone
  pub opened_once : (layout : DiskLayout) (log : Log) (marks : List Bool) (waiting : List LoggedChange) (pages others : PageMap) (image : List ℕ) → log.room ≡ area_size layout
      → (safe : IsSafe layout log marks waiting pages image) → (opens : Opens layout image others) → (opens.frames ≡ safe.frames) × (opens.changes ≡ safe.done)
  opened_once layout log marks waiting pages others image area safe opens =
      let frames : opens.frames ≡ safe.frames =
      (one_way (chosen_area (area_size layout) image)).frames opens.frames safe.frames opens.opened (subst (λ (room : ℕ). HoldsFrames (chosen_area room image) safe.frames) area safe.stands.holds) in
      (frames, logged_once one safe.frames opens.changes safe.done (subst (λ (fs : List LogFrame). AreLogged fs opens.changes) frames opens.decoded) safe.decoded)

  -- and it opens like another one on which the log stands with the same frames
  pub opens_kept : (layout : DiskLayout) (log : Log) (marks : List Bool) (waiting : List LoggedChange) (pages : PageMap) (d c : List ℕ) → log.room ≡ area_size layout
      → (safe : IsSafe layout log marks waiting pages d) → Stands log safe.frames c → (HasControl layout (take 8192 d) → HasControl layout (take 8192 c)) → SamePages layout d c → (others : PageMap) → OpensAs layout d others → OpensAs layout c others
  opens_kept layout log marks waiting pages d c area safe stands control same others opens =
      let frames = (opened_once layout log marks waiting pages others d area safe opens.opens).0 in
      record {
        control = control opens.control;
        opens = opens_alike layout d c others opens.opens
            (subst (λ (fs : List LogFrame). HoldsFrames (chosen_area (area_size layout) c) fs) (sym frames) (subst (λ (room : ℕ). HoldsFrames (chosen_area room c) safe.frames) area stands.holds)) same;
      }

-- The control page

control_tail : DiskLayout → List ℕ
control_tail layout = drop 2 (control_bytes layout 1 0)

control_is : (layout : DiskLayout) (area : ℕ) → control_bytes layout 1 area ≡ 1 ∷ area ∷ control_tail layout
unfolding control_tail control_bytes written_bytes
control_is layout area = refl

same_control : (n : ℕ) (tail d c : List ℕ) (area : ℕ) → length c ≡ length d → take 1 c ≡ take 1 d → take n (drop 2 c) ≡ take n (drop 2 d) → take (suc (suc n)) d ≡ 1 ∷ area ∷ tail
    → take (suc (suc n)) c ≡ 1 ∷ get_or (take (suc (suc n)) c) 1 0 ∷ tail
same_control n tail [] c area long gate rest is = absurd cc
same_control n tail (x ∷ []) c area long gate rest is = absurd cc
same_control n tail (x ∷ y ∷ d) [] area long gate rest is = absurd cc
same_control n tail (x ∷ y ∷ d) (z ∷ []) area long gate rest is = absurd (omega (arith, long))
same_control n tail (x ∷ y ∷ d) (z ∷ w ∷ c) area long gate rest is =
    let first : z ≡ 1 = ap (λ (l : List ℕ). get_or l 0 0) gate ∙ ap (λ (l : List ℕ). get_or l 0 0) is in
    let behind : take n c ≡ tail = rest ∙ ap (drop 2) is in
    λ i. first i ∷ w ∷ behind i

-- with another area byte it is one still
pub control_beside : (layout : DiskLayout) (room : ℕ) (d c : List ℕ) → SameBeside room d c → HasControl layout (take 8192 d) → HasControl layout (take 8192 c)
control_beside layout room d c beside control = record {
  names = control.names;
  limits = control.limits;
  bytes = same_control 8190 (control_tail layout) d c (get_or (take 8192 d) 1 0) beside.length beside.gate beside.control (control.bytes ∙ control_is layout (get_or (take 8192 d) 1 0))
      ∙ sym (control_is layout (get_or (take 8192 c) 1 0));
}

-- An append

area_low : (log : Log) → 8192 ≤ area_start log.room log.byte
unfolding area_start
area_low log = let behind : ℕ = log.room * (log.byte % 2) in omega arith

-- in front of a log's gate nothing of the control page is torn
front_of_gate : (log : Log) (n : ℕ) (d c : List ℕ) → Torn (gate_of log) n d c → take 8192 c ≡ take 8192 d
front_of_gate log n d c torn = same_front (gate_of log) 8192 d c (omega (arith, area_low log)) torn.before

module _ (layout : DiskLayout) (fill : PagesFillDisk layout) (log : Log) (marks : List Bool) (waiting : List LoggedChange) (pages : PageMap) (frame : LogFrame)
    (area : log.room ≡ area_size layout) (decoded : AreChangesOf frame.changes waiting) (counted : frame.count ≡ length waiting) where
  beside_pages : (d c : List ℕ) → SameBeside log.room d c → SamePages layout d c
  beside_pages d c beside = same_pages layout fill d c (subst (λ (room : ℕ). drop (areas_end room) c ≡ drop (areas_end room) d) area beside.pages)

  grown_safe : (d c : List ℕ) → take 8192 c ≡ take 8192 d → SameBeside log.room d c → (safe : IsSafe layout log marks waiting pages d) → Stands (grown log frame) (safe.frames ++ frame ∷ []) c
      → IsSafe layout (grown log frame) marks [] pages c
  grown_safe d c control beside safe stands = record {
    frames = safe.frames ++ frame ∷ [];
    done = safe.done ++ waiting;
    control = subst (HasControl layout) (sym control) safe.control;
    stands = stands;
    decoded = logged_push safe.frames safe.done frame waiting safe.decoded decoded counted;
    rebuilds = subst (λ (l : List LoggedChange). Rebuilds layout marks l pages c) (sym (append-nil (safe.done ++ waiting))) (rebuilds_same layout marks (safe.done ++ waiting) pages d c (beside_pages d c beside) safe.rebuilds);
  }

  -- once it is done nothing waits
  pub appended_safe : (d c : List ℕ) → Appended log frame d c → IsSafe layout log marks waiting pages d → IsSafe layout (grown log frame) marks [] pages c
  appended_safe d c appended safe = grown_safe d c (front_of_gate log _ d c appended.within) appended.beside safe (appended.stands safe.frames safe.stands)

  -- and at any moment an image opens to the pages, or as it did before
  pub append_reaches : ((a b : LoggedChange) (x y : List ℕ) → IsChange a → IsChange b → bytes_of a ++ x ≡ bytes_of b ++ y → (a ≡ b) × (x ≡ y)) → IsWhole layout pages → ((place : Place) → IsPlace layout place → IsPageIn layout place.relation (page_at pages place))
      → (d c : List ℕ) → KeptOrAppended log frame d c → IsSafe layout log marks waiting pages d → OpensToOr layout pages d c
  append_reaches one whole checked d c kept safe =
      let control = front_of_gate log _ d c kept.within in
      ⊎_elim
      (λ (stands : Stands log safe.frames c). inr (opens_kept one layout log marks waiting pages d c area safe stands (λ (has : HasControl layout (take 8192 d)). subst (HasControl layout) (sym control) has) (beside_pages d c kept.beside)))
      (λ (stands : Stands (grown log frame) (safe.frames ++ frame ∷ []) c). inl (opens_safe layout (grown log frame) marks pages c area whole checked (grown_safe d c control kept.beside safe stands)))
      (kept.stands safe.frames safe.stands)

-- A page that is written to its place

pub stands_front : (log : Log) (frames : List LogFrame) (d c : List ℕ) → take (areas_end log.room) c ≡ take (areas_end log.room) d → Stands log frames d → Stands log frames c
stands_front log frames d c same stands = record {
  side = ap (λ (b : ℕ). b % 2) (same_byte (areas_end log.room) c d 1 (omega arith) same) ∙ stands.side;
  holds = subst (λ (area : List ℕ). HoldsFrames area frames) (sym (area_same log.room c d same)) stands.holds;
  used = stands.used;
}

module _ (layout : DiskLayout) (fill : PagesFillDisk layout) (log : Log) (marks : List Bool) (waiting : List LoggedChange) (pages : PageMap) (area : log.room ≡ area_size layout)
    (forgets : (form : Form) (change : LoggedChange) (changes : List LoggedChange) → IsAnew change → ForgetPage form (change ∷ changes))
    (place : Place) (is : IsPlace layout place) where
  torn_front : (d c : List ℕ) → Torn (page_offset layout place) 8192 d c → take (areas_end log.room) c ≡ take (areas_end log.room) d
  torn_front d c torn = same_front (page_offset layout place) (areas_end log.room) d c (omega (arith, fill.begins place is, area)) torn.before

  rebuilds_torn : (changes : List LoggedChange) (d c : List ℕ) → Torn (page_offset layout place) 8192 d c → is_marked marks layout place ≡ true → Rebuilds layout marks changes pages d → Rebuilds layout marks changes pages c
  unfolding disk_page
  rebuilds_torn changes d c torn marked rebuilds = record {
    places = rebuilds.places;
    anew = rebuilds.anew;
    redone = λ q isq. ⊎_elim
        (λ (e : q ≡ place). redo_any forgets (form_of layout q.relation) (changes_at q changes) (disk_page layout d q) (disk_page layout c q) (page_at pages q)
        (subst (λ (p : Place). 0 < length (changes_at p changes)) (sym e) (rebuilds.marked place is marked)) (rebuilds.anew q) (rebuilds.redone q isq))
        (λ (other : q ≢ place). subst (λ (x : List ℕ). Redone (form_of layout q.relation) x (changes_at q changes) (page_at pages q))
        (sym (torn_apart (page_offset layout q) 8192 (page_offset layout place) 8192 d c (fill.disjoint q place isq is other) torn)) (rebuilds.redone q isq))
        (same_place q place);
    marked = rebuilds.marked;
    unmarked = rebuilds.unmarked;
  }

  -- a page that the log begins anew may be torn
  pub torn_safe : (d c : List ℕ) → Torn (page_offset layout place) 8192 d c → is_marked marks layout place ≡ true → IsSafe layout log marks waiting pages d → IsSafe layout log marks waiting pages c
  torn_safe d c torn marked safe = record {
    frames = safe.frames;
    done = safe.done;
    control = subst (HasControl layout) (sym (same_front (areas_end log.room) 8192 d c (omega arith) (torn_front d c torn))) safe.control;
    stands = stands_front log safe.frames d c (torn_front d c torn) safe.stands;
    decoded = safe.decoded;
    rebuilds = rebuilds_torn (safe.done ++ waiting) d c torn marked safe.rebuilds;
  }

  -- and where nothing of it waits, the image opens as it did before
  pub torn_reaches : ((a b : LoggedChange) (x y : List ℕ) → IsChange a → IsChange b → bytes_of a ++ x ≡ bytes_of b ++ y → (a ≡ b) × (x ≡ y))
      → (d c : List ℕ) → Torn (page_offset layout place) 8192 d c → is_marked marks layout place ≡ true → changes_at place waiting ≡ [] → IsSafe layout log marks waiting pages d → OpensToOr layout pages d c
  torn_reaches one d c torn marked none safe = inr (λ others opens.
      let changes = (opened_once one layout log marks waiting pages others d area safe opens.opens).1 in
      let long : length (changes_at place (safe.done ++ waiting)) ≡ length (changes_at place safe.done) =
      ap length (at_append place safe.done waiting ∙ ap (λ (l : List LoggedChange). changes_at place safe.done ++ l) none ∙ append-nil (changes_at place safe.done)) in
      let touched : 0 < length (changes_at place opens.opens.changes) =
      subst (λ (l : List LoggedChange). 0 < length (changes_at place l)) (sym changes) (omega (arith, long, safe.rebuilds.marked place is marked)) in
      record {
        control = subst (HasControl layout) (sym (same_front (areas_end log.room) 8192 d c (omega arith) (torn_front d c torn))) opens.control;
        opens = opens_torn forgets layout fill place d c others is torn opens.opens touched;
      })

-- A switch

module _ (layout : DiskLayout) (fill : PagesFillDisk layout) (log : Log) (marks cleared : List Bool) (pages : PageMap) (area : log.room ≡ area_size layout)
    (none : (place : Place) → IsPlace layout place → is_marked cleared layout place ≡ false) where
  switched_stands : (d c : List ℕ) → SameBeside log.room d c → HasControl layout (take 8192 d) → ((place : Place) → IsPlace layout place → page_at pages place ≡ disk_page layout d place) → Stands (switched log) [] c
      → IsSafe layout (switched log) cleared [] pages c
  switched_stands d c beside control here stands = record {
    frames = [];
    done = [];
    control = control_beside layout log.room d c beside control;
    stands = stands;
    decoded = refl;
    rebuilds = record {
      places = tt;
      anew = λ place. tt;
      redone = λ place is. here place is ∙ sym (same_pages layout fill d c (subst (λ (room : ℕ). drop (areas_end room) c ≡ drop (areas_end room) d) area beside.pages) place is);
      marked = λ place is yes. absurd (false≢true (sym (none place is) ∙ yes));
      unmarked = λ place is no. refl;
    };
  }

  pub switched_safe : (d c : List ℕ) → Switched log d c → ((place : Place) → IsPlace layout place → page_at pages place ≡ disk_page layout d place) → IsSafe layout log marks [] pages d → IsSafe layout (switched log) cleared [] pages c
  switched_safe d c chosen here safe = switched_stands d c chosen.beside safe.control here chosen.stands

  pub switch_reaches : ((a b : LoggedChange) (x y : List ℕ) → IsChange a → IsChange b → bytes_of a ++ x ≡ bytes_of b ++ y → (a ≡ b) × (x ≡ y)) → IsWhole layout pages → ((place : Place) → IsPlace layout place → IsPageIn layout place.relation (page_at pages place))
      → (d c : List ℕ) → KeptOrSwitched log d c → ((place : Place) → IsPlace layout place → page_at pages place ≡ disk_page layout d place) → IsSafe layout log marks [] pages d → OpensToOr layout pages d c
  switch_reaches one whole checked d c kept here safe = ⊎_elim
      (λ (stands : Stands log safe.frames c). inr (opens_kept one layout log marks [] pages d c area safe stands (control_beside layout log.room d c kept.beside)
      (same_pages layout fill d c (subst (λ (room : ℕ). drop (areas_end room) c ≡ drop (areas_end room) d) area kept.beside.pages))))
      (λ (stands : Stands (switched log) [] c). inl (opens_safe layout (switched log) cleared pages c area whole checked (switched_stands d c kept.beside safe.control here stands)))
      (kept.stands safe.frames safe.stands)
