use Rattle.std.proofs.Common.{◌≡◌, ℕ, refl, sym, ap, subst, ◌∙◌}
use Rattle.page_map.specs.Keeps.{Keeps, Tells, Untold}
use Rattle.page_map.specs.Outcome.{NamesPage, Outcome, Refused}
use Rattle.page_map.specs.PageMap.{PageMap, View, page_at}
use Rattle.std.specs.Prelude.{Ok, Some, option_copied}
use Rattle.store_layout.specs.DiskLayout.{DiskLayout, IsPlace}
use Rattle.page_map.specs.Forms.{IsPageIn}
use Rattle.recovery.specs.PageNumbers.{page_number}
use Rattle.recovery.specs.ShownPages.{content_at}
use Rattle.page_store.specs.LoggedState.{LoggedState, store_of}
use Rattle.page_store.specs.Survives.{Survives}
use Rattle.page_store.proofs.StoreWords.{held_page, keeps_of, survives_of}
use Rattle.page_store.proofs.store.PageStore.read.Goals as goal

pub returns-in-Err : goal.returns-in-Err
returns-in-Err g c =
    let told = g.D.Disk.told in
    let old = store_of told c.self.inside.pages in
    let new = store_of told c.hold.new.pages in
    let keeps = subst (λ (v : View g.row.D.Denot). Keeps told v new) c.self.view_is (keeps_of told old new c.hold.ensures.kept) in
    let outcome = subst (λ (v : View g.row.D.Denot). Refused told (Untold told v) v new c.in-Err.error) c.self.view_is c.in-Err.ensures.outcome in
    let survives = subst (λ (v : View g.row.D.Denot). Survives told (λ pages. pages ≡ v.pages) v new) c.self.view_is (survives_of told old new c.hold.ensures.kept.leaves) in
    let at = subst (λ (v : View g.row.D.Denot). NamesPage v.layout c.args.place c.in-Err.error) c.self.view_is c.in-Err.ensures.at in
    ((refl, λ _. tt, (keeps, outcome, survives)), record { page = tt; form = tt; at = at; rests = tt })

pub returns : goal.returns
returns g c =
    let told = g.D.Disk.told in
    let old = store_of told c.self.inside.pages in
    let s = c.hold.new.pages in
    let kept = c.hold.ensures.kept in
    let end = c.numbered.follows.lender-at-none in
    let same : s ≡ end = sym c.numbered.follows.holds-at-none in
    let keeps : Keeps told c.args.self.now (store_of told end) =
    subst (λ (x : LoggedState g.row.D.Denot). Keeps told c.args.self.now (store_of told x)) same (subst (λ (v : View g.row.D.Denot). Keeps told v (store_of told s)) c.self.view_is (keeps_of told old (store_of told s) kept)) in
    let outcome =
    subst (λ (x : LoggedState g.row.D.Denot). Outcome told (Untold told c.args.self.now) c.args.self.now (store_of told x) (Ok c.unwrap.result)) same
    (subst (λ (v : View g.row.D.Denot). Outcome told (Untold told v) v (store_of told s) (Ok c.unwrap.result)) c.self.view_is c.in-Ok.ensures.outcome) in
    let survives : Survives told (λ pages. pages ≡ c.args.self.now.pages) c.args.self.now (store_of told end) =
    subst (λ (x : LoggedState g.row.D.Denot). Survives told (λ pages. pages ≡ c.args.self.now.pages) c.args.self.now (store_of told x)) same
    (subst (λ (v : View g.row.D.Denot). Survives told (λ pages. pages ≡ v.pages) v (store_of told s)) c.self.view_is (survives_of told old (store_of told s) kept.leaves)) in
    let place : IsPlace c.self.inside.pages.layout c.args.place = subst (λ (v : View g.row.D.Denot). IsPlace v.layout c.args.place) (sym c.self.view_is) c.requires.place in
    let is : IsPlace s.layout c.args.place = subst (λ (l : DiskLayout). IsPlace l c.args.place) (sym kept.leaves.layout) place in
    let number = c.number_of-number.ensures.number ∙ ap (λ (l : DiskLayout). page_number l c.args.place) (sym kept.leaves.layout) in
    let there : content_at s.pool (page_number s.layout c.args.place) ≡ Some c.unwrap.result.now = ap (λ (n : ℕ). content_at s.pool n) (sym number) ∙ sym c.numbered.ensures.page ∙ ap option_copied c.unwrap.ensures in
    let page = subst (λ (v : View g.row.D.Denot). Tells told v → c.unwrap.result.now ≡ page_at v.pages c.args.place) c.self.view_is
    (λ tells. sym (held_page told s c.args.place is c.unwrap.result.now there) ∙ ap (λ (m : PageMap). page_at m c.args.place) (kept.pages tells)) in
    let form = subst (λ (v : View g.row.D.Denot). IsPageIn v.layout c.args.place.relation c.unwrap.result.now) c.self.view_is
    (subst (λ (l : DiskLayout). IsPageIn l c.args.place.relation c.unwrap.result.now) kept.leaves.layout (c.known.ensures.passes c.args.place c.unwrap.result.now is there)) in
    ((refl, λ _. tt, (keeps, outcome, survives)), record { page = page; form = form; at = tt; rests = tt })
