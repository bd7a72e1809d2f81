-- What a step enters, and of which session that is.
use Rattle.std.proofs.Common.{◌≡◌, ◌≢◌, ◌⊎◌, inl, inr, ℕ, Bool, true, false, List, [], ◌∷◌, ◌++◌, Option, None, Some, refl, sym, ap, ◌∙◌, subst, append_assoc}
use Rattle.std.specs.Option.{option_map}
use Rattle.std.proofs.lemmas.Bool.{false≢true}
use Rattle.std.proofs.lemmas.List.{append-nil}
use Rattle.std.proofs.lemmas.List.Elements.{All-append, All-nil, All-cons}
use Rattle.block_model.specs.declared.reply.Point.{Point}
use Rattle.block_model.specs.declared.reply.Point.TheVariants as points
use Rattle.block_model.specs.declared.request.Entry.{Entry}
use Rattle.block_model.specs.declared.request.Request.TheVariants as requests
use Rattle.block_model.specs.declared.request.Tag.{Tag}
use Rattle.block_model.specs.declared.request.Tag.TheVariants as tags
use Rattle.block_model.specs.declared.row.Row.{Row}
use Rattle.block_model.specs.DatabaseState.{DatabaseState}
use Rattle.block_model.specs.RequestEffect.{Answer}
use Rattle.block_model.specs.RequestEffect as effects
use Rattle.store_layout.specs.declared.statement.Statement.{Statement}
use Rattle.store_layout.specs.declared.statement.Statement.TheVariants as statements
use Rattle.store_layout.specs.StatementRequests.{mark_entry, tagged_entry}
use Rattle.script_semantics.specs.Place.{Hand, Place}
use Rattle.script_semantics.specs.Requests.{Course, next_request, row_to_mark, refused_request, MakesOne, Enters, MakesAll, NoneLeft, OneMore, MakesMark, First, Further}
use Rattle.script_semantics.specs.StatementSteps.{Outcome, Moved, course_of, MakesAt, StepsTo, GoesOn, Replies, MeetsConflict, IsRefused, AtOnce, NothingAsked, LacksMemoryAtOnce, NoNumber, IsWaiting}
use Rattle.script_semantics.specs.Laws.{AreOf, EntersItsOwn, StepsEnterInPlace}

-- the names of steps that enter

abbrev is_row : Point → Bool
is_row points.Row = true
is_row point = false

abbrev is_mark : Point → Bool
is_mark points.Mark = true
is_mark point = false

in_place_at : (point : Point) (p : Place) (n : ℕ) (hand : Hand) (c : Course) (q : Place) → MakesAt point p n hand c → q.journal ≡ c.journal
    → ((point ≡ points.Row) × ((c : Course) × MakesOne p.opening n hand.statement (course_of p hand) c × (q.journal ≡ c.journal)))
    ⊎ ((point ≡ points.Mark) × ((c : Course) × MakesMark p.opening n hand.statement (course_of p hand) c × (q.journal ≡ c.journal)))
    ⊎ ((point ≢ points.Row) × (point ≢ points.Mark) × (q.journal ≡ p.journal))
in_place_at points.Row p n hand c q made same = inl (refl, (c, made, same))
in_place_at points.Mark p n hand c q made same = inr (inl (refl, (c, made.0, same)))
in_place_at point p n hand c q made same =
    inr (inr ((λ is. false≢true (ap is_row is)), (λ is. false≢true (ap is_mark is)), same ∙ ap (λ (d : Course). d.journal) made))

in_place_behind : (p : Place) (n : ℕ) (hand : Hand) (point : Point) (q : Place) → StepsTo p n hand (Moved point) q
    → ((point ≡ points.Row) × ((c : Course) × MakesOne p.opening n hand.statement (course_of p hand) c × (q.journal ≡ c.journal)))
    ⊎ ((point ≡ points.Mark) × ((c : Course) × MakesMark p.opening n hand.statement (course_of p hand) c × (q.journal ≡ c.journal)))
    ⊎ ((point ≢ points.Row) × (point ≢ points.Mark) × (q.journal ≡ p.journal))
in_place_behind p n hand _ _ (GoesOn point c q turn named on made leads) = in_place_at point p n hand c q made leads.journal

pub enters_in_place : StepsEnterInPlace
enters_in_place p q n hand point step = in_place_behind p n hand point q step

-- the session of a request

abbrev IsOf : ℕ → Option Entry → Type 0
IsOf n None = Unit {0}
IsOf n (Some e) = e.session ≡ n

mark_is_own : (n table : ℕ) (row : Option Row) → IsOf n (option_map (mark_entry n table) row)
mark_is_own n table None = tt
mark_is_own n table (Some row) = refl

next_is_own : (n : ℕ) (statement : Statement) (answers : List Answer) → IsOf n (next_request n statement answers)
next_is_own n statements.Begin [] = refl
next_is_own n statements.Commit [] = refl
next_is_own n statements.Rollback [] = refl
next_is_own n (statements.Insert table values) [] = refl
next_is_own n (statements.Select q) [] = refl
next_is_own n (statements.Delete q) [] = refl
next_is_own n (statements.Delete q) (effects.Found rows ∷ marks) = mark_is_own n q.table (row_to_mark rows marks)
next_is_own n statement answers = tt

no_request : (n : ℕ) → AreOf n []
no_request n = All-nil (λ (e : Entry). e.session ≡ n)

one_request : (n : ℕ) (e : Entry) → e.session ≡ n → AreOf n (e ∷ [])
one_request n e own = All-cons (λ (e : Entry). e.session ≡ n) e [] own (no_request n)

refused_is_own : (n : ℕ) (tag : Tag) (statement : Statement) → AreOf n (refused_request n tag statement)
refused_is_own n tag (statements.Insert table values) = one_request n (tagged_entry n table (requests.Put values) tag) refl
refused_is_own n tag (statements.Select q) = one_request n (tagged_entry n q.table (requests.Look q) tag) refl
refused_is_own n tag (statements.Delete q) = one_request n (tagged_entry n q.table (requests.Look q) tag) refl
refused_is_own n tag statement = no_request n

-- a course goes on by requests of its session
record GoesBy (n : ℕ) (c f : Course) : Type 0 where
  entries : List Entry
  behind : f.journal ≡ c.journal ++ entries
  own : AreOf n entries

by_none : (n : ℕ) (c : Course) → GoesBy n c c
by_none n c = record { entries = []; behind = sym (append-nil c.journal); own = no_request n }

by_both : (n : ℕ) (c d f : Course) → GoesBy n c d → GoesBy n d f → GoesBy n c f
by_both n c d f one two = record {
  entries = one.entries ++ two.entries;
  behind = two.behind ∙ ap (λ l. l ++ two.entries) one.behind ∙ append_assoc c.journal one.entries two.entries;
  own = All-append (λ (e : Entry). e.session ≡ n) one.entries two.entries one.own two.own;
}

by_one : (opening : DatabaseState) (n : ℕ) (statement : Statement) (c d : Course) → MakesOne opening n statement c d → GoesBy n c d
by_one opening n statement c _ (Enters e next) = record {
  entries = e ∷ [];
  behind = refl;
  own = one_request n e (subst (IsOf n) next (next_is_own n statement c.answers));
}

by_all : (opening : DatabaseState) (n : ℕ) (statement : Statement) (c d : Course) → MakesAll opening n statement c d → GoesBy n c d
by_all opening n statement _ _ (NoneLeft c none) = by_none n c
by_all opening n statement _ _ (OneMore c d f one more) = by_both n c d f (by_one opening n statement c d one) (by_all opening n statement d f more)

by_mark : (opening : DatabaseState) (n : ℕ) (statement : Statement) (c d : Course) → MakesMark opening n statement c d → GoesBy n c d
by_mark opening n statement c _ (First d f none one two) = by_both n c d f (by_one opening n statement c d one) (by_one opening n statement d f two)
by_mark opening n statement c _ (Further first more d some one) = by_one opening n statement c d one

by_point : (point : Point) (p : Place) (n : ℕ) (hand : Hand) (c : Course) → MakesAt point p n hand c → GoesBy n (course_of p hand) c
by_point points.Row p n hand c made = by_one p.opening n hand.statement (course_of p hand) c made
by_point points.Mark p n hand c made = by_mark p.opening n hand.statement (course_of p hand) c made.0
by_point point p n hand c same = subst (GoesBy n (course_of p hand)) (sym same) (by_none n (course_of p hand))

own_of : (p : Place) (n : ℕ) (hand : Hand) (q : Place) (c : Course) → GoesBy n (course_of p hand) c → q.journal ≡ c.journal
    → ((m : ℕ) → (m ≡ n) ⊎ (q.hands m ≡ p.hands m)) → EntersItsOwn p n q
own_of p n hand q c goes same others = record { entries = goes.entries; behind = same ∙ goes.behind; own = goes.own; others = others }

none_of : (p : Place) (n : ℕ) (q : Place) → q.journal ≡ p.journal → ((m : ℕ) → (m ≡ n) ⊎ (q.hands m ≡ p.hands m)) → EntersItsOwn p n q
none_of p n q same others = record { entries = []; behind = same ∙ sym (append-nil p.journal); own = no_request n; others = others }

own_behind : (p : Place) (n : ℕ) (hand : Hand) (outcome : Outcome) (q : Place) → StepsTo p n hand outcome q → EntersItsOwn p n q
own_behind p n hand _ _ (GoesOn point c q turn named on made leads) = own_of p n hand q c (by_point point p n hand c made) leads.journal leads.others
own_behind p n hand _ _ (Replies point c reply q turn named rests all replied leads) = own_of p n hand q c (by_all p.opening n hand.statement _ c all) leads.journal leads.others
own_behind p n hand _ _ (MeetsConflict id c q turn named all replied leads) = own_of p n hand q c (by_all p.opening n hand.statement _ c all) leads.journal leads.others
own_behind p n hand _ _ (IsRefused why tag told q turn named so leads) =
    record { entries = refused_request n tag hand.statement; behind = leads.journal; own = refused_is_own n tag hand.statement; others = leads.others }
own_behind p n hand _ _ (AtOnce c reply q once all replied stay leads) = own_of p n hand q c (by_all p.opening n hand.statement _ c all) leads.journal leads.others
own_behind p n hand _ _ (NothingAsked q work rest empty stay leads) = none_of p n q leads.journal leads.others
own_behind p n hand _ _ (LacksMemoryAtOnce q looking rest stay leads) =
    record { entries = refused_request n tags.NoMemory hand.statement; behind = leads.journal; own = refused_is_own n tags.NoMemory hand.statement; others = leads.others }
own_behind p n hand _ _ (NoNumber q begin next stay leads) = none_of p n q leads.journal leads.others
own_behind p n hand _ _ (IsWaiting table told on own blocked waits) = none_of p n p refl (λ m. inr refl)

pub enters_its_own : (p q : Place) (n : ℕ) (hand : Hand) (outcome : Outcome) → StepsTo p n hand outcome q → EntersItsOwn p n q
enters_its_own p q n hand outcome step = own_behind p n hand outcome q step
