-- Where in a journal sessions took their views of the tables.
use Rattle.std.specs.Prelude.{◌≡◌, ◌==◌, ◌&&◌, ℕ, Bool, true, false, IsTrue, List, [], ◌∷◌, Some, if◌then◌else◌}
use Rattle.std.specs.List.{list_any}
use Rattle.std.specs.FinMap as map
use Rattle.block_model.specs.declared.request.Entry.{Entry}
use Rattle.block_model.specs.declared.request.Request.{Request}
use Rattle.block_model.specs.declared.request.Request.TheVariants as requests
use Rattle.block_model.specs.DatabaseState.{DatabaseState, OpenTransaction}

-- by such a request a session takes a view: by a begin alone
abbrev pub takes_a_view : Request → Bool
takes_a_view requests.Begin = true
takes_a_view request = false

-- by this one session n does
abbrev pub takes_view : ℕ → Entry → Bool
takes_view n e = (e.session == n) && takes_a_view e.request

-- by one of these requests session n took a view
abbrev pub Took : ℕ → List Entry → Type 0
Took n entries = IsTrue (list_any (takes_view n) entries)

-- each session that has a transaction took a view by one of these requests
abbrev pub AllTook : DatabaseState → List Entry → Type 0
AllTook s entries = (n : ℕ) (x : OpenTransaction) → map.get s.sessions n ≡ Some x → Took n entries

-- the front of a journal before the last request by which session n took a view, if it took one
abbrev pub view_front : ℕ → List Entry → List Entry
view_front n [] = []
view_front n (e ∷ entries) = if list_any (takes_view n) entries then e ∷ view_front n entries else []
