-- the entries of a mark
use Rattle.std.specs.Prelude.{ℕ, ◌==◌, List, [], ◌∷◌, length, Option, None, Some, if◌then◌else◌}
use Rattle.std.specs.Global.{Vec}
use Rattle.block_model.specs.declared.request.Entry.{Entry}
use Rattle.block_model.specs.declared.reply.Point.TheVariants as points
use Rattle.block_model.specs.declared.reply.Reply.TheVariants as replies
use Rattle.block_model.specs.declared.row.Query.{Query}
use Rattle.store_layout.specs.StatementRequests.{look_entry}
use Rattle.session_parts.specs.declared.hand.Hand.TheVariants as hands
use Rattle.session_parts.specs.declared.hand.Hit.{Hit}
use Rattle.session_parts.specs.declared.hand.Stepped.{Stepped}
use Rattle.session_parts.specs.declared.hand.Stepped.TheVariants as stepped

-- the look comes before the first mark
abbrev pub look_entries : ℕ → Option Query → List Entry
look_entries n None = []
look_entries n (Some look) = look_entry n look ∷ []

-- what comes of the mark behind which so many rows are marked: the delete goes on where one is left
abbrev pub stepped_behind : Query → Vec Hit → (next : ℕ) → Stepped
stepped_behind query hits next =
    if next == length hits.items then stepped.Done (replies.Deleted next)
    else stepped.Moved points.Mark (hands.Marks (record { query = query; look = None; hits = hits; next = next }))
