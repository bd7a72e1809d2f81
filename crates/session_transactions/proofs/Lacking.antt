-- A mark for which the journal lacks room, or has it.
use Rattle.std.proofs.Common.{◌≡◌, inl, inr, ℕ, ◌+◌, ◌<◌, ◌≤◌, List, [], ◌∷◌, ◌++◌, length, length-append, Option, None, Some, ap, arith}
use Rattle.std.specs.List.{slice_get}
use Rattle.std.proofs.lemmas.Option.{slice_get_cases}
use Rattle.block_model.specs.declared.request.Entry.{Entry}
use Rattle.block_model.specs.declared.row.Query.{Query}
use Rattle.disk_trait.specs.Told.{Told}
use Rattle.snapshot_core.specs.StoredVersions.{transaction_of}
use Rattle.store_layout.specs.declared.limits.TheConstants.{MAX_ENTRIES}
use Rattle.transactions.specs.Laws.{CopyStands, SessionsAreShown}
use Rattle.script_semantics.specs.Place.{Place}
use Rattle.script_semantics.specs.StatementSteps.{LacksRoom}
use Rattle.session_parts.specs.declared.hand.Hand.{Hand}
use Rattle.session_parts.specs.declared.hand.Hand.TheVariants as hands
use Rattle.session_parts.specs.declared.hand.Hit.{Hit}
use Rattle.session_parts.specs.declared.hand.Marking.{Marking}
use Rattle.session_parts.specs.declared.parts.Parts.{Parts}
use Rattle.session_parts.specs.Shares.{look_share}
use Rattle.session_parts.specs.ShowsPlace.{ShowsPlace}
use Rattle.session_parts.specs.Stepping.{IsFit}
use Rattle.session_parts.specs.StoreStates.{hand_in, shown_of, store_of}
use Rattle.session_parts.proofs.Undone.{fit_of_parts}
use Rattle.session_transactions.specs.Looks.{look_entries}
use Rattle.session_transactions.proofs.Definition.{lacks_room}
use Rattle.session_transactions.proofs.Entries.{entries_of}
use Rattle.session_transactions.proofs.Standing.{MarksAt, count_entries, is_first, marks_at, under_way}

-- below its length a list has an element
some_at : (hits : List Hit) (k : ℕ) → k < length hits → (hit : Hit) × (slice_get hits k ≡ Some hit)
some_at hits k below = elim ((slice_get_cases hits k).1) [
  | inl there ↦ (there.0, there.2)
  | inr past ↦ absurd (let behind : length hits ≤ k = past.0 in omega (arith, below, behind))
]

pub more_entries : (look : Option Query) (n : ℕ) (old looked j : List Entry) (e : Entry) → length old + (look_share look + 1) ≤ MAX_ENTRIES → j ≡ looked ++ e ∷ [] → looked ≡ old ++ look_entries n look → length j ≤ MAX_ENTRIES
more_entries None n old looked j e room is was = omega (arith, room, ap length is, length-append looked (e ∷ []), ap length was, length-append old [])
more_entries (Some look) n old looked j e room is was = omega (arith, room, ap length is, length-append looked (e ∷ []), ap length was, length-append old (look_entries n (Some look)))

pub lacks : {D : Type 0} (told : D → Told) (sessions : SessionsAreShown) (copies : CopyStands) (parts : Parts D) (n : ℕ) (marking : Marking) → IsFit told parts n (hands.Marks marking)
    → MAX_ENTRIES < length parts.journal.entries + (look_share marking.look + 1) → (names : List (List ℕ)) (hands_ : List (Option Hand)) (p : Place) → hand_in hands_ n ≡ Some (hands.Marks marking)
    → ShowsPlace (store_of parts names hands_) p → LacksRoom p n
lacks told sessions copies parts n marking fits full names hands_ p is shown =
    let was = fit_of_parts told parts n (hands.Marks marking) fits in
    let own = under_way (transaction_of parts.transactions.opens n) was.in_hand.0 in
    let hit = some_at marking.hits.items marking.next was.in_hand.1.left in
    let at : MarksAt (shown_of (store_of parts names hands_)) p n marking hit.0 own.0 shown = marks_at sessions copies (shown_of (store_of parts names hands_)) p n marking hit.0 is was.in_hand.1 own.0 own.1 own.2 hit.1 shown in
    lacks_room p n marking.query at.answers (is_first marking.look) marking.next at.stands
    (omega (arith, full, ap length shown.journal, length-append p.journal (entries_of (is_first marking.look) n marking.query at.stands.row), count_entries marking.look n marking.query at.stands.row))
