-- a store of what an opening hands over
use Rattle.std.proofs.Common.{ℕ, List, [], refl, sym, ◌∙◌, ap, subst, arith}
use Rattle.std.specs.Prelude.{IsTrue, None, Err}
use Rattle.disk_trait.specs.Told.{Told}
use Rattle.page_map.specs.declared.facts.PageFacts.{PageFacts}
use Rattle.page_map.specs.Forms.{IsPageIn, form_of}
use Rattle.page_map.specs.PageFacts.{facts_on}
use Rattle.buffer_pool.specs.PoolState.{held_at}
use Rattle.recovery.specs.Opens.{OpensAs}
use Rattle.wal_record.specs.Waiting.{no_changes}
use Rattle.recovery.specs.PageNumbers.{page_number}
use Rattle.recovery.specs.ShownLaws.{shown_at, shown_whole}
use Rattle.recovery.specs.ShownPages.{shown_pages}
use Rattle.recovery.proofs.SafeLaws.{opens_safe}
use Rattle.recovery.proofs.Pooling.{lent_held}
use Rattle.recovery.specs.Opened.{IsOpened}
use Rattle.recovery.specs.declared.opening.Opened.{Opened}
use Rattle.recovery.specs.StartCauses.{StartCause}
use Rattle.recovery.specs.declared.fault.StartFault.{StartFault}
use Rattle.recovery.specs.declared.fault.StartFault.TheVariants.{NoStore, Damaged, Disk, Memory}
use Rattle.page_map.proofs.FactsKept.{OneList}
use Rattle.page_store.proofs.FactSteps.{slot_of_page}
use Rattle.page_store.specs.Refused.{IsRefused}
use Rattle.page_store.specs.Standing.{IsStanding}
use Rattle.page_store.specs.StoreFacts.{AreFactsOf, IsSlotOf}

pub stands : (o : Opened) (disk : Told) → IsOpened o disk → IsStanding disk o.layout o.log o.pool o.marks.items no_changes None
stands o disk is = record {
  size = is.size;
  area = is.area;
  frames = is.frames;
  marked = is.marked;
  room = λ some. absurd (omega (arith, some));
  held = is.held;
  waits = is.waits;
  checked = λ tells place at. let one = is.judged.pages place at in subst (IsPageIn o.layout place.relation) (one.shown tells) one.passes;
  sound = λ none tells. record { changes = []; bytes = refl; count = refl; pooled = is.pooled tells; safe = is.safe };
}

pub known : OneList → (o : Opened) (disk : Told) → IsOpened o disk → AreFactsOf disk.tells_contents o.layout o.pool (shown_pages o.layout o.pool disk.contents) o.facts.items
known list o disk is = record {
  whole = is.judged.whole;
  held = λ place bytes at got.
      let one = is.judged.pages place at in
      let h = lent_held (held_at o.pool (page_number o.layout place)) bytes (sym got) in
      one.facts_are ∙ ap (facts_on (form_of o.layout place.relation)) (one.held h.0 h.1 ∙ sym h.2);
  known = λ tells place at.
      let one = is.judged.pages place at in
      one.facts_are ∙ ap (facts_on (form_of o.layout place.relation)) (one.shown tells ∙ sym (shown_at o.layout o.pool disk.contents place at));
  slots = λ place at.
      let one = is.judged.pages place at in
      subst (λ (f : PageFacts). IsSlotOf (form_of o.layout place.relation) f.lowest) (sym one.facts_are) (slot_of_page list (form_of o.layout place.relation) one.page one.passes);
}

-- what a crash leaves opens to the pages
pub sure : (o : Opened) (disk : Told) → IsOpened o disk → ((image : List ℕ) → IsTrue (disk.now image) → IsTrue disk.tells_contents) → (image : List ℕ) → IsTrue (disk.now image) → OpensAs o.layout image (shown_pages o.layout o.pool disk.contents)
sure o disk is told image now =
    opens_safe o.layout o.log o.marks.items (shown_pages o.layout o.pool disk.contents) image is.area (shown_whole o.layout o.pool disk.contents)
    (λ place at. let one = is.judged.pages place at in subst (IsPageIn o.layout place.relation) (one.shown (told image now) ∙ sym (shown_at o.layout o.pool disk.contents place at)) one.passes) (is.safe image now)

-- a refusal is one of any answer
pub refused : (T : Type 0) (old new : Told) (fault : StartFault) → StartCause {T = T} old new (Err fault) → IsRefused old new fault
refused T old new NoStore cause = cause
refused T old new (Damaged at) cause = cause
refused T old new Disk cause = cause
refused T old new Memory cause = cause
