use Rattle.std.proofs.Common.{◌+◌, ◌%◌, List, ℕ, get_or, refl, ap, ◌∙◌}
use Rattle.page_layout.specs.PageWrites.{put_status}
use Rattle.page_layout.proofs.Writes.{status_page_write}
use Rattle.page_layout.proofs.writers.set_status.Goals as goal

pub returns : goal.returns
returns c = record {
  set = λ entries is. status_page_write c.args.page.now c.write.new.self entries c.args.entry c.args.status c.put_status.result c.from-at.result (c.args.entry % 4) c.requires.entry c.requires.status c.from-at.ensures refl is (c.put_status.ensures ∙ ap (λ (l : List ℕ). put_status (get_or l (32 + c.from-at.result) 0) (c.args.entry % 4) c.args.status) c.as_bytes.ensures.bytes) c.write.ensures.written;
}
