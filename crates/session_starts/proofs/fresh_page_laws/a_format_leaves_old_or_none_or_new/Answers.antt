use Rattle.session_starts.proofs.FreshOpens.{old_or_fresh}
use Rattle.session_starts.proofs.fresh_page_laws.a_format_leaves_old_or_none_or_new.Goals as goal

pub returns : goal.returns
returns c = λ old image is.
    old_or_fresh c.args.layout.now c.a_closed_gate_is_no_store.ensures c.a_new_store_opens_to_fresh_pages.ensures.opens old image is
