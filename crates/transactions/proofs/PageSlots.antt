-- What the bytes of a page say of its slots.
use Rattle.std.proofs.Common.{refl}
use Rattle.page_layout.proofs.SlotsRead.{one_list, unstarted_free}
use Rattle.transactions.proofs.Tables.{AreRead}

pub are_read : AreRead
are_read = record {
  one = λ form page slots has. one_list form page slots has;
  unstarted = λ form page zeros. unstarted_free form page 8192 refl zeros;
}
