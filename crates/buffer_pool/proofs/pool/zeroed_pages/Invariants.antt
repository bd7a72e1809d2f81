use Rattle.std.proofs.Common.{◌≡◌, length}
use Rattle.buffer_pool.proofs.pool.zeroed_pages.Given as goal

abbrev pub invariant-pages : goal.invariant-pages
invariant-pages l = length l.pages.items ≡ l.counter
