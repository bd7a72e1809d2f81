use Rattle.store_layout.proofs.DiskPlaces.{pages_fill}
use Rattle.store_layout.proofs.layout.pages_fill_the_disk.Goals as goal

pub returns : goal.returns
returns c = pages_fill c.args.layout.now
