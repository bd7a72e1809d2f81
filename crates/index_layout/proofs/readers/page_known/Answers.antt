use Rattle.std.proofs.Common.{refl}
use Rattle.index_layout.proofs.Reading.{length-page, regular_of, slots_there}
use Rattle.index_layout.proofs.readers.page_known.Goals as goal

pub returns : goal.returns
returns c =
    let page = c.args.page.now in
    record {
      whole = length-page page 8192 refl c.requires;
      regular = λ is. regular_of page 8192 refl c.requires is;
      has = λ some. (regular_of page 8192 refl c.requires (slots_there page some)).has;
    }
