use Rattle.std.proofs.Common.{ℕ, refl, subst}
use Rattle.index_layout.specs.IndexPages.{IsMeta}
use Rattle.index_layout.proofs.SlotsRead.{one_list}
use Rattle.index_layout.proofs.Reading.{one_map, one_number, regular_front, regular_of}
use Rattle.index_layout.proofs.PageWrites.{map_of, meta_of}
use Rattle.index_layout.proofs.laws.an_index_page_has_one_list.Goals as goal

pub returns : goal.returns
returns c = record {
  slots = one_list;
  entries = one_map;
  pages = one_number;
  kind = regular_front;
  regular = λ page. regular_of page 8192 refl;
  map = λ page. map_of page 8192 refl;
  meta = λ page is three.
      let meta = meta_of page 8192 refl is three in
      subst (λ (n : ℕ). IsMeta n page) (one_number meta.0 page meta.1) meta.1;
}
