use Rattle.listing.proofs.Printing.{never_short}
use Rattle.seatlist.proofs.Texts.{text_inside, text_written}
use Rattle.seatlist.proofs.put_text.Goals as goal

pub unwrap-requires : goal.unwrap-requires
unwrap-requires c = never_short _ c.seatlist_text.ensures c.requires

pub returns : goal.returns
returns c = record {
  within = text_inside _ c.seatlist_text.ensures c.unwrap.ensures;
  prefix = text_written _ c.seatlist_text.ensures c.unwrap.ensures;
}
