-- `placed_record` meets its contract.
use borrow.Author.Rules.{rules}
use Rattle.geometry.proofs.Bounds.{not_nan}
use Rattle.placing.proofs.SeatRecords.{record_made}
use Rattle.placing.proofs.placed_record.Goals as goal

pub float_to_bits-result : goal.float_to_bits-result
float_to_bits-result c = search (not_nan, rules)

pub float_to_bits-result-2 : goal.float_to_bits-result-2
float_to_bits-result-2 c = search (not_nan, rules)

pub returns : goal.returns
returns c = record_made _ _ _ _ _ c.packed.ensures c.height_words-kind.ensures
