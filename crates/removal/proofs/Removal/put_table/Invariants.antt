-- `put_table` meets its contract. The loop's invariant: the pairs before j are put, and the blocks before j lost `lost` bytes.
use Rattle.removal.proofs.Table.{TablePut}
use Rattle.removal.proofs.Removal.put_table.Given as goal

abbrev pub invariant-pairs : goal.invariant-pairs
invariant-pairs l = TablePut l.self.which l.self.ship.now l.initial.out l.out l.lost l.j
