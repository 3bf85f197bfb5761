-- `row_of_deck` meets its contract.
use native.Mathlib.Omega.{arith}
use Rattle.ship.proofs.Inside.{table_there}
use Rattle.ship.proofs.Header.row_of_deck.Goals as goal

pub overflow_mul-at : goal.overflow_mul-at
overflow_mul-at c = omega (arith, table_there)

pub overflow_add-at : goal.overflow_add-at
overflow_add-at c = omega (arith, table_there)

pub extent_at-requires : goal.extent_at-requires
extent_at-requires c = omega (arith, table_there)

pub extent_at-requires-2 : goal.extent_at-requires-2
extent_at-requires-2 c = omega (arith, table_there)

pub extent_at-requires-3 : goal.extent_at-requires-3
extent_at-requires-3 c = omega (arith, table_there)

pub extent_at-requires-4 : goal.extent_at-requires-4
extent_at-requires-4 c = omega (arith, table_there)

pub extent_at-requires-5 : goal.extent_at-requires-5
extent_at-requires-5 c = omega (arith, table_there)
