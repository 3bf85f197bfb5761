-- `steps` meets its contract.
use native.Mathlib.Omega.{arith}
use borrow.Author.Rules.{rules}
use Rattle.ship.proofs.Facts.{header_there}
use Rattle.decks.proofs.Readers.{readers}
use Rattle.decks.proofs.Ship.steps.Goals as goal

pub size_at-requires : goal.size_at-requires
size_at-requires c = omega (arith, header_there _ c.self.invariant)

pub returns-clause-is : goal.returns-clause-is
returns-clause-is c = rw (← c.self.view_is) (search (c.self.invariant, readers, rules))
