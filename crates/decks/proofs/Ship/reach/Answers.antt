-- `reach` meets its contract.
use native.Mathlib.Omega.{arith}
use borrow.Author.Rules.{rules}
use Rattle.ship.proofs.Facts.{header_there}
use Rattle.decks.proofs.Readers.{readers}
use Rattle.decks.proofs.Ship.reach.Goals as goal

pub f32_at-requires : goal.f32_at-requires
f32_at-requires c = (omega (arith, header_there _ c.self.invariant), search (c.self.invariant, readers, rules))

pub returns : goal.returns
returns c = rw (← c.self.view_is) (search (readers, rules))
