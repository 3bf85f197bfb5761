-- `point` meets its contract. It reads in the part of the file that the vertices begin.
use Rattle.decks.proofs.Seen.{x_part, y_part, part_seen}
use Rattle.decks.proofs.Deck.point.Goals as goal

pub f32_at-requires : goal.f32_at-requires
f32_at-requires c = x_part c.self.inside.file.now c.self.inside.blocks c.self.view_is c.requires c.self.invariant

pub f32_at-requires-2 : goal.f32_at-requires-2
f32_at-requires-2 c = y_part c.self.inside.file.now c.self.inside.blocks c.self.view_is c.requires c.self.invariant

pub returns : goal.returns
returns c =
    part_seen c.self.inside.file.now c.self.inside.blocks c.self.view_is c.requires c.f32_at.ensures c.f32_at-2.ensures
