-- What a search asks, and what it sees.
use Rattle.survey.specs.View.{View}
use Rattle.walking.specs.declared.Search.{Search}
use Rattle.walking.specs.Sees.{seen_by}

abbrev pub seen : Search → View
seen search = seen_by search.ship.now search.blocked.now search.seat
