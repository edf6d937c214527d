-- What a token knows of the version before its own.
use Rattle.boxcar.specs.Table.{Shelves, Where, Shows}
use Rattle.span_flatten.specs.Version.{Version, spans_of}
use Rattle.version_pieces.specs.Alike.{AreAlike}
use Rattle.version_pieces.specs.declared.alike.Alike.{Alike}

-- that version is in the list, and so many of its spans stand as they stood
pub record KnowsBefore (versions : Shelves) (before : Where Version) (alike : Alike) (now : Version) : Type 0 where
  pub shown : Shows versions before
  pub stands : AreAlike (spans_of before.value) (spans_of now) alike.front alike.behind
