-- The place that is looked for.
use Rattle.std.specs.Prelude.{List, ◌∷◌, Option, Some, None}
use Rattle.inlined_calls.specs.declared.functions.Caller.{Caller}
use Rattle.inlined_calls.specs.Calls.{Place, place_at}
use Rattle.call_inlining.specs.declared.place.Spot.{Spot}

abbrev pub callers_with : Option Caller → List Caller → List Caller
callers_with (Some last) others = last ∷ others
callers_with None others = others

abbrev pub place_of : Spot → Place
place_of spot = place_at spot.function spot.slot (callers_with spot.last spot.callers.now)
