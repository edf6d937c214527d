-- What is printed of what a query found.
use Rattle.std.specs.Prelude.{ℕ, List, [], flat_map}
use Rattle.span_lines.specs.SpanLines.{some_lines}
use Rattle.session_reads.specs.declared.found.Found.{Found}
use Rattle.session_reads.specs.declared.found.Found.TheVariants.{Nothing, Spans, Changes}

-- spans, a line each, or texts of changes, one behind the other
abbrev pub found_text : Found → List ℕ
found_text Nothing = []
found_text (Spans some) = some_lines some.further some.first some.most some.version.now
found_text (Changes texts) = flat_map (λ text. text) texts.items
