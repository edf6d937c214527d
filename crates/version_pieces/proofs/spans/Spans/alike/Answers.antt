use Rattle.std.proofs.Common.{◌≡◌, ◌-◌, List, [], length, sym, ap, ◌∙◌, arith}
use Rattle.std.specs.Option.{option_copied}
use Rattle.version_glyphs.specs.Glyphs.{glyphs}
use Rattle.version_glyphs.specs.declared.replacement.Replacement.{Replacement}
use Rattle.version_pieces.proofs.Standing.{alike_all, alike_windows, none_of, window_of}
use Rattle.version_pieces.proofs.spans.Spans.alike.Goals.{in_default-via-in-Some+in_default, in_default-via-in_default}
use Rattle.version_pieces.proofs.spans.Spans.alike.Goals as goal

pub around-requires-clause-order : goal.around-requires-clause-order
around-requires-clause-order c =
    (window_of c.args.windows.now c.in-Some-Some.first.now c.in-Some-Some.last.now (glyphs c.args.self.now) c.requires (sym c.in-Some-Some.ensures.value) (sym c.in-Some-Some.ensures'.value)).order

pub around-requires-clause-within : goal.around-requires-clause-within
around-requires-clause-within c =
    (window_of c.args.windows.now c.in-Some-Some.first.now c.in-Some-Some.last.now (glyphs c.args.self.now) c.requires (sym c.in-Some-Some.ensures.value) (sym c.in-Some-Some.ensures'.value)).within

pub returns-in-Some-Some : goal.returns-in-Some-Some
returns-in-Some-Some c =
    λ next fresh same.
    alike_windows c.args.self.now next c.args.windows.now c.in-Some-Some.first.now c.in-Some-Some.last.now c.around.result.front c.around.result.behind c.keeps.ensures fresh
    c.requires (sym c.in-Some-Some.ensures.value) (sym c.in-Some-Some.ensures'.value) c.around.ensures same

-- without a first one or a last one there is no window
pub returns-in_default : goal.returns-in_default
returns-in_default c =
    let windows : List Replacement = c.args.windows.now in
    let none : windows ≡ [] =
    elim c.in_default.branch [
      | in_default-via-in-Some+in_default w ↦
          none_of windows (length windows - 1) (λ some. omega (arith, some)) (sym c.last.ensures.value ∙ ap option_copied w.in_default.is-1)
      | in_default-via-in_default w ↦ none_of windows 0 (λ some. some) (sym c.first.ensures.value ∙ ap option_copied w.in_default.is-0)
    ] in
    λ next fresh same. alike_all c.args.self.now next windows c.count.result c.keeps.ensures fresh none c.count.ensures same
