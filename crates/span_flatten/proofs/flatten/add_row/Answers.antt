use Rattle.std.proofs.Common.{rules, ◌≡◌, ◌<◌, ◌+◌, length, sym, ap, ◌∙◌, subst, arith, get_or, ◌-◌, ◌++◌, List, true≢false}
use Rattle.mark_anchors.specs.Formatting.{Format}
use Rattle.mark_anchors.specs.Resolution.{ResolvedMarks}
use Rattle.mark_anchors.specs.Ranges.{IsFormatAt}
use Rattle.span_flatten.specs.declared.version.Row.{Row}
use Rattle.span_flatten.specs.Version.{IsDraft}
use Rattle.span_flatten.proofs.Drafting.{draft_longer, draft_fresh, last_read, last_set, last_push}
use Rattle.span_flatten.proofs.flatten.add_row.Goals as goal
use Rattle.span_flatten.proofs.flatten.add_row.Goals.{then-count-gt0+else-alike, else-count-gt0}

pub returns-then-alike-clause-draft : goal.returns-then-alike-clause-draft
returns-then-alike-clause-draft c =
    let rows : List Row = c.args.rows.now.items in
    let kept : Row = c.index_mut.result.now in
    let told = c.lengthen.ensures in
    let counted : c.len-count.result ≡ length rows = search rules in
    let was = last_read (IsFormatAt c.args.sweep.now.resolution.elements c.args.sweep.now.resolution.marks c.args.sweep.now.place) rows c.len-count.result kept counted c.if-count-gt0.true c.index_mut.ensures.value c.requires.formatted in (
      kept.format,
      (c.advance-alike.ensures.alike kept.format was).0 c.if-alike.true,
      λ shown more piece text text' is format grown started ended characters draft.
          draft_longer shown draft.spans text text' rows c.len-count.result kept kept c.lengthen.new.row more piece draft.cut draft.layout draft.texts
          counted c.if-count-gt0.true c.index_mut.ensures.value c.index_mut.ensures.value is (sym format) grown
          (ap (λ (r : Row). r.start) told) (ap (λ (r : Row). r.end) told ∙ ended)
          (ap (λ (r : Row). r.characters) told ∙ ap (λ n. kept.characters + n) characters)
          (ap (λ (r : Row). r.format) told),
    )

pub returns-then-alike-clause-formatted : goal.returns-then-alike-clause-formatted
returns-then-alike-clause-formatted c =
    let rows : List Row = c.args.rows.now.items in
    let kept : Row = c.index_mut.result.now in
    let counted : c.len-count.result ≡ length rows = search rules in
    let was = last_read (IsFormatAt c.args.sweep.now.resolution.elements c.args.sweep.now.resolution.marks c.args.sweep.now.place) rows c.len-count.result kept counted c.if-count-gt0.true c.index_mut.ensures.value c.requires.formatted in
    last_set (IsFormatAt c.args.sweep.now.resolution.elements c.args.sweep.now.resolution.marks c.args.from) rows c.len-count.result c.lengthen.new.row counted c.if-count-gt0.true
    (subst (IsFormatAt c.args.sweep.now.resolution.elements c.args.sweep.now.resolution.marks c.args.from) (sym (ap (λ (r : Row). r.format) c.lengthen.ensures)) ((c.advance-alike.ensures.alike kept.format was).0 c.if-alike.true))

pub returns-clause-draft : goal.returns-clause-draft
returns-clause-draft c =
    let rows : List Row = c.args.rows.now.items in
    let format : Format = c.in_ok-format.format in
    let is_format : IsFormatAt c.args.sweep.now.resolution.elements c.args.sweep.now.resolution.marks c.args.from format =
    subst (λ (v : ResolvedMarks). IsFormatAt v.elements v.marks c.args.from format) c.advance-alike.ensures.resolution
    (subst (λ p. IsFormatAt c.advance-alike.new.self.resolution.elements c.advance-alike.new.self.resolution.marks p format) c.advance-alike.ensures.place c.in_ok-format.ensures.format) in
    let counted : c.len-count.result ≡ length rows = search rules in
    let now : Row = record { start = c.args.extent.start; end = c.args.extent.end; characters = c.args.extent.characters; format = format } in
    let other : (d : Row) → 0 < length rows → (get_or rows (length rows - 1) d).format ≡ format → ⊥ =
    elim c.if-count-gt0.branch [
      | then-count-gt0+else-alike w ↦
          λ d some same.
          absurd (true≢false (sym ((c.advance-alike.ensures.alike (get_or rows (length rows - 1) d).format (c.requires.formatted d some)).1
          (subst (IsFormatAt c.args.sweep.now.resolution.elements c.args.sweep.now.resolution.marks c.args.from) (sym same) is_format)) ∙ w.if-alike.false))
      | else-count-gt0 w ↦ λ d some e. absurd (let none = w.if-count-gt0.false in omega arith)
    ] in (
      format,
      is_format,
      λ shown more piece text text' is like grown started ended characters draft.
          subst (λ r. IsDraft (shown ++ more) text' r) (sym c.in_ok-push.ensures.items)
          (draft_fresh shown draft.spans text text' rows now more piece draft.cut draft.layout draft.texts (λ d some same. other d some (same ∙ like)) is grown started ended characters (sym like)),
    )

pub returns-clause-formatted : goal.returns-clause-formatted
returns-clause-formatted c =
    let rows : List Row = c.args.rows.now.items in
    let now : Row = record { start = c.args.extent.start; end = c.args.extent.end; characters = c.args.extent.characters; format = c.in_ok-format.format } in
    let is_format : IsFormatAt c.args.sweep.now.resolution.elements c.args.sweep.now.resolution.marks c.args.from now.format =
    subst (λ (v : ResolvedMarks). IsFormatAt v.elements v.marks c.args.from now.format) c.advance-alike.ensures.resolution
    (subst (λ p. IsFormatAt c.advance-alike.new.self.resolution.elements c.advance-alike.new.self.resolution.marks p now.format) c.advance-alike.ensures.place c.in_ok-format.ensures.format) in
    subst (λ (r : List Row). (d : Row) → 0 < length r → IsFormatAt c.args.sweep.now.resolution.elements c.args.sweep.now.resolution.marks c.args.from (get_or r (length r - 1) d).format) (sym c.in_ok-push.ensures.items)
    (last_push (IsFormatAt c.args.sweep.now.resolution.elements c.args.sweep.now.resolution.marks c.args.from) rows now is_format)
