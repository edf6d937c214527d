use Rattle.std.proofs.Common.{◌≡◌, ℕ, ◌+◌, ◌++◌, [], ◌∙◌, ap, sym, List, Bool, true, false, drop, string_bytes}
use Rattle.std.proofs.lemmas.List.{append-nil}
use Rattle.span_context.specs.declared.context_field.ContextField.{ContextField}
use Rattle.span_context.specs.ContextField.{every_field}
use Rattle.program_reads.specs.Positions.{marked}
use Rattle.program_reads.proofs.Naming.{names_left, named_more, named_none, named_all}
use Rattle.program_reads.proofs.lines.push_names.Goals.{then-fields-i+in_ok-push_name, else-fields-i}
use Rattle.program_reads.proofs.lines.push_names.Goals as goal

pub loop-i-preserved : goal.loop-i-preserved
loop-i-preserved c =
    let marks = c.args.fields.now in
    let i = c.loop-i.i in
    let rest : List ContextField = marked (drop (i + 1) marks) (drop (i + 1) every_field) in
    elim c.if-fields-i.branch [
      | then-fields-i+in_ok-push_name w ↦ record {
        written =
            ap (λ (text : List ℕ). text ++ names_left c.if-fields-i.some rest) (ap string_bytes w.text-is)
            ∙ ap (λ (some : Bool). string_bytes w.push_name.new.text ++ names_left some rest) w.some-is
            ∙ ap (λ (text : List ℕ). text ++ names_left true rest) w.in_ok-push_name.ensures
            ∙ named_more (string_bytes c.loop-i.text) c.loop-i.some marks every_field i _ c.loop-i-test.true w.if-fields-i.true
            ∙ c.loop-i.invariant.written;
      }
      | else-fields-i w ↦ record {
        written =
            ap (λ (text : List ℕ). text ++ names_left c.if-fields-i.some rest) (ap string_bytes w.text-is)
            ∙ ap (λ (some : Bool). string_bytes c.loop-i.text ++ names_left some rest) w.some-is
            ∙ ap (λ (text : List ℕ). string_bytes c.loop-i.text ++ text) (named_none c.loop-i.some marks every_field i w.if-fields-i.false)
            ∙ c.loop-i.invariant.written;
      }
    ]

pub returns-in_ok-push_str : goal.returns-in_ok-push_str
returns-in_ok-push_str c =
    let all = named_all c.loop-i.some c.args.fields.now every_field c.loop-i.i c.loop-i-test.false in
    let first : c.loop-i.some ≡ false = c.if-not-some.true in
    c.in_ok-push_str.ensures.bytes
    ∙ ap (λ (some : Bool). string_bytes c.loop-i.text ++ names_left some []) (sym first)
    ∙ ap (λ (text : List ℕ). string_bytes c.loop-i.text ++ text) (sym all)
    ∙ c.loop-i.invariant.written

pub returns-else-not-some : goal.returns-else-not-some
returns-else-not-some c =
    let all = named_all c.loop-i.some c.args.fields.now every_field c.loop-i.i c.loop-i-test.false in
    let more : c.loop-i.some ≡ true = c.if-not-some.false in
    sym (append-nil (string_bytes c.loop-i.text))
    ∙ ap (λ (some : Bool). string_bytes c.loop-i.text ++ names_left some []) (sym more)
    ∙ ap (λ (text : List ℕ). string_bytes c.loop-i.text ++ text) (sym all)
    ∙ c.loop-i.invariant.written
