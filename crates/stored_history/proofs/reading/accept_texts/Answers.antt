use Rattle.std.proofs.Common.{◌≡◌, ◌+◌, [], Some, length, refl, ap, ◌∙◌, arith}
use Rattle.std.specs.List.{slice_get}
use Rattle.std.proofs.lemmas.Option.{slice_get_read}
use Rattle.change_history.specs.Chronicle.{Chronicle}
use Rattle.stored_history.proofs.Texts.{read_none, read_next, read_all, not_read}
use Rattle.stored_history.proofs.reading.accept_texts.Goals as goal

pub loop-index-init : goal.loop-index-init
loop-index-init c =
    let none : c.new-history.result.changes ≡ [] = ap (λ (h : Chronicle). h.changes) c.new-history.ensures in
    record {
      size = ap (λ (h : Chronicle). h.size) c.new-history.ensures;
      read = read_none c.args.size c.args.texts.now c.new-history.result.changes none;
      count = ap length none;
    }

pub returns-in_err-accept_text : goal.returns-in_err-accept_text
returns-in_err-accept_text c =
    let texts = c.args.texts.now in
    let here : slice_get texts c.loop-index.index ≡ Some c.index-texts-index.result =
    slice_get_read texts (length texts) c.loop-index.index c.index-texts-index.result refl c.loop-index-test.true c.index-texts-index.is in
    not_read c.args.size c.from_residual.result _ texts c.loop-index.history c.loop-index.index c.index-texts-index.result c.in_err-accept_text.field-0.0 c.from_residual.ensures.1
    c.loop-index.invariant.size c.loop-index.invariant.read c.loop-index.invariant.count here
    c.in_err-accept_text.ensures.accepted

pub loop-index-preserved : goal.loop-index-preserved
loop-index-preserved c =
    let texts = c.args.texts.now in
    let here : slice_get texts c.loop-index.index ≡ Some c.index-texts-index.result =
    slice_get_read texts (length texts) c.loop-index.index c.index-texts-index.result refl c.loop-index-test.true c.index-texts-index.is in
    let next = read_next c.args.size texts c.loop-index.history c.accept_text.new.history c.loop-index.index c.index-texts-index.result
    c.loop-index.invariant.size c.loop-index.invariant.read c.loop-index.invariant.count here
    c.in_ok-accept_text.ensures.accepted in
    record {
      size = c.in_ok-accept_text.ensures.size ∙ c.loop-index.invariant.size;
      read = next.0;
      count = next.1;
    }

pub returns : goal.returns
returns c =
    let whole : c.loop-index.index ≡ length c.args.texts.now = omega arith in
    (c.loop-index.invariant.size, read_all c.args.size c.args.texts.now c.loop-index.history.changes c.loop-index.index whole c.loop-index.invariant.read)
