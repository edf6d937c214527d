use Rattle.std.proofs.Common.{◌≡◌, ◌+◌, ◌<◌, length, take, arith, sym, ap, ◌∙◌, subst}
use Rattle.change_ops.specs.Runs.{inserts_of}
use Rattle.change_ops.specs.declared.line.Line.TheVariants.{Run}
use Rattle.change_ops.proofs.SpelledLines.{ops_count}
use Rattle.change_history.specs.Tally.{IsTally}
use Rattle.change_history.proofs.Chronicle.{take_push, own_at}
use Rattle.change_history.proofs.admission.note_run.Goals as goal

pub loop-index-init : goal.loop-index-init
loop-index-init c = λ size ops added from node f.
    let same : from ≡ from + 0 = omega arith in
    subst (λ n. IsTally ops (take n added) node c.args.tally.now) same f.counted

pub note-requires : goal.note-requires
note-requires c =
    let size = c.requires.0 in
    let ops = c.requires.1.0 in
    let added = c.requires.1.1.0 in
    let from = c.requires.1.1.1.0 in
    let node = c.requires.1.1.1.1.0 in
    let f = c.requires.1.1.1.1.1 in
    let at = from + c.loop-index.index in
    let count : length (inserts_of c.args.run.now) ≡ length c.args.run.now.characters = ops_count (Run c.args.run.now) in
    let end = ap length c.characters-index-end.ensures.value in
    let below : at < from + length (inserts_of c.args.run.now) = omega arith in
    (size, (ops, (take at added, (node, c.loop-index.invariant size ops added from node f, f.follow at c.insert.result below (f.stand c.loop-index.index c.insert.result c.insert.ensures)))))

pub loop-index-preserved : goal.loop-index-preserved
loop-index-preserved c = λ size ops added from node f.
    let at = from + c.loop-index.index in
    let op = c.insert.result in
    let count : length (inserts_of c.args.run.now) ≡ length c.args.run.now.characters = ops_count (Run c.args.run.now) in
    let end = ap length c.characters-index-end.ensures.value in
    let below : at < from + length (inserts_of c.args.run.now) = omega arith in
    let here = f.stand c.loop-index.index op c.insert.ensures in
    let on : at + 1 ≡ from + (c.loop-index.index + 1) = omega arith in
    subst (λ l. IsTally ops l node c.note.new.self) (sym (take_push added at op here) ∙ ap (λ n. take n added) on)
    (c.in_ok-note.ensures size ops (take at added) node (c.loop-index.invariant size ops added from node f) (own_at added node at op f.own here) (f.follow at op below here))

pub returns : goal.returns
returns c = λ size ops added from node f.
    let count : length (inserts_of c.args.run.now) ≡ length c.args.run.now.characters = ops_count (Run c.args.run.now) in
    let end = ap length c.characters-index-end.ensures.value in
    let whole : from + c.loop-index.index ≡ from + length (inserts_of c.args.run.now) = omega arith in
    subst (λ n. IsTally ops (take n added) node c.loop-index.tally) whole (c.loop-index.invariant size ops added from node f)
