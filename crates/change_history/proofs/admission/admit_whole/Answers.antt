use Rattle.std.proofs.Common.{◌≡◌, ◌+◌, ◌++◌, length, take, arith, ap, ◌∙◌}
use Rattle.std.specs.List.{slice_get}
use Rattle.change_ops.specs.Runs.{inserts_of}
use Rattle.change_ops.specs.declared.line.Line.TheVariants.{Run}
use Rattle.change_ops.proofs.SpelledLines.{ops_count}
use Rattle.change_history.specs.declared.refusal.ApplyError.TheVariants as apply
use Rattle.change_history.proofs.Chronicle.{own_at, refused_one, run_begun, run_refused}
use Rattle.change_history.proofs.Running.{counted_by_first, follow_run}
use Rattle.change_history.proofs.admission.admit_whole.Goals as goal

pub returns-in-Err : goal.returns-in-Err
returns-in-Err c = λ ops added from node a stand.
    let op = c.insert.result in
    let begun = run_begun ops added from node c.args.parts.now c.args.tally.now a in
    let here = stand 0 op c.insert.ensures in
    let count : length (inserts_of c.args.run.now) ≡ length c.args.run.now.characters = ops_count (Run c.args.run.now) in
    let some = c.requires.some in
    let told = c.in-Err.ensures ops (take (from + 0) added) node begun.kept begun.counted (own_at added node (from + 0) op begun.own here) (begun.short (from + 0) op here) in
    run_refused c.args.size ops added from 0 (length (inserts_of c.args.run.now)) node c.args.parts.now c.args.tally.now (apply.Refused c.in-Err.refusal) (omega (arith, count, some))
    (refused_one ops added (from + 0) node c.args.parts.now c.args.tally.now c.args.tally.now op c.in-Err.refusal begun here told)

pub note_run-requires : goal.note_run-requires
note_run-requires c =
    let ops = c.requires.next.0 in
    let added = c.requires.next.1.0 in
    let from = c.requires.next.1.1.0 in
    let node = c.requires.next.1.1.1.0 in
    let a = c.requires.next.1.1.1.1 in
    let stand = c.requires.next.1.1.1.2 in
    let run = c.args.run.now in
    let op = c.insert.result in
    let same : from ≡ from + 0 = omega arith in
    let here = ap (slice_get added) same ∙ stand 0 op c.insert.ensures in
    let may = c.in_default.ensures ops (take from added) node a.kept a.counted (own_at added node from op a.own here) (a.short from op here) in
    let characters = a.counted.characters in
    let room = c.requires.room in
    let counted = counted_by_first run.characters (ops ++ take from added) run.id run.parent op c.insert.ensures may.accepted (omega (arith, characters, room)) in
    (c.args.size, (ops, (added, (from, (node, record { counted = a.counted; own = a.own; stand = stand; follow = follow_run ops added from run.id run.parent run.characters a.short a.follow stand counted })))))

pub returns-in-Ok : goal.returns-in-Ok
returns-in-Ok c = λ ops added from node a stand.
    let run = c.args.run.now in
    let op = c.insert.result in
    let same : from ≡ from + 0 = omega arith in
    let here = ap (slice_get added) same ∙ stand 0 op c.insert.ensures in
    let may = c.in_default.ensures ops (take from added) node a.kept a.counted (own_at added node from op a.own here) (a.short from op here) in
    let characters = a.counted.characters in
    let room = c.requires.room in
    let counted = counted_by_first run.characters (ops ++ take from added) run.id run.parent op c.insert.ensures may.accepted (omega (arith, characters, room)) in
    let follow = follow_run ops added from run.id run.parent run.characters a.short a.follow stand counted in
    record {
      kept = a.kept;
      own = a.own;
      short = a.short;
      follow = follow;
      counted = c.in-Ok.ensures c.args.size ops added from node (record { counted = a.counted; own = a.own; stand = stand; follow = follow });
    }
