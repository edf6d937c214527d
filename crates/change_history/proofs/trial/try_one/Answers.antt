use Rattle.std.proofs.Common.{◌++◌, take}
use Rattle.change_history.proofs.Chronicle.{stand_first, own_at}
use Rattle.change_history.specs.Trial.{sequence_of}
use Rattle.change_history.proofs.Trying.{tried_one, refused_try, short_of, full_of}
use Rattle.change_history.proofs.trial.try_one.Goals as goal

pub returns-then-has_no_room : goal.returns-then-has_no_room
returns-then-has_no_room c = λ ops added from node a stand.
    let op = c.args.op.now in
    let here = stand_first added from op stand in
    refused_try ops added from node c.args.parts.now c.args.trial.now c.args.trial.now op c.check_full.result a here
    (c.check_full.ensures c.args.size ops (take from added) node a.kept a.counted (own_at added node from op a.own here)
    (full_of c.args.size (ops ++ take from added) op (sequence_of c.args.trial.now c.args.parts.now) c.sequence.result.now c.has_no_room.result a.sequence c.sequence.ensures c.has_no_room.ensures c.if-has_no_room.true))

pub returns-in-Err : goal.returns-in-Err
returns-in-Err c = λ ops added from node a stand.
    let op = c.args.op.now in
    let here = stand_first added from op stand in
    let short = short_of c.args.size (ops ++ take from added) op (sequence_of c.args.trial.now c.args.parts.now) c.sequence.result.now c.has_no_room.result a.sequence c.sequence.ensures c.has_no_room.ensures c.if-has_no_room.false in
    refused_try ops added from node c.args.parts.now c.args.trial.now c.args.trial.now op c.in-Err.refusal a here
    (c.in-Err.ensures ops (take from added) node a.kept a.counted (own_at added node from op a.own here) short)

pub note-requires : goal.note-requires
note-requires c =
    let ops = c.requires.0 in
    let added = c.requires.1.0 in
    let from = c.requires.1.1.0 in
    let node = c.requires.1.1.1.0 in
    let a = c.requires.1.1.1.1 in
    let op = c.args.op.now in
    let here = stand_first added from op c.requires.1.1.1.2 in
    let short = short_of c.args.size (ops ++ take from added) op (sequence_of c.args.trial.now c.args.parts.now) c.sequence.result.now c.has_no_room.result a.sequence c.sequence.ensures c.has_no_room.ensures c.if-has_no_room.false in
    (c.args.size, (ops, (take from added, (node, a.counted, a.sequence, c.in_default.ensures ops (take from added) node a.kept a.counted (own_at added node from op a.own here) short))))

pub returns-in-Ok : goal.returns-in-Ok
returns-in-Ok c = λ ops added from node a stand.
    let op = c.args.op.now in
    let here = stand_first added from op stand in
    let of = own_at added node from op a.own here in
    let short = short_of c.args.size (ops ++ take from added) op (sequence_of c.args.trial.now c.args.parts.now) c.sequence.result.now c.has_no_room.result a.sequence c.sequence.ensures c.has_no_room.ensures c.if-has_no_room.false in
    let may = c.in_default.ensures ops (take from added) node a.kept a.counted of short in
    let noted = c.in-Ok.ensures c.args.size ops (take from added) node a.counted a.sequence of may in
    tried_one ops added from node c.args.parts.now c.args.trial.now c.note.new.self op a here may noted.0 noted.1
