use Rattle.std.proofs.Common.{take}
use Rattle.change_history.proofs.Chronicle.{stand_first, own_at, admitted_one, refused_one}
use Rattle.change_history.proofs.parts.Parts.admit.Goals as goal

pub returns-in-Err : goal.returns-in-Err
returns-in-Err c = λ ops added from node a stand.
    let op = c.args.op.now in
    let here = stand_first added from op stand in
    refused_one ops added from node c.args.self.now c.args.tally.now c.args.tally.now op c.in-Err.refusal a here (c.in-Err.ensures ops (take from added) node a.kept a.counted (own_at added node from op a.own here) (a.short from op here))

pub note-requires : goal.note-requires
note-requires c =
    let ops = c.requires.0 in
    let added = c.requires.1.0 in
    let from = c.requires.1.1.0 in
    let node = c.requires.1.1.1.0 in
    let a = c.requires.1.1.1.1 in
    let op = c.args.op.now in
    let here = stand_first added from op c.requires.1.1.1.2 in
    (c.args.size, (ops, (take from added, (node, a.counted, c.in_default.ensures ops (take from added) node a.kept a.counted (own_at added node from op a.own here) (a.short from op here)))))

pub returns-in-Ok : goal.returns-in-Ok
returns-in-Ok c = λ ops added from node a stand.
    let op = c.args.op.now in
    let here = stand_first added from op stand in
    let of = own_at added node from op a.own here in
    let may = c.in_default.ensures ops (take from added) node a.kept a.counted of (a.short from op here) in
    admitted_one ops added from node c.args.self.now c.args.tally.now c.note.new.self op a here may (c.in-Ok.ensures c.args.size ops (take from added) node a.counted of may)
