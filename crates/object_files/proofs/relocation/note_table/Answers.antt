use Rattle.std.proofs.Common.{sym, ◌∙◌}
use Rattle.object_files.proofs.Latest.{index-set, once-set, last-free}
use Rattle.object_files.proofs.relocation.note_table.Goals as goal

pub returns-clause-index : goal.returns-clause-index
returns-clause-index c =
    index-set c.args.bytes.now c.args.tables.now.items c.args.table c.in-Some.section (sym c.in-Some.ensures.value)
    c.in-Some.ensures.bound c.requires.index

pub returns-clause-once : goal.returns-clause-once
returns-clause-once c =
    let free =
    last-free c.args.bytes.now c.args.tables.now.items c.args.table c.in-Some.section c.index.result.now c.requires.index
    c.in-Some.ensures.bound c.index.ensures (sym c.is_some.ensures ∙ c.if-is_some.false) in
    once-set c.args.bytes.now c.args.table c.in-Some.section (sym c.in-Some.ensures.value) free c.requires.once
