use Rattle.std.proofs.Common.{◌∙◌, inr, sym, subst}
use Rattle.change_ops.specs.Reading.{id_at, parent_at, Reads}
use Rattle.change_ops.proofs.RunReading.{Limited, limited_ok, typed_right, refused_right, refused_wrong}
use Rattle.change_ops.proofs.run_reading.typed_of.Goals as goal

pub returns-in-Ok : goal.returns-in-Ok
returns-in-Ok c = λ n e.
    let id = id_at c.args.id.now in
    let parent = parent_at c.args.parent.now in
    let limited : Limited c.args.count c.args.room id parent c.in-Ok.named = limited_ok c.args.count c.args.room id parent c.in-Ok.named (sym c.named_of.ensures ∙ c.in-Ok.is) in
    subst (Reads c.made_of.result) (sym (typed_right c.args.peer c.args.count c.args.room n id parent c.in-Ok.named c.args.codes.now limited c.requires e)) c.made_of.ensures

pub returns-in-Err : goal.returns-in-Err
returns-in-Err c = λ n e.
    inr (sym (refused_right c.args.peer c.args.count c.args.room n (id_at c.args.id.now) (parent_at c.args.parent.now) c.args.codes.now c.in-Err.fault e c.requires c.are_codes.ensures.long (sym c.named_of.ensures ∙ c.in-Err.is) (sym c.if-are_codes.true ∙ c.are_codes.ensures.codes)))

pub returns-in-Err-2 : goal.returns-in-Err-2
returns-in-Err-2 c = λ n e.
    inr (sym (refused_wrong c.args.peer c.args.count c.args.room n (id_at c.args.id.now) (parent_at c.args.parent.now) c.args.codes.now e c.are_codes.ensures.long (sym c.if-are_codes.false ∙ c.are_codes.ensures.codes)))
