use Rattle.std.proofs.Common.{◌≡◌, ◌+◌, ◌*◌, ◌<◌, MatchOption, length, ap, sym, subst, ◌∙◌}
use Rattle.std.specs.Prelude.{encode_utf8_all}
use Rattle.std.specs.List.{sum_by}
use Rattle.change_ops.specs.Lines.{ops_of}
use Rattle.change_history.specs.Trial.{growth}
use Rattle.change_history.proofs.Spacing.{run_bytes, removals_bytes, revivals_bytes, room_same}
use Rattle.change_history.proofs.trial.room_behind_line.Goals as goal

pub returns-in-Run : goal.returns-in-Run
returns-in-Run c =
    let run = c.in-Run.run' in
    let same = ap (λ cs. length (encode_utf8_all cs)) c.characters.ensures.value ∙ sym (run_bytes c.args.revived run.characters run.id run.parent) ∙ sym (ap (λ l. sum_by (growth c.args.revived) (ops_of l)) c.in-Run.is) in
    subst (λ n. MatchOption c.room_behind_all.result (c.args.room < n) (λ left. left + n ≡ c.args.room)) same c.room_behind_all.ensures

pub returns-in-Removals : goal.returns-in-Removals
returns-in-Removals c =
    let run = c.in-Removals.field-0 in
    let none = sym (removals_bytes c.args.revived run.count run.id run.first) ∙ sym (ap (λ l. sum_by (growth c.args.revived) (ops_of l)) c.in-Removals.is) in
    subst (λ n. c.args.room + n ≡ c.args.room) none (room_same c.args.room)

pub returns-in-Revivals : goal.returns-in-Revivals
returns-in-Revivals c =
    let run = c.in-Revivals.run' in
    let same = ap (λ n. c.args.revived * n) c.count.ensures.value ∙ sym (revivals_bytes c.args.revived run.count run.id run.first) ∙ sym (ap (λ l. sum_by (growth c.args.revived) (ops_of l)) c.in-Revivals.is) in
    subst (λ n. MatchOption c.room_behind-in-Revivals.result (c.args.room < n) (λ left. left + n ≡ c.args.room)) same c.room_behind-in-Revivals.ensures
