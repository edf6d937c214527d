use Rattle.std.proofs.Common.{◌≡◌, false, rules}
use Rattle.std.specs.Option.{is_some}
use Rattle.std.proofs.lemmas.Map.Text.{btree_map_updates_str}
use Rattle.assembler.specs.Labels.{held}
use Rattle.assembler.proofs.Labelling.{defines_set}
use Rattle.assembler.proofs.labels.define.Goals as goal

pub returns-in_ok-insert : goal.returns-in_ok-insert
returns-in_ok-insert c =
    let none : is_some (held c.args.known.now c.args.name.now) ≡ false = search (rules, c.contains_key.ensures) in
    let defined = defines_set c.args.known.now c.insert.new.self c.args.name.now c.args.definition none
    (btree_map_updates_str c.args.name.now c.args.known.now c.insert.new.self _ c.in_ok-insert.ensures.updates) in
    record { defined = defined; kept = tt }
