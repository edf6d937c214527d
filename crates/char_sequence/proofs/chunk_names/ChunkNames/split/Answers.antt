use Rattle.std.proofs.Common.{◌≡◌, ◌+◌, ◌<◌, ◌++◌, ◌∷◌, [], length, map, ap, sym, ◌∙◌, arith, rules, subst}
use Rattle.std.specs.List.{slice_get, insert}
use Rattle.std.proofs.lemmas.List.{length-map, take_at}
use Rattle.std.proofs.lemmas.Option.{slice_get_within}
use Rattle.char_sequence.specs.Chunks.{ArePositions, moved}
use Rattle.char_sequence.proofs.Names.{positions_split}
use Rattle.char_sequence.proofs.chunk_names.ChunkNames.split.Goals as goal

pub move_on-requires : goal.move_on-requires
move_on-requires c =
    λ k at g.
    let old = ap (λ l. slice_get l k) (sym c.deref_mut.ensures.value) ∙ g in
    let low = slice_get_within c.self.inside.names.items at k (c.self.invariant.named at k old) in
    let size : c.len-name.result ≡ length c.self.inside.names.items = search rules in
    let fits = c.len-name.type_inv in
    omega (arith, low, size, fits)

pub invariant_of-self : goal.invariant_of-self
invariant_of-self c =
    let size : c.len-name.result ≡ length c.self.inside.names.items = search rules in
    let names : c.insert.new.self.items ≡ insert c.self.inside.names.items (c.args.position + 1) c.len-name.result = search rules in
    let now = c.move_on.new.positions in
    let moved_all : now ≡ map (moved c.args.position) c.self.inside.positions.items = c.move_on.ensures ∙ ap (map (moved c.args.position)) c.deref_mut.ensures.value in
    let len : c.self.inside.positions.len ≡ length c.self.inside.positions.items = search rules in
    let as_many : length now ≡ c.self.inside.positions.len = ap length moved_all ∙ length-map c.self.inside.positions.items (moved c.args.position) ∙ sym len in
    let within : c.args.position < length c.self.inside.names.items = subst (λ v. c.args.position < length v.names) (sym c.self.view_is) c.requires.within in
    let positions : c.push_reserved.new.self.items ≡ map (moved c.args.position) c.self.inside.positions.items ++ (c.args.position + 1) ∷ [] =
    c.push_reserved.ensures.items ∙ ap (λ l. l ++ (c.args.position + 1) ∷ []) (take_at now _ c.self.inside.positions.len as_many ∙ moved_all) in
    subst (λ z. ArePositions z c.push_reserved.new.self.items) (sym names)
    (subst (ArePositions (insert c.self.inside.names.items (c.args.position + 1) c.len-name.result)) (sym positions)
    (positions_split c.self.inside.names.items c.self.inside.positions.items c.args.position c.len-name.result c.self.invariant within size))
