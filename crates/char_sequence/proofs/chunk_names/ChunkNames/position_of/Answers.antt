use Rattle.std.proofs.Common.{◌<◌, length, ap, sym, ◌∙◌, rules}
use Rattle.std.specs.List.{slice_get}
use Rattle.std.proofs.lemmas.Option.{same_Some, slice_get_within}
use Rattle.char_sequence.proofs.Chunking.{here_at}
use Rattle.char_sequence.proofs.chunk_names.ChunkNames.position_of.Goals as goal

pub index-requires : goal.index-requires
index-requires c =
    let at = ap (λ v. slice_get v.names c.requires.0) c.self.view_is ∙ c.requires.1 in
    let low : c.args.name < length c.self.inside.positions.items = slice_get_within _ _ _ (c.self.invariant.found c.requires.0 c.args.name at) in
    search rules

pub returns : goal.returns
returns c =
    λ position g.
    let at = c.self.invariant.found position c.args.name (ap (λ v. slice_get v.names position) c.self.view_is ∙ g) in
    let low = slice_get_within c.self.inside.positions.items c.args.name position at in
    same_Some c.index.result.now position (sym (here_at c.self.inside.positions.items c.args.name c.index.result.now low c.index.ensures) ∙ at)
