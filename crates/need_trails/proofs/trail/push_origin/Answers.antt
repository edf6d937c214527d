use Rattle.std.proofs.Common.{ℕ, List, [], ◌∷◌, ◌++◌, ◌∙◌, ap, string_bytes}
use Rattle.std.proofs.lemmas.Result.{IfOk-equal}
use Rattle.std.specs.Fmt.{decimal}
use Rattle.abstract_state.specs.Situation.{situation_of}
use Rattle.refusal_needs.specs.Wanted.{wanted_text}
use Rattle.need_trails.specs.Trail.{origin_text}
use Rattle.need_trails.proofs.Texts.{numbered}
use Rattle.need_trails.proofs.trail.push_origin.Goals as goal

pub returns : goal.returns
returns c =
    let text = string_bytes c.args.text.now in
    let s = situation_of c.args.state.now in
    let line = wanted_text s c.args.wanted.now ++ 10 ∷ [] in
    IfOk-equal c.push_want.result (string_bytes c.push_want.new.text) (string_bytes c.write.new.self ++ line) (text ++ origin_text c.args.slot c.args.wanted.now s) c.push_want.ensures
    (ap (λ (t : List ℕ). t ++ line) c.in_ok-write.ensures.bytes ∙ numbered text (decimal c.args.slot) (wanted_text s c.args.wanted.now))
