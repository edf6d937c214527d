use Rattle.std.proofs.Common.{[], ◌∷◌, ◌++◌, ◌∙◌, codes, ap, string_bytes}
use Rattle.std.proofs.lemmas.Result.{IfOk-equal}
use Rattle.bpf_words.specs.Words.{program_of}
use Rattle.abstract_state.specs.Situation.{situation_of}
use Rattle.refusal_needs.specs.Wanted.{wanted_text}
use Rattle.need_trails.specs.declared.back.Trail.{Trail}
use Rattle.need_trails.specs.Trail.{copy_text, since_text, end_text, back_text, wanted_trail_text}
use Rattle.need_trails.proofs.Texts.{wanted_first}
use Rattle.need_trails.proofs.trail.push_wanted.Goals as goal

pub returns : goal.returns
unfolding wanted_trail_text
returns c =
    let profile = c.args.knowledge.now.profile in
    let program = program_of c.args.knowledge.now.words.now in
    let s = situation_of c.args.state.now in
    let text = string_bytes c.args.text.now in
    let wanted = c.args.wanted in
    let slot = c.args.slot in
    let found = c.in_ok-found.found in
    let copy = copy_text profile program s wanted slot in
    IfOk-equal c.push_end.result (string_bytes c.push_end.new.text) (string_bytes c.push_since.new.text ++ end_text profile program found) (text ++ wanted_trail_text profile program s slot wanted) c.push_end.ensures
    (wanted_first text (string_bytes c.push_str.new.self) (string_bytes c.push_want.new.text) (string_bytes c.push_copy.new.text) (string_bytes c.push_since.new.text)
    (codes "wanted: ") (wanted_text s wanted) copy (since_text profile program found slot) (end_text profile program found)
    c.in_ok-push_str.ensures.bytes c.in_ok-push_want.ensures c.in_ok-push_copy.ensures c.in_ok-push_since.ensures
    ∙ ap (λ (t : Trail). text ++ (codes "wanted: " ++ wanted_text s wanted ++ 10 ∷ [] ++ copy ++ back_text profile program t slot)) c.in_ok-found.ensures.value)
