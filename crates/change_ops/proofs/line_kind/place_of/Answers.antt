use Rattle.std.proofs.Common.{ℕ, List, Bor, sym, ◌∙◌, rules, tests}
use Rattle.std.specs.Str.{bytes_eq}
use Rattle.std.proofs.lemmas.Iterator.{YieldsList-from_slice}
use Rattle.std.proofs.lemmas.Iterator.Search.{position_from_yields_List}
use Rattle.change_ops.proofs.Places.{place_mapped_in}
use Rattle.change_ops.proofs.line_kind.place_of.Goals as goal

pub returns : goal.returns
returns c =
    position_from_yields_List (λ (other : Bor (List ℕ)). bytes_eq other.now c.args.word.now) _ _ _ c.position.ensures.ran (YieldsList-from_slice c.args.words.now cc) (λ x b q k. search (rules, tests))
    ∙ sym (place_mapped_in (λ (other : Bor (List ℕ)). other.now) c.args.words.now c.args.word.now)
