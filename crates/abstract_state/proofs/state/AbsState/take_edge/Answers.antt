use Rattle.std.proofs.Common.{◌≡◌, true, false, ℕ, Option, ◌∙◌, sym, ap, subst, ◌↔◌, ◌∷◌}
use Rattle.std.specs.Option.{IfSome}
use Rattle.semantics.specs.Value.{cut, holds_of}
use Rattle.abstract_state.specs.declared.branch.Pair.{Pair}
use Rattle.abstract_state.specs.declared.known.Known.TheVariants.{Lent}
use Rattle.abstract_state.specs.Exact.{Exactly}
use Rattle.std.proofs.Common.{Bool, Result, Ok, Err, option_map, refl, rules}
use Rattle.abstract_state.specs.declared.refusal.Refusal.{Refusal}
use Rattle.abstract_state.specs.Addresses.{content_of, answer_of}
use Rattle.abstract_state.specs.Situation.{Situation, Flows, AnswersStep, situation_of, read}
use Rattle.abstract_state.specs.Edges.{Both, both_of, two, unless, refined, right_side, sides_on}
use Rattle.abstract_state.proofs.Edges.{edge_ok, edge_left, edge_right, edge_sides}
use Rattle.abstract_state.proofs.Exact.{set_exactly}
use Rattle.abstract_state.specs.Branch.{LongFrom}
use Rattle.abstract_state.specs.State.{lengths_of}
use Rattle.abstract_state.specs.declared.refusal.Refusal.TheVariants.{UnsetRegister}
use Rattle.abstract_state.specs.Unset.{HasUnset}
use Rattle.bpf_words.specs.Flow.{read_operand}
use Rattle.abstract_state.proofs.Unsets.{passed, first_unset, rest_unset, none_unset, neither_unset}
use Rattle.abstract_state.proofs.state.AbsState.take_edge.Goals as goal

pub returns-clause-sound : goal.returns-clause-sound
returns-clause-sound c = λ span s held.
    let lengths = lengths_of span in
    let m = c.in_ok-a.ensures.sound lengths s held in
    let n = c.in_ok-b.ensures.sound lengths s held in
    let same = ap (λ (k : ℕ). holds_of c.args.comparison c.args.width (cut c.args.width m.0) k) n.1.2 in (
      m.0,
      (
        n.0,
        m.1,
        n.1.1,
        (λ h. c.refine.ensures.sound lengths s m.0 n.1.0 held m.1 n.1.3
            (c.unless-pair.ensures.sound lengths m.0 n.1.0 m.2 n.1.4 (c.in_ok-pair.ensures.sound lengths m.0 n.1.0 m.2 n.1.4 (same ∙ h)))),
      ),
    )

pub returns-in_err-a-clause-regions : goal.returns-in_err-a-clause-regions
returns-in_err-a-clause-regions c = λ r p q e w o a b region.
    let bad : false ≡ true = (c.in_err-a.ensures.holds (Exactly (Lent p)) (set_exactly _ _ a)).0 in absurd (cc)

pub returns-in_err-b-clause-regions : goal.returns-in_err-b-clause-regions
returns-in_err-b-clause-regions c = λ r p q e w o a b region.
    let bad : false ≡ true = (c.in_err-b.ensures.holds r (Exactly (Lent q)) e (set_exactly _ _ b)).0 in absurd (cc)

pub returns-in_err-pair-clause-regions : goal.returns-in_err-pair-clause-regions
returns-in_err-pair-clause-regions c = λ r p q e w o a b region.
    let left = (c.in_ok-a.ensures.holds (Exactly (Lent p)) (set_exactly _ _ a)).1 in
    let right = (c.in_ok-b.ensures.holds r (Exactly (Lent q)) e (set_exactly _ _ b)).1 in
    let bad : false ≡ true = c.in_err-pair.ensures.regions p q w o left right region in absurd (cc)

pub returns-clause-guards : goal.returns-clause-guards
returns-clause-guards c = λ r t p q e other w greater not a b region tail.
    let left = (c.in_ok-a.ensures.holds (Exactly (Lent p)) (set_exactly _ _ a)).1 in
    let right = (c.in_ok-b.ensures.holds r (Exactly (Lent q)) e (set_exactly _ _ b)).1 in
    let apart = c.is_one_register-same.ensures.apart r e other in
    let long = c.in_ok-pair.ensures.guards p q t w greater not left right region tail in
    c.refine.ensures.raised p.region p.offset.range.low
    (subst (λ (o : Option Pair). IfSome o (λ s. LongFrom p.region p.offset.range.low s.left))
    (sym (c.unless-pair.ensures.apart apart)) long)

pub returns-in_err-a-clause-unset : goal.returns-in_err-a-clause-unset
returns-in_err-a-clause-unset c =
    passed c.from_residual.result c.in_err-a.field-0.0 (λ e. (e ≡ UnsetRegister) ↔ HasUnset c.args.self.now (c.args.left ∷ read_operand c.args.right.now)) c.from_residual.ensures.1
    (first_unset c.args.self.now c.args.left (read_operand c.args.right.now) _ c.in_err-a.ensures.unset)

pub returns-in_err-b-clause-unset : goal.returns-in_err-b-clause-unset
returns-in_err-b-clause-unset c =
    passed c.from_residual-in_err-b.result c.in_err-b.field-0.0 (λ e. (e ≡ UnsetRegister) ↔ HasUnset c.args.self.now (c.args.left ∷ read_operand c.args.right.now)) c.from_residual-in_err-b.ensures.1
    (rest_unset c.args.self.now c.args.left (read_operand c.args.right.now) _ c.in_err-b.ensures.unset)

pub returns-in_err-pair-clause-unset : goal.returns-in_err-pair-clause-unset
returns-in_err-pair-clause-unset c =
    passed c.from_residual-in_err-pair.result c.in_err-pair.field-0.0 (λ e. (e ≡ UnsetRegister) ↔ HasUnset c.args.self.now (c.args.left ∷ read_operand c.args.right.now)) c.from_residual-in_err-pair.ensures.1
    (none_unset c.args.self.now (c.args.left ∷ read_operand c.args.right.now) _ c.in_err-pair.ensures.not_unset (neither_unset c.args.self.now c.args.left (read_operand c.args.right.now) c.in_ok-a.ensures.set c.in_ok-b.ensures.set))

pub returns-clause-set : goal.returns-clause-set
returns-clause-set c = neither_unset c.args.self.now c.args.left (read_operand c.args.right.now) c.in_ok-a.ensures.set c.in_ok-b.ensures.set

pub returns-in_err-a-clause-rule : goal.returns-in_err-a-clause-rule
returns-in_err-a-clause-rule c =
    let s = situation_of c.args.self.now in
    let left : read (s.registers c.args.left) ≡ Err c.in_err-a.field-0.0 = sym c.read.ensures.rule ∙ ap (answer_of content_of) c.in_err-a.was in
    let out : c.from_residual.result ≡ Err c.in_err-a.field-0.0 = search rules in
    subst (λ (r : Result (Option Situation) Refusal). AnswersStep r c.from_residual.result c.args.self.now) (sym (edge_left c.args.width c.args.comparison c.args.left c.args.right.now c.args.taken s c.in_err-a.field-0.0 left)) out

pub returns-in_err-b-clause-rule : goal.returns-in_err-b-clause-rule
returns-in_err-b-clause-rule c =
    let s = situation_of c.args.self.now in
    let left : read (s.registers c.args.left) ≡ Ok (content_of c.in_ok-a.a) = sym c.read.ensures.rule ∙ ap (answer_of content_of) c.in_ok-a.was in
    let right : right_side c.args.width s.registers c.args.right.now ≡ Err c.in_err-b.field-0.0 = sym c.right_side.ensures.rule ∙ ap (answer_of content_of) c.in_err-b.was in
    let out : c.from_residual-in_err-b.result ≡ Err c.in_err-b.field-0.0 = search rules in
    subst (λ (r : Result (Option Situation) Refusal). AnswersStep r c.from_residual-in_err-b.result c.args.self.now) (sym (edge_right c.args.width c.args.comparison c.args.left c.args.right.now c.args.taken s (content_of c.in_ok-a.a) c.in_err-b.field-0.0 left right)) out

pub returns-in_err-pair-clause-rule : goal.returns-in_err-pair-clause-rule
returns-in_err-pair-clause-rule c =
    let s = situation_of c.args.self.now in
    let left : read (s.registers c.args.left) ≡ Ok (content_of c.in_ok-a.a) = sym c.read.ensures.rule ∙ ap (answer_of content_of) c.in_ok-a.was in
    let right : right_side c.args.width s.registers c.args.right.now ≡ Ok (content_of c.in_ok-b.b) = sym c.right_side.ensures.rule ∙ ap (answer_of content_of) c.in_ok-b.was in
    let sides : sides_on c.args.width c.args.comparison c.args.taken (content_of c.in_ok-a.a) (content_of c.in_ok-b.b) ≡ Err c.in_err-pair.field-0.0 = sym c.pair_on.ensures.rule ∙ ap (answer_of (option_map both_of)) c.in_err-pair.was in
    let out : c.from_residual-in_err-pair.result ≡ Err c.in_err-pair.field-0.0 = search rules in
    subst (λ (r : Result (Option Situation) Refusal). AnswersStep r c.from_residual-in_err-pair.result c.args.self.now) (sym (edge_sides c.args.width c.args.comparison c.args.left c.args.right.now c.args.taken s (content_of c.in_ok-a.a) (content_of c.in_ok-b.b) c.in_err-pair.field-0.0 left right sides)) out

pub returns-clause-rule : goal.returns-clause-rule
returns-clause-rule c =
    let s = situation_of c.args.self.now in
    let left : read (s.registers c.args.left) ≡ Ok (content_of c.in_ok-a.a) = sym c.read.ensures.rule ∙ ap (answer_of content_of) c.in_ok-a.was in
    let right : right_side c.args.width s.registers c.args.right.now ≡ Ok (content_of c.in_ok-b.b) = sym c.right_side.ensures.rule ∙ ap (answer_of content_of) c.in_ok-b.was in
    let pair = option_map both_of c.in_ok-pair.pair in
    let sides : sides_on c.args.width c.args.comparison c.args.taken (content_of c.in_ok-a.a) (content_of c.in_ok-b.b) ≡ Ok pair = sym c.pair_on.ensures.rule ∙ ap (answer_of (option_map both_of)) c.in_ok-pair.was in
    let flows = subst (λ (o : Option Both). Flows (refined c.args.left c.args.right.now o s) c.refine.result c.refine.new.self) (c.unless-pair.ensures.rule ∙ ap (λ (t : Bool). unless t (two (content_of c.in_ok-a.a) (content_of c.in_ok-b.b)) pair) c.is_one_register-same.ensures.rule) c.refine.ensures.rule in
    subst (λ (r : Result (Option Situation) Refusal). AnswersStep r (Ok c.refine.result) c.refine.new.self) (sym (edge_ok c.args.width c.args.comparison c.args.left c.args.right.now c.args.taken s (content_of c.in_ok-a.a) (content_of c.in_ok-b.b) pair left right sides)) (c.refine.result, refl, flows)
