use Rattle.std.proofs.Common.{rules, ◌≡◌, [], ◌∷◌, ◌++◌, Ok, refl, ap, subst, ◌∙◌, inl, inr}
use Rattle.std.specs.Prelude.{IsTrue, IsFalse}
use Rattle.semantics.specs.Step.{Program}
use Rattle.version_history.specs.Tokens.{Token}
use Rattle.stream_readers.specs.Readers.{Reader}
use Rattle.hub_requests.specs.Limits.{takes_subscriber}
use Rattle.session_subscribers.specs.Holding.{Asks}
use Rattle.session_subscribers.proofs.Refusals.{safe_bytes, passed_on, asked}
use Rattle.session_subscribers.proofs.session_hub.SessionHub.add.Goals as goal

pub returns-in_err-program-clause-err : goal.returns-in_err-program-clause-err
returns-in_err-program-clause-err g c =
    passed_on c.from_residual.result c.in_err-program.field-0.0 _ c.from_residual.ensures.1 (refl, refl, inl (c.in_err-program.ensures.err g.N.Naming.size c.args.share.now c.args.capacity c.args.named))

pub returns-then-not-takes_subscriber-clause-err : goal.returns-then-not-takes_subscriber-clause-err
returns-then-not-takes_subscriber-clause-err g c =
    let past : IsFalse (takes_subscriber c.args.left.now) = search rules in
    (refl, refl, inr (refl, safe_bytes c.args.rules c.in_ok-program.program c.args.bytes.now c.in_ok-program.ensures.ok, past, refl))

pub returns-in_err-first-clause-err : goal.returns-in_err-first-clause-err
returns-in_err-first-clause-err g c =
    let safe = safe_bytes c.args.rules c.in_ok-program.program c.args.bytes.now c.in_ok-program.ensures.ok in
    passed_on c.from_residual-in_err-first.result c.in_err-first.field-0.0 _ c.from_residual-in_err-first.ensures.1 (refl, refl, inl (c.in_err-first.ensures.err c.args.rules c.args.capacity c.args.bytes.now safe))

pub returns-then-is_err-clause-err : goal.returns-then-is_err-clause-err
returns-then-is_err-clause-err g c =
    (c.reserve.ensures.items, refl, inl (safe_bytes c.args.rules c.in_ok-program.program c.args.bytes.now c.in_ok-program.ensures.ok, inl c.in_ok-first.ensures.ok.1))

pub returns-in_err-id-clause-err : goal.returns-in_err-id-clause-err
returns-in_err-id-clause-err g c =
    let safe = safe_bytes c.args.rules c.in_ok-program.program c.args.bytes.now c.in_ok-program.ensures.ok in
    let same = ap (λ (t : Token Program). t.value) c.again.ensures ∙ c.in_ok-token.ensures.ok ∙ c.in_ok-program.ensures.ok.1 in
    passed_on c.from_residual-in_err-id.result c.in_err-id.field-0.0 _ c.from_residual-in_err-id.ensures.1
    (c.reserve.ensures.items, refl, inl (c.in_err-id.ensures.err c.args.share.now c.args.rules c.args.capacity c.args.bytes.now c.args.named c.in_ok-first.ensures.ok.0 c.in_ok-first.ensures.ok.1 safe same))

pub returns-clause-ok : goal.returns-clause-ok
returns-clause-ok g c =
    let size = g.N.Naming.size in
    let first = c.in_ok-first.first in
    let token = c.in_ok-token.token in
    let id = c.in_ok-id.id in
    let may : IsTrue (takes_subscriber c.args.left.now) = search rules in
    let asks : Asks size c.args.share.now c.id_at_hub.new.share c.again.result c.args.named first (Ok id) =
    asked size c.args.share.now c.first_version.new.share c.id_at_hub.new.share c.again.result c.in-Ok.sink c.args.named first (Ok id) c.in-Ok.ensures.0 c.in_ok-first.ensures.ok.0 c.in_ok-first.ensures.ok.1 c.in_ok-id.ensures.ok in
    let held : c.push_reserved.new.self.items ≡ c.args.held.now.items ++ record { id = id; reader = c.new.result } ∷ [] = search rules in (
      safe_bytes c.args.rules c.in_ok-program.program c.args.bytes.now c.in_ok-program.ensures.ok,
      c.in_ok-check_capacity.ensures,
      token,
      c.in_ok-token.ensures.ok ∙ c.in_ok-program.ensures.ok.1,
      first,
      subst (λ (t : Token Program). Asks size c.args.share.now c.id_at_hub.new.share t c.args.named first (Ok id)) c.again.ensures asks,
      held ∙ ap (λ (r : Reader). c.args.held.now.items ++ record { id = id; reader = r } ∷ []) c.new.ensures,
      may,
      c.spend_subscriber.ensures,
    )
