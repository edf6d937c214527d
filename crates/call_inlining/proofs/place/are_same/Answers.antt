use Rattle.std.proofs.Common.{◌≡◌, nat_eq, ◌&&◌}
use Rattle.std.specs.Bool.{Decides}
use Rattle.std.proofs.lemmas.Bool.Decides.{Decides-eqb, Decides-and, Decides-like}
use Rattle.std.proofs.lemmas.Slice.Eq.{slice_eq-Decides}
use Rattle.inlined_calls.specs.declared.functions.Caller.{Caller}
use Rattle.call_inlining.proofs.place.are_same.Goals as goal

callers : (a b : Caller) → Decides (nat_eq a.function b.function && nat_eq a.slot b.slot) (a ≡ b)
callers a b =
    Decides-like _ (λ both. λ i. record { function = both.0 i; slot = both.1 i }) (λ same. ((λ i. (same i).function), (λ i. (same i).slot)))
    (Decides-and _ _ (Decides-eqb a.function b.function) (Decides-eqb a.slot b.slot))

pub returns : goal.returns
returns c = slice_eq-Decides callers c.args.a.now c.args.b.now c.eq.result c.eq.ensures
