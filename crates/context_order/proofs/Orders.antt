-- A context accepts what another does, where its rules keep an order of what is known. What a join says may be more than
-- what one of its sides says, unless that side is settled: so where only one way comes, what is known has to be.
use Rattle.std.proofs.Common.{◌≡◌, ℕ, zero, suc, nat_eq, if◌then◌else◌, Bool, true, false, Option, Some, None, Result, Ok, Err, refl, subst}
use Rattle.std.specs.Prelude.{option_map, slice_get}
use Rattle.std.proofs.lemmas.Option.{slice_get_within}
use Rattle.span_context.specs.declared.profile.Profile.{Profile}
use Rattle.bpf_words.specs.declared.instruction.Insn.{Insn}
use Rattle.bpf_words.specs.Flow.{jump_of}
use Rattle.semantics.specs.Step.{Program}
use Rattle.abstract_state.specs.declared.refusal.Refusal.{Refusal}
use Rattle.tracked_state.specs.Rules.{TrackedWays, entry, joined}
use Rattle.tracked_state.specs.Tracked.{TrackedSituation}
use Rattle.verifier.proofs.Folding.{known_refuses, carried_refuses}
use Rattle.verifier.specs.Awaited.{Waits, Awaited, awaited, led_on, passed, stepped_over, awaited_at}
use Rattle.verifier.specs.Decides.{led, jump_target, either_way, trimmed, arrived, Refuses, IsAllowed}

abbrev pub Order : Type 1
Order = TrackedSituation → TrackedSituation → Type 0

abbrev pub Below : Order → Option TrackedSituation → Option TrackedSituation → Type 0
Below within None o = Unit {0}
Below within (Some a) None = ⊥
Below within (Some a) (Some x) = within a x

abbrev pub LedBelow : Order → Result TrackedWays Refusal → Result TrackedWays Refusal → Type 0
LedBelow within r (Err e) = Unit {0}
LedBelow within (Err e) (Ok v) = ⊥
LedBelow within (Ok w) (Ok v) = Below within w.taken v.taken × Below within w.untaken v.untaken

abbrev pub SettledIn : (TrackedSituation → Type 0) → Option TrackedSituation → Type 0
SettledIn settled None = Unit {0}
SettledIn settled (Some a) = settled a

-- what is asked of the rules
pub record Ordered (within : Order) (settled : TrackedSituation → Type 0) (one two : Profile) : Type 0 where
  entry : within (entry one) (entry two)
  led : (slot : ℕ) (insn : Insn) (a x : TrackedSituation) → within a x → LedBelow within (led one slot insn a) (led two slot insn x)
  join : (a b x y : TrackedSituation) → within a x → within b y → within (joined one a b) (joined two x y)
  left : (a x y : TrackedSituation) → settled a → within a x → within a (joined two x y)
  right : (b x y : TrackedSituation) → settled b → within b y → within b (joined two x y)
  trim : (a x : TrackedSituation) → within a x → within (trimmed a) (trimmed x)

-- and of what the first context knows: where ways join, and where jumps lead
pub record AreSettled (settled : TrackedSituation → Type 0) (one : Profile) (program : Program) : Type 0 where
  arrives : (slot : ℕ) → SettledIn settled (either_way one (awaited_at one program slot).falling ((awaited_at one program slot).waiting slot))
  waits : (slot to : ℕ) → SettledIn settled ((awaited_at one program slot).waiting to)

ways_below : (within : Order) (settled : TrackedSituation → Type 0) (one two : Profile) (a b x y : Option TrackedSituation) → Ordered within settled one two → SettledIn settled (either_way one a b) → Below within a x → Below within b y → Below within (either_way one a b) (either_way two x y)
ways_below within settled one two None None x y ordered all h j = tt
ways_below within settled one two None (Some b) None y ordered all h j = j
ways_below within settled one two None (Some b) (Some x) None ordered all h j = absurd j
ways_below within settled one two None (Some b) (Some x) (Some y) ordered all h j = ordered.right b x y all j
ways_below within settled one two (Some a) b None y ordered all h j = absurd h
ways_below within settled one two (Some a) None (Some x) None ordered all h j = h
ways_below within settled one two (Some a) None (Some x) (Some y) ordered all h j = ordered.left a x y all h
ways_below within settled one two (Some a) (Some b) (Some x) None ordered all h j = absurd j
ways_below within settled one two (Some a) (Some b) (Some x) (Some y) ordered all h j = ordered.join a b x y h j

trims_below : (within : Order) (settled : TrackedSituation → Type 0) (one two : Profile) (o p : Option TrackedSituation) → Ordered within settled one two → Below within o p → Below within (option_map trimmed o) (option_map trimmed p)
trims_below within settled one two None p ordered h = tt
trims_below within settled one two (Some a) None ordered h = absurd h
trims_below within settled one two (Some a) (Some x) ordered h = ordered.trim a x h

pub record AwaitedBelow (within : Order) (a x : Awaited) : Type 0 where
  falls : Below within a.falling x.falling
  waits : (to : ℕ) → Below within (a.waiting to) (x.waiting to)

jumped_below : (within : Order) (settled : TrackedSituation → Type 0) (one two : Profile) (b : Bool) (v w a x : Option TrackedSituation) → Ordered within settled one two → SettledIn settled (if b then either_way one v a else v) → Below within a x → Below within v w → Below within (if b then either_way one v a else v) (if b then either_way two w x else w)
jumped_below within settled one two true v w a x ordered all h waits = ways_below within settled one two v a w x ordered all waits h
jumped_below within settled one two false v w a x ordered all h waits = waits

grown : (within : Order) (settled : TrackedSituation → Type 0) (one two : Profile) (b : Bool) (v w t : Option TrackedSituation) → Ordered within settled one two → SettledIn settled v → Below within v w → Below within v (if b then either_way two w t else w)
grown within settled one two false v w t ordered all h = h
grown within settled one two true None w t ordered all h = tt
grown within settled one two true (Some a) None t ordered all h = absurd h
grown within settled one two true (Some a) (Some x) None ordered all h = h
grown within settled one two true (Some a) (Some x) (Some t) ordered all h = ordered.left a x t all h

led_below : (within : Order) (settled : TrackedSituation → Type 0) (one two : Profile) (slot : ℕ) (insn : Insn) (v w : Waits) (r q : Result TrackedWays Refusal) → Ordered within settled one two → ((to : ℕ) → SettledIn settled ((led_on one slot insn v r).waiting to)) → LedBelow within r q → ((e : Refusal) → q ≡ Err e → ⊥) → ((to : ℕ) → Below within (v to) (w to)) → AwaitedBelow within (led_on one slot insn v r) (led_on two slot insn w q)
led_below within settled one two slot insn v w r (Err e) ordered all h fine waits = absurd (fine e refl)
led_below within settled one two slot insn v w (Err e) (Ok q) ordered all h fine waits = absurd h
led_below within settled one two slot insn v w (Ok r) (Ok q) ordered all h fine waits = record {
  falls = h.1;
  waits = λ to. jumped_below within settled one two (nat_eq to (jump_target slot (jump_of insn))) (v to) (w to) r.taken q.taken ordered (all to) h.0 (waits to);
}

-- where only the second context's runs come, what waits there is no better known
led_grown : (within : Order) (settled : TrackedSituation → Type 0) (one two : Profile) (slot : ℕ) (insn : Insn) (v w : Waits) (q : Result TrackedWays Refusal) → Ordered within settled one two → ((to : ℕ) → SettledIn settled (v to)) → ((to : ℕ) → Below within (v to) (w to)) → AwaitedBelow within (awaited None v) (led_on two slot insn w q)
led_grown within settled one two slot insn v w (Err e) ordered all waits = record { falls = tt; waits = waits }
led_grown within settled one two slot insn v w (Ok q) ordered all waits = record {
  falls = tt;
  waits = λ to. grown within settled one two (nat_eq to (jump_target slot (jump_of insn))) (v to) (w to) q.taken ordered (all to) (waits to);
}

passed_below : (within : Order) (settled : TrackedSituation → Type 0) (one two : Profile) (slot : ℕ) (insn : Insn) (a x : Option TrackedSituation) (v w : Waits) → Ordered within settled one two → ((to : ℕ) → SettledIn settled ((passed one slot insn a v).waiting to)) → Below within a x → ((e : Refusal) → Refuses two slot insn x e → ⊥) → ((to : ℕ) → Below within (v to) (w to)) → AwaitedBelow within (passed one slot insn a v) (passed two slot insn x w)
unfolding passed
passed_below within settled one two slot insn None None v w ordered all h fine waits = record { falls = tt; waits = waits }
passed_below within settled one two slot insn None (Some x) v w ordered all h fine waits = led_grown within settled one two slot insn v w (led two slot insn x) ordered all waits
passed_below within settled one two slot insn (Some a) None v w ordered all h fine waits = absurd h
passed_below within settled one two slot insn (Some a) (Some x) v w ordered all h fine waits =
    led_below within settled one two slot insn v w (led one slot insn a) (led two slot insn x) ordered all (ordered.led slot insn a x h) fine waits

arrived_below : (within : Order) (settled : TrackedSituation → Type 0) (one two : Profile) (slot : ℕ) (a x : Awaited) → Ordered within settled one two → SettledIn settled (either_way one a.falling (a.waiting slot)) → AwaitedBelow within a x → Below within (arrived one a.falling (a.waiting slot)) (arrived two x.falling (x.waiting slot))
arrived_below within settled one two slot a x ordered all h =
    trims_below within settled one two (either_way one a.falling (a.waiting slot)) (either_way two x.falling (x.waiting slot)) ordered
    (ways_below within settled one two a.falling (a.waiting slot) x.falling (x.waiting slot) ordered all h.falls (h.waits slot))

over_below : (within : Order) (settled : TrackedSituation → Type 0) (one two : Profile) (slot : ℕ) (place : Option (Option Insn)) (a x : Awaited) → Ordered within settled one two → SettledIn settled (either_way one a.falling (a.waiting slot)) → ((to : ℕ) → SettledIn settled ((stepped_over one slot place a).waiting to)) → AwaitedBelow within a x → ((insn : Insn) (e : Refusal) → place ≡ Some (Some insn) → Refuses two slot insn (arrived two x.falling (x.waiting slot)) e → ⊥) → AwaitedBelow within (stepped_over one slot place a) (stepped_over two slot place x)
unfolding stepped_over
over_below within settled one two slot None a x ordered here all h fine = h
over_below within settled one two slot (Some None) a x ordered here all h fine = h
over_below within settled one two slot (Some (Some insn)) a x ordered here all h fine =
    passed_below within settled one two slot insn (arrived one a.falling (a.waiting slot)) (arrived two x.falling (x.waiting slot)) a.waiting x.waiting ordered all
    (arrived_below within settled one two slot a x ordered here h) (λ e. fine insn e refl) h.waits

walks_below : (within : Order) (settled : TrackedSituation → Type 0) (one two : Profile) (program : Program) (slot : ℕ) → Ordered within settled one two → AreSettled settled one program → IsAllowed two program → AwaitedBelow within (awaited_at one program slot) (awaited_at two program slot)
unfolding awaited_at
walks_below within settled one two program zero ordered all allowed = record { falls = ordered.entry; waits = λ to. tt }
walks_below within settled one two program (suc slot) ordered all allowed =
    over_below within settled one two slot (slice_get program slot) (awaited_at one program slot) (awaited_at two program slot) ordered (all.arrives slot) (all.waits (suc slot))
    (walks_below within settled one two program slot ordered all allowed)
    (λ insn e starts refused. allowed.below slot e (slice_get_within program slot (Some insn) starts) (record { insn = insn; starts = starts; refused = known_refuses two program slot insn e refused }))

err_too : (within : Order) (r q : Result TrackedWays Refusal) (e : Refusal) → r ≡ Err e → LedBelow within r q → (f : Refusal) × (q ≡ Err f)
err_too within r (Err f) e is h = (f, refl)
err_too within r (Ok v) e is h = let wrong : LedBelow within (Err e) (Ok v) = subst (λ (o : Result TrackedWays Refusal). LedBelow within o (Ok v)) is h in absurd wrong

refused_too : (within : Order) (settled : TrackedSituation → Type 0) (one two : Profile) (slot : ℕ) (insn : Insn) (a x : Option TrackedSituation) (e : Refusal) → Ordered within settled one two → Below within a x → Refuses one slot insn a e → (f : Refusal) × Refuses two slot insn x f
refused_too within settled one two slot insn None x e ordered h refused = absurd refused
refused_too within settled one two slot insn (Some a) None e ordered h refused = absurd h
refused_too within settled one two slot insn (Some a) (Some x) e ordered h refused =
    err_too within (led one slot insn a) (led two slot insn x) e refused (ordered.led slot insn a x h)

pub accepts_too : (within : Order) (settled : TrackedSituation → Type 0) (one two : Profile) (program : Program) → Ordered within settled one two → AreSettled settled one program → IsAllowed two program → IsAllowed one program
accepts_too within settled one two program ordered all allowed = record {
  structured = allowed.structured;
  below = λ slot fault less refused.
      let walks = walks_below within settled one two program slot ordered all allowed in
      let also =
      refused_too within settled one two slot refused.insn (arrived one (awaited_at one program slot).falling ((awaited_at one program slot).waiting slot)) (arrived two (awaited_at two program slot).falling ((awaited_at two program slot).waiting slot)) fault ordered
      (arrived_below within settled one two slot (awaited_at one program slot) (awaited_at two program slot) ordered (all.arrives slot) walks) (carried_refuses one program slot refused.insn fault refused.refused) in
      allowed.below slot also.0 less (record { insn = refused.insn; starts = refused.starts; refused = known_refuses two program slot refused.insn also.0 also.1 });
}
