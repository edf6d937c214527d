-- An outline's facts are known before each slot, so no instruction of a guarded program is refused.
use Rattle.std.proofs.Common.{◌≡◌, ℕ, ℤ, pos, negsuc, zero, suc, ◌+◌, ◌%◌, ◌/◌, ◌<◌, ⊎_elim, nat_eq, nat_lt, true, false, Option, Some, None, Result, Ok, Err, length, refl, sym, ◌∙◌, subst, arith}
use Rattle.std.specs.Prelude.{option_map, slice_get, ⊤}
use Rattle.std.specs.List.{Contains}
use Rattle.std.proofs.lemmas.Bool.{cases_eq}
use Rattle.std.proofs.lemmas.Option.{slice_get-get_or, slice_get_within}
use Rattle.std.proofs.lemmas.Bool.Decides.{nat_tests}
use Rattle.span_context.specs.declared.profile.Profile.{Profile}
use Rattle.bpf_words.specs.declared.instruction.Insn.{Insn}
use Rattle.bpf_words.specs.declared.instruction.Insn.TheVariants.{Compute, Negate, Extend, Convert, Jump, JumpLong, Branch, Load, LoadSigned, Store, LoadWide, Exit}
use Rattle.bpf_words.specs.Flow.{StartsAt, jump_of}
use Rattle.semantics.specs.Step.{Program}
use Rattle.abstract_state.specs.declared.refusal.Refusal.{Refusal}
use Rattle.abstract_state.specs.Addresses.{answer_of}
use Rattle.abstract_state.specs.Stacks.{Eight, mark, marks_of, whole_in, is_set}
use Rattle.abstract_state.specs.Situation.{Situation}
use Rattle.tracked_state.specs.Tracked.{TrackedSituation}
use Rattle.tracked_state.specs.Rules.{TrackedWays, entry, stepped, exit}
use Rattle.verifier.specs.Structure.{IsStructured}
use Rattle.verifier.specs.declared.refusal.StructureFault.TheVariants.{BackwardJump}
use Rattle.verifier.proofs.Folding.{known_is_carried}
use Rattle.verifier.specs.Awaited.{Waits, Awaited, with_jump, led_on, passed, stepped_over, awaited_at}
use Rattle.verifier.specs.Decides.{ways, led, jump_target, either_way, trimmed_situation, trimmed, arrived, known_before, Refuses, IsAllowed}
use Rattle.guarded_rules.specs.Facts.{Register, Slot, Value, Fact, Holds, Long, Stored}
use Rattle.guarded_rules.specs.Says.{Has, Entails}
use Rattle.guarded_rules.proofs.Situations.{joined_entails}
use Rattle.guarded_programs.specs.Gives.{Falls, Jumps}
use Rattle.guarded_programs.specs.Outlines.{Outline, IsFirst, context, stack, IsThere, IsOutline, IsGuarded}
use Rattle.guarded_programs.proofs.Known.{AllHold}
use Rattle.guarded_programs.proofs.Ways.{EntailsTracked, OnWay, gives_known}
use Rattle.guarded_programs.proofs.Fine.{IsFine, allowed_fine}

-- ---- at the start
first_entails : (profile : Profile) (f : Fact) → IsFirst f → Entails (entry profile).situation f
first_entails profile f context = refl
first_entails profile f stack = refl

-- ---- where ways join, and past the machine's registers and stack
ways_join : (profile : Profile) (f : Fact) (a b : Option TrackedSituation) → EntailsTracked a f → EntailsTracked b f → EntailsTracked (either_way profile a b) f
ways_join profile f None b h j = j
ways_join profile f (Some a) None h j = h
ways_join profile f (Some a) (Some b) h j = joined_entails profile f a.situation b.situation h j

register_trims : (v : Value) (r : ℕ) (s : Situation) → r < 11 → Has v (s.registers r) → Has v ((trimmed_situation s).registers r)
register_trims v r s few h = let yes : nat_lt r 11 ≡ true = grind (arith, nat_tests, few) in rw yes h

slot_trims : (s : Situation) (i : ℕ) → i < 64 → s.slots i ≡ (trimmed_situation s).slots i
slot_trims s i few = let yes : nat_lt i 64 ≡ true = grind (arith, nat_tests, few) in rw yes refl

eighth_few : (at : ℕ) → at < 512 → at / 8 < 64
eighth_few at few = omega (arith, few)

trims : (f : Fact) (s : Situation) → IsThere f → Entails s f → Entails (trimmed_situation s) f
unfolding is_set
trims (Holds (Register r) v) s few h = register_trims v r s few h
trims (Holds (Slot i) v) s few h = subst (λ (e : Eight). Has v (whole_in e)) (slot_trims s i few) h
trims (Long region n) s few h = h
trims (Stored at) s few h = subst (λ (e : Eight). mark (marks_of e) (at % 8) ≡ true) (slot_trims s (at / 8) (eighth_few at few)) h

trimmed_entails : (f : Fact) (o : Option TrackedSituation) → IsThere f → EntailsTracked o f → EntailsTracked (option_map trimmed o) f
trimmed_entails f None few h = tt
trimmed_entails f (Some t) few h = trims f t.situation few h

arrives : (profile : Profile) (f : Fact) (a b : Option TrackedSituation) → IsThere f → EntailsTracked a f → EntailsTracked b f → EntailsTracked (arrived profile a b) f
arrives profile f a b few h j = trimmed_entails f (either_way profile a b) few (ways_join profile f a b h j)

-- ---- what falls into a slot has the slot's facts, and what waits at each slot has that slot's
record Kept (outline : Outline) (slot : ℕ) (a : Awaited) : Type 0 where
  falls : (f : Fact) → Contains (outline slot) f → EntailsTracked a.falling f
  waits : (to : ℕ) (f : Fact) → Contains (outline to) f → EntailsTracked (a.waiting to) f

jump_kept : (profile : Profile) (target to : ℕ) (taken : Option TrackedSituation) (waiting : Waits) (f : Fact) → EntailsTracked (waiting to) f → (to ≡ target → EntailsTracked taken f) → EntailsTracked (with_jump profile target taken waiting to) f
jump_kept profile target to taken waiting f h gives =
    ⊎_elim
    (λ (is : to ≡ target). let yes : nat_eq to target ≡ true = grind (arith, nat_tests, is) in rw yes (ways_join profile f (waiting to) taken h (gives is)))
    (λ (apart : to ≡ target → ⊥). let differ : nat_eq to target ≡ false = grind (arith, nat_tests, apart) in rw differ h)
    (cases_eq to target)

-- what an instruction with no jump, or a jump to a slot, leads by its jump
abbrev JumpFacts : Outline → ℕ → Insn → Result TrackedWays Refusal → Type 0
JumpFacts outline slot insn r = (f : Fact) → Contains (outline (jump_target slot (jump_of insn))) f → OnWay Jumps f r

led_kept : (profile : Profile) (outline : Outline) (slot : ℕ) (insn : Insn) (waiting : Waits) (r : Result TrackedWays Refusal) → ((f : Fact) → Contains (outline (slot + 1)) f → OnWay Falls f r) → JumpFacts outline slot insn r → ((to : ℕ) (f : Fact) → Contains (outline to) f → EntailsTracked (waiting to) f) → Kept outline (slot + 1) (led_on profile slot insn waiting r)
led_kept profile outline slot insn waiting (Err fault) falls jumps waits = record { falls = λ f c. tt; waits = waits }
led_kept profile outline slot insn waiting (Ok w) falls jumps waits = record {
  falls = falls;
  waits = λ to f c.
      jump_kept profile (jump_target slot (jump_of insn)) to w.taken waiting f (waits to f c)
      (λ is. jumps f (subst (λ n. Contains (outline n) f) is c));
}

-- ---- an instruction with no jump leads nothing by one, and no jump leads back
abbrev NoJump : Result TrackedWays Refusal → Type 0
NoJump (Ok w) = w.taken ≡ None
NoJump (Err fault) = Unit {0}

none_taken : (f : Fact) (r : Result TrackedWays Refusal) → NoJump r → OnWay Jumps f r
none_taken f (Ok w) is = subst (λ o. EntailsTracked o f) (sym is) tt
none_taken f (Err fault) is = tt

slot_within : (program : Program) (slot : ℕ) (insn : Insn) → StartsAt program slot insn → slot < length program
slot_within program slot insn starts = slice_get_within program slot (Some insn) starts

by_jump : (profile : Profile) (program : Program) (outline : Outline) (slot : ℕ) (insn : Insn) (t : TrackedSituation) (jump : Option ℤ) → IsStructured program → IsOutline profile program outline → StartsAt program slot insn → AllHold (outline slot) t.situation → jump ≡ jump_of insn → (jump ≡ None → NoJump (led profile slot insn t)) → (f : Fact) → Contains (outline (jump_target slot jump)) f → OnWay Jumps f (led profile slot insn t)
by_jump profile program outline slot insn t None structured is starts holds same nothing f c = none_taken f (led profile slot insn t) (nothing refl)
by_jump profile program outline slot insn t (Some (pos n)) structured is starts holds same nothing f c =
    gives_known profile (outline slot) insn Jumps f slot t holds (is.jumps slot insn n f starts (sym same) c)
by_jump profile program outline slot insn t (Some (negsuc n)) structured is starts holds same nothing f c =
    absurd (structured slot insn (slot_within program slot insn starts) starts BackwardJump (negsuc n, sym same, (n, refl)))

stepped_no : (r : Result (Option TrackedSituation) Refusal) → NoJump (answer_of (ways None) r)
stepped_no (Ok o) = refl
stepped_no (Err fault) = tt

exit_no : (r : Result ⊤ Refusal) → NoJump (answer_of (λ done. ways None None) r)
exit_no (Ok done) = refl
exit_no (Err fault) = tt

no_jump : (profile : Profile) (slot : ℕ) (insn : Insn) (t : TrackedSituation) → jump_of insn ≡ None → NoJump (led profile slot insn t)
unfolding led
no_jump profile slot (Compute width op d operand) t is = stepped_no (stepped profile slot (Compute width op d operand) t)
no_jump profile slot (Negate width d) t is = stepped_no (stepped profile slot (Negate width d) t)
no_jump profile slot (Extend extension d source) t is = stepped_no (stepped profile slot (Extend extension d source) t)
no_jump profile slot (Convert conversion bits d) t is = stepped_no (stepped profile slot (Convert conversion bits d) t)
no_jump profile slot (Jump distance) t is = absurd (cc)
no_jump profile slot (JumpLong distance) t is = absurd (cc)
no_jump profile slot (Branch width comparison left right distance) t is = absurd (cc)
no_jump profile slot (Load size d base offset) t is = stepped_no (stepped profile slot (Load size d base offset) t)
no_jump profile slot (LoadSigned size d base offset) t is = stepped_no (stepped profile slot (LoadSigned size d base offset) t)
no_jump profile slot (Store size base offset value) t is = stepped_no (stepped profile slot (Store size base offset value) t)
no_jump profile slot (LoadWide d value) t is = stepped_no (stepped profile slot (LoadWide d value) t)
no_jump profile slot Exit t is = exit_no (exit t)

-- ---- over the slots
passed_kept : (profile : Profile) (program : Program) (outline : Outline) (slot : ℕ) (insn : Insn) (known : Option TrackedSituation) (waiting : Waits) → IsStructured program → IsOutline profile program outline → StartsAt program slot insn → ((f : Fact) → Contains (outline slot) f → EntailsTracked known f) → ((to : ℕ) (f : Fact) → Contains (outline to) f → EntailsTracked (waiting to) f) → Kept outline (slot + 1) (passed profile slot insn known waiting)
unfolding passed
passed_kept profile program outline slot insn None waiting structured is starts holds waits = record { falls = λ f c. tt; waits = waits }
passed_kept profile program outline slot insn (Some t) waiting structured is starts holds waits =
    led_kept profile outline slot insn waiting (led profile slot insn t)
    (λ f c. gives_known profile (outline slot) insn Falls f slot t holds (is.falls slot insn f starts c))
    (by_jump profile program outline slot insn t (jump_of insn) structured is starts holds refl (no_jump profile slot insn t)) waits

over_kept : (profile : Profile) (program : Program) (outline : Outline) (slot : ℕ) (o : Option (Option Insn)) (a : Awaited) → o ≡ slice_get program slot → (o ≡ None → ⊥) → IsStructured program → IsOutline profile program outline → Kept outline slot a → Kept outline (slot + 1) (stepped_over profile slot o a)
unfolding stepped_over
over_kept profile program outline slot None a same there structured is kept = absurd (there refl)
over_kept profile program outline slot (Some None) a same there structured is kept = record {
  falls = λ f c. kept.falls f (is.second slot f (sym same) c);
  waits = kept.waits;
}
over_kept profile program outline slot (Some (Some insn)) a same there structured is kept =
    passed_kept profile program outline slot insn (arrived profile a.falling (a.waiting slot)) a.waiting structured is (sym same)
    (λ f c. arrives profile f a.falling (a.waiting slot) (is.there slot f c) (kept.falls f c) (kept.waits slot f c)) kept.waits

-- each slot below is one of the program's
abbrev AreThere : Program → ℕ → Type 0
AreThere program slot = (j : ℕ) → j < slot → slice_get program j ≡ None → ⊥

kept_at : (profile : Profile) (program : Program) (outline : Outline) (slot : ℕ) → IsStructured program → IsOutline profile program outline → AreThere program slot → Kept outline slot (awaited_at profile program slot)
unfolding awaited_at
kept_at profile program outline zero structured is there = record {
  falls = λ f c. first_entails profile f (is.first f c);
  waits = λ to f c. tt;
}
kept_at profile program outline (suc slot) structured is there =
    subst (λ n. Kept outline n (stepped_over profile slot (slice_get program slot) (awaited_at profile program slot))) (omega arith)
    (over_kept profile program outline slot (slice_get program slot) (awaited_at profile program slot) refl (there slot (omega arith)) structured is
    (kept_at profile program outline slot structured is (λ j less. there j (omega (arith, less)))))

-- ---- no instruction is refused
fine_never : (r : Result TrackedWays Refusal) (fault : Refusal) → IsFine r → r ≡ Err fault → ⊥
fine_never r fault fine is = subst (λ (q : Result TrackedWays Refusal). IsFine q) is fine

never : (profile : Profile) (slot : ℕ) (insn : Insn) (fault : Refusal) (known : Option TrackedSituation) → ((t : TrackedSituation) → known ≡ Some t → IsFine (led profile slot insn t)) → Refuses profile slot insn known fault → ⊥
never profile slot insn fault None fine h = h
never profile slot insn fault (Some t) fine h = fine_never (led profile slot insn t) fault (fine t refl) h

abbrev IsSlot : Option (Option Insn) → Type 0
IsSlot None = ⊥
IsSlot (Some place) = Unit {0}

each_there : (program : Program) (slot : ℕ) (insn : Insn) → StartsAt program slot insn → AreThere program slot
each_there program slot insn starts j less none =
    let within : slot < length program = slot_within program slot insn starts in
    absurd (subst (λ (o : Option (Option Insn)). IsSlot o) (sym (slice_get-get_or program j (Some insn) (omega (arith, within, less))) ∙ none) tt)

known_holds : (profile : Profile) (program : Program) (outline : Outline) (slot : ℕ) (insn : Insn) → IsStructured program → IsOutline profile program outline → StartsAt program slot insn → (f : Fact) → Contains (outline slot) f → EntailsTracked (known_before profile program slot) f
known_holds profile program outline slot insn structured is starts f c =
    let a = awaited_at profile program slot in
    let kept : Kept outline slot a = kept_at profile program outline slot structured is (each_there program slot insn starts) in
    subst (λ (o : Option TrackedSituation). EntailsTracked o f) (sym (known_is_carried profile program slot))
    (arrives profile f a.falling (a.waiting slot) (is.there slot f c) (kept.falls f c) (kept.waits slot f c))

pub guarded_allowed : (profile : Profile) (program : Program) → IsGuarded profile program → IsAllowed profile program
guarded_allowed profile program guarded = record {
  structured = guarded.structured;
  below = λ slot fault few refused.
      never profile slot refused.insn fault (known_before profile program slot)
      (λ t known. allowed_fine profile (guarded.outline slot) refused.insn slot t
      (λ f c. subst (λ (o : Option TrackedSituation). EntailsTracked o f) known (known_holds profile program guarded.outline slot refused.insn guarded.structured guarded.is refused.starts f c))
      (guarded.is.allows slot refused.insn refused.starts))
      refused.refused;
}
