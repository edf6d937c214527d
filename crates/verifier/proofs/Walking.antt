-- One turn of the walk over the slots.
use Rattle.std.proofs.Common.{◌≡◌, ◌≢◌, ℕ, ◌+◌, ◌<◌, ◌≤◌, ◌⊎◌, inl, inr, ⊎_elim, true, length, get_or, Option, Some, None, Ok, Err, refl, sym, ap, ◌∙◌, subst, arith}
use Rattle.std.specs.Prelude.{pos, negsuc}
use Rattle.std.specs.List.{slice_get}
use Rattle.std.proofs.lemmas.Bool.{cases_lt, false≢true}
use Rattle.std.proofs.lemmas.Option.{slice_get_within, slice_get-get_or, same_Some}
use Rattle.span_context.specs.declared.profile.Profile.{Profile}
use Rattle.bpf_words.specs.declared.instruction.Insn.{Insn}
use Rattle.bpf_words.specs.declared.instruction.Insn.TheVariants.{Compute, Negate, Extend, Convert, Jump, JumpLong, Branch, Load, LoadSigned, Store, LoadWide, Exit}
use Rattle.bpf_words.specs.Flow.{StartsAt, IsPaired, jump_of, slots_of, falls_through}
use Rattle.semantics.specs.State.{State, start}
use Rattle.semantics.specs.Step.{Program, Moved, On, Returns}
use Rattle.semantics.specs.Safe.{SafeIn}
use Rattle.tracked_state.specs.declared.state.TrackedState.{TrackedState}
use Rattle.abstract_state.specs.Lent.{Lengths}
use Rattle.abstract_state.specs.State.{Span, lengths_of, does}
use Rattle.tracked_state.specs.Tracked.{ContainsTracked, WithinTracked}
use Rattle.verifier.specs.declared.refusal.StructureFault.TheVariants.{BackwardJump, JumpOut, JumpIntoWide, FallOff}
use Rattle.verifier.specs.Structure.{IsStructured}
use Rattle.verifier.specs.Waiting.{Waiting, waiting_at}
use Rattle.verifier.specs.Walk.{ComesTo, Between, IsAwaited, Ends, Follows, Advances, Keeps, JumpsWithin}
use Rattle.verifier.proofs.Runs.{contains_at, ends_here, goes_on}

-- ---- where instructions stand
same_insn : (program : Program) (slot : ℕ) (one other : Insn) → StartsAt program slot one → StartsAt program slot other → one ≡ other
same_insn program slot one other e f = same_Some one other (same_Some (Some one) (Some other) (sym e ∙ f))

entry_insn : (program : Program) (slot : ℕ) (entry : Option Insn) → slice_get program slot ≡ Some entry → (slice_get program slot ≡ Some None → ⊥) → (insn : Insn) × StartsAt program slot insn
entry_insn program slot None is first = absurd (first is)
entry_insn program slot (Some insn) is first = (insn, is)

-- a slot of the program that is no second slot has an instruction
pub starts_at : (program : Program) (slot : ℕ) → slot < length program → (slice_get program slot ≡ Some None → ⊥) → (insn : Insn) × StartsAt program slot insn
starts_at program slot within first =
    entry_insn program slot (get_or program slot None) (slice_get-get_or program slot None within) first

-- ---- forward jumps
pub jumps_within : (program : Program) (slot : ℕ) (insn : Insn) → IsStructured program → StartsAt program slot insn → JumpsWithin (length program) slot insn
jumps_within program slot insn structured starts (negsuc n) e =
    absurd (structured slot insn (slice_get_within program slot (Some insn) starts) starts BackwardJump (negsuc n, e, (n, refl)))
jumps_within program slot insn structured starts (pos n) e =
    ⊎_elim
    (λ (within : slot + 1 + n < length program). (n, refl, within))
    (λ (out : length program ≤ slot + 1 + n).
    absurd (structured slot insn (slice_get_within program slot (Some insn) starts) starts JumpOut (pos n, e, (n, refl, out))))
    (cases_lt (slot + 1 + n) (length program))

-- an instruction stands where a jump leads
jump_starts : (program : Program) (slot n : ℕ) (insn : Insn) → IsStructured program → StartsAt program slot insn → jump_of insn ≡ Some (pos n) → (target : Insn) × StartsAt program (slot + 1 + n) target
jump_starts program slot n insn structured starts e =
    let to = jumps_within program slot insn structured starts (pos n) e in
    let same : n ≡ to.0 = let one = to.1 in cc in
    starts_at program (slot + 1 + n) (subst (λ k. slot + 1 + k < length program) (sym same) to.2)
    (λ second. structured slot insn (slice_get_within program slot (Some insn) starts) starts JumpIntoWide (pos n, e, (n, refl, second)))

-- ---- the next instruction
one_or_two : (insn : Insn) → (slots_of insn ≡ 1) ⊎ (slots_of insn ≡ 2)
one_or_two (Compute width operation destination operand) = inl refl
one_or_two (Negate width destination) = inl refl
one_or_two (Extend extension destination source) = inl refl
one_or_two (Convert conversion bits destination) = inl refl
one_or_two (Jump distance) = inl refl
one_or_two (JumpLong distance) = inl refl
one_or_two (Branch width comparison left right distance) = inl refl
one_or_two (Load size destination base offset) = inl refl
one_or_two (LoadSigned size destination base offset) = inl refl
one_or_two (Store size base offset value) = inl refl
one_or_two (LoadWide destination value) = inr refl
one_or_two Exit = inl refl

falls_inside : (program : Program) (slot : ℕ) (insn : Insn) → IsStructured program → StartsAt program slot insn → falls_through insn ≡ true → slot + slots_of insn < length program
falls_inside program slot insn structured starts falls =
    ⊎_elim
    (λ (within : slot + slots_of insn < length program). within)
    (λ (out : length program ≤ slot + slots_of insn).
    absurd (structured slot insn (slice_get_within program slot (Some insn) starts) starts FallOff ((λ e. false≢true (ap falls_through (sym e) ∙ falls)), out)))
    (cases_lt (slot + slots_of insn) (length program))

pub record Falls (program : Program) (slot to : ℕ) : Type 0 where
  pub next : Insn
  pub starts : StartsAt program to next
  pub between : Between program (slot + 1) to

pub fall_starts : (program : Program) (slot to : ℕ) (insn : Insn) → IsPaired program → IsStructured program → StartsAt program slot insn → falls_through insn ≡ true → to ≡ slot + slots_of insn → Falls program slot to
fall_starts program slot to insn paired structured starts falls is =
    let inside : to < length program = subst (λ k. k < length program) (sym is) (falls_inside program slot insn structured starts falls) in
    ⊎_elim
    (λ (one : slots_of insn ≡ 1).
    let at : to ≡ slot + 1 = is ∙ ap (λ k. slot + k) one in
    let next = starts_at program to inside
    (λ second.
    let wide = paired.wide_before slot (subst (λ k. slice_get program k ≡ Some None) at second) in
    let same : slots_of wide.0 ≡ slots_of insn = ap slots_of (same_insn program slot wide.0 insn wide.1 starts) in
    let two : slots_of wide.0 ≡ 2 = wide.2 in
    omega arith) in
    let none : Between program (slot + 1) to = λ k low high. absurd (omega arith) in
    record { next = next.0; starts = next.1; between = none })
    (λ (two : slots_of insn ≡ 2).
    let at : to ≡ slot + 1 + 1 = is ∙ ap (λ k. slot + k) two ∙ (omega arith) in
    let second = paired.after_wide slot (insn, starts, two) in
    let next = starts_at program to inside
    (λ third.
    let wide = paired.wide_before (slot + 1) (subst (λ k. slice_get program k ≡ Some None) at third) in
    let both : Some None ≡ Some (Some wide.0) = sym second ∙ wide.1 in
    cc) in
    let between : Between program (slot + 1) to = λ k low high. let here : slot + 1 ≡ k = omega arith in subst (λ k. slice_get program k ≡ Some None) here second in
    record { next = next.0; starts = next.1; between = between })
    (one_or_two insn)

-- ---- what is known once all edges into a slot are joined
abbrev pub Settled : Profile → Program → ℕ → Option TrackedState → Waiting → Type 0
Settled profile program slot falling waiting =
    (span : Span) → span.profile ≡ profile
    → Ends program span
    ⊎ ((s : State) × ComesTo program span s
    × (((s.slot ≡ slot) × WithinTracked falling (lengths_of span) s)
    ⊎ ((slot < s.slot) × WithinTracked (waiting_at waiting s.slot) (lengths_of span) s)))

pub arrived : (profile : Profile) (program : Program) (slot : ℕ) (insn : Insn) (falling joined : Option TrackedState) (old new : Waiting) → StartsAt program slot insn → ((lengths : Lengths) (s : State) → WithinTracked falling lengths s → WithinTracked joined lengths s) → ((lengths : Lengths) (s : State) → WithinTracked (waiting_at old slot) lengths s → WithinTracked joined lengths s) → ((other : ℕ) → other ≢ slot → waiting_at new other ≡ waiting_at old other) → Follows profile program slot falling old → Settled profile program slot joined new
arrived profile program slot insn falling joined old new starts falls arrives others follows span which =
    ⊎_elim
    (λ (ended : Ends program span). inl ended)
    (λ (come : (s : State) × ComesTo program span s × IsAwaited program slot falling old (lengths_of span) s).
    let s = come.0 in
    ⊎_elim
    (λ (later : slot < s.slot).
    ⊎_elim
    (λ (fell : Between program slot s.slot × WithinTracked falling (lengths_of span) s).
    let none = fell.0 slot (omega arith) later in
    let both : Some (Some insn) ≡ Some None = sym starts ∙ none in
    absurd (cc))
    (λ (waits : WithinTracked (waiting_at old s.slot) (lengths_of span) s).
    let stays = others s.slot (λ e. (omega arith)) in
    inr (s, come.1, inr (later, subst (λ o. WithinTracked o (lengths_of span) s) (sym stays) waits)))
    come.2.1)
    (λ (here : s.slot ≤ slot).
    let least = come.2.0 in
    let at : s.slot ≡ slot = omega arith in
    ⊎_elim
    (λ (fell : Between program slot s.slot × WithinTracked falling (lengths_of span) s). inr (s, come.1, inl (at, falls (lengths_of span) s fell.1)))
    (λ (waits : WithinTracked (waiting_at old s.slot) (lengths_of span) s).
    inr (s, come.1, inl (at, arrives (lengths_of span) s (subst (λ k. WithinTracked (waiting_at old k) (lengths_of span) s) at waits))))
    come.2.1)
    (cases_lt slot s.slot))
    (follows span which)

-- ---- an instruction is passed
moved : (program : Program) (span : Span) (slot : ℕ) (insn : Insn) (s : State) (falling : Option TrackedState) (waiting : Waiting) (m : Moved) → IsPaired program → IsStructured program → StartsAt program slot insn → ComesTo program span s → s.slot ≡ slot → does span s insn ≡ m → Advances (lengths_of span) slot insn falling waiting m → Ends program span ⊎ ((s : State) × ComesTo program span s × IsAwaited program (slot + 1) falling waiting (lengths_of span) s)
moved program span slot insn s falling waiting (Ok (Returns value)) paired structured starts comes at e advances =
    inl (ends_here program span s insn value comes (subst (λ k. StartsAt program k insn) (sym at) starts) e)
moved program span slot insn s falling waiting (Ok (On next distance)) paired structured starts comes at e advances =
    let here : StartsAt program s.slot insn = subst (λ k. StartsAt program k insn) (sym at) starts in
    ⊎_elim
    (λ (fell : (n : ℕ) × (distance ≡ pos n) × (n + 1 ≡ slots_of insn) × (falls_through insn ≡ true) × WithinTracked falling (lengths_of span) next).
    let n = fell.0 in
    let count : n + 1 ≡ slots_of insn = fell.2 in
    let f = fall_starts program slot (slot + slots_of insn) insn paired structured starts fell.3 refl in
    let does_so : does span s insn ≡ Ok (On next (pos n)) = e ∙ ap (λ d. Ok (On next d)) fell.1 in
    inr (
      record next { slot = slot + slots_of insn },
      goes_on program span s next insn f.next (slot + slots_of insn) n comes here does_so (omega arith) f.starts,
      (omega arith, inl (f.between, contains_at falling (lengths_of span) next (slot + slots_of insn) fell.4)),
    ))
    (λ (jumped : (n : ℕ) × (distance ≡ pos n) × (jump_of insn ≡ Some (pos n)) × WithinTracked (waiting_at waiting (slot + 1 + n)) (lengths_of span) next).
    let n = jumped.0 in
    let t = jump_starts program slot n insn structured starts jumped.2 in
    let does_so : does span s insn ≡ Ok (On next (pos n)) = e ∙ ap (λ d. Ok (On next d)) jumped.1 in
    inr (
      record next { slot = slot + 1 + n },
      goes_on program span s next insn t.0 (slot + 1 + n) n comes here does_so (omega arith) t.1,
      (omega arith, inr (contains_at (waiting_at waiting (slot + 1 + n)) (lengths_of span) next (slot + 1 + n) jumped.3)),
    ))
    advances
moved program span slot insn s falling waiting (Err kind) paired structured starts comes at e advances = absurd advances

pub passed : (profile : Profile) (program : Program) (slot : ℕ) (insn : Insn) (a : TrackedState) (falling : Option TrackedState) (old new : Waiting) → IsPaired program → IsStructured program → StartsAt program slot insn → Keeps old new → ((span : Span) (s : State) → span.profile ≡ profile → ContainsTracked a (lengths_of span) s → Advances (lengths_of span) slot insn falling new (does span s insn)) → Settled profile program slot (Some a) old → Follows profile program (slot + 1) falling new
passed profile program slot insn a falling old new paired structured starts keeps sound settled span which =
    ⊎_elim
    (λ (ended : Ends program span). inl ended)
    (λ (come : (s : State) × ComesTo program span s × (((s.slot ≡ slot) × WithinTracked (Some a) (lengths_of span) s) ⊎ ((slot < s.slot) × WithinTracked (waiting_at old s.slot) (lengths_of span) s))).
    let s = come.0 in
    ⊎_elim
    (λ (here : (s.slot ≡ slot) × WithinTracked (Some a) (lengths_of span) s).
    let contains : ContainsTracked a (lengths_of span) s = let (x, is, c) = here.1 in subst (λ b. ContainsTracked b (lengths_of span) s) (same_Some x a (sym is)) c in
    moved program span slot insn s falling new (does span s insn) paired structured starts come.1 here.0 refl (sound span s which contains))
    (λ (later : (slot < s.slot) × WithinTracked (waiting_at old s.slot) (lengths_of span) s).
    let after_it = later.0 in
    inr (s, come.1, (omega arith, inr (keeps s.slot (lengths_of span) s later.1))))
    come.2)
    (settled span which)

-- nothing comes to a dead slot
pub skipped : (profile : Profile) (program : Program) (slot : ℕ) (falling : Option TrackedState) (waiting : Waiting) → Settled profile program slot None waiting → Follows profile program (slot + 1) falling waiting
skipped profile program slot falling waiting settled span which =
    ⊎_elim
    (λ (ended : Ends program span). inl ended)
    (λ (come : (s : State) × ComesTo program span s × (((s.slot ≡ slot) × WithinTracked None (lengths_of span) s) ⊎ ((slot < s.slot) × WithinTracked (waiting_at waiting s.slot) (lengths_of span) s))).
    let s = come.0 in
    ⊎_elim
    (λ (here : (s.slot ≡ slot) × WithinTracked None (lengths_of span) s). absurd (let is = here.1.1 in cc))
    (λ (later : (slot < s.slot) × WithinTracked (waiting_at waiting s.slot) (lengths_of span) s).
    let after_it = later.0 in
    inr (s, come.1, (omega arith, inr later.1)))
    come.2)
    (settled span which)

-- ---- a slot that is no instruction
pub stepped_over : (profile : Profile) (program : Program) (slot : ℕ) (falling : Option TrackedState) (waiting : Waiting) → slice_get program slot ≡ Some None → Follows profile program slot falling waiting → Follows profile program (slot + 1) falling waiting
stepped_over profile program slot falling waiting second follows span which =
    ⊎_elim
    (λ (ended : Ends program span). inl ended)
    (λ (come : (s : State) × ComesTo program span s × IsAwaited program slot falling waiting (lengths_of span) s).
    let s = come.0 in
    let c = come.1 in
    ⊎_elim
    (λ (later : slot < s.slot).
    inr (
      s,
      c,
      (
        (omega arith),
        ⊎_elim
            (λ (fell : Between program slot s.slot × WithinTracked falling (lengths_of span) s). let between : Between program (slot + 1) s.slot = λ k low high. fell.0 k (omega arith) high in inl (between, fell.1))
            (λ (waits : WithinTracked (waiting_at waiting s.slot) (lengths_of span) s). inr waits)
            come.2.1,
      ),
    ))
    (λ (here : s.slot ≤ slot).
    let least = come.2.0 in
    let at : s.slot ≡ slot = omega arith in
    let there : slice_get program slot ≡ Some (Some c.insn) = subst (λ k. StartsAt program k c.insn) at c.starts in
    let both : Some None ≡ Some (Some c.insn) = sym second ∙ there in
    absurd (cc))
    (cases_lt slot s.slot))
    (follows span which)

-- ---- the walk's begin and end
pub begins : (profile : Profile) (program : Program) (entry : TrackedState) (waiting : Waiting) → 0 < length program → IsPaired program → ((span : Span) → ContainsTracked entry (lengths_of span) start) → Follows profile program 0 (Some entry) waiting
begins profile program entry waiting some paired contains span which =
    let first = starts_at program 0 some paired.begins in
    inr (
      start,
      record { steps = length program; same = refl; enough = omega arith; insn = first.0; starts = first.1 },
      (omega arith, inl ((λ k low high. absurd (omega arith)), (entry, refl, contains span))),
    )

pub ends : (profile : Profile) (program : Program) (falling : Option TrackedState) (waiting : Waiting) → Follows profile program (length program) falling waiting → SafeIn profile program
ends profile program falling waiting follows bytes whole =
    ⊎_elim
    (λ (ended : Ends program (record { profile = profile; bytes = bytes; whole = whole })). ended)
    (λ (come : (s : State) × ComesTo program (record { profile = profile; bytes = bytes; whole = whole }) s × IsAwaited program (length program) falling waiting (lengths_of (record { profile = profile; bytes = bytes; whole = whole })) s).
    let s = come.0 in
    let within = slice_get_within program s.slot (Some come.1.insn) come.1.starts in
    let past = come.2.0 in
    absurd (omega arith))
    (follows (record { profile = profile; bytes = bytes; whole = whole }) refl)
