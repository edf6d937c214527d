use Rattle.std.proofs.Common.{◌≡◌, ◌++◌, ◌+◌, ◌∙◌, ap, sym, min, length, string_bytes, append_assoc, ⊎_elim, arith}
use Rattle.std.proofs.lemmas.Bool.{cases_lt}
use Rattle.std.proofs.lemmas.List.{append-nil}
use Rattle.std.specs.List.{slice_get}
use Rattle.bpf_words.specs.Words.{program_of}
use Rattle.program_listing.specs.Listing.{instructions_text, line_at}
use Rattle.program_listing.proofs.Texts.{none_before, one_more}
use Rattle.program_listing.proofs.instructions.push_instructions.Goals as goal

pub loop-slot-init : goal.loop-slot-init
loop-slot-init c =
    record {
      text = sym (append-nil (string_bytes c.args.text.now))
          ∙ ap (λ l. string_bytes c.args.text.now ++ l) (sym (none_before (program_of c.args.words.now) c.args.first c.args.first (omega arith)));
      most = omega arith;
    }

pub loop-slot-preserved : goal.loop-slot-preserved
loop-slot-preserved c =
    let program = program_of c.args.words.now in
    let line = line_at c.loop-slot.slot (slice_get program c.loop-slot.slot) in
    record {
      text = c.in_ok-push_at.ensures
          ∙ ap (λ l. l ++ line) c.loop-slot.invariant.text
          ∙ append_assoc (string_bytes c.args.text.now) (instructions_text program c.args.first c.loop-slot.slot) line
          ∙ ap (λ l. string_bytes c.args.text.now ++ l) (sym (one_more program c.args.first c.loop-slot.slot c.loop-slot.auto.slot));
      most = omega (arith, c.loop-slot-test.true);
    }

pub returns : goal.returns
returns c =
    let program = program_of c.args.words.now in
    let end = min (length program) (c.args.last + 1) in
    let is : c.min-slot-end.result ≡ end =
    omega (arith, c.min-slot-end.ensures, c.saturating_add.ensures, c.len.ensures.value, c.len.ensures.few) in
    ⊎_elim
    (λ below. c.loop-slot.invariant.text ∙ ap (λ l. string_bytes c.args.text.now ++ l)
    (none_before program c.args.first c.loop-slot.slot (omega (arith, below, c.loop-slot.invariant.most))
    ∙ sym (none_before program c.args.first end (omega (arith, below, is)))))
    (λ within. c.loop-slot.invariant.text ∙ ap (λ n. string_bytes c.args.text.now ++ instructions_text program c.args.first n)
    (omega (arith, within, is, c.loop-slot.auto.slot-end within, c.loop-slot-test.false)))
    (cases_lt c.min-slot-end.result c.args.first)
