-- What is printed of each reason to refuse an input or a line: its number and name, and where the fault is.
use Rattle.std.specs.Prelude.{ℕ, ◌+◌, List, [], ◌++◌, codes}
use Rattle.std.specs.Fmt.{decimal}
use Rattle.bpf_words.specs.declared.refusal.WordError.{WordError}
use Rattle.bpf_words.specs.declared.refusal.WordError.TheVariants as words
use Rattle.verifier.specs.declared.refusal.VerifyError.TheVariants as verifying
use Rattle.filters.specs.declared.refusal.FilterError.{FilterError}
use Rattle.filters.specs.declared.refusal.FilterError.TheVariants.{Program, UnboundedLoop, SearchLimit}
use Rattle.assembler.specs.declared.fault.AsmError.{AsmError}
use Rattle.assembler.specs.declared.fault.AsmError.TheVariants as source
use Rattle.change_ops.specs.declared.refusal.ChangeError.{ChangeError}
use Rattle.change_ops.specs.declared.refusal.ChangeError.TheVariants as reading
use Rattle.change_history.specs.declared.refusal.SubmitError.{SubmitError}
use Rattle.change_history.specs.declared.refusal.SubmitError.TheVariants as submit
use Rattle.refusals.specs.declared.reason.Location.{Location}
use Rattle.refusals.specs.declared.reason.Location.TheVariants.{Whole, Slot, Line}
use Rattle.refusals.specs.declared.reason.Reason.{Reason}
use Rattle.refusals.specs.declared.reason.Reason.TheVariants as reason
use Rattle.refusals.specs.declared.reason.ChangeReason.{ChangeReason}
use Rattle.refusals.specs.Names.{slot_fault, structure_fault, state_fault, line_fault, refusal_name}

-- slots are counted from 0, lines from 1
abbrev pub location_text : Location → List ℕ
location_text Whole = []
location_text (Slot slot) = codes " slot " ++ decimal slot
location_text (Line line) = codes " line " ++ decimal line

abbrev pub word_title : WordError → List ℕ
word_title words.Empty = codes "1 Empty"
word_title words.TooLong = codes "2 TooLong"
word_title words.LengthNotEight = codes "3 LengthNotEight"
word_title (words.Slot slot fault) = slot_fault fault

abbrev pub word_location : WordError → Location
word_location words.Empty = Whole
word_location words.TooLong = Whole
word_location words.LengthNotEight = Whole
word_location (words.Slot slot fault) = Slot slot

abbrev pub verdict_title : FilterError → List ℕ
verdict_title (Program (verifying.Structure slot fault)) = structure_fault fault
verdict_title (Program (verifying.State slot fault)) = state_fault fault
verdict_title (Program verifying.OutOfMemory) = codes "27 OutOfMemory"
verdict_title (UnboundedLoop slot) = codes "74 UnboundedLoop"
verdict_title SearchLimit = codes "75 SearchLimit"

abbrev pub verdict_location : FilterError → Location
verdict_location (Program (verifying.Structure slot fault)) = Slot slot
verdict_location (Program (verifying.State slot fault)) = Slot slot
verdict_location (Program verifying.OutOfMemory) = Whole
verdict_location (UnboundedLoop slot) = Slot slot
verdict_location SearchLimit = Whole

abbrev pub source_title : AsmError → List ℕ
source_title (source.Line line fault) = line_fault fault
source_title source.OutOfMemory = codes "36 OutOfMemory"

abbrev pub source_location : AsmError → Location
source_location (source.Line line fault) = Line line
source_location source.OutOfMemory = Whole

-- why a change can't be read
abbrev pub unread_title : ChangeError → List ℕ
unread_title (reading.BadLine line) = codes "40 BadLine"
unread_title reading.Truncated = codes "41 Truncated"
unread_title (reading.Limit line) = codes "42 Limit"
unread_title (reading.CharRefused line) = codes "43 CharRefused"
unread_title (reading.WrongPeer line) = codes "44 WrongPeer"
unread_title reading.OutOfMemory = codes "45 OutOfMemory"

abbrev pub unread_location : ChangeError → Location
unread_location (reading.BadLine line) = Line line
unread_location reading.Truncated = Whole
unread_location (reading.Limit line) = Line line
unread_location (reading.CharRefused line) = Line line
unread_location (reading.WrongPeer line) = Line line
unread_location reading.OutOfMemory = Whole

-- why a change isn't accepted; its other lines stand behind the first one, from line 2 on
abbrev pub unaccepted_title : SubmitError → List ℕ
unaccepted_title submit.HistoryFull = codes "50 HistoryFull"
unaccepted_title (submit.Refused index refusal) = refusal_name refusal
unaccepted_title submit.OutOfMemory = codes "45 OutOfMemory"

abbrev pub unaccepted_location : SubmitError → Location
unaccepted_location submit.HistoryFull = Whole
unaccepted_location (submit.Refused index refusal) = Line (index + 2)
unaccepted_location submit.OutOfMemory = Whole

abbrev pub reason_title : Reason → List ℕ
reason_title (reason.Words error) = word_title error
reason_title (reason.Unverified error) = verdict_title error
reason_title (reason.Source error) = source_title error
reason_title (reason.Unread error) = unread_title error
reason_title (reason.Unaccepted error) = unaccepted_title error
reason_title reason.OutOfMemory = codes "45 OutOfMemory"
reason_title reason.SubscribersFull = codes "51 SubscribersFull"
reason_title reason.NoSubscriber = codes "52 NoSubscriber"
reason_title reason.BadCapacity = codes "54 BadCapacity"
reason_title reason.NoVersion = codes "55 NoVersion"
reason_title reason.BadCommand = codes "60 BadCommand"
reason_title reason.LineTooLong = codes "61 LineTooLong"
reason_title reason.TextRefused = codes "62 TextRefused"
reason_title reason.BadHex = codes "63 BadHex"
reason_title reason.StoreDamaged = codes "65 StoreDamaged"
reason_title reason.StoreFailed = codes "66 StoreFailed"
reason_title reason.StoreBusy = codes "67 StoreBusy"
reason_title reason.TooManySessions = codes "69 TooManySessions"

abbrev pub reason_location : Reason → Location
reason_location (reason.Words error) = word_location error
reason_location (reason.Unverified error) = verdict_location error
reason_location (reason.Source error) = source_location error
reason_location (reason.Unread error) = unread_location error
reason_location (reason.Unaccepted error) = unaccepted_location error
reason_location reason.OutOfMemory = Whole
reason_location reason.SubscribersFull = Whole
reason_location reason.NoSubscriber = Whole
reason_location reason.BadCapacity = Whole
reason_location reason.NoVersion = Whole
reason_location reason.BadCommand = Whole
reason_location reason.LineTooLong = Whole
reason_location reason.TextRefused = Whole
reason_location reason.BadHex = Whole
reason_location reason.StoreDamaged = Whole
reason_location reason.StoreFailed = Whole
reason_location reason.StoreBusy = Whole
reason_location reason.TooManySessions = Whole

abbrev pub reason_text : Reason → List ℕ
reason_text reason = reason_title reason ++ location_text (reason_location reason)

-- the same of a change in an input of many, by its number
abbrev pub change_reason_text : ChangeReason → List ℕ
change_reason_text change =
    reason_title change.reason ++ codes " change " ++ decimal change.number ++ location_text (reason_location change.reason)
