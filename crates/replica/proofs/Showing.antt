-- What a replica shows.
use Rattle.std.proofs.Common.{◌≡◌, List, Option, Some, None, subst, Contains}
use Rattle.change_ops.specs.declared.id.OpId.{OpId}
use Rattle.change_ops.specs.declared.size.Size.{Size}
use Rattle.char_sequence.specs.Order.{SameSet}
use Rattle.change_history.specs.declared.refusal.SubmitError.{SubmitError}
use Rattle.replica.specs.Messages.{Message, SameMessages}
use Rattle.replica.specs.Readiness.{operations_in}
use Rattle.replica.specs.Buffers.{IsSettled, IsStop, WaitsFor}
use Rattle.replica.specs.Replicas.{State, IsState, buffer_of, taken, ShowsTheReady}
use Rattle.replica.proofs.Convergence.{shows_the_ready, same_operations}
use Rattle.replica.proofs.Buffering.{all_apart, waits_alone}

waiting : (size : Size) (accepted held : List Message) (stopped : Option SubmitError) → stopped ≡ None → IsSettled size accepted held stopped → (m : Message) → Contains held m → (id : OpId) × WaitsFor accepted m id
waiting size accepted held stopped none is = let settled = subst (λ (s : Option SubmitError). IsSettled size accepted held s) none is in settled

pub waits_so : (state : State) → IsState state → state.stopped ≡ None → (m : Message) → Contains state.held m → (id : OpId) × WaitsFor state.accepted m id
waits_so state is none = waiting state.size state.accepted state.held state.stopped none is.settled

pub shows : (state : State) → IsState state → state.stopped ≡ None → ShowsTheReady state
shows state is none =
    shows_the_ready state is.buffered.causal (all_apart (buffer_of state) is.buffered) (waits_alone (buffer_of state) is.buffered)
    (waits_so state is none)

stops_for : (size : Size) (accepted held : List Message) (stopped : Option SubmitError) (error : SubmitError) → stopped ≡ Some error → IsSettled size accepted held stopped → IsStop size accepted held error
stops_for size accepted held stopped error so is = let settled = subst (λ (s : Option SubmitError). IsSettled size accepted held s) so is in settled

pub stops_so : (state : State) (error : SubmitError) → IsState state → state.stopped ≡ Some error → IsStop state.size state.accepted state.held error
stops_so state error is so = stops_for state.size state.accepted state.held state.stopped error so is.settled

pub converge : (a b : State) → IsState a → IsState b → a.stopped ≡ None → b.stopped ≡ None → SameMessages (taken a) (taken b) → SameSet (operations_in a.accepted) (operations_in b.accepted)
converge a b first second one two same = same_operations a b (shows a first one) (shows b second two) same
