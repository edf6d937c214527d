use Rattle.stream_readers.proofs.Readings.{read_later, read_as_one, gives_the_stream}
use Rattle.stream_readers.proofs.reader.readings_give_the_stream.Goals as goal

pub returns-clause-later : goal.returns-clause-later
returns-clause-later c = read_later

pub returns-clause-one : goal.returns-clause-one
returns-clause-one c = read_as_one

pub returns-clause-stream : goal.returns-clause-stream
returns-clause-stream c = gives_the_stream
