use Rattle.std.proofs.Common.{refl}
use Rattle.roundtrip.proofs.Read.{read_written}
use Rattle.roundtrip.proofs.Written.{written_read}
use Rattle.roundtrip.proofs.trips_agree.Goals as goal

pub returns : goal.returns
returns c = record { answer = refl; read = read_written; written = written_read }
