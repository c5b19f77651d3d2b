use Rattle.packets.specs.Contents.{content}
use Rattle.roundtrip.proofs.Called.{front_read}
use Rattle.roundtrip.proofs.trips.write_readable.Goals as goal

pub returns-clause-again : goal.returns-clause-again
returns-clause-again c = front_read (content c.args.packet.now) c.write.result c.args.buffer.now c.write.new.buffer c.write.ensures.fits c.write.ensures.value c.write.ensures.after
