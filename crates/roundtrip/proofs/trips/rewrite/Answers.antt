use Rattle.std.proofs.Common.{refl}
use Rattle.packets.specs.Contents.{content}
use Rattle.roundtrip.proofs.Called.{always_written, rewritten}
use Rattle.roundtrip.proofs.trips.rewrite.Goals as goal

pub unwrap-requires : goal.unwrap-requires
unwrap-requires c = rw (always_written c.args.octets.now (content c.in_ok-packet.packet) c.write.result (λ i. (c.type_inv.octets i).fits) c.in_ok-packet.ensures c.write.ensures.value) refl

pub returns : goal.returns
returns c = rewritten c.args.octets.now c.args.buffer.now c.write.new.buffer (content c.in_ok-packet.packet) c.unwrap.result (λ i. (c.type_inv.octets i).fits) c.in_ok-packet.ensures (rw c.unwrap.ensures at c.write.ensures.value) (rw c.unwrap.ensures at c.write.ensures.after)
