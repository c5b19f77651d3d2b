use Rattle.std.proofs.Common.{◌+◌, ◌≤◌, length, rules}
use Rattle.packets.specs.Contents.{content}
use Rattle.writer.proofs.Spans.{packet_put}
use Rattle.writer.proofs.write.put_packet.Goals as goal

pub returns-clause-after : goal.returns-clause-after
returns-clause-after c =
    let room : 0 + c.args.count ≤ length c.args.octets.now = search rules in
    packet_put (content c.args.packet.now) c.kind-kind.result c.common-common.result c.payload-payload.result.now c.header_count.result c.args.count c.args.octets.now _ _ _
    c.kind-kind.ensures c.common-common.ensures c.payload-payload.ensures c.header_count.ensures c.requires.1 room
    c.put_common.ensures.after c.put_extended.ensures.after c.put_part.ensures.after
