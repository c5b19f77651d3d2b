use Rattle.std.proofs.Common.{length, sym, ◌∙◌}
use Rattle.location_table.specs.Stations.{stations_in}
use Rattle.forwarding.specs.Questions.{sender_distance}
use Rattle.forwarding.proofs.Carriers.{went-nearer}
use Rattle.forwarding.proofs.step.Forwarder.forward.Goals as goal

pub returns-in-Neighbour-clause-nearer : goal.returns-in-Neighbour-clause-nearer
returns-in-Neighbour-clause-nearer g c =
    let span = g.G.Ground.span c.args.self.now.ground.now in
    let course = c.args.carried.now.course in
    went-nearer (λ p. span p course.target) course.ours (sender_distance span course) (stations_in c.args.self.now.table.now)
    c.in-Neighbour.index c.in-Neighbour.ensures.sound c.unwrap-to.result (sym c.link_address.ensures.value ∙ c.unwrap-to.ensures)
    (g.L.Link.space c.args.link.now (length c.args.carried.now.packet.now)) c.put_out.result c.put_out.ensures.value
