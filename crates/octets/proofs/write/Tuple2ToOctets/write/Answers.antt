use Rattle.std.proofs.Common.{rules}
use Rattle.octets.proofs.Width.{put_both}
use Rattle.octets.proofs.write.Tuple2ToOctets.write.Goals as goal

pub returns-clause-after : goal.returns-clause-after
returns-clause-after g c =
    put_both g.A.ToOctets.WIDTH g.B.ToOctets.WIDTH c.args.at _ _ c.args.octets.now _ _ c.write.ensures.after (search rules) (g.met.A.ToOctets.full c.args.self.now.0) (g.met.B.ToOctets.full c.args.self.now.1) (search rules)
