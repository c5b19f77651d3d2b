use Rattle.std.proofs.Common.{◌≤◌, length, refl, ap, ◌∙◌, arith, rules}
use Rattle.octets.proofs.Width.{put_both}
use Rattle.octets.specs.Wire.{octets_of, put_at}
use Rattle.writer.proofs.headers.put_common.Goals as goal

pub returns-clause-after : goal.returns-clause-after
unfolding octets_of
returns-clause-after c =
    let o = c.args.octets.now in
    let room : 12 ≤ length o = search rules in
    let first = c.put_part.ensures.after ∙ ap (λ front. put_at (length front) 0 front o) c.front_octets-front.ensures in
    let second = put_both 8 2 0 _ _ o _ _ first c.write.ensures.after refl refl (omega arith) in
    put_both 10 2 0 _ _ o _ _ second c.put_part-2.ensures.after refl refl room
