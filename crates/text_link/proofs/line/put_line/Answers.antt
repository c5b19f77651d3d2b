use Rattle.std.proofs.Common.{◌≡◌, ℕ, ◌++◌, length, get_or, vec_items, ap, ◌∙◌, arith, w8, Fits, rules}
use Rattle.std.proofs.ByRecursion.{All-from_get_or}
use Rattle.std.proofs.lemmas.Grind.{common_steps}
use Rattle.link.specs.Frames.{frame}
use Rattle.text_link.specs.Texts.{line_of, decoded}
use Rattle.text_link.proofs.Digits.{Octets}
use Rattle.text_link.proofs.Lines.{decoded-push}
use Rattle.text_link.proofs.line.put_line.Goals as goal

pub returns-clause-frames : goal.returns-clause-frames
returns-clause-frames c =
    let was = vec_items c.args.text.now in
    let f = frame c.args.to c.args.packet.now in
    let six : length c.args.to.octets ≡ 6 = search rules in
    let small : (i : ℕ) → Fits w8 (get_or c.args.to.octets i 0) = search rules in
    let address : Octets c.args.to.octets = All-from_get_or _ _ 0 (λ i h. (small i).fits) in
    let packet : Octets c.args.packet.now = All-from_get_or _ _ 0 (λ i h. (c.type_inv.packet i).fits) in
    let line : vec_items c.push_reserved-2.new.self ≡ was ++ line_of f = grind (arith, common_steps) in
    λ exact. ap decoded line ∙ decoded-push f six address packet was exact
