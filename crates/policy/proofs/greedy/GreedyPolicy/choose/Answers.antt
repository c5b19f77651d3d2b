use Rattle.std.proofs.Common.{◌≡◌, sym, subst, arith}
use Rattle.std.proofs.lemmas.Grind.{common_steps}
use Rattle.policy.specs.declared.choice.Choice.{Choice}
use Rattle.policy.specs.Choices.{greedy, Smallest}
use Rattle.policy.specs.Smallests.{smallest}
use Rattle.policy.proofs.greedy.GreedyPolicy.choose.Goals as goal

pub returns-clause-smallest : goal.returns-clause-smallest
returns-clause-smallest c =
    let e : c.loop-index.choice ≡ greedy c.args.ours c.args.neighbours.now = grind (arith, common_steps) in
    subst (λ (r : Choice). Smallest c.args.ours c.args.neighbours.now r) (sym e) (smallest c.args.ours c.args.neighbours.now)
