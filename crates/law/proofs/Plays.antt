-- A run, played. Assumes nothing.
use Rattle.std.proofs.Common.{ℕ, ◌-◌, ◌*◌, ◌/◌, ◌≤◌, ltb, leb, List, [], ◌∷◌, Some, None, Option, refl, arith, lit≤}
use Rattle.std.proofs.lemmas.Bool.{cond_both, leb-true, ltb-false}
use Rattle.octets.specs.Wire.{octets_of, placed}
use Rattle.times.specs.Lifetimes.{lifetime_of}
use Rattle.ground.specs.Bounds.{along-most}
use Rattle.policy.specs.Choices.{Sound, contention, wait_for}
use Rattle.policy.specs.declared.choice.Choice.TheVariants as say
use Rattle.policy.specs.Smallests.{greedy_sound}
use Rattle.rules.specs.Packets.{area_of, carries, destination_of, header_of, packet_kind, number_of, octet_for, passed_on, target_of, vector_of}
use Rattle.law.specs.Example.{by_greedy, by_contention, the_start, the_calls, TheExample}
use Rattle.law.proofs.Laws.{lawful}
use Rattle.std.specs.List.{AllByRecursion}
use Rattle.law.specs.Plays.{Asked, Played, played, played_one, opened_with, EveryPlayIsARun}
use Rattle.law.specs.Runs.{Ran, opened, call}
use Rattle.law.specs.World.{Meant, Start}

-- what is played is a run
pub runs_on : (w : Start) (p : Played) (more : List Asked) → AllByRecursion (λ a. Meant a.around) more → Ran w p.history p.state → Ran w (played p more).history (played p more).state
runs_on w p [] m r = r
runs_on w p (a ∷ more) m r = runs_on w (played_one p a) more m.1 (call r (record { meant = m.0; answered = refl; leaves = refl; carried = refl }))

pub every_play : EveryPlayIsARun
every_play w calls m = runs_on w (opened_with w) calls m opened

contention_sound : (ours : ℕ) (sender : Option ℕ) (near : List ℕ) → Sound ours sender near (contention ours sender)
contention_sound ours None near = (lit≤ tt, lit≤ tt)
contention_sound ours (Some theirs) near =
    cond_both (leb theirs ours) say.NoProgress (say.Wait (wait_for (theirs - ours))) (Sound ours (Some theirs) near)
    (λ t. leb-true _ _ t)
    (λ f. cond_both (ltb 10000 (theirs - ours)) 1 (100 - 99 * (theirs - ours) / 10000) (λ w. (1 ≤ w) × (w ≤ 100)) (λ t. (lit≤ tt, lit≤ tt)) (λ g. let l = ltb-false _ _ g in (omega arith, omega arith)))

greedy_meant : Meant by_greedy
greedy_meant = record { bounded = along-most 1113 (lit≤ tt); sound = greedy_sound }

contention_meant : Meant by_contention
contention_meant = record { bounded = along-most 1113 (lit≤ tt); sound = contention_sound }

all_meant : AllByRecursion (λ a. Meant a.around) the_calls
all_meant = (greedy_meant, (contention_meant, (contention_meant, (greedy_meant, (greedy_meant, (greedy_meant, (greedy_meant, (greedy_meant, tt))))))))

the_run : Ran the_start (played (opened_with the_start) the_calls).history (played (opened_with the_start) the_calls).state
the_run = every_play the_start the_calls all_meant

pub example : TheExample
unfolding octets_of placed lifetime_of header_of packet_kind vector_of number_of destination_of area_of target_of carries passed_on octet_for
example = record { ran = the_run; lawful = lawful the_run; told = refl }
