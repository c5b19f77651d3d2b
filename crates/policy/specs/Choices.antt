-- What every policy keeps to, and what the two policies say. Assumes nothing.
use Rattle.std.specs.Prelude.{ℕ, ◌+◌, ◌-◌, ◌*◌, ◌/◌, ◌<◌, ◌≤◌, cond, List, [], ◌∷◌, length, Some, None, Option, nat_le, nat_lt, slice_index}
use Rattle.policy.specs.declared.choice.Choice.{Choice}
use Rattle.policy.specs.declared.choice.Choice.TheVariants.{Neighbour, Wait, NoProgress, Nobody}

-- no neighbour is strictly nearer than we are
abbrev pub NearestOurselves : ℕ → List ℕ → Type 0
NearestOurselves ours near = (k : ℕ) → k < length near → ours ≤ slice_index near k

-- the sender is known and not farther than we are
abbrev pub Ahead : ℕ → Option ℕ → Type 0
Ahead ours (Some theirs) = theirs ≤ ours
Ahead ours None = ⊥

-- the laws of every policy: a neighbour that it names is strictly nearer than we are, a wait is 1 to 100, no progress is
-- said only if the sender is ahead, and nobody only if no neighbour is nearer
abbrev pub Sound : ℕ → Option ℕ → List ℕ → Choice → Type 0
Sound ours sender near (Neighbour i) = (i < length near) × (slice_index near i < ours)
Sound ours sender near (Wait w) = (1 ≤ w) × (w ≤ 100)
Sound ours sender near NoProgress = Ahead ours sender
Sound ours sender near Nobody = NearestOurselves ours near

-- what greedy comes to from the best so far on, with its choice, when these distances are still to be looked at and the
-- first of them is the i-th
abbrev pub best_from : ℕ → ℕ → Choice → List ℕ → Choice
best_from i best c [] = c
best_from i best c (x ∷ xs) = cond (nat_lt x best) (best_from (i + 1) x (Neighbour i) xs) (best_from (i + 1) best c xs)

abbrev pub greedy : ℕ → List ℕ → Choice
greedy ours near = best_from 0 ours Nobody near

-- in words: the smallest distance, the first of equals, if it is below ours, and otherwise nobody
abbrev pub Smallest : ℕ → List ℕ → Choice → Type 0
Smallest ours near (Neighbour i) = (i < length near) × (slice_index near i < ours) × ((k : ℕ) → k < length near → slice_index near i ≤ slice_index near k) × ((k : ℕ) → k < i → slice_index near i < slice_index near k)
Smallest ours near (Wait w) = ⊥
Smallest ours near NoProgress = ⊥
Smallest ours near Nobody = NearestOurselves ours near

-- how long contention waits at a progress, in ms
abbrev pub wait_for : ℕ → ℕ
wait_for progress = cond (nat_lt 10000 progress) 1 (100 - 99 * progress / 10000)

abbrev pub contention : ℕ → Option ℕ → Choice
contention ours None = Wait 100
contention ours (Some theirs) = cond (nat_le theirs ours) NoProgress (Wait (wait_for (theirs - ours)))
