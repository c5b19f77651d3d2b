-- A run, call by call, with what each call tells. Assumes nothing.
use Rattle.std.specs.Prelude.{◌≡◌, ℕ, true, List, [], ◌∷◌, pos, Some, None, Option}
use Rattle.ground.specs.Spans.{along}
use Rattle.policy.specs.Choices.{greedy, contention}
use Rattle.law.specs.Laws.{Lawful}
use Rattle.law.specs.Plays.{Asked, Telling, played, opened_with, tellings}
use Rattle.law.specs.Runs.{Ran}
use Rattle.law.specs.World.{LinkAddress, Around, receive, serve, Start}

-- the street ground at the equator's scale, a policy, and a link that always has space
abbrev pub by_greedy : Around
by_greedy = record { distance = along 1113; choose = λ ours sender near. greedy ours near; room = λ n. true }

abbrev pub by_contention : Around
by_contention = record { distance = along 1113; choose = λ ours sender near. contention ours sender; room = λ n. true }

-- the link addresses of the stations A (address 10), B (11) and D, of which no packet comes
abbrev pub link_a : LinkAddress
link_a = record { octets = 0 ∷ 0 ∷ 0 ∷ 0 ∷ 0 ∷ 10 ∷ [] }

abbrev pub link_b : LinkAddress
link_b = record { octets = 0 ∷ 0 ∷ 0 ∷ 0 ∷ 0 ∷ 11 ∷ [] }

abbrev pub link_d : LinkAddress
link_d = record { octets = 0 ∷ 0 ∷ 0 ∷ 0 ∷ 0 ∷ 13 ∷ [] }

-- a multi-hop of A with number 41, hop limit 3 and three octets of payload, from latitude -60,000
abbrev pub hello : List ℕ
hello = 17 ∷ 0 ∷ 241 ∷ 3 ∷ 32 ∷ 81 ∷ 0 ∷ 0 ∷ 0 ∷ 3 ∷ 10 ∷ 0 ∷ 0 ∷ 41 ∷ 0 ∷ 0 ∷ 0 ∷ 0 ∷ 0 ∷ 0 ∷ 0 ∷ 0 ∷ 0 ∷ 10 ∷ 255 ∷ 255 ∷ 255 ∷ 250 ∷ 255 ∷ 255 ∷ 21 ∷ 160 ∷ 0 ∷ 0 ∷ 0 ∷ 0 ∷ 0 ∷ 0 ∷ 0 ∷ 0 ∷ 192 ∷ 255 ∷ 238 ∷ []

-- a notice (broadcast) of A with number 42 and hop limit 9 for a circle of 100 m round latitude 300,000, from latitude -50,000
abbrev pub notice : List ℕ
notice = 17 ∷ 0 ∷ 241 ∷ 9 ∷ 32 ∷ 64 ∷ 0 ∷ 0 ∷ 0 ∷ 1 ∷ 10 ∷ 0 ∷ 0 ∷ 42 ∷ 0 ∷ 0 ∷ 0 ∷ 0 ∷ 0 ∷ 0 ∷ 0 ∷ 0 ∷ 0 ∷ 10 ∷ 0 ∷ 0 ∷ 0 ∷ 94 ∷ 255 ∷ 255 ∷ 60 ∷ 176 ∷ 0 ∷ 0 ∷ 0 ∷ 0 ∷ 0 ∷ 0 ∷ 0 ∷ 0 ∷ 0 ∷ 4 ∷ 147 ∷ 224 ∷ 0 ∷ 0 ∷ 0 ∷ 0 ∷ 0 ∷ 100 ∷ 0 ∷ 0 ∷ 0 ∷ 0 ∷ 0 ∷ 0 ∷ 42 ∷ []

-- the same with hop limit 8, as somebody else passes it on
abbrev pub notice_passed_on : List ℕ
notice_passed_on = 17 ∷ 0 ∷ 241 ∷ 8 ∷ 32 ∷ 64 ∷ 0 ∷ 0 ∷ 0 ∷ 1 ∷ 10 ∷ 0 ∷ 0 ∷ 42 ∷ 0 ∷ 0 ∷ 0 ∷ 0 ∷ 0 ∷ 0 ∷ 0 ∷ 0 ∷ 0 ∷ 10 ∷ 0 ∷ 0 ∷ 0 ∷ 94 ∷ 255 ∷ 255 ∷ 60 ∷ 176 ∷ 0 ∷ 0 ∷ 0 ∷ 0 ∷ 0 ∷ 0 ∷ 0 ∷ 0 ∷ 0 ∷ 4 ∷ 147 ∷ 224 ∷ 0 ∷ 0 ∷ 0 ∷ 0 ∷ 0 ∷ 100 ∷ 0 ∷ 0 ∷ 0 ∷ 0 ∷ 0 ∷ 0 ∷ 42 ∷ []

-- a notice of A with number 43, a lifetime of 4,000 ms and store-carry-forward
abbrev pub held_notice : List ℕ
held_notice = 17 ∷ 0 ∷ 17 ∷ 9 ∷ 32 ∷ 64 ∷ 128 ∷ 0 ∷ 0 ∷ 1 ∷ 10 ∷ 0 ∷ 0 ∷ 43 ∷ 0 ∷ 0 ∷ 0 ∷ 0 ∷ 0 ∷ 0 ∷ 0 ∷ 0 ∷ 0 ∷ 10 ∷ 0 ∷ 0 ∷ 0 ∷ 194 ∷ 255 ∷ 255 ∷ 60 ∷ 176 ∷ 0 ∷ 0 ∷ 0 ∷ 0 ∷ 0 ∷ 0 ∷ 0 ∷ 0 ∷ 0 ∷ 4 ∷ 147 ∷ 224 ∷ 0 ∷ 0 ∷ 0 ∷ 0 ∷ 0 ∷ 100 ∷ 0 ∷ 0 ∷ 0 ∷ 0 ∷ 0 ∷ 0 ∷ 42 ∷ []

-- a beacon of B, from latitude 100,000
abbrev pub beacon : List ℕ
beacon = 17 ∷ 0 ∷ 80 ∷ 1 ∷ 0 ∷ 16 ∷ 0 ∷ 0 ∷ 0 ∷ 0 ∷ 1 ∷ 0 ∷ 0 ∷ 0 ∷ 0 ∷ 0 ∷ 0 ∷ 0 ∷ 0 ∷ 11 ∷ 0 ∷ 0 ∷ 0 ∷ 100 ∷ 0 ∷ 1 ∷ 134 ∷ 160 ∷ 0 ∷ 0 ∷ 0 ∷ 0 ∷ 0 ∷ 0 ∷ 0 ∷ 0 ∷ []

-- we are at latitude 0, and on the air since 10,000
abbrev pub the_start : Start
the_start = record {
  address = record { value = 1 };
  time = 10000;
  placing = record { position = record { latitude = pos 0; longitude = pos 0 }; speed = pos 0; heading = 0; accurate = true };
}

abbrev pub the_calls : List Asked
the_calls =
    record { time = 10100; call = receive hello link_a; around = by_greedy }
    ∷ record { time = 10200; call = receive notice link_a; around = by_contention }
    ∷ record { time = 10230; call = receive notice_passed_on link_d; around = by_contention }
    ∷ record { time = 10300; call = receive held_notice link_a; around = by_greedy }
    ∷ record { time = 10900; call = receive beacon link_b; around = by_greedy }
    ∷ record { time = 11450; call = serve; around = by_greedy }
    ∷ record { time = 30300; call = serve; around = by_greedy }
    ∷ record { time = 30301; call = receive hello link_a; around = by_greedy }
    ∷ []

abbrev pub tells : ℕ → Option (ℕ × ℕ) → ℕ → ℕ → Option Telling
tells v d stations waiting = Some (record { verdict = v; delivered = d; stations = stations; packets = 0; waiting = waiting })

-- what the calls tell, the newest first: delivered and broadcast; taken to wait; cancelled; held; a beacon; left to B; nothing
-- to serve, and A is still live; A fell silent, and its old number is delivered again
pub record TheExample : Type 0 where
  pub ran : Ran the_start (played (opened_with the_start) the_calls).history (played (opened_with the_start) the_calls).state
  pub lawful : Lawful the_start (played (opened_with the_start) the_calls).history (played (opened_with the_start) the_calls).state
  pub told : tellings (played (opened_with the_start) the_calls).history
      ≡ tells 1 (Some (40, 3)) 1 0 ∷ tells 0 None 0 0 ∷ tells 2 None 0 0 ∷ tells 0 None 0 1 ∷ tells 4 None 0 1 ∷ tells 10 None 0 0 ∷ tells 3 None 0 1 ∷ tells 1 (Some (40, 3)) 0 0 ∷ []
