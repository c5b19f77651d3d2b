-- At most 16 packets wait. Assumes nothing.
use Rattle.std.proofs.Common.{◌≡◌, ℕ, ◌+◌, ◌≤◌, Bool, true, false, cond, ◌||◌, eqb, ltb, List, ◌∷◌, ◌++◌, length, None, Option, refl, ap, arith}
use Rattle.std.proofs.lemmas.List.{length-append}
use Rattle.std.proofs.lemmas.Bool.{ltb-true}
use Rattle.forwarding.specs.Verdicts.{judged, spaced}
use Rattle.forwarding.specs.declared.verdict.Verdict.{Verdict as Carriage}
use Rattle.forwarding.specs.declared.verdict.Verdict.TheVariants as carriage
use Rattle.location_table.specs.Neighbours.{link_addresses}
use Rattle.rules.specs.Deeds.{Deed, asked_for, deed_for, dispatched, full, held, if_place, kept_waiting, rests, spent}
use Rattle.rules.specs.Known.{find}
use Rattle.rules.specs.Lines.{Pick, lasts, leaving, live_line, none, one, pick}
use Rattle.rules.specs.Packets.{carries, destination_address, hops_of, packet_kind, passed_on, target_of}
use Rattle.rules.specs.Rules.{Way, cancels, copy_of, ends_here, everywhere, is_multi, leaves, only, receive_deed, receives, sends, served, way_out, within, writes}
use Rattle.rules.specs.Tables.{live_table, noted, with_link}
use Rattle.rules.specs.declared.verdict.Verdict.TheVariants as verdict
use Rattle.law.specs.World.{Hold, LinkAddress, LongPositionVector, Station, Waiter, State, Around, Request}
use Rattle.law.proofs.Entries.{kept_short}
use Rattle.law.proofs.Picks.{Picked, picked}

-- a deed that has a place for what it keeps
abbrev Fits : List Waiter → ℕ → List ℕ → Deed → Type 0
Fits line t p d = length line + length (kept_waiting d t p) ≤ 16

module _ (line : List Waiter) (few : length line ≤ 16) (t : ℕ) (p : List ℕ) where
  place-fits : (w : Hold) → Fits line t p (if_place line w)
  place-fits w = go (ltb (length line) 16) refl
    where
      go : (k : Bool) → ltb (length line) 16 ≡ k → Fits line t p (cond k (held w) full)
      go true e = let l = ltb-true _ _ e in omega arith
      go false e = omega arith

  deed-fits : (v : Carriage) → Fits line t p (deed_for line v)
  deed-fits carriage.Broadcast = omega arith
  deed-fits (carriage.Unicast to) = omega arith
  deed-fits (carriage.Wait ms) = place-fits (Rattle.law.specs.World.for-ms ms)
  deed-fits carriage.Hold = place-fits Rattle.law.specs.World.for-neighbour
  deed-fits carriage.NoProgress = omega arith
  deed-fits carriage.NoSpace = omega arith

  dispatched-fits : (r : Around) (own : LongPositionVector) (table : List Station) (sender : Option Station) (k : Bool) → Fits line t p (dispatched r own table line sender k p)
  dispatched-fits r own table sender true = deed-fits (spaced (r.room (length p)) carriage.Broadcast)
  dispatched-fits r own table sender false = deed-fits (judged (asked_for r own table sender (target_of p)) (carries p) (link_addresses table) (r.room (length p)))

  receive-fits : (r : Around) (s : State) (table : List Station) (sender : LinkAddress) (o : List ℕ) → Fits line t p (receive_deed r s table line sender o p)
  receive-fits r s table sender o = go (ends_here r s o) (eqb (hops_of o) 1)
    where
      go : (j k : Bool) → Fits line t p (cond j rests (cond k spent (dispatched r s.own table line (with_link sender table) (is_multi (packet_kind o) || within r s o) p)))
      go true k = omega arith
      go false true = omega arith
      go false false = dispatched-fits r s.own table (with_link sender table) (is_multi (packet_kind o) || within r s o)

module _ (s : State) (t : ℕ) (few : length s.line ≤ 16) where
  pub live-few : length (live_line t s) ≤ 16
  live-few = let k = kept_short (lasts t) s.line in omega arith

  joined-few : (d : Deed) (p : List ℕ) → Fits (live_line t s) t p d → length (live_line t s ++ kept_waiting d t p) ≤ 16
  joined-few d p f = let k = length-append (live_line t s) (kept_waiting d t p) in omega arith

  parted-few : (before : List Waiter) (v : Waiter) (after : List Waiter) → live_line t s ≡ before ++ (v ∷ after) → length (before ++ after) ≤ 16
  parted-few before v after e =
      let a = length-append before (v ∷ after) in
      let b = length-append before after in
      omega (arith, live-few, ap length e, a, b)

  cancels-few : (o : List ℕ) (k : Pick (Unit {0})) → Picked (copy_of o) (live_line t s) k → length (cancels s t k).state.line ≤ 16
  cancels-few o none p = live-few
  cancels-few o (one before v after x) p = parted-few before v after p.whole

  pub receives-few : (r : Around) (o : List ℕ) (sender : LinkAddress) (k : Bool) → length (receives r s t o sender k).state.line ≤ 16
  receives-few r o sender true = cancels-few o (pick (copy_of o) (live_line t s)) (picked (copy_of o) (live_line t s))
  receives-few r o sender false =
      let table : List Station = noted t o sender (live_table t s) in
      let p : List ℕ = passed_on (find (destination_address o) table) o in
      joined-few (receive_deed r s table (live_line t s) sender o p) p (receive-fits (live_line t s) live-few t p r s table sender o)

  pub sends-few : (r : Around) (q : Request) (payload : List ℕ) → length (sends r s t q payload).state.line ≤ 16
  sends-few r q payload =
      joined-few (dispatched r s.own (live_table t s) (live_line t s) None (everywhere r s q.body) (writes s t q payload)) (writes s t q payload)
      (dispatched-fits (live_line t s) live-few t (writes s t q payload) r s.own (live_table t s) None (everywhere r s q.body))

  pub served-few : (r : Around) (k : Pick Way) → Picked (way_out r s.own (live_table t s) t) (live_line t s) k → length (served r s t k).state.line ≤ 16
  served-few r none p = live-few
  served-few r (one before v after x) p = go (r.room (length (leaving t v)))
    where
      go : (c : Bool) → length (cond c (leaves s t before v after x) (only s t verdict.NoSpace (live_line t s))).state.line ≤ 16
      go true = parted-few before v after p.whole
      go false = live-few
