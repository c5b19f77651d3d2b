-- (b), (c) Where a packet that waits comes from. Assumes nothing.
use Rattle.std.proofs.Common.{◌≡◌, ℕ, ◌+◌, Bool, true, false, cond, ◌||◌, eqb, List, [], ◌∷◌, length, sym, refl, ap, ◌∙◌, arith}
use Rattle.std.specs.List.{AllByRecursion}
use Rattle.std.proofs.ByRecursion.{All-weaker, All-append}
use Rattle.std.proofs.lemmas.Bool.{or_right}
use Rattle.law.specs.Fates.{takes, takes_at, takes_by, takings}
use Rattle.law.specs.Laws.{EachCall, OneLower, OneLowerBy, Origin}
use Rattle.law.specs.Words.{packet}
use Rattle.law.specs.World.{Call, Event, History, LinkAddress, Outcome, Request, Start, accepted, place, receive, refused, send, serve}
use Rattle.rules.specs.Packets.{hops_of}
use Rattle.rules.specs.Verdicts.{number}

receives_same : (o p : List ℕ) (i j : LinkAddress) → receive o i ≡ receive p j → o ≡ p
receives_same o p i j e = cc

sends_not : (q : Request) (payload p : List ℕ) (j : LinkAddress) → send q payload ≡ receive p j → ⊥
sends_not q payload p j e = let z : ◌≡◌ {A = ℕ} 0 1 = cc in omega arith

module _ (w : Start) (e : Event) (h : History) where
  taken_here : (v : ℕ) → ((o : List ℕ) (sender : LinkAddress) → e.call ≡ receive o sender → (eqb v 3 || eqb v 4) ≡ true → hops_of (packet w e h) + 1 ≡ hops_of o)
      → AllByRecursion (Origin w (e ∷ h)) (takes_at w e h v)
  taken_here v low = go (eqb v 3 || eqb v 4) refl
    where
      go : (b : Bool) → (eqb v 3 || eqb v 4) ≡ b
          → AllByRecursion (Origin w (e ∷ h)) (cond b (record { serial = length h; what = record { octets = packet w e h; since = e.time; timed = eqb v 3 } } ∷ []) [])
      go true q = (record { later = []; event = e; past = h; whole = refl; serial = refl; octets = refl; since = refl; lower = λ o sender c. low o sender c q }, tt)
      go false q = tt

  origin_here : (c : Call) (x : Outcome) → e.call ≡ c → OneLowerBy w e h c x → AllByRecursion (Origin w (e ∷ h)) (takes_by w e h c x)
  origin_here (place p) x q l = tt
  origin_here (receive o sender) (accepted a) q l =
      taken_here (number a.verdict) (λ p i c t. l (or_right _ _ t) ∙ ap hops_of (receives_same o p sender i (sym q ∙ c)))
  origin_here (receive o sender) (refused f) q l = tt
  origin_here (send k payload) (accepted a) q l = taken_here (number a.verdict) (λ p i c t. absurd (sends_not k payload p i (sym q ∙ c)))
  origin_here (send k payload) (refused f) q l = tt
  origin_here serve x q l = tt

pub origins : (w : Start) (h : History) → EachCall (OneLower w) h → AllByRecursion (Origin w h) (takings w h)
origins w [] l = tt
origins w (e ∷ h) l =
    All-append (Origin w (e ∷ h)) (takings w h) (takes w e h)
    (All-weaker (Origin w h) (Origin w (e ∷ h))
    (λ k o. record { later = e ∷ o.later; event = o.event; past = o.past; whole = ap (λ x. e ∷ x) o.whole; serial = o.serial; octets = o.octets; since = o.since; lower = o.lower })
    (takings w h) (origins w h l.1))
    (origin_here w e h e.call e.outcome refl l.0)
